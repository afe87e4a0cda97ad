-- How a hexadecimal text is read digit by digit. Assumes nothing.
use Rattle.std.proofs.Common.{◌≡◌, ℕ, ◌+◌, ◌*◌, ◌^◌, ◌≤◌, ◌<◌, Bool, true, false, cond, List, length, get_or, drop, Option, Some, None, refl, ap, ◌∙◌, add-one, arith}
use native.Mathlib.Nat.{pow-le-pow_right, pow-suc, zero-lt-suc, lt_of_lt_of_le}
use Rattle.std.proofs.lemmas.List.{at_drop_more}
use Rattle.std.proofs.lemmas.Bool.Decides.{nat_tests}
use Rattle.vectors.specs.Hexadecimal.{digit_in, read_from}

-- what is made of a digit, and none of another byte
made : (t : Bool) (k d : ℕ) (f : ℕ → Option ℕ) → Some d ≡ cond t (Some k) None → cond t (f k) None ≡ f d
made true k d f e = let same : k ≡ d = cc in ap f same
made false k d f e = cc

none_made : (t : Bool) (k : ℕ) (f : ℕ → Option ℕ) → None ≡ cond t (Some k) None → cond t (f k) None ≡ None
none_made true k f e = cc
none_made false k f e = refl

-- reading goes on past a digit d at i, and ends there at any other byte
pub read_digit : (n i d : ℕ) (text : List ℕ) → i < length text → Some d ≡ digit_in (get_or text i 0) → read_from n (drop i text) ≡ read_from (n * 16 + d) (drop (i + 1) text)
unfolding read_from digit_in
read_digit n i d text h e = at_drop_more (read_from n) text i 0 h ∙ made _ _ d (λ k. read_from (n * 16 + k) (drop (i + 1) text)) e

pub read_other : (n i : ℕ) (text : List ℕ) → i < length text → None ≡ digit_in (get_or text i 0) → read_from n (drop i text) ≡ None
unfolding read_from digit_in
read_other n i text h e = at_drop_more (read_from n) text i 0 h ∙ none_made _ _ (λ k. read_from (n * 16 + k) (drop (i + 1) text)) e

pub digit_below : (b d : ℕ) → Some d ≡ digit_in b → d < 16
unfolding digit_in
digit_below b d e = grind (arith, nat_tests)

-- a digit more after a number of i digits
pub next_below : (n i d : ℕ) → n < 16 ^ i → d < 16 → n * 16 + d < 16 ^ (i + 1)
next_below n i d h s =
    let p : 16 ^ (i + 1) ≡ 16 ^ i * 16 = ap (λ (j : ℕ). 16 ^ j) (add-one i) ∙ pow-suc 16 i in
    omega arith

-- after fewer than 16 digits it fits a word
pub next_fits : (n i d : ℕ) → n < 16 ^ i → i < 16 → d < 16 → n * 16 + d < 2 ^ 64
next_fits n i d h l s = lt_of_lt_of_le (next_below n i d h s) (let f : i + 1 ≤ 16 = omega arith in pow-le-pow_right (zero-lt-suc 15) f)

-- a number of up to 16 digits fits a word
pub fits_word : (n i : ℕ) → n < 16 ^ i → i ≤ 16 → n < 18446744073709551616
fits_word n i h l = lt_of_lt_of_le h (pow-le-pow_right (zero-lt-suc 15) l)
