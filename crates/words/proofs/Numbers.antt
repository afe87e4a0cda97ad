-- A number of m + n bytes is made of one of m and one of n. Assumes nothing.
use Prim.Native.Nat.{ℕ, suc, ◌+◌, ◌*◌, ◌/◌, ◌%◌, ◌^◌, ◌≤◌}
use mathlib.Core.Path.{◌≡◌, refl, sym, ap, ◌∙◌}
use mathlib.Core.List.{List, [], ◌∷◌, ◌++◌}
use native.Mathlib.Nat.{add_assoc, pow-suc, add-mul, mul_assoc, mul_comm, mul_left_comm}
use native.Mathlib.Numerals.{add-one}
use native.Mathlib.Omega.{arith}
use lib.ListN.{length, get_or, take, drop, length-drop}
use lib.Seq.{drop-cons, take-add, drop-drop, length-take-le}
use Rattle.std.specs.Int.{w64, from_be_bytes, to_be_bytes}
use Rattle.words.specs.Bytes.{number_after, number_at, word_bytes}

pub after_append : (a : ℕ) (xs ys : List ℕ) → number_after a (xs ++ ys) ≡ number_after (number_after a xs) ys
after_append a [] ys = refl
after_append a (x ∷ xs) ys = after_append (a * 256 + x) xs ys

after_zero : (a : ℕ) (ys : List ℕ) → number_after a ys ≡ a * 256 ^ length ys + number_after 0 ys
after_zero a [] = omega arith
after_zero a (y ∷ ys) =
    let p = 256 ^ length ys in
    let e : number_after a (y ∷ ys) ≡ (a * 256 + y) * p + number_after 0 ys = after_zero (a * 256 + y) ys in
    let f : number_after 0 (y ∷ ys) ≡ (0 * 256 + y) * p + number_after 0 ys = after_zero (0 * 256 + y) ys in
    let g : a * 256 ^ length (y ∷ ys) ≡ a * 256 * p = ap (λ (n : ℕ). a * n) (pow-suc 256 (length ys)) ∙ simp (mul_assoc, mul_comm, mul_left_comm) in
    let h : (a * 256 + y) * p ≡ a * 256 * p + y * p = add-mul (a * 256) y p in
    omega arith

pub join : (m n : ℕ) (s : List ℕ) (at : ℕ) → at + m + n ≤ length s → number_at m s at * 256 ^ n + number_at n s (at + m) ≡ number_at (m + n) s at
unfolding number_at
join m n s at h =
    let xs = take m (drop at s) in
    let ys = take n (drop (at + m) s) in
    let l : length ys ≡ n = length-take-le n (drop (at + m) s) (omega (arith, length-drop (at + m) s)) in
    ap (λ (k : ℕ). number_after 0 xs * 256 ^ k + number_after 0 ys) (sym l)
    ∙ sym (after_zero (number_after 0 xs) ys)
    ∙ sym (after_append 0 xs ys)
    ∙ ap (λ (t : List ℕ). number_after 0 (xs ++ take n t)) (sym (drop-drop m at s))
    ∙ ap (number_after 0) (sym (take-add m n (drop at s)))

pub pair : (s : List ℕ) (at : ℕ) → at + 2 ≤ length s → get_or s at 0 * 256 + get_or s (at + 1) 0 ≡ number_at 2 s at
unfolding number_at
pair s at h =
    let e : drop at s ≡ get_or s at 0 ∷ get_or s (at + 1) 0 ∷ drop (suc (at + 1)) s =
    drop-cons s at 0 (omega arith) ∙ ap (λ (l : List ℕ). get_or s at 0 ∷ l) (ap (λ (n : ℕ). drop n s) (sym (add-one at)) ∙ drop-cons s (at + 1) 0 (omega arith)) in
    rw e (omega arith)

pub four : (s : List ℕ) (at : ℕ) → at + 4 ≤ length s
    → get_or s at 0 * 16777216 + get_or s (at + 1) 0 * 65536 + get_or s (at + 2) 0 * 256 + get_or s (at + 3) 0 ≡ number_at 4 s at
four s at h =
    let high = pair s at (omega arith) in
    let low : get_or s (at + 2) 0 * 256 + get_or s (at + 3) 0 ≡ number_at 2 s (at + 2) = simp add_assoc at (pair s (at + 2) (omega arith)) in
    let both = join 2 2 s at (omega arith) in
    omega (arith, high, low, both)

pub eight : (s : List ℕ) (at : ℕ) → at + 8 ≤ length s
    → get_or s at 0 * 72057594037927936 + get_or s (at + 1) 0 * 281474976710656 + get_or s (at + 2) 0 * 1099511627776 + get_or s (at + 3) 0 * 4294967296
    + get_or s (at + 4) 0 * 16777216 + get_or s (at + 5) 0 * 65536 + get_or s (at + 6) 0 * 256 + get_or s (at + 7) 0 ≡ number_at 8 s at
eight s at h =
    let high = four s at (omega arith) in
    let low = four s (at + 4) (omega arith) in
    let e5 : get_or s (at + 4 + 1) 0 ≡ get_or s (at + 5) 0 = ap (λ (k : ℕ). get_or s k 0) (omega arith) in
    let e6 : get_or s (at + 4 + 2) 0 ≡ get_or s (at + 6) 0 = ap (λ (k : ℕ). get_or s k 0) (omega arith) in
    let e7 : get_or s (at + 4 + 3) 0 ≡ get_or s (at + 7) 0 = ap (λ (k : ℕ). get_or s k 0) (omega arith) in
    let both = join 4 4 s at (omega arith) in
    omega (arith, high, low, e5, e6, e7, both)

-- ---- what the library reads and writes

pub eight_read : (bs : List ℕ) → length bs ≡ 8 → from_be_bytes w64 bs ≡ number_after 0 bs
eight_read [] l = absurd (omega arith)
eight_read (a ∷ []) l = absurd (omega arith)
eight_read (a ∷ b ∷ []) l = absurd (omega arith)
eight_read (a ∷ b ∷ c ∷ []) l = absurd (omega arith)
eight_read (a ∷ b ∷ c ∷ d ∷ []) l = absurd (omega arith)
eight_read (a ∷ b ∷ c ∷ d ∷ e ∷ []) l = absurd (omega arith)
eight_read (a ∷ b ∷ c ∷ d ∷ e ∷ f ∷ []) l = absurd (omega arith)
eight_read (a ∷ b ∷ c ∷ d ∷ e ∷ f ∷ g ∷ []) l = absurd (omega arith)
eight_read (a ∷ b ∷ c ∷ d ∷ e ∷ f ∷ g ∷ h ∷ []) l = omega arith
eight_read (a ∷ b ∷ c ∷ d ∷ e ∷ f ∷ g ∷ h ∷ x ∷ bs) l = absurd (omega arith)

pub eight_written : (x : ℕ) → to_be_bytes w64 x ≡ word_bytes x
unfolding word_bytes
eight_written x =
    let e1 : x / 256 ^ 1 % 256 ≡ x / 256 % 256 = omega arith in
    let e2 : x / 256 ^ 2 % 256 ≡ x / 256 / 256 % 256 = omega arith in
    let e3 : x / 256 ^ 3 % 256 ≡ x / 256 / 256 / 256 % 256 = omega arith in
    let e4 : x / 256 ^ 4 % 256 ≡ x / 256 / 256 / 256 / 256 % 256 = omega arith in
    let e5 : x / 256 ^ 5 % 256 ≡ x / 256 / 256 / 256 / 256 / 256 % 256 = omega arith in
    let e6 : x / 256 ^ 6 % 256 ≡ x / 256 / 256 / 256 / 256 / 256 / 256 % 256 = omega arith in
    let e7 : x / 256 ^ 7 % 256 ≡ x / 256 / 256 / 256 / 256 / 256 / 256 / 256 % 256 = omega arith in
    λ i. e7 i ∷ e6 i ∷ e5 i ∷ e4 i ∷ e3 i ∷ e2 i ∷ e1 i ∷ x % 256 ∷ []

pub length_word : (x : ℕ) → length (word_bytes x) ≡ 8
unfolding word_bytes
length_word x = refl
