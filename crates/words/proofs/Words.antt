-- Words one behind the other: written at a slice's front one by one, and read again. Assumes nothing.
use Prim.Native.Nat.{ℕ, zero, suc, ◌+◌, ◌*◌, ◌-◌, ◌/◌, ◌%◌, ◌^◌, ◌≤◌, ◌<◌}
use mathlib.Core.Path.{◌≡◌, refl, sym, ap, ap₂, ◌∙◌}
use mathlib.Core.List.{List, [], ◌∷◌, ◌++◌, append_assoc}
use mathlib.Core.Bool.{Bool, true, false}
use native.Mathlib.Nat.{pow-suc}
use native.Mathlib.Numerals.{add-one}
use native.Mathlib.Omega.{arith}
use lib.ListN.{length, take, drop, length-append, length-drop}
use lib.Seq.{take_at, drop_at}
use lib.Dec.{ltb}
use borrow.Author.Tests.{ltb-true, ltb-false}
use borrow.Rule.Slice.PartMut.{put_mid}
use Rattle.words.specs.Bytes.{number_after, number_at, last_bytes, word_bytes, words_of}
use Rattle.words.proofs.Numbers.{after_append, length_word}
use Rattle.words.proofs.Parts.{put_behind}

pub length_words : (f : ℕ → ℕ) (n : ℕ) → length (words_of f n) ≡ 8 * n
unfolding words_of
length_words f zero = refl
length_words f (suc n) = let h = length_words f n in simp (length-append, length_word) (omega arith)

-- the first i words stand at the front of o, and the rest is that of o₀
module _ (f : ℕ → ℕ) (i : ℕ) (o o₀ : List ℕ) (eo : o ≡ words_of f i ++ drop (8 * i) o₀) (h : 8 * i ≤ length o₀) where
  pub same_length : length o ≡ length o₀
  same_length = ap length eo ∙ simp (length-append, length_words, length-drop) (omega arith)

  pub one_more-word : (a x : ℕ) (w : List ℕ) → a ≡ 8 * i → x ≡ f i → w ≡ word_bytes x ++ drop 8 (take (length o - a) (drop a o))
      → put_mid a (length o - a) o w ≡ words_of f (i + 1) ++ drop (8 * (i + 1)) o₀
  unfolding words_of
  one_more-word a x w ea ex ew =
      let front = words_of f i in
      let eo' : o ≡ front ++ drop a o₀ = eo ∙ ap (λ (n : ℕ). front ++ drop n o₀) (sym ea) in
      let d : a + 8 ≡ 8 * (i + 1) = omega arith in
      put_behind a 8 o o₀ front (word_bytes x) w (length_words f i ∙ sym ea) eo' ew
      ∙ (λ j. (front ++ word_bytes (ex j)) ++ drop (d j) o₀)
      ∙ ap (λ (n : ℕ). words_of f n ++ drop (8 * (i + 1)) o₀) (sym (add-one i))

-- ---- read again

last_number : (n x : ℕ) → x < 256 ^ n → number_after 0 (last_bytes n x) ≡ x
last_number zero x h = omega arith
last_number (suc n) x h =
    let p = 256 ^ n in
    let e : 256 ^ suc n ≡ p * 256 = pow-suc 256 n in
    after_append 0 (last_bytes n (x / 256)) (x % 256 ∷ []) ∙ omega (arith, last_number n (x / 256) (omega (arith, e)))

-- word i of n, with anything behind them
pub word_at : (f : ℕ → ℕ) (n : ℕ) (rest : List ℕ) (i : ℕ) → i < n → f i < 2 ^ 64 → number_at 8 (words_of f n ++ rest) (8 * i) ≡ f i
unfolding words_of word_bytes number_at
word_at f zero rest i h b = absurd (omega arith)
word_at f (suc n) rest i h b = go (ltb i n) refl (λ l. word_at f n (word_bytes (f n) ++ rest) i l b)
  where
    front : List ℕ
    front = words_of f n

    go : (t : Bool) → ltb i n ≡ t → (i < n → number_after 0 (take 8 (drop (8 * i) (front ++ (word_bytes (f n) ++ rest)))) ≡ f i)
        → number_after 0 (take 8 (drop (8 * i) ((front ++ word_bytes (f n)) ++ rest))) ≡ f i
    go true e k = ap (λ (l : List ℕ). number_after 0 (take 8 (drop (8 * i) l))) (append_assoc front (word_bytes (f n)) rest) ∙ k (ltb-true i n e)
    go false e k =
        let s = ltb-false i n e in
        let same : i ≡ n = omega arith in
        ap (λ (l : List ℕ). number_after 0 (take 8 (drop (8 * i) l))) (append_assoc front (word_bytes (f n)) rest)
        ∙ ap (λ (l : List ℕ). number_after 0 (take 8 l)) (drop_at front (word_bytes (f n) ++ rest) (8 * i) (length_words f n ∙ ap (λ (m : ℕ). 8 * m) (sym same)))
        ∙ ap (number_after 0) (take_at (word_bytes (f n)) rest 8 refl)
        ∙ last_number 8 (f n) (omega (arith, ap f same))
        ∙ ap f (sym same)

-- the same words
pub same_words : (f g : ℕ → ℕ) (n : ℕ) → ((i : ℕ) → i < n → f i ≡ g i) → words_of f n ≡ words_of g n
unfolding words_of
same_words f g zero e = refl
same_words f g (suc n) e = ap₂ (λ (l : List ℕ) (x : ℕ). l ++ word_bytes x) (same_words f g n (λ i h. e i (omega arith))) (e n (omega arith))
