-- Bits of a signed k: six that a mask leaves, six after a shift, which rounds down and so moves the bits of a negative number too, and the exponent word. Assumes nothing.
use mathlib.Core.Path.{◌≡◌, refl, sym, ◌∙◌, ap, subst}
use mathlib.Core.Bool.{Bool, cond}
use Prim.Native.Nat.{ℕ, suc, ◌-◌, ◌≤◌, ◌<◌, ◌^◌, ◌%◌, ◌/◌}
use native.Mathlib.Omega.{arith}
use lib.IntN.{ℤ, pos, negsuc, ◌+ℤ◌, nat_abs}
use lib.Dec.{T}
use lib.Bits.{bit_and, and_mask}
use lib.Signed.{non_neg, shr_z}
use borrow.Author.Tests.{le-ltb}
use mir.Syntax.{w64}
use mir.Val.{of_z, to_z, SFits, Fits}
use mir.ValLaws.{to_z-of_z}
use Rattle.exponential.specs.Exponential.{twos_complement, i1, i2, exponent_word}
use Rattle.exponential.specs.Range.{Index}

-- ---- what a cast of a number that is not negative asks and gives
pub casts : (z : ℤ) (n : ℕ) → z ≡ pos n → n < 2 ^ 63 → (T (non_neg z) × Fits w64 (nat_abs z)) × (nat_abs z ≡ n)
casts z n e h = (subst (λ (y : ℤ). T (non_neg y) × Fits w64 (nat_abs y)) (sym e) (tt, record { fits = omega arith }), ap nat_abs e)

held : (n : ℕ) → n < 2 ^ 63 → to_z w64 n ≡ pos n
held n h = to_z-of_z w64 (pos n) (record { sfits = h })

-- ---- six bits
pub masked : (n : ℕ) → to_z w64 (bit_and n 63) ≡ pos (n % 64)
masked n = ap (λ (m : ℕ). to_z w64 m) (and_mask n 6) ∙ held (n % 64) (omega arith)

complement : (k : ℤ) → of_z w64 k ≡ twos_complement k
complement (pos n) = refl
complement (negsuc n) = refl

shifted : (k : ℤ) → SFits w64 k → of_z w64 (shr_z k 64) % 64 ≡ of_z w64 k / 64 % 64
shifted (pos n) f = refl
shifted (negsuc n) f = let h : n < 2 ^ 63 = f.sfits in omega arith

pub low_bits : (k : ℤ) → to_z w64 (bit_and (of_z w64 k) 63) ≡ pos (i1 k)
low_bits k = masked (of_z w64 k) ∙ ap (λ (n : ℕ). pos (n % 64)) (complement k)

pub high_bits : (k : ℤ) → SFits w64 k → to_z w64 (bit_and (of_z w64 (shr_z (to_z w64 (of_z w64 k)) 64)) 63) ≡ pos (i2 k)
high_bits k f =
    masked (of_z w64 (shr_z (to_z w64 (of_z w64 k)) 64))
    ∙ ap (λ (z : ℤ). pos (of_z w64 (shr_z z 64) % 64)) (to_z-of_z w64 k f)
    ∙ ap pos (shifted k f ∙ ap (λ (n : ℕ). n / 64 % 64) (complement k))

-- ---- the exponent word
pub word_le : (k : ℤ) → Index k → exponent_word k ≤ 0x7ff
word_le (pos n) h = omega arith
word_le (negsuc n) h = omega arith

shift_fits : (k : ℤ) → Index k → SFits w64 (shr_z k 4096)
shift_fits (pos n) h = record { sfits = omega arith }
shift_fits (negsuc n) h = record { sfits = omega arith }

biased : (k : ℤ) → Index k → shr_z k 4096 +ℤ pos 0x3ff ≡ pos (exponent_word k)
biased (pos n) h = refl
biased (negsuc n) h =
    ap (λ (b : Bool). cond b (negsuc (suc (n / 4096) - suc 0x3ff)) (pos (0x3ff - suc (n / 4096)))) (le-ltb 0x3ff (suc (n / 4096)) (omega arith))

pub word_sum : (k : ℤ) → SFits w64 k → Index k → to_z w64 (of_z w64 (shr_z (to_z w64 (of_z w64 k)) 4096)) +ℤ pos 0x3ff ≡ pos (exponent_word k)
word_sum k f h =
    ap (λ (z : ℤ). to_z w64 (of_z w64 (shr_z z 4096)) +ℤ pos 0x3ff) (to_z-of_z w64 k f)
    ∙ ap (λ (z : ℤ). z +ℤ pos 0x3ff) (to_z-of_z w64 (shr_z k 4096) (shift_fits k h))
    ∙ biased k h

pub word_fits : (k : ℤ) → Index k → SFits w64 (pos (exponent_word k))
word_fits k h = record { sfits = let l = word_le k h in omega arith }

pub word_back : (k : ℤ) → SFits w64 k → Index k → to_z w64 (of_z w64 (to_z w64 (of_z w64 (shr_z (to_z w64 (of_z w64 k)) 4096)) +ℤ pos 0x3ff)) ≡ pos (exponent_word k)
word_back k f h = ap (λ (z : ℤ). to_z w64 (of_z w64 z)) (word_sum k f h) ∙ to_z-of_z w64 (pos (exponent_word k)) (word_fits k h)
