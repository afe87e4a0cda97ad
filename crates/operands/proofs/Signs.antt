-- The sum of two numbers with signs, over plain numbers: what is picked of the sum and both differences, made modulo N. Assumes nothing.
use mathlib.Core.Path.{◌≡◌, refl, sym, ap, ◌∙◌}
use mathlib.Core.Logic.{◌⊎◌, inl, inr, ⊎_elim}
use mathlib.Core.Bool.{Bool, true, false, cond, beq, true≢false}
use Prim.Native.Nat.{ℕ, ◌+◌, ◌-◌, ◌%◌, ◌≤◌, ◌<◌}
use native.Mathlib.Nat.{mod-eq_of_lt, add-mod_left, add_comm, le_of_lt}
use native.Mathlib.Omega.{arith}
use Rattle.wide.proofs.Nat.{le_or_gt}
use Rattle.operands.specs.Machine.{SumOf}

pub beq_same : (s : Bool) → beq s s ≡ true
beq_same true = refl
beq_same false = refl

pub beq_other : (s t : Bool) → (s ≡ t → ⊥) → beq s t ≡ false
beq_other true true h = absurd (h refl)
beq_other true false h = refl
beq_other false true h = refl
beq_other false false h = absurd (h refl)

pub beq_true : (s t : Bool) → beq s t ≡ true → s ≡ t
beq_true true true e = refl
beq_true true false e = sym e
beq_true false true e = e
beq_true false false e = refl

pub beq_false : (s t : Bool) → beq s t ≡ false → s ≡ t → ⊥
beq_false s t e q = true≢false (sym (beq_same t) ∙ ap (λ (x : Bool). beq x t) (sym q) ∙ e)

-- a difference modulo N, where nothing is borrowed
sub_fits : (N x y w : ℕ) → w < N → x < N → (w + y) % N ≡ x → y ≤ x → w ≡ x - y
sub_fits N x y w W X e h = ⊎_elim
    (λ (l : N ≤ w + y). absurd (carry w y x N W h X (sym (ap (λ (z : ℕ). z % N) (split (w + y) N l) ∙ add-mod_left N (w + y - N) ∙ mod-eq_of_lt (rest w y x N W X h)) ∙ e) l))
    (λ (l : w + y < N). back w y x (sym (mod-eq_of_lt l) ∙ e))
    (le_or_gt N (w + y))
  where
    back : (w y x : ℕ) → w + y ≡ x → w ≡ x - y
    back w y x e = omega arith

    carry : (w y x N : ℕ) → w < N → y ≤ x → x < N → w + y - N ≡ x → N ≤ w + y → ⊥
    carry w y x N a b c d f = omega arith

    rest : (w y x N : ℕ) → w < N → x < N → y ≤ x → w + y - N < N
    rest w y x N a b c = omega arith

    split : (n N : ℕ) → N ≤ n → n ≡ N + (n - N)
    split n N h = omega arith

-- N is twice H; D is x - y and U is y - x
module _ (N H x y S D U : ℕ) (hN : H + H ≡ N) (X : x < H) (Y : y < H) (DN : D < N) (UN : U < N) (hS : S ≡ (x + y) % N) (hD : (D + y) % N ≡ x) (hU : (U + x) % N ≡ y) where
  half : (N H x : ℕ) → H + H ≡ N → x < H → x < N
  half N H x e h = omega arith

  twice : (N H x y : ℕ) → H + H ≡ N → x < H → y < H → x + y < N
  twice N H x y e a b = omega arith

  made_sum : S ≡ x + y
  made_sum = hS ∙ mod-eq_of_lt (twice N H x y hN X Y)

  made_down : D < H → x ≡ y + D
  made_down l = sym hD ∙ mod-eq_of_lt (twice N H D y hN l Y) ∙ add_comm D y

  made_up : H ≤ D → y ≡ x + U
  made_up l = back x y U over (sub_fits N y x U UN (half N H y hN Y) hU over)
    where
      small : (H x y D : ℕ) → x < H → H ≤ D → D ≡ x - y → ⊥
      small H x y D a b e = omega arith

      over : x ≤ y
      over = ⊎_elim
          (λ (g : y ≤ x). absurd (small H x y D X l (sub_fits N x y D DN (half N H x hN X) hD g)))
          (λ (g : x < y). le_of_lt g)
          (le_or_gt y x)

      back : (x y U : ℕ) → x ≤ y → U ≡ y - x → y ≡ x + U
      back x y U h e = omega arith

  pub picked : (s t under : Bool) (neg : Bool) (w : ℕ) → (under ≡ true → H ≤ D) → (under ≡ false → D < H) → neg ≡ cond under t s → w ≡ cond (beq s t) S (cond under U D) → SumOf s t x y neg w
  picked s t under neg w a b e f =
      record {
        like = λ l. (e ∙ ap (λ (v : Bool). cond under v s) (sym l) ∙ both under s, f ∙ ap (λ (v : Bool). cond v S (cond under U D)) (same l) ∙ made_sum);
        unlike = λ n. rest under refl e (f ∙ ap (λ (v : Bool). cond v S (cond under U D)) (beq_other s t n));
      }
    where
      both : (u v : Bool) → cond u v v ≡ v
      both true v = refl
      both false v = refl

      same : s ≡ t → beq s t ≡ true
      same l = ap (λ (v : Bool). beq v t) l ∙ beq_same t

      rest : (u : Bool) → under ≡ u → neg ≡ cond under t s → w ≡ cond under U D → ((neg ≡ s) × (x ≡ y + w)) ⊎ ((neg ≡ t) × (y ≡ x + w))
      rest true g e f = inr (e ∙ ap (λ (v : Bool). cond v t s) g, made_up (a g) ∙ ap (λ (n : ℕ). x + n) (sym (f ∙ ap (λ (v : Bool). cond v U D) g)))
      rest false g e f = inl (e ∙ ap (λ (v : Bool). cond v t s) g, made_down (b g) ∙ ap (λ (n : ℕ). y + n) (sym (f ∙ ap (λ (v : Bool). cond v U D) g)))
