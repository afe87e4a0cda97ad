-- The score of a weight: document 01, "One weight, range by range", steps 1 to 8; by request A.4 any list of entries may stand in for the first exception table. Definitions only.
use Rattle.std.specs.Prelude.{ℕ, ◌%◌, ◌^◌, Bool, ◌&&◌, cond, List, [], ◌∷◌, leb, ltb, eqb, unwrap_or, Float}
use Rattle.std.specs.Float.{binary64}
use Rattle.std.specs.Float.Ieee.{add, sub, eq, le, to_bits}
use Rattle.rounding.specs.declared.Direction.TheVariants.{Down}
use Rattle.ieee754.specs.Operations.{round_to_integral, first_nan}
use Rattle.pair.specs.Pair.{bits}
use Rattle.exceptions.specs.declared.Entry.{Entry}
use Rattle.exceptions.specs.declared.Stretch.TheVariants.{First}
use Rattle.exceptions.specs.Lookup.{find, entries}
use Rattle.exp2m1_tiny.specs.declared.Estimate.{Estimate}
use Rattle.exp2m1_whole.specs.Whole.{exp2m1_whole}
use Rattle.exp2m1.specs.Phases.{zero, exp2m1_scaled, exp2m1_two_terms, exp2m1_fast, exp2m1_accurate}

-- the low 47 bits of ux are zero, and x is a whole number from -53 to 53
unfoldable pub is_whole : ℕ → Float → Bool
is_whole ux x =
    let i = round_to_integral Down x in
    eqb (ux % 2 ^ 47) 0 && (eq x i && (le (bits 0xc04a800000000000) i && le i (bits 0x404a800000000000)))

-- hi + (lo - err) where that equals hi + (lo + err), or else r
unfoldable pub rounded : Estimate → Float → Float
rounded e r =
    let left = add binary64 e.pair.hi (sub binary64 e.pair.lo e.err) in
    let right = add binary64 e.pair.hi (add binary64 e.pair.lo e.err) in
    cond (eq left right) left r

-- the steps for a weight x whose bits are ux, with a list of entries in step 5; ax are the bits without sign
unfoldable pub steps : List Entry → ℕ → Float → Float
steps list ux x =
    let ax = ux % 2 ^ 63 in
    -- 1. NaN: a NaN; floats have one, and score_with gives its bits
    cond (ltb 0x7ff0000000000000 ax) (bits 0x7ff8000000000000)
    -- 2. x <= -54: -1
    (cond (leb 0xc04b000000000000 ux) (bits 0xbff0000000000000)
    -- 3. x >= 1024: +infinity
    (cond (leb 0x4090000000000000 ax) (bits 0x7ff0000000000000)
    -- 4. |x| <= 2 ^ -104: zero itself with its sign, else the steps scaled by 2 ^ 106
    (cond (leb ax 0x3970000000000000) (cond (eq x zero) x (exp2m1_scaled x))
    -- 5. |x| <= 0x1.0527dbd87e24dp-51: the list, then two terms of the Taylor expansion
    (cond (leb ax 0x3cc0527dbd87e24d) (unwrap_or (find list x) (exp2m1_two_terms x))
    -- 6. a whole number from -53 to 53: exactly
    (cond (is_whole ux x) (exp2m1_whole x)
    -- 7. the fast phase, and 8. the accurate phase where that does not decide
    (rounded (exp2m1_fast x (leb ax 0x3fc0000000000000)) (exp2m1_accurate x)))))))

-- the bits of the score: those that request A.7 returns for a NaN, and else those of the steps
abbrev pub score_with : List Entry → ℕ → ℕ
score_with list ux = first_nan (ux ∷ []) (to_bits binary64 (steps list ux (bits ux)))

-- the first exception table in step 5
unfoldable pub score_bits : ℕ → ℕ
unfolding first_nan
score_bits ux = score_with (entries First) ux
