-- Worked examples of specs/Frame.antt, computed: the sender's refusals in their order, at the bounds of each. Assumes nothing.
use Prim.Native.Nat.{ℕ, zero, suc}
use mathlib.Core.Path.{◌≡◌, refl}
use mathlib.Core.List.{List, [], ◌∷◌, ◌++◌, map}
use lib.ListN.{length, replicate}
use Rattle.sheets.specs.Sheet.{sheet_refusal}
use Rattle.frames.specs.Frame.{is_kind, kind_of, item_count, bad_payload, refusal_to}

-- the refusal of a body that is there as a whole
abbrev refusal : List ℕ → ℕ
refusal body = refusal_to (length body) body

-- a body of this version and kind, with what comes first in its payload and so many bytes 255 behind it
abbrev body : ℕ → ℕ → List ℕ → ℕ → List ℕ
body version kind first n = version ∷ kind ∷ (first ++ replicate n 255)

-- 1; 2, also where 3, 4 and 5 apply
pub by_length : map refusal ([] ∷ (1 ∷ []) ∷ body 1 1 [] 513 ∷ body 9 9 [] 513 ∷ []) ≡ 1 ∷ 1 ∷ 2 ∷ 2 ∷ []
unfolding refusal_to
by_length = refl

-- 3, also where 4 or 11 applies; 4, for kinds 0 and 6, also where 5 does
pub by_version_and_kind : map refusal (body 0 1 [] 8 ∷ body 2 6 [] 8 ∷ body 2 3 (4 ∷ []) 24 ∷ body 1 0 [] 8 ∷ body 1 6 [] 0 ∷ body 1 255 [] 3 ∷ []) ≡ 3 ∷ 3 ∷ 3 ∷ 4 ∷ 4 ∷ 4 ∷ []
unfolding refusal_to is_kind
by_version_and_kind = refl

-- kinds 1 and 2: 5, or 0; their first byte is no direction
pub plain_kinds :
    map refusal (body 1 1 [] 0 ∷ body 1 1 [] 7 ∷ body 1 1 [] 8 ∷ body 1 1 [] 512 ∷ body 1 2 [] 0 ∷ body 1 2 [] 8 ∷ body 1 2 [] 24 ∷ body 1 2 [] 25 ∷ body 1 2 [] 504 ∷ [])
    ≡ 5 ∷ 5 ∷ 0 ∷ 0 ∷ 5 ∷ 5 ∷ 0 ∷ 5 ∷ 0 ∷ []
unfolding refusal_to is_kind kind_of bad_payload
plain_kinds = refl

-- kind 3: 11 for a first byte above 3, alone, with 3 bytes and with a triple behind it; 5 for an empty payload, for a direction alone and for
-- 23 or 25 bytes behind it; 0 for 1 triple in each direction, and for 21
pub directed_kind :
    map refusal
    (body 1 3 (4 ∷ []) 0
    ∷ body 1 3 (4 ∷ []) 3
    ∷ body 1 3 (4 ∷ []) 24
    ∷ body 1 3 (255 ∷ []) 24
    ∷ body 1 3 [] 0
    ∷ body 1 3 (0 ∷ []) 0
    ∷ body 1 3 (3 ∷ []) 23
    ∷ body 1 3 (3 ∷ []) 25
    ∷ body 1 3 (0 ∷ []) 24
    ∷ body 1 3 (1 ∷ []) 24
    ∷ body 1 3 (2 ∷ []) 24
    ∷ body 1 3 (3 ∷ []) 24
    ∷ body 1 3 (3 ∷ []) 504
    ∷ [])
    ≡ 11 ∷ 11 ∷ 11 ∷ 11 ∷ 5 ∷ 5 ∷ 5 ∷ 5 ∷ 0 ∷ 0 ∷ 0 ∷ 0 ∷ 0 ∷ []
unfolding refusal_to is_kind kind_of bad_payload
directed_kind = refl

-- a report: 0 for no payload; 5 for 1 byte, for 8, 24 and 512; 3 for version 2
pub report_kind :
    map refusal (body 1 4 [] 0 ∷ body 1 4 [] 1 ∷ body 1 4 [] 8 ∷ body 1 4 [] 24 ∷ body 1 4 [] 512 ∷ body 2 4 [] 0 ∷ []) ≡ 0 ∷ 5 ∷ 5 ∷ 5 ∷ 5 ∷ 3 ∷ []
unfolding refusal_to is_kind kind_of bad_payload
report_kind = refl

-- a sheet: 5 for no line, and for 8, 10, 505 and 512 bytes, also where 14 applies; 0 for 1, 2 and 56 lines of a weight; 14 and 15 after 5; 3 for
-- version 2; a body of 515 is 2
abbrev weights : ℕ → List ℕ
weights zero = []
weights (suc n) = 0 ∷ 255 ∷ 255 ∷ 255 ∷ 255 ∷ 255 ∷ 255 ∷ 255 ∷ 255 ∷ weights n

abbrev self : List ℕ
self = 1 ∷ 0 ∷ 0 ∷ replicate 6 0

pub sheet_kind :
    map refusal
    (body 1 5 [] 0
    ∷ body 1 5 [] 8
    ∷ body 1 5 [] 10
    ∷ body 1 5 (weights 56) 1
    ∷ body 1 5 (weights 56) 8
    ∷ body 1 5 (weights 1) 0
    ∷ body 1 5 (weights 2) 0
    ∷ body 1 5 (weights 56) 0
    ∷ body 1 5 [] 9
    ∷ body 1 5 (weights 55) 9
    ∷ body 1 5 self 0
    ∷ body 1 5 self 9
    ∷ body 2 5 self 0
    ∷ body 1 5 (weights 57) 0
    ∷ [])
    ≡ 5 ∷ 5 ∷ 5 ∷ 5 ∷ 5 ∷ 0 ∷ 0 ∷ 0 ∷ 14 ∷ 14 ∷ 15 ∷ 15 ∷ 3 ∷ 2 ∷ []
unfolding refusal_to is_kind kind_of bad_payload sheet_refusal
sheet_kind = refl

-- the items of the longest payloads
pub counts : (item_count 1 512 ≡ 64) × (item_count 2 504 ≡ 21) × (item_count 3 505 ≡ 21) × (item_count 5 504 ≡ 56)
unfolding kind_of
counts = (refl, refl, refl, refl)
