-- Frames (document 01, "A delivery enters"; document 02, A.3, A.6 and A.8): length and body, the kinds, and the sender's refusals in their order.
-- It goes on with the answer to a whole frame in crates/answers/specs/Answers.antt. Definitions only.
use Rattle.std.specs.Prelude.{ℕ, zero, suc, ◌+◌, ◌*◌, ◌/◌, ◌%◌, ◌-◌, List, [], ◌∷◌, Bool, false, not, cond, ◌&&◌, ◌||◌, length, get_or, drop, ltb, leb, eqb, Option, Some, None}
use Rattle.rounding.specs.Named.{direction_of}
use Rattle.rounding.specs.declared.Direction.{Direction}
use Rattle.sheets.specs.Sheet.{line_bytes, or_else, sheet_refusal}

-- the longest body that is answered and that the state keeps
abbrev pub longest_body : ℕ
longest_body = 514

-- the bytes of an answer buffer that every answer fits into
abbrev pub answer_room : ℕ
answer_room = 516

-- ---- boundaries

-- L, which the first two bytes give, big-endian
abbrev pub body_length : List ℕ → ℕ
body_length f = get_or f 0 0 * 256 + get_or f 1 0

-- two length bytes and L more have come
unfoldable pub whole : List ℕ → Bool
whole f = leb (2 + body_length f) (length f)

-- L is 2 to 514: the lengths of a body that the state keeps
unfoldable pub kept : ℕ → Bool
kept n = leb 2 n && leb n longest_body

-- ---- kinds

-- what belongs to a kind: the bytes that precede its items, its own refusal of a payload before 5 or 0, the bytes of an item, the lengths of a
-- payload that it does not have, and its own refusal after 5 or 0
pub record Kind : Type 0 where
  pub before : ℕ
  pub own : List ℕ → ℕ
  pub item : ℕ
  pub bad : ℕ → Bool
  pub later : List ℕ → ℕ

-- in n bytes nothing comes behind what precedes the items, or no multiple of an item
abbrev pub no_items : ℕ → ℕ → ℕ → Bool
no_items before item n = leb n before || not (eqb ((n - before) % item) 0)

-- no refusal of its own
abbrev pub none : List ℕ → ℕ
none payload = 0

-- items alone
abbrev pub plain : ℕ → Kind
plain size = record { before = 0; own = none; item = size; bad = no_items 0 size; later = none }

-- a direction byte, refused by 11 where it names none, and then triples; an empty payload has no such byte
abbrev pub direction_refusal : Option Direction → ℕ
direction_refusal (Some d) = 0
direction_refusal None = 11

abbrev pub bad_direction : List ℕ → ℕ
bad_direction [] = 0
bad_direction (b ∷ payload) = direction_refusal (direction_of b)

abbrev pub directed : Kind
directed = record { before = 1; own = bad_direction; item = 24; bad = no_items 1 24; later = none }

-- no payload; it has no items, and their bytes are not asked
abbrev pub bare : Kind
bare = record { before = 0; own = none; item = 24; bad = λ n. not (eqb n 0); later = none }

-- lines, of which the first bad one decides
abbrev pub sheet : Kind
sheet = record { before = 0; own = none; item = line_bytes; bad = no_items 0 line_bytes; later = sheet_refusal }

-- by their numbers from 1 on: 8-byte weights; 24-byte triples; triples in a direction; a report; a sheet
abbrev pub kinds : List Kind
kinds = plain 8 ∷ plain 24 ∷ directed ∷ bare ∷ sheet ∷ []

unfoldable pub is_kind : ℕ → Bool
is_kind zero = false
is_kind (suc place) = ltb place (length kinds)

-- what belongs to the kind of this number; of a number that is no kind's it is not asked
unfoldable pub kind_of : ℕ → Kind
kind_of zero = plain 24
kind_of (suc place) = get_or kinds place (plain 24)

abbrev pub items_from : ℕ → ℕ
items_from kind = (kind_of kind).before

abbrev pub item_bytes : ℕ → ℕ
item_bytes kind = (kind_of kind).item

-- the items of a payload of n bytes
abbrev pub item_count : ℕ → ℕ → ℕ
item_count kind n = (n - items_from kind) / item_bytes kind

-- ---- the sender's refusals

-- a payload of n bytes is not what the kind has
unfoldable pub bad_payload : ℕ → ℕ → Bool
bad_payload kind n = (kind_of kind).bad n

-- the first refusal that a body of n bytes meets, or 0
unfoldable pub refusal_to : ℕ → List ℕ → ℕ
refusal_to n body =
    cond (ltb n 2) 1
    (cond (ltb longest_body n) 2
    (cond (not (eqb (get_or body 0 0) 1)) 3
    (cond (not (is_kind (get_or body 1 0))) 4
    (or_else ((kind_of (get_or body 1 0)).own (drop 2 body))
    (cond (bad_payload (get_or body 1 0) (n - 2)) 5
    ((kind_of (get_or body 1 0)).later (drop 2 body)))))))

-- 00 02 01 and the number
abbrev pub refusal_frame : ℕ → List ℕ
refusal_frame n = 0 ∷ 2 ∷ 1 ∷ n ∷ []
