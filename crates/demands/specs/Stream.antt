-- The joined bytes of a list of calls with their closing points, the frames that they part into, and the answers (document 01, "The plain
-- book"). Definitions only.
use Rattle.std.specs.Prelude.{ℕ, ◌+◌, ◌≡◌, List, [], ◌∷◌, ◌++◌, map, false, cond, length, take, eqb}
use Rattle.frames.specs.Frame.{body_length, whole, refusal_frame}
use Rattle.memory.specs.Memory.{Memory, view_of, answer_with, remembered}
use Rattle.service.specs.Book.{Book, empty_book, Call, Take, Close, Entry, Reply, book_call, is_small}

-- ---- the joined bytes

-- a byte that the book moved, or a closing point
pub data Item : Type 0 where
  byte : ℕ → Item
  closing : Item

abbrev pub moved_by : Call → Entry → List Item
moved_by (Take piece buffer) e = map byte (take e.used piece)
moved_by (Close buffer) e = cond (is_small buffer) [] (closing ∷ [])

abbrev pub joined_from : Book → List Call → List Item
joined_from b [] = []
joined_from b (c ∷ cs) = moved_by c (book_call b c) ++ joined_from (book_call b c).book cs

abbrev pub joined : List Call → List Item
joined cs = joined_from empty_book cs

-- ---- the frames

-- a whole frame, or a closing point with the bytes of the unfinished frame before it
pub data Point : Type 0 where
  frame : List ℕ → Point
  closed : List ℕ → Point

-- the points of some items, and the unfinished frame at the end
pub record Parts : Type 0 where
  pub points : List Point
  pub rest : List ℕ

abbrev pub one_point : Point → Parts → Parts
one_point p q = record { points = p ∷ q.points; rest = q.rest }

-- the parts by the length bytes, from a point where some bytes of a frame have come
abbrev pub parted_from : List ℕ → List Item → Parts
parted_from held [] = record { points = []; rest = held }
parted_from held (byte b ∷ is) =
    cond (whole (held ++ (b ∷ [])))
    (one_point (frame (held ++ (b ∷ []))) (parted_from [] is))
    (parted_from (held ++ (b ∷ [])) is)
parted_from held (closing ∷ is) = one_point (closed held) (parted_from [] is)

abbrev pub parted : List Item → Parts
parted is = parted_from [] is

abbrev pub points_of : List Call → List Point
points_of cs = (parted (joined cs)).points

-- What a partition is: its points spell the items, each frame is its length bytes and as many more as they say, and what stands before a
-- closing point, or at the end, is no whole frame.
abbrev pub spelled : List Point → List Item → List Item
spelled [] end = end
spelled (frame f ∷ ps) end = map byte f ++ spelled ps end
spelled (closed h ∷ ps) end = map byte h ++ (closing ∷ spelled ps end)

pub data Exact : List Point → Type 0 where
  none : Exact []
  frames : {f : List ℕ} {ps : List Point} → length f ≡ 2 + body_length f → Exact ps → Exact (frame f ∷ ps)
  closings : {h : List ℕ} {ps : List Point} → whole h ≡ false → Exact ps → Exact (closed h ∷ ps)

pub record Partition (is : List Item) (q : Parts) : Type 0 where
  pub spells : spelled q.points (map byte q.rest) ≡ is
  pub exact : Exact q.points
  pub unfinished : whole q.rest ≡ false

-- ---- the answers

-- one for each whole frame, and refusal 8 at a closing point after an unfinished one
abbrev pub answers_from : Memory → List Point → List (List ℕ)
answers_from m [] = []
answers_from m (frame f ∷ ps) = (answer_with (view_of m) f).bytes ∷ answers_from (remembered f (answer_with (view_of m) f) m) ps
answers_from m (closed [] ∷ ps) = answers_from m ps
answers_from m (closed (b ∷ h) ∷ ps) = refusal_frame 8 ∷ answers_from m ps

-- the answers that a run wrote: the front of each buffer, where there is an answer
abbrev pub written_by : Reply → List (List ℕ)
written_by r = cond (eqb r.len 0) [] (take r.len r.buffer ∷ [])

abbrev pub written : List Reply → List (List ℕ)
written [] = []
written (r ∷ rs) = written_by r ++ written rs
