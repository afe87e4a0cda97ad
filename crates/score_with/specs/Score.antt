-- Request A.4: "Scoring with a lent list replies by 01's steps with that list in step 5", "A refused list yields its number and no score." Definitions only.
use Rattle.std.specs.Prelude.{◌≡◌, true, false, cond, Result, Ok, Err, List, ℕ, ◌<◌, ◌^◌, eqb, unwrap_or}
use Rattle.std.specs.Float.{binary64}
use Rattle.std.specs.Float.Ieee.{to_bits}
use Rattle.pair.specs.Pair.{bits}
use Rattle.exceptions.specs.declared.Entry.{Entry}
use Rattle.exceptions.specs.declared.Stretch.TheVariants.{First}
use Rattle.exceptions.specs.Lookup.{find, Finds, entries}
use Rattle.exception_list.specs.List.{refusal_of}
use Rattle.exp2m1.specs.Phases.{exp2m1_two_terms}
use Rattle.exp2m1.specs.Range.{is_small}
use Rattle.exp2m1.specs.Score.{score_with, score_bits}

-- the reply for a lent list and the bits of a weight
unfoldable pub scored_with : List Entry → ℕ → Result ℕ ℕ
scored_with list x = cond (eqb (refusal_of list) 0) (Ok (score_with list x)) (Err (refusal_of list))

-- where step 5 decides, an entry is found exactly when some entry of the list equals the weight, and then the score is its hi + lo rounded; everywhere else the list makes no difference
pub record Listed (list : List Entry) (x : ℕ) : Type 0 where
  pub in_step_5 : is_small x ≡ true → Finds list (bits x) (find list (bits x)) × (score_with list x ≡ to_bits binary64 (unwrap_or (find list (bits x)) (exp2m1_two_terms (bits x))))
  pub elsewhere : is_small x ≡ false → score_with list x ≡ score_bits x

abbrev pub EveryListed : Type 0
EveryListed = (list : List Entry) (x : ℕ) → x < 2 ^ 64 → Listed list x

-- the built-in table, lent, gives the built-in scores: those that are claimed to equal the Rust's
abbrev pub BuiltIn : Type 0
BuiltIn = (x : ℕ) → scored_with (entries First) x ≡ Ok (score_bits x)
