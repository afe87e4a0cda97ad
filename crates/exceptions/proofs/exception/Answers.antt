-- `exceptions::exception` meets its contract: the constant table is the definition's, number by number, and the search through a stretch finds what it should (Scan). Assumes nothing.
use mathlib.Core.Path.{◌≡◌, refl, sym, ap, ◌∙◌, subst}
use Prim.Native.Nat.{ℕ, ◌-◌}
use native.Mathlib.Nat.{le_of_eq}
use lib.Ieee.{Float}
use Rattle.std.specs.Prelude.{Option}
use Rattle.exceptions.specs.Table.{exceptions}
use Rattle.exceptions.specs.declared.Stretch.{Stretch}
use Rattle.exceptions.specs.Lookup.{start, end, entry_at, entries_from, entries, find, Finds}
use Rattle.exceptions.proofs.Scan.{finds}
use Rattle.exceptions.proofs.exception.Goals as goal

pub lookup_exception-requires : goal.lookup_exception-requires
unfolding exceptions
lookup_exception-requires c = (
  refl,
  record {
    of = c.args.stretch;
    from = le_of_eq (sym (ap (λ (b : ℕ × ℕ). b.0) c.bounds-first.ensures));
    upto = le_of_eq (ap (λ (b : ℕ × ℕ). b.1) c.bounds-first.ensures);
  },
)

found : (s : Stretch) (x : Float) {b : ℕ × ℕ} {r : Option Float} → b ≡ (start s, end s) → r ≡ find (entries_from entry_at b.0 (b.1 - b.0)) x → r ≡ find (entries s) x
unfolding entries
found s x p e = e ∙ ap (λ (b : ℕ × ℕ). find (entries_from entry_at b.0 (b.1 - b.0)) x) p

pub returns-clause-value : goal.returns-clause-value
returns-clause-value c = found c.args.stretch c.args.x c.bounds-first.ensures c.lookup_exception.ensures

pub returns-clause-exactly : goal.returns-clause-exactly
returns-clause-exactly c =
    let e = found c.args.stretch c.args.x c.bounds-first.ensures c.lookup_exception.ensures in
    subst (λ (r : Option Float). Finds (entries c.args.stretch) c.args.x r) (sym e) (finds (entries c.args.stretch) c.args.x)
