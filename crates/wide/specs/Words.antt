-- What a number in two words is worth, and a quotient that remembers whether it is exact. Definitions only.
use Rattle.std.specs.Prelude.{ℕ, ◌+◌, ◌*◌, ◌/◌, ◌%◌, ◌^◌, cond, ◌==◌}
use Rattle.wide.specs.declared.Wide.{Wide}

abbrev pub value : Wide → ℕ
value w = w.hi * 2 ^ 64 + w.lo

-- q with a sticky bit: its last bit is set where a rest below it is lost
abbrev pub sticky : ℕ → ℕ → ℕ
sticky q rest = cond (rest == 0) q (q / 2 * 2 + 1)

-- n / u with a sticky bit
abbrev pub jammed : ℕ → ℕ → ℕ
jammed n u = sticky (n / u) (n % u)
