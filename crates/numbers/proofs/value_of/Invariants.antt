use Rattle.std.proofs.Common.{◌≡◌, ◌≤◌, drop}
use Rattle.numbers.specs.Numeral.{digits_after}
use Rattle.numbers.proofs.value_of.Given as goal

-- what is left, after the value so far, gives the answer
abbrev pub invariant-loop-b : goal.invariant-loop-b
invariant-loop-b l = (l.value ≤ l.limit) × (digits_after l.limit l.value (drop l.b-index l.text) ≡ digits_after l.limit 0 l.text)
