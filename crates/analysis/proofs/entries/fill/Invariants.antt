use Rattle.std.proofs.Common.{◌≡◌, ℕ, ◌<◌, get_or}
use Rattle.analysis.proofs.entries.fill.Given as goal

abbrev pub invariant-loop-old : goal.invariant-loop-old
invariant-loop-old g l = (k : ℕ) → k < l.old-index → get_or l.entries k l.entry ≡ l.entry
