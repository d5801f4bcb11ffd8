use Rattle.std.proofs.Common.{ℕ, List, [], ◌++◌, length}
use Rattle.checker.specs.Answers.{KeepsRules, HasRead}
use Rattle.check_input.proofs.check_piece.Given as goal

-- of the input with this piece, the text is not looked at yet
abbrev pub invariant-loop-answer : goal.invariant-loop-answer
invariant-loop-answer g l = record {
  rules : KeepsRules l.initial.checker l.checker;
  reads : (whole : List ℕ) → HasRead l.initial.checker whole [] → HasRead l.checker (whole ++ l.piece) l.text;
}

abbrev pub decreases-loop-answer : goal.decreases-loop-answer
decreases-loop-answer g l = length l.text
