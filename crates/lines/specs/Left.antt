-- The lines that are left of a text, as the program holds them.
--   left l   the lines still to be given
use Rattle.std.specs.Prelude.{ℕ, List}
use Rattle.lines.specs.Lines.{split}
use Rattle.lines.specs.declared.left.Lines.{Lines}

abbrev pub left : Lines → List (List ℕ)
left l = split l.text.now
