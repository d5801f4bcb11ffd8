-- The words that are left of a line, as the program holds them.
--   left w    the words still to be taken, each at its place in the line
--   line_of w the line
--   end w     the line's length
--   word_of   a taken word with its place
--   Part l o  a taken word is a part of the line l, at its place
use Rattle.std.specs.Prelude.{ℕ, List, length, drop, Some, None, Option}
use Rattle.words.specs.Words.{Placed, at, words, Stands}
use Rattle.words.specs.declared.rest.Word.{Word}
use Rattle.words.specs.declared.rest.Words.{Words}

abbrev pub left : Words → List Placed
left w = words w.place (drop w.place w.line.now)

abbrev pub line_of : Words → List ℕ
line_of w = w.line.now

abbrev pub end : Words → ℕ
end w = length (line_of w)

abbrev pub word_of : Word → Placed
word_of w = at w.place w.letters.now

abbrev pub Part : List ℕ → Option Word → Type 0
Part line None = Unit {0}
Part line (Some w) = Stands 0 line (word_of w)
