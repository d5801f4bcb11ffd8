-- What a `LineReader` holds and finds, in the words of `Reading`.
--   limit     the most bytes that a line may have, the length of the carry memory
--   pending   the line at hand
--   cut       the first `end` bytes; none where there are not so many
--   part      the bytes of a span of the text or of the carry memory; none where it does not lie within
--   seen      the outcome that is found, with the bytes of its span
--   stepped   a step, from what was found and the text that is left, and the reader after it
--   Onward    where a line ended, less text is left than before; where none did, nothing is left
use Rattle.std.specs.Prelude.{◌≡◌, ℕ, ◌<◌, cond, List, [], length, take, Some, None, Ok, Err, Option, Result, nat_le}
use Rattle.std.specs.Borrow.{Bor}
use Rattle.pieces.specs.declared.Source.{Source}
use Rattle.pieces.specs.declared.Source.TheVariants.{Piece, Carry}
use Rattle.pieces.specs.declared.Span.{Span}
use Rattle.pieces.specs.declared.TooLong.{TooLong}
use Rattle.pieces.specs.declared.LineReader.{LineReader}
use Rattle.pieces.specs.Reading.{Pending, Outcome, line, too_long, Step}

abbrev pub limit : LineReader → ℕ
limit r = length r.carry

abbrev pub pending : LineReader → Pending
pending r = r.at_hand

abbrev pub within : Source → List ℕ → List ℕ → List ℕ
within Piece text carry = text
within Carry text carry = carry

abbrev pub cut : ℕ → List ℕ → List ℕ
cut end bytes = cond (nat_le end (length bytes)) (take end bytes) []

abbrev pub part : Span → List ℕ → List ℕ → List ℕ
part s text carry = cut s.end (within s.source text carry)

abbrev pub seen : Option (Result Span TooLong) → List ℕ → LineReader → Option Outcome
seen (Some (Ok s)) text r = Some (line (part s text r.carry))
seen (Some (Err e)) text r = Some too_long
seen None text r = None

abbrev pub stepped : Option (Result Span TooLong) × Bor (List ℕ) → List ℕ → LineReader → Step
stepped found text r = record { found = seen found.0 text r; at_hand = pending r; left = found.1.now }

abbrev pub Onward : Option (Result Span TooLong) → List ℕ → List ℕ → Type 0
Onward (Some f) left text = length left < length text
Onward None left text = left ≡ []
