-- The answers to the lines of a log that comes in pieces.
--   answer_to mode o         the answer to a line that the reader found, or found too long
--   answers mode limit text  the answers to all lines of a text
--   mode_of c                the mode of a checker
--   limit_of c               the most bytes that a line may have
--   counts_of c              the tally so far
--   at_hand_of c             the line at hand
--   owed c text              the answers that are still to come from a text, from the line at hand on
--   next_answer c text       a step over a text: its answer, if a line ends there, the line at hand after it and the text left
--   last_answer c            the answer to the line at hand at the input's end, if there is one
--   checked r c              the step that the program made
--   GoesOn                   a step with an answer takes at least a byte off the text, and one without leaves nothing
--   KeepsRules               the mode and the limit are what they were
--   HasRead c whole left     of the input so far, of which left is not looked at yet, the answers given are counted
use Rattle.std.specs.Prelude.{◌≡◌, ℕ, ◌<◌, List, [], ◌++◌, map, length, Some, None, Err, Option}
use Rattle.std.specs.Borrow.{Bor}
use Rattle.std.specs.Option.{option_map}
use Rattle.events.specs.declared.shapes.Mode.{Mode}
use Rattle.events.specs.Lines.{line_kind}
use Rattle.lines.specs.Lines.{split}
use Rattle.pieces.specs.Reader.{limit, pending}
use Rattle.pieces.specs.Reading.{Pending, Outcome, line, too_long, judged, due, next_line, last_line}
use Rattle.refusal.specs.declared.refusals.Refusal.TheVariants as refusal
use Rattle.checker.specs.declared.checker.LogChecker.{LogChecker}
use Rattle.checker.specs.declared.tally.Tally.{Tally}
use Rattle.checker.specs.Tallies.{Answer, tally_of}

abbrev pub answer_to : Mode → Outcome → Answer
answer_to m (line bytes) = line_kind m bytes
answer_to m too_long = Err refusal.LineTooLong

abbrev pub answers : Mode → ℕ → List ℕ → List Answer
answers m n text = map (answer_to m) (map (judged n) (split text))

abbrev pub mode_of : LogChecker → Mode
mode_of c = c.mode

abbrev pub limit_of : LogChecker → ℕ
limit_of c = limit c.reader

abbrev pub counts_of : LogChecker → Tally
counts_of c = c.tally

abbrev pub at_hand_of : LogChecker → Pending
at_hand_of c = pending c.reader

abbrev pub owed : LogChecker → List ℕ → List Answer
owed c text = map (answer_to (mode_of c)) (due (limit_of c) (at_hand_of c) text)

pub record Checked : Type 0 where
  pub given : Option Answer
  pub at_hand : Pending
  pub left : List ℕ

abbrev pub checked : Option Answer × Bor (List ℕ) → LogChecker → Checked
checked r c = record { given = r.0; at_hand = at_hand_of c; left = r.1.now }

abbrev pub next_answer : LogChecker → List ℕ → Checked
next_answer c text =
    let s = next_line (limit_of c) (at_hand_of c) text in
    record { given = option_map (answer_to (mode_of c)) s.found; at_hand = s.at_hand; left = s.left }

abbrev pub last_answer : LogChecker → Option Answer
last_answer c = option_map (answer_to (mode_of c)) (last_line (limit_of c) (at_hand_of c))

abbrev pub GoesOn : Option Answer → List ℕ → List ℕ → Type 0
GoesOn None left text = left ≡ []
GoesOn (Some a) left text = length left < length text

pub record KeepsRules (old new : LogChecker) : Type 0 where
  pub mode : mode_of new ≡ mode_of old
  pub limit : limit_of new ≡ limit_of old

pub record HasRead (c : LogChecker) (whole left : List ℕ) : Type 0 where
  pub given : List Answer
  -- whatever input follows, the answers to all of it are those given and those owed
  pub rest : (more : List ℕ) → answers (mode_of c) (limit_of c) (whole ++ more) ≡ given ++ owed c (left ++ more)
  pub counts : counts_of c ≡ tally_of given
