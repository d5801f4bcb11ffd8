-- Laws of reading a line, in words of the line.
--   Steady read      a refusal is of the line's end, or blames a word: whatever follows that word, the refusal is the same
--   Names line r     the words that an answer names are parts of the line, at the places told
--   NamedPart        the same of a literal that the cursor gives
--   NumberedAlike    the kind that a line is told to be has the number of its event's case
--   Id id v          the id can stand in a named literal of that value
--   InRange r        the numbers of a reason are in their range
--   Says s           some line of bytes says s
--   Reached          for each kind of event and all values that it may hold there is a line of bytes that gives it
use Rattle.std.specs.Prelude.{◌≡◌, ℕ, ◌^◌, ◌<◌, Bool, true, false, ◌⊎◌, List, ◌++◌, map, length, Some, None, Ok, Err, Option, Result, FitsSigned}
use Rattle.std.specs.Int.{w32}
use Rattle.std.specs.List.{AllByRecursion}
use Rattle.refusal.specs.Refusals.{place_of}
use Rattle.refusal.specs.declared.refusals.Refusal.{Refusal}
use Rattle.refusal.specs.declared.refusals.Refusal.TheVariants as refusal
use Rattle.words.specs.Words.{separator, starts, Placed, at, Stands}
use Rattle.events.specs.declared.shapes.LineKind.{LineKind}
use Rattle.events.specs.declared.shapes.LiteralWord.TheVariants as literal
use Rattle.events.specs.declared.shapes.Mode.{Mode}
use Rattle.events.specs.declared.shapes.Reason.{Reason}
use Rattle.events.specs.declared.shapes.Reason.TheVariants as reason
use Rattle.events.specs.declared.shapes.SolverLiteral.{SolverLiteral}
use Rattle.events.specs.declared.shapes.SolverLiteral.TheVariants as lit
use Rattle.events.specs.Keywords.{literal_word}
use Rattle.events.specs.Lines.{Said, other, assign, decide_and_or, conflict, push, pop, begin_check, event_of, line_kind, number_of_case, number_of_kind}
use Rattle.events.specs.Literals.{Named, valued, literals}
use Rattle.events.specs.Reasons.{reason_of}

-- the line is something, the word at fault, and what follows it
pub record Blamed {A : Type 0} (read : List ℕ → Result A Refusal) (line : List ℕ) (r : Refusal) : Type 0 where
  pub front : List ℕ
  pub word : List ℕ
  pub rest : List ℕ
  pub whole : front ++ (word ++ rest) ≡ line
  -- the place told is that of the word's first byte
  pub place : length front ≡ place_of r
  pub some : 0 < length word
  pub plain : AllByRecursion (λ b. separator b ≡ false) word
  pub apart : starts rest ≡ false
  pub steady : (more : List ℕ) → starts more ≡ false → read (front ++ (word ++ more)) ≡ Err r

abbrev pub Steady : {A : Type 0} → (List ℕ → Result A Refusal) → Type 0
Steady read = (line : List ℕ) (r : Refusal) → read line ≡ Err r → (r ≡ refusal.UnexpectedNewline (length line)) ⊎ Blamed read line r

abbrev pub Names : List ℕ → Result Said Refusal → Type 0
Names line (Ok other) = Unit {0}
Names line (Ok (assign n end ws)) = Stands 0 line n.id × AllByRecursion (Stands 0 line) ws
Names line (Ok decide_and_or) = Unit {0}
Names line (Ok (conflict end ws)) = AllByRecursion (Stands 0 line) ws
Names line (Ok (push s)) = Unit {0}
Names line (Ok (pop n s)) = Unit {0}
Names line (Ok (begin_check s)) = Unit {0}
Names line (Err e) = Unit {0}

abbrev pub NamedPart : List ℕ → Result (Option Named) Refusal → Type 0
NamedPart line (Ok None) = Unit {0}
NamedPart line (Ok (Some n)) = Stands 0 line n.id
NamedPart line (Err e) = Unit {0}

-- a byte, and one that can stand in a word
abbrev pub Byte : ℕ → Type 0
Byte b = b < 256

abbrev pub Letter : ℕ → Type 0
Letter b = (separator b ≡ false) × Byte b

-- the ids that a named literal can have: words; after `(not` also the empty one
abbrev pub Id : List ℕ → Bool → Type 0
Id id true = AllByRecursion Letter id × (0 < length id) × (literal_word id ≡ literal.Id)
Id id false = AllByRecursion Letter id

-- the numbers that a reason can hold
abbrev pub InRangeLiteral : SolverLiteral → Type 0
InRangeLiteral (lit.Constant v) = Unit {0}
InRangeLiteral (lit.Variable n v) = (0 < n) × (n < 2 ^ 32)

abbrev pub InRange : Reason → Type 0
InRange reason.Decision = Unit {0}
InRange reason.Axiom = Unit {0}
InRange (reason.Bin l) = InRangeLiteral l
InRange (reason.Clause l) = InRangeLiteral l
InRange (reason.Theory z) = FitsSigned w32 z

-- the ids and values of named literals, without their places
abbrev pub unplaced : Named → List ℕ × Bool
unplaced n = (n.id.letters, n.value)

abbrev pub all_unplaced : Result (List Named) Refusal → Result (List (List ℕ × Bool)) Refusal
all_unplaced (Ok ns) = Ok (map unplaced ns)
all_unplaced (Err e) = Err e

abbrev pub NumberedAlike : Mode → List ℕ → Type 0
NumberedAlike m line = (s : Said) (k : LineKind) → event_of line ≡ Ok s → line_kind m line ≡ Ok k → number_of_kind k ≡ number_of_case s

abbrev pub Says : Said → Type 0
Says s = (line : List ℕ) × AllByRecursion Byte line × (event_of line ≡ Ok s)

pub record Reached : Type 0 where
  pub others : Says other
  pub assigns : (m : Mode) (id : List ℕ) (v : Bool) (r : Reason) → Id id v → InRange r
      → (place : ℕ) × (end : ℕ) × (ws : List Placed) × Says (assign (valued (at place id) v) end ws) × (reason_of m end ws ≡ Ok r)
  pub decides : Says decide_and_or
  pub conflicts : (ls : List (List ℕ × Bool)) → AllByRecursion (λ l. Id l.0 l.1) ls
      → (end : ℕ) × (ws : List Placed) × Says (conflict end ws) × (all_unplaced (literals end ws) ≡ Ok ls)
  pub pushes : (s : ℕ) → s < 2 ^ 64 → Says (push s)
  pub pops : (n s : ℕ) → 0 < n → n < 2 ^ 64 → s < 2 ^ 64 → Says (pop n s)
  pub checks : (s : ℕ) → s < 2 ^ 64 → Says (begin_check s)
