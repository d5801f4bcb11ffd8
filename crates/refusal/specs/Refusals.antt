-- The numbered list of refusals: each with its number, its name and its place.
--   entry_of r    the number, the name's bytes and the place, in one list
--   number_of r, name_of r, place_of r    the parts of the entry
use Rattle.std.specs.Prelude.{List, ℕ, codes}
use Rattle.refusal.specs.declared.refusals.Refusal.{Refusal}
use Rattle.refusal.specs.declared.refusals.Refusal.TheVariants as refusal

pub record Entry : Type 0 where
  pub number : ℕ
  pub name : List ℕ
  pub place : ℕ

abbrev entry : ℕ → List ℕ → ℕ → Entry
entry n name p = record { number = n; name = name; place = p }

abbrev pub entry_of : Refusal → Entry
entry_of (refusal.UnexpectedNewline p) = entry 1 (codes "UnexpectedNewline") p
entry_of (refusal.ExpectedNewline p) = entry 2 (codes "ExpectedNewline") p
entry_of (refusal.BoolLiteral p) = entry 3 (codes "BoolLiteral") p
entry_of (refusal.TupleMissingParens p) = entry 4 (codes "TupleMissingParens") p
entry_of (refusal.InvalidBoolLiteral p) = entry 5 (codes "InvalidBoolLiteral") p
entry_of (refusal.BoolLiteralNotP p) = entry 6 (codes "BoolLiteralNotP") p
entry_of (refusal.MissingColonJustification p) = entry 7 (codes "MissingColonJustification") p
entry_of (refusal.InvalidTheoryId p) = entry 8 (codes "InvalidTheoryId") p
entry_of (refusal.UnknownJustification p) = entry 9 (codes "UnknownJustification") p
entry_of (refusal.InvalidFrameInteger p) = entry 10 (codes "InvalidFrameInteger") p
entry_of (refusal.DecisionNotAxiom p) = entry 11 (codes "DecisionNotAxiom") p
entry_of refusal.LineTooLong = entry 12 (codes "LineTooLong") 0
entry_of refusal.StackFrameNotPushed = entry 13 (codes "StackFrameNotPushed") 0
entry_of refusal.ConflictPending = entry 14 (codes "ConflictPending") 0
entry_of refusal.LeafNotActive = entry 15 (codes "LeafNotActive") 0
entry_of refusal.PopTooDeep = entry 16 (codes "PopTooDeep") 0
entry_of refusal.LeafStands = entry 17 (codes "LeafStands") 0
entry_of refusal.NoFrameBelow = entry 18 (codes "NoFrameBelow") 0
entry_of (refusal.UnknownId p) = entry 19 (codes "UnknownId") p
entry_of (refusal.TermTooLarge p) = entry 20 (codes "TermTooLarge") p
entry_of (refusal.TableFull t) = entry 21 (codes "TableFull") 0
entry_of refusal.BadTables = entry 22 (codes "BadTables") 0
entry_of refusal.BadNumber = entry 23 (codes "BadNumber") 0

abbrev pub number_of : Refusal → ℕ
number_of r = (entry_of r).number

abbrev pub name_of : Refusal → List ℕ
name_of r = (entry_of r).name

abbrev pub place_of : Refusal → ℕ
place_of r = (entry_of r).place
