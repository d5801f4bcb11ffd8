-- The fixed words of a line, and bytes at a word's ends.
--   kind_of w       the kind of line that begins with the word
--   keyword_of w    the keyword after an assign's literal
--   literal_word w  how a named literal begins with the word
--   stripped b w    the word without its last byte, if that is b
--   unprefixed b w  the word without its first byte, if that is b
use Rattle.std.specs.Prelude.{ℕ, ◌-◌, cond, ◌&&◌, ◌||◌, List, length, take, drop, Some, None, codes, Option, ◌==◌, nat_lt, slice_index}
use Rattle.std.specs.Str.{bytes_eq}
use Rattle.events.specs.declared.shapes.Keyword.{Keyword}
use Rattle.events.specs.declared.shapes.Keyword.TheVariants as keyword
use Rattle.events.specs.declared.shapes.LineKind.{LineKind}
use Rattle.events.specs.declared.shapes.LineKind.TheVariants as kind
use Rattle.events.specs.declared.shapes.LiteralWord.{LiteralWord}
use Rattle.events.specs.declared.shapes.LiteralWord.TheVariants as literal

abbrev pub kind_of : List ℕ → LineKind
kind_of w =
    cond (bytes_eq w (codes "[assign]")) kind.Assign (cond (bytes_eq w (codes "[decide-and-or]")) kind.DecideAndOr (cond (bytes_eq w (codes "[conflict]")) kind.Conflict
    (cond (bytes_eq w (codes "[push]")) kind.Push (cond (bytes_eq w (codes "[pop]")) kind.Pop (cond (bytes_eq w (codes "[begin-check]")) kind.BeginCheck kind.Other)))))

abbrev pub keyword_of : List ℕ → Keyword
keyword_of w =
    cond (bytes_eq w (codes "decision")) keyword.Decision (cond (bytes_eq w (codes "axiom")) keyword.Axiom (cond (bytes_eq w (codes "bin")) keyword.Bin
    (cond (bytes_eq w (codes "clause")) keyword.Clause (cond (bytes_eq w (codes "justification")) keyword.Justification keyword.Unknown))))

abbrev pub literal_word : List ℕ → LiteralWord
literal_word w = cond (bytes_eq w (codes "true") || bytes_eq w (codes "false")) literal.Constant (cond (bytes_eq w (codes "(not")) literal.Not literal.Id)

abbrev pub stripped : ℕ → List ℕ → Option (List ℕ)
stripped b w = cond (nat_lt 0 (length w) && slice_index w (length w - 1) == b) (Some (take (length w - 1) w)) None

abbrev pub unprefixed : ℕ → List ℕ → Option (List ℕ)
unprefixed b w = cond (nat_lt 0 (length w) && slice_index w 0 == b) (Some (drop 1 w)) None
