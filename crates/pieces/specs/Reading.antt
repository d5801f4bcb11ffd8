-- Lines of an input that comes in pieces, under a limit on a line's bytes.
--   Pending       the line at hand as far as it came: `kept` has its bytes, and `over` says that they are more than the limit
--   Carried       the value of a reader: what stands in the carry memory, and the line at hand
--   HasRoom       what is kept of the line at hand is no more than the limit
--   Outcome       a line that ended: `line` has its bytes, and `too_long` says that they are more than the limit
--   judged        a whole line by the limit
--   resumed       the lines of a text whose first line began earlier with some bytes
--   due           what is still to come of an input, from the line at hand on
--   grown         the line at hand with more bytes
--   handed        the line at hand, at its end
--   next_line     one step over a text: the line that ends in it, if one does, the line at hand after it, and the text that is left
--   Hands         a step hands out what is due next, whatever input follows
--   last_line     the line at hand at the input's end, if there is one
--   over_piece    the steps over one piece: the lines that end in it, and the line at hand after it
--   over_pieces   the lines of an input in pieces, to its end
--   and_on        a step, and then the rest of the steps
--   Reads         the lines of an input in pieces are those of the whole
use Rattle.std.specs.Prelude.{◌≡◌, ℕ, zero, suc, ◌+◌, ◌≤◌, cond, List, [], ◌∷◌, ◌++◌, map, length, take, Some, None, Option, nat_le, nat_lt}
use Rattle.std.specs.List.{flat_map}
use Rattle.std.specs.Option.{option_to_list}
use Rattle.lines.specs.Lines.{Plain, split, line_len, after_line}

pub data Pending : Type 0 where
  kept : List ℕ → Pending
  over : Pending

abbrev pub HasRoom : ℕ → Pending → Type 0
HasRoom limit (kept bytes) = length bytes ≤ limit
HasRoom limit over = Unit {0}

pub record Carried : Type 0 where
  pub carry : List ℕ
  pub at_hand : Pending

pub data Outcome : Type 0 where
  line : List ℕ → Outcome
  too_long : Outcome

abbrev pub judged : ℕ → List ℕ → Outcome
judged limit bytes = cond (nat_le (length bytes) limit) (line bytes) too_long

abbrev pub resumed : List ℕ → List ℕ → List (List ℕ)
resumed [] text = split text
resumed (b ∷ bs) text = ((b ∷ bs) ++ take (line_len text) text) ∷ split (after_line text)

abbrev pub due : ℕ → Pending → List ℕ → List Outcome
due limit (kept bytes) input = map (judged limit) (resumed bytes input)
due limit over input = too_long ∷ map (judged limit) (split (after_line input))

abbrev pub grown : ℕ → Pending → List ℕ → Pending
grown limit (kept bytes) more = cond (nat_le (length bytes + length more) limit) (kept (bytes ++ more)) over
grown limit over more = over

abbrev pub handed : Pending → Outcome
handed (kept bytes) = line bytes
handed over = too_long

pub record Step : Type 0 where
  pub found : Option Outcome
  pub at_hand : Pending
  pub left : List ℕ

abbrev pub next_line : ℕ → Pending → List ℕ → Step
next_line limit p text =
    cond (nat_lt (line_len text) (length text))
    (record { found = Some (handed (grown limit p (take (line_len text) text))); at_hand = kept []; left = after_line text })
    (record { found = None; at_hand = grown limit p text; left = [] })

abbrev pub Hands : ℕ → Pending → List ℕ → Step → Type 0
Hands limit p text s = (more : List ℕ) → due limit p (text ++ more) ≡ option_to_list s.found ++ due limit s.at_hand (s.left ++ more)

abbrev pub last_line : ℕ → Pending → Option Outcome
last_line limit (kept []) = None
last_line limit (kept (b ∷ bs)) = Some (judged limit (b ∷ bs))
last_line limit over = Some too_long

abbrev pub and_on : Option Outcome → Pending → List Outcome × Pending → List Outcome × Pending
and_on None p rest = ([], p)
and_on (Some o) p rest = (o ∷ rest.0, rest.1)

-- the first number bounds the steps: each but the last takes a byte off the text
abbrev pub over_piece : ℕ → ℕ → Pending → List ℕ → List Outcome × Pending
over_piece zero limit p text = ([], p)
over_piece (suc n) limit p text =
    let s = next_line limit p text in and_on s.found s.at_hand (over_piece n limit s.at_hand s.left)

abbrev pub over_pieces : ℕ → Pending → List (List ℕ) → List Outcome
over_pieces limit p [] = option_to_list (last_line limit p)
over_pieces limit p (piece ∷ pieces) =
    let s = over_piece (suc (length piece)) limit p piece in s.0 ++ over_pieces limit s.1 pieces

pub record Reads (limit : ℕ) : Type 0 where
  -- however an input is cut into pieces, the lines handed out and refused are those of the whole input
  pub whole : (pieces : List (List ℕ)) → over_pieces limit (kept []) pieces ≡ map (judged limit) (split (flat_map (λ (p : List ℕ). p) pieces))
  -- a line goes on from its first bytes as if they stood before the text
  pub resumes : (bytes text : List ℕ) → Plain bytes → resumed bytes text ≡ split (bytes ++ text)
