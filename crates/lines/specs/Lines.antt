-- A text as lines, cut at the byte 0x0A alone.
--   feed           the byte is 0x0A
--   Plain          no byte is 0x0A
--   split          the lines of a text: an empty text has none, and what follows the last 0x0A is a line unless it is empty
--   line_len       how many bytes stand before the first 0x0A
--   after_line     what follows the first 0x0A
--   first_line     the first line and what follows its 0x0A
--   ended          lines, each followed by 0x0A, joined
--   both_now       the bytes of two slices
--   closed         the text is empty or its last byte is 0x0A
--   Cut            a first line and what follows give the lines of the text
--   Laws           what `split` keeps, and that no other lines do
use Rattle.std.specs.Prelude.{◌≡◌, ℕ, ◌+◌, ◌<◌, Bool, true, false, cond, not, List, [], ◌∷◌, ◌++◌, length, take, drop, Some, None, Option, ◌==◌}
use Rattle.std.specs.List.{prefix_len, flat_map, AllByRecursion}
use Rattle.std.specs.Borrow.{Bor}

abbrev pub feed : ℕ → Bool
feed b = b == 10

abbrev pub Plain : List ℕ → Type 0
Plain bs = AllByRecursion (λ b. feed b ≡ false) bs

abbrev pub onto : ℕ → List (List ℕ) → List (List ℕ)
onto b [] = (b ∷ []) ∷ []
onto b (l ∷ ls) = (b ∷ l) ∷ ls

abbrev pub split : List ℕ → List (List ℕ)
split [] = []
split (b ∷ bs) = cond (feed b) ([] ∷ split bs) (onto b (split bs))

abbrev pub line_len : List ℕ → ℕ
line_len text = prefix_len (λ b. not (feed b)) text

abbrev pub after_line : List ℕ → List ℕ
after_line text = drop (line_len text + 1) text

abbrev pub first_line : List ℕ → Option (List ℕ × List ℕ)
first_line [] = None
first_line (b ∷ bs) = Some (take (line_len (b ∷ bs)) (b ∷ bs), after_line (b ∷ bs))

abbrev pub ended : List (List ℕ) → List ℕ
ended ls = flat_map (λ l. l ++ 10 ∷ []) ls

abbrev pub closed : List ℕ → Bool
closed [] = true
closed (b ∷ []) = feed b
closed (b ∷ c ∷ cs) = closed (c ∷ cs)

abbrev pub both_now : Bor (List ℕ) × Bor (List ℕ) → List ℕ × List ℕ
both_now p = (p.0.now, p.1.now)

abbrev pub Cut : List ℕ → Option (List ℕ × List ℕ) → Type 0
Cut text None = split text ≡ []
Cut text (Some p) = (split text ≡ p.0 ∷ split p.1) × (length p.1 < length text)

pub record Laws (text : List ℕ) : Type 0 where
  -- no line holds 0x0A
  pub plain : AllByRecursion Plain (split text)
  -- nothing is lost: the lines, each ended, are the text, which gets the one 0x0A that it may lack at its end
  pub whole : ended (split text) ≡ cond (closed text) text (text ++ 10 ∷ [])
  -- no other lines do both
  pub only : (ls : List (List ℕ)) → AllByRecursion Plain ls → ended ls ≡ cond (closed text) text (text ++ 10 ∷ []) → ls ≡ split text
