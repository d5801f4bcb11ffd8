-- A line as words between separators, each word at its place.
--   separator b      the byte is a space, tab, line feed, form feed or carriage return
--   next_word line   the first word, empty where none is left, and the rest of the line
--   Cut              what taking a word keeps of the line
--   Placed           a word, and the place of its first byte in the line, counted from 0
--   words p text     the words of a text that begins at place p of its line
--   Stands p text w  the word w is a part of the text, at its place
use Rattle.std.specs.Prelude.{◌≡◌, ℕ, suc, ◌-◌, ◌<◌, ◌≤◌, Bool, true, false, cond, not, ◌||◌, List, [], ◌∷◌, ◌++◌, length, take, drop, ◌==◌, slice_index}
use Rattle.std.specs.List.{prefix_len, AllByRecursion}

abbrev pub separator : ℕ → Bool
separator b = b == 32 || (b == 9 || (b == 10 || (b == 12 || b == 13)))

abbrev pub blanks : List ℕ → ℕ
blanks = prefix_len separator

abbrev pub letter : ℕ → Bool
letter b = not (separator b)

abbrev pub next_word : List ℕ → List ℕ × List ℕ
next_word line = let text = drop (blanks line) line in (take (prefix_len letter text) text, drop (prefix_len letter text) text)

pub record Cut (line word rest : List ℕ) : Type 0 where
  -- separators, word and rest joined give the line
  pub whole : (gap : List ℕ) × AllByRecursion (λ b. separator b ≡ true) gap × (gap ++ (word ++ rest) ≡ line)
  -- a word has no separator
  pub plain : AllByRecursion (λ b. separator b ≡ false) word
  -- the word is as long as can be
  pub stops : 0 < length rest → separator (slice_index rest 0) ≡ true
  -- no word is left only where nothing is
  pub none : length word ≡ 0 → rest ≡ []
  pub shorter : 0 < length word → length rest < length line

pub record Placed : Type 0 where
  pub place : ℕ
  pub letters : List ℕ

abbrev pub at : ℕ → List ℕ → Placed
at p w = record { place = p; letters = w }

-- a letter follows at once
abbrev pub starts : List ℕ → Bool
starts [] = false
starts (b ∷ bs) = letter b

-- the words once the letter b at place p is put before them: into the first word, if that follows at once
abbrev pub begun : ℕ → ℕ → Bool → List Placed → List Placed
begun p b false ws = at p (b ∷ []) ∷ ws
begun p b true [] = at p (b ∷ []) ∷ []
begun p b true (w ∷ ws) = at p (b ∷ w.letters) ∷ ws

abbrev pub words : ℕ → List ℕ → List Placed
words p [] = []
words p (b ∷ bs) = cond (separator b) (words (suc p) bs) (begun p b (starts bs) (words (suc p) bs))

-- the words of a line from a place on, by the next one, which is empty where none is left, and the place after it
abbrev pub words_by : List ℕ → List ℕ → ℕ → List Placed
words_by line word after = cond (length word == 0) [] (at (after - length word) word ∷ words after (drop after line))

abbrev pub Stands : ℕ → List ℕ → Placed → Type 0
Stands p text w = (p ≤ w.place) × (take (length w.letters) (drop (w.place - p) text) ≡ w.letters)
