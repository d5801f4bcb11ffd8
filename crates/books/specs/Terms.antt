-- Which term an identifier means.
--   shape id                a number sign, then digits of which no zero stands in front of another
--   numbered limit id       the number below the limit that the identifier writes after its number sign
--   NumberedLaws limit      the identifiers of `numbered` are the number sign with the decimal text of a number below the limit
--   place n id ls           the place of the first of the lines ls that is the identifier, counted from n
--   listed text id          the place of the identifier among the lines of the text; an empty one has none
--   ListedLaws text         the place that `listed` gives is the first that holds the identifier, and where it gives none, none does
use Rattle.std.specs.Prelude.{◌≡◌, ℕ, ◌+◌, ◌-◌, ◌<◌, Bool, cond, not, ◌&&◌, ◌||◌, List, [], ◌∷◌, length, drop, Some, None, decimal, Option, ◌==◌, ◌≢◌, nat_lt, slice_index}
use Rattle.std.specs.List.{slice_get}
use Rattle.std.specs.Str.{bytes_eq}
use Rattle.lines.specs.Lines.{split}
use Rattle.numbers.specs.Numeral.{unsigned}

abbrev pub shape : List ℕ → Bool
shape id = nat_lt 1 (length id) && (slice_index id 0 == 35 && (length id == 2 || not (slice_index id 1 == 48)))

abbrev pub numbered : ℕ → List ℕ → Option ℕ
numbered limit id = cond (nat_lt 0 limit && shape id) (unsigned (limit - 1) (drop 1 id)) None

pub record NumberedLaws (limit : ℕ) : Type 0 where
  pub meant : (n : ℕ) → n < limit → numbered limit (35 ∷ decimal n) ≡ Some n
  pub only : (id : List ℕ) (n : ℕ) → numbered limit id ≡ Some n → (n < limit) × (id ≡ 35 ∷ decimal n)

abbrev pub place : ℕ → List ℕ → List (List ℕ) → Option ℕ
place n id [] = None
place n id (l ∷ ls) = cond (bytes_eq l id) (Some n) (place (n + 1) id ls)

abbrev pub listed : List ℕ → List ℕ → Option ℕ
listed text id = cond (length id == 0) None (place 0 id (split text))

pub record ListedLaws (text : List ℕ) : Type 0 where
  pub holds : (id : List ℕ) (k : ℕ) → listed text id ≡ Some k → slice_get (split text) k ≡ Some id
  pub first : (id : List ℕ) (k : ℕ) → listed text id ≡ Some k → (j : ℕ) → j < k → slice_get (split text) j ≢ Some id
  pub none : (id : List ℕ) → 0 < length id → listed text id ≡ None → (j : ℕ) → slice_get (split text) j ≢ Some id
  pub empty : listed text [] ≡ None
