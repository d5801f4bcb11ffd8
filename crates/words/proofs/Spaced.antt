-- A line for any list of words: each word and a space after it.
use Rattle.std.proofs.Common.{◌≡◌, ℕ, suc, ◌+◌, ◌<◌, List, [], ◌∷◌, ◌++◌, length, refl, ap, ◌∙◌, arith}
use Rattle.std.specs.List.{AllByRecursion}
use Rattle.std.proofs.ByRecursion.{All-append}
use Rattle.words.specs.Words.{Placed, at, words}
use Rattle.words.proofs.Places.{Plain, word_passed}

abbrev pub spaced : List (List ℕ) → List ℕ
spaced [] = []
spaced (w ∷ ws) = w ++ 32 ∷ spaced ws

-- the words, each where it then stands
abbrev pub placed : ℕ → List (List ℕ) → List Placed
placed p [] = []
placed p (w ∷ ws) = at p w ∷ placed (p + length w + 1) ws

abbrev pub OneWord : List ℕ → Type 0
OneWord w = (0 < length w) × Plain w

first_spaced : (p : ℕ) (w rest : List ℕ) → OneWord w → words p (w ++ 32 ∷ rest) ≡ at p w ∷ words (p + length w + 1) rest
first_spaced p [] rest (some, h) = absurd (omega arith)
first_spaced p (c ∷ cs) rest (some, h) =
    let n : suc (p + suc (length cs)) ≡ p + suc (length cs) + 1 = omega arith in
    word_passed p c cs (32 ∷ rest) h refl ∙ ap (λ n. at p (c ∷ cs) ∷ words n rest) n

pub words-spaced : (p : ℕ) (ws : List (List ℕ)) → AllByRecursion OneWord ws → words p (spaced ws) ≡ placed p ws
words-spaced p [] h = refl
words-spaced p (w ∷ ws) (k, h) = first_spaced p w (spaced ws) k ∙ ap (λ t. at p w ∷ t) (words-spaced (p + length w + 1) ws h)

pub all-spaced : (P : ℕ → Type 0) → P 32 → (ws : List (List ℕ)) → AllByRecursion (AllByRecursion P) ws → AllByRecursion P (spaced ws)
all-spaced P space [] h = tt
all-spaced P space (w ∷ ws) (k, h) = All-append P w (32 ∷ spaced ws) k (space, all-spaced P space ws h)
