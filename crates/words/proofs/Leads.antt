-- The longest front that passes a test, and what taking a word keeps.
use Rattle.std.proofs.Common.{◌≡◌, ℕ, ◌+◌, ◌<◌, Bool, true, false, cond, List, [], ◌∷◌, ◌++◌, length, get_or, take, drop, refl, sym, subst, ap, ◌∙◌, ⊎_elim, one-add, arith}
use Rattle.std.specs.List.{prefix_len, AllByRecursion}
use Rattle.std.proofs.lemmas.List.{take-append-drop, length-take-le, length-drop, nil_from_length}
use Rattle.std.proofs.ByRecursion.{All-weaker}
use Rattle.std.proofs.lemmas.List.Sums.{prefix_len-le-length}
use Rattle.std.proofs.lemmas.Bool.{not-true, not-false, both_ways, cases_lt}
use Rattle.words.specs.Words.{separator, letter, blanks, next_word, Cut}

module _ (p : ℕ → Bool) where
  abbrev Passes : ℕ → Type 0
  Passes b = p b ≡ true

  abbrev Stops : List ℕ → Type 0
  Stops bs = 0 < length bs → p (get_or bs 0 0) ≡ false

  front_step : (t : Bool) (n x : ℕ) (xs : List ℕ) → p x ≡ t → AllByRecursion Passes (take n xs) → AllByRecursion Passes (take (cond t (1 + n) 0) (x ∷ xs))
  front_step true n x xs e h = rw one-add (e, h)
  front_step false n x xs e h = tt

  pub front_passes : (xs : List ℕ) → AllByRecursion Passes (take (prefix_len p xs) xs)
  front_passes [] = tt
  front_passes (x ∷ xs) = front_step (p x) (prefix_len p xs) x xs refl (front_passes xs)

  rest_step : (t : Bool) (n x : ℕ) (xs : List ℕ) → p x ≡ t → Stops (drop n xs) → Stops (drop (cond t (1 + n) 0) (x ∷ xs))
  rest_step true n x xs e h = rw one-add h
  rest_step false n x xs e h = λ _. e

  pub rest_stops : (xs : List ℕ) → Stops (drop (prefix_len p xs) xs)
  rest_stops [] = λ h. absurd (omega arith)
  rest_stops (x ∷ xs) = rest_step (p x) (prefix_len p xs) x xs refl (rest_stops xs)

-- a text that begins with no separator has an empty word only where it is empty
no_word : (text : List ℕ) → (0 < length text → separator (get_or text 0 0) ≡ false) → length (take (prefix_len letter text) text) ≡ 0 → drop (prefix_len letter text) text ≡ []
no_word text starts none =
    let fits = prefix_len-le-length letter text in
    let zero-long : prefix_len letter text ≡ 0 = omega (arith, length-take-le (prefix_len letter text) text fits) in
    let stops = rw zero-long at (rest_stops letter text) in
    rw zero-long (nil_from_length text (⊎_elim
    (λ some. absurd (both_ways (separator (get_or text 0 0)) (starts some) (not-false _ (stops some))))
    (λ h. omega arith)
    (cases_lt 0 (length text))))

pub next_word_cuts : (line : List ℕ) → Cut line (next_word line).0 (next_word line).1
next_word_cuts line =
    let text : List ℕ = drop (blanks line) line in
    let n : ℕ = prefix_len letter text in
    let n-fits = prefix_len-le-length letter text in
    let b-fits = prefix_len-le-length separator line in
    let word-long = length-take-le n text n-fits in
    let rest-long = length-drop n text in
    let text-long = length-drop (blanks line) line in
    record {
      whole = (take (blanks line) line, front_passes separator line, ap (λ t. take (blanks line) line ++ t) (take-append-drop n text) ∙ take-append-drop (blanks line) line);
      plain = All-weaker (λ b. letter b ≡ true) (λ b. separator b ≡ false) (λ b. not-true (separator b)) _ (front_passes letter text);
      stops = λ some. not-false _ (rest_stops letter text some);
      none = no_word text (rest_stops separator line);
      shorter = λ some. omega arith;
    }

pub cut_by : (line word rest : List ℕ) → (word, rest) ≡ next_word line → Cut line word rest
cut_by line word rest e = subst (λ (p : List ℕ × List ℕ). Cut line p.0 p.1) (sym e) (next_word_cuts line)
