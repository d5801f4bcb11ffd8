-- The words of a text: one after the other, by the next word, and each a part of the text at its place.
use Rattle.std.proofs.Common.{◌≡◌, ℕ, suc, ◌+◌, ◌-◌, ◌<◌, Bool, true, false, cond, not, List, [], ◌∷◌, ◌++◌, length, get_or, take, drop, sym, refl, ap, ◌∙◌, subst, ⊎_elim, append_assoc, add-zero, arith}
use Rattle.std.specs.List.{AllByRecursion}
use Rattle.std.proofs.lemmas.List.{length-append, length-drop, take-append-drop, drop_at, drop-drop}
use Rattle.std.proofs.ByRecursion.{All-weaker}
use Rattle.std.proofs.lemmas.Bool.{not-true, false≢true, cond_both, eq-eqb, ne_eqb, cases_lt}
use Rattle.words.specs.Words.{separator, Cut, Placed, at, starts, begun, words, words_by, Stands}

abbrev pub Blank : List ℕ → Type 0
Blank = AllByRecursion (λ b. separator b ≡ true)

abbrev pub Plain : List ℕ → Type 0
Plain = AllByRecursion (λ b. separator b ≡ false)

-- separators are passed over
pub gap_passed : (p : ℕ) (gap text : List ℕ) → Blank gap → words p (gap ++ text) ≡ words (p + length gap) text
gap_passed p [] text h = ap (λ n. words n text) (sym (add-zero p))
gap_passed p (b ∷ gap) text (e, h) =
    let n : suc p + length gap ≡ p + suc (length gap) = omega arith in
    ap (λ t. cond t (words (suc p) (gap ++ text)) (begun p b (starts (gap ++ text)) (words (suc p) (gap ++ text)))) e ∙ gap_passed (suc p) gap text h ∙ ap (λ n. words n text) n

-- a run of letters is one word, if no letter follows at once
pub word_passed : (p c : ℕ) (cs rest : List ℕ) → Plain (c ∷ cs) → starts rest ≡ false → words p ((c ∷ cs) ++ rest) ≡ at p (c ∷ cs) ∷ words (p + suc (length cs)) rest
word_passed p c [] rest (e, h) s =
    let n : suc p ≡ p + 1 = omega arith in
    ap (λ t. cond t (words (suc p) rest) (begun p c (starts rest) (words (suc p) rest))) e ∙ ap (λ t. begun p c t (words (suc p) rest)) s ∙ ap (λ n. at p (c ∷ []) ∷ words n rest) n
word_passed p c (d ∷ ds) rest (e, (f, h)) s =
    let more = (d ∷ ds) ++ rest in
    let n : suc p + suc (length ds) ≡ p + suc (suc (length ds)) = omega arith in
    ap (λ t. cond t (words (suc p) more) (begun p c (starts more) (words (suc p) more))) e ∙ ap (λ t. begun p c (not t) (words (suc p) more)) f
    ∙ ap (begun p c true) (word_passed (suc p) d ds rest (f, h) s) ∙ ap (λ n. at p (c ∷ d ∷ ds) ∷ words n rest) n

-- separators, a word and a rest
pub next_passed : (p : ℕ) (gap word rest : List ℕ) → Blank gap → Plain word → 0 < length word → starts rest ≡ false
    → words p (gap ++ (word ++ rest)) ≡ at (p + length gap) word ∷ words (p + length gap + length word) rest
next_passed p gap [] rest b h some s = absurd (omega arith)
next_passed p gap (c ∷ cs) rest b h some s = gap_passed p gap ((c ∷ cs) ++ rest) b ∙ word_passed (p + length gap) c cs rest h s

-- a text starts no word if it is empty or begins with a separator
pub starts_none : (rest : List ℕ) → (0 < length rest → separator (get_or rest 0 0) ≡ true) → starts rest ≡ false
starts_none [] h = refl
starts_none (b ∷ bs) h = ap not (h (omega arith))

module _ (p : ℕ) (line word rest : List ℕ) (cut : Cut line word rest) where
  pub cut_none : length word ≡ 0 → words p line ≡ []
  cut_none none =
      let gap = cut.whole.0 in
      let empty = cut.none none in
      ap (words p) (sym cut.whole.2) ∙ gap_passed p gap (word ++ rest) cut.whole.1 ∙ ap (λ t. words (p + length gap) (word ++ t)) empty ∙ nil word none
    where
      nil : (w : List ℕ) → length w ≡ 0 → words (p + length cut.whole.0) (w ++ []) ≡ []
      nil [] e = refl
      nil (x ∷ xs) e = absurd (omega arith)

  pub cut_some : 0 < length word → words p line ≡ at (p + length line - length rest - length word) word ∷ words (p + length line - length rest) rest
  cut_some some =
      let gap = cut.whole.0 in
      let long = ap length cut.whole.2 in
      let inner = length-append gap (word ++ rest) in
      let outer = length-append word rest in
      let m : p + length gap ≡ p + length line - length rest - length word = omega arith in
      let n : p + length gap + length word ≡ p + length line - length rest = omega arith in
      ap (words p) (sym cut.whole.2) ∙ next_passed p gap word rest cut.whole.1 cut.plain some (starts_none rest cut.stops)
      ∙ (λ i. at (m i) word ∷ words (n i) rest)

-- the first word of a text that begins with it
record First (p : ℕ) (text : List ℕ) : Type 0 where
  pub word : List ℕ
  pub more : List Placed
  pub is : words p text ≡ at p word ∷ more
  pub part : take (length word) text ≡ word

first_step : (u : Bool) (p b : ℕ) (bs : List ℕ) → separator b ≡ false → starts bs ≡ u → (u ≡ true → First (suc p) bs) → First p (b ∷ bs)
first_step false p b bs e f h = record {
  word = b ∷ [];
  more = words (suc p) bs;
  is = λ i. cond (e i) (words (suc p) bs) (begun p b (f i) (words (suc p) bs));
  part = refl;
}
first_step true p b bs e f h = record {
  word = b ∷ (h refl).word;
  more = (h refl).more;
  is = λ i. cond (e i) (words (suc p) bs) (begun p b (f i) ((h refl).is i));
  part = ap (λ t. b ∷ t) (h refl).part;
}

first : (p : ℕ) (text : List ℕ) → starts text ≡ true → First p text
first p [] s = absurd (false≢true s)
first p (b ∷ bs) s = first_step (starts bs) p b bs (not-true (separator b) s) refl (first (suc p) bs)

later : (p b : ℕ) (bs : List ℕ) (w : Placed) → Stands (suc p) bs w → Stands p (b ∷ bs) w
later p b bs w (above, part) =
    let n : w.place - p ≡ suc (w.place - suc p) = omega arith in
    (omega arith, ap (λ n. take (length w.letters) (drop n (b ∷ bs))) n ∙ part)

here : (p : ℕ) (text word : List ℕ) → take (length word) text ≡ word → Stands p text (at p word)
here p text word part = let n : p - p ≡ 0 = omega arith in (omega arith, ap (λ n. take (length word) (drop n text)) n ∙ part)

begun_stands : (u : Bool) (p b : ℕ) (bs : List ℕ) → starts bs ≡ u → AllByRecursion (Stands (suc p) bs) (words (suc p) bs) → AllByRecursion (Stands p (b ∷ bs)) (begun p b u (words (suc p) bs))
begun_stands false p b bs f h = (here p (b ∷ bs) (b ∷ []) refl, All-weaker (Stands (suc p) bs) (Stands p (b ∷ bs)) (later p b bs) (words (suc p) bs) h)
begun_stands true p b bs f h =
    let one = first (suc p) bs f in
    let rest = subst (AllByRecursion (Stands (suc p) bs)) one.is h in
    subst (λ ws. AllByRecursion (Stands p (b ∷ bs)) (begun p b true ws)) (sym one.is)
    (here p (b ∷ bs) (b ∷ one.word) (ap (λ t. b ∷ t) one.part), All-weaker (Stands (suc p) bs) (Stands p (b ∷ bs)) (later p b bs) one.more rest.1)

pub words_stand : (p : ℕ) (text : List ℕ) → AllByRecursion (Stands p text) (words p text)
words_stand p [] = tt
words_stand p (b ∷ bs) =
    cond_both (separator b) (words (suc p) bs) (begun p b (starts bs) (words (suc p) bs)) (AllByRecursion (Stands p (b ∷ bs)))
    (λ _. All-weaker (Stands (suc p) bs) (Stands p (b ∷ bs)) (later p b bs) (words (suc p) bs) (words_stand (suc p) bs))
    (λ _. begun_stands (starts bs) p b bs refl (words_stand (suc p) bs))

-- the words left of a line from place p on, by the next word of what is left
module _ (p : ℕ) (line text word rest : List ℕ) (is : text ≡ drop p line) (cut : Cut text word rest) where
  left_none : length word ≡ 0 → [] ≡ words p (drop p line)
  left_none none = sym (cut_none p text word rest cut none) ∙ ap (words p) is

  long : length text ≡ length cut.whole.0 + (length word + length rest)
  long = ap length (sym cut.whole.2) ∙ length-append cut.whole.0 (word ++ rest) ∙ ap (λ n. length cut.whole.0 + n) (length-append word rest)

  rest_is : drop (length line - length rest) line ≡ rest
  rest_is =
      let front = take p line ++ (cut.whole.0 ++ word) in
      let whole : front ++ rest ≡ line = append_assoc (take p line) (cut.whole.0 ++ word) rest ∙ ap (λ t. take p line ++ t) (append_assoc cut.whole.0 word rest ∙ cut.whole.2 ∙ is) ∙ take-append-drop p line in
      let n : length front ≡ length line - length rest = omega (arith, ap length whole, length-append front rest) in
      ap (drop (length line - length rest)) (sym whole) ∙ drop_at front rest (length line - length rest) n

  left_some : 0 < length word → at (length line - length rest - length word) word ∷ words (length line - length rest) (drop (length line - length rest) line) ≡ words p (drop p line)
  left_some some =
      let m : p + length text - length rest ≡ length line - length rest = omega (arith, long, ap length is, length-drop p line) in
      sym (ap (words p) (sym is) ∙ cut_some p text word rest cut some ∙ (λ i. at (m i - length word) word ∷ words (m i) (sym rest_is i)))

  pub left_by : words_by line word (length line - length rest) ≡ words p (drop p line)
  left_by =
      ⊎_elim
      (λ some. ap (λ t. cond t [] (at (length line - length rest - length word) word ∷ words (length line - length rest) (drop (length line - length rest) line))) (ne_eqb (length word) 0 (λ e. omega arith)) ∙ left_some some)
      (λ h. let none : length word ≡ 0 = omega arith in ap (λ t. cond t [] (at (length line - length rest - length word) word ∷ words (length line - length rest) (drop (length line - length rest) line))) (eq-eqb (length word) 0 none) ∙ left_none none)
      (cases_lt 0 (length word))

-- each word that is left stands in the line
from_start : (p : ℕ) (line : List ℕ) (w : Placed) → Stands p (drop p line) w → Stands 0 line w
from_start p line w (above, part) =
    let n : p + (w.place - p) ≡ w.place - 0 = omega arith in
    (omega arith, ap (λ k. take (length w.letters) (drop k line)) (sym n) ∙ ap (take (length w.letters)) (sym (drop-drop (w.place - p) p line)) ∙ part)

pub left_stand : (p : ℕ) (line : List ℕ) → AllByRecursion (Stands 0 line) (words p (drop p line))
left_stand p line = All-weaker (Stands p (drop p line)) (Stands 0 line) (from_start p line) (words p (drop p line)) (words_stand p (drop p line))
