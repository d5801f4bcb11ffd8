-- The first place of a line among lines.
use Rattle.std.proofs.Common.{zero-add, ◌≡◌, ℕ, zero, suc, ◌+◌, ◌<◌, ◌≤◌, Bool, true, false, cond, not, ltb, eqb, List, [], ◌∷◌, length, Some, None, Option, sym, refl, ap, ◌∙◌, ⊎_elim, arith}
use Rattle.std.specs.List.{slice_get, position, position_or_len}
use Rattle.std.specs.Option.{option_map}
use Rattle.std.specs.Str.{bytes_eq}
use Rattle.std.proofs.lemmas.Bool.Decides.{nat_tests}
use Rattle.std.proofs.lemmas.Slice.Eq.{bytes_eq-Decides}
use Rattle.std.proofs.lemmas.Bool.{both_ways, cases_Bool, cond-false, ne_eqb}
use Rattle.lines.specs.Lines.{feed, onto, split}
use Rattle.books.specs.Terms.{place, listed, ListedLaws}

-- j places on from n stands the line, and not before
record First (n : ℕ) (id : List ℕ) (ls : List (List ℕ)) (k : ℕ) : Type 0 where
  on : ℕ
  is : k ≡ n + on
  holds : slice_get ls on ≡ Some id
  before : (j : ℕ) → j < on → slice_get ls j ≡ Some id → ⊥

no_match : (l id : List ℕ) → bytes_eq l id ≡ false → ◌≡◌ {A = Option (List ℕ)} (Some l) (Some id) → ⊥
no_match l id differ e = both_ways (bytes_eq l id) differ ((bytes_eq-Decides l id).1 (cc))

here : (n : ℕ) (id l : List ℕ) (ls : List (List ℕ)) (k : ℕ) → bytes_eq l id ≡ true → n ≡ k → First n id (l ∷ ls) k
here n id l ls k equal e =
    record { on = 0; is = omega arith; holds = ap Some ((bytes_eq-Decides l id).0 equal); before = λ j lt. absurd (omega arith) }

later : (n : ℕ) (id l : List ℕ) (ls : List (List ℕ)) (k : ℕ) → bytes_eq l id ≡ false → First (n + 1) id ls k → First n id (l ∷ ls) k
later n id l ls k differ f =
    record { on = suc f.on; is = omega (arith, f.is); holds = f.holds; before = before }
  where
    before : (j : ℕ) → j < suc f.on → slice_get (l ∷ ls) j ≡ Some id → ⊥
    before zero lt e = no_match l id differ e
    before (suc j) lt e = f.before j (omega arith) e

place_some : (n : ℕ) (id : List ℕ) (ls : List (List ℕ)) (k : ℕ) → place n id ls ≡ Some k → First n id ls k
place_some n id [] k e = let never : ⊥ = grind arith in absurd never
place_some n id (l ∷ ls) k e =
    ⊎_elim
    (λ equal. here n id l ls k equal (grind arith))
    (λ differ. later n id l ls k differ (place_some (n + 1) id ls k (sym (cond-false (bytes_eq l id) (Some n) (place (n + 1) id ls) differ) ∙ e)))
    (cases_Bool (bytes_eq l id))

absent : (id l : List ℕ) (ls : List (List ℕ)) → bytes_eq l id ≡ false → ((j : ℕ) → slice_get ls j ≡ Some id → ⊥) → (j : ℕ) → slice_get (l ∷ ls) j ≡ Some id → ⊥
absent id l ls differ rest zero there = no_match l id differ there
absent id l ls differ rest (suc j) there = rest j there

place_none : (n : ℕ) (id : List ℕ) (ls : List (List ℕ)) → place n id ls ≡ None → (j : ℕ) → slice_get ls j ≡ Some id → ⊥
place_none n id [] e j there = grind arith
place_none n id (l ∷ ls) e j there =
    ⊎_elim
    (λ equal. grind arith)
    (λ differ. absent id l ls differ (place_none (n + 1) id ls (sym (cond-false (bytes_eq l id) (Some n) (place (n + 1) id ls) differ) ∙ e)) j there)
    (cases_Bool (bytes_eq l id))

-- an identifier with a place is not empty
listed_first : (text id : List ℕ) (k : ℕ) → listed text id ≡ Some k → First 0 id (split text) k
listed_first text id k e =
    ⊎_elim
    (λ empty. let never : ⊥ = grind arith in absurd never)
    (λ some. place_some 0 id (split text) k (sym (cond-false (eqb (length id) 0) None (place 0 id (split text)) some) ∙ e))
    (cases_Bool (eqb (length id) 0))

holds : (text id : List ℕ) (k : ℕ) → listed text id ≡ Some k → slice_get (split text) k ≡ Some id
holds text id k e =
    let f = listed_first text id k e in
    let at : k ≡ f.on = omega (arith, f.is) in
    ap (slice_get (split text)) at ∙ f.holds

first : (text id : List ℕ) (k : ℕ) → listed text id ≡ Some k → (j : ℕ) → j < k → slice_get (split text) j ≡ Some id → ⊥
first text id k e j lt there =
    let f = listed_first text id k e in
    f.before j (omega (arith, f.is)) there

none : (text id : List ℕ) → 0 < length id → listed text id ≡ None → (j : ℕ) → slice_get (split text) j ≡ Some id → ⊥
none text id some e =
    place_none 0 id (split text) (sym (cond-false (eqb (length id) 0) None (place 0 id (split text)) (ne_eqb (length id) 0 (λ z. omega arith))) ∙ e)

pub listed_laws : (text : List ℕ) → ListedLaws text
listed_laws text = record { holds = holds text; first = first text; none = none text; empty = refl }

-- the place counted from n is n more than the position
position_step : (t : Bool) (n m k : ℕ) (r : Option ℕ) → r ≡ option_map (λ j. n + 1 + j) (cond (ltb m k) (Some m) None)
    → cond t (Some n) r ≡ option_map (λ j. n + j) (cond (ltb (cond (not t) (1 + m) 0) (suc k)) (Some (cond (not t) (1 + m) 0)) None)
position_step true n m k r e = grind arith
position_step false n m k r e = grind (arith, nat_tests)

place-position : (n : ℕ) (id : List ℕ) (ls : List (List ℕ)) → place n id ls ≡ option_map (λ k. n + k) (position (λ l. bytes_eq l id) ls)
place-position n id [] = refl
place-position n id (l ∷ ls) = position_step (bytes_eq l id) n (position_or_len (λ l. bytes_eq l id) ls) (length ls) (place (n + 1) id ls) (place-position (n + 1) id ls)

from_zero : (o : Option ℕ) → option_map (λ k. 0 + k) o ≡ o
from_zero None = refl
from_zero (Some k) = ap Some (zero-add k)

pub listed_by : (text id : List ℕ) → 0 < length id → listed text id ≡ position (λ l. bytes_eq l id) (split text)
listed_by text id some =
    cond-false (eqb (length id) 0) None (place 0 id (split text)) (ne_eqb (length id) 0 (λ z. omega arith)) ∙ place-position 0 id (split text) ∙ from_zero _

-- each line takes a byte at least
onto_le : (t : Bool) (b n : ℕ) (ls : List (List ℕ)) → length ls ≤ n → length (cond t ([] ∷ ls) (onto b ls)) ≤ suc n
onto_le true b n ls h = omega arith
onto_le false b n [] h = omega arith
onto_le false b n (l ∷ ls) h = omega arith

pub lines_le : (text : List ℕ) → length (split text) ≤ length text
lines_le [] = omega arith
lines_le (b ∷ bs) = onto_le (feed b) b (length bs) (split bs) (lines_le bs)
