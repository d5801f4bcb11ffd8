-- The named literals of a line, one after the other.
use Rattle.std.proofs.Common.{◌≡◌, ℕ, ◌<◌, true, false, List, [], ◌∷◌, length, Some, None, Ok, Err, Option, Result, sym, refl, ap, ◌∙◌, subst, arith}
use Rattle.refusal.specs.declared.refusals.Refusal.{Refusal}
use Rattle.words.specs.Words.{Placed}
use Rattle.events.specs.declared.shapes.LiteralWord.{LiteralWord}
use Rattle.events.specs.declared.shapes.LiteralWord.TheVariants as literal
use Rattle.events.specs.declared.shapes.LineKind.{LineKind}
use Rattle.events.specs.Lines.{passed}
use Rattle.events.specs.Keywords.{literal_word, stripped}
use Rattle.events.specs.Literals.{and_then, closed, begun_with, some_named, valued, Named, named, put_first, from_first, closing, literals_after, literals, next_of, next_literal, given, Shorter}

-- all literals are the next one and those after it
abbrev Stepped : ℕ → List Placed → Result (List Named) Refusal → Result (Option (Named × List Placed)) Refusal → Type 0
Stepped end ws all r = all ≡ given (next_of ws r).0 (literals end (next_of ws r).1)

after_closed : (end p : ℕ) (ws vs : List Placed) (o : Option (List ℕ)) → Stepped end ws (closing p o (literals end vs)) (some_named (and_then (closed p vs o) (λ v rest. Ok (valued v false, rest))))
after_closed end p ws vs None = refl
after_closed end p ws vs (Some w) = refl

after_first : (k : LiteralWord) (end : ℕ) (w : Placed) (ws : List Placed) → Stepped end (w ∷ ws) (from_first k w (literals_after true end ws) (literals end ws)) (some_named (begun_with k end w ws))
after_first literal.Constant end w ws = refl
after_first literal.Not end w [] = refl
after_first literal.Not end w (v ∷ vs) = after_closed end v.place (w ∷ v ∷ vs) vs (stripped 41 v.letters)
after_first literal.Id end w ws = refl

pub literals_stepped : (end : ℕ) (ws : List Placed) → literals end ws ≡ given (next_literal end ws).0 (literals end (next_literal end ws).1)
literals_stepped end [] = refl
literals_stepped end (w ∷ ws) = after_first (literal_word w.letters) end w ws

-- a literal takes a word at least
abbrev Fewer : List Placed → Result (Option (Named × List Placed)) Refusal → Type 0
Fewer ws (Ok None) = Unit {0}
Fewer ws (Ok (Some r)) = length r.1 < length ws
Fewer ws (Err e) = Unit {0}

closed_fewer : (p : ℕ) (ws vs : List Placed) (o : Option (List ℕ)) → length vs < length ws → Fewer ws (some_named (and_then (closed p vs o) (λ v rest. Ok (valued v false, rest))))
closed_fewer p ws vs None h = tt
closed_fewer p ws vs (Some w) h = h

from_first_fewer : (k : LiteralWord) (end : ℕ) (w : Placed) (ws : List Placed) → Fewer (w ∷ ws) (some_named (begun_with k end w ws))
from_first_fewer literal.Constant end w ws = tt
from_first_fewer literal.Not end w [] = tt
from_first_fewer literal.Not end w (v ∷ vs) = closed_fewer v.place (w ∷ v ∷ vs) vs (stripped 41 v.letters) (omega arith)
from_first_fewer literal.Id end w ws = omega arith

named_fewer : (end : ℕ) (ws : List Placed) → Fewer ws (named end ws)
named_fewer end [] = tt
named_fewer end (w ∷ ws) = from_first_fewer (literal_word w.letters) end w ws

next_of_fewer : (ws rest : List Placed) (n : Named) (r : Result (Option (Named × List Placed)) Refusal) → Fewer ws r → (Ok (Some n), rest) ≡ next_of ws r → length rest < length ws
next_of_fewer ws rest n (Ok None) h e = let f = ap (λ p. p.0) e in cc
next_of_fewer ws rest n (Ok (Some r)) h e = subst (λ (l : List Placed). length l < length ws) (sym (ap (λ p. p.1) e)) h
next_of_fewer ws rest n (Err x) h e = let f = ap (λ p. p.0) e in cc

-- what a step of the cursor keeps
module _ (end : ℕ) (ws rest : List Placed) where
  pub step_given : (r : Result (Option Named) Refusal) → (r, rest) ≡ next_literal end ws → literals end ws ≡ given r (literals end rest)
  step_given r e = literals_stepped end ws ∙ (λ i. given (sym e i).0 (literals end (sym e i).1))

  pub step_fewer : (r : Result (Option Named) Refusal) → (r, rest) ≡ next_literal end ws → Shorter r rest ws
  step_fewer (Ok None) e = tt
  step_fewer (Ok (Some n)) e = next_of_fewer ws rest n (named end ws) (named_fewer end ws) e
  step_fewer (Err x) e = tt

pub passed_put_first : (k : LineKind) (n : Named) (r : Result (List Named) Refusal) → passed k (put_first n r) ≡ passed k r
passed_put_first k n (Ok ns) = refl
passed_put_first k n (Err e) = refl
