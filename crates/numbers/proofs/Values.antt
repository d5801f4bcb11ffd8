-- Numbers by their bytes: at a digit, at another byte, past the limit, after a sign.
use Rattle.std.proofs.Common.{◌≡◌, ℕ, ◌+◌, ◌-◌, ◌*◌, ◌^◌, ◌<◌, ◌≤◌, Bool, true, false, cond, ◌&&◌, leb, List, [], ◌∷◌, length, get_or, pos, neg_ℤ, Some, None, refl, ap, ◌∙◌, arith, ne_eqb}
use borrow.Author.Tests.{lt-leb}
use Rattle.std.proofs.lemmas.Bool.Decides.{nat_tests}
use Rattle.std.specs.Option.{option_map}
use Rattle.std.specs.Char.{is_ascii_digit}
use Rattle.std.specs.Str.{all_ascii_digits}
use Rattle.numbers.specs.Numeral.{value_after, digits_after, unsigned, after_plus, numeral, signed_numeral}

value_ge : (n : ℕ) (cs : List ℕ) → n ≤ value_after n cs
value_ge n [] = omega arith
value_ge n (c ∷ cs) = omega (arith, value_ge (n * 10 + (c - 48)) cs)

pub at_digit : (limit n c : ℕ) (cs : List ℕ) → is_ascii_digit c ≡ true → digits_after limit n (c ∷ cs) ≡ digits_after limit (n * 10 + (c - 48)) cs
at_digit limit n c cs e = ap (λ t. cond ((t && all_ascii_digits cs) && leb (value_after n (c ∷ cs)) limit) (Some (value_after n (c ∷ cs))) None) e

at_other : (limit n c : ℕ) (cs : List ℕ) → is_ascii_digit c ≡ false → digits_after limit n (c ∷ cs) ≡ None
at_other limit n c cs e = ap (λ t. cond ((t && all_ascii_digits cs) && leb (value_after n (c ∷ cs)) limit) (Some (value_after n (c ∷ cs))) None) e

and_false : (t : Bool) → (t && false) ≡ false
and_false true = refl
and_false false = refl

past_limit : (limit n : ℕ) (cs : List ℕ) → limit < n → digits_after limit n cs ≡ None
past_limit limit n cs over =
    let large : leb (value_after n cs) limit ≡ false = lt-leb _ _ (omega (arith, value_ge n cs)) in
    ap (λ t. cond (all_ascii_digits cs && t) (Some (value_after n cs)) None) large ∙ ap (λ t. cond t (Some (value_after n cs)) None) (and_false (all_ascii_digits cs))

refused_by : (limit n c : ℕ) (cs : List ℕ) (t : Bool) → is_ascii_digit c ≡ t → ((is_ascii_digit c ≡ true) × (n * 10 + (c - 48) ≤ limit) → ⊥) → digits_after limit n (c ∷ cs) ≡ None
refused_by limit n c cs true e refused =
    let over : n * 10 + (c - 48) ≤ limit → ⊥ = λ h. refused (e, h) in
    at_digit limit n c cs e ∙ past_limit limit (n * 10 + (c - 48)) cs (omega arith)
refused_by limit n c cs false e refused = at_other limit n c cs e

-- the byte is no digit, or the value with it is past the limit
pub at_refused : (limit n c : ℕ) (cs : List ℕ) → ((is_ascii_digit c ≡ true) × (n * 10 + (c - 48) ≤ limit) → ⊥) → digits_after limit n (c ∷ cs) ≡ None
at_refused limit n c cs = refused_by limit n c cs (is_ascii_digit c) refl

pub not_empty : (limit : ℕ) (cs : List ℕ) → 0 < length cs → unsigned limit cs ≡ digits_after limit 0 cs
not_empty limit [] h = absurd (omega arith)
not_empty limit (c ∷ cs) h = refl

-- no sign in front
pub after_plus_none : (cs : List ℕ) → (get_or cs 0 0 ≡ 43 → ⊥) → after_plus cs ≡ cs
after_plus_none [] bare = refl
after_plus_none (c ∷ cs) bare = ap (λ t. cond t cs (c ∷ cs)) (ne_eqb c 43 bare)

pub signed_plain : (cs : List ℕ) → (get_or cs 0 0 ≡ 45 → ⊥) → signed_numeral cs ≡ option_map pos (numeral (2 ^ 31 - 1) cs)
signed_plain [] bare = refl
signed_plain (c ∷ cs) bare = ap (λ t. cond t (option_map (λ n. neg_ℤ (pos n)) (unsigned (2 ^ 31) cs)) (option_map pos (numeral (2 ^ 31 - 1) (c ∷ cs)))) (ne_eqb c 45 bare)

-- what is read is the value of digits, within the limit
pub unsigned_some : (limit : ℕ) (cs : List ℕ) (n : ℕ) → unsigned limit cs ≡ Some n → (all_ascii_digits cs ≡ true) × (0 < length cs) × (value_after 0 cs ≡ n) × (n ≤ limit)
unsigned_some limit [] n e = let never : ⊥ = grind arith in absurd never
unsigned_some limit (c ∷ cs) n e = (grind arith, omega arith, grind arith, grind (arith, nat_tests))
