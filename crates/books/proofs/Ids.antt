-- Numbered identifiers are the number sign with a decimal text.
use Rattle.std.proofs.Common.{◌≡◌, ℕ, ◌-◌, ◌^◌, ◌<◌, true, not, ◌&&◌, ◌||◌, eqb, ltb, List, [], ◌∷◌, length, get_or, Some, None, decimal, sym, refl, ap, ◌∙◌, ⊎_elim, arith}
use Rattle.std.proofs.lemmas.Fmt.{decimal_nonempty, decimal_digit, first_decimal, decimal-digits_value}
use Rattle.std.proofs.lemmas.Bool.{lt-ltb, ltb-true, eq-eqb, ne_eqb, eqb-true, eqb-false, and_parts, and_from, and_right, or_cases, or_left, or_right, not_from_false, not-true, cases_Bool, cases_eq, cond-true}
use Rattle.numbers.specs.Numeral.{unsigned, value_after}
use Rattle.numbers.proofs.Decimal.{own, unsigned-decimal}
use Rattle.numbers.proofs.Values.{unsigned_some}
use Rattle.books.specs.Terms.{shape, numbered, NumberedLaws}

-- no zero stands in front of another digit
front : (n : ℕ) → n < 2 ^ 64 → (eqb (length (35 ∷ decimal n)) 2 || not (eqb (get_or (decimal n) 0 0) 48)) ≡ true
front n h =
    ⊎_elim
    (λ e. let one : length (decimal n) ≡ 1 = ap length (decimal_digit n (omega arith)) in
    or_left (eqb (length (35 ∷ decimal n)) 2) _ (eq-eqb (length (35 ∷ decimal n)) 2 (omega arith)))
    (λ ne. or_right (eqb (length (35 ∷ decimal n)) 2) _ (not_from_false _ (ne_eqb (get_or (decimal n) 0 0) 48 (λ e. omega (arith, first_decimal n (omega arith) h)))))
    (cases_eq n 0)

shape-decimal : (n : ℕ) → n < 2 ^ 64 → shape (35 ∷ decimal n) ≡ true
shape-decimal n h =
    let some = decimal_nonempty n h in
    and_from _ _ (lt-ltb 1 (length (35 ∷ decimal n)) (omega arith)) (front n h)

meant : (limit n : ℕ) → limit < 2 ^ 64 → n < limit → numbered limit (35 ∷ decimal n) ≡ Some n
meant limit n fits lt =
    cond-true _ _ _ (and_from _ _ (lt-ltb 0 limit (omega arith)) (shape-decimal n (omega arith)))
    ∙ unsigned-decimal (limit - 1) n (omega arith) (omega arith)

record Shaped (c : ℕ) (cs : List ℕ) : Type 0 where
  sign : c ≡ 35
  lone : get_or cs 0 0 ≡ 48 → length cs ≡ 1

shaped : (c : ℕ) (cs : List ℕ) → shape (c ∷ cs) ≡ true → Shaped c cs
shaped c cs good =
    let a = and_parts (ltb 1 (length (c ∷ cs))) _ good in
    let b = and_parts (eqb c 35) _ a.1 in
    record {
      sign = eqb-true c 35 b.0;
      lone = λ zero. ⊎_elim
          (λ two. omega (arith, eqb-true (length (c ∷ cs)) 2 two))
          (λ other. absurd (eqb-false (get_or cs 0 0) 48 (not-true _ other) zero))
          (or_cases (eqb (length (c ∷ cs)) 2) (not (eqb (get_or cs 0 0) 48)) b.1);
    }

written_so : (limit : ℕ) → limit < 2 ^ 64 → (c : ℕ) (cs : List ℕ) (n : ℕ) → 0 < limit → Shaped c cs → unsigned (limit - 1) cs ≡ Some n → (n < limit) × (c ∷ cs ≡ 35 ∷ decimal n)
written_so limit fits c cs n some s e =
    let u = unsigned_some (limit - 1) cs n e in
    let text : decimal (value_after 0 cs) ≡ cs = decimal-digits_value own cs u.0 u.1 s.lone (omega arith) in
    let same : decimal n ≡ cs = ap decimal (sym u.2) ∙ text in
    (omega arith, (λ i. s.sign i ∷ sym same i))

only : (limit : ℕ) → limit < 2 ^ 64 → (id : List ℕ) (n : ℕ) → numbered limit id ≡ Some n → (n < limit) × (id ≡ 35 ∷ decimal n)
only limit fits [] n e = let never : ⊥ = grind (arith, and_right (ltb 0 limit) (shape []) refl) in absurd never
only limit fits (c ∷ cs) n e =
    ⊎_elim
    (λ good. let parts = and_parts (ltb 0 limit) (shape (c ∷ cs)) good in
    written_so limit fits c cs n (ltb-true 0 limit parts.0) (shaped c cs parts.1) (sym (cond-true (ltb 0 limit && shape (c ∷ cs)) (unsigned (limit - 1) cs) None good) ∙ e))
    (λ bad. let never : ⊥ = grind arith in absurd never)
    (cases_Bool (ltb 0 limit && shape (c ∷ cs)))

pub numbered_laws : (limit : ℕ) → limit < 2 ^ 64 → NumberedLaws limit
numbered_laws limit fits = record { meant = λ n. meant limit n fits; only = only limit fits }
