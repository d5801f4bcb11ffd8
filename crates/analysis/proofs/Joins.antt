-- Joins over the numbers below n, in any order.
use Rattle.std.proofs.Common.{◌≡◌, ℕ, zero, suc, ◌+◌, ◌<◌, ◌≤◌, Bool, true, false, cond, ◌&&◌, ◌||◌, eqb, ltb, List, [], ◌∷◌, ◌++◌, map, fold, filter, sym, refl, ap, ◌∙◌, ⊎_elim, arith}
use Rattle.std.specs.List.{range_with_len}
use Rattle.std.proofs.lemmas.List.Elements.{filter-append}
use Rattle.std.proofs.lemmas.List.{append-nil, map-append}
use Rattle.std.proofs.lemmas.List.Sums.{fold_push}
use Rattle.std.proofs.lemmas.Bool.{true≢false, cases_lt, lt-ltb, le-ltb, eq-eqb, ne_eqb, cond-true, cond-false}

-- one number more
counting_more : (a n : ℕ) → range_with_len a (suc n) ≡ range_with_len a n ++ (a + n) ∷ []
counting_more a zero = ap (λ x. x ∷ []) (omega arith)
counting_more a (suc n) =
    ap (λ xs. a ∷ xs) (counting_more (a + 1) n ∙ ap (λ x. range_with_len (a + 1) n ++ x ∷ []) (omega arith))

-- f 0 to f (n - 1), joined
abbrev pub over : {M : Type 0} → M → (M → M → M) → (ℕ → M) → ℕ → M
over e op f zero = e
over e op f (suc n) = op (over e op f n) (f n)

-- one element more, joined where it passes
pub kept_push : {X M : Type 0} (e : M) (op : M → M → M) (f : X → M) (p : X → Bool) (xs : List X) (a : X) → fold op e (map f (filter p (xs ++ a ∷ []))) ≡ cond (p a) (op (fold op e (map f (filter p xs))) (f a)) (fold op e (map f (filter p xs)))
kept_push {X} {M} e op f p xs a =
    ap (λ zs. fold op e (map f zs)) (filter-append p xs (a ∷ [])) ∙ ap (fold op e) (map-append f (filter p xs) (filter p (a ∷ []))) ∙ last (p a)
  where
    ys : List M
    ys = map f (filter p xs)

    last : (s : Bool) → fold op e (ys ++ map f (cond s (a ∷ []) [])) ≡ cond s (op (fold op e ys) (f a)) (fold op e ys)
    last true = fold_push op e ys (f a)
    last false = ap (fold op e) (append-nil ys)

-- a joining's laws
pub record Lawful {M : Type 0} (e : M) (op : M → M → M) : Type 0 where
  pub assoc : (x y z : M) → op (op x y) z ≡ op x (op y z)
  pub comm : (x y : M) → op x y ≡ op y x
  pub unit : (x : M) → op e x ≡ x

abbrev pub lawful : {M : Type 0} {e : M} {op : M → M → M} → ((x y z : M) → op (op x y) z ≡ op x (op y z)) → ((x y : M) → op x y ≡ op y x) → ((x : M) → op e x ≡ x) → Lawful e op
lawful a c u = record { assoc = a; comm = c; unit = u }

module _ {M : Type 0} (e : M) (op : M → M → M) (laws : Lawful e op) where
  abbrev assoc : (x y z : M) → op (op x y) z ≡ op x (op y z)
  assoc = laws.assoc

  abbrev comm : (x y : M) → op x y ≡ op y x
  comm = laws.comm

  abbrev unit : (x : M) → op e x ≡ x
  unit = laws.unit

  abbrev sum : (ℕ → M) → ℕ → M
  sum = over e op

  pub unit_right : (x : M) → op x e ≡ x
  unit_right x = comm x e ∙ unit x

  four : (a b c d : M) → op (op a b) (op c d) ≡ op (op a c) (op b d)
  four a b c d =
      assoc a b (op c d)
      ∙ ap (op a) (sym (assoc b c d) ∙ ap (λ x. op x d) (comm b c) ∙ assoc c b d)
      ∙ sym (assoc a c (op b d))

  pub over_same : (f g : ℕ → M) (n : ℕ) → ((j : ℕ) → j < n → f j ≡ g j) → sum f n ≡ sum g n
  over_same f g zero same = refl
  over_same f g (suc n) same = λ i. op (over_same f g n (λ j lt. same j (omega arith)) i) (same n (omega arith) i)

  pub over_none : (n : ℕ) → sum (λ _. e) n ≡ e
  over_none zero = refl
  over_none (suc n) = ap (λ x. op x e) (over_none n) ∙ unit e

  pub over_both : (f g : ℕ → M) (n : ℕ) → sum (λ j. op (f j) (g j)) n ≡ op (sum f n) (sum g n)
  over_both f g zero = sym (unit e)
  over_both f g (suc n) = ap (λ x. op x (op (f n) (g n))) (over_both f g n) ∙ four (sum f n) (sum g n) (f n) (g n)

  pub over_swap : (f : ℕ → ℕ → M) (m n : ℕ) → sum (λ i. sum (f i) n) m ≡ sum (λ j. sum (λ i. f i j) m) n
  over_swap f zero n = sym (over_none n)
  over_swap f (suc m) n = ap (λ x. op x (sum (f m) n)) (over_swap f m n) ∙ sym (over_both (λ j. sum (λ i. f i j) m) (f m) n)

  -- of all below n, only i joins
  pub over_one : (f : ℕ → M) (i n : ℕ) → sum (λ j. cond (eqb j i) (f j) e) n ≡ cond (ltb i n) (f i) e
  over_one f i zero = sym (cond-false _ _ _ (le-ltb i 0 (omega arith)))
  over_one f i (suc n) =
      ⊎_elim
      (λ (low : i < n).
      (λ t. op ((over_one f i n ∙ cond-true _ _ _ (lt-ltb i n low)) t) (cond-false _ (f n) e (ne_eqb n i (omega arith)) t))
      ∙ unit_right (f i) ∙ sym (cond-true _ _ _ (lt-ltb i (suc n) (omega arith))))
      (λ (high : n ≤ i).
      (λ t. op ((over_one f i n ∙ cond-false _ _ _ (le-ltb i n high)) t) (cond (eqb n i) (f n) e)) ∙ unit (cond (eqb n i) (f n) e)
      ∙ last high)
      (cases_lt i n)
    where
      last : n ≤ i → cond (eqb n i) (f n) e ≡ cond (ltb i (suc n)) (f i) e
      last high =
          ⊎_elim
          (λ (low : i < suc n).
          let same : n ≡ i = omega arith in
          cond-true _ _ _ (eq-eqb n i same) ∙ ap f same ∙ sym (cond-true _ _ _ (lt-ltb i (suc n) low)))
          (λ (above : suc n ≤ i). cond-false _ _ _ (ne_eqb n i (omega arith)) ∙ sym (cond-false _ _ _ (le-ltb i (suc n) above)))
          (cases_lt i (suc n))

  -- a test before the whole is a test before each
  pub over_test : (t : Bool) (f : ℕ → M) (n : ℕ) → cond t (sum f n) e ≡ sum (λ j. cond t (f j) e) n
  over_test true f n = refl
  over_test false f n = sym (over_none n)

  -- two tests of which at most one passes
  pub test_or : (s t : Bool) (x : M) → (s ≡ true → t ≡ true → ⊥) → cond (s || t) x e ≡ op (cond s x e) (cond t x e)
  test_or true true x apart = absurd (apart refl refl)
  test_or true false x apart = sym (unit_right x)
  test_or false t x apart = sym (unit (cond t x e))

  pub and_test_or : (r s t : Bool) (x : M) → (s ≡ true → t ≡ true → ⊥) → cond (r && (s || t)) x e ≡ op (cond (r && s) x e) (cond (r && t) x e)
  and_test_or true s t x apart = test_or s t x apart
  and_test_or false s t x apart = sym (unit e)

  -- a test a that passes where b or s does, of which at most one passes
  pub test_more : (a b s l : Bool) (x : M) → (s ≡ true → a ≡ true) → (s ≡ true → b ≡ false) → (s ≡ false → a ≡ b) → cond (a && l) x e ≡ op (cond (b && l) x e) (cond s (cond l x e) e)
  test_more a b false l x here gone rest = ap (λ t. cond (t && l) x e) (rest refl) ∙ sym (unit_right (cond (b && l) x e))
  test_more true false true l x here gone rest = sym (unit (cond l x e))
  test_more true true true l x here gone rest = absurd (true≢false (gone refl))
  test_more false b true l x here gone rest = absurd (true≢false (sym (here refl)))

  pub over_kept : (t : ℕ → Bool) (f : ℕ → M) (n : ℕ) → fold op e (map f (filter t (range_with_len 0 n))) ≡ sum (λ j. cond (t j) (f j) e) n
  over_kept t f zero = refl
  over_kept t f (suc n) =
      ap (λ xs. fold op e (map f (filter t xs))) (counting_more 0 n ∙ ap (λ x. range_with_len 0 n ++ x ∷ []) (omega arith))
      ∙ kept_push e op f t (range_with_len 0 n) n ∙ inside (t n) ∙ ap (λ x. op x (cond (t n) (f n) e)) (over_kept t f n)
    where
      x : M
      x = fold op e (map f (filter t (range_with_len 0 n)))

      inside : (s : Bool) → cond s (op x (f n)) x ≡ op x (cond s (f n) e)
      inside true = refl
      inside false = sym (unit_right x)
