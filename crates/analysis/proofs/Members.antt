-- A node's total is its weight joined with the totals of the nodes that lead to it.
use Rattle.std.proofs.Common.{◌≡◌, ℕ, zero, suc, ◌<◌, ◌≤◌, Bool, true, false, cond, ◌&&◌, ◌||◌, eqb, leb, List, map, length, get_or, set, Some, None, fold, filter, Option, sym, refl, ap, ◌∙◌, ⊎_elim, arith}
use mathlib.Core.Bool.{and-true}
use Rattle.std.specs.List.{range_with_len}
use Rattle.std.proofs.lemmas.List.FromFn.{length-map-range_with_len, get_or-map-range_with_len, fill_by_all}
use Rattle.std.proofs.lemmas.List.{length-set, get_or-set_same, get_or-set_other}
use Rattle.std.proofs.lemmas.Bool.{true≢false, false_from_ne_true, cases_eq, lt-ltb, eq-eqb, ne_eqb, eqb-true, cond-true, cond-false, le-leb, lt-leb, or_cases, and_parts, and_left, and_right}
use Rattle.std.proofs.lemmas.Bool.Decides.{nat_tests}
use Rattle.tree.specs.Ways.{Below, onward, has, passes, nodes_on}
use Rattle.tree.proofs.Ways.{way_on}
use Rattle.analysis.proofs.Joins.{Lawful, unit_right, over, over_same, over_none, over_both, over_swap, over_one, over_test, test_or, and_test_or, test_more, over_kept}

-- the lead o is p
abbrev pub leads : Option ℕ → ℕ → Bool
leads None p = false
leads (Some q) p = eqb q p

module _ (up : ℕ → Option ℕ) (falling : Below up) where
  passes_on : (p j : ℕ) → passes up p j ≡ eqb j p || has p (onward up (up j))
  passes_on p j = ap (has p) (way_on up falling j)

  -- what is passed is not above, and further on it is below
  on_room : (n k p : ℕ) → has p (nodes_on up n (Some k)) ≡ true → p ≤ k
  on_room zero k p h = absurd (true≢false (sym h))
  on_room (suc n) k p h =
      ⊎_elim (λ here. omega (arith, eqb-true k p here)) (next (up k) (falling k) (λ q. on_room n q p)) (or_cases (eqb k p) (has p (nodes_on up n (up k))) h)
    where
      next : (o : Option ℕ) → ((q : ℕ) → o ≡ Some q → q < k) → ((q : ℕ) → has p (nodes_on up n (Some q)) ≡ true → p ≤ q) → has p (nodes_on up n o) ≡ true → p ≤ k
      next None lower rest h = absurd (true≢false (sym h ∙ none n))
        where
          none : (m : ℕ) → has p (nodes_on up m None) ≡ false
          none zero = refl
          none (suc m) = refl
      next (Some q) lower rest h = omega (arith, lower q refl, rest q h)

  further : (p j : ℕ) (o : Option ℕ) → up j ≡ o → has p (onward up o) ≡ true → p < j
  further p j None e h = absurd (true≢false (sym h))
  further p j (Some q) e h = omega (arith, falling j q e, on_room (suc q) q p h)

  apart : (p j : ℕ) → eqb j p ≡ true → has p (onward up (up j)) ≡ true → ⊥
  apart p j here on = omega (arith, eqb-true j p here, further p j (up j) refl on)

  module _ {M : Type 0} (e : M) (op : M → M → M) (laws : Lawful e op) where
    abbrev sum : (ℕ → M) → ℕ → M
    sum = over e op

    -- j is the one node c that leads to p, where p is the lead of j
    lead_here : (x : M) (p j q : ℕ) → up j ≡ Some q → (c : ℕ) → cond (leads (up c) p && eqb j c) x e ≡ cond (eqb c j) (cond (eqb q p) x e) e
    lead_here x p j q goes c =
        ⊎_elim
        (λ (same : c ≡ j).
        (λ i. cond (leads ((ap up same ∙ goes) i) p && eq-eqb j c (sym same) i) x e) ∙ ap (λ t. cond t x e) (and-true (eqb q p))
        ∙ sym (cond-true _ _ _ (eq-eqb c j same)))
        (λ differ.
        let other : j ≡ c → ⊥ = λ same. differ (sym same) in
        (λ i. cond (leads (up c) p && ne_eqb j c other i) x e) ∙ ap (λ t. cond t x e) (and_right (leads (up c) p) false refl)
        ∙ sym (cond-false _ _ _ (ne_eqb c j differ)))
        (cases_eq c j)

    -- of the nodes that lead to p, the way of j passes through one if it goes on to p, else through none
    one_leads : (x : M) (n p m j : ℕ) → j < m → j < n → sum (λ c. cond (leads (up c) p && passes up c j) x e) n ≡ cond (has p (onward up (up j))) x e
    one_leads x n p zero j lt in_list = absurd (omega arith)
    one_leads x n p (suc m) j lt in_list = next (up j) refl (λ q e'. let lower = falling j q e' in one_leads x n p m q (omega arith) (omega arith))
      where
        none : up j ≡ None → (c : ℕ) → (leads (up c) p && passes up c j) ≡ true → ⊥
        none root c both =
            let parts = and_parts (leads (up c) p) (passes up c j) both in
            ⊎_elim
            (λ here. true≢false (sym parts.0 ∙ ap (λ k. leads (up k) p) (sym (eqb-true j c here)) ∙ ap (λ o. leads o p) root))
            (λ on. true≢false (sym on ∙ ap (λ o. has c (onward up o)) root))
            (or_cases (eqb j c) (has c (onward up (up j))) (sym (passes_on c j) ∙ parts.1))

        split : (q : ℕ) → up j ≡ Some q → (c : ℕ) → cond (leads (up c) p && passes up c j) x e ≡ op (cond (eqb c j) (cond (eqb q p) x e) e) (cond (leads (up c) p && passes up c q) x e)
        split q goes c =
            ap (λ t. cond (leads (up c) p && t) x e) (passes_on c j ∙ ap (λ o. eqb j c || has c (onward up o)) goes)
            ∙ and_test_or e op laws (leads (up c) p) (eqb j c) (passes up c q) x (λ here on. apart c j here (ap (λ o. has c (onward up o)) goes ∙ on))
            ∙ ap (λ y. op y (cond (leads (up c) p && passes up c q) x e)) (lead_here x p j q goes c)

        next : (o : Option ℕ) → up j ≡ o → ((q : ℕ) → up j ≡ Some q → sum (λ c. cond (leads (up c) p && passes up c q) x e) n ≡ cond (has p (onward up (up q))) x e)
            → sum (λ c. cond (leads (up c) p && passes up c j) x e) n ≡ cond (has p (onward up o)) x e
        next None root rest =
            over_same e op laws _ (λ _. e) n (λ c lt. cond-false _ _ _ (false_from_ne_true (leads (up c) p && passes up c j) (none root c)))
            ∙ over_none e op laws n
        next (Some q) goes rest =
            over_same e op laws _ _ n (λ c lt. split q goes c)
            ∙ over_both e op laws (λ c. cond (eqb c j) (cond (eqb q p) x e) e) (λ c. cond (leads (up c) p && passes up c q) x e) n
            ∙ (λ i. op ((over_one e op laws (λ _. cond (eqb q p) x e) j n ∙ cond-true _ _ _ (lt-ltb j n in_list)) i) (rest q goes i))
            ∙ sym (test_or e op laws (eqb q p) (has p (onward up (up q))) x (apart p q))
            ∙ ap (λ t. cond t x e) (sym (passes_on p q))

    -- the weights of all below n whose way passes through p, joined
    abbrev pub through : (ℕ → M) → ℕ → ℕ → M
    through w n p = sum (λ j. cond (passes up p j) (w j) e) n

    through_on : (w : ℕ → M) (n p : ℕ) → p < n → through w n p ≡ op (w p) (sum (λ c. cond (leads (up c) p) (through w n c) e) n)
    through_on w n p in_list =
        over_same e op laws _ _ n (λ j lt. ap (λ t. cond t (w j) e) (passes_on p j) ∙ test_or e op laws (eqb j p) (has p (onward up (up j))) (w j) (apart p j))
        ∙ over_both e op laws (λ j. cond (eqb j p) (w j) e) (λ j. cond (has p (onward up (up j))) (w j) e) n
        ∙ (λ i. op ((over_one e op laws w p n ∙ cond-true _ _ _ (lt-ltb p n in_list)) i) (sym children i))
      where
        children : sum (λ c. cond (leads (up c) p) (through w n c) e) n ≡ sum (λ j. cond (has p (onward up (up j))) (w j) e) n
        children =
            over_same e op laws _ _ n (λ c lt.
            over_test e op laws (leads (up c) p) (λ j. cond (passes up c j) (w j) e) n
            ∙ over_same e op laws _ _ n (λ j lt'. tests (leads (up c) p) (passes up c j) (w j)))
            ∙ over_swap e op laws (λ c j. cond (leads (up c) p && passes up c j) (w j) e) n n
            ∙ over_same e op laws _ _ n (λ j lt. one_leads (w j) n p (suc j) j (omega arith) lt)
          where
            tests : (s t : Bool) (x : M) → cond s (cond t x e) e ≡ cond (s && t) x e
            tests true t x = refl
            tests false t x = refl

    -- the totals of the nodes from i on that lead to p, joined
    abbrev pub part : (ℕ → M) → ℕ → ℕ → ℕ → M
    part w n i p = sum (λ c. cond (leb i c && leads (up c) p) (through w n c) e) n

    part_none : (w : ℕ → M) (n p : ℕ) → part w n n p ≡ e
    part_none w n p =
        over_same e op laws _ (λ _. e) n (λ c lt. cond-false _ _ _ (and_left (leb n c) (leads (up c) p) (lt-leb n c lt))) ∙ over_none e op laws n

    -- all nodes that lead to k are above it
    part_all : (w : ℕ → M) (n k : ℕ) → k < n → op (part w n (suc k) k) (w k) ≡ through w n k
    part_all w n k in_list =
        ap (λ x. op x (w k)) (over_same e op laws _ _ n (λ c lt. ap (λ t. cond t (through w n c) e) (above (up c) c (falling c))))
        ∙ laws.comm (sum (λ c. cond (leads (up c) k) (through w n c) e) n) (w k) ∙ sym (through_on w n k in_list)
      where
        above : (o : Option ℕ) (c : ℕ) → ((q : ℕ) → o ≡ Some q → q < c) → (leb (suc k) c && leads o k) ≡ leads o k
        above None c lower = and_right (leb (suc k) c) false refl
        above (Some q) c lower =
            ⊎_elim
            (λ (same : q ≡ k). let lt = lower q refl in ap (λ t. t && eqb q k) (le-leb (suc k) c (omega arith)))
            (λ differ. ap (λ t. leb (suc k) c && t) (ne_eqb q k differ) ∙ and_right (leb (suc k) c) false refl ∙ sym (ne_eqb q k differ))
            (cases_eq q k)

    -- one node more
    part_more : (w : ℕ → M) (n k p : ℕ) → k < n → part w n k p ≡ op (part w n (suc k) p) (cond (leads (up k) p) (through w n k) e)
    part_more w n k p in_list =
        over_same e op laws _ _ n (λ c lt. each c)
        ∙ over_both e op laws (λ c. cond (leb (suc k) c && leads (up c) p) (through w n c) e) (λ c. cond (eqb c k) (own c) e) n
        ∙ ap (op (part w n (suc k) p)) (over_one e op laws own k n ∙ cond-true _ _ _ (lt-ltb k n in_list))
      where
        own : ℕ → M
        own c = cond (leads (up c) p) (through w n c) e

        each : (c : ℕ) → cond (leb k c && leads (up c) p) (through w n c) e ≡ op (cond (leb (suc k) c && leads (up c) p) (through w n c) e) (cond (eqb c k) (own c) e)
        each c =
            test_more e op laws (leb k c) (leb (suc k) c) (eqb c k) (leads (up c) p) (through w n c)
            (λ same. le-leb k c (omega (arith, eqb-true c k same)))
            (λ same. lt-leb (suc k) c (omega (arith, eqb-true c k same)))
            (λ differ. grind (arith, nat_tests))

    -- the entries xs once the nodes from i on are visited: theirs are totals, and below them stands what came from these so far
    pub record Swept (w : ℕ → M) (n i : ℕ) (xs : List M) : Type 0 where
      pub long : length xs ≡ n
      pub lower : (p : ℕ) → p < i → get_or xs p e ≡ part w n i p
      pub upper : (p : ℕ) → i ≤ p → p < n → get_or xs p e ≡ through w n p

    pub swept_none : (w : ℕ → M) (n : ℕ) (xs : List M) → xs ≡ map (λ _. e) (range_with_len 0 n) → Swept w n n xs
    swept_none w n xs clear = record {
      long = ap length clear ∙ length-map-range_with_len (λ _. e) 0 n;
      lower = λ p lt. ap (λ l. get_or l p e) clear ∙ get_or-map-range_with_len (λ _. e) 0 n p p e lt (omega arith) ∙ sym (part_none w n p);
      upper = λ p high low. absurd (omega arith);
    }

    -- node k's entry joined with its weight
    module _ (w : ℕ → M) (n k : ℕ) (xs : List M) (in_list : k < n) (so : Swept w n (suc k) xs) (t : M) (now : t ≡ op (get_or xs k e) (w k)) where
      own : t ≡ through w n k
      own = now ∙ ap (λ x. op x (w k)) (so.lower k (omega arith)) ∙ part_all w n k in_list

      abbrev ys : List M
      ys = set xs k t

      long : length ys ≡ n
      long = length-set xs k t ∙ so.long

      lower : (p : ℕ) → p < k → get_or ys p e ≡ part w n (suc k) p
      lower p lt = get_or-set_other xs k p t e (omega arith) ∙ so.lower p (omega arith)

      upper : (p : ℕ) → k ≤ p → p < n → get_or ys p e ≡ through w n p
      upper p high low =
          ⊎_elim
          (λ (same : p ≡ k). ap (λ i. get_or ys i e) same ∙ get_or-set_same xs k t e (omega (arith, so.long)) ∙ own ∙ ap (through w n) (sym same))
          (λ differ. get_or-set_other xs k p t e differ ∙ so.upper p (omega arith) low)
          (cases_eq p k)

      more : (p : ℕ) (o : Option ℕ) → up k ≡ o → part w n k p ≡ op (part w n (suc k) p) (cond (leads o p) (through w n k) e)
      more p o goes = part_more w n k p in_list ∙ ap (λ l. op (part w n (suc k) p) (cond (leads l p) (through w n k) e)) goes

      pub swept_root : up k ≡ None → Swept w n k ys
      swept_root root = record { long = long; lower = λ p lt. lower p lt ∙ sym (more p None root ∙ unit_right e op laws (part w n (suc k) p)); upper = upper }

      -- and handed to its lead
      pub swept_lead : (q : ℕ) (x : M) → up k ≡ Some q → x ≡ op (get_or ys q e) t → Swept w n k (set ys q x)
      swept_lead q x goes joined =
          let q-lt : q < k = falling k q goes in
          record {
            long = length-set ys q x ∙ long;
            lower = λ p lt.
                ⊎_elim
                (λ (same : p ≡ q).
                ap (λ i. get_or (set ys q x) i e) same ∙ get_or-set_same ys q x e (omega (arith, long)) ∙ joined ∙ (λ i. op (lower q q-lt i) (own i))
                ∙ ap (op (part w n (suc k) q)) (sym (cond-true _ _ _ (eq-eqb q q refl))) ∙ sym (more q (Some q) goes) ∙ ap (part w n k) (sym same))
                (λ differ.
                get_or-set_other ys q p x e differ ∙ lower p lt
                ∙ sym (more p (Some q) goes ∙ ap (op (part w n (suc k) p)) (cond-false _ _ _ (ne_eqb q p (λ same. differ (sym same)))) ∙ unit_right e op laws (part w n (suc k) p)))
                (cases_eq p q);
            upper = λ p high low. get_or-set_other ys q p x e (omega arith) ∙ upper p high low;
          }

    pub swept_all : (w : ℕ → M) (n : ℕ) (xs : List M) → Swept w n 0 xs → xs ≡ map (λ k. fold op e (map w (filter (passes up k) (range_with_len 0 n)))) (range_with_len 0 n)
    swept_all w n xs so =
        fill_by_all (λ k. fold op e (map w (filter (passes up k) (range_with_len 0 n)))) xs n e so.long (λ k lt. so.upper k (omega arith) lt ∙ sym (over_kept e op laws (passes up k) w n))
