-- A tally of one answer more.
use Rattle.std.proofs.Common.{◌≡◌, ℕ, ◌+◌, ◌-◌, ◌^◌, min, Bool, true, false, cond, List, [], ◌∷◌, ◌++◌, ap, ◌∙◌, arith}
use Rattle.std.proofs.lemmas.List.Sums.{sum_by_push}
use Rattle.checker.specs.Tallies.{Answer, count, tally_of, one_more, noted}

capped : (t : Bool) (n : ℕ) → min (n + cond t 1 0) (2 ^ 64 - 1) ≡ one_more t (min n (2 ^ 64 - 1))
capped true n = omega arith
capped false n = omega arith

module _ (xs : List Answer) (a : Answer) where
  count_push : (p : Answer → Bool) → count p (xs ++ a ∷ []) ≡ one_more (p a) (count p xs)
  count_push p = ap (λ n. min n (2 ^ 64 - 1)) (sum_by_push (λ x. cond (p x) 1 0) xs a) ∙ capped (p a) _

  pub noted_is : noted (tally_of xs) a ≡ tally_of (xs ++ a ∷ [])
  noted_is = simp count_push
