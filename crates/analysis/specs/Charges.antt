-- What is counted and charged for a term, for a joining of values with the unit e and the join op, where T k is the total of node k.
--   counts t v a             the assignment a gives the term t the value v, and its node is another than node 0
--   tally e op T xs t v      how many of the assignments xs do so, and the totals of their nodes, joined, one for each of them
--   data_of e op T xs t      the tallies of the term t for true and for false
--   all_data e op T n xs     the same of each term below n
--   charged e op ts n xs     the same, where the totals are the entries ts
--   fits n m a               the assignment a is at a node below n, and of a term below m
--   within n m xs            each assignment of xs is
use Rattle.std.specs.Prelude.{ℕ, Bool, true, false, not, ◌&&◌, List, map, fold, count_by, filter, ◌==◌, nat_lt, slice_index_or}
use Rattle.std.specs.List.{range_with_len, list_all}
use Rattle.analysis.specs.declared.data.TreeAssignment.{TreeAssignment}
use Rattle.analysis.specs.declared.data.AssignData.{AssignData}
use Rattle.analysis.specs.declared.data.TermData.{TermData}

abbrev pub is : Bool → Bool → Bool
is true b = b
is false b = not b

abbrev pub counts : ℕ → Bool → TreeAssignment → Bool
counts t v a = not (a.node == 0) && (a.term.literal == t && is v a.term.value)

abbrev pub tally : {M : Type 0} → M → (M → M → M) → (ℕ → M) → List TreeAssignment → ℕ → Bool → AssignData M
tally e op T xs t v = record { count = count_by (counts t v) xs; charge = fold op e (map (λ a. T a.node) (filter (counts t v) xs)) }

abbrev pub data_of : {M : Type 0} → M → (M → M → M) → (ℕ → M) → List TreeAssignment → ℕ → TermData M
data_of e op T xs t = record { positive = tally e op T xs t true; negative = tally e op T xs t false }

abbrev pub all_data : {M : Type 0} → M → (M → M → M) → (ℕ → M) → ℕ → List TreeAssignment → List (TermData M)
all_data e op T n xs = map (data_of e op T xs) (range_with_len 0 n)

abbrev pub charged : {M : Type 0} → M → (M → M → M) → List M → ℕ → List TreeAssignment → List (TermData M)
charged e op ts n xs = all_data e op (λ k. slice_index_or ts k e) n xs

abbrev pub fits : ℕ → ℕ → TreeAssignment → Bool
fits n m a = nat_lt a.node n && nat_lt a.term.literal m

abbrev pub within : ℕ → ℕ → List TreeAssignment → Bool
within n m xs = list_all (fits n m) xs
