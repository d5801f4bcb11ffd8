-- How many answers there are of each kind.
--   Answer        the kind of a line, or its refusal
--   count p xs    how many answers pass the test, at most 2^64 - 1
--   tally_of xs   the counts of all kinds and of the refusals
--   noted t a     a tally with one answer more, if there is one: noted_after t o
use Rattle.std.specs.Prelude.{ℕ, ◌+◌, ◌-◌, ◌^◌, min, Bool, true, false, cond, List, Some, None, Ok, Err, count_by, Option, Result, ◌==◌}
use Rattle.events.specs.declared.shapes.LineKind.{LineKind}
use Rattle.events.specs.declared.shapes.LineKind.TheVariants as kind
use Rattle.events.specs.Lines.{number_of_kind}
use Rattle.refusal.specs.declared.refusals.Refusal.{Refusal}
use Rattle.checker.specs.declared.tally.Tally.{Tally}

abbrev pub Answer : Type 0
Answer = Result LineKind Refusal

abbrev pub is : LineKind → Answer → Bool
is k (Ok j) = number_of_kind k == number_of_kind j
is k (Err e) = false

abbrev pub is_refused : Answer → Bool
is_refused (Ok k) = false
is_refused (Err e) = true

abbrev pub any : Answer → Bool
any a = true

abbrev pub count : (Answer → Bool) → List Answer → ℕ
count p xs = min (count_by p xs) (2 ^ 64 - 1)

abbrev pub tally_of : List Answer → Tally
tally_of xs = record {
  lines = count any xs;
  assign = count (is kind.Assign) xs;
  decide_and_or = count (is kind.DecideAndOr) xs;
  conflict = count (is kind.Conflict) xs;
  push = count (is kind.Push) xs;
  pop = count (is kind.Pop) xs;
  begin_check = count (is kind.BeginCheck) xs;
  other = count (is kind.Other) xs;
  refused = count is_refused xs;
}

-- one more, if the test is passed
abbrev pub one_more : Bool → ℕ → ℕ
one_more t n = cond t (min (n + 1) (2 ^ 64 - 1)) n

abbrev pub noted : Tally → Answer → Tally
noted t a = record {
  lines = one_more true t.lines;
  assign = one_more (is kind.Assign a) t.assign;
  decide_and_or = one_more (is kind.DecideAndOr a) t.decide_and_or;
  conflict = one_more (is kind.Conflict a) t.conflict;
  push = one_more (is kind.Push a) t.push;
  pop = one_more (is kind.Pop a) t.pop;
  begin_check = one_more (is kind.BeginCheck a) t.begin_check;
  other = one_more (is kind.Other a) t.other;
  refused = one_more (is_refused a) t.refused;
}

abbrev pub noted_after : Tally → Option Answer → Tally
noted_after t None = t
noted_after t (Some a) = noted t a
