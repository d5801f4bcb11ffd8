-- The answers given and those owed are the answers to the whole input.
use Rattle.std.proofs.Common.{◌≡◌, ℕ, List, [], ◌++◌, map, Some, None, Option, sym, refl, ap, arith}
use Rattle.std.specs.Option.{option_map, option_to_list}
use Rattle.std.proofs.lemmas.List.{append-nil}
use Rattle.std.proofs.lemmas.Grind.{common_steps}
use Rattle.pieces.specs.Reader.{pending}
use Rattle.pieces.proofs.Due.{due_next, due_last}
use Rattle.checker.specs.declared.checker.LogChecker.{LogChecker}
use Rattle.checker.specs.Answers.{answers, limit_of, next_answer, last_answer, HasRead}
use Rattle.checker.specs.Tallies.{Answer, tally_of, noted_after}
use Rattle.checker.proofs.Sums.{noted_is}

map-option_to_list : {A B : Type 0} (f : A → B) (o : Option A) → map f (option_to_list o) ≡ option_to_list (option_map f o)
map-option_to_list f None = refl
map-option_to_list f (Some x) = refl

noted_all : (xs : List Answer) (g : Option Answer) → noted_after (tally_of xs) g ≡ tally_of (xs ++ option_to_list g)
noted_all xs None = ap tally_of (sym (append-nil xs))
noted_all xs (Some a) = noted_is xs a

pub reads_next : (c d : LogChecker) (whole text left : List ℕ) (g : Option Answer) → d.mode ≡ c.mode → limit_of d ≡ limit_of c → d.tally ≡ noted_after c.tally g
    → record { given = g; at_hand = pending d.reader; left = left } ≡ next_answer c text → HasRead c whole text → HasRead d whole left
reads_next c d whole text left g mode room after step h = record {
  given = h.given ++ option_to_list g;
  rest = λ more.
      let before = h.rest more in
      let due = due_next (limit_of c) (pending c.reader) text more in
      grind (arith, common_steps, map-option_to_list);
  counts = grind (arith, noted_all);
}

pub reads_all : (c : LogChecker) (whole : List ℕ) → HasRead c whole [] → noted_after c.tally (last_answer c) ≡ tally_of (answers c.mode (limit_of c) whole)
reads_all c whole h =
    let before = h.rest [] in
    let due = due_last (limit_of c) (pending c.reader) in
    grind (arith, common_steps, map-option_to_list, noted_all)
