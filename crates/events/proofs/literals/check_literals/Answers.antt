use Rattle.std.proofs.Common.{length, Ok, sym, ap, ◌∙◌}
use Rattle.words.specs.Left.{left, end}
use Rattle.events.specs.declared.shapes.LineKind.TheVariants.{Conflict}
use Rattle.events.specs.Lines.{passed}
use Rattle.events.specs.Literals.{literals, given}
use Rattle.events.specs.Shown.{literal_of, next_shown}
use Rattle.events.proofs.Cursors.{passed_put_first}
use Rattle.events.proofs.literals.check_literals.Goals as goal

pub loop-literal-preserved : goal.loop-literal-preserved
loop-literal-preserved c =
    let e = end c.loop-literal.list.rest in
    let after = left c.next.new.self.rest in
    let was = c.in_ok-_literal.was ∙ ap Ok c.in-Some.is in
    let step = c.next.ensures.laws ∙ ap (λ r. given (next_shown r) (literals e after)) was in
    let same = ap length c.next.ensures.same in (
      same ∙ c.loop-literal.invariant.0,
      ap (λ m. passed Conflict (literals m after)) same ∙ sym (passed_put_first Conflict (literal_of c.in-Some._literal) (literals e after)) ∙ ap (passed Conflict) (sym step) ∙ c.loop-literal.invariant.1,
    )
