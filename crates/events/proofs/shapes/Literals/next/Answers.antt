use Rattle.events.proofs.Lawful.{given_by}
use Rattle.events.proofs.shapes.Literals.next.Goals as goal

pub returns-clause-names : goal.returns-clause-names
returns-clause-names c = given_by c.args.self.now.rest _ _ c.step.ensures.value
