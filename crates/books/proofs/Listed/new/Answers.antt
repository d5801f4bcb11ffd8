use Rattle.books.proofs.Places.{listed_laws}
use Rattle.books.proofs.Listed.new.Goals as goal

pub returns-clause-laws : goal.returns-clause-laws
returns-clause-laws c = listed_laws c.args.text.now
