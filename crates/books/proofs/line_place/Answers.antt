use Rattle.std.proofs.Common.{inl, rules, arith, tests}
use Rattle.std.proofs.lemmas.Iterator.Search.{position_from_yields_List}
use Rattle.std.proofs.lemmas.Iterator.Consumers.{YieldsList-from_first}
use Rattle.std.specs.Str.{bytes_eq}
use Rattle.lines.specs.Lines.{split}
use Rattle.lines.specs.Left.{left}
use Rattle.books.proofs.Places.{lines_le}
use Rattle.books.proofs.line_place.Goals as goal

pub position-requires-clause-fits : goal.position-requires-clause-fits
position-requires-clause-fits c = inl (omega (arith, lines_le c.of.result.text.now))

pub returns : goal.returns
returns c =
    let lines = YieldsList-from_first (λ x. x.now) left (split c.args.text.now) c.of.ensures in
    position_from_yields_List (λ l. bytes_eq l c.args.id.now) c.position.new.self _ c.position.result c.position.ensures.ran lines (λ x b q k. search (rules, tests))
