use Rattle.std.proofs.Common.{◌≡◌, ◌+◌, get_or, drop, None, sym, ◌∙◌, rules}
use Rattle.std.proofs.lemmas.List.{at_drop_more}
use Rattle.numbers.specs.Numeral.{digits_after}
use Rattle.numbers.proofs.Values.{at_refused}
use Rattle.numbers.proofs.value_of.Goals as goal

pub returns-in_err-value : goal.returns-in_err-value
returns-in_err-value c =
    let limit = c.args.limit in
    let value = c.loop-b.value in
    let ds = c.args.text.now in
    let i = c.loop-b.b-index in
    let none : c.from_residual.result ≡ None = search rules in
    none ∙ sym (at_refused limit value (get_or ds i 0) (drop (i + 1) ds) c.in_err-value.ensures)
    ∙ sym (at_drop_more (digits_after limit value) ds i 0 c.loop-b-test.true) ∙ c.loop-b.invariant.1
