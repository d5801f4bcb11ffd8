use Rattle.words.proofs.Leads.{cut_by}
use Rattle.words.proofs.Places.{left_by, left_stand}
use Rattle.words.proofs.rest.Words.first.Goals as goal

pub returns-clause-value : goal.returns-clause-value
returns-clause-value c =
    left_by c.args.self.place c.args.self.line.now c.split_at.result.1.now _ _ c.split_at.ensures.back (cut_by _ _ _ c.next_word.ensures.value)

pub returns-clause-parts : goal.returns-clause-parts
returns-clause-parts c = left_stand c.args.self.place c.args.self.line.now
