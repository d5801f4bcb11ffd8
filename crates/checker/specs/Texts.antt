-- The texts of a report.
--   refused_text r   what is told of a refused line
--   tally_text t     what is told of all lines
use Rattle.std.specs.Prelude.{ℕ, List, ◌++◌, codes, decimal}
use Rattle.refusal.specs.Refusals.{number_of, name_of, place_of}
use Rattle.checker.specs.declared.report.RefusedLine.{RefusedLine}
use Rattle.checker.specs.declared.tally.Tally.{Tally}

abbrev pub refused_text : RefusedLine → List ℕ
refused_text r =
    codes "line " ++ (decimal r.line ++ (codes " refused " ++ (decimal (number_of r.refusal) ++ (codes " " ++ (name_of r.refusal ++ (codes " place " ++ decimal (place_of r.refusal)))))))

abbrev pub tally_text : Tally → List ℕ
tally_text t =
    codes "lines " ++ (decimal t.lines ++ (codes " assign " ++ (decimal t.assign ++ (codes " decide-and-or " ++ (decimal t.decide_and_or ++ (codes " conflict " ++ (decimal t.conflict
    ++ (codes " push " ++ (decimal t.push ++ (codes " pop " ++ (decimal t.pop ++ (codes " begin-check " ++ (decimal t.begin_check ++ (codes " other " ++ (decimal t.other ++ (codes " refused " ++ decimal t.refused))))))))))))))))
