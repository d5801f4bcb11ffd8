-- Taking a word leaves fewer words.
use Rattle.std.proofs.Common.{◌≡◌, ◌∷◌, length, ap, arith}
use Rattle.std.specs.Prelude.{Some}
use Rattle.std.specs.Iterator.{MakesProgress, item_count}
use Rattle.words.specs.declared.rest.Word.{Word}
use Rattle.words.specs.declared.rest.Words.{Words}
use Rattle.words.specs.Left.{left, word_of}

pub fewer : (s t : Words) (w : Word) → left s ≡ word_of w ∷ left t → MakesProgress (λ _. Unit {0}) (item_count left) s (Some w) t
fewer s t w e = record { on = λ _. (tt, tt, omega (arith, ap length e)); keeps = tt; rests = λ _. tt }
