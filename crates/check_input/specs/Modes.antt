-- The mode that the arguments of the command line ask for.
--   mode_for first second   the mode, by the first two arguments, as far as there are any
use Rattle.std.specs.Prelude.{ℕ, cond, List, Some, None, codes, Option}
use Rattle.std.specs.Str.{bytes_eq}
use Rattle.events.specs.declared.shapes.Mode.{Mode}
use Rattle.events.specs.declared.shapes.Mode.TheVariants.{Bare, Prefixed}

abbrev pub mode_for : Option (List ℕ) → Option (List ℕ) → Option Mode
mode_for None second = Some Bare
mode_for (Some word) None = cond (bytes_eq word (codes "--prefixed")) (Some Prefixed) None
mode_for (Some word) (Some other) = None
