-- When a frame stood.
--   status_of t      Global where it starts at 0, else Active while it has no end, else Leaked by the flag, else Ended
--   alive s          a frame of this status stands: it is not Ended
--   new_frame t m    a frame that starts at t, with the mark m
use Rattle.std.specs.Prelude.{ℕ, Bool, true, false, cond, ◌==◌}
use Rattle.items.specs.declared.stack.TimeRange.{TimeRange}
use Rattle.items.specs.declared.stack.StackFrame.{StackFrame}
use Rattle.items.specs.declared.stack.TimeRangeStatus.{TimeRangeStatus}
use Rattle.items.specs.declared.stack.TimeRangeStatus.TheVariants.{Global, Active, Leaked, Ended}

abbrev pub status_of : TimeRange → TimeRangeStatus
status_of t = cond (t.start == 0) Global (cond (t.end == 4294967295) Active (cond t.leaked Leaked Ended))

abbrev pub alive : TimeRangeStatus → Bool
alive Global = true
alive Active = true
alive Leaked = true
alive Ended = false

abbrev pub new_frame : ℕ → Bool → StackFrame
new_frame t m = record { from_cdcl = m; active = record { start = t; end = 4294967295; leaked = false } }
