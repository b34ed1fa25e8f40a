-- The earliest deadline so far, and of those ahead.
use Rattle.std.specs.Prelude.{ℕ, Option, None, Some}
use Rattle.timer_core.specs.Deadlines.{earlier_of}

abbrev pub earliest_with : Option ℕ → Option ℕ → Option ℕ
earliest_with None later = later
earliest_with (Some moment) later = Some (earlier_of moment later)
