-- The statuses that the program exits with, and what it tells.
use Rattle.std.specs.Prelude.{◌≡◌, ℕ, List, ◌++◌, codes, decimal, Option, Some, Err}
use Rattle.command_line.specs.Statuses as programs
use Rattle.command_line.specs.Statuses.{IsStatusOf, failure_text, status_of_failure}
use Rattle.mote_picture.specs.declared.undrawn.Undrawn.{Undrawn}

abbrev pub out_of_memory : Undrawn
out_of_memory = Undrawn.Program programs.out_of_memory

-- 2 if the transcript is invalid, 64 if the arguments are, otherwise as for other programs
abbrev pub status_of : Undrawn → ℕ
status_of (Undrawn.Program failure) = status_of_failure failure
status_of (Undrawn.NoLine number) = 2
status_of Undrawn.Quiet = 2
status_of (Undrawn.BadRange from to) = 64
status_of Undrawn.QuietRange = 64

-- what is reported, after the program's name
abbrev pub text_of : Undrawn → Option (List ℕ)
text_of (Undrawn.Program failure) = failure_text failure
text_of (Undrawn.BadRange from to) = Some (codes "--from " ++ decimal from ++ codes " is above --to " ++ decimal to)
text_of (Undrawn.NoLine number) = Some (codes "line " ++ decimal number ++ codes " is no line of a transcript")
text_of Undrawn.Quiet = Some (codes "a quiet transcript tells no clock: --vcd needs the whole one")
text_of Undrawn.QuietRange = Some (codes "a quiet transcript tells no clock for --from and --to")

-- the status of the program that reports this; a text that the arguments ask for may fail to be written
abbrev pub IsReportedWith : Undrawn → ℕ → Type 0
IsReportedWith (Undrawn.Program failure) status = IsStatusOf (Err failure) status
IsReportedWith (Undrawn.NoLine number) status = status ≡ 2
IsReportedWith Undrawn.Quiet status = status ≡ 2
IsReportedWith (Undrawn.BadRange from to) status = status ≡ 64
IsReportedWith Undrawn.QuietRange status = status ≡ 64
