-- The statuses that the program exits with where it draws a network, and what it tells.
use Rattle.std.specs.Prelude.{◌≡◌, ℕ, List, ◌++◌, codes, decimal, Option, Some, Err}
use Rattle.command_line.specs.Statuses as programs
use Rattle.command_line.specs.Statuses.{IsStatusOf, failure_text, status_of_failure}
use Rattle.pictures.specs.declared.network.capture.CaptureFault.{CaptureFault}
use Rattle.mote_picture.specs.declared.network.undrawn.Undrawn.{Undrawn}

abbrev pub out_of_memory : Undrawn
out_of_memory = Undrawn.Program programs.out_of_memory

-- why there is no capture
abbrev pub without_capture : CaptureFault → Undrawn
without_capture CaptureFault.Late = Undrawn.Late
without_capture CaptureFault.Memory = out_of_memory

-- 2 if the script or the transcript is invalid, 64 if the arguments are, otherwise as for other programs
abbrev pub status_of : Undrawn → ℕ
status_of (Undrawn.Program failure) = status_of_failure failure
status_of (Undrawn.BadRange from to) = 64
status_of (Undrawn.BadScript number) = 2
status_of (Undrawn.NoLine number) = 2
status_of Undrawn.Quiet = 2
status_of Undrawn.Late = 2

-- what is reported, after the program's name
abbrev pub text_of : Undrawn → Option (List ℕ)
text_of (Undrawn.Program failure) = failure_text failure
text_of (Undrawn.BadRange from to) = Some (codes "--from " ++ decimal from ++ codes " is above --to " ++ decimal to)
text_of (Undrawn.BadScript number) = Some (codes "line " ++ decimal number ++ codes " of the script is malformed")
text_of (Undrawn.NoLine number) = Some (codes "line " ++ decimal number ++ codes " is no line of a network's transcript")
text_of Undrawn.Quiet = Some (codes "a quiet transcript has no clock")
text_of Undrawn.Late = Some (codes "a capture has no room for the clock: 2^32 seconds or more")

-- the status of the program that reports this; a text that the arguments ask for may fail to be written
abbrev pub IsReportedWith : Undrawn → ℕ → Type 0
IsReportedWith (Undrawn.Program failure) status = IsStatusOf (Err failure) status
IsReportedWith (Undrawn.BadRange from to) status = status ≡ 64
IsReportedWith (Undrawn.BadScript number) status = status ≡ 2
IsReportedWith (Undrawn.NoLine number) status = status ≡ 2
IsReportedWith Undrawn.Quiet status = status ≡ 2
IsReportedWith Undrawn.Late status = status ≡ 2
