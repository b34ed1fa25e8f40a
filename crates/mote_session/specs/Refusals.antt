-- What a session refuses, and why. The first reason counts.
use Rattle.std.specs.Prelude.{ℕ, ◌+◌, ◌^◌, Bool, true, not, ◌||◌, length, Option, None, Some, is_some, if◌then◌else◌, nat_le, nat_lt}
use Rattle.std.specs.Option.{option_or}
use Rattle.mote_types.specs.Kinds.{Ticks}
use Rattle.mote_types.specs.declared.entry.Input.{Input}
use Rattle.kernel_core.specs.Code.Conditions.{ticks_of}
use Rattle.kernel_core.specs.Run.{is_at_rest}
use Rattle.mote_session.specs.SessionView.{SessionView}
use Rattle.mote_session.specs.declared.refusal.SessionRefusal.{SessionRefusal}

-- why no input can be fed now
abbrev pub unrest : SessionView → Option SessionRefusal
unrest session =
    if is_some session.turn then Some SessionRefusal.AwaitsCall
    else if session.machine.is_halted then Some SessionRefusal.Halted
    else if not (is_at_rest session.machine) then Some SessionRefusal.NotAtRest
    else None

-- serial bytes and frames have a byte at least
abbrev pub is_input : Input → Bool
is_input (Input.Tick n) = true
is_input (Input.Serial bytes) = nat_lt 0 (length bytes.items)
is_input (Input.Frame bytes) = nat_lt 0 (length bytes.items)

-- how many inputs a session takes, and the latest moment of its clock
abbrev pub input_limit : ℕ
input_limit = 2 ^ 40

abbrev pub clock_limit : Ticks
clock_limit = 2 ^ 62

-- all inputs were fed, or the clock would go further
abbrev pub is_beyond : Input → SessionView → Bool
is_beyond input session = nat_le input_limit session.inputs || nat_lt clock_limit (session.machine.clock + ticks_of input)

-- why this input can't be fed at rest
abbrev pub unfit : Input → SessionView → Option SessionRefusal
unfit input session =
    if not (is_input input) then Some SessionRefusal.NoInput
    else if is_beyond input session then Some SessionRefusal.TooManyInputs
    else None

-- why what a line says can't be fed at rest: an input, or nothing; or the line is malformed
abbrev pub unfit_said : Option (Option Input) → SessionView → Option SessionRefusal
unfit_said None session = Some SessionRefusal.BadLine
unfit_said (Some None) session = None
unfit_said (Some (Some input)) session = unfit input session

-- the refusal of an input
abbrev pub input_refusal : Input → SessionView → Option SessionRefusal
input_refusal input session = option_or (unrest session) (unfit input session)

-- the refusal of a line that says this
abbrev pub line_refusal : Option (Option Input) → SessionView → Option SessionRefusal
line_refusal said session = option_or (unrest session) (unfit_said said session)
