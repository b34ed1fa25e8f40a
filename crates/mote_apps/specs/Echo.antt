-- What the application says that prints the lines of the serial line.
use Rattle.std.specs.Prelude.{ℕ, [], length, take, drop, ◌==◌, if◌then◌else◌}
use Rattle.mote_types.specs.Applications.{Says}
use Rattle.mote_types.specs.Code.StateMachines.{fold_says}
use Rattle.mote_types.specs.declared.call.Call.{Call}
use Rattle.mote_types.specs.declared.event.Payload.{Payload}
use Rattle.mote_types.specs.declared.event.Stimulus.{Stimulus}
use Rattle.mote_types.specs.EventNumbers.{SERIAL_LINE}
use Rattle.mote_types.specs.Limits.{chunk_limit}
use Rattle.mote_apps.specs.declared.echo.Echo.{Echo}

-- as many bytes of a line as one call prints are printed at once
abbrev pub line_answer : ℕ → Payload → Call
line_answer code (Payload.Line line) =
    if code == SERIAL_LINE then Call.Print (record { items = take chunk_limit line.items }) else Call.Wait
line_answer code _ = Call.Wait

abbrev pub line_next : ℕ → Payload → Echo → Echo
line_next code (Payload.Line line) echo =
    if code == SERIAL_LINE then record { rest = record { items = drop chunk_limit line.items } } else echo
line_next code _ echo = echo

-- It prints the front of a line, and after that the rest, where there is one
abbrev pub echo_answer : Echo → Stimulus → Call
echo_answer echo (Stimulus.Event event) = line_answer event.code event.payload
echo_answer echo (Stimulus.Answer reply) = if length echo.rest.items == 0 then Call.Wait else Call.Print echo.rest
echo_answer echo (Stimulus.Callback timer) = Call.Wait

abbrev pub echo_next : Echo → Stimulus → Echo
echo_next echo (Stimulus.Event event) = line_next event.code event.payload echo
echo_next echo (Stimulus.Answer reply) = if length echo.rest.items == 0 then echo else record { rest = record { items = [] } }
echo_next echo (Stimulus.Callback timer) = echo

abbrev pub echo_says : Echo → Says
echo_says = fold_says echo_answer echo_next
