-- What the kernel's processes do: 0 (etimer), 1 (ctimer), 2 (serial line) and 3 (packet).
use Rattle.std.specs.Prelude.{if◌then◌else◌, ◌==◌}
use Rattle.mote_types.specs.Kinds.{ProcessNumber}
use Rattle.mote_types.specs.Limits.{etimer_process, ctimer_process, serial_line_process, packet_process}
use Rattle.mote_types.specs.declared.event.Event.{Event}
use Rattle.kernel_core.specs.Machine.{Machine}
use Rattle.kernel_core.specs.PacketProcess.{packet}
use Rattle.kernel_core.specs.SerialProcess.{serial_line}
use Rattle.kernel_core.specs.TimerProcesses.{etimer, ctimer}

abbrev pub serve : ProcessNumber → Event → Machine → Machine
serve p event m =
    if p == etimer_process then etimer event m
    else if p == ctimer_process then ctimer event m
    else if p == serial_line_process then serial_line event m
    else if p == packet_process then packet event m
    else m
