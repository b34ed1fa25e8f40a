-- What the fields of a packet queue stand for.
use Rattle.std.specs.Prelude.{ℕ, List, Option}
use Rattle.std.specs.Option.{option_map}
use Rattle.mote_types.specs.declared.event.Pid.{Pid}
use Rattle.device_core.specs.declared.frame.Frame.{Frame}
use Rattle.device_core.specs.PacketQueue.{PacketQueue}
use Rattle.device_core.specs.Code.HeldFrames.{receiver_number}

abbrev pub packets_of : List Frame → ℕ → Option Pid → PacketQueue
packets_of frames announced receiver = record { frames = frames; announced = announced; receiver = option_map receiver_number receiver }
