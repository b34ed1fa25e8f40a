-- Re-exports the names that most proofs here cite.
pub use Rattle.device_core.specs.Code.Taking.{takes_all}
unfoldable pub use Rattle.device_core.specs.PacketQueue.{free_slot}
pub use Rattle.device_core.specs.PacketQueue.{PacketQueue, is_held, no_packets, with_frame}
pub use Rattle.device_core.specs.Code.HeldFrames.{IsWellFormed, receiver_number}
pub use Rattle.device_core.specs.SerialLine.{SerialLine, after_byte, after_bytes, after_line, is_line_end, next_line, with_bytes}
pub use Rattle.device_core.specs.declared.frame.Frame.{Frame}
pub use Rattle.std.proofs.lemmas.Bool.Decides.{nat_tests}
pub use Rattle.std.proofs.lemmas.List.{append-nil, length-map, length_push, map_push, take_all, take_at}
unfoldable pub use Rattle.std.specs.List.{IsDistinct}
pub use Rattle.std.specs.List.{after_first, before_first, find, list_any, range_with_len}
pub use Rattle.std.specs.Option.{option_map}
