use Rattle.std.proofs.Common.{◌≡◌, take}
use Rattle.device_core.proofs.Common.{after_bytes}
use Rattle.device_core.proofs.byte_ring.ByteRing.take_each.Given as goal

abbrev pub invariant-loop-byte : goal.invariant-loop-byte
invariant-loop-byte l = l.self ≡ after_bytes l.fn.self (take l.byte-index l.bytes)
