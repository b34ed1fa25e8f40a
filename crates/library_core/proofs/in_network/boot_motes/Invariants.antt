use Rattle.std.proofs.Common.{take}
use Rattle.library_core.specs.NetworkCalls.{AreOpened}
use Rattle.library_core.proofs.in_network.boot_motes.Given as goal

-- the motes so far have booted
abbrev pub invariant-loop-mote : goal.invariant-loop-mote
invariant-loop-mote l = AreOpened (take l.mote-index l.motes) l.sessions.items
