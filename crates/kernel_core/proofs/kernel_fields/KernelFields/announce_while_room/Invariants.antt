use Rattle.std.proofs.Common.{◌≡◌, ◌-◌, length}
use Rattle.kernel_core.proofs.Common.{IsServed, announce_next}
use Rattle.kernel_core.proofs.FreePlaces.{for_each}
use Rattle.kernel_core.proofs.kernel_fields.KernelFields.announce_while_room.Given as goal

abbrev pub invariant-loop-self : goal.invariant-loop-self
invariant-loop-self l = record {
  told : for_each announce_next l.self ≡ for_each announce_next l.fn.self;
  kept : IsServed 0 l.fn.self l.self;
}

abbrev pub decreases-loop-self : goal.decreases-loop-self
decreases-loop-self l = 32 - length l.self.scheduler.state.events
