use Rattle.std.proofs.Common.{◌≡◌, length}
use Rattle.kernel_core.proofs.Common.{IsServed}
use Rattle.kernel_core.proofs.Lines.{all_served}
use Rattle.kernel_core.proofs.kernel_fields.KernelFields.empty_ring.Given as goal

abbrev pub invariant-ring : goal.invariant-ring
invariant-ring l = record {
  served : all_served l.self ≡ all_served l.fn.self;
  kept : IsServed 0 l.fn.self l.self;
}

abbrev pub decreases-ring : goal.decreases-ring
decreases-ring l = length l.self.serial.ring
