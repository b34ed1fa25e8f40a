use Rattle.std.proofs.Common.{rules}
use Rattle.kernel_core.proofs.Common.{machine_of}
use Rattle.kernel_core.proofs.Leftover.{posted_all}
use Rattle.kernel_core.proofs.kernel_fields.KernelFields.post_due.Goals as goal

pub returns-then-has_room-clause-machine : goal.returns-then-has_room-clause-machine
returns-then-has_room-clause-machine c =
    posted_all (machine_of c.args.self.now) c.post_while_room.new.self c.post_while_room.ensures.machine (search rules)
