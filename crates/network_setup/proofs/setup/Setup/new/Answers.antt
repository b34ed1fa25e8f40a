use Rattle.std.proofs.Common.{rules}
use Rattle.network_setup.proofs.Booting.{none_booted}
use Rattle.network_setup.proofs.setup.Setup.new.Goals as goal

pub invariant_of-result : goal.invariant_of-result
invariant_of-result c = none_booted c.new.result.items (search rules)
