use Rattle.network_setup.proofs.Booting.{has_booted}
use Rattle.network_setup.proofs.setup.Setup.has_booted.Goals as goal

pub returns : goal.returns
returns c = has_booted c.args.self.now _ c.self.view_is c.self.invariant
