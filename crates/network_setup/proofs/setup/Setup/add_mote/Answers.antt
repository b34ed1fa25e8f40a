use Rattle.network_setup.proofs.Booting.{still_booted}
use Rattle.network_setup.proofs.setup.Setup.add_mote.Goals as goal

pub invariant_of-self-then-is_err : goal.invariant_of-self-then-is_err
invariant_of-self-then-is_err c =
    still_booted c.args.config c.self.inside.motes.items c.boot_mote.new.motes.items c.self.invariant c.in_ok-boot_mote.ensures.added

pub invariant_of-self-then-is_err-2 : goal.invariant_of-self-then-is_err-2
invariant_of-self-then-is_err-2 c =
    still_booted c.args.config c.self.inside.motes.items c.boot_mote.new.motes.items c.self.invariant c.in_ok-boot_mote.ensures.added

pub invariant_of-self-else-is_err-2 : goal.invariant_of-self-else-is_err-2
invariant_of-self-else-is_err-2 c =
    still_booted c.args.config c.self.inside.motes.items c.boot_mote.new.motes.items c.self.invariant c.in_ok-boot_mote.ensures.added
