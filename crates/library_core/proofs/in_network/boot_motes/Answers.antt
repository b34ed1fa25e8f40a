use Rattle.library_core.proofs.Opened.{one_opened}
use Rattle.library_core.proofs.in_network.boot_motes.Goals as goal

pub loop-mote-preserved : goal.loop-mote-preserved
loop-mote-preserved c =
    one_opened c.args.motes.now c.loop-mote.mote-index _ c.in-Some.config _ _ c.loop-mote-test.true c.loop-mote.invariant c.in-Some.ensures.some
    c.in-Ok-boot_mote.ensures.added
