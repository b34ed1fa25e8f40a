use Rattle.std.proofs.Common.{codes, drop, lit<}
use Rattle.network_setup.proofs.Cutting.{argument_none, argument_some, motes_malformed, other_done, other_malformed}
use Rattle.network_setup.proofs.setup.Setup.take_line.Goals as goal

pub returns-in-None-clause-done : goal.returns-in-None-clause-done
returns-in-None-clause-done c =
    other_done c.args.line.now c.args.self.now _ (argument_none (codes "mote ") c.args.line.now (lit< tt) c.in-None.ensures.cases)
    c.take_other_line.result c.take_other_line.ensures

pub returns-in-None-clause-malformed : goal.returns-in-None-clause-malformed
returns-in-None-clause-malformed c =
    other_malformed c.args.line.now c.args.self.now _ (argument_none (codes "mote ") c.args.line.now (lit< tt) c.in-None.ensures.cases)
    c.take_other_line.result c.take_other_line.ensures

pub returns-in-Some-clause-malformed : goal.returns-in-Some-clause-malformed
returns-in-Some-clause-malformed c =
    let left = c.in-Some.ensures.cases in
    motes_malformed c.args.line.now c.in-Some.text.now c.args.self.now
    (rw left.2 (argument_some (codes "mote ") c.args.line.now (drop left.0 c.args.line.now) (lit< tt) left.1.1)) c.add_motes.result
    c.add_motes.ensures.malformed
