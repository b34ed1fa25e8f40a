use Rattle.std.proofs.Common.{refl}
use Rattle.network_session.proofs.Due.{get_there}
use Rattle.network_session.proofs.Submitting.{submitted_in}
use Rattle.network_session.proofs.network.submit_from_in.Goals as goal

pub returns-in-Ok-clause-submitted : goal.returns-in-Ok-clause-submitted
returns-in-Ok-clause-submitted g c =
    let there = get_there c.args.motes.now.items c.args.m c.index_mut.result.now c.requires c.index_mut.ensures.value in
    submitted_in c.args.m (g.S.CallSource.said c.args.source.now) c.args.motes.now.items _ c.index_mut.result.now c.submit_from.new.self there refl
    c.in-Ok.ensures.submitted
