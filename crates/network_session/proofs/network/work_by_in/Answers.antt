use Rattle.std.proofs.Common.{refl}
use Rattle.network_session.proofs.Due.{get_there}
use Rattle.network_session.proofs.WorkingBy.{works_in}
use Rattle.network_session.proofs.network.work_by_in.Goals as goal

pub returns-in-Ok-clause-worked : goal.returns-in-Ok-clause-worked
returns-in-Ok-clause-worked g c =
    let there = get_there c.args.motes.now.items c.args.m c.index_mut.result.now c.requires c.index_mut.ensures.value in
    works_in c.args.m c.args.motes.now.items _ c.index_mut.result.now c.next_by.new.self there c.in-Ok.ensures.worked.0 refl c.in-Ok.worked
    c.in-Ok.ensures.worked.1
