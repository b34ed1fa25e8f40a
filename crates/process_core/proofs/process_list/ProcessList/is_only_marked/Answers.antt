use Rattle.process_core.proofs.Lemmas.{sym, ◌∙◌, ap, is_only_marked, only_counted}
use Rattle.process_core.proofs.process_list.ProcessList.is_only_marked.Goals as goal

pub returns : goal.returns
returns c =
    let list = c.self.inside in
    c.is_only.ensures
    ∙ (sym (only_counted list.states list.marks list.on_list.items c.args.pid.0 c.requires c.self.invariant.kept)
    ∙ ap (is_only_marked c.args.pid.0) c.self.view_is)
