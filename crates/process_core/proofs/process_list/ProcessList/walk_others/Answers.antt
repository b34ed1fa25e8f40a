use Rattle.process_core.proofs.Lemmas.{sym, ◌∙◌, ap, List, numbers, without, others, numbers_listed, without_listed, Process}
use Rattle.process_core.proofs.process_list.ProcessList.walk_others.Goals as goal

pub returns : goal.returns
returns c =
    let list = c.self.inside in let p = c.args.pid.0 in
    let same =
    sym (ap (λ (l : List Process). numbers (without p l)) c.self.view_is)
    ∙ (ap numbers (without_listed p list.states list.marks list.on_list.items)
    ∙ numbers_listed list.states list.marks (others p list.on_list.items)) in
    c.over.ensures ∙ ((rw c.as_slice.ensures.value at c.others_in.ensures) ∙ sym same)
