use Rattle.process_core.proofs.Lemmas.{refl, sym, ◌∙◌, passed, none_passed}
use Rattle.process_core.proofs.scheduler.Scheduler.pass_kernel_receivers.Goals as goal

pub returns-then-passes_receiver : goal.returns-then-passes_receiver
returns-then-passes_receiver c =
    let fields = c.self.inside.fields in
    let holds = sym c.passes_receiver.ensures ∙ c.if-passes_receiver.true in
    let all = passed c.args.codes.now fields holds in
    rw (← c.self.view_is, all.0, c.pass_kernel_processes.ensures, all.1) refl

pub returns-else-passes_receiver : goal.returns-else-passes_receiver
returns-else-passes_receiver c =
    let fields = c.self.inside.fields in
    let fails = sym c.passes_receiver.ensures ∙ c.if-passes_receiver.false in
    rw (← c.self.view_is, none_passed c.args.codes.now fields fails) refl
