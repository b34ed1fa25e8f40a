use Rattle.std.proofs.Common.{◌++◌, ap, append-nil, sym, ◌∙◌, Option}
use Rattle.network_steps.specs.Lines.{shown_line, shown_losses}
use Rattle.network_steps.specs.Works.{sending_of}
use Rattle.network_steps.specs.declared.came.Came.{Came}
use Rattle.network_steps.specs.declared.came.Sending.{Sending}
use Rattle.mote_text.proofs.Writing.{lost_then, writes_as, writes_lost, writes_then, written_as}
use Rattle.network_run.proofs.Fates.{none_by}
use Rattle.network_run.proofs.reports.put_entry.Goals as goal

pub returns-in_err-put_last-clause-puts : goal.returns-in_err-put_last-clause-puts
returns-in_err-put_last-clause-puts g c = λ named.
    let cut = rw c.network.ensures at (c.in_err-put_last.ensures.puts named) in
    let net = c.args.steps.now.net in
    writes_lost c.from_residual.result _ c.from_residual.ensures.0 (lost_then (shown_losses c.args.quiet (sending_of (Came.Entry c.args.mote) net) net) cut.1)

pub returns-then-has_sent-clause-puts : goal.returns-then-has_sent-clause-puts
returns-then-has_sent-clause-puts g c = λ named.
    let net = c.args.steps.now.net in
    writes_as c.put_losses.result _ _ _ _ _ _
    (ap (λ (o : Option Sending). shown_line c.args.quiet (Came.Entry c.args.mote) net ++ shown_losses c.args.quiet o net) c.requires.noted)
    (writes_then c.put_losses.result _ _ _ _ _ _ _ _ (rw c.network.ensures at (c.in_ok-put_last.ensures.puts named)) (c.put_losses.ensures.puts named))

pub returns-else-has_sent-clause-puts : goal.returns-else-has_sent-clause-puts
returns-else-has_sent-clause-puts g c = λ named.
    let net = c.args.steps.now.net in
    written_as
    (sym (append-nil (shown_line c.args.quiet (Came.Entry c.args.mote) net))
    ∙ ap (λ (lost : _). shown_line c.args.quiet (Came.Entry c.args.mote) net ++ lost)
    (sym (none_by c.args.quiet c.args.steps.now.sending net (sym c.if-has_sent.ensures))
    ∙ ap (λ (o : Option Sending). shown_losses c.args.quiet o net) c.requires.noted))
    (rw c.network.ensures at (c.in_ok-put_last.ensures.puts named))
