use Rattle.std.proofs.Common.{[], ap, refl, rules, ◌∙◌}
use Rattle.network_steps.specs.StepsView.{StepsView}
use Rattle.network_run.proofs.Fates.{loss_lost, loss_put, shown_all}
use Rattle.mote_text.proofs.Writing.{nothing_more, writes_lost, written_as}
use Rattle.network_run.proofs.reports.put_losses.Goals as goal

pub loop-came-init : goal.loop-came-init
loop-came-init g c = record { puts = λ named. ([], refl, nothing_more _ _); same = refl; net = refl; waiting = refl; works = λ works. works }

pub loop-came-preserved : goal.loop-came-preserved
loop-came-preserved g c = record {
  puts = λ named.
      let so_far = c.loop-came.invariant.puts named in
      loss_put c.in-Some.came c.loop-came.steps c.next_loss.new.self c.in-Some.ensures.some.0 c.in-Some.ensures.loss c.in-Some.ensures.some.1 _ so_far.1 so_far.2
      (c.in_ok-put_own.ensures.puts named);
  same = search rules;
  net = ap (λ (s : StepsView). s.net) c.in-Some.ensures.some.0 ∙ c.loop-came.invariant.net;
  waiting = ap (λ (s : StepsView). s.waiting) c.in-Some.ensures.some.0 ∙ c.loop-came.invariant.waiting;
  works = λ works. ap (λ (s : StepsView). s.phase) c.in-Some.ensures.some.0;
}

pub returns-in_err-put_own-clause-puts : goal.returns-in_err-put_own-clause-puts
returns-in_err-put_own-clause-puts g c = λ named.
    let so_far = c.loop-came.invariant.puts named in
    let cut = c.in_err-put_own.ensures.puts named in
    rw c.if-quiet.false
    (writes_lost c.from_residual.result _ c.from_residual.ensures.0
    (written_as (shown_all c.args.steps.now.sending c.args.steps.now.net)
    (loss_lost c.in-Some.came c.loop-came.steps c.next_loss.new.self c.in-Some.ensures.some.0 c.in-Some.ensures.loss c.in-Some.ensures.some.1 _ so_far.1 so_far.2
    cut.1)))
