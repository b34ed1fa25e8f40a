use Rattle.std.proofs.Common.{◌≡◌, ◌∙◌, sym, Some, None, false, refl, rules}
use Rattle.network_steps.specs.Code.Going.{GoesBy, PassesBy}
use Rattle.network_steps.specs.Code.Turns.{is_of_mote}
use Rattle.network_steps.specs.declared.came.Came.{Came}
use Rattle.network_steps.proofs.Going.{closed_apart}
use Rattle.network_run.specs.Code.Reports.{rests_after}
use Rattle.network_run.proofs.Running.{ends_not, faulted_at, fit_gone, fit_passed, goes_further, goes_working, passes_further, rests_so, stopped_nowhere, stops_at, takes_end}
use Rattle.network_run.proofs.Ways.{fault_on}
use Rattle.network_run.proofs.input.run_to_rest.Goals as goal

pub loop-mote-init : goal.loop-mote-init
loop-mote-init g c = record {
  took = λ named. stopped_nowhere c.args.quiet _ _;
  same = refl;
  works = c.requires.under_way.works;
  reported = c.requires.under_way.reported;
  fit = c.requires.under_way.fit;
}

pub returns-in_err-work_by-clause-takes : goal.returns-in_err-work_by-clause-takes
returns-in_err-work_by-clause-takes g c = λ named.
    fault_on c.from_residual.result _ _ _ c.from_residual.ensures.1
    (stops_at c.args.quiet _ (c.loop-mote.invariant.took named) c.in_err-work_by.ensures.failed c.loop-mote.invariant.fit)

pub loop-mote-preserved-in-Continue-branch-2 : goal.loop-mote-preserved-in-Continue-branch-2
loop-mote-preserved-in-Continue-branch-2 g c =
    let gone : GoesBy (Came.Entry c.in-Some.mote) c.loop-mote.steps c.work_by.new.self _ _ = rw c.if-branch.true at c.in_ok-work_by.ensures.steps in
    let put = c.in_ok-put_entry.ensures in
    record {
      took = λ named. rw (put.net, put.waiting)
          (goes_further c.args.quiet c.loop-mote.invariant.reported (c.loop-mote.invariant.took named) gone refl (put.puts named));
      same = search rules;
      works = put.works (goes_working gone refl);
      reported = put.reported;
      fit = λ ready. rw (put.net, put.waiting) (fit_gone gone (c.loop-mote.invariant.fit ready));
    }

pub returns-in_err-put_entry-clause-takes : goal.returns-in_err-put_entry-clause-takes
returns-in_err-put_entry-clause-takes g c = λ named.
    let gone : GoesBy (Came.Entry c.in-Some.mote) c.loop-mote.steps c.work_by.new.self _ _ = rw c.if-branch.true at c.in_ok-work_by.ensures.steps in
    let put = c.in_err-put_entry.ensures in
    let cut = put.puts named in
    rw put.net
    (fault_on c.from_residual-in_err-put_entry.result _ _ _ c.from_residual-in_err-put_entry.ensures.1
    (faulted_at c.args.quiet _ put.fault c.loop-mote.invariant.reported (c.loop-mote.invariant.took named) gone refl cut.1))

pub loop-mote-preserved-else-branch : goal.loop-mote-preserved-else-branch
loop-mote-preserved-else-branch g c =
    let p : PassesBy c.loop-mote.steps c.work_by.new.self _ _ = rw c.if-branch.false at c.in_ok-work_by.ensures.steps in
    record {
      took = λ named. passes_further c.args.quiet (c.loop-mote.invariant.took named) p;
      same = c.loop-mote.invariant.same;
      works = p.works;
      reported = p.sending;
      fit = λ ready. fit_passed p (c.loop-mote.invariant.fit ready);
    }

pub returns-in_err-step_on-clause-takes : goal.returns-in_err-step_on-clause-takes
returns-in_err-step_on-clause-takes g c = λ named.
    fault_on c.from_residual-in_err-step_on.result _ _ _ c.from_residual-in_err-step_on.ensures.1
    (stops_at c.args.quiet _ (c.loop-mote.invariant.took named) (c.in_err-step_on.ensures.failed (g.H.Caller.voices c.loop-mote.caller)) c.loop-mote.invariant.fit)

pub put_other-requires-clause-other : goal.put_other-requires-clause-other
put_other-requires-clause-other g c =
    rw c.came-came.ensures ((rw c.if-branch-2.true at c.in_ok-step_on.ensures.apart) (sym (rw c.network.ensures at c.active.ensures) ∙ c.in_default.is))

pub returns-in_err-rests : goal.returns-in_err-rests
returns-in_err-rests g c =
    let voices = g.H.Caller.voices c.loop-mote.caller in
    let gone : GoesBy c.came-came.result c.loop-mote.steps c.step_on.new.self voices voices =
    rw c.came-came.ensures ((rw c.if-branch-2.true at c.in_ok-step_on.ensures.steps) voices) in
    let other : is_of_mote c.came-came.result ≡ false =
    rw c.came-came.ensures ((rw c.if-branch-2.true at c.in_ok-step_on.ensures.apart) (sym (rw c.network.ensures at c.active.ensures) ∙ c.in_default.is)) in
    let put = c.in_err-rests.ensures in
    record {
      takes = λ named.
          let cut = rw c.network-then-branch-2.ensures at (put.puts named) in
          fault_on c.from_residual-in_err-rests.result _ _ _ c.from_residual-in_err-rests.ensures.1
          (faulted_at c.args.quiet _ put.fault c.loop-mote.invariant.reported (c.loop-mote.invariant.took named) gone (closed_apart (Some c.came-came.result) other) cut.1);
      rests = search rules;
      failures = search rules;
    }

pub returns-in-Some-2 : goal.returns-in-Some-2
returns-in-Some-2 g c =
    let voices = g.H.Caller.voices c.loop-mote.caller in
    let gone : GoesBy c.came-came.result c.loop-mote.steps c.step_on.new.self voices voices =
    rw c.came-came.ensures ((rw c.if-branch-2.true at c.in_ok-step_on.ensures.steps) voices) in
    let other : is_of_mote c.came-came.result ≡ false =
    rw c.came-came.ensures ((rw c.if-branch-2.true at c.in_ok-step_on.ensures.apart) (sym (rw c.network.ensures at c.active.ensures) ∙ c.in_default.is)) in
    let put = c.in_ok-rests.ensures in
    let end : Some c.in-Some-2.rests ≡ rests_after c.came-came.result = rw c.in-Some-2.is at put.rests in
    record {
      takes = λ named.
          takes_end c.args.quiet c.came-came.result c.in-Some-2.rests end gone
          (goes_further c.args.quiet c.loop-mote.invariant.reported (c.loop-mote.invariant.took named) gone (closed_apart (Some c.came-came.result) other)
          (rw c.network-then-branch-2.ensures at (put.puts named)));
      rests = rests_so c.came-came.result c.in-Some-2.rests end gone;
      failures = search rules;
    }

pub loop-mote-smaller-in_default-2 : goal.loop-mote-smaller-in_default-2
loop-mote-smaller-in_default-2 g c =
    let other = (rw c.if-branch-2.true at c.in_ok-step_on.ensures.apart) (sym (rw c.network.ensures at c.active.ensures) ∙ c.in_default.is) in
    let on : None ≡ rests_after c.came-came.result = rw c.in_default-2.is at c.in_ok-rests.ensures.rests in
    (rw c.if-branch-2.true at c.in_ok-step_on.ensures.nearer) (closed_apart (Some _) other) (ends_not _ (rw c.came-came.ensures at on))

pub loop-mote-preserved-in_default-2 : goal.loop-mote-preserved-in_default-2
loop-mote-preserved-in_default-2 g c =
    let voices = g.H.Caller.voices c.loop-mote.caller in
    let gone : GoesBy c.came-came.result c.loop-mote.steps c.step_on.new.self voices voices =
    rw c.came-came.ensures ((rw c.if-branch-2.true at c.in_ok-step_on.ensures.steps) voices) in
    let other : is_of_mote c.came-came.result ≡ false =
    rw c.came-came.ensures ((rw c.if-branch-2.true at c.in_ok-step_on.ensures.apart) (sym (rw c.network.ensures at c.active.ensures) ∙ c.in_default.is)) in
    let put = c.in_ok-rests.ensures in
    let on : None ≡ rests_after c.came-came.result = rw c.in_default-2.is at put.rests in
    record {
      took = λ named.
          goes_further c.args.quiet c.loop-mote.invariant.reported (c.loop-mote.invariant.took named) gone (closed_apart (Some c.came-came.result) other)
          (rw c.network-then-branch-2.ensures at (put.puts named));
      same = search rules;
      works = goes_working gone (ends_not c.came-came.result on);
      reported = gone.sending ∙ (rw c.network-then-branch-2.ensures at put.unsent);
      fit = λ ready. fit_gone gone (c.loop-mote.invariant.fit ready);
    }

pub loop-mote-preserved : goal.loop-mote-preserved
loop-mote-preserved g c =
    let voices = g.H.Caller.voices c.loop-mote.caller in
    let p : PassesBy c.loop-mote.steps c.step_on.new.self voices voices = (rw c.if-branch-2.false at c.in_ok-step_on.ensures.steps) voices in
    record {
      took = λ named. passes_further c.args.quiet (c.loop-mote.invariant.took named) p;
      same = c.loop-mote.invariant.same;
      works = p.works;
      reported = p.sending;
      fit = λ ready. fit_passed p (c.loop-mote.invariant.fit ready);
    }
