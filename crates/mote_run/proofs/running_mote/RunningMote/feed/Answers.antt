use Rattle.std.proofs.Common.{refl, sym}
use Rattle.mote_run.proofs.Common.{append-nil, Step}
use Rattle.mote_text.proofs.Writing.{nothing_more}
use Rattle.std.proofs.lemmas.Result.{MatchResult-from_err}
use Rattle.mote_run.proofs.Ways.{goes_further, idle_is_still, input_went, went_further, went_input, went_step, went_written}
use Rattle.mote_run.proofs.running_mote.RunningMote.feed.Goals as goal

pub returns-in_err-make_room-clause-goes : goal.returns-in_err-make_room-clause-goes
returns-in_err-make_room-clause-goes g c = λ named.
    MatchResult-from_err c.from_residual.result _ _ c.from_residual.ensures.0 (λ _. (
      _,
      _,
      _,
      went_further (input_went c.args.input.now c.requires.still c.requires.running)
          (went_written (c.in_err-make_room.ensures.writes named).1),
    ))

pub returns-then-accept_idle_tick-clause-goes : goal.returns-then-accept_idle_tick-clause-goes
returns-then-accept_idle_tick-clause-goes g c = λ named.
    let r = c.accept_idle_tick.ensures.machine c.if-accept_idle_tick.true _ in
    went_step Step.Rest
    (went_input c.args.input.now c.requires.still c.requires.running (c.in_ok-make_room.ensures.writes named) r.entry r.running
    c.put_input.ensures) (nothing_more _ _) r.rest (record { each = λ p next later. refl })
    (rw (c.accept_idle_tick.ensures.halted, c.requires.running, r.running) refl) (sym (append-nil _))

pub returns-then-accept_idle_tick-clause-still : goal.returns-then-accept_idle_tick-clause-still
returns-then-accept_idle_tick-clause-still g c =
    idle_is_still c.args.input.now _ _ (c.accept_idle_tick.ensures.machine c.if-accept_idle_tick.true)

pub returns-clause-goes : goal.returns-clause-goes
returns-clause-goes g c = λ named.
    goes_further c.settle.result _
    (went_input c.args.input.now c.requires.still c.requires.running (c.in_ok-make_room.ensures.writes named)
    ((rw (c.accept_idle_tick.ensures.else_nothing c.if-accept_idle_tick.false) at c.accept.ensures.machine) _) c.accept.ensures.running
    c.put_input.ensures) (c.settle.ensures.goes named)
