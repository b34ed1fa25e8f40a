use Rattle.std.proofs.Common.{arith, rules, refl, sym}
use Rattle.mote_types.specs.declared.call.Call.{Call}
use Rattle.mote_run.proofs.Common.{append-nil, entry_of, Step}
use Rattle.std.proofs.lemmas.Result.{MatchResult-from_err}
use Rattle.kernel_core.specs.Code.OpenTurns.{told_turn}
use Rattle.mote_run.proofs.Ways.{went_further, went_nowhere, went_step, went_written}
use Rattle.mote_run.proofs.running_mote.RunningMote.settle.Goals as goal

pub entry-init : goal.entry-init
entry-init g c = record {
  went = λ named. went_nowhere _;
  found =
      record { applications = refl; clock = refl; inputs = refl; closed = c.requires.closed; same = refl };
}

pub returns-in_err-make_room-clause-goes : goal.returns-in_err-make_room-clause-goes
returns-in_err-make_room-clause-goes g c = λ named.
    MatchResult-from_err c.from_residual.result _ _ c.from_residual.ensures.0 (λ _.
    (_, _, _, went_further (c.entry.invariant.went named) (went_written (c.in_err-make_room.ensures.writes named).1)))

pub returns-in-Rest-clause-goes : goal.returns-in-Rest-clause-goes
returns-in-Rest-clause-goes g c = λ named.
    went_step Step.Rest (c.entry.invariant.went named) (c.in_ok-make_room.ensures.writes named)
    (c.in-Rest.ensures.goes (λ e. absurd (cc)) _) (record { each = λ p next later. refl }) c.in-Rest.ensures.halted (sym (append-nil _))

pub returns-in-Halted-clause-goes : goal.returns-in-Halted-clause-goes
returns-in-Halted-clause-goes g c = λ named.
    went_step Step.Halted (c.entry.invariant.went named) (c.in_ok-make_room.ensures.writes named)
    (c.in-Halted.ensures.goes (λ e. absurd (cc)) (λ p stimulus. Call.Wait)) (record { each = λ p next later. refl }) c.in-Halted.ensures.halted (sym (append-nil _))

pub entry-preserved-in-Turn : goal.entry-preserved-in-Turn
entry-preserved-in-Turn g c = record {
  went = λ named.
      went_step (Step.Entry (entry_of (told_turn c.next_turn.new.self.kept c.take_turn.new.turn)))
      (c.entry.invariant.went named) (c.in_ok-make_room.ensures.writes named)
      (rw (c.take_turn.ensures.machine, c.take_turn.ensures.turn, c.take_turn.ensures.call) (c.in-Turn.ensures.awaits refl _))
      (record { each = c.take_turn.ensures.law }) (search rules) c.take_turn.ensures.text;
  found = search rules;
}

pub returns-in-Rest-clause-still : goal.returns-in-Rest-clause-still
returns-in-Rest-clause-still g c = grind (arith, c.in-Rest.ensures.goes (λ e. absurd (cc)) (λ p stimulus. Call.Wait))

pub returns-in-Halted-clause-still : goal.returns-in-Halted-clause-still
returns-in-Halted-clause-still g c = grind (arith, c.in-Halted.ensures.goes (λ e. absurd (cc)) (λ p stimulus. Call.Wait))

pub entry-preserved : goal.entry-preserved
entry-preserved g c = record {
  went = λ named.
      went_step (Step.Entry c.next_turn.new.other) (c.entry.invariant.went named) (c.in_ok-make_room.ensures.writes named)
      (c.in-Other.ensures.goes (λ e. absurd (cc)) _) (record { each = λ p next later. rw (c.in-Other.ensures.untold (λ e. absurd (cc)) p) refl }) c.in-Other.ensures.halted c.put_entry.ensures;
  found = search rules;
}
