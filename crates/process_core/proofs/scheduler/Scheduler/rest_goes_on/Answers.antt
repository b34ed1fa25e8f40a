use Rattle.process_core.proofs.Lemmas.{◌≡◌, true, State, is_idle, is_some, lone_poll, marked, not, polls_alone_from_rest, rests_after_poll, state_of, unmarked_again}
use Rattle.std.proofs.lemmas.Bool.{and_parts}
use Rattle.process_core.proofs.scheduler.Scheduler.rest_goes_on.Goals as goal

idle : (c : goal.After-self) → is_idle c.args.self.now.state ≡ true
idle c = (and_parts (not (is_some c.args.self.now.turn)) (is_idle c.args.self.now.state) c.requires).1

pub returns-clause-round : goal.returns-clause-round
returns-clause-round c = λ p below.
    let runs : state_of p c.args.self.now.state.processes ≡ State.Running =
    rw (← c.self.view_is) (c.self.invariant.sound.mote.kernel p below) in
    lone_poll (marked p c.args.self.now.state) p below (polls_alone_from_rest c.args.self.now.state p (idle c) runs)

pub returns-clause-same : goal.returns-clause-same
returns-clause-same c = λ p. unmarked_again c.args.self.now.state p (idle c)

pub returns-clause-rest : goal.returns-clause-rest
returns-clause-rest c = λ p. rests_after_poll c.args.self.now.state p (idle c)

pub returns-clause-idle : goal.returns-clause-idle
returns-clause-idle c = idle c
