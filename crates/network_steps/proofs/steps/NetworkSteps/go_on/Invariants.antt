use Rattle.std.proofs.Common.{◌≡◌, None}
use Rattle.mote_session.specs.Voices.{Voices}
use Rattle.network_steps.specs.Code.Going.{PassesBy, left_to_do}
use Rattle.network_steps.specs.declared.came.Phase.{Phase}
use Rattle.network_steps.proofs.steps.NetworkSteps.go_on.Given as goal

abbrev pub invariant-loop : goal.invariant-loop
invariant-loop l = record {
  passes : (voices : Voices) → PassesBy l.fn.self l.self voices voices;
  works : l.self.phase ≡ Phase.Working;
  reported : l.self.sending ≡ None;
}

abbrev pub decreases-loop : goal.decreases-loop
decreases-loop l = left_to_do l.self
