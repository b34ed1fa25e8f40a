-- What the greeting application says.
use Rattle.std.specs.Prelude.{ℕ, List, [], ◌∷◌, ◌==◌, if◌then◌else◌}
use Rattle.mote_types.specs.Applications.{Says}
use Rattle.mote_types.specs.Code.StateMachines.{fold_says}
use Rattle.mote_types.specs.declared.call.Call.{Call}
use Rattle.mote_types.specs.declared.event.Stimulus.{Stimulus}
use Rattle.mote_types.specs.EventNumbers.{INIT}

-- 'hi' and a line end
abbrev pub greeting : List ℕ
greeting = 104 ∷ 105 ∷ 10 ∷ []

-- it prints the greeting at its start, and otherwise waits
abbrev pub hello_answer : Stimulus → Call
hello_answer (Stimulus.Event event) = if event.code == INIT then Call.Print (record { items = greeting }) else Call.Wait
hello_answer (Stimulus.Answer reply) = Call.Wait
hello_answer (Stimulus.Callback timer) = Call.Wait

-- it has no state
abbrev pub hello_says : Says
hello_says = fold_says (λ (_ : Unit {0}) stimulus. hello_answer stimulus) (λ state _. state) tt
