-- What the application says that goes through all kinds of memory.
use Rattle.std.specs.Prelude.{ℕ, ◌+◌, List, [], ◌∷◌, length, slice_index_or, codes, ◌==◌, if◌then◌else◌, nat_lt}
use Rattle.mote_types.specs.Applications.{Says}
use Rattle.mote_types.specs.Code.StateMachines.{fold_says}
use Rattle.mote_types.specs.declared.call.Call.{Call}
use Rattle.mote_types.specs.declared.event.Stimulus.{Stimulus}
use Rattle.mote_types.specs.EventNumbers.{INIT}
use Rattle.mote_apps.specs.declared.churn.Churn.{Churn}

-- its calls, in turn
abbrev pub churn_calls : List Call
churn_calls =
    Call.MmemAlloc 0 10 ∷ Call.MmemAlloc 1 20 ∷ Call.MmemAlloc 2 30 ∷ Call.MmemWrite 2 0 (record { items = codes "churn" })
    ∷ Call.MmemFree 0 ∷ Call.MmemRead 2 0 5 ∷ Call.MmemAvail ∷ Call.HeapAlloc 0 20 ∷ Call.HeapAlloc 1 20 ∷ Call.HeapFree 0
    ∷ Call.HeapAlloc 2 4 ∷ Call.HeapStats ∷ Call.MembAlloc 0 ∷ Call.MembAlloc 0 ∷ Call.ListAdd 0 1 ∷ Call.ListPush 0 0
    ∷ Call.ListChop 0 ∷ Call.MembNumFree 0 ∷ []

-- the call at this position, counted from 0; after the last one, a wait
abbrev pub call_at : ℕ → Call
call_at number = slice_index_or churn_calls number Call.Wait

abbrev pub next_made : ℕ → ℕ
next_made made = if nat_lt made (length churn_calls) then made + 1 else made

-- its start and each reply give the next call, the start the first one
abbrev pub churn_answer : Churn → Stimulus → Call
churn_answer churn (Stimulus.Event event) = if event.code == INIT then call_at 0 else Call.Wait
churn_answer churn (Stimulus.Answer reply) = call_at churn.made
churn_answer churn (Stimulus.Callback timer) = Call.Wait

abbrev pub churn_next : Churn → Stimulus → Churn
churn_next churn (Stimulus.Event event) = if event.code == INIT then record { made = next_made 0 } else churn
churn_next churn (Stimulus.Answer reply) = record { made = next_made churn.made }
churn_next churn (Stimulus.Callback timer) = churn

abbrev pub churn_says : Churn → Says
churn_says = fold_says churn_answer churn_next
