-- What the application says that makes calls by the numbers of a generator, whatever it receives.
use Rattle.std.specs.Prelude.{ℕ, ◌+◌, ◌*◌, ◌/◌, ◌%◌, ◌^◌, List, [], ◌∷◌, slice_index_or}
use Rattle.mote_types.specs.Applications.{Says}
use Rattle.mote_types.specs.Code.StateMachines.{fold_says}
use Rattle.mote_types.specs.declared.call.Call.{Call}
use Rattle.mote_types.specs.declared.event.Payload.{Payload}
use Rattle.mote_types.specs.declared.event.Stimulus.{Stimulus}
use Rattle.mote_apps.specs.declared.chaos.Chaos.{Chaos}

-- the number after x: a linear congruential generator with 31 bits
abbrev pub next_number : ℕ → ℕ
next_number x = (x * 1103515245 + 12345) % 2 ^ 31

-- the sixteen calls, on one of eight processes, timers, handles, blocks or pools, with an interval or a length
abbrev pub calls_on : ℕ → ℕ → List Call
calls_on name size =
    Call.Wait ∷ Call.PostSynch (4 + name) 140 Payload.Empty ∷ Call.Kill (4 + name) ∷ Call.Start (4 + name)
    ∷ Call.Post (4 + name) 141 Payload.Empty ∷ Call.Poll (4 + name) ∷ Call.TimerSet name size ∷ Call.CallbackSet name size
    ∷ Call.MmemAlloc name size ∷ Call.MmemFree name ∷ Call.MmemRead name 0 size ∷ Call.HeapAlloc name size
    ∷ Call.HeapRealloc name size ∷ Call.HeapFree name ∷ Call.MembAlloc name ∷ Call.Exit ∷ []

abbrev pub nth_call : ℕ → ℕ → ℕ → Call
nth_call choice name size = slice_index_or (calls_on name size) choice Call.Wait

-- the call of a number: bits 16 to 19 choose it, bits 20 to 22 the name, those above the size
unfoldable pub call_of : ℕ → Call
call_of x = nth_call (x / 2 ^ 16 % 16) (x / 2 ^ 20 % 8) (x / 2 ^ 23)

-- each turn draws the next number, and makes its call
abbrev pub chaos_answer : Chaos → Stimulus → Call
chaos_answer chaos stimulus = call_of (next_number chaos.x)

abbrev pub chaos_next : Chaos → Stimulus → Chaos
chaos_next chaos stimulus = record { x = next_number chaos.x }

abbrev pub chaos_says : Chaos → Says
chaos_says = fold_says chaos_answer chaos_next
