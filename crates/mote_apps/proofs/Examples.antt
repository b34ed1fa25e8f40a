-- Examples: the numbers that the application at random draws, and the call of each kind.
use Rattle.std.proofs.Common.{◌≡◌, ◌+◌, ◌*◌, ◌^◌, ℕ, [], ◌∷◌, refl}
use Rattle.mote_types.specs.declared.call.Call.{Call}
use Rattle.mote_types.specs.declared.event.Payload.{Payload}
use Rattle.mote_types.specs.declared.event.Stimulus.{Stimulus}
use Rattle.mote_apps.specs.Chaos.{call_of, chaos_says, next_number}

-- 1,103,515,245 + 12,345; products of more than 31 bits
numbers : (next_number 1 ≡ 1103527590) × (next_number 1103527590 ≡ 377401575) × (next_number 0 ≡ 12345)
    × (next_number 2147483647 ≡ 1043980748)
numbers = (refl, refl, refl, refl)

-- the number of the choice k, the name 5 and the size 200
abbrev chosen : ℕ → Call
chosen k = call_of (k * 2 ^ 16 + 5 * 2 ^ 20 + 200 * 2 ^ 23)

on_processes : (chosen 0 ≡ Call.Wait) × (chosen 1 ≡ Call.PostSynch 9 140 Payload.Empty) × (chosen 2 ≡ Call.Kill 9)
    × (chosen 3 ≡ Call.Start 9) × (chosen 4 ≡ Call.Post 9 141 Payload.Empty) × (chosen 5 ≡ Call.Poll 9)
    × (chosen 6 ≡ Call.TimerSet 5 200) × (chosen 7 ≡ Call.CallbackSet 5 200)
unfolding call_of
on_processes = (refl, refl, refl, refl, refl, refl, refl, refl)

on_memory : (chosen 8 ≡ Call.MmemAlloc 5 200) × (chosen 9 ≡ Call.MmemFree 5) × (chosen 10 ≡ Call.MmemRead 5 0 200)
    × (chosen 11 ≡ Call.HeapAlloc 5 200) × (chosen 12 ≡ Call.HeapRealloc 5 200) × (chosen 13 ≡ Call.HeapFree 5)
    × (chosen 14 ≡ Call.MembAlloc 5) × (chosen 15 ≡ Call.Exit)
unfolding call_of
on_memory = (refl, refl, refl, refl, refl, refl, refl, refl)

-- bits below 16 don't count, and the greatest number is an exit
edges : (call_of 65535 ≡ Call.Wait) × (call_of 65536 ≡ Call.PostSynch 4 140 Payload.Empty) × (call_of 2147483647 ≡ Call.Exit)
unfolding call_of
edges = (refl, refl, refl)

-- from 1 on it draws 1103527590 and 377401575, whatever it receives
two_turns : (a b : Stimulus) → (chaos_says (record { x = 1 }) (a ∷ []) ≡ Call.TimerSet 4 131)
    × (chaos_says (record { x = 1 }) (a ∷ b ∷ []) ≡ Call.MembAlloc 7)
unfolding call_of
two_turns a b = (refl, refl)
