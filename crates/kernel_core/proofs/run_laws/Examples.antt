-- Worked examples: what a transcript shows of blocks, events and timers.
use Rattle.std.proofs.Common.{◌≡◌, ℕ, true, false, List, [], ◌∷◌, ◌++◌, map, refl, Some, None, length}
use Rattle.kernel_core.proofs.Common.{blocks_of, use_of, decide, list_any, Call, Reply, Refusal, Origin, Stimulus, EXIT, INIT, TIMER, Entry, Input, Payload, number_event, plain_event, IsAtRest, accepted_events, given_events, has_ended, is_exit, are_names, HasCall, Turn, own, clock_after, ripe_by, standing, timer_events, deed, Deed, Touch, event_for, managed_touch, heap_touch}

abbrev pub started : ℕ → Call → Entry
started p call = Entry.Turn (record { 0 = p }) Origin.Synch (Stimulus.Event (plain_event INIT)) call

abbrev pub told : ℕ → Reply → Call → Entry
told p reply call = Entry.Turn (record { 0 = p }) Origin.Answer (Stimulus.Answer reply) call

abbrev pub turn_of : ℕ → Call → Turn
turn_of p call = record { p = p; origin = Origin.Answer; stimulus = Stimulus.Answer Reply.Done; call = call }

-- process 4 makes a block of 4 bytes and writes the second; process 5 frees its own block of that name
abbrev transcript : List Entry
transcript =
    started 4 (Call.MmemAlloc 0 4)
    ∷ told 4 Reply.Done (Call.MmemWrite 0 1 (record { items = 7 ∷ [] }))
    ∷ started 5 (Call.MmemFree 0)
    ∷ told 5 (Reply.Refused Refusal.NotLive) Call.Wait
    ∷ told 4 Reply.Done (Call.HeapAlloc 2 2)
    ∷ told 4 Reply.Done (Call.HeapRealloc 2 3)
    ∷ []

four_turns : length (own 4 transcript) ≡ 4
four_turns = refl

-- the last call has no reply yet, so it doesn't count
blocks_made : blocks_of managed_touch transcript 4 0 ∷ blocks_of managed_touch transcript 5 0 ∷ blocks_of heap_touch transcript 4 2 ∷ []
    ≡ Some (0 ∷ 7 ∷ 0 ∷ 0 ∷ []) ∷ None ∷ Some (0 ∷ 0 ∷ []) ∷ []
blocks_made = refl

-- a call's reply is in the next turn
write_answered : HasCall transcript (started 4 (Call.MmemAlloc 0 4) ∷ [])
    (turn_of 4 (Call.MmemWrite 0 1 (record { items = 7 ∷ [] }))) Reply.Done
write_answered = grind decide

-- Process 5 posts event 140 to process 4, which gets it. Process 4 sets timer 2 to 5 ticks, and 7 ticks pass.
abbrev before_ticks : List Entry
before_ticks =
    started 4 Call.Wait
    ∷ started 5 (Call.Post 4 140 Payload.Empty)
    ∷ told 5 Reply.Done Call.Wait
    ∷ Entry.Turn (record { 0 = 4 }) Origin.Event (Stimulus.Event (plain_event 140)) (Call.TimerSet 2 5)
    ∷ told 4 Reply.Done Call.Wait
    ∷ []

abbrev ticked : List Entry
ticked = before_ticks ++ Entry.Input (Input.Tick 7) ∷ []

-- nothing was posted to process 5
event_given : given_events ticked 4 ∷ accepted_events 4 ticked ∷ accepted_events 5 ticked ∷ []
    ≡ (plain_event 140 ∷ []) ∷ (plain_event 140 ∷ []) ∷ [] ∷ []
event_given = refl

abbrev ripe_armings : List Entry → ℕ
ripe_armings entries = ripe_by (clock_after entries) (standing entries 4 2)

now_ripe : ripe_armings ticked ∷ timer_events ticked 4 2 ∷ [] ≡ 1 ∷ 0 ∷ []
now_ripe = refl

-- armed, and no event was delivered since
armed_now : standing ticked 4 2 ≡ record { cell = record { start = 0; interval = 5 }; is_armed = true; was_given = false; ripe = 0 }
armed_now = refl

rests_before_ticks : IsAtRest ticked before_ticks
rests_before_ticks = IsAtRest.before_input before_ticks [] (Input.Tick 7) refl

rests_at_the_end : IsAtRest ticked ticked
rests_at_the_end = IsAtRest.at_end refl

-- Process 4 gets its timer's event and sets the timer again.
abbrev set_anew : List Entry
set_anew =
    told 4 Reply.Done (Call.TimerSet 2 0)
    ∷ told 4 Reply.Done Call.Wait
    ∷ Entry.Turn (record { 0 = 4 }) Origin.Event (Stimulus.Event (number_event TIMER 2)) Call.Wait
    ∷ Entry.Turn (record { 0 = 4 }) Origin.Event (Stimulus.Event (plain_event 140)) (Call.TimerSet 2 9)
    ∷ told 4 Reply.Done Call.Wait
    ∷ []

given_once : timer_events set_anew 4 2 ∷ ripe_armings set_anew ∷ [] ≡ 1 ∷ 1 ∷ []
given_once = refl

given_before_it_was_set_anew : (standing set_anew 4 2).was_given ≡ false
given_before_it_was_set_anew = refl

-- a process ends by Exit, or when it is killed
ended : map (λ entries. has_ended 4 entries)
    (set_anew ∷ (told 4 Reply.Done Call.Exit ∷ [])
    ∷ (Entry.Turn (record { 0 = 4 }) Origin.Synch (Stimulus.Event (plain_event EXIT)) Call.Wait ∷ []) ∷ [])
    ≡ false ∷ true ∷ true ∷ []
ended = refl

no_exits : list_any (λ call. is_exit (deed call)) (Call.Wait ∷ Call.AllocEvent ∷ Call.Start 5 ∷ Call.Kill 5 ∷ []) ≡ false
no_exits = refl

-- The blocks that calls name.

managed_blocks_needed : map (λ call. (use_of (managed_touch (deed call))).needs)
    (Call.MmemFree 1 ∷ Call.MmemWrite 2 0 (record { items = [] }) ∷ Call.MmemRead 3 0 1 ∷ Call.MmemCopy 4 5 ∷ Call.PacketSend 6 ∷ [])
    ≡ (1 ∷ []) ∷ (2 ∷ []) ∷ (3 ∷ []) ∷ (4 ∷ 5 ∷ []) ∷ (6 ∷ []) ∷ []
managed_blocks_needed = refl

heap_blocks_needed : map (λ call. (use_of (heap_touch (deed call))).needs)
    (Call.HeapFree 1 ∷ Call.HeapWrite 2 0 (record { items = [] }) ∷ Call.HeapRead 3 0 1 ∷ Call.HeapRealloc 4 9 ∷ [])
    ≡ (1 ∷ []) ∷ (2 ∷ []) ∷ (3 ∷ []) ∷ (4 ∷ []) ∷ []
heap_blocks_needed = refl

block_made : (use_of (managed_touch (deed (Call.MmemAlloc 3 9)))).makes ∷ (use_of (heap_touch (deed (Call.HeapAlloc 3 9)))).makes ∷ []
    ≡ (3 ∷ []) ∷ (3 ∷ []) ∷ []
block_made = refl

-- calls that no law mentions
untouched : map (λ call. managed_touch (deed call)) (Call.HeapFree 1 ∷ Call.HeapStats ∷ Call.MembFree 0 1 ∷ Call.Clock ∷ [])
    ≡ Touch.Spares ∷ Touch.Spares ∷ Touch.Spares ∷ Touch.Spares ∷ []
untouched = refl

told_how_much_is_free : managed_touch (deed Call.MmemAvail) ∷ heap_touch (deed Call.MmemAvail) ∷ [] ≡ Touch.TellsFree ∷ Touch.Spares ∷ []
told_how_much_is_free = refl

untouched_heap : map (λ call. heap_touch (deed call)) (Call.MmemFree 1 ∷ Call.HeapStats ∷ Call.ListPop 1 ∷ Call.PacketDone ∷ [])
    ≡ Touch.Spares ∷ Touch.Spares ∷ Touch.Spares ∷ Touch.Spares ∷ []
untouched_heap = refl

-- callback timers are none of these, and asking for a timer's state moves no timer
moves_no_timer : map deed (Call.CallbackSet 2 5 ∷ Call.CallbackStop 2 ∷ Call.TimerExpired 2 ∷ [])
    ≡ Deed.Other ∷ Deed.Other ∷ Deed.Other ∷ []
moves_no_timer = refl

-- an event that is delivered at once isn't posted
posts_none : map (λ call. event_for 5 (deed call)) (Call.PostSynch 5 140 Payload.Empty ∷ Call.Poll 5 ∷ [])
    ≡ None ∷ None ∷ []
posts_none = refl

read_range : (use_of (managed_touch (deed (Call.MmemRead 2 1 4)))).reads ∷ (use_of (heap_touch (deed (Call.HeapRead 2 1 4)))).reads ∷ []
    ≡ Some (2, 1, 4) ∷ Some (2, 1, 4) ∷ []
read_range = refl

last_name : are_names (15 ∷ []) ∷ are_names (16 ∷ []) ∷ [] ≡ true ∷ false ∷ []
last_name = refl
