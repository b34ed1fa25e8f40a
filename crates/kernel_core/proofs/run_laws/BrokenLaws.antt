-- Transcripts that no run makes: each breaks one law.
use Rattle.std.proofs.Common.{◌≡◌, ◌∙◌, ℕ, false, List, [], ◌∷◌, ◌++◌, ap, drop, refl, sym, arith, Some}
use Rattle.kernel_core.proofs.Common.{decide, blocks_of, managed_touch, ArrayVec, number_event, plain_event, EXITED, TIMER, Call, Entry, Input, Note, Event, Origin, Payload, Stimulus, Refusal, Reply, IsAtRest, HasCall, up_to_call, is_turn_entry, list_any, BlocksAreOwn, EventsArriveInOrder, TimersAreKept}
use Rattle.kernel_core.proofs.run_laws.Examples.{started, told, turn_of}
use Rattle.kernel_core.specs.Laws.Sent.{IsSent}

abbrev given : ℕ → Event → Entry
given p event = Entry.Turn (record { 0 = p }) Origin.Event (Stimulus.Event event) Call.Wait

-- Events: process 5 posts two for process 4.

abbrev posted : List Entry
posted = started 5 (Call.Post 4 140 Payload.Empty) ∷ told 5 Reply.Done (Call.Post 4 141 Payload.Empty) ∷ told 5 Reply.Done Call.Wait ∷ []

never_given : EventsArriveInOrder 2 posted → ⊥
never_given laws = cc (laws.none_lost 4 refl posted (IsAtRest.at_end refl) refl)

abbrev first_code : List Event → ℕ
first_code [] = 0
first_code (event ∷ later) = event.code

second_given_first : EventsArriveInOrder 2 (posted ++ given 4 (plain_event 141) ∷ []) → ⊥
second_given_first laws =
    omega (arith, ap first_code (laws.in_order 4 refl (posted ++ given 4 (plain_event 141) ∷ []) [] refl refl).1)

-- a refused post is delivered
abbrev refused_post : List Entry
refused_post = started 5 (Call.Post 4 140 Payload.Empty) ∷ told 5 (Reply.Refused Refusal.Full) Call.Wait ∷ []

given_though_refused : EventsArriveInOrder 2 (refused_post ++ given 4 (plain_event 140) ∷ []) → ⊥
given_though_refused laws =
    cc (laws.in_order 4 refl (refused_post ++ given 4 (plain_event 140) ∷ []) [] refl refl).1

-- an event is posted after it was delivered: so far, nobody posted it
abbrev posted_later : List Entry
posted_later = started 5 (Call.Post 4 140 Payload.Empty) ∷ told 5 Reply.Done Call.Wait ∷ []

given_before_posted : EventsArriveInOrder 2 (given 4 (plain_event 140) ∷ posted_later) → ⊥
given_before_posted laws = cc (laws.in_order 4 refl (given 4 (plain_event 140) ∷ []) posted_later refl refl).1

-- an EXITED event as if it were posted: nobody posted it
told_of_an_exit : EventsArriveInOrder 2 (started 4 Call.Wait ∷ given 4 (number_event EXITED 5) ∷ []) → ⊥
told_of_an_exit laws = cc (laws.in_order 4 refl (started 4 Call.Wait ∷ given 4 (number_event EXITED 5) ∷ []) [] refl refl).1

-- process 19, the last of 16, receives an event that nobody posted; it doesn't receive a posted one
last_told : EventsArriveInOrder 16 (started 19 Call.Wait ∷ given 19 (plain_event 140) ∷ []) → ⊥
last_told laws = cc (laws.in_order 19 refl (started 19 Call.Wait ∷ given 19 (plain_event 140) ∷ []) [] refl refl).1

abbrev posted_to_the_last : List Entry
posted_to_the_last = started 19 (Call.Post 19 140 Payload.Empty) ∷ told 19 Reply.Done Call.Wait ∷ []

last_never_told : EventsArriveInOrder 16 posted_to_the_last → ⊥
last_never_told laws = cc (laws.none_lost 19 refl posted_to_the_last (IsAtRest.at_end refl) refl)

-- Timers of process 4.

given_unarmed : TimersAreKept 1 (given 4 (number_event TIMER 2) ∷ []) → ⊥
given_unarmed laws =
    omega (arith, laws.not_early 4 refl (given 4 (number_event TIMER 2) ∷ []) [] 2 refl)

-- a timer of no ticks is due at once
abbrev armed : List Entry
armed = started 4 (Call.TimerSet 2 0) ∷ told 4 Reply.Done Call.Wait ∷ []

never_told : TimersAreKept 1 armed → ⊥
never_told laws = cc (laws.not_lost 4 refl armed 2 (IsAtRest.at_end refl) refl refl)

-- the event of a timer that was stopped before its deadline is delivered
abbrev stopped : List Entry
stopped =
    started 4 (Call.TimerSet 2 5)
    ∷ told 4 Reply.Done (Call.TimerStop 2)
    ∷ told 4 Reply.Done Call.Wait
    ∷ Entry.Input (Input.Tick 9)
    ∷ given 4 (number_event TIMER 2)
    ∷ []

told_though_stopped : TimersAreKept 1 stopped → ⊥
told_though_stopped laws = omega (arith, laws.not_early 4 refl stopped [] 2 refl)

-- the event of a timer is delivered before its deadline, which then comes
abbrev told_early : List Entry
told_early = started 4 (Call.TimerSet 2 5) ∷ told 4 Reply.Done Call.Wait ∷ given 4 (number_event TIMER 2) ∷ []

told_before_its_deadline : TimersAreKept 1 (told_early ++ Entry.Input (Input.Tick 9) ∷ []) → ⊥
told_before_its_deadline laws = omega (arith, laws.not_early 4 refl told_early (Entry.Input (Input.Tick 9) ∷ []) 2 refl)

-- two events of one arming are delivered
abbrev armed_once : List Entry
armed_once = started 4 (Call.TimerSet 2 5) ∷ told 4 Reply.Done Call.Wait ∷ Entry.Input (Input.Tick 9) ∷ []

abbrev told_twice : List Entry
told_twice = armed_once ++ given 4 (number_event TIMER 2) ∷ given 4 (number_event TIMER 2) ∷ []

told_twice_of_one_arming : TimersAreKept 1 told_twice → ⊥
told_twice_of_one_arming laws = omega (arith, laws.not_early 4 refl told_twice [] 2 refl)

-- timers of process 19
last_given_unarmed : TimersAreKept 16 (given 19 (number_event TIMER 2) ∷ []) → ⊥
last_given_unarmed laws = omega (arith, laws.not_early 19 refl (given 19 (number_event TIMER 2) ∷ []) [] 2 refl)

abbrev last_armed : List Entry
last_armed = started 19 (Call.TimerSet 2 0) ∷ told 19 Reply.Done Call.Wait ∷ []

last_timer_never_told : TimersAreKept 16 last_armed → ⊥
last_timer_never_told laws = cc (laws.not_lost 19 refl last_armed 2 (IsAtRest.at_end refl) refl refl)

-- Blocks of processes 4 and 19.

abbrev nines : ArrayVec ℕ
nines = record { items = 9 ∷ 9 ∷ [] }

abbrev not_live : Reply
not_live = Reply.Refused Refusal.NotLive

-- a call and its reply, after the process made a block
abbrev answered : ℕ → Call → Call → Reply → List Entry
answered p made call reply = started p made ∷ told p Reply.Done call ∷ told p reply Call.Wait ∷ []

has_answered : (p : ℕ) {made call : Call} {reply : Reply}
    → HasCall (answered p made call reply) (started p made ∷ []) (turn_of p call) reply
has_answered = grind decide

-- what was read isn't what the block has
managed_misread : BlocksAreOwn (answered 4 (Call.MmemAlloc 0 2) (Call.MmemRead 0 0 2) (Reply.Bytes nines)) → ⊥
managed_misread laws = cc ((laws.managed _ (turn_of 4 _) _ (omega arith) (has_answered 4)).reads nines 0 0 2 refl refl)

heap_misread : BlocksAreOwn (answered 4 (Call.HeapAlloc 0 2) (Call.HeapRead 0 0 2) (Reply.Bytes nines)) → ⊥
heap_misread laws = cc ((laws.heap _ (turn_of 4 _) _ (omega arith) (has_answered 4)).reads nines 0 0 2 refl refl)

last_misread : BlocksAreOwn (answered 19 (Call.MmemAlloc 0 2) (Call.MmemRead 0 0 2) (Reply.Bytes nines)) → ⊥
last_misread laws = cc ((laws.managed _ (turn_of 19 _) _ (omega arith) (has_answered 19)).reads nines 0 0 2 refl refl)

-- the reply denies a live block
managed_denied : BlocksAreOwn (answered 4 (Call.MmemAlloc 0 2) (Call.MmemFree 0) not_live) → ⊥
managed_denied laws = cc (((laws.managed _ (turn_of 4 _) _ (omega arith) (has_answered 4)).live refl).0 refl)

heap_denied : BlocksAreOwn (answered 4 (Call.HeapAlloc 0 2) (Call.HeapFree 0) not_live) → ⊥
heap_denied laws = cc (((laws.heap _ (turn_of 4 _) _ (omega arith) (has_answered 4)).live refl).0 refl)

last_denied : BlocksAreOwn (answered 19 (Call.HeapAlloc 0 2) (Call.HeapFree 0) not_live) → ⊥
last_denied laws = cc (((laws.heap _ (turn_of 19 _) _ (omega arith) (has_answered 19)).live refl).0 refl)

-- a freed block is freed again
abbrev freed_before : Call → Call → Call → List Entry
freed_before made freed call =
    started 4 made ∷ told 4 Reply.Done freed ∷ told 4 Reply.Done call ∷ told 4 Reply.Done Call.Wait ∷ []

has_freed : {made freed call : Call}
    → HasCall (freed_before made freed call) (started 4 made ∷ told 4 Reply.Done freed ∷ []) (turn_of 4 call) Reply.Done
has_freed = grind decide

managed_freed_twice : BlocksAreOwn (freed_before (Call.MmemAlloc 0 2) (Call.MmemFree 0) (Call.MmemFree 0)) → ⊥
managed_freed_twice laws = cc (((laws.managed _ (turn_of 4 _) _ (omega arith) has_freed).live refl).1 refl)

heap_freed_twice : BlocksAreOwn (freed_before (Call.HeapAlloc 0 2) (Call.HeapFree 0) (Call.HeapFree 0)) → ⊥
heap_freed_twice laws = cc (((laws.heap _ (turn_of 4 _) _ (omega arith) has_freed).live refl).1 refl)

-- two blocks get one name
managed_made_twice : BlocksAreOwn (answered 4 (Call.MmemAlloc 0 2) (Call.MmemAlloc 0 2) Reply.Done) → ⊥
managed_made_twice laws = cc (((laws.managed _ (turn_of 4 _) _ (omega arith) (has_answered 4)).unused refl).1 refl)

heap_made_twice : BlocksAreOwn (answered 4 (Call.HeapAlloc 0 2) (Call.HeapAlloc 0 2) Reply.Done) → ⊥
heap_made_twice laws = cc (((laws.heap _ (turn_of 4 _) _ (omega arith) (has_answered 4)).unused refl).1 refl)

last_made_twice : BlocksAreOwn (answered 19 (Call.MmemAlloc 15 2) (Call.MmemAlloc 15 2) Reply.Done) → ⊥
last_made_twice laws = cc (((laws.managed _ (turn_of 19 _) _ (omega arith) (has_answered 19)).unused refl).1 refl)

-- the reply denies a name that no block has
managed_name_denied : BlocksAreOwn (answered 4 (Call.MmemAlloc 0 2) (Call.MmemAlloc 1 2) (Reply.Refused Refusal.InUse)) → ⊥
managed_name_denied laws = cc (((laws.managed _ (turn_of 4 _) _ (omega arith) (has_answered 4)).unused refl).0 refl)

heap_name_denied : BlocksAreOwn (answered 4 (Call.HeapAlloc 0 2) (Call.HeapAlloc 1 2) (Reply.Refused Refusal.InUse)) → ⊥
heap_name_denied laws = cc (((laws.heap _ (turn_of 4 _) _ (omega arith) (has_answered 4)).unused refl).0 refl)

-- Frames.

not_empty : (earlier between : List Entry) (entry : Entry) → (earlier ++ entry ∷ []) ++ between ≡ [] → ⊥
not_empty [] between entry same = cc
not_empty (first ∷ earlier) between entry same = cc

sent_by_nobody : BlocksAreOwn (Entry.Note (Note.Sent nines) ∷ []) → ⊥
sent_by_nobody laws = not_empty _ _ _ (laws.sent [] [] nines refl).split

sent_by_nobody_so_far : BlocksAreOwn (Entry.Note (Note.Sent nines) ∷ Entry.Halt ∷ []) → ⊥
sent_by_nobody_so_far laws = not_empty _ _ _ (laws.sent [] (Entry.Halt ∷ []) nines refl).split

-- process 4 sends its block, and process 5 takes a turn before the note
abbrev sent_late : List Entry
sent_late = started 4 (Call.MmemAlloc 0 2) ∷ told 4 Reply.Done (Call.PacketSend 0) ∷ started 5 Call.Wait ∷ []

-- the last turn of those entries sends nothing
no_sender : {bytes : ArrayVec ℕ} (sender : IsSent sent_late bytes) → ⊥
no_sender sender = of sender.earlier sender.between sender.no_turn sender.split where
  of : (earlier between : List Entry) → list_any is_turn_entry between ≡ false
      → up_to_call earlier sender.turn ++ between ≡ sent_late → ⊥
  of [] between none same = cc
  of (first ∷ []) between none same = cc
  of (first ∷ second ∷ []) between none same = grind decide
  of (first ∷ second ∷ third ∷ earlier) between none same = grind (decide, not_empty)

sent_behind_another : BlocksAreOwn (sent_late ++ Entry.Note (Note.Sent (record { items = 0 ∷ 0 ∷ [] })) ∷ []) → ⊥
sent_behind_another laws = no_sender (laws.sent sent_late [] (record { items = 0 ∷ 0 ∷ [] }) refl)

-- a frame of other bytes than those of the block that process 4 sends
abbrev sent_zeros : List Entry
sent_zeros = started 4 (Call.MmemAlloc 0 2) ∷ told 4 Reply.Done (Call.PacketSend 0) ∷ []

abbrev first_call : List Entry → Call
first_call (Entry.Turn pid origin stimulus call ∷ later) = call
first_call entries = Call.Wait

abbrev first_pid : List Entry → ℕ
first_pid (Entry.Turn pid origin stimulus call ∷ later) = pid.0
first_pid entries = 0

abbrev handle_of : Call → ℕ
handle_of (Call.PacketSend handle) = handle
handle_of call = 0

no_nines : IsSent sent_zeros nines → ⊥
no_nines sender = of sender.earlier sender.between sender.split where
  of : (earlier between : List Entry) → up_to_call earlier sender.turn ++ between ≡ sent_zeros → ⊥
  of [] between same =
      let made : sender.turn.call ≡ Call.MmemAlloc 0 2 = ap first_call same in
      let e : Call.PacketSend sender.h ≡ Call.MmemAlloc 0 2 = sym sender.sends ∙ made in absurd (cc)
  of (first ∷ []) between same =
      let sent : sender.turn.call ≡ Call.PacketSend 0 = ap (λ (entries : List Entry). first_call (drop 1 entries)) same in
      let h : sender.h ≡ 0 = ap handle_of (sym sender.sends ∙ sent) in
      let p : sender.turn.p ≡ 4 = ap (λ (entries : List Entry). first_pid (drop 1 entries)) same in
      let block : blocks_of managed_touch sent_zeros 4 0 ≡ Some (9 ∷ 9 ∷ []) = rw (p, h) at sender.block in absurd (cc)
  of (first ∷ second ∷ earlier) between same = not_empty earlier between _ (ap (drop 2) same)

sent_other_bytes : BlocksAreOwn (sent_zeros ++ Entry.Note (Note.Sent nines) ∷ []) → ⊥
sent_other_bytes laws = no_nines (laws.sent sent_zeros [] nines refl)
