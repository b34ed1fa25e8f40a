-- Worked examples: the start of small motes, a killed process, the kernel's processes, the limit of work.
use Rattle.std.proofs.Common.{◌≡◌, ℕ, true, [], ◌∷◌, refl, Some, None, length, if◌then◌else◌, ◌==◌}
use Rattle.kernel_core.proofs.Common.{Applications, Says, after_call, fold_says, says_of, number_event, plain_event, CONTINUE, INIT, POLL, EXIT, TIMER, SERIAL_LINE, PACKET, Call, Entry, Event, Origin, Stimulus, Refusal, Reply, after_bytes, quiet_line, Queued, no_timers, set_timer, Machine, booted, with_serial, announce, times, Running, after_steps, at_start, is_at_rest, serial_line, post_due}
use Rattle.mote_types.specs.declared.event.Payload.{Payload}
use Rattle.device_core.specs.PacketQueue as PacketQueue
use Rattle.timer_core.specs.Names as Names
use Rattle.timer_core.specs.Names.{event_timer}
use Rattle.kernel_core.specs.declared.config.Config.{Config}
use Rattle.kernel_core.specs.Inputs.{frame_arrived, frame_refusal}

abbrev small : ℕ → Config
small applications = record { mmem = 4; heap = 20; apps = applications; quota = None; header = 16 }

-- the call depends only on the stimulus
abbrev always : (Stimulus → Call) → Says
always answer = fold_says (λ (state : ℕ) stimulus. answer stimulus) (λ state stimulus. state) 0

-- more steps than any example takes: at rest a step changes nothing
abbrev rested : Applications → Running → Running
rested says = after_steps says 40

abbrev turn : ℕ → Origin → Stimulus → Call → Entry
turn p origin stimulus call = Entry.Turn (record { 0 = p }) origin stimulus call

abbrev event_turn : ℕ → Origin → Event → Call → Entry
event_turn p origin event call = turn p origin (Stimulus.Event event) call

abbrev done_then_waits : ℕ → Entry
done_then_waits p = turn p Origin.Answer (Stimulus.Answer Reply.Done) Call.Wait

-- One application, which asks for the clock when it starts.

abbrev asks_the_clock : Stimulus → Call
asks_the_clock (Stimulus.Event event) = Call.Clock
asks_the_clock _ = Call.Wait

abbrev one : Applications
one = says_of always (asks_the_clock ∷ [])

abbrev started : Running
started = rested one (at_start (small 1))

at_rest_after_start : is_at_rest started.machine ≡ true
at_rest_after_start = refl

started_entries : started.entries ≡
    event_turn 4 Origin.Synch (plain_event INIT) Call.Clock ∷ turn 4 Origin.Answer (Stimulus.Answer (Reply.Wide 0)) Call.Wait ∷ []
started_entries = refl

-- Two applications: the first kills the second, which asks for the clock in its EXIT. The first is in its own turn, so it gets no EXITED.

abbrev killer : Stimulus → Call
killer (Stimulus.Event event) = if event.code == INIT then Call.Poll 4 else Call.Kill 5
killer _ = Call.Wait

abbrev killed : Stimulus → Call
killed (Stimulus.Event event) = if event.code == EXIT then Call.Clock else Call.Wait
killed _ = Call.Wait

abbrev two : Applications
two = says_of always (killer ∷ killed ∷ [])

told_of_the_end : (rested two (at_start (small 2))).entries ≡
    event_turn 4 Origin.Synch (plain_event INIT) (Call.Poll 4)
    ∷ done_then_waits 4
    ∷ event_turn 5 Origin.Synch (plain_event INIT) Call.Wait
    ∷ event_turn 4 Origin.Poll (plain_event POLL) (Call.Kill 5)
    ∷ event_turn 5 Origin.Synch (plain_event EXIT) Call.Clock
    ∷ turn 5 Origin.Answer (Stimulus.Answer (Reply.Wide 0)) Call.Wait
    ∷ done_then_waits 4
    ∷ []
told_of_the_end = refl

-- The kernel's processes.

abbrev timed : ℕ → Machine
timed clock = record (booted (small 1)) { clock = clock; timers = set_timer 0 (event_timer 4 0) 3 no_timers }

not_due : length (post_due (timed 2)).scheduler.events ≡ 0
unfolding times Names.all_timers
not_due = refl

due : (post_due (timed 3)).scheduler.events ≡ Queued.To 4 (number_event TIMER 0) ∷ []
unfolding times Names.all_timers
due = refl

-- "hi" arrived
abbrev with_line : Machine
with_line = with_serial (after_bytes quiet_line (104 ∷ 105 ∷ 10 ∷ [])) (booted (small 1))

line_told : (serial_line (plain_event POLL) with_line).scheduler.events ≡
    Queued.ToAll (record { code = SERIAL_LINE; payload = Payload.Line (record { items = 104 ∷ 105 ∷ [] }) })
    ∷ Queued.To 2 (plain_event CONTINUE)
    ∷ []
unfolding times
line_told = refl

-- managed memory has room for four bytes
frame_fits : frame_refusal 4 (booted (small 1)) ≡ None
frame_fits = refl

frame_is_lost : frame_refusal 5 (booted (small 1)) ≡ Some Refusal.NoRoom
frame_is_lost = refl

frame_told : (announce (after_call Call.PacketOpen 4 (frame_arrived (7 ∷ 9 ∷ []) (booted (small 1))))).scheduler.events ≡
    Queued.To 4 (number_event PACKET 2) ∷ []
unfolding times PacketQueue.free_slot
frame_told = refl

-- At the limit of an input's work the next turn halts the mote.

abbrev worked_up : Machine
worked_up = record (booted (small 1)) { work = 10000 }

halts_at_its_limit : (after_steps one 3 (record { machine = worked_up; entries = [] })).entries ≡ Entry.Halt ∷ []
halts_at_its_limit = refl
