-- Worked examples: when motes are told the time, what is due, what counts as a round, and what a network promises.
use Rattle.std.proofs.Common.{◌≡◌, ◌≤◌, ℕ, true, false, List, [], ◌∷◌, arith, length, refl, slice_get, None, Some}
use Rattle.arrayvec.specs.ArrayVec.{ArrayVec}
use Rattle.medium_core.specs.Air.{still_air}
use Rattle.medium_core.specs.Laws.{all_done}
use Rattle.medium_core.specs.declared.link.Link.{Link}
use Rattle.medium_core.specs.declared.flight.Flight.{Flight}
use Rattle.kernel_core.specs.declared.config.Config.{Config}
use Rattle.kernel_core.specs.Machine.{booted}
use Rattle.mote_session.specs.Answered.{AnswersAs, replayed}
use Rattle.mote_session.specs.SessionView.{AwaitedCall, SessionView}
use Rattle.network_session.specs.Happenings.{Happening, all_deeds, history_of}
use Rattle.network_session.specs.Network.{NetworkView}
use Rattle.network_session.specs.Promise.{IsLogOf, NetworkPromise}
use Rattle.mote_session.specs.declared.refusal.SessionRefusal.{SessionRefusal}
use Rattle.mote_types.specs.declared.entry.Input.{Input}
use Rattle.network_session.specs.Refusals.{catch_up_refusal, feed_refusal, pass_refusal, step_refusal, submit_refusal}
use Rattle.network_session.specs.Schedule.{due_step, is_unheard}
use Rattle.network_session.specs.Time.{IsTimely}
use Rattle.network_session.specs.Waking.{due_ticks, never, wake}
use Rattle.network_session.specs.declared.fault.NetworkFault.{NetworkFault}
use Rattle.network_session.specs.declared.outcome.Outcome.{Outcome}

abbrev small : Config
small = record { mmem = 4; heap = 20; apps = 0; quota = None; header = 16 }

-- a mote with no timers, told this clock
abbrev told : ℕ → SessionView
told clock = record { machine = record (booted small) { clock = clock }; inputs = 0; entries_left = 0; turn = None; last = None }

abbrev halted : SessionView
halted = record (told 3) { machine = record (booted small) { clock = 3; is_halted = true } }

-- a frame from mote 0
abbrev flight : ℕ → ℕ → List ℕ → Flight
flight due to bytes = record { due = due; from = 0; position = 0; to = to; bytes = record { items = bytes } }

-- two motes at clock 3
abbrev net : SessionView → List Flight → ℕ → ℕ → NetworkView
net second flights target rounds = record {
  motes = told 3 ∷ second ∷ [];
  air = record { clock = 3; room = 8; links = []; flights = flights };
  active = None;
  started = 2;
  target = target;
  bound = 9;
  rounds = rounds;
}

-- ---- when

wakes : (wake (told 0).machine ≡ 4294967295) × (wake (told 5).machine ≡ 4294967300) × (wake halted.machine ≡ never)
wakes = (refl, refl, refl)

behind : (due_ticks 10 7 ≡ 3) × (due_ticks 7 7 ≡ 0) × (due_ticks 5000000000 0 ≡ 4294967295)
behind = (refl, refl, refl)

-- ---- what is due

-- the next mote is started before all else
starts : due_step (record (net (told 3) (flight 3 1 (7 ∷ []) ∷ []) 9 9) { started = 1 }) ≡ Outcome.Started 1
starts = refl

-- a frame arrives in its moment, for a mote that was told the time
arrives : (due_step (net (told 3) (flight 3 1 (7 ∷ []) ∷ []) 9 9) ≡ Outcome.Heard 1) × (due_step (net (told 2) (flight 3 1 (7 ∷ []) ∷ []) 9 9) ≡ Outcome.Woken 1)
    × (due_step (net (told 3) (flight 4 1 (7 ∷ []) ∷ []) 9 9) ≡ Outcome.Clock)
arrives = (refl, refl, refl)

-- nobody hears it where its receiver was halted or isn't there, or it has no bytes
missed : (due_step (net halted (flight 3 1 (7 ∷ []) ∷ []) 9 9) ≡ Outcome.Missed 0 1) × (due_step (net (told 3) (flight 3 5 (7 ∷ []) ∷ []) 9 9) ≡ Outcome.Missed 0 5)
    × (due_step (net (told 3) (flight 3 1 [] ∷ []) 9 9) ≡ Outcome.Missed 0 1) × (is_unheard (flight 3 1 (7 ∷ [])) (Some (told 3)) ≡ false)
missed = (refl, refl, refl, refl)

-- time goes on as far as it may
passes : (due_step (net (told 3) [] 4 9) ≡ Outcome.Clock) × (due_step (net (told 3) [] 3 9) ≡ Outcome.Rest)
passes = (refl, refl)

-- with no rounds left nothing is done, but motes are started
spent : (due_step (net (told 3) [] 4 0) ≡ Outcome.Exhausted) × (due_step (net (told 3) [] 3 0) ≡ Outcome.Rest)
    × (due_step (net (told 3) (flight 3 1 (7 ∷ []) ∷ []) 3 0) ≡ Outcome.Exhausted)
    × (due_step (record (net (told 3) [] 3 0) { started = 0 }) ≡ Outcome.Started 0)
spent = (refl, refl, refl, refl)

-- ---- what is refused

abbrev serial : List ℕ → Input
serial bytes = Input.Serial (record { items = bytes })

-- a mote that is at rest and on time takes bytes, a tick it doesn't; one that is behind, or halted, takes nothing
fed : (feed_refusal 0 (serial (7 ∷ [])) (net (told 3) [] 3 9) ≡ None) × (feed_refusal 2 (serial (7 ∷ [])) (net (told 3) [] 3 9) ≡ Some NetworkFault.NoMote)
    × (feed_refusal 0 (Input.Tick 0) (net (told 3) [] 3 9) ≡ Some NetworkFault.IsTime) × (feed_refusal 1 (serial (7 ∷ [])) (net (told 2) [] 3 9) ≡ Some NetworkFault.Behind)
    × (feed_refusal 1 (serial (7 ∷ [])) (net halted [] 3 9) ≡ Some (NetworkFault.Refused SessionRefusal.Halted))
    × (feed_refusal 0 (serial []) (net (told 3) [] 3 9) ≡ Some (NetworkFault.Refused SessionRefusal.NoInput))
    × (feed_refusal 2 (serial (7 ∷ [])) (record (net (told 3) [] 3 9) { active = Some 1 }) ≡ Some NetworkFault.NotAtRest)
fed = (refl, refl, refl, refl, refl, refl, refl)

-- one that is on time isn't told it again
caught_up : (catch_up_refusal 1 (net (told 2) [] 3 9) ≡ None) × (catch_up_refusal 1 (net halted [] 3 9) ≡ None)
    × (catch_up_refusal 2 (net (told 2) [] 3 9) ≡ Some NetworkFault.NoMote)
    × (catch_up_refusal 1 (record (net (told 2) [] 3 9) { active = Some 0 }) ≡ Some NetworkFault.NotAtRest)
caught_up = (refl, refl, refl, refl)

passed : (pass_refusal 4 (net (told 3) [] 4611686018427387900 9) ≡ None) × (pass_refusal 5 (net (told 3) [] 4611686018427387900 9) ≡ Some NetworkFault.TooLong)
    × (pass_refusal 0 (record (net (told 3) [] 3 9) { active = Some 0 }) ≡ Some NetworkFault.NotAtRest)
passed = (refl, refl, refl)

-- a call is taken where a turn awaits one
unasked : (submit_refusal (net (told 3) [] 3 9) ≡ Some NetworkFault.NoTurn)
    × (submit_refusal (record (net (told 3) [] 3 9) { active = Some 0 }) ≡ Some (NetworkFault.Refused SessionRefusal.NoTurn))
unasked = (refl, refl)

-- a mote that was handed 2^40 inputs
abbrev full : ℕ → SessionView
full clock = record (told clock) { inputs = 1099511627776 }

-- a step is refused by the mote that gets the time or a frame in it; what needs no mote isn't
stepped : (step_refusal (net (told 2) (flight 3 1 (7 ∷ []) ∷ []) 9 9) ≡ None) × (step_refusal (net (told 3) (flight 3 1 (7 ∷ []) ∷ []) 9 9) ≡ None)
    × (step_refusal (net (full 2) (flight 3 1 (7 ∷ []) ∷ []) 9 9) ≡ Some (NetworkFault.Refused SessionRefusal.TooManyInputs))
    × (step_refusal (net (full 3) (flight 3 1 (7 ∷ []) ∷ []) 9 9) ≡ Some (NetworkFault.Refused SessionRefusal.TooManyInputs))
    × (step_refusal (net (full 3) (flight 3 5 (7 ∷ []) ∷ []) 9 9) ≡ None) × (step_refusal (net (full 3) [] 3 9) ≡ None)
stepped = (refl, refl, refl, refl, refl, refl)

-- the mote at work awaits the call of its turn, or works on
awaits : (turn : AwaitedCall) → step_refusal (record (net (record (told 3) { turn = Some turn }) [] 3 9) { active = Some 1 })
    ≡ Some (NetworkFault.Refused SessionRefusal.AwaitsCall)
awaits turn = refl

works_on : step_refusal (record (net (told 3) [] 3 9) { active = Some 1 }) ≡ None
works_on = refl

-- ---- time

-- a mote that wasn't started has the network's clock; none is ahead of it; one that works has got the time; and none slept too long
fresh : IsTimely 5 None 0 0 (told 3) → ⊥
fresh timely = absurd (omega (arith, timely.fresh (omega arith)))

ahead : IsTimely 2 None 1 0 (told 3) → ⊥
ahead timely = absurd (omega (arith, timely.not_ahead))

late_at_work : IsTimely 5 (Some 0) 1 0 (told 3) → ⊥
late_at_work timely = absurd (omega (arith, timely.at_work refl))

asleep : IsTimely 4294967296 None 1 0 (told 0) → ⊥
asleep timely = absurd (omega (arith, timely.awake refl (λ same. absurd (cc))))

-- ---- what is promised

-- nobody hears what nobody sent
unsent : (configs : ℕ → Config) (links : List (List Link)) (bytes : ArrayVec ℕ) (some : NetworkView) →
    IsLogOf configs 8 links (Happening.Heard 0 bytes ∷ []) some → ⊥
unsent configs links bytes some log = log.heard.0

module _ (configs : ℕ → Config) (room : ℕ) (links : List (List Link)) (log : List Happening) (some : NetworkView)
    (promise : NetworkPromise configs room links log some) where
  -- each mote's entries are those of a run of its own machine
  own_entries : (m : ℕ) (mote : SessionView) → slice_get some.motes m ≡ Some mote →
      AnswersAs (replayed (history_of (configs m) m log).entries) (history_of (configs m) m log).entries
  own_entries m mote there = (promise.motes m mote there).answered

  -- no more frames fly than find room
  with_room : length (all_done (all_deeds log) (still_air room links)).flights ≤ room
  with_room = promise.medium.within
