-- Worked examples: what lines of a network's script say, and the lines of what happens.
use Rattle.std.proofs.Common.{◌≡◌, ◌∙◌, ◌<◌, ℕ, true, false, List, [], ◌∷◌, ap, arith, codes, is_some, refl, slice_get, sym, None, Option, Some}
use Rattle.std.specs.Fmt.{digits}
use Rattle.medium_core.specs.Air.{still_air}
use Rattle.medium_core.specs.declared.link.Fate.{Fate}
use Rattle.medium_core.specs.declared.link.Link.{Link}
use Rattle.medium_core.specs.declared.link.Loss.{Loss}
use Rattle.mote_text.specs.EntryText.{entry_line, line_of}
use Rattle.mote_text.specs.Script.{read_line}
use Rattle.mote_text.specs.Transcript.{prints_or_sends}
use Rattle.mote_text.specs.declared.script.End.{End}
use Rattle.mote_types.specs.declared.call.Call.{Call}
use Rattle.mote_types.specs.declared.entry.Entry.{Entry}
use Rattle.mote_types.specs.declared.entry.Input.{Input}
use Rattle.mote_types.specs.declared.entry.Note.{Note}
use Rattle.mote_types.specs.declared.event.Origin.{Origin}
use Rattle.mote_types.specs.declared.event.Stimulus.{Stimulus}
use Rattle.mote_types.specs.declared.reply.Reply.{Reply}
use Rattle.mote_text.proofs.Common.{decode_pairs, encode_with}
use Rattle.mote_session.specs.SessionView.{SessionView}
use Rattle.network_session.specs.Happenings.{Happening}
use Rattle.network_session.specs.Network.{NetworkView}
use Rattle.mote_session.specs.declared.session.Next.{Next}
use Rattle.network_session.specs.declared.outcome.Outcome.{Outcome}
use Rattle.network_session.specs.Schedule.{due_step}
use Rattle.network_steps.specs.NetworkRuns.{DoesStep, HandsInput, MissesInput, Move, PassesTime, TellsTime, moves_text}
use Rattle.network_steps.specs.NetworkScript.{parted, read_network_input, read_network_line, read_network_lines}
use Rattle.network_steps.specs.NetworkText.{clock_line, fate_line, last_line, log_text, mote_line, unheard_line}
use Rattle.network_steps.specs.declared.input.NetworkInput.{NetworkInput}
use Rattle.network_steps.specs.Works.{inputs_of}

-- ---- lines

-- motes have numbers from 1
numbered : mote_line 0 (Entry.Input (Input.Tick 3)) ≡ codes "1 > tick 3\n"
unfolding entry_line line_of digits
numbered = refl

clocks : (clock_line 14 ≡ codes "= 14\n") × (clock_line 0 ≡ codes "= 0\n")
unfolding line_of digits
clocks = (refl, refl)

-- only what isn't carried has a line
fates : (fate_line 0 1 Fate.Lost ≡ codes "lost 1 2\n") × (fate_line 0 1 Fate.Full ≡ codes "full 1 2\n")
    × (fate_line 0 1 Fate.Carried ≡ []) × (fate_line 0 1 Fate.Unused ≡ [])
unfolding line_of digits
fates = (refl, refl, refl, refl)

unheard : unheard_line 1 ≡ codes "missed - 2\n"
unfolding line_of digits
unheard = refl

last_lines : (last_line End.Halted ≡ codes "halt\n") × (last_line End.Finished ≡ []) × (last_line (End.BadLine 3) ≡ codes "bad line 3\n")
    × (last_line End.TooLong ≡ codes "too long\n")
unfolding line_of digits
last_lines = (refl, refl, refl, refl)

-- ---- logs

abbrev link : ℕ → ℕ → Loss → Link
link to delay loss = record { to = to; delay = delay; loss = loss; last = Fate.Unused }

abbrev sends : Happening
sends = Happening.Entry 0 (Entry.Note (Note.Sent (record { items = 10 ∷ 11 ∷ [] })))

-- the first mote's links: to the second one, and to the third one, which loses each frame
abbrev links : List (List Link)
links = (link 1 3 Loss.Never ∷ link 2 1 (Loss.EveryNth 1 0) ∷ []) ∷ []

-- the frame flies to the second mote, where it arrives three ticks later, and nobody hears it
flown : log_text false (still_air 8 links) (sends ∷ Happening.Clock 9 ∷ Happening.Missed ∷ Happening.Clock 9 ∷ [])
    ≡ codes "1 note sent 0a0b\nlost 1 3\n= 3\nmissed 1 2\n= 9\n"
unfolding entry_line line_of digits encode_with
flown = refl

-- where there is no room for it, it is lost
full : log_text false (still_air 0 links) (sends ∷ Happening.Clock 9 ∷ []) ≡ codes "1 note sent 0a0b\nfull 1 2\nlost 1 3\n= 9\n"
unfolding entry_line line_of digits encode_with
full = refl

-- what a mote is handed its own entry says
handed : log_text false (still_air 8 []) (Happening.Fed 1 (Input.Tick 3) ∷ Happening.Entry 1 (Entry.Input (Input.Tick 3)) ∷ [])
    ≡ codes "2 > tick 3\n"
unfolding entry_line line_of digits
handed = refl

-- a quiet transcript
abbrev waits : Happening
waits = Happening.Entry 0 (Entry.Turn (record { 0 = 4 }) Origin.Answer (Stimulus.Answer Reply.Done) Call.Wait)

quietly : log_text true (still_air 0 links) (waits ∷ sends ∷ Happening.Clock 9 ∷ Happening.Entry 1 Entry.Halt ∷ [])
    ≡ codes "1 note sent 0a0b\n2 halt\n"
unfolding prints_or_sends entry_line line_of digits encode_with
quietly = refl

-- ---- inputs

parts : (parted (codes "2 frame 0a") ≡ Some (codes "2", codes "frame 0a")) × (parted (codes "tick") ≡ None)
parts = (refl, refl)

ticks : (read_network_input (codes "tick 100") ≡ Some (NetworkInput.Tick 100)) × (read_network_input (codes "tick") ≡ None)
    × (read_network_input (codes "tick 01") ≡ None)
unfolding read_line
ticks = (refl, refl, refl)

frames : (read_network_input (codes "2 frame 0A") ≡ Some (NetworkInput.ForMote 2 (Input.Frame (record { items = 10 ∷ [] }))))
    × (read_network_input (codes "12 serial 6869") ≡ Some (NetworkInput.ForMote 12 (Input.Serial (record { items = 104 ∷ 105 ∷ [] }))))
unfolding read_line decode_pairs
frames = (refl, refl)

-- no mote is told the time by a line, and numbers have no zero in front
malformed : (read_network_input (codes "2 tick 3") ≡ None) × (read_network_input (codes "02 frame 0a") ≡ None)
    × (read_network_input (codes "2  frame 0a") ≡ None) × (read_network_input (codes "frame 0a") ≡ None) × (read_network_input (codes "2 ") ≡ None)
    × (read_network_input (codes "# tick 3") ≡ None) × (read_network_input [] ≡ None)
unfolding read_line decode_pairs
malformed = (refl, refl, refl, refl, refl, refl, refl)

-- lines up to the first malformed one; a mote that isn't there makes one
lines : read_network_lines 2 5 (codes "tick 3" ∷ codes "# x" ∷ [] ∷ codes "2 frame 0a" ∷ codes "3 frame 0a" ∷ codes "tick 1" ∷ [])
    ≡ (NetworkInput.Tick 3 ∷ NetworkInput.ForMote 2 (Input.Frame (record { items = 10 ∷ [] })) ∷ [], End.BadLine 9)
unfolding read_line decode_pairs
lines = refl

no_mote : (read_network_line 2 (codes "0 frame 0a") ≡ None) × (read_network_line 0 (codes "tick 3") ≡ Some (Some (NetworkInput.Tick 3)))
unfolding read_line decode_pairs
no_mote = (refl, refl)

-- ---- moves

module _ (net : NetworkView) where
  -- a missed input has a line; a tick has none, but for what follows
  missed_input : moves_text false net (Move.Tick 3 net ∷ Move.Miss 1 (Input.Tick 0) net ∷ []) ≡ codes "missed - 2\n"
  unfolding line_of digits
  missed_input = refl

  quiet_miss : moves_text true net (Move.Miss 1 (Input.Tick 0) net ∷ []) ≡ []
  quiet_miss = refl

  -- steps carry out no input
  inputs : inputs_of (Move.Tick 3 net ∷ Move.Step Outcome.Clock net ∷ Move.Miss 1 (Input.Tick 0) net ∷ [])
      ≡ NetworkInput.Tick 3 ∷ NetworkInput.ForMote 2 (Input.Tick 0) ∷ []
  inputs = refl

module _ (old new : NetworkView) where
  -- no step is done that isn't due
  not_due : due_step old ≡ Outcome.Clock → old.active ≡ None → DoesStep Outcome.Rest old new → ⊥
  not_due due idle does = let e : Outcome.Rest ≡ Outcome.Clock = does.due idle ∙ due in absurd (cc)

  -- a mote works only where it is at work, and nothing else is done then
  nobody_at_work : old.active ≡ None → DoesStep (Outcome.Worked 0 Next.Entry) old new → ⊥
  nobody_at_work idle does = let e : true ≡ false = does.work ∙ ap is_some idle in absurd (cc)

  at_work : old.active ≡ Some 0 → DoesStep Outcome.Clock old new → ⊥
  at_work active does = let e : false ≡ true = does.work ∙ ap is_some active in absurd (cc)

  -- no input comes before rest
  before_rest : (input : Input) → old.active ≡ Some 0
      → (PassesTime 3 old new → ⊥) × (TellsTime 1 old new → ⊥) × (HandsInput 1 input old new → ⊥) × (MissesInput 1 old new → ⊥)
  before_rest input active = (
    λ passes. let e : ◌≡◌ {A = Option ℕ} (Some 0) None = sym active ∙ passes.rested.idle in absurd (cc),
    λ tells. let e : ◌≡◌ {A = Option ℕ} (Some 0) None = sym active ∙ tells.rested.idle in absurd (cc),
    λ hands. let e : ◌≡◌ {A = Option ℕ} (Some 0) None = sym active ∙ hands.rested.idle in absurd (cc),
    λ misses. let e : ◌≡◌ {A = Option ℕ} (Some 0) None = sym active ∙ misses.rested.idle in absurd (cc),
  )

  module _ (mote : SessionView) (there : slice_get old.motes 1 ≡ Some mote) where
    -- a mote that is on time doesn't get it again, and one that works misses nothing
    on_time : mote.machine.clock ≡ old.air.clock → TellsTime 1 old new → ⊥
    on_time same tells = let late : mote.machine.clock < old.air.clock = rw there at tells.behind in absurd (omega (arith, same, late))

    works : mote.machine.is_halted ≡ false → MissesInput 1 old new → ⊥
    works runs misses = let halted : mote.machine.is_halted ≡ true = rw there at misses.halted in absurd (cc)
