-- Worked examples: lines of what happened, losses that are still to be reported, and refusals.
use Rattle.std.proofs.Common.{◌≡◌, ◌⊎◌, ◌∙◌, ℕ, List, [], ◌∷◌, ◌++◌, false, true, arith, codes, inl, inr, refl, slice_get, sym, None, Option, Some}
use Rattle.std.specs.Fmt.{digits}
use Rattle.medium_core.specs.Air.{still_air}
use Rattle.medium_core.specs.declared.link.Fate.{Fate}
use Rattle.medium_core.specs.declared.link.Link.{Link}
use Rattle.medium_core.specs.declared.link.Loss.{Loss}
use Rattle.mote_session.specs.declared.refusal.SessionRefusal.{SessionRefusal}
use Rattle.mote_text.specs.EntryText.{line_of}
use Rattle.network_session.specs.Network.{NetworkView}
use Rattle.network_session.specs.Refusals.{step_refusal}
use Rattle.network_session.specs.declared.fault.NetworkFault.{NetworkFault}
use Rattle.network_steps.specs.Code.Turns.{times_of}
use Rattle.network_steps.specs.NetworkRuns.{is_halted_in, moves_text}
use Rattle.network_steps.specs.Lines.{came_line, losses_left}
use Rattle.network_steps.specs.Refusals.{due_refusal, fault_of, link_refusal, tick_refusal}
use Rattle.network_steps.specs.StepsView.{StepsView, opened_net, opened_steps, unlinked}
use Rattle.network_steps.specs.Works.{IsRefused, RefusesInput, TakesLink, came_of, inputs_of, inputs_waiting, last_after, phase_after}
use Rattle.network_steps.specs.declared.came.Came.{Came}
use Rattle.network_steps.specs.declared.came.Phase.{Phase}
use Rattle.network_steps.specs.declared.came.Waiting.{Waiting}
use Rattle.network_steps.specs.declared.fault.StepsFault.{StepsFault}
use Rattle.network_steps.specs.declared.input.NetworkInput.{NetworkInput}
use Rattle.network_session.specs.declared.outcome.Outcome.{Outcome}

-- no motes, room for 8 frames, 2 links and 9 rounds
empty : StepsView
empty = opened_steps [] 8 2 9

in_phase : Phase → StepsView
in_phase phase = record empty { phase = phase }

-- a link that did this with its last frame
did : ℕ → Fate → Link
did to fate = record { to = to; delay = 1; loss = Loss.Never; last = fate }

-- the second and third link of mote 0 didn't carry its frame
lossy : NetworkView
lossy = record (opened_net [] 8 9) { air = still_air 8 ((did 1 Fate.Carried ∷ did 2 Fate.Lost ∷ did 3 Fate.Full ∷ []) ∷ []) }

lines : (came_line (Came.Lost 0 1) lossy ≡ codes "lost 1 2\n") × (came_line (Came.Full 0 1) lossy ≡ codes "full 1 2\n")
    × (came_line (Came.Missed 2 0) lossy ≡ codes "missed 3 1\n") × (came_line (Came.Unheard 2) lossy ≡ codes "missed - 3\n")
    × (came_line Came.Clock lossy ≡ codes "= 0\n") × (came_line Came.Exhausted lossy ≡ codes "halt\n") × (came_line Came.Rest lossy ≡ [])
unfolding line_of digits lossy
lines = (refl, refl, refl, refl, refl, refl, refl)

-- from its first link on both losses are left, from its third on one
left : (losses_left (Some (record { from = 0; place = 0 })) lossy ≡ codes "lost 1 3\nfull 1 4\n")
    × (losses_left (Some (record { from = 0; place = 2 })) lossy ≡ codes "full 1 4\n")
    × (losses_left (Some (record { from = 0; place = 3 })) lossy ≡ []) × (losses_left None lossy ≡ [])
unfolding line_of digits lossy did
left = (refl, refl, refl, refl)

-- rest has no line of its own
rests : (last_after Came.Rest Came.Clock ≡ Came.Clock) × (last_after Came.Exhausted Came.Clock ≡ Came.Exhausted) × (came_of Outcome.Rest ≡ Some Came.Rest)
rests = (refl, refl, refl)

phases : (phase_after Came.Rest ≡ Phase.Resting) × (phase_after Came.Exhausted ≡ Phase.Exhausted) × (phase_after Came.Clock ≡ Phase.Working)
phases = (refl, refl, refl)

-- inputs are taken at rest alone
inputs : (tick_refusal 5 (in_phase Phase.Resting) ≡ None)
    × (tick_refusal 5 (in_phase Phase.Working) ≡ Some (StepsFault.Refused SessionRefusal.NotAtRest))
    × (tick_refusal 5 (in_phase Phase.Fresh) ≡ Some (StepsFault.Refused SessionRefusal.NotAtRest))
    × (tick_refusal 5 (in_phase Phase.Exhausted) ≡ Some (StepsFault.Refused SessionRefusal.Halted))
unfolding in_phase empty
inputs = (refl, refl, refl, refl)

-- links only before the start, as many as there can be, between motes that there are
links : (link_refusal 0 (did 0 Fate.Unused) empty ≡ Some StepsFault.BadLink)
    × (link_refusal 0 (did 0 Fate.Unused) (in_phase Phase.Working) ≡ Some StepsFault.IsStarted)
    × (link_refusal 0 (did 0 Fate.Unused) (record empty { free_links = 0 }) ≡ Some StepsFault.NoRoom)
unfolding in_phase empty did
links = (refl, refl, refl)

no_mote : due_refusal 0 empty ≡ Some StepsFault.NoMote
unfolding empty
no_mote = refl

unlinked_lists : unlinked 2 ≡ [] ∷ [] ∷ []
unlinked_lists = refl

-- each link takes one of those that can be added
for_nothing : (from : ℕ) (link : Link) (new : StepsView) → new.free_links ≡ 2 → TakesLink from link empty new → ⊥
unfolding empty
for_nothing from link new free takes = absurd (omega (arith, free, takes.one))

-- ---- what `next` refuses

module _ (fault : StepsFault) (old new : NetworkView) (waiting : Option Waiting) (refused : IsRefused fault old waiting new) where
  -- nothing is refused where the next step can be made, and no input is left
  no_reason : refused.left ≡ None → step_refusal new ≡ None → ⊥
  no_reason none goes = by_side refused.left none refused.refuses
    where
      by_side : (left : Option Waiting) → left ≡ None → (step_refusal new ≡ Some refused.cause) ⊎ RefusesInput left new refused.cause → ⊥
      by_side left none (inl step) = let e : None ≡ Some refused.cause = sym goes ∙ step in absurd (cc)
      by_side None none (inr input) = input
      by_side (Some one) none (inr input) = absurd (cc)

  -- no input is left where none waited
  none_left : waiting ≡ None → (one : Waiting) → refused.left ≡ Some one → ⊥
  none_left none one some = no_more (inputs_of refused.way.moves) (let e = refused.way.inputs in rw (none, some) at e)
    where
      no_more : (inputs : List NetworkInput) → inputs ++ inputs_waiting (Some one) ≡ [] → ⊥
      no_more [] e = absurd (cc)
      no_more (first ∷ inputs) e = absurd (cc)

  -- the moves before have no lines, and no mote gets the time in them
  a_line : moves_text false old refused.way.moves ≡ codes "= 1\n" → ⊥
  a_line text = let e : codes "= 1\n" ≡ [] = sym text ∙ refused.way.silent false in absurd (cc)

  a_time : (m : ℕ) → times_of refused.way.moves ≡ m ∷ [] → ⊥
  a_time m times = let e : m ∷ [] ≡ [] = sym times ∙ refused.way.untold in absurd (cc)

-- a network refuses no input for a mote that was halted: the mote misses it
halted_refuses : (waiting : Waiting) (net : NetworkView) (cause : NetworkFault) → is_halted_in (slice_get net.motes waiting.mote) ≡ true →
    RefusesInput (Some waiting) net cause → ⊥
halted_refuses waiting net cause halted refuses = let e : true ≡ false = sym halted ∙ refuses.1 in absurd (cc)

-- a network refuses no step for lack of room
no_room : (waiting : Option Waiting) (old new : NetworkView) → IsRefused StepsFault.NoRoom old waiting new → ⊥
no_room waiting old new refused = by_cause refused.cause refused.reported
  where
    by_cause : (cause : NetworkFault) → StepsFault.NoRoom ≡ fault_of cause → ⊥
    by_cause (NetworkFault.Refused refusal) e = absurd (cc)
    by_cause NetworkFault.NoTurn e = absurd (cc)
    by_cause NetworkFault.NotAtRest e = absurd (cc)
    by_cause NetworkFault.NoMote e = absurd (cc)
    by_cause NetworkFault.Behind e = absurd (cc)
    by_cause NetworkFault.IsTime e = absurd (cc)
    by_cause NetworkFault.TooLong e = absurd (cc)
