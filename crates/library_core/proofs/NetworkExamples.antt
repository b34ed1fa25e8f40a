-- Examples: what stepping calls on a network say of its motes.
use Rattle.std.proofs.Common.{◌≡◌, ◌∙◌, ℕ, true, false, List, ◌∷◌, [], Some, None, ap, refl, sym}
use Rattle.mote_session.specs.SessionView.{AwaitedCall, SessionView}
use Rattle.network_steps.specs.Refusals.{awaited_turn}
use Rattle.network_steps.specs.StepsView.{StepsView}
use Rattle.network_steps.specs.declared.came.Came.{Came}
use Rattle.library_core.specs.BundledTurns.{NetworkTakesTurn}
use Rattle.library_core.specs.Calls.{call_said}
use Rattle.library_core.specs.NetworkCalls.{AreOpened, IsNetworkOpened, NetworkGoesNext, NetworkTakesCall, config_of_mote, due_of, is_unbootable}
use Rattle.library_core.specs.Networks.{happening_of}
use Rattle.library_core.specs.Steps.{IsOpened}
use Rattle.library_core.specs.declared.application.PlainApplication.{PlainApplication}
use Rattle.library_core.specs.declared.call.PlainCall.{PlainCall}
use Rattle.library_core.specs.declared.plain_network.Happening.{Happening}
use Rattle.library_core.specs.declared.plain_network.NetworkMote.{NetworkMote}
use Rattle.library_core.specs.declared.plain_network.NetworkSizes.{NetworkSizes}
use Rattle.library_core.specs.declared.turn.PlainTurn.{PlainTurn}

-- a mote of n applications, with this much managed memory
mote_of : ℕ → ℕ → NetworkMote
mote_of n mmem = record {
  configuration = record { mmem = mmem; heap = 4096; header = 16; has_quota = 0; quota = 0; quiet = 0 };
  applications = n;
}

-- 16 applications are enough, and sizes are multiples of 4
some_boot : (is_unbootable (mote_of 16 4096) ≡ false) × (is_unbootable (mote_of 17 4096) ≡ true) × (is_unbootable (mote_of 1 6) ≡ true)
unfolding mote_of
some_boot = (refl, refl, refl)

-- exactly these motes are opened
just_these : (mote : NetworkMote) (session : SessionView) → (AreOpened (mote ∷ []) [] → ⊥) × (AreOpened [] (session ∷ []) → ⊥)
just_these mote session = (λ opened. opened, λ opened. opened)

-- in the order requested
in_order : (one other : NetworkMote) (first second : SessionView) → AreOpened (one ∷ other ∷ []) (first ∷ second ∷ []) →
    IsOpened (config_of_mote one) first × IsOpened (config_of_mote other) second
in_order one other first second opened = (opened.0, opened.1.0)

module _ (sizes : NetworkSizes) (new : StepsView) where
  -- no mote that was asked for is left out
  left_out : (mote : NetworkMote) → IsNetworkOpened sizes (mote ∷ []) new → new.net.motes ≡ [] → ⊥
  left_out mote is none = rw (sym (ap (λ (s : StepsView). s.net.motes) is.steps) ∙ none) at is.opened

  -- each mote boots
  a_bad_mote : IsNetworkOpened sizes (mote_of 17 4096 ∷ []) new → ⊥
  unfolding mote_of
  a_bad_mote is = no_session is.sessions is.opened where
    no_session : (sessions : List SessionView) → AreOpened (mote_of 17 4096 ∷ []) sessions → ⊥
    no_session [] opened = opened
    no_session (session ∷ sessions) opened = cc opened.0.bootable

module _ (sizes : NetworkSizes) (motes : List NetworkMote) (new : StepsView) where
  -- nothing has happened yet, and no limit is used
  fresh : IsNetworkOpened sizes motes new →
      (new.free_links ≡ sizes.links) × (new.net.bound ≡ sizes.rounds) × (new.net.started ≡ 0) × (new.net.active ≡ None)
  fresh opened = rw opened.steps (refl, refl, refl, refl)

nobody : due_of None ≡ None
nobody = refl

clock_of : (came : Came) (clock : ℕ) → (happening_of came clock).clock ≡ clock
clock_of (Came.Turn m) clock = refl
clock_of (Came.Entry m) clock = refl
clock_of Came.Clock clock = refl
clock_of (Came.Lost from to) clock = refl
clock_of (Came.Full from to) clock = refl
clock_of (Came.Missed from to) clock = refl
clock_of (Came.Unheard m) clock = refl
clock_of Came.Rest clock = refl
clock_of Came.Exhausted clock = refl

module _ (happening : Happening) (before after : PlainTurn) (old new : StepsView) (goes : NetworkGoesNext happening before after old new) where
  -- the turn is as it was where none awaits a call
  untold : awaited_turn new.net ≡ None → after ≡ before
  untold none = rw none at goes.turn

  -- otherwise it is the one that does
  of_the_turn : (turn : AwaitedCall) → awaited_turn new.net ≡ Some turn → after.process ≡ turn.process.0
  of_the_turn turn waits = ap (λ (t : PlainTurn). t.process) (rw waits at goes.turn)

  -- the clock is reported as it is then, and no link is used up
  at_the_clock : (happening.clock ≡ new.net.air.clock) × (new.free_links ≡ old.free_links)
  at_the_clock = (ap (λ (h : Happening). h.clock) goes.is_happening ∙ clock_of goes.came new.net.air.clock, goes.goes.links)

module _ (plain : PlainCall) (old new : StepsView) (takes : NetworkTakesCall plain old new) where
  no_call : call_said plain ≡ None → ⊥
  no_call none = cc (sym none ∙ takes.said)

  -- no call is executed where no mote is at work
  nobody_works : old.net.active ≡ None → ⊥
  nobody_works none = cc (sym none ∙ takes.submitted.was_active)

  -- a call changes a mote, and not how far the network is, or what it may still take
  beside_the_call : (new.last ≡ old.last) × (new.sending ≡ old.sending) × (new.waiting ≡ old.waiting) × (new.phase ≡ old.phase)
      × (new.free_links ≡ old.free_links)
  beside_the_call = (
    ap (λ (s : StepsView). s.last) takes.same,
    ap (λ (s : StepsView). s.sending) takes.same,
    ap (λ (s : StepsView). s.waiting) takes.same,
    ap (λ (s : StepsView). s.phase) takes.same,
    ap (λ (s : StepsView). s.free_links) takes.same,
  )

module _ (before after : PlainApplication) (old new : StepsView) (takes : NetworkTakesTurn before after old new) where
  no_turn_to_take : awaited_turn old.net ≡ None → ⊥
  no_turn_to_take none = cc (sym none ∙ takes.awaited)

  beside_the_turn : (new.phase ≡ old.phase) × (new.free_links ≡ old.free_links)
  beside_the_turn = (ap (λ (s : StepsView). s.phase) takes.same, ap (λ (s : StepsView). s.free_links) takes.same)
