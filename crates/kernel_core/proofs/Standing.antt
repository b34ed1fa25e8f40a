-- A kernel in a turn, or between two.
use Rattle.std.proofs.Common.{◌≡◌, Bool, true, false, None, Some, refl}
use Rattle.kernel_core.proofs.Common.{Entry, KernelFields, IsInOrder}
use Rattle.mote_types.specs.declared.event.Pid.{Pid}
use Rattle.kernel_core.specs.Code.OpenTurns.{IsMidTurn, StandsWell, WorksUpTo, open_turn}
use Rattle.kernel_core.specs.declared.step.StepOutcome.{StepOutcome}
use Rattle.kernel_core.specs.declared.turn.Turn.{Turn}

module _ (k : KernelFields) where
  pub open_in_turn : (pid : Pid) → IsMidTurn pid k → open_turn k ≡ Some pid
  open_in_turn pid turn = rw (turn.running, turn.at_turn.turn) refl

  pub closed_in_order : IsInOrder k → open_turn k ≡ None
  closed_in_order order = split k.halted refl
    where
      split : (b : Bool) → k.halted ≡ b → open_turn k ≡ None
      split true e = rw e refl
      split false e = rw (e, order.idle e) refl

  pub stands_in_turn : (pid : Pid) → IsMidTurn pid k → StandsWell (open_turn k) k
  stands_in_turn pid turn = rw (open_in_turn pid turn) turn

  pub stands_in_order : IsInOrder k → StandsWell (open_turn k) k
  stands_in_order order = rw (closed_in_order order) order

  pub order_from_closed : StandsWell (open_turn k) k → open_turn k ≡ None → IsInOrder k
  order_from_closed stands closed = rw closed at stands

  pub turn_from_open : (pid : Pid) → StandsWell (open_turn k) k → open_turn k ≡ Some pid → IsMidTurn pid k
  turn_from_open pid stands turn = rw turn at stands

  pub stands_after : {old : KernelFields} {before other : Entry} (outcome : StepOutcome) (turn : Turn)
      → WorksUpTo outcome turn before other old k → StandsWell (open_turn k) k
  stands_after StepOutcome.Turn turn worked = stands_in_turn turn.pid (worked.opens refl)
  stands_after StepOutcome.Other turn worked = stands_in_order (worked.worked.order (λ e. absurd (cc)))
  stands_after StepOutcome.Rest turn worked = stands_in_order (worked.worked.order (λ e. absurd (cc)))
  stands_after StepOutcome.Halted turn worked = stands_in_order (worked.worked.order (λ e. absurd (cc)))
