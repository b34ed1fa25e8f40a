-- One mote works, and its caller makes the call of a turn.
use Rattle.std.proofs.Common.{◌≡◌, ℕ, zero, suc, List, [], ◌∷◌, set, slice_get, refl, ap, None, Some}
use Rattle.mote_session.specs.Code.Working.{WorksBy}
use Rattle.mote_session.specs.SessionView.{SessionView}
use Rattle.mote_session.specs.declared.session.Next.{Next}
use Rattle.network_session.specs.Code.Working.{TakesTurn, TurnIn, WorksIn}
use Rattle.network_session.specs.Network.{NetworkView}
use Rattle.network_session.proofs.Working.{get_set}

set_set : {X : Type 0} (xs : List X) (m : ℕ) (y z : X) → set (set xs m y) m z ≡ set xs m z
set_set [] m y z = refl
set_set (x ∷ xs) zero y z = refl
set_set (x ∷ xs) (suc m) y z = ap (λ (l : List _). x ∷ l) (set_set xs m y z)

module _ (m : ℕ) (old new : List SessionView) (before after : SessionView) (there : slice_get old m ≡ Some before) (closed : before.turn ≡ None)
    (others : new ≡ set old m after) where
  pub works_in : (next : Next) → WorksBy next before after → WorksIn m next old new
  works_in Next.Turn works = record {
    mid = set old m works.mid;
    call = works.calls.call;
    opens = record {
      before = before;
      after = works.mid;
      mote = there;
      closed = closed;
      advances = works.opens.advances;
      same = works.opens.same;
      others = refl;
    };
    submitted = record {
      before = works.mid;
      after = after;
      mote = get_set old m before works.mid there;
      submitted = works.calls.submitted;
      same = works.calls.same;
      others = rw (set_set old m works.mid after) others;
    };
  }
  works_in Next.Entry works = record { before = before; after = after; mote = there; closed = closed; advances = works.advances; same = works.same; others = others }
  works_in Next.Rest works = record { before = before; after = after; mote = there; closed = closed; advances = works.advances; same = works.same; others = others }
  works_in Next.Halted works = record { before = before; after = after; mote = there; closed = closed; advances = works.advances; same = works.same; others = others }

pub takes_turn : (m : ℕ) (old : NetworkView) (motes : List SessionView) → old.active ≡ Some m → TurnIn m old.motes motes →
    TakesTurn m old (record old { motes = motes })
takes_turn m old motes active turn = record {
  mid = record old { motes = turn.mid };
  call = turn.call;
  opens = record { was_active = active; worked = turn.opens; result = rw active refl };
  submitted = record { m = m; was_active = active; submitted = turn.submitted; result = refl };
}
