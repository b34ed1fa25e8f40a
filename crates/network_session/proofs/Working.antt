-- One mote works, and what it sends goes into the air.
use Rattle.std.proofs.Common.{◌≡◌, ℕ, zero, suc, List, [], ◌∷◌, get_or, set, slice_get, refl, ap, ◌∙◌, Some}
use Rattle.medium_core.specs.Air.{Air}
use Rattle.mote_session.specs.Sent.{sent_in}
use Rattle.mote_session.specs.SessionView.{SessionView}
use Rattle.mote_session.specs.declared.session.Next.{Next}
use Rattle.network_session.specs.Network.{NetworkView}
use Rattle.network_session.specs.Steps.{Worked, WorkedIn, aired, aired_if}

pub get_of : {X : Type 0} (xs : List X) (m : ℕ) (x d : X) → slice_get xs m ≡ Some x → get_or xs m d ≡ x
get_of [] m x d h = absurd (cc)
get_of (z ∷ xs) zero x d h = cc
get_of (z ∷ xs) (suc m) x d h = get_of xs m x d h

pub get_set : {X : Type 0} (xs : List X) (m : ℕ) (x y : X) → slice_get xs m ≡ Some x → slice_get (set xs m y) m ≡ Some y
get_set [] m x y h = absurd (cc)
get_set (z ∷ xs) zero x y h = refl
get_set (z ∷ xs) (suc m) x y h = get_set xs m x y h

-- the mote that is there now is the one that worked
pub is_after : (m : ℕ) (old new : List SessionView) (before after mote : SessionView) → slice_get old m ≡ Some before → new ≡ set old m after →
    mote ≡ get_or new m mote → mote ≡ after
is_after m old new before after mote there others is =
    is ∙ (ap (λ (l : List SessionView). get_or l m mote) others ∙ get_of (set old m after) m after mote (get_set old m before after there))

pub there_after : (m : ℕ) (old new : List SessionView) (before after : SessionView) → slice_get old m ≡ Some before → new ≡ set old m after →
    slice_get new m ≡ Some after
there_after m old new before after there others = ap (λ (l : List SessionView). slice_get l m) others ∙ get_set old m before after there

pub worked_entry : (m : ℕ) (old : NetworkView) (motes : List SessionView) (air : Air) (mote : SessionView) →
    old.active ≡ Some m → WorkedIn m Next.Entry old.motes motes → mote ≡ get_or motes m mote → air ≡ aired_if m (sent_in mote.last) old.air →
    Worked m Next.Entry old (record old { motes = motes; air = air })
worked_entry m old motes air mote active w is aired =
    let same : mote ≡ w.after = is_after m old.motes motes w.before w.after mote w.mote w.others is in
    record {
      was_active = active;
      worked = w;
      result = rw (aired, same, active) refl;
    }
