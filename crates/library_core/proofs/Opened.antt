-- The motes of a network that is opened have just booted.
use Rattle.std.proofs.Common.{◌≡◌, ◌<◌, ◌+◌, ℕ, List, [], ◌∷◌, ◌++◌, get_or, length, subst, sym, take}
use Rattle.std.proofs.lemmas.List.{take_more}
use Rattle.kernel_core.specs.declared.config.Config.{Config}
use Rattle.mote_session.specs.SessionView.{SessionView}
use Rattle.library_core.specs.Code.Opening.{IsMoteAdded}
use Rattle.library_core.specs.NetworkCalls.{AreOpened, config_of_mote}
use Rattle.library_core.specs.Steps.{IsOpened}
use Rattle.library_core.specs.declared.plain_network.NetworkMote.{NetworkMote}

one_more : (motes : List NetworkMote) (sessions : List SessionView) (mote : NetworkMote) (session : SessionView) → AreOpened motes sessions →
    IsOpened (config_of_mote mote) session → AreOpened (motes ++ mote ∷ []) (sessions ++ session ∷ [])
one_more [] [] mote session all one = (one, tt)
one_more [] (x ∷ sessions) mote session all one = absurd all
one_more (m ∷ motes) [] mote session all one = absurd all
one_more (m ∷ motes) (x ∷ sessions) mote session all one = (all.0, one_more motes sessions mote session all.1 one)

-- also after mote i has booted
pub one_opened : (motes : List NetworkMote) (i : ℕ) (d : NetworkMote) (config : Config) (old new : List SessionView) → i < length motes →
    AreOpened (take i motes) old → config ≡ config_of_mote (get_or motes i d) → IsMoteAdded config old new → AreOpened (take (i + 1) motes) new
one_opened motes i d config old new there all same one =
    let mote : NetworkMote = get_or motes i d in
    let opened : IsOpened (config_of_mote mote) one.session = subst (λ (c : Config). IsOpened c one.session) same one.opened in
    let more : AreOpened (take i motes ++ mote ∷ []) (old ++ one.session ∷ []) = one_more (take i motes) old mote one.session all opened in
    let added : AreOpened (take i motes ++ mote ∷ []) new =
    subst (λ (sessions : List SessionView). AreOpened (take i motes ++ mote ∷ []) sessions) (sym one.added) more in
    subst (λ (before : List NetworkMote). AreOpened before new) (sym (take_more motes i d there)) added
