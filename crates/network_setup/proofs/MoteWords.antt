-- The words of a mote's line, taken one after the other.
use Rattle.std.proofs.Common.{◌≡◌, ℕ, suc, List, [], ◌∷◌, ◌++◌, Option, subst, sym}
use Rattle.std.specs.Global.{Vec}
use Rattle.kernel_core.specs.declared.config.Config.{Config}
use Rattle.network_setup.specs.Code.Setups.{HasOneMore}
use Rattle.network_setup.specs.MoteLines.{HasMote, HaveMotes}
use Rattle.network_setup.specs.SetupView.{SetupView}
use Rattle.network_setup.specs.declared.mote_app.MoteApp.{MoteApp}

-- one more mote of a line
pub one_more_mote : (n m : ℕ) (words : List (List ℕ)) (calls : Option (List ℕ)) (old between new : SetupView) → m ≡ suc n →
    HaveMotes n words calls old between → HasMote words calls between new → HaveMotes m words calls old new
one_more_mote n m words calls old between new e all one =
    subst (λ (k : ℕ). HaveMotes k words calls old new) (sym e) (between, all, one)

-- all of a setup that has one more mote
pub is_setup : (config : Config) (own : Vec MoteApp) (old new : SetupView) (more : HasOneMore config own old new) →
    new ≡ record old { motes = old.motes ++ more.motes.mote ∷ []; applications = old.applications ++ own ∷ []; links = old.links ++ [] ∷ [] }
is_setup config own old new more = λ i. record {
  motes = more.motes.added i;
  applications = more.applications i;
  links = more.links i;
  room = more.room i;
  rounds = more.rounds i;
}
