-- The motes of a setup have just booted.
use Rattle.std.proofs.Common.{◌≡◌, ℕ, zero, suc, List, [], ◌∷◌, ◌++◌, None, Some, ap, arith, subst, sym, refl, slice_get}
use Rattle.kernel_core.specs.declared.config.Config.{Config}
use Rattle.kernel_core.specs.Machine.{Machine}
use Rattle.mote_session.specs.History.{at_boot}
use Rattle.mote_session.specs.SessionRuns.{IsHistoryOf}
use Rattle.mote_session.specs.SessionView.{SessionView}
use Rattle.network_setup.specs.Code.Setups.{AreBooted, IsAdded}
use Rattle.network_setup.specs.SetupView.{HasJustBooted, HaveJustBooted, SetupView, config_of}
use Rattle.network_setup.specs.SetUpRuns.{HasBooted, start_of}
use Rattle.network_run.specs.NetworkRunText.{IsAtStart}

one_more : (configs : List Config) (motes : List SessionView) (config : Config) (mote : SessionView) → HaveJustBooted configs motes →
    HasJustBooted config mote → HaveJustBooted (configs ++ config ∷ []) (motes ++ mote ∷ [])
one_more [] [] config mote all one = (one, tt)
one_more [] (x ∷ motes) config mote all one = absurd all
one_more (c ∷ configs) [] config mote all one = absurd all
one_more (c ∷ configs) (x ∷ motes) config mote all one = (all.0, one_more configs motes config mote all.1 one)

pub none_booted : (motes : List SessionView) → motes ≡ [] → AreBooted motes
none_booted motes none = subst (λ (all : List SessionView). AreBooted all) (sym none) (record { configs = []; booted = tt })

-- after one more has booted
pub still_booted : (config : Config) (old new : List SessionView) → AreBooted old → IsAdded config old new → AreBooted new
still_booted config old new all one = record {
  configs = all.configs ++ config ∷ [];
  booted = subst (λ (motes : List SessionView). HaveJustBooted (all.configs ++ config ∷ []) motes) (sym one.added)
      (one_more all.configs old config one.mote all.booted one.booted);
}

histories : (configs : List Config) (motes : List SessionView) → HaveJustBooted configs motes →
    (m : ℕ) (mote : SessionView) → slice_get motes m ≡ Some mote → IsHistoryOf (at_boot (config_of configs m)) mote
histories [] [] all m mote e = absurd (cc)
histories [] (x ∷ motes) all m mote e = absurd all
histories (c ∷ configs) [] all m mote e = absurd all
histories (c ∷ configs) (x ∷ motes) all zero mote e =
    let same : x ≡ mote = cc in
    subst (λ (one : SessionView). IsHistoryOf (at_boot c) one) same all.0.history
histories (c ∷ configs) (x ∷ motes) all (suc m) mote e = histories configs motes all.1 m mote e

starts : (configs : List Config) (motes : List SessionView) → HaveJustBooted configs motes → (m : ℕ) (mote : SessionView) → slice_get motes m ≡ Some mote →
    (mote.turn ≡ None) × (mote.machine.clock ≡ 0)
starts [] [] all m mote e = absurd (cc)
starts [] (x ∷ motes) all m mote e = absurd all
starts (c ∷ configs) [] all m mote e = absurd all
starts (c ∷ configs) (x ∷ motes) all zero mote e =
    let same : x ≡ mote = cc in
    subst (λ (one : SessionView). (one.turn ≡ None) × (one.machine.clock ≡ 0)) same (all.0.turn, ap (λ (m : Machine). m.clock) all.0.machine)
starts (c ∷ configs) (x ∷ motes) all (suc m) mote e = starts configs motes all.1 m mote e

at_start : (configs : List Config) (setup : SetupView) → HaveJustBooted configs setup.motes → IsAtStart (start_of setup)
at_start configs setup all = record {
  idle = refl;
  none_started = refl;
  within = omega arith;
  far = omega arith;
  awaits = λ m mote there. (starts configs setup.motes all m mote there).0;
  on_time = λ m mote there. (starts configs setup.motes all m mote there).1;
}

pub has_booted : (setup view : SetupView) → view ≡ setup → AreBooted view.motes → HasBooted setup
has_booted setup view same all =
    let known : HaveJustBooted all.configs setup.motes =
    subst (λ (one : SetupView). HaveJustBooted all.configs one.motes) same all.booted in
    record {
      configs = all.configs;
      motes = known;
      log = record { motes = histories all.configs setup.motes known; air = refl; heard = tt };
      at_start = at_start all.configs setup known;
    }
