-- Values that grow stay values.
use Rattle.std.proofs.Common.{◌≡◌, ℕ, Bool, true, false, List, ◌++◌, if◌then◌else◌, sym, subst}
use Rattle.pictures.specs.Dump.{AreChanges}

pub grown : (first time : ℕ) (old more new : List ℕ) (done : Bool) → new ≡ (if done then old ++ more else old)
    → AreChanges first time old → AreChanges first time (old ++ more) → AreChanges first time new
grown first time old more new true e _ whole = subst (AreChanges first time) (sym e) whole
grown first time old more new false e same _ = subst (AreChanges first time) (sym e) same
