-- A list that is cut at its commas.
use Rattle.std.specs.Prelude.{ℕ, List}
use Rattle.library_core.specs.Reasons.{HasCallsAlone, HasNoCallAt}
use Rattle.library_core.specs.declared.refusal.LineReason.{LineReason}

-- why the text is no list of calls
abbrev pub IsListReason : List ℕ → LineReason → Type 0
IsListReason text LineReason.NoName = ⊥
IsListReason text (LineReason.NoCall number reason) = HasNoCallAt text number
IsListReason text LineReason.TooManyCalls = HasCallsAlone text
