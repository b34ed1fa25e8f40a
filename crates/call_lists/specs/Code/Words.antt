-- The words of a call, as they are taken one by one.
use Rattle.std.specs.Prelude.{◌≡◌, ℕ, List, [], ◌∷◌, ◌++◌, Option, Some, None}
use Rattle.mote_text.specs.Code.CallWords.{argument_words}
use Rattle.mote_text.specs.EntryText.{Word, call_words}
use Rattle.call_lists.specs.Spaced.{spaced}
use Rattle.mote_types.specs.declared.call.Call.{Call}
use Rattle.call_lists.specs.Calls.{hex_lowered}
use Rattle.call_lists.specs.declared.words.Words.{Words}
use denote.Ref.{Bor}

-- what follows a word, with the blank before it
abbrev pub behind : Option (Bor (List ℕ)) → List ℕ
behind None = []
behind (Some rest) = 32 ∷ rest.now

-- where no fault has been met now, none was met before, and these words were taken, with hex digits of either case
pub record AreTaken (old : Words) (taken : List Word) (new : Words) : Type 0 where
  pub faultless : new.fault ≡ None → old.fault ≡ None
  pub front : new.fault ≡ None → hex_lowered (behind old.rest) ≡ spaced taken ++ hex_lowered (behind new.rest)

-- this is the call of the name, and its other words were taken
pub record IsTaken (old : Words) (call : Call) (new : Words) : Type 0 where
  pub name : new.fault ≡ None → call_words call ≡ old.name.now ∷ argument_words call
  pub arguments : AreTaken old (argument_words call) new
