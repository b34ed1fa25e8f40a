-- What was taken of a call's words, and the call of a text that is used up.
use Rattle.std.proofs.Common.{◌≡◌, ℕ, List, [], ◌∷◌, ◌++◌, None, arith}
use Rattle.std.proofs.lemmas.Grind.{common_steps}
use Rattle.std.proofs.lemmas.List.{append-nil}
use Rattle.call_lists.specs.Spaced.{spaced}
use Rattle.mote_types.specs.declared.call.Call.{Call}
use Rattle.call_lists.specs.Calls.{IsCall, hex_lowered}
use Rattle.call_lists.specs.Code.Words.{IsTaken, behind}
use Rattle.call_lists.specs.declared.words.Words.{Words}

pub word_taken : (rest word left : List ℕ) → rest ≡ word ++ left
    → hex_lowered (32 ∷ rest) ≡ spaced (hex_lowered word ∷ []) ++ hex_lowered left
unfolding spaced
word_taken rest word left parted = grind (arith, common_steps)

-- if nothing is left, and no fault was found, the text was the call
pub whole_call : (text : List ℕ) (old new : Words) (call : Call) → text ≡ old.name.now ++ behind old.rest → IsTaken old call new
    → new.fault ≡ None → new.rest ≡ None → IsCall text call
unfolding spaced
whole_call text old new call parted taken faultless spent = grind (arith, append-nil)
