-- The text of each possible call is accepted: its words are those that its name takes.
use Rattle.std.proofs.Common.{◌≡◌, ◌∙◌, ◌≢◌, ℕ, false, List, [], ◌∷◌, ◌++◌, get_or, IfErr, Result, Ok, Err, Some, refl, ap, subst, rules}
use Rattle.std.specs.Char.{is_ascii_digit}
use Rattle.mote_text.specs.Code.CallWords.{argument_words}
use Rattle.mote_text.specs.EntryText.{Word, call_words}
use Rattle.call_lists.specs.Spaced.{spaced}
use Rattle.mote_types.specs.declared.call.Call.{Call}
use Rattle.call_lists.specs.Calls.{HasWords, IsCall, hex_lowered}
use Rattle.call_lists.specs.Ranges.{IsPossible}
use Rattle.call_lists.specs.Code.Readings.{behind_first, first_word, left_by_call, left_in, process_words}
use Rattle.call_lists.specs.declared.words.Words.{Words}
use Rattle.call_lists.proofs.Cuts.{IsPlain, behind_lowered, behind_spaced, cut_of_plain}
use Rattle.call_lists.proofs.Fitting.{FitsCall, call_taken, chunk_fits, payload_fits, small_fits, wide_fits}

pub of_each : {T E : Type 0} (A : Type 0) (result : Result T E) → A → IfErr result (λ (_ : E). A)
of_each A (Ok value) holds = tt
of_each A (Err fault) holds = holds

abbrev pub head : List Word → Word
head [] = []
head (word ∷ words) = word

module _ (call : Call) where
  abbrev pub name_of : Word
  name_of = head (call_words call)

  pub record IsWellFormed : Type 0 where
    pub are_words : call_words call ≡ name_of ∷ argument_words call
    pub plain : IsPlain name_of
    pub letter : is_ascii_digit (get_or name_of 0 48) ≡ false
    pub fit : FitsCall (process_words name_of) (argument_words call)

named : (call : Call) → (call_words call ≡ name_of call ∷ argument_words call) × IsPlain (name_of call)
    × (is_ascii_digit (get_or (name_of call) 0 48) ≡ false)
named Call.Wait = (refl, refl, refl)
named call = (refl, refl, refl)

fits : (call : Call) → IsPossible call → FitsCall (process_words (name_of call)) (argument_words call)
fits Call.Wait is = tt
fits call is = search (rules, small_fits, wide_fits, chunk_fits, payload_fits)

pub well_formed : (call : Call) → IsPossible call → IsWellFormed call
well_formed call is = let words = named call in record { are_words = words.0; plain = words.1; letter = words.2; fit = fits call is }

module _ (text : List ℕ) where
  module _ (call : Call) where
    -- a call's text is its name and its other words
    pub words_in : IsWellFormed call → IsCall text call
        → (rest : List ℕ) × (text ≡ name_of call ++ rest) × (hex_lowered rest ≡ spaced (argument_words call))
    words_in formed is = subst (HasWords text) formed.are_words is

    pub taken_call : IsPossible call → IsCall text call
        → left_by_call (process_words (first_word text)) (Some (behind_first text)) ≡ Some []
    taken_call possible is =
        let formed = well_formed call possible in
        let words = words_in formed is in
        let behind =
        behind_lowered words.0 (spaced (argument_words call)) (behind_spaced (argument_words call)) words.2 in
        let cut = cut_of_plain (name_of call) words.0 formed.plain behind in
        rw (words.1, cut.0, cut.1) (call_taken (process_words (name_of call)) (argument_words call) words.0 formed.fit words.2)

  -- if words are left, or a fault was found, the text is no call's
  pub no_call : (old new : Words) → old.name.now ≡ first_word text → left_in old ≡ Some (behind_first text)
      → left_in new ≡ left_by_call (process_words old.name.now) (left_in old) → left_in new ≢ Some []
      → (call : Call) → IsPossible call → IsCall text call → ⊥
  no_call old new name left taken wrong call possible is =
      wrong (
      taken ∙ ap (λ name. left_by_call (process_words name) (left_in old)) name ∙ ap (left_by_call (process_words (first_word text))) left
      ∙ taken_call call possible is
      )
