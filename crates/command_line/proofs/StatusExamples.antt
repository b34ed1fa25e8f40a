-- Examples: statuses and messages.
use Rattle.std.proofs.Common.{◌≡◌, ◌⊎◌, ℕ, List, [], ◌∷◌, map, codes, refl, arith, inl, inr}
use Rattle.std.specs.Prelude.{Some, None, Ok, Err}
use denote.Ref.{Bor}
use Rattle.mote_text.specs.declared.script.End.{End}
use Rattle.command_line.specs.declared.refusal.ParserText.{ParserText}
use Rattle.command_line.specs.declared.refusal.Refusal.{Refusal}
use Rattle.command_line.specs.Statuses.{IsShown, IsStatusOf, bad_sizes, failure_in_words, failure_text, out_of_memory, read_failed, reported_text, status_of_outcome, stream_of_failure, write_failed}
use Rattle.command_line.specs.declared.failure.Failure.{Failure}
use Rattle.command_line.specs.declared.report.Stream.{Stream}

statuses : map status_of_outcome (
    Ok End.Finished ∷ Ok (End.BadLine 7) ∷ Ok End.Halted ∷ Ok End.TooLong ∷ Err read_failed ∷ Err write_failed ∷ Err bad_sizes
    ∷ Err out_of_memory ∷ Err Failure.TooManyApplications ∷ Err Failure.NotText ∷ [])
    ≡ 0 ∷ 2 ∷ 3 ∷ 4 ∷ 5 ∷ 6 ∷ 64 ∷ 70 ∷ 64 ∷ 64 ∷ []
statuses = refl

bad_sizes_text : reported_text (codes "mote") bad_sizes ≡ Some (codes "mote: bad sizes\n")
bad_sizes_text = refl

-- the parser writes its own texts
failure_texts : map failure_text (read_failed ∷ write_failed ∷ Failure.NotText ∷ Failure.TooManyApplications ∷ out_of_memory ∷ [])
    ≡ map (λ text. Some text) (codes "read failed" ∷ codes "write failed" ∷ codes "a word is not text" ∷ codes "too many applications"
    ∷ codes "out of memory" ∷ [])
failure_texts = refl

name_text : (name : Bor (List ℕ)) → name.now ≡ codes "hullo"
    → failure_text (Failure.NoApplication name) ≡ Some (codes "no application hullo")
name_text name is = grind arith

halt_stays : IsShown (Ok End.Halted) (Err write_failed) ⊎ IsStatusOf (Ok End.Halted) 0 → ⊥
halt_stays is = grind arith

module _ (text : ParserText) where
  no_text : map failure_text (Failure.Request text ∷ Failure.Words text ∷ []) ≡ None ∷ None ∷ []
  no_text = refl

  -- only a requested text goes to standard output
  streams : map stream_of_failure (Failure.Request text ∷ Failure.Words text ∷ bad_sizes ∷ out_of_memory ∷ [])
      ≡ Stream.Output ∷ Stream.Error ∷ Stream.Error ∷ Stream.Error ∷ []
  streams = refl

  -- a requested text that can't be written is a failed write; no other outcome changes
  not_shown : IsStatusOf (Err (Failure.Request text)) 6
  not_shown = record { shown = Err write_failed; is_shown = inr refl; is_status = refl }

  shown : IsStatusOf (Err (Failure.Request text)) 0
  shown = record { shown = Err (Failure.Request text); is_shown = inl refl; is_status = refl }

  -- it is no run
  no_run : IsShown (Err (Failure.Request text)) (Ok End.Finished) → ⊥
  no_run (inl is) = absurd (cc)
  no_run (inr is) = absurd (cc)

  module _ (name : Bor (List ℕ)) where
    -- a requested text is no failure; all other invalid arguments end with 64
    refused : map status_of_outcome (Err (Failure.Request text) ∷ Err (Failure.Words text) ∷ Err (Failure.NoApplication name) ∷ [])
        ≡ 0 ∷ 64 ∷ 64 ∷ []
    refused = refl

    -- invalid arguments and sizes are reported under the same names
    same_names : map failure_in_words (Refusal.Words text ∷ Refusal.NoApplication name ∷ [])
        ≡ Failure.Words text ∷ Failure.NoApplication name ∷ []
    same_names = refl
