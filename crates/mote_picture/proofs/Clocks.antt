-- What the parser's getter reads of an option that takes a clock.
use Rattle.std.proofs.Common.{◌≡◌, ◌∙◌, ◌-◌, ◌^◌, ℕ, Bool, true, false, refl, ap, arith, List, Option, Some, None, Result, Ok, Err, option_and_then, if◌then◌else◌}
use Rattle.std.specs.Str.Parse.{ParsesUnsigned, digits_value, without_leading_plus}
use Rattle.clap.specs.Matches.{ReadsOne, one_text}
use Rattle.clap.specs.ValueTests.{is_unsigned_in}
use Rattle.clap.specs.Walk.{Text, one_of, rows_of}
use Rattle.clap.specs.declared.builder.value_parser.ValueParser.{ValueParser}
use Rattle.clap.specs.declared.parser.matches.Found.{Found}
use Rattle.clap.proofs.ValueTestLemmas.{Accepts-accepts, accepts-Accepts}
use Rattle.clap.proofs.WalkLemmas.{one_text-rows}
use Rattle.mote_picture.specs.Named.{clock_written}

module _ (E : Type 0) (G : List ℕ → Result ℕ E → Type 0) where
  clock_read : ((t : List ℕ) (x : Result ℕ E) → G t x → ParsesUnsigned 64 10 t x) →
      (t : List ℕ) (r : Option ℕ) → ReadsOne G t r → r ≡ clock_written t
  clock_read only t (Some v) read =
      let parsed = only t (Ok v) read in
      let in_range : is_unsigned_in 0 (2 ^ 64 - 1) t ≡ true =
      Accepts-accepts false (ValueParser.Unsigned 0 (2 ^ 64 - 1)) t
      (parsed.0.0, omega (arith, parsed), omega arith, omega (arith, parsed)) in
      rw in_range (ap Some parsed.1)
  clock_read only t None read = go (is_unsigned_in 0 (2 ^ 64 - 1) t) refl
    where
      go : (b : Bool) → is_unsigned_in 0 (2 ^ 64 - 1) t ≡ b → None ≡ (if b then Some (digits_value 10 (without_leading_plus t)) else None)
      go true e =
          let accepted = accepts-Accepts false (ValueParser.Unsigned 0 (2 ^ 64 - 1)) t e in
          absurd (only t (Err read.0) read.1 (accepted.0, omega (arith, accepted)))
      go false e = refl

  pub clock_given : ((t : List ℕ) (x : Result ℕ E) → G t x → ParsesUnsigned 64 10 t x) →
      (f : Found) (id : Text) (r : Option ℕ) → (one_text f id ≡ None → r ≡ None) →
      ((t : List ℕ) → one_text f id ≡ Some t → ReadsOne G t r) → r ≡ option_and_then clock_written (one_of id (rows_of f))
  clock_given only f id r none value = go (one_text f id) refl ∙ ap (option_and_then clock_written) (one_text-rows f id)
    where
      go : (o : Option (List ℕ)) → one_text f id ≡ o → r ≡ option_and_then clock_written o
      go None e = none e
      go (Some t) e = clock_read only t r (value t e)
