-- The command line of the parser is a simple one; what the getters read of matches.
use Rattle.std.proofs.Common.{◌≡◌, ◌∙◌, ℕ, Bool, true, false, refl, ap, arith, List, map, Option, Some, None, Result, Ok, Err, codes, find, option_map, option_and_then, unwrap_or, if◌then◌else◌, bytes_eq, []}
use Rattle.command_line.proofs.Common.{ParsesUnsigned, is_simple, matches_of, fault_of, is_simple_and_free, rows_of, texts, find-map, applications_of, is_quiet, names_of, number_of, number_written, program, sizes_of}
use Rattle.std.specs.Borrow.{Bor}
use Rattle.std.specs.Str.Parse.{digits_value, without_leading_plus}
use Rattle.clap.specs.Facts.{Entry}
use Rattle.clap.specs.Matches.{ReadsOne, matched_of, one_text, raw_values}
use Rattle.clap.specs.ValueTests.{is_unsigned_in}
use Rattle.clap.specs.Walk.{Row, Text, all_of, row_of}
use Rattle.clap.specs.declared.builder.value_parser.ValueParser.{ValueParser}
use Rattle.clap.specs.declared.parser.matches.Found.{Found}
use Rattle.clap.proofs.OnLiterals.{clap_on_literals}
use Rattle.clap.proofs.ValueTestLemmas.{Accepts-accepts, accepts-Accepts}
use Rattle.clap.proofs.WalkLemmas.{one_text-rows, raw_values-rows}
use Rattle.command_line.specs.CommandLine.{errors_in, named_in, matches_in}
use Rattle.command_line.specs.declared.named.Named.{Named}
use Rattle.node_memory.specs.declared.sizes.Sizes.{Sizes}

module _ {A : Type 0} where
  abbrev pub named_with : List A → Sizes → Bool → Named A
  named_with applications sizes quiet = record { applications = record { items = applications }; sizes = sizes; quiet = quiet }

  pub named_read : (by_name : Text → Option A) (words : List Text) (applications : List A) (sizes : Sizes) (quiet : Bool) →
      applications ≡ applications_of by_name (names_of (matches_in words)) → sizes ≡ sizes_of (matches_in words)
      → quiet ≡ is_quiet (matches_in words) →
      named_with applications sizes quiet ≡ named_in by_name words
  unfolding named_in
  named_read by_name words applications sizes quiet a s q = grind arith

module _ (name : Text) where
  pub program_is_simple : is_simple (program name) ≡ true
  unfolding clap_on_literals
  program_is_simple = refl

  pub program_is_free : is_simple_and_free (program name) ≡ true
  unfolding clap_on_literals
  program_is_free = refl

  module _ (words : List Text) where
    pub matches_in_is : matches_in words ≡ matches_of (program name) words
    unfolding matches_in
    matches_in_is = refl

    pub errors_in_is : errors_in words ≡ fault_of (program name) words
    unfolding errors_in clap_on_literals
    errors_in_is = refl

module _ (E : Type 0) (G : List ℕ → Result ℕ E → Type 0) where
  -- the number that a text writes
  number_read : ((t : List ℕ) (x : Result ℕ E) → G t x → ParsesUnsigned 32 10 t x) →
      (t : List ℕ) (r : Option ℕ) → ReadsOne G t r → r ≡ number_written t
  number_read only t (Some v) read =
      let parsed = only t (Ok v) read in
      let in_range : is_unsigned_in 0 4294967295 t ≡ true =
      Accepts-accepts false (ValueParser.Unsigned 0 4294967295) t (parsed.0.0, omega (arith, parsed), omega arith, omega (arith, parsed)) in
      rw in_range (ap Some parsed.1)
  number_read only t None read = go (is_unsigned_in 0 4294967295 t) refl
    where
      go : (b : Bool) → is_unsigned_in 0 4294967295 t ≡ b → None ≡ (if b then Some (digits_value 10 (without_leading_plus t)) else None)
      go true e =
          let accepted = accepts-Accepts false (ValueParser.Unsigned 0 4294967295) t e in
          absurd (only t (Err read.0) read.1 (accepted.0, omega (arith, accepted)))
      go false e = refl

  pub number_given : ((t : List ℕ) (x : Result ℕ E) → G t x → ParsesUnsigned 32 10 t x) →
      (f : Found) (id : Text) (r : Option ℕ) → (one_text f id ≡ None → r ≡ None) →
      ((t : List ℕ) → one_text f id ≡ Some t → ReadsOne G t r) → r ≡ number_of id (rows_of f)
  number_given only f id r none value = go (one_text f id) refl ∙ ap (option_and_then number_written) (one_text-rows f id)
    where
      go : (o : Option (List ℕ)) → one_text f id ≡ o → r ≡ option_and_then number_written o
      go None e = none e
      go (Some t) e = number_read only t r (value t e)

module _ (f : Found) (id : Text) where
  pub names_given : (o : Option (Bor (List (Bor Text)))) → id ≡ codes "APP" →
      option_map (λ s. map (λ v. v.now) s.now) o ≡ option_map raw_values (matched_of f id) →
      names_of (rows_of f) ≡ unwrap_or (option_map (λ s. texts s.now) o) []
  names_given o is given = grind (arith, raw_values-rows, all_of, rows_of)

  -- the source of an argument's value
  pub source_given : option_and_then (λ a. a.source) (matched_of f id)
      ≡ option_and_then (λ row. row.source) (find (λ row. bytes_eq row.id id) (rows_of f))
  source_given = go (find (λ (e : Entry). bytes_eq e.0.now id) f.entries.items)
      ∙ ap (option_and_then (λ (row : Row). row.source)) (find-map (λ (row : Row). bytes_eq row.id id) row_of f.entries.items)
    where
      go : (o : Option Entry) → option_and_then (λ a. a.source) (option_map (λ e. e.1) o) ≡ option_and_then (λ (row : Row). row.source)
          (option_map row_of o)
      go None = refl
      go (Some e) = refl
