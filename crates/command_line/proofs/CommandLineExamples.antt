-- Examples: what arguments, names and numbers mean.
use Rattle.std.proofs.Common.{◌≡◌, ◌<◌, ◌⊎◌, ℕ, List, true, false, ◌∷◌, map, codes, refl, sym, ap, arith, length, replicate, Option, Some, None, bytes_eq, find, if◌then◌else◌, []}
use denote.Ref.{Bor}
use Rattle.clap.specs.Words.{kind_of}
use Rattle.command_line.proofs.Common.{applications_of, is_in_words, is_unknown, names_of, number_written, RefusesNames}
use Rattle.clap.specs.declared.error.kind.ErrorKind.{ErrorKind}
use Rattle.clap.specs.declared.parser.matches.ValueSource.{ValueSource}
use Rattle.command_line.specs.CommandLine.{AsksForText, NamesApplications, Refuses, errors_in, is_request, matches_in}
use Rattle.command_line.specs.declared.refusal.ParserText.{ParserText}
use Rattle.command_line.specs.declared.refusal.Refusal.{Refusal}

-- a table of two applications
abbrev table : List ℕ → Option ℕ
table name = if bytes_eq name (codes "blink") then Some 1 else if bytes_eq name (codes "echo") then Some 2 else None

names : (applications_of table (codes "blink" ∷ codes "echo" ∷ codes "blink" ∷ []) ≡ 1 ∷ 2 ∷ 1 ∷ [])
    × (find (is_unknown table) (codes "blink" ∷ codes "echo" ∷ []) ≡ None)
    × (find (is_unknown table) (codes "echo" ∷ codes "hullo" ∷ codes "blank" ∷ []) ≡ Some (codes "hullo"))
names = (refl, refl, refl)

numbers : map number_written (codes "65536" ∷ codes "4294967296" ∷ codes "4k" ∷ []) ≡ Some 65536 ∷ None ∷ None ∷ []
numbers = refl

requests : map is_request (ErrorKind.DisplayHelp ∷ ErrorKind.DisplayVersion ∷ ErrorKind.UnknownArgument ∷ []) ≡ true ∷ true ∷ false ∷ []
requests = refl

used_in_words : map is_in_words (Some ValueSource.CommandLine ∷ Some ValueSource.DefaultValue ∷ []) ≡ true ∷ false ∷ []
used_in_words = refl

seventeen_names : RefusesNames table (replicate 17 (codes "echo")) Refusal.TooManyApplications
seventeen_names = (refl, omega arith)

-- not for sixteen names; an unknown name is reported before too many, and only then
no_reason : RefusesNames table (replicate 16 (codes "echo")) Refusal.TooManyApplications
    ⊎ RefusesNames table (codes "hullo" ∷ replicate 16 (codes "echo")) Refusal.TooManyApplications
    ⊎ RefusesNames table (codes "hullo" ∷ []) Refusal.OutOfMemory → ⊥
no_reason refused = grind arith

module _ (words : List (List ℕ)) where
  no_text_where_none_is_asked_for : AsksForText words → errors_in words ≡ [] → ⊥
  no_text_where_none_is_asked_for asks none = rw none at asks.1

  no_text_for_a_mistake : (asks : AsksForText words) → asks.0 ≡ ErrorKind.UnknownArgument → ⊥
  no_text_for_a_mistake asks is = grind arith

  found_before_number : Refuses table words Refusal.TooManyApplications → errors_in words ≡ []
  found_before_number refused = refused.0

  too_many : Refuses table words Refusal.TooManyApplications → 16 < length (names_of (matches_in words))
  too_many refused = refused.1.1

  none_wrong : NamesApplications table words → errors_in words ≡ []
  none_wrong names = names.taken

  none_unknown : (name : List ℕ) → NamesApplications table words → find (is_unknown table) (names_of (matches_in words)) ≡ Some name → ⊥
  none_unknown name names unknown = grind arith

  sixteen_at_most : NamesApplications table words → length (names_of (matches_in words)) ≡ 17 → ⊥
  sixteen_at_most names many = grind arith

  module _ (text : ParserText) where
    a_mistake : Refuses table words (Refusal.Words text) → is_request (kind_of text.error) ≡ true → ⊥
    a_mistake refused asked = absurd (cc)

    a_mistake_that_was_found : Refuses table words (Refusal.Words text) → errors_in words ≡ [] → ⊥
    a_mistake_that_was_found refused none = rw none at refused.0

    a_text : Refuses table words (Refusal.Request text) → AsksForText words
    a_text refused = (kind_of text.error, refused.0, refused.1)

  module _ (name : Bor (List ℕ)) where
    found_before_names : Refuses table words (Refusal.NoApplication name) → errors_in words ≡ []
    found_before_names refused = refused.0

    refused_by_its_name : Refuses table words (Refusal.NoApplication name)
        → find (is_unknown table) (names_of (matches_in words)) ≡ Some name.now
    refused_by_its_name refused = refused.1

module _ (name : Bor (List ℕ)) where
  refused_by_name : name.now ≡ codes "hullo"
      → RefusesNames table (codes "echo" ∷ codes "hullo" ∷ []) (Refusal.NoApplication name)
  refused_by_name is = ap Some (sym is)

  a_known_name : RefusesNames table (codes "echo" ∷ []) (Refusal.NoApplication name) → ⊥
  a_known_name refused = absurd (cc)
