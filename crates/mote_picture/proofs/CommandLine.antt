-- The command line of the parser is a simple one; what the getter reads of a flag.
use Rattle.std.proofs.Common.{◌≡◌, ◌∙◌, Bool, true, Some, List, refl}
use Rattle.clap.specs.Matches.{one_text}
use Rattle.clap.specs.Simple.{is_simple, matches_of}
use Rattle.clap.specs.Walk.{Text, one_of, rows_of}
use Rattle.clap.specs.declared.parser.matches.Found.{Found}
use Rattle.clap.proofs.OnLiterals.{clap_on_literals}
use Rattle.clap.proofs.WalkLemmas.{one_text-rows}
use Rattle.mote_picture.specs.CommandLine.{matches_in, program}

module _ (name : Text) where
  pub program_is_simple : is_simple (program name) ≡ true
  unfolding clap_on_literals
  program_is_simple = refl

  pub matches_in_is : (words : List Text) → matches_in words ≡ matches_of (program name) words
  unfolding matches_in
  matches_in_is words = refl

-- a text that is stored for a flag is the one that is read
pub flag_given : (found : Found) (flag text : Text) (value is : Bool) → (one_text found flag ≡ Some text → value ≡ is)
    → one_of flag (rows_of found) ≡ Some text → value ≡ is
flag_given found flag text value is given stored = given (one_text-rows found flag ∙ stored)
