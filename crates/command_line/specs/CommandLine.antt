-- What the arguments name: what the parser makes of them, and which applications and sizes that is.
use Rattle.std.specs.Prelude.{◌≡◌, ◌<◌, ◌≤◌, ⊤, ℕ, Bool, pos, true, false, List, [], ◌∷◌, Option, Some, None, is_none, find, filter_map, length, codes, unwrap_or, option_and_then, bytes_eq, if◌then◌else◌}
use Rattle.std.specs.Str.Parse.{digits_value, without_leading_plus}
use Rattle.clap.specs.Lexer.{usize_max}
use Rattle.clap.specs.Words.{App, Row, Rule, Text, all_of, fault_of, kind_of, matches_of, new_app, new_rule, one_of, with_rule}
use Rattle.clap.specs.Kinds.{IsAmong}
use Rattle.clap.specs.Simple.{on_top}
pub use Rattle.clap.specs.Walk.{texts}
use Rattle.clap.specs.ValueTests.{is_unsigned_in}
use Rattle.clap.specs.declared.builder.action.ArgAction.{ArgAction}
use Rattle.clap.specs.declared.builder.value_parser.ValueParser.{ValueParser}
use Rattle.clap.specs.declared.error.Error.{Error}
use Rattle.clap.specs.declared.error.kind.ErrorKind.{ErrorKind}
use Rattle.clap.specs.declared.parser.matches.ValueSource.{ValueSource}
use Rattle.mote_types.specs.Limits.{most_applications}
use Rattle.node_memory.specs.declared.sizes.Sizes.{Sizes}
use Rattle.command_line.specs.declared.named.Named.{Named}
use Rattle.command_line.specs.declared.refusal.Refusal.{Refusal}

-- ---- the command line, as the parser knows it

-- `--NAME N`, with a number that this parser takes
abbrev pub number_option : Text → ValueParser → Rule
number_option name numbers = record (new_rule name) { long = Some name; value_names = 1; parser = Some numbers }

-- a flag `--NAME`
abbrev pub flag : Text → Rule
flag name = record (new_rule name) { long = Some name; action = Some ArgAction.SetTrue }

-- that number where the option isn't used
abbrev pub with_default : Text → Rule → Rule
with_default number rule = record rule { defaults = number ∷ [] }

-- the size of a region
abbrev pub size_option : Text → ValueParser → Rule
size_option name numbers = with_default (codes "4096") (number_option name numbers)

-- the numbers from `least` to 65,536
abbrev pub sizes_from : ℕ → ValueParser
sizes_from least = ValueParser.Signed (pos least) (pos 65536)

abbrev pub mmem_option : Rule
mmem_option = size_option (codes "mmem") (sizes_from 4)

abbrev pub heap_option : Rule
heap_option = size_option (codes "heap") (sizes_from 20)

abbrev pub quota_option : Rule
quota_option = number_option (codes "quota") (sizes_from 4)

-- any number of 32 bits: whether it is one that a mote has is seen later
abbrev pub header_option : Rule
header_option = with_default (codes "16") (number_option (codes "header") (ValueParser.Signed (pos 0) (pos 4294967295)))

abbrev pub quiet_flag : Rule
quiet_flag = flag (codes "quiet")

-- any number of names
abbrev pub names_argument : Rule
names_argument = record (new_rule (codes "APP")) { range = Some (record { start_inclusive = 0; end_inclusive = usize_max }) }

-- a command that also takes the options for sizes
abbrev pub with_sizes : App → App
with_sizes app = with_rule (with_rule (with_rule (with_rule app mmem_option) heap_option) quota_option) header_option

-- it has a version; the parser itself adds the options for it and for the help
abbrev pub versioned : Text → App
versioned name = on_top (λ shape. record shape { has_version = true }) (new_app name)

-- that of a program of this name
abbrev pub program : Text → App
program name = with_rule (with_rule (with_sizes (versioned name)) quiet_flag) names_argument

-- what the parser finds of each argument, where it accepts them: the same whatever the program's name is, so here it has none
unfoldable pub matches_in : List Text → List Row
matches_in words = matches_of (program []) words

-- why it doesn't accept them: the kind of the first mistake, or of the help or the version that they ask for; nothing where
-- it accepts them
unfoldable pub errors_in : List Text → List ErrorKind
errors_in words = fault_of (program []) words

-- ---- what the parser finds, by the rows

abbrev pub names_of : List Row → List Text
names_of rows = unwrap_or (all_of (codes "APP") rows) []

-- the number that a text writes, if it writes one of 32 bits
abbrev pub number_written : Text → Option ℕ
number_written text = if is_unsigned_in 0 4294967295 text then Some (digits_value 10 (without_leading_plus text)) else None

-- the number of an option, if it has one
abbrev pub number_of : Text → List Row → Option ℕ
number_of option rows = option_and_then number_written (one_of option rows)

-- the number of an option that has a default
abbrev pub size_of : Text → List Row → ℕ
size_of option rows = unwrap_or (number_of option rows) 0

-- the sizes of memory; each process has a quota where one is named
abbrev pub sizes_of : List Row → Sizes
sizes_of rows =
    record {
      mmem = size_of (codes "mmem") rows;
      heap = size_of (codes "heap") rows;
      header = size_of (codes "header") rows;
      quota = number_of (codes "quota") rows;
    }

abbrev pub is_in_words : Option ValueSource → Bool
is_in_words (Some ValueSource.CommandLine) = true
is_in_words _ = false

-- the flag is among the arguments
abbrev pub is_quiet : List Row → Bool
is_quiet rows = is_in_words (option_and_then (λ row. row.source) (find (λ row. bytes_eq row.id (codes "quiet")) rows))

abbrev pub is_request : ErrorKind → Bool
is_request ErrorKind.DisplayHelp = true
is_request ErrorKind.DisplayVersion = true
is_request _ = false

-- the arguments ask for the help or the version
abbrev pub AsksForText : List Text → Type 0
AsksForText words = (kind : ErrorKind) × IsAmong kind (errors_in words) × (is_request kind ≡ true)

-- by the table of a program's applications, which has the one of each name
module _ {A : Type 0} (by_name : Text → Option A) where
  -- ---- which applications the names are

  -- no application has this name
  abbrev pub is_unknown : Text → Bool
  is_unknown name = is_none (by_name name)

  -- the applications of these names, each as it is before its first turn
  abbrev pub applications_of : List Text → List A
  applications_of = filter_map by_name

  -- what these names may be refused with: the first that is unknown, then their number
  abbrev pub RefusesNames : List Text → Refusal → Type 0
  RefusesNames names (Refusal.NoApplication name) = find is_unknown names ≡ Some name.now
  RefusesNames names Refusal.TooManyApplications = (find is_unknown names ≡ None) × (most_applications < length names)
  RefusesNames names _ = ⊥

  -- ---- what the arguments name

  -- the applications in the order of their names, the sizes, and whether the transcript is a quiet one
  unfoldable pub named_in : List Text → Named A
  named_in words =
      record {
        applications = record { items = applications_of (names_of (matches_in words)) };
        sizes = sizes_of (matches_in words);
        quiet = is_quiet (matches_in words);
      }

  -- the parser accepts the arguments, each name is an application's, and there are not too many
  pub record NamesApplications (words : List Text) : Type 0 where
    pub taken : errors_in words ≡ []
    pub known : find is_unknown (names_of (matches_in words)) ≡ None
    pub few : length (names_of (matches_in words)) ≤ most_applications

  -- what arguments may be refused with: each refusal under its own condition, of which no two hold at once; and refused memory
  abbrev pub Refuses : List Text → Refusal → Type 0
  Refuses words (Refusal.Request text) = IsAmong (kind_of text.error) (errors_in words) × (is_request (kind_of text.error) ≡ true)
  Refuses words (Refusal.Words text) = IsAmong (kind_of text.error) (errors_in words) × (is_request (kind_of text.error) ≡ false)
  Refuses words Refusal.OutOfMemory = ⊤
  Refuses words refusal = (errors_in words ≡ []) × RefusesNames (names_of (matches_in words)) refusal

-- ---- the refusal by the kind of what the parser found

abbrev pub refusal_by : ErrorKind → Error → Refusal
refusal_by ErrorKind.OutOfMemory error = Refusal.OutOfMemory
refusal_by ErrorKind.DisplayHelp error = Refusal.Request (record { error = error })
refusal_by ErrorKind.DisplayVersion error = Refusal.Request (record { error = error })
refusal_by _ error = Refusal.Words (record { error = error })

abbrev pub refusal_in_words : Error → Refusal
refusal_in_words error = refusal_by (kind_of error) error
