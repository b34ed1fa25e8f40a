-- What the parser makes of the arguments.
use Rattle.std.specs.Prelude.{◌≡◌, ◌⊎◌, ◌-◌, ◌^◌, false, List, [], codes}
use Rattle.clap.specs.Simple.{App, matches_of, with_rule}
use Rattle.clap.specs.Walk.{Row, Rule, Text}
use Rattle.clap.specs.declared.builder.value_parser.ValueParser.{ValueParser}
use Rattle.clap.specs.declared.error.Error.{Error}
use Rattle.command_line.specs.CommandLine.{flag, names_argument, number_option, refusal_in_words, versioned, with_default, with_sizes}
use Rattle.command_line.specs.Statuses.{failure_in_words, out_of_memory}
use Rattle.command_line.specs.declared.failure.Failure.{Failure}

-- a number of 64 bits
abbrev pub clock_option : Text → Rule
clock_option name = number_option name (ValueParser.Unsigned 0 (2 ^ 64 - 1))

abbrev pub from_option : Rule
from_option = with_default (codes "0") (clock_option (codes "from"))

abbrev pub to_option : Rule
to_option = clock_option (codes "to")

-- a command that also takes the part of the run that is shown
abbrev pub with_range : App → App
with_range app = with_rule (with_rule app from_option) to_option

-- the flag for a page, which depends on another argument
abbrev pub page_flag : Rule
page_flag = record (flag (codes "page")) { is_free = false }

-- the program of this name
abbrev pub program : Text → App
program name =
    with_rule (with_rule (with_rule (with_rule (with_range (with_sizes (versioned name))) (flag (codes "unfolded"))) page_flag)
    (flag (codes "vcd"))) names_argument

-- what the parser finds of each argument, where it accepts them: the same whatever the program's name is, so here it has none
unfoldable pub matches_in : List Text → List Row
matches_in words = matches_of (program []) words

-- what is reported where the parser finds a mistake, or that a text is asked for, or has no memory
abbrev pub IsByParser : Failure → Type 0
IsByParser failure = (failure ≡ out_of_memory) ⊎ ((error : Error) × (failure ≡ failure_in_words (refusal_in_words error)))
