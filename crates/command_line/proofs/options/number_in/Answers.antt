use Rattle.command_line.proofs.Common.{ParsesUnsigned, found_of}
use Rattle.std.specs.Str.Parse.{ExplainsUnsignedError, HasUnsignedDigitsIfOk}
use Rattle.command_line.proofs.Matches.{number_given}
use Rattle.command_line.proofs.options.number_in.Goals as goal

pub returns : goal.returns
returns c =
    number_given _ (λ text number. ParsesUnsigned 32 10 text number × ExplainsUnsignedError 10 text number
    × HasUnsignedDigitsIfOk text number)
    (λ text number read. read.0) (found_of c.args.matches.now) c.args.option.now c.get_one.result c.get_one.ensures.none
    c.get_one.ensures.value
