use Rattle.std.proofs.Common.{◌∙◌, ap, unwrap_or}
use Rattle.std.specs.Str.Parse.{ExplainsUnsignedError, HasUnsignedDigitsIfOk, ParsesUnsigned}
use Rattle.clap.specs.Words.{found_of}
use Rattle.mote_picture.proofs.Clocks.{clock_given}
use Rattle.mote_picture.proofs.named.clock_in.Goals as goal

pub returns : goal.returns
returns c =
    c.unwrap_or.ensures ∙ ap (λ clock. unwrap_or clock c.args.otherwise) (clock_given _ (λ text number. ParsesUnsigned 64 10 text number
    × ExplainsUnsignedError 10 text number × HasUnsignedDigitsIfOk text number)
    (λ text number read. read.0) (found_of c.args.matches.now) c.args.option.now c.get_one.result c.get_one.ensures.none
    c.get_one.ensures.value)
