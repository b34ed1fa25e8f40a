use Rattle.std.proofs.Common.{true, false, codes}
use Rattle.clap.specs.Words.{found_of}
use Rattle.mote_picture.proofs.CommandLine.{flag_given}
use Rattle.mote_picture.proofs.named.flag_in.Goals as goal

pub returns-clause-set : goal.returns-clause-set
returns-clause-set c =
    flag_given (found_of c.args.matches.now) c.args.flag.now (codes "true") c.get_flag.result true c.get_flag.ensures.value

pub returns-clause-unset : goal.returns-clause-unset
returns-clause-unset c =
    flag_given (found_of c.args.matches.now) c.args.flag.now (codes "false") c.get_flag.result false c.get_flag.ensures.other
