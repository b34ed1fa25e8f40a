use Rattle.command_line.proofs.ReadNames.{HasRead}
use Rattle.command_line.proofs.named.read_names.Given as goal

abbrev pub invariant-loop-name : goal.invariant-loop-name
invariant-loop-name g l = HasRead g.T.FromName.by_name l.names l.name-index l.applications.items
