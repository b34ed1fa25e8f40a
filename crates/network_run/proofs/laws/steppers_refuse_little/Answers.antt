use Rattle.network_run.proofs.Steppers.{input_refused, next_refused, stops_refused}
use Rattle.network_run.proofs.laws.steppers_refuse_little.Goals as goal

pub returns : goal.returns
returns c = record { next = next_refused; step = stops_refused; input = input_refused }
