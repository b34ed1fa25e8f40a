use Rattle.pictures.specs.Dump.AreChanges.{begun}
use Rattle.pictures.proofs.dump.values.Dump.new.Goals as goal

pub invariant_of-result : goal.invariant_of-result
invariant_of-result c = rw (c.in_ok-push_time.ensures, c.new-bytes.ensures.items) (begun c.args.time)
