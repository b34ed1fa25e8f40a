use Rattle.std.proofs.Common.{◌≡◌, refl}
use Rattle.pictures.specs.Dump.{time_line}
use Rattle.pictures.specs.Dump.AreChanges.{later}
use Rattle.pictures.proofs.dump.values.Dump.go_to.Goals as goal

pub invariant_of-self-2 : goal.invariant_of-self-2
invariant_of-self-2 c =
    let same : c.as_slice.result.now ≡ time_line c.args.time =
    rw (c.as_slice.ensures.value, c.in_ok-push_time.ensures, c.new-line.ensures.items) refl in
    rw (c.in_ok-extend_from_slice.ensures.items, same) (later c.self.invariant c.args.time c.if-time-self.false)
