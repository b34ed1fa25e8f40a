use Rattle.std.proofs.Common.{◌≡◌, ◌++◌, refl}
use Rattle.pictures.specs.Dump.{AreChanges, value_line}
use Rattle.pictures.specs.Dump.AreChanges.{set}
use Rattle.pictures.proofs.Growing.{grown}
use Rattle.pictures.proofs.dump.values.Dump.set.Goals as goal

pub invariant_of-self : goal.invariant_of-self
invariant_of-self c =
    let same : c.as_slice.result.now ≡ value_line c.args.value c.args.signal =
    rw (c.as_slice.ensures.value, c.in_ok-push_value.ensures, c.new-line.ensures.items) refl in
    let whole : AreChanges c.self.inside.first c.self.inside.last (c.self.inside.bytes.items ++ c.as_slice.result.now) =
    rw same (set c.self.invariant c.args.value c.args.signal c.requires) in
    grown _ _ _ _ _ _ c.extend_from_slice.ensures.items c.self.invariant whole
