use Rattle.mote_picture.specs.Data.{IsHarmless}
use Rattle.mote_picture.proofs.Harmless.{grown}
use Rattle.mote_picture.proofs.page.data.Data.append.Goals as goal

pub invariant_of-self : goal.invariant_of-self
invariant_of-self c =
    let harmless : IsHarmless c.as_slice.result.now = rw c.as_slice.ensures.value c.other.invariant in
    grown _ _ _ _ c.extend_from_slice.ensures.items c.self.invariant harmless
