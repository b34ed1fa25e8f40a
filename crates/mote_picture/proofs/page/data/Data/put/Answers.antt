use Rattle.mote_picture.specs.Data.{IsHarmless}
use Rattle.mote_picture.proofs.Harmless.{grown}
use Rattle.mote_picture.proofs.page.data.Data.put.Goals as goal

pub invariant_of-self : goal.invariant_of-self
invariant_of-self c =
    let harmless : IsHarmless c.as_bytes.result.now = record { no_opening = rw c.as_bytes.ensures.value c.requires } in
    grown _ _ _ _ c.extend_from_slice.ensures.items c.self.invariant harmless
