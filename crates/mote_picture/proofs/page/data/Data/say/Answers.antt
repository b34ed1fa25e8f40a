use Rattle.std.proofs.Common.{◌≡◌, refl}
use Rattle.mote_picture.specs.Data.{IsHarmless, json_string}
use Rattle.mote_picture.proofs.Harmless.{grown, json_string-harmless}
use Rattle.mote_picture.proofs.page.data.Data.say.Goals as goal

pub invariant_of-self : goal.invariant_of-self
invariant_of-self c =
    let same : c.as_slice.result.now ≡ json_string c.args.text.now =
    rw (c.as_slice.ensures.value, c.in_ok-push_string.ensures, c.new-more.ensures.items, c.as_bytes.ensures.value) refl in
    let harmless : IsHarmless c.as_slice.result.now = rw same (json_string-harmless c.args.text.now) in
    grown _ _ _ _ c.extend_from_slice.ensures.items c.self.invariant harmless
