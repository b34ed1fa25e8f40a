use Rattle.std.proofs.Common.{◌∙◌, refl, add-one, arith}
use Rattle.medium_core.proofs.Room.{OneSent, after_sent, flights_sent, left_sent, room_same}
use Rattle.medium_core.proofs.medium.send_over.Goals as goal

pub loop-link-preserved : goal.loop-link-preserved
loop-link-preserved c =
    let h = c.loop-link.invariant in
    let sent : OneSent c.args.clock c.args.from c.args.bytes.now c.args.links.now c.loop-link.links c.loop-link.link-index c.loop-link.position _ _
    c.send_over_one.new.link c.loop-link.flights c.send_over_one.new.flights = record {
      within = omega (arith, c.loop-link-test.true, c.loop-link.auto.links);
      here = refl;
      left = h.left;
      same = h.position;
      used = c.send_over_one.ensures.link;
      spread = c.send_over_one.ensures.flights;
    } in
    rw (add-one c.loop-link.link-index) (record {
      position = omega (arith, h.position);
      room = room_same _ _ _ _ _ _ _ _ _ _ _ _ sent ∙ h.room;
      after = after_sent _ _ _ _ _ _ _ _ _ _ _ _ sent ∙ h.after;
      left = left_sent _ _ _ _ _ _ _ _ _ _ _ _ sent;
      flights = flights_sent _ _ _ _ _ _ _ _ _ _ _ _ sent ∙ h.flights;
    })
