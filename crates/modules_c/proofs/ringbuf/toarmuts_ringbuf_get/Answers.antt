use Rattle.modules_c.proofs.RingbufTurns.{got_first}
use Rattle.modules_c.proofs.ringbuf.toarmuts_ringbuf_get.Goals as goal

pub returns-clause-queue : goal.returns-clause-queue
returns-clause-queue c done =
    let ring = c.is_ring.ensures.0 c.if-not-is_ring.false in
    got_first c.args.bytes.now c.args.put c.args.get.now c.next.result ring.put_inside ring.get_inside c.next.ensures.within
    c.next.ensures.around c.if-put-get.false
