use Rattle.modules_c.proofs.RingbufTurns.{put_behind}
use Rattle.modules_c.proofs.ringbuf.toarmuts_ringbuf_put.Goals as goal

pub returns-clause-queue : goal.returns-clause-queue
returns-clause-queue c done =
    let ring = c.is_ring.ensures.0 c.if-not-is_ring.false in
    put_behind c.args.bytes.now c.args.put.now c.args.get c.args.byte c.next-following.result ring.put_inside ring.get_inside
    c.next-following.ensures.within c.next-following.ensures.around c.if-following-get.false
