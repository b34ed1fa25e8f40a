use Rattle.std.proofs.Common.{◌≡◌, length, ap, arith}
use Rattle.std.proofs.lemmas.Grind.{common_steps}
use Rattle.std.specs.VecDeque.{deque_len}
use Rattle.medium_core.specs.Code.Queue.{Queue}
use Rattle.medium_core.proofs.Merging.{length_all}
use Rattle.medium_core.proofs.flights.Flights.free.Goals as goal

pub returns : goal.returns
returns c =
    let count : deque_len c.self.inside.queue ≡ length c.self.inside.queue.items = grind (arith, common_steps) in
    let all = length_all c.self.inside.overtaking.flights c.self.inside.queue.items in
    omega (arith, c.len.ensures, c.len-2.ensures, count, all, ap (λ (q : Queue). q.room) c.self.view_is, ap (λ (q : Queue). length q.flights) c.self.view_is)
