use Rattle.memb_core.proofs.Lemmas.{◌-◌, length, list_of, IsWalked}
use Rattle.memb_core.proofs.lists.Lists.numbers.Given as goal

abbrev pub invariant-loop-link : goal.invariant-loop-link
invariant-loop-link l = IsWalked l.link l.numbers.items (list_of l.fn.name l.self l.pool l.arena.bytes)

abbrev pub decreases-loop-link : goal.decreases-loop-link
decreases-loop-link l = 16 - length l.numbers.items
