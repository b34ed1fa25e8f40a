use Rattle.process_core.proofs.Lemmas.{drop, length, sym, ap, arith, finds_from, from_marked, polls_yield, polls_end, first_and_rest, length-from_marked, if_none}
use Rattle.process_core.proofs.scheduler_fields.SchedulerFields.resume_below.Goals as goal

pub returns-in-Some-clause-finds : goal.returns-in-Some-clause-finds
returns-in-Some-clause-finds c =
    let left = from_marked c.args.self.now.processes c.args.self.now.polls in
    finds_from
    (polls_yield c.args.self.now (drop 1 left) c.in-Some.pid.0 _ _ c.requires.bare
    (first_and_rest left c.in-Some.pid.0 (sym c.in-Some.ensures.next)))
    (rw c.in-Some.ensures.rest at c.poll_one.ensures.finds)

pub returns-in-Some-clause-falls : goal.returns-in-Some-clause-falls
returns-in-Some-clause-falls c =
    let left = from_marked c.args.self.now.processes c.args.self.now.polls in
    rw (c.poll_one.ensures.kept, c.in-Some.ensures.rest)
    (if_none c.poll_one.result (omega (
      arith,
      length-from_marked c.args.self.now.processes c.args.self.now.polls,
      ap length
          (first_and_rest left c.in-Some.pid.0 (sym c.in-Some.ensures.next)),
    )))

pub returns-in-Nothing-clause-finds : goal.returns-in-Nothing-clause-finds
returns-in-Nothing-clause-finds c =
    polls_end c.args.self.now c.next_marked.new.self c.requires.bare c.in_default.ensures.next c.in_default.ensures.rest
    (c.begin_round.ensures c.args.stimulus.now)

pub returns-then-find_boot-clause-finds : goal.returns-then-find_boot-clause-finds
returns-then-find_boot-clause-finds c =
    polls_end c.args.self.now c.next_marked.new.self c.requires.bare c.in_default.ensures.next c.in_default.ensures.rest
    (rw c.if-find_boot.true at c.find_boot.ensures.finds)

pub returns-else-find_boot-clause-finds : goal.returns-else-find_boot-clause-finds
returns-else-find_boot-clause-finds c =
    polls_end c.args.self.now c.next_marked.new.self c.requires.bare c.in_default.ensures.next c.in_default.ensures.rest
    (rw c.if-find_boot.false at c.find_boot.ensures.finds)

pub returns-in-Deliver-clause-finds : goal.returns-in-Deliver-clause-finds
returns-in-Deliver-clause-finds c =
    polls_end c.args.self.now c.next_marked.new.self c.requires.bare c.in_default.ensures.next c.in_default.ensures.rest
    (c.resume_deliver.ensures.finds c.args.stimulus.now)

pub returns-in-Broadcast-clause-finds : goal.returns-in-Broadcast-clause-finds
returns-in-Broadcast-clause-finds c =
    polls_end c.args.self.now c.next_marked.new.self c.requires.bare c.in_default.ensures.next c.in_default.ensures.rest
    (c.resume_broadcast.ensures.finds c.args.stimulus.now)
