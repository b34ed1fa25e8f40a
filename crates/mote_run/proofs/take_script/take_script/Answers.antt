use Rattle.std.proofs.Common.{rules, ◌≤◌, ◌+◌, ◌-◌, ◌∙◌, ℕ, refl, sym, arith, []}
use Rattle.std.proofs.lemmas.List.{nil_from_length}
use Rattle.mote_run.proofs.Common.{append-nil, End, inputs, start}
use Rattle.mote_run.proofs.Pieces.{not_read}
use Rattle.mote_run.proofs.LoopInvariant.{come_refilled, failed, few_come, finished, goes_on_so, nothing_read, read_while_running, too_long, wrote_whole_lines}
use Rattle.mote_run.proofs.Ways.{went_further, went_on, went_written}
use Rattle.mote_run.proofs.take_script.take_script.Goals as goal

-- one read stays within the limit
within_limit : {taken before after : ℕ} → taken ≤ 16777216 → taken + before ≤ 16777217
    → (before ≤ 16777217 - taken → after ≤ 16777217 - taken) → taken + after ≤ 16777217
within_limit limit few more = grind arith

pub returns-in_err-settle-clause-ran : goal.returns-in_err-settle-clause-ran
returns-in_err-settle-clause-ran g c = λ s k. (
  [],
  sym (append-nil _),
  failed (c.in_err-settle.ensures.goes k).3 c.from_residual.ensures.0 (λ more limits. (inputs more, refl))
      (not_read c.from_residual.result c.from_residual.ensures.1),
)

pub part-init : goal.part-init
part-init g c = record {
  has_come = record {
    read = [];
    earlier = [];
    taken = λ s. sym (append-nil _);
    so_far = grind (arith, start);
    went = c.in_ok-settle.ensures.goes;
  };
  no_further = λ s k. nothing_read;
  boxes = search rules;
  closed = search rules;
  still = search rules;
  clock = search rules;
  inputs = search rules;
  ready = grind arith;
  few = grind arith;
  unended = search rules;
  reads = search rules;
  writes = search rules;
}

pub returns-then-halted-clause-ran : goal.returns-then-halted-clause-ran
returns-then-halted-clause-ran g c = λ s k.
    let i = c.part.invariant.has_come in (
      i.read,
      i.taken s,
      finished (i.went k) End.Halted c.part.invariant.still
          (λ more limits. let l = goes_on_so i.so_far more in (l.0, l.1, λ no. cc)) (rw (sym c.halted.ensures ∙ c.if-halted.true) refl),
    )

pub returns-in_err-refill-clause-ran : goal.returns-in_err-refill-clause-ran
returns-in_err-refill-clause-ran g c = λ s k.
    let i = c.part.invariant.has_come in (
      i.read,
      c.in_err-refill.ensures.nothing_taken s ∙ i.taken s,
      failed (went_further (i.went k) (went_written (c.in_err-refill.ensures.writes k).1)) c.from_residual-in_err-refill.ensures.0
          (λ more limits. goes_on_so i.so_far more)
          (λ failed. wrote_whole_lines i.so_far c.part.invariant.ready.endless c.part.invariant.ready.few
          (went_further (i.went k) (went_written (c.in_err-refill.ensures.written_first
          (grind (arith, c.from_residual-in_err-refill.ensures.1)) k))) c.part.invariant.still refl
          (nil_from_length c.part.script.piece c.in_err-refill.ensures.used_up)),
    )

pub returns-then-is_empty-clause-ran : goal.returns-then-is_empty-clause-ran
returns-then-is_empty-clause-ran g c = λ s k.
    let i = come_refilled c.part.invariant.has_come c.in_ok-refill.ensures.taken c.in_ok-refill.ensures.writes in (
      i.read,
      i.taken s,
      rw (c.in_ok-refill.ensures.ended, ← c.is_empty.ensures, c.if-is_empty.true)
          (c.take_end.ensures.ran k i.read i.earlier _ i.so_far (i.went k)),
    )

pub returns-then-script-eq-LIMIT-clause-ran : goal.returns-then-script-eq-LIMIT-clause-ran
returns-then-script-eq-LIMIT-clause-ran g c = λ s k.
    let i = come_refilled c.part.invariant.has_come c.in_ok-refill.ensures.taken c.in_ok-refill.ensures.writes in (
      i.read,
      i.taken s,
      finished (i.went k) End.TooLong c.part.invariant.still (λ more limits. (
        ([], End.TooLong),
        rw append-nil (too_long i.so_far c.part.invariant.ready.endless c.part.invariant.ready.few c.if-script-eq-LIMIT.true
            (sym c.is_empty.ensures ∙ c.if-is_empty.false) more),
        λ _. refl,
      )) (rw (sym c.halted.ensures ∙ c.if-halted.false) refl),
    )

pub returns-in_err-feed-in-Ok-true-clause-ran : goal.returns-in_err-feed-in-Ok-true-clause-ran
returns-in_err-feed-in-Ok-true-clause-ran g c = λ s k.
    let i = come_refilled c.part.invariant.has_come c.in_ok-refill.ensures.taken c.in_ok-refill.ensures.writes in (
      i.read,
      i.taken s,
      failed (went_on (i.went k) (c.in_err-feed-in-Ok-true.ensures.goes k).3)
          c.from_residual-in_err-feed-in-Ok-true.ensures.0
          (λ more limits. goes_on_so ((rw c.in-Ok-true.field-0-test at c.in-Ok-true.ensures.takes) i.read i.earlier i.so_far) more)
          (not_read c.from_residual-in_err-feed-in-Ok-true.result
          c.from_residual-in_err-feed-in-Ok-true.ensures.1),
    )

pub returns-in-Err-clause-ran : goal.returns-in-Err-clause-ran
returns-in-Err-clause-ran g c = λ s k.
    let i = come_refilled c.part.invariant.has_come c.in_ok-refill.ensures.taken c.in_ok-refill.ensures.writes in (
      i.read,
      i.taken s,
      finished (i.went k) _ c.part.invariant.still (λ more limits. (
        ([], End.BadLine c.take.new.self.reader.number),
        rw append-nil (c.in-Err.ensures.takes i.read i.earlier i.so_far more),
        λ _. refl,
      )) (rw (sym c.halted.ensures ∙ c.if-halted.false) refl),
    )

pub returns-in_err-settle-clause-no_further : goal.returns-in_err-settle-clause-no_further
returns-in_err-settle-clause-no_further g c = λ s k. nothing_read

pub returns-then-halted-clause-no_further : goal.returns-then-halted-clause-no_further
returns-then-halted-clause-no_further g c = c.part.invariant.no_further

pub returns-in_err-refill-clause-no_further : goal.returns-in_err-refill-clause-no_further
returns-in_err-refill-clause-no_further g c = λ s k. rw (c.in_err-refill.ensures.nothing_taken s) (c.part.invariant.no_further s k)

pub returns-then-is_empty-clause-no_further : goal.returns-then-is_empty-clause-no_further
returns-then-is_empty-clause-no_further g c = λ s k.
    read_while_running c.part.invariant.has_come s k c.part.invariant.still (sym c.halted.ensures ∙ c.if-halted.false)
    c.part.invariant.ready c.in_ok-refill.ensures.taken c.in_ok-refill.ensures.piece_limit c.in_ok-refill.ensures.left
    (c.part.invariant.no_further s k)

pub returns-then-script-eq-LIMIT-clause-no_further : goal.returns-then-script-eq-LIMIT-clause-no_further
returns-then-script-eq-LIMIT-clause-no_further g c = λ s k.
    read_while_running c.part.invariant.has_come s k c.part.invariant.still (sym c.halted.ensures ∙ c.if-halted.false)
    c.part.invariant.ready c.in_ok-refill.ensures.taken c.in_ok-refill.ensures.piece_limit c.in_ok-refill.ensures.left
    (c.part.invariant.no_further s k)

pub returns-in_err-feed-in-Ok-true-clause-no_further : goal.returns-in_err-feed-in-Ok-true-clause-no_further
returns-in_err-feed-in-Ok-true-clause-no_further g c = λ s k.
    read_while_running c.part.invariant.has_come s k c.part.invariant.still (sym c.halted.ensures ∙ c.if-halted.false)
    c.part.invariant.ready c.in_ok-refill.ensures.taken c.in_ok-refill.ensures.piece_limit c.in_ok-refill.ensures.left
    (c.part.invariant.no_further s k)

pub returns-in-Err-clause-no_further : goal.returns-in-Err-clause-no_further
returns-in-Err-clause-no_further g c = λ s k.
    read_while_running c.part.invariant.has_come s k c.part.invariant.still (sym c.halted.ensures ∙ c.if-halted.false)
    c.part.invariant.ready c.in_ok-refill.ensures.taken c.in_ok-refill.ensures.piece_limit c.in_ok-refill.ensures.left
    (c.part.invariant.no_further s k)

pub returns-then-halted-clause-few : goal.returns-then-halted-clause-few
returns-then-halted-clause-few g c = few_come c.part.invariant.has_come c.part.invariant.few

pub returns-in_err-refill-clause-few : goal.returns-in_err-refill-clause-few
returns-in_err-refill-clause-few g c = λ s.
    rw (c.in_err-refill.ensures.nothing_taken s) (few_come c.part.invariant.has_come c.part.invariant.few s)

pub returns-then-is_empty-clause-few : goal.returns-then-is_empty-clause-few
returns-then-is_empty-clause-few g c =
    few_come (come_refilled c.part.invariant.has_come c.in_ok-refill.ensures.taken c.in_ok-refill.ensures.writes)
    (within_limit c.part.invariant.ready.few c.part.invariant.few c.in_ok-refill.ensures.few)

pub returns-then-script-eq-LIMIT-clause-few : goal.returns-then-script-eq-LIMIT-clause-few
returns-then-script-eq-LIMIT-clause-few g c =
    few_come (come_refilled c.part.invariant.has_come c.in_ok-refill.ensures.taken c.in_ok-refill.ensures.writes)
    (within_limit c.part.invariant.ready.few c.part.invariant.few c.in_ok-refill.ensures.few)

pub returns-in_err-feed-in-Ok-true-clause-few : goal.returns-in_err-feed-in-Ok-true-clause-few
returns-in_err-feed-in-Ok-true-clause-few g c =
    few_come (come_refilled c.part.invariant.has_come c.in_ok-refill.ensures.taken c.in_ok-refill.ensures.writes)
    (within_limit c.part.invariant.ready.few c.part.invariant.few c.in_ok-refill.ensures.few)

pub returns-in-Err-clause-few : goal.returns-in-Err-clause-few
returns-in-Err-clause-few g c =
    few_come (come_refilled c.part.invariant.has_come c.in_ok-refill.ensures.taken c.in_ok-refill.ensures.writes)
    (within_limit c.part.invariant.ready.few c.part.invariant.few c.in_ok-refill.ensures.few)

pub feed-requires-clause-bytes : goal.feed-requires-clause-bytes
feed-requires-clause-bytes g c = (c.in-Ok-true.ensures.input c.in-Ok-true.field-0-test).0

pub feed-requires-clause-clock : goal.feed-requires-clause-clock
feed-requires-clause-clock g c = grind arith

pub part-preserved : goal.part-preserved
part-preserved g c =
    let i = come_refilled c.part.invariant.has_come c.in_ok-refill.ensures.taken c.in_ok-refill.ensures.writes in
    record {
      has_come = record {
        read = i.read;
        earlier = i.earlier;
        taken = i.taken;
        so_far = (rw c.in-Ok-false.field-0-test at c.in-Ok-false.ensures.takes) i.read i.earlier i.so_far;
        went = i.went;
      };
      no_further = λ s k.
          read_while_running c.part.invariant.has_come s k c.part.invariant.still (sym c.halted.ensures ∙ c.if-halted.false)
          c.part.invariant.ready c.in_ok-refill.ensures.taken c.in_ok-refill.ensures.piece_limit c.in_ok-refill.ensures.left
          (c.part.invariant.no_further s k);
      boxes = c.part.invariant.boxes;
      closed = c.part.invariant.closed;
      still = c.part.invariant.still;
      clock = omega (arith, c.in-Ok-false.ensures.some);
      inputs = omega (arith, c.in-Ok-false.ensures.some);
      ready = c.in-Ok-false.ensures.ready;
      few = grind arith;
      unended = grind arith;
      reads = search rules;
      writes = search rules;
    }

pub part-preserved-in-Continue-branch-3 : goal.part-preserved-in-Continue-branch-3
part-preserved-in-Continue-branch-3 g c =
    let i = come_refilled c.part.invariant.has_come c.in_ok-refill.ensures.taken c.in_ok-refill.ensures.writes in
    record {
      has_come = record {
        read = i.read;
        earlier = _;
        taken = i.taken;
        so_far = (rw c.in-Ok-true.field-0-test at c.in-Ok-true.ensures.takes) i.read i.earlier i.so_far;
        went = λ k. went_on (i.went k) (c.in_ok-feed-in-Ok-true.ensures.goes k);
      };
      no_further = λ s k.
          read_while_running c.part.invariant.has_come s k c.part.invariant.still (sym c.halted.ensures ∙ c.if-halted.false)
          c.part.invariant.ready c.in_ok-refill.ensures.taken c.in_ok-refill.ensures.piece_limit c.in_ok-refill.ensures.left
          (c.part.invariant.no_further s k);
      boxes = search rules;
      closed = c.in_ok-feed-in-Ok-true.ensures.closed;
      still = c.in_ok-feed-in-Ok-true.ensures.still;
      clock = grind arith;
      inputs = grind arith;
      ready = c.in-Ok-true.ensures.ready;
      few = omega (arith, within_limit c.part.invariant.ready.few c.part.invariant.few c.in_ok-refill.ensures.few);
      unended = grind arith;
      reads = search rules;
      writes = search rules;
    }
