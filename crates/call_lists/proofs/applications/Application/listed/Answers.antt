use Rattle.std.proofs.Common.{length, arith, subst, sym}
use Rattle.std.proofs.lemmas.List.{nil_from_length}
use Rattle.call_lists.specs.Calls.{IsListOf}
use Rattle.call_lists.proofs.Filling.{listed_none, listed_put}
use Rattle.call_lists.proofs.Only.{calls_of_list}
use Rattle.call_lists.proofs.Possible.{of_each}
use Rattle.call_lists.proofs.applications.Application.listed.Goals.{then-not-is_empty+in_ok-put_calls, else-not-is_empty}
use Rattle.call_lists.proofs.applications.Application.listed.Goals as goal

pub returns-clause-listed : goal.returns-clause-listed
returns-clause-listed c =
    subst (IsListOf c.args.text.now) (sym c.new.ensures) (elim c.if-not-is_empty.branch [
      | then-not-is_empty+in_ok-put_calls w
          ↦ let put = w.in_ok-put_calls.ensures.put in
          subst (IsListOf c.args.text.now) (sym w.calls-is) (listed_put _ _ _ put.0 put.1 c.waits-calls.ensures put.2 put.3)
      | else-not-is_empty w ↦ subst (IsListOf c.args.text.now) (sym w.calls-is)
          (listed_none _ _ (grind (arith, nil_from_length)) c.waits-calls.ensures)
    ])

pub returns-in_err-put_calls-clause-refused : goal.returns-in_err-put_calls-clause-refused
returns-in_err-put_calls-clause-refused c =
    of_each _ c.from_residual.result (λ calls possible long list.
    let has = calls_of_list c.args.text.now calls (length c.waits-calls.result) (grind arith) possible
    (omega arith) list in
    let wrong = c.in_err-put_calls.ensures.only has in
    absurd (cc))
