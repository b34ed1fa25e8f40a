use Rattle.std.proofs.Common.{◌≡◌, [], refl, arith}
use Rattle.call_lists.proofs.Filling.{copies_more, none_put}
use Rattle.call_lists.proofs.Only.{none_made}
use Rattle.call_lists.proofs.applications.put_part.Goals as goal

pub loop-init : goal.loop-init
loop-init c = (
  c.in_ok-count.ensures.counted,
  record { made = []; are_calls = tt; is_count = refl; put = none_put c.args.place c.args.calls.now c.requires.place },
)

pub loop-preserved : goal.loop-preserved
loop-preserved c = grind (arith, copies_more)

pub returns-clause-put : goal.returns-clause-put
returns-clause-put c =
    let all : c.loop.counter ≡ c.in_ok-count.count = omega arith in
    grind arith

-- the part's first call is refused, and it has one
pub returns-in_err-calls-clause-only : goal.returns-in_err-calls-clause-only
returns-in_err-calls-clause-only c = λ made possible are fit. grind (arith, none_made)
