use Rattle.std.proofs.Common.{◌≤◌, ap, rules}
use Rattle.std.proofs.lemmas.List.{get_or_past}
use Rattle.library_core.specs.Calls.{Reading, no_call, readings}
use Rattle.library_core.proofs.call.PlainCall.put.Goals as goal

-- a struct of a kind after the last one says nothing
pub returns-in_default-2-clause-none : goal.returns-in_default-2-clause-none
returns-in_default-2-clause-none c =
    let kind = c.args.self.now.kind in
    let behind : 51 ≤ kind = search rules in
    ap (λ (r : Reading). r c.args.self.now) (get_or_past readings kind no_call behind)
