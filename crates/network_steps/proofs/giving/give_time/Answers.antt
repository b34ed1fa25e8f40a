use Rattle.network_steps.proofs.GivenInputs.{behind_if_up, halted_not_behind}
use Rattle.network_steps.proofs.giving.give_time.Goals as goal

pub returns-then-is_halted-clause-behind : goal.returns-then-is_halted-clause-behind
returns-then-is_halted-clause-behind c = λ one there. halted_not_behind c.args.network.now _ one c.if-is_halted.ensures there

pub returns-clause-behind : goal.returns-clause-behind
returns-clause-behind c = behind_if_up c.catch_up.result c.args.network.now _ c.if-is_halted.ensures c.catch_up.ensures.behind
