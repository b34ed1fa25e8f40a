use Rattle.std.proofs.Common.{◌≡◌, ◌≤◌, ◌-◌}
use Rattle.medium_core.specs.Code.Airs.{link_lists}
use Rattle.network_steps.specs.StepsView.{unlinked}
use Rattle.network_steps.proofs.steps.no_links.Given as goal

abbrev pub invariant-loop-made : goal.invariant-loop-made
invariant-loop-made l = (link_lists l.lists.items ≡ unlinked l.made) × (l.made ≤ l.motes)

abbrev pub decreases-loop-made : goal.decreases-loop-made
decreases-loop-made l = l.motes - l.made
