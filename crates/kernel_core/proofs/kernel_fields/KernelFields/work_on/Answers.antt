use Rattle.std.proofs.Common.{◌∙◌, ap}
use Rattle.kernel_core.proofs.Common.{KernelFields, machine_of}
use Rattle.kernel_core.specs.Code.OpenTurns.{told_turn}
use Rattle.kernel_core.specs.Code.Steps.{stepped}
use Rattle.kernel_core.proofs.Reaching.{goes_after, makes_after, worked_after}
use Rattle.kernel_core.proofs.kernel_fields.KernelFields.work_on.Goals as goal

pub returns : goal.returns
returns c =
    record {
      awaits = λ is choices. makes_after (c.pass_idle_poll.ensures.steps.passed choices) (c.work_to_entry.ensures.awaits is choices);
      opens = c.work_to_entry.ensures.opens;
      goes = λ is choices. goes_after _ _ (machine_of c.work_to_entry.new.self)
          (stepped c.work_to_entry.result (told_turn c.work_to_entry.new.self.scheduler.kept c.work_to_entry.new.turn) c.work_to_entry.new.other)
          (ap (λ (k : KernelFields). k.halted) c.pass_idle_poll.ensures.kept ∙ c.requires.at_work.running)
          (c.pass_idle_poll.ensures.steps.passed choices) (c.work_to_entry.ensures.goes is choices);
      worked =
          worked_after c.args.self.now c.pass_idle_poll.new.self c.work_to_entry.new.self c.pass_idle_poll.ensures.kept
          c.pass_idle_poll.ensures.steps.applications c.pass_idle_poll.ensures.work c.work_to_entry.ensures.worked;
    }
