use Rattle.process_core.proofs.Lemmas.{refl, none_reported}
use Rattle.std.proofs.Common.{rules}
use Rattle.process_core.proofs.scheduler_fields.SchedulerFields.take_rare_front.Goals as goal

pub returns-in_default : goal.returns-in_default
returns-in_default c = record {
  yields =
      rw (none_reported c.args.self.now.front c.args.self.now.reply c.args.self.now.synch c.requires.rare c.in_default.not-Give
      c.in_default.not-Start c.in_default.not-Callback)
      (0, refl);
  holds = tt;
  front = refl;
  order = search rules;
}
