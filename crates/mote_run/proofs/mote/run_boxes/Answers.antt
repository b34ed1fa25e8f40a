use Rattle.std.proofs.Common.{rules, ◌≡◌, ℕ, ◌∙◌, ap, refl, length}
use Rattle.std.proofs.lemmas.Bool.{true_from_ne_false}
use Rattle.kernel_core.specs.declared.config.Config.{Config}
use Rattle.kernel_core.specs.Machine.{Machine, booted}
use Rattle.node_memory.specs.declared.sizes.Sizes.{Sizes}
use Rattle.mote_run.specs.Code.Runs.{config_of}
use Rattle.mote_run.proofs.HandedOn.{handed_on, is_of_mote, nothing_ran, of_run}
use Rattle.mote_run.proofs.mote.run_boxes.Goals as goal

on_boxes : (sizes : Sizes) {m : Machine} (apps boxes : ℕ) → m ≡ booted (config_of sizes apps) → apps ≡ boxes
    → m ≡ booted (config_of sizes boxes)
on_boxes sizes apps boxes is same = is ∙ ap (λ apps. booted (config_of sizes apps)) same

-- if no mote was booted, nothing ran
pub returns-in_default-clause-ran : goal.returns-in_default-clause-ran
returns-in_default-clause-ran g c = λ _ _. nothing_ran _ refl (λ is. cc)

pub returns-in-Err-clause-ran : goal.returns-in-Err-clause-ran
returns-in-Err-clause-ran g c = λ _ _. nothing_ran _ refl (λ is. cc)

pub run-requires-clause-booted : goal.run-requires-clause-booted
run-requires-clause-booted g c =
    let config : Config = config_of c.args.sizes c.in-Ok.apps in
    record {
      config = config;
      boots = (true_from_ne_false _ (λ h. let e = c.in-Ok-boot.ensures.bad_sizes.1 h in absurd (cc)));
      for_all = (search rules);
      is_booted = search rules;
      no_inputs = search rules;
    }

pub returns-clause-ran : goal.returns-clause-ran
returns-clause-ran g c =
    λ source_named sink_named. rw (is_of_mote _ _ c.map_err.ensures.cases)
    (handed_on c.run.result (c.run.ensures.promise source_named sink_named (config_of c.args.sizes (length c.args.boxes.now))
    (on_boxes c.args.sizes _ (length c.args.boxes.now) c.in-Ok-boot.ensures.booted.0 (search rules))))

pub returns-clause-promise : goal.returns-clause-promise
returns-clause-promise g c =
    λ source_named sink_named. rw (is_of_mote _ _ c.map_err.ensures.cases)
    (of_run _ c.run.result (c.run.ensures.promise source_named sink_named (config_of c.args.sizes (length c.args.boxes.now))
    (on_boxes c.args.sizes _ (length c.args.boxes.now) c.in-Ok-boot.ensures.booted.0 (search rules))))
