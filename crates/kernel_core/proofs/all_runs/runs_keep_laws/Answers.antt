use Rattle.kernel_core.proofs.all_runs.runs_keep_laws.Goals as goal

pub returns-clause-events : goal.returns-clause-events
returns-clause-events c = c.events_arrive.ensures.events

pub returns-clause-laws : goal.returns-clause-laws
returns-clause-laws c = λ config boots.
    record {
      exists = c.run_exists.ensures.exists config;
      kept = λ says inputs after runs.
          let own = c.memory_is_private.ensures in
          let arrive = c.events_arrive.ensures in
          record {
            memory = own.own config says inputs after runs;
            events = arrive.events config says inputs after runs;
            timers = arrive.timers config says inputs after boots runs;
            isolation = own.isolated config says inputs after boots runs;
            alike = own.alike config says inputs after boots runs;
          };
    }
