use Rattle.network_run.proofs.run.run_network.Goals as goal

pub returns-in-Ok-clause-ran : goal.returns-in-Ok-clause-ran
returns-in-Ok-clause-ran g c = λ named. c.close.ensures.ran named c.args.quiet _ c.args.network _ _ _ _ (rw (c.over-steps.ensures, c.new-text.ensures) at (c.in-Ok.ensures.runs named))
