use Rattle.kernel_core.proofs.all_runs.run_exists.Goals as goal
use Rattle.kernel_core.proofs.run_laws.Rests.{run_of}

pub returns : goal.returns
returns c = record { exists = λ config says inputs. run_of config says inputs }
