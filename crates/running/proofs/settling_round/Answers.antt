-- `running::settling_round` meets its contract: the run as far as its settling round has as many rounds. Assumes nothing.
use Rattle.running.proofs.Answers.{settled_in}
use Rattle.running.proofs.settling_round.Goals as goal

pub returns : goal.returns
returns c = settled_in _ c.run_all-run.result _ c.args.instance.well_formed c.run_all-run.ensures
