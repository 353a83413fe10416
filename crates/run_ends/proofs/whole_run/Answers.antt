-- `whole_run` meets its contract: it is what `run_all` ensures of all rounds. Assumes nothing.
use Rattle.std.proofs.Common.{◌≡◌, ◌∙◌, length, arith, rules}
use Rattle.coordinator.specs.Run.{run_of}
use Rattle.tables.proofs.Places.{processes_of}
use Rattle.tables.specs.code.InstanceOfTable.{instance_of}
use Rattle.run_ends.proofs.whole_run.Goals as goal

pub returns : goal.returns
unfolding run_of instance_of
returns c =
    let formed = c.args.instance.well_formed in
    let places : length c.run_all.result.ends ≡ 64 = search rules in
    let processes = c.run_all.ensures.processes ∙ processes_of c.args.instance.table.now in
    record {
      formed = formed;
      processes = processes;
      whole = c.run_all.ensures.run;
      entries = omega (arith, processes, formed.at_most_64);
    }
