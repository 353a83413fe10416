-- The worked runs are what the definitions give, row by row: both sides are computed, so the line below names every definition on the way.
-- Assumes nothing.
use mathlib.Core.Path.{refl}
use lib.Count.{ones_in}
use Rattle.general.specs.Bits.{member, ones64, set_of}
use Rattle.general.specs.Indexed.{map_from, count_from}
use Rattle.general.specs.Counts.{add_at, sum_to}
use Rattle.general.specs.Search.{lowest_from}
use Rattle.general.specs.Table.{tabulate}
use Rattle.coordinator.specs.Message.{arriving, gets_data, gets_commit}
use Rattle.consensus.specs.Instance.{fault_of}
use Rattle.coordinator.specs.Transition.{sends, receives}
use Rattle.coordinator.specs.Delivery.{among_first, reach_at, reach_in, reach}
use Rattle.consensus.specs.State.{state_of, crashes_in}
use Rattle.coordinator.specs.Round.{sent_by, received, after_outcome, after, states_after}
use Rattle.coordinator.specs.Undecided.{is_undecided, any_undecided}
use Rattle.coordinator.specs.Count.{speaks, carries, carried_in, data_in, commits_in}
use Rattle.consensus.specs.CrashCount.{is_idle, counts_as_crash, crash_count}
use Rattle.coordinator.specs.Run.{initial, with_round, run_to, run_of, crashes_of, end_of, latest_of}
use Rattle.coordinator.specs.SentSets.{data_set_at, commit_set_at, sent_set, ones_in_common}
use Rattle.coordinator.specs.SentBy.{sent_after, data_by, commits_by}
use Rattle.coordinator.specs.WithoutIdle.{fault_left, without_idle}
use Rattle.coordinator.specs.Settling.{values_held, all_are, one_value, qualifies, first_settling}
use Rattle.coordinator.specs.Reason.{state_at_start, heard_in, reason_hearing, reason_from, reason_of, reasons_in, reasons_to, reasons_of}
use Rattle.consensus.specs.FourProcesses.{four, first_crashes, after_one_commit, data_to_the_last, idle_besides, idle_alone}
use Rattle.consensus.specs.ClaimCases.{case1_ends, case8_ends}
use Rattle.coordinator.specs.WorkedTable.{worked_runs}
use Rattle.coordinator.specs.WorkedRuns.{sent_in_round, all_sent, theorem2, sets_in, qualifying_to, qualifying_rounds, worked, AsWorked, WorkedRuns}

pub worked_runs_lem : WorkedRuns
unfolding sum_to sent_in_round all_sent theorem2 sets_in data_set_at commit_set_at sent_set ones_in_common ones_in ones64 set_of four first_crashes after_one_commit data_to_the_last idle_besides idle_alone case1_ends case8_ends count_from worked_runs AsWorked worked qualifying_to qualifying_rounds member map_from add_at sent_after data_by commits_by arriving gets_data gets_commit fault_of sends receives among_first reach_at reach_in reach state_of crashes_in sent_by received after_outcome after states_after is_undecided any_undecided speaks carries carried_in data_in commits_in is_idle counts_as_crash crash_count initial with_round run_to run_of crashes_of values_held all_are one_value qualifies lowest_from first_settling latest_of end_of fault_left without_idle tabulate state_at_start heard_in reason_hearing reason_from reason_of reasons_in reasons_to reasons_of
worked_runs_lem =
    record {
      number = refl;
      as_worked = (refl, (refl, (refl, (refl, (refl, (refl, (refl, (refl, (refl, (refl, (refl, (refl, (refl, (refl, (refl, (refl, (refl, (refl, tt))))))))))))))))));
      idle_taken_out = refl;
      other_left = refl;
      data_at_step1 = refl;
      commits_at_step1 = refl;
      commits_at_step2 = refl;
      data_of_correct = refl;
      sent_in_case9 = refl;
    }
