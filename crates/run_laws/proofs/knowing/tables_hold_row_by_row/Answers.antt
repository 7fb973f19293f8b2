use Rattle.run_laws.proofs.CheckTables.{checks-by-table, codes-by-table, enables-by-set, periods-by-table, rows-by-table}
use Rattle.run_laws.proofs.Leading.{plans-lead-as-told}
use Rattle.run_laws.proofs.Shown.{statuses-by-table}
use Rattle.run_laws.proofs.Stopping.{plans-start-again}
use Rattle.run_laws.proofs.Tables.{attaches-by-set, attaches-by-table, counts-by-instances, counts-replicas, ends-in-time, keeps-sixteen, runs-all-servers, servers-by-table, threads-by-table, writes-by-table}
use Rattle.run_laws.proofs.knowing.tables_hold_row_by_row.Goals as goal

pub returns : goal.returns
returns c = record {
  counts = counts-replicas;
  instances = counts-by-instances;
  rings = keeps-sixteen;
  ends = ends-in-time;
  rounds = runs-all-servers;
  writes = writes-by-table;
  starts = servers-by-table;
  statuses = statuses-by-table;
  threads = threads-by-table;
  attaches = attaches-by-table;
  attaches_by_set = attaches-by-set;
  plans = plans-start-again;
  leads = plans-lead-as-told;
  checks = checks-by-table;
  rows = rows-by-table;
  codes = codes-by-table;
  periods = periods-by-table;
  enables = enables-by-set;
}
