use Rattle.kept_rows.proofs.LookUps.{map_rises}
use Rattle.sql_keeper.proofs.sql.in_order.Goals as goal

-- src/sql.rt:118:1
pub returns : goal.returns
returns c = map_rises c.args.rows.items c.in_ok-row_map.field-0.items c.in_ok-row_map.ensures
