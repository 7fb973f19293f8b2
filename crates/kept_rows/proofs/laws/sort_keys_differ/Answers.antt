use Rattle.kept_rows.proofs.SameRows.{same_sort_key}
use Rattle.kept_rows.proofs.laws.sort_keys_differ.Goals as goal

pub returns : goal.returns
returns c = same_sort_key
