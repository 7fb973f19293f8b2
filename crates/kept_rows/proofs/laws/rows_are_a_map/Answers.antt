use Rattle.kept_rows.proofs.Prelude.{sort_key}
use Rattle.kept_rows.proofs.LookUps.{row_in-put, row_in-remove, row_in-changed, changed_rising}
use Rattle.kept_rows.proofs.laws.rows_are_a_map.Goals as goal

pub returns : goal.returns
returns c = record {
  put = λ rows r t k. row_in-put rows r (sort_key t k);
  remove = λ rows u t l k. row_in-remove rows u l (sort_key t k);
  changed = λ rows changes t k. row_in-changed rows changes (sort_key t k);
  rising = changed_rising;
}
