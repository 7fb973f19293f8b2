use Rattle.kept_rows.proofs.Prelude.{sort_key}
use Rattle.kept_rows.proofs.LookUps.{row_in-map_of, map_of_rising}
use Rattle.kept_rows.proofs.laws.last_row_stands.Goals as goal

pub returns : goal.returns
returns c = record {
  rising = map_of_rising;
  last = λ rows t k. row_in-map_of rows (sort_key t k);
}
