use Rattle.opening_book.proofs.ReadNumbers.{loaded-within, opening-within}
use Rattle.opening_book.proofs.laws.openings_count_readings.Goals as goal

pub returns : goal.returns
returns c = record {
  loaded = loaded-within;
  opened = opening-within;
}
