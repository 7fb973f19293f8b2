use Rattle.row_texts.proofs.ReadBack.{read_back}
use Rattle.row_texts.proofs.laws.read_rows_can_be_kept.Goals as goal

pub returns : goal.returns
returns c = record {
  table = λ t names key text r e. (read_back c.printed_reads.ensures.only t names key text r e).2.of_table;
  key = λ t names key text r e. (read_back c.printed_reads.ensures.only t names key text r e).2.at_key;
  kept = λ t names key text r e. (read_back c.printed_reads.ensures.only t names key text r e).2.kept;
  value = λ t names key text r e. let b = read_back c.printed_reads.ensures.only t names key text r e in (b.0, b.1, b.2.value);
}
