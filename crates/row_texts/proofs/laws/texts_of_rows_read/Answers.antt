use Rattle.row_texts.proofs.WrittenReads.{texts_read}
use Rattle.row_texts.proofs.laws.texts_of_rows_read.Goals as goal

pub returns : goal.returns
returns c = λ names r text h can. texts_read c.printed_reads.ensures.only c.printed_reads.ensures.printed names r text h can
