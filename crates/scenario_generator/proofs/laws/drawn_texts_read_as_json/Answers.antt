use Rattle.scenario_generator.proofs.Lines.{text_short, text_utf8}
use Rattle.scenario_generator.proofs.Values.{text_reads}
use Rattle.scenario_generator.proofs.laws.drawn_texts_read_as_json.Goals as goal

pub returns : goal.returns
returns c = record {
  read = text_reads;
  utf8 = text_utf8;
  short = text_short;
}
