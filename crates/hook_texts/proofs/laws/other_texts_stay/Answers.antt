use Rattle.hook_texts.proofs.Reading.{between_stays, other_stays, plain_front, plain_stays, unclosed_stays}
use Rattle.hook_texts.proofs.laws.other_texts_stay.Goals as goal

pub returns : goal.returns
returns c = record {
  plain = plain_stays;
  unclosed = unclosed_stays;
  before = plain_front;
  between = between_stays;
  other = other_stays;
}
