use Rattle.cause_laws.proofs.Holding.{failed-starts, hands-apart, hands-held, hands-left, left-leased}
use Rattle.cause_laws.proofs.hands.hands_are_what_is_left_stopped.Goals as goal

pub returns : goal.returns
returns c = record {
  left = hands-left;
  held = hands-held;
  once = hands-apart;
  started = failed-starts;
  leased = left-leased;
}
