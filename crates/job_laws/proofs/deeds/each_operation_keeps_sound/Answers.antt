use Rattle.job_laws.proofs.Turns.{goes-sound, turn-sound, deed-sound}
use Rattle.job_laws.proofs.deeds.each_operation_keeps_sound.Goals as goal

pub returns : goal.returns
returns c = record {
  turn = turn-sound;
  deed = λ w read now j rest d up. deed-sound w read now j rest d up.safe up.next.placed up.next.shown up.bridged up.met up.next.due;
  goes = λ w read now j k rest d o es up is. goes-sound w read now j k rest d o es up.safe up.next.placed up.next.shown up.bridged up.met up.next.due is;
}
