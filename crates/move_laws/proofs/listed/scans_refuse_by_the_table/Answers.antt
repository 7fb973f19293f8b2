use Rattle.move_laws.proofs.Trying.{tries}
use Rattle.move_laws.proofs.listed.scans_refuse_by_the_table.Goals as goal

pub returns : goal.returns
returns c w b audit by wait last = tries w b by wait audit last
