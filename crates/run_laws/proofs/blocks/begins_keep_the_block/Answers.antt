use Rattle.run_laws.proofs.Apart.{recovery-apart, scan-apart, takeover-apart}
use Rattle.run_laws.proofs.blocks.begins_keep_the_block.Goals as goal

pub returns : goal.returns
returns c = record {
  recovery = recovery-apart;
  takeover = takeover-apart;
  scan = λ w b audit by wait last now moments. scan-apart w b by wait now moments audit last;
}
