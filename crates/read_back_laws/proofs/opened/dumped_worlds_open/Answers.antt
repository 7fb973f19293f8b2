use Rattle.read_back_laws.proofs.Worlds.{world-opened}
use Rattle.read_back_laws.proofs.opened.dumped_worlds_open.Goals as goal

pub returns : goal.returns
returns c = λ s w room flushes of. world-opened w of.safe of.tidy room flushes of.quiet
