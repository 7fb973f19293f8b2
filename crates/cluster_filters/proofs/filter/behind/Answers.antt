use Rattle.cluster_filters.proofs.PrefixLemmas.{behind-strip_prefix}
use Rattle.cluster_filters.proofs.filter.behind.Goals as goal

pub returns : goal.returns
returns c = behind-strip_prefix c.args.prefix.now c.args.text.now _ c.strip_prefix.ensures.cases
