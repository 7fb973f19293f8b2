-- Replicas, in name order, but one of them.
use Rattle.std.specs.Prelude.{not, List, [], filter, Option, Some, None}
use Rattle.permission.specs.Prelude.{BookState, ServerNo, replicas_of}
use Rattle.permission.specs.Checks.{is_given}
use Rattle.permission.specs.Views.{source_of}

-- the servers of a list, without one if one is given
abbrev pub without : Option ServerNo → List ServerNo → List ServerNo
without one list = filter (λ n. not (is_given n one)) list

-- the replicas of a server, without one
abbrev pub replicas_but : BookState → ServerNo → Option ServerNo → List ServerNo
replicas_but b i one = without one (replicas_of b i)

abbrev pub siblings_under : BookState → ServerNo → Option ServerNo → List ServerNo
siblings_under b i None = []
siblings_under b i (Some x) = replicas_but b x (Some i)

-- the other replicas of a server's source
abbrev pub siblings_of : BookState → ServerNo → List ServerNo
siblings_of b i = siblings_under b i (source_of b i)
