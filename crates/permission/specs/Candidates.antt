-- Which replicas may be promoted.
use Rattle.std.specs.Prelude.{Bool, ◌&&◌, not, Option}
use Rattle.permission.specs.Prelude.{BookState, Refusal, ServerNo, World, is_barred, list_any, replicas_of, rule_at}
use Rattle.operations.specs.OrchBase.declared.server.Moment.{Moment}
use Rattle.operations.specs.Commands.declared.refusal.Refusal.TheVariants.{NoCandidate}
use Rattle.permission.specs.Lists.{only_if}
use Rattle.permission.specs.Views.{has_log, is_valid}

-- by the book the server may be promoted at a moment: the last reading reached it, it logs, and no rule bars it
abbrev pub is_candidate : World → BookState → Moment → ServerNo → Bool
is_candidate w b now n = is_valid b n && (has_log w n && not (is_barred (rule_at b n now)))

-- one of a server's replicas may be
abbrev pub has_candidate : World → BookState → Moment → ServerNo → Bool
has_candidate w b now i = list_any (is_candidate w b now) (replicas_of b i)

-- 26: none of them may be
abbrev pub without_candidate : World → BookState → Moment → ServerNo → Option Refusal
without_candidate w b now i = only_if (not (has_candidate w b now i)) NoCandidate
