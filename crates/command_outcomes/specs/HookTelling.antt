-- What the hooks of a recovery that begins get.
use Rattle.std.specs.Prelude.{ℕ, false, List, slice_get, Option, None, Some, Result, Ok, Err}
use Rattle.command_outcomes.specs.Prelude.{Begins, BookState, Code, HookState, HostPort, Refusal, Values, alias_of, begun_hooks, code_text}
use Rattle.command_outcomes.specs.Prelude.{option_map}
use Rattle.command_outcomes.specs.declared.configuration.Configuration.{Configuration}

-- of the failed server, the label of its cluster, and its analysis
abbrev pub told_of : Configuration → HostPort → List ℕ → Code → Values
told_of c failed cluster code = record {
  failure_type = code_text code;
  failed = failed;
  cluster = cluster;
  alias = alias_of c.aliases cluster;
  successor = None;
  successful = false;
}

-- one that has no analysis runs none
abbrev pub hooks_by : Configuration → BookState → Begins → Option Code → Option HookState
hooks_by c b x None = None
hooks_by c b x (Some code) = option_map (λ name. begun_hooks c.hooks (told_of c name x.entry.cluster code)) (slice_get b.names x.entry.failed.0)

abbrev pub with_told : Configuration → BookState → Begins → Begins
with_told c b x = record x { hooks = hooks_by c b x x.code }

abbrev pub told_try : Configuration → BookState → Result Begins Refusal → Result Begins Refusal
told_try c b (Ok x) = Ok (with_told c b x)
told_try c b (Err r) = Err r
