use Rattle.std.proofs.Common.{◌≡◌, map, drop}
use Rattle.command_line.proofs.Prelude.{app_of, with_options}
use Rattle.command_line.proofs.options.with_options.Given as goal

abbrev pub invariant-loop-name : goal.invariant-loop-name
invariant-loop-name l = with_options (app_of l.command) (map (λ s. s.now) (drop l.name-index l.names)) ≡ with_options (app_of l.fn.command) (map (λ s. s.now) l.names)
