-- What an accepted command line has.
use Rattle.std.specs.Prelude.{◌≡◌, ◌≤◌, Bool, true, ◌&&◌, ◌||◌, not, is_some, length, IfSome}
use Rattle.cluster_filters.specs.Patterns.{is_pattern}
use Rattle.commands.specs.declared.arguments.Needs.{Needs}
use Rattle.scenario_generator.specs.Bounds.{is_drawable}
use Rattle.command_line.specs.declared.parts.Drawing.{Drawing}
use Rattle.command_line.specs.declared.parts.Places.{Places}
use Rattle.command_line.specs.Commands.{is_plan_word, is_taken_word, may_dump, needs_at}
use Rattle.command_line.specs.Places.{drawing_of}

-- each option that is needed is there
abbrev pub are_there : Needs → Places → Bool
are_there needs p = (is_some p.i || not needs.i) && (is_some p.d || not needs.d) && (is_some p.rule || not needs.rule) && (is_some p.pattern || not needs.pattern)

-- at least one server is to be drawn, and what they come to have is within the bound of a scenario
pub record IsDrawn (d : Drawing) : Type 0 where
  pub servers : 1 ≤ d.servers
  pub bound : is_drawable d.servers d.turns ≡ true

-- The name is the program's own or a command's, and what it needs is there. Each number, text and pattern is in its
-- range, and so is what is to be drawn. If a plan is asked for, the command has one. If the servers after it are asked
-- for, it is a command, and neither its plan nor the tables are.
pub record AreTaken (p : Places) : Type 0 where
  pub word : is_taken_word p.command ≡ true
  pub needs : are_there (needs_at p.command) p ≡ true
  pub duration : IfSome p.duration (λ n. (1 ≤ n) × (n ≤ 31536000))
  pub reason : IfSome p.reason (λ text. length text ≤ 255)
  pub owner : IfSome p.owner (λ text. length text ≤ 255)
  pub pattern : IfSome p.pattern (λ text. is_pattern text ≡ true)
  pub pollers : (1 ≤ p.pollers) × (p.pollers ≤ 16)
  pub workers : (1 ≤ p.workers) × (p.workers ≤ 16)
  pub drawn : IfSome (drawing_of p) IsDrawn
  pub plan : p.plan ≡ true → is_plan_word p.command ≡ true
  pub dump : p.dump ≡ true → may_dump p.command p.plan p.tables ≡ true
