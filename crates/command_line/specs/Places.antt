-- What the command line means.
use Rattle.std.specs.Prelude.{ℕ, ◌-◌, ◌^◌, List, codes, Bool, true, false, Option, Some, None, Result, Ok, Err, if◌then◌else◌}
use Rattle.std.specs.Option.{option_map_or}
use Rattle.std.specs.Str.{bytes_eq}
use Rattle.clap.specs.Walk.{Row, Text, first_of}
use Rattle.scenario_generator.specs.Bounds.{is_drawable}
use Rattle.command_line.specs.declared.parts.Places.{Places}
use Rattle.command_line.specs.declared.parts.Instances.{Instances}
use Rattle.command_line.specs.declared.parts.Texts.{Texts}
use Rattle.command_line.specs.declared.parts.Counts.{Counts}
use Rattle.command_line.specs.declared.command.Own.{Own}
use Rattle.command_line.specs.declared.command.Own.TheVariants.{Run, Generate, Dump, Live}
use Rattle.command_line.specs.declared.parts.Drawing.{Drawing}
use Rattle.command_line.specs.declared.usage.Usage.{Usage}
use Rattle.command_line.specs.declared.usage.Usage.TheVariants.{BadWords}
use Rattle.command_line.specs.Commands.{command_in, dump_in, own_at, plan_in}
use Rattle.command_line.specs.Options.{rows_of_texts, texts_of}
use Rattle.command_line.specs.Values.{duration_in, maybe, name_in, number_in, or_default, pattern_in, rule_in, text_in, text_within}
use Rattle.orch_base.specs.Gives.{◌>>=◌}

-- the instances, and what is kept of one
unfoldable pub instances_in : List Row → Result Instances Usage
instances_in rows = do
  i ← maybe name_in (first_of (codes "i") rows)
  d ← maybe name_in (first_of (codes "d") rows)
  rule ← maybe rule_in (first_of (codes "promotion-rule") rows)
  duration ← maybe duration_in (first_of (codes "duration") rows)
  Ok (record { i = i; d = d; rule = rule; duration = duration })

-- the texts: a reason and an owner have at most 255 bytes, and a pattern is a regular expression
unfoldable pub texts_in : List Row → Result Texts Usage
texts_in rows = do
  scenario ← maybe text_in (first_of (codes "scenario") rows)
  db ← maybe text_in (first_of (codes "db") rows)
  reason ← maybe (text_within 255) (first_of (codes "reason") rows)
  owner ← maybe (text_within 255) (first_of (codes "owner") rows)
  pattern ← maybe pattern_in (first_of (codes "pattern") rows)
  Ok (record { scenario = scenario; db = db; reason = reason; owner = owner; pattern = pattern })

-- the numbers, each with its range and its default
unfoldable pub counts_in : List Row → Result Counts Usage
counts_in rows = do
  pollers ← or_default 2 (number_in 1 16) (first_of (codes "pollers") rows)
  workers ← or_default 2 (number_in 1 16) (first_of (codes "workers") rows)
  wait ← or_default 1000 (number_in 1 10000) (first_of (codes "wait") rows)
  seed ← or_default 1 (number_in 0 (2 ^ 64 - 1)) (first_of (codes "seed") rows)
  servers ← or_default 10 (number_in 1 1000) (first_of (codes "servers") rows)
  turns ← or_default 100 (number_in 0 1000000) (first_of (codes "turns") rows)
  Ok (record { pollers = pollers; workers = workers; wait = wait; seed = seed; servers = servers; turns = turns })

-- the flag of this name is there
abbrev pub has_flag : Text → List Row → Bool
has_flag id rows = option_map_or (λ text. bytes_eq text (codes "true")) (first_of id rows) false

-- what is drawn stays within a scenario's bound; nothing else is drawn
abbrev pub is_within_bound : Option Own → Counts → Bool
is_within_bound None counts = true
is_within_bound (Some Run) counts = true
is_within_bound (Some Generate) counts = is_drawable counts.servers counts.turns
is_within_bound (Some Dump) counts = true
is_within_bound (Some Live) counts = true

-- the numbers, which are within the bound of what the command draws
unfoldable pub bounded_in : Text → List Row → Result Counts Usage
bounded_in command rows = do
  counts ← counts_in rows
  if is_within_bound (own_at command) counts then Ok counts else Err BadWords

unfoldable pub places_in : List Row → Result Places Usage
places_in rows = do
  command ← command_in rows
  instances ← instances_in rows
  texts ← texts_in rows
  counts ← bounded_in command rows
  plan ← plan_in command (has_flag (codes "plan") rows)
  dump ← dump_in command plan (has_flag (codes "tables") rows) (has_flag (codes "dump") rows)
  Ok (record {
    command = command;
    i = instances.i;
    d = instances.d;
    scenario = texts.scenario;
    db = texts.db;
    rule = instances.rule;
    duration = instances.duration;
    reason = texts.reason;
    owner = texts.owner;
    pattern = texts.pattern;
    pollers = counts.pollers;
    workers = counts.workers;
    wait = counts.wait;
    seed = counts.seed;
    servers = counts.servers;
    turns = counts.turns;
    tables = has_flag (codes "tables") rows;
    summary = has_flag (codes "summary") rows;
    plan = plan;
    dump = dump;
  })

-- What the command line means, if it is accepted. The arguments are UTF-8, clap gives matches, and `-c` names what the
-- program itself does or a command and has the options that it needs. Each value reads, and what is to be drawn is
-- within its bound. A plan is asked for only for a command that has one. The servers after it are asked for only for a
-- command, and neither with its plan nor with the tables.
unfoldable pub places_of : List (List ℕ) → Result Places Usage
places_of words = do
  texts ← texts_of words
  rows ← rows_of_texts texts
  places_in rows

-- the scenario that is to be drawn
abbrev pub drawing_by : Option Own → Places → Option Drawing
drawing_by None p = None
drawing_by (Some Run) p = None
drawing_by (Some Generate) p = Some (record { seed = p.seed; servers = p.servers; turns = p.turns })
drawing_by (Some Dump) p = None
drawing_by (Some Live) p = None

-- the scenario that the command line asks to draw; if none, it asks for one that is read
abbrev pub drawing_of : Places → Option Drawing
drawing_of p = drawing_by (own_at p.command) p

abbrev pub is_live_word : Option Own → Bool
is_live_word None = false
is_live_word (Some Run) = false
is_live_word (Some Generate) = false
is_live_word (Some Dump) = false
is_live_word (Some Live) = true

-- the command line asks to run the scenario in threads
abbrev pub is_live : Places → Bool
is_live p = is_live_word (own_at p.command)
