-- What a command line asks of a scenario's servers.
use Rattle.std.specs.Prelude.{◌≡◌, ℕ, ◌+◌, ◌∷◌, Bool, true, false, List, [], map, if◌then◌else◌, Option, Some, None, option_map, Ok}
use Rattle.tasks.specs.Prelude.{CommandName, CommandTurn, Found, HostPort, IsCommand, Own, Places, ServerNo, drawing_of, found_of, name_of, own_at}
use Rattle.tasks.specs.Prelude.{places_of, printed, same_name, uses_of}
use Rattle.tasks.specs.Prelude.own
use Rattle.tasks.specs.declared.asked.Asked.{Asked}
use Rattle.tasks.specs.declared.asked.Asked.TheVariants as asked
use Rattle.tasks.specs.declared.asked.Extra.{Extra}
use Rattle.tasks.specs.declared.asked.Extra.TheVariants as extra
use Rattle.tasks.specs.declared.asked.Task.{Task}

-- the first server of this name, from this number on
abbrev pub server_from : HostPort → ℕ → List HostPort → Option ServerNo
server_from name n [] = None
server_from name n (other ∷ others) = if same_name other name then Some (record { 0 = n }) else server_from name (n + 1) others

abbrev pub server_of : List HostPort → HostPort → Option ServerNo
server_of names name = server_from name 0 names

-- what is given, if the command uses it
abbrev pub used : {A : Type 0} → Bool → Option A → Option A
used uses given = if uses then given else None

-- the server that is given, if one is; nothing if no server has that name
abbrev pub server_given : List HostPort → Option HostPort → Option (Option ServerNo)
server_given names None = Some None
server_given names (Some name) = option_map (λ n. Some n) (server_of names name)

-- a pattern, if one is given, with an answer for each server's printed name
abbrev pub pattern_for : List HostPort → Option (List ℕ) → Option Found
pattern_for names text = option_map (λ t. found_of t (map printed names)) text

-- the command's own turn over these servers, with all of the options that the command uses
abbrev pub turn_for : Places → List HostPort → CommandName → Option ServerNo → Option ServerNo → CommandTurn
turn_for p names name i d = record {
  command = record { name = name; i = i; d = d };
  keys = record {
    rule = used (uses_of name).rule p.rule;
    duration = used (uses_of name).duration p.duration;
    reason = used (uses_of name).reason p.reason;
    owner = used (uses_of name).owner p.owner;
    pattern = pattern_for names (used (uses_of name).pattern p.pattern);
  };
}

-- the command itself, or its plan
abbrev pub asked_turn : Bool → CommandTurn → Asked
asked_turn false t = asked.Turn t
asked_turn true t = asked.Plan t

-- about this instance and this destination, if servers have their names
abbrev pub asked_about : Places → List HostPort → CommandName → Option (Option ServerNo) → Option (Option ServerNo) → Asked
asked_about p names name None d = asked.Unknown
asked_about p names name (Some i) None = asked.Unknown
asked_about p names name (Some i) (Some d) = asked_turn p.plan (turn_for p names name i d)

abbrev pub asked_named : Places → List HostPort → Option CommandName → Asked
asked_named p names None = asked.Nothing
asked_named p names (Some name) = asked_about p names name (server_given names (used (uses_of name).i p.i)) (server_given names (used (uses_of name).d p.d))

-- By a name of the program's own, or by a command. A scenario that is drawn has no servers of which to ask something. A
-- live run's report is that of a run of the turns that it takes.
abbrev pub asked_at : Places → List HostPort → Option Own → Asked
asked_at p names None = asked_named p names (name_of p.command)
asked_at p names (Some own.Run) = if p.summary then asked.Summary else asked.Run
asked_at p names (Some own.Generate) = asked.Nothing
asked_at p names (Some own.Dump) = asked.Dump
asked_at p names (Some own.Live) = asked.Run

-- what a command line asks over servers of these names
unfoldable pub asked_of : Places → List HostPort → Asked
asked_of p names = asked_at p names (own_at p.command)

-- it is something, and its turn is one over so many servers
abbrev pub IsAsked : ℕ → Asked → Type 0
IsAsked count asked.Run = Unit {0}
IsAsked count asked.Summary = Unit {0}
IsAsked count asked.Dump = Unit {0}
IsAsked count (asked.Turn t) = IsCommand count t
IsAsked count (asked.Plan t) = IsCommand count t
IsAsked count asked.Unknown = Unit {0}
IsAsked count asked.Nothing = ⊥

-- what is asked for beside a command's answer
abbrev pub extra_of : Places → Extra
extra_of p = if p.dump then extra.Dump else (if p.tables then extra.Tables else extra.Nothing)

-- what the command line asks of servers of these names
abbrev pub task_of : Places → List HostPort → Task
task_of p names = record { waits = p.wait; asked = asked_of p names; extra = extra_of p }

-- a command line that is accepted
abbrev pub IsTaken : Places → Type 0
IsTaken p = (words : List (List ℕ)) × (places_of words ≡ Ok p)

-- the command line asks something of a scenario that is read, and not to draw one
abbrev pub AskOfRead : Places → Type 0
AskOfRead p = drawing_of p ≡ None
