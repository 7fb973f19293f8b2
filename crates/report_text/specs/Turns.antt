-- The names of turns.
use Rattle.std.specs.Prelude.{ℕ, List, ◌++◌, codes, decimal}
use Rattle.server_words.specs.OrchBase.Names.{HostPort}
use Rattle.server_words.specs.OrchBase.declared.server.ServerNo.{ServerNo}
use Rattle.server_words.specs.declared.changes.Link.{Link}
use Rattle.server_words.specs.Words.{link_text}
use Rattle.report_text.specs.Names.{name_text}
use Rattle.report_text.specs.Commands.{command_text}
use Rattle.turns.specs.declared.turn.Step.{Step}
use Rattle.turns.specs.declared.turn.Step.TheVariants as step
use Rattle.turns.specs.declared.turn.Act.{Act}
use Rattle.turns.specs.declared.turn.Act.TheVariants as act
use Rattle.turns.specs.declared.turn.Turn.{Turn}
use Rattle.turns.specs.declared.turn.Turn.TheVariants as turn

-- the word, the name, a space and the number
abbrev pub amount_text : List ℕ → List HostPort → ServerNo → ℕ → List ℕ
amount_text word names n amount = word ++ name_text names n ++ codes " " ++ decimal amount

-- the word, the name, a space and the link
abbrev pub linked_text : List ℕ → List HostPort → ServerNo → Link → List ℕ
linked_text word names n link = word ++ name_text names n ++ codes " " ++ link_text link

abbrev pub poll_text : List HostPort → ℕ → ServerNo → List ℕ
poll_text names poller n = codes "poll-read " ++ decimal poller ++ codes " " ++ name_text names n

-- what happens to a server
abbrev pub step_text : List HostPort → Step → List ℕ
step_text names (step.Write n size) = amount_text (codes "write ") names n size
step_text names (step.Fetch n) = codes "fetch " ++ name_text names n
step_text names (step.Apply n) = codes "apply " ++ name_text names n
step_text names (step.Fail n) = codes "fail " ++ name_text names n
step_text names (step.Heal n) = codes "heal " ++ name_text names n
step_text names (step.Cut n link) = linked_text (codes "cut ") names n link
step_text names (step.Join n link) = linked_text (codes "join ") names n link
step_text names (step.Rotate n) = codes "rotate " ++ name_text names n
step_text names (step.Purge n file) = amount_text (codes "purge ") names n file

-- what orchestrator does
abbrev pub act_text : List HostPort → Act → List ℕ
act_text names (act.PollRead poller n) = poll_text names poller n
act_text names (act.PollStore poller) = codes "poll-store " ++ decimal poller
act_text names (act.Command c) = command_text names c.command
act_text names (act.Job job) = codes "job " ++ decimal job
act_text names act.Scan = codes "scan"
act_text names act.Restart = codes "restart"

abbrev pub words_text : List HostPort → Turn → List ℕ
words_text names (turn.Step s) = step_text names s
words_text names (turn.Tick seconds) = codes "tick " ++ decimal seconds
words_text names (turn.Act a) = act_text names a
words_text names (turn.As node a) = codes "as " ++ decimal node ++ codes " " ++ act_text names a
words_text names (turn.Claim node) = codes "claim " ++ decimal node
words_text names (turn.Release node) = codes "release " ++ decimal node
