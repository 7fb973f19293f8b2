-- The line of a turn with its reply.
use Rattle.std.specs.Prelude.{ℕ, ◌+◌, Bool, true, false, List, [], ◌∷◌, ◌++◌, codes, decimal, if◌then◌else◌}
use Rattle.server_words.specs.OrchBase.Names.{HostPort}
use Rattle.server_words.specs.BinlogCoords.Text.{coord_text}
use Rattle.server_words.specs.declared.answers.WriteAnswer.{WriteAnswer}
use Rattle.server_words.specs.declared.answers.WriteAnswer.TheVariants as wrote
use Rattle.server_words.specs.declared.answers.FetchAnswer.{FetchAnswer}
use Rattle.server_words.specs.declared.answers.FetchAnswer.TheVariants as fetched
use Rattle.server_words.specs.declared.answers.ApplyAnswer.{ApplyAnswer}
use Rattle.server_words.specs.declared.answers.ApplyAnswer.TheVariants as applied
use Rattle.server_words.specs.declared.answers.RotateAnswer.{RotateAnswer}
use Rattle.server_words.specs.declared.answers.RotateAnswer.TheVariants as rotated
use Rattle.server_words.specs.declared.answers.PurgeAnswer.{PurgeAnswer}
use Rattle.server_words.specs.declared.answers.PurgeAnswer.TheVariants as purged
use Rattle.commands.specs.declared.line.Line.{Line}
use Rattle.report_text.specs.Causes.{cause_text}
use Rattle.report_text.specs.Refusals.{refusal_text}
use Rattle.report_text.specs.Told.{told_lines}
use Rattle.report_text.specs.Turns.{words_text}
use Rattle.turns.specs.declared.turn.Turn.{Turn}
use Rattle.turns.specs.declared.reply.Reply.{Reply}
use Rattle.turns.specs.declared.reply.Reply.TheVariants as answered

abbrev pub write_text : WriteAnswer → List ℕ
write_text (wrote.Done seq) = codes "done " ++ decimal seq
write_text wrote.Down = codes "down"
write_text wrote.ReadOnly = codes "read only"
write_text wrote.Full = codes "full"

abbrev pub fetch_text : FetchAnswer → List ℕ
fetch_text (fetched.Got c) = codes "got " ++ coord_text c
fetch_text (fetched.Rotated c) = codes "rotated " ++ coord_text c
fetch_text (fetched.Purged first) = codes "purged " ++ decimal first
fetch_text fetched.Nothing = codes "nothing"
fetch_text fetched.Stopped = codes "stopped"
fetch_text fetched.NoLink = codes "no link"

abbrev pub apply_text : ApplyAnswer → List ℕ
apply_text (applied.Done c) = codes "done " ++ coord_text c
apply_text (applied.Skipped c) = codes "skipped " ++ coord_text c
apply_text (applied.Rotated c) = codes "rotated " ++ coord_text c
apply_text applied.Nothing = codes "nothing"
apply_text applied.Stopped = codes "stopped"
apply_text applied.AtUntil = codes "at until"
apply_text applied.Full = codes "full"

abbrev pub rotate_text : RotateAnswer → List ℕ
rotate_text (rotated.Done c) = codes "done " ++ coord_text c
rotate_text rotated.Down = codes "down"
rotate_text rotated.NotLogging = codes "not logging"
rotate_text rotated.Full = codes "full"

abbrev pub purge_text : PurgeAnswer → List ℕ
purge_text (purged.Done first) = codes "done " ++ decimal first
purge_text purged.Down = codes "down"
purge_text purged.NotLogging = codes "not logging"
purge_text purged.NoFile = codes "no file"

abbrev pub answer_text : List HostPort → Reply → List ℕ
answer_text names (answered.Write a) = write_text a
answer_text names (answered.Fetch a) = fetch_text a
answer_text names (answered.Apply a) = apply_text a
answer_text names answered.Done = codes "done"
answer_text names (answered.Rotate a) = rotate_text a
answer_text names (answered.Purge a) = purge_text a
answer_text names (answered.Now t) = codes "now " ++ decimal t.0
answer_text names (answered.Read number) = codes "read " ++ decimal number
answer_text names (answered.ReadUnreachable number) = codes "read " ++ decimal number ++ codes " unreachable"
answer_text names answered.Unknown = codes "unknown"
answer_text names answered.Stored = codes "stored"
answer_text names (answered.Old number) = codes "old " ++ decimal number
answer_text names answered.Nothing = codes "nothing"
answer_text names (answered.Told lines) = codes "done"
answer_text names (answered.Refused r) = codes "refused " ++ refusal_text names r
answer_text names (answered.Begun job) = codes "begun " ++ decimal job
answer_text names answered.Going = codes "going"
answer_text names (answered.Failed failure) = codes "failed " ++ cause_text names failure.cause
answer_text names answered.NoJob = codes "no job"
answer_text names (answered.Held until) = codes "held until " ++ decimal until.0
answer_text names (answered.Taken node until) = codes "taken " ++ decimal node ++ codes " until " ++ decimal until.0
answer_text names answered.Released = codes "released"
answer_text names answered.NotHeld = codes "not held"
answer_text names answered.Lapsed = codes "lapsed"

-- whether a reply that is alone has its own line, and the lines after it: those of what is done, or of the hooks of a
-- recovery that failed
abbrev pub behind : Reply → Bool × List Line
behind (answered.Write a) = (true, [])
behind (answered.Fetch a) = (true, [])
behind (answered.Apply a) = (true, [])
behind answered.Done = (true, [])
behind (answered.Rotate a) = (true, [])
behind (answered.Purge a) = (true, [])
behind (answered.Now t) = (true, [])
behind (answered.Read n) = (true, [])
behind (answered.ReadUnreachable n) = (true, [])
behind answered.Unknown = (true, [])
behind answered.Stored = (true, [])
behind (answered.Old n) = (true, [])
behind answered.Nothing = (true, [])
behind (answered.Told lines) = (false, lines)
behind (answered.Refused refusal) = (true, [])
behind (answered.Begun job) = (true, [])
behind answered.Going = (true, [])
behind (answered.Failed failure) = (true, failure.lines)
behind answered.NoJob = (true, [])
behind (answered.Held until) = (true, [])
behind (answered.Taken node until) = (true, [])
behind answered.Released = (true, [])
behind answered.NotHeld = (true, [])
behind answered.Lapsed = (true, [])

-- `N WORDS: REPLY`, and the lines after it, each after two spaces
unfoldable pub line_text : List HostPort → ℕ → Turn → Reply → List ℕ
line_text names number t r = decimal number ++ codes " " ++ words_text names t ++ codes ": " ++ answer_text names r ++ codes "\n" ++ told_lines (codes "  ") names (behind r).1

-- a line for each turn with its reply, numbered from this number on
abbrev pub lines_text : List HostPort → ℕ → List (Turn × Reply) → List ℕ
lines_text names number [] = []
lines_text names number (e ∷ es) = line_text names number e.0 e.1 ++ lines_text names (number + 1) es

-- the reply's own line, if it has one
abbrev pub own_text : List HostPort → Reply → Bool → List ℕ
own_text names r own = if own then answer_text names r ++ codes "\n" else []

-- what a single command writes of its reply: the lines of what is done, else the reply and the lines after it
unfoldable pub plain_text_of : List HostPort → Reply → List ℕ
plain_text_of names r = own_text names r (behind r).0 ++ told_lines [] names (behind r).1
