-- The text of a plan: a warning, the servers by their letters, and a numbered line for each operation.
use Rattle.std.specs.Prelude.{ℕ, ◌+◌, Bool, true, false, List, [], ◌∷◌, ◌++◌, codes, decimal, slice_get, Option, Some, None}
use Rattle.plan_texts.specs.Prelude.{HostPort, Op, ServerNo, printed_at}
use Rattle.plan_texts.specs.declared.line.Expect.{Expect}
use Rattle.plan_texts.specs.declared.line.Line.{Line}
use Rattle.plan_texts.specs.declared.line.Line.TheVariants as line
use Rattle.plan_texts.specs.Conditions.{chosen_words, expected_condition, lost_words}
use Rattle.plan_texts.specs.Letters.{letter, order_of, subject}
use Rattle.plan_texts.specs.Statements.{expected_statement}

-- what a plan doesn't say
unfoldable pub warning : List ℕ
warning =
    codes "# Rehearsed on a model: no failing statements, no parts of transactions, no locks, no clock; its coordinates aren't your servers'.\n"
    ++ (codes "# It holds only where each server logs what it applies, no replica has transactions of its own, appliers are single, unfiltered, not\n"
    ++ (codes "# delayed and without errors, and nobody else changes replication. Take each coordinate from the line that noted it, never from the\n"
    ++ (codes "# rehearsal. Stop where a condition fails. STOP may wait. A restart starts threads and forgets read_only that isn't persisted;\n"
    ++ codes "# privileged users pass it. What a replica received and hasn't executed is gone once it is reset, detached or moved.\n")))

-- ---- servers

-- server LETTER NAME
abbrev pub server_line : List HostPort → List ServerNo → ServerNo → List ℕ
server_line names order n = codes "server " ++ letter order n ++ codes " " ++ printed_at (slice_get names n.0) ++ codes "\n"

abbrev pub server_lines : List HostPort → List ServerNo → List ServerNo → List ℕ
server_lines names order [] = []
server_lines names order (n ∷ ns) = server_line names order n ++ server_lines names order ns

-- ---- lines

-- N LETTER
abbrev pub head_words : List ServerNo → ℕ → ServerNo → List ℕ
head_words order number n = decimal number ++ codes " " ++ letter order n

-- N LETTER STATEMENTS; -- WHAT
abbrev pub op_line : List HostPort → List ServerNo → List Line → ℕ → Op → Expect → Option ServerNo → List ℕ
op_line names order before number o e None = []
op_line names order before number o e (Some n) =
    head_words order number n ++ codes " " ++ expected_statement names order before o n e ++ codes ";" ++ expected_condition order before o n e ++ codes "\n"

-- a line after these, with its number
abbrev pub line_text : List HostPort → List ServerNo → List Line → ℕ → Line → List ℕ
line_text names order before number (line.Does o e) = op_line names order before number o e (subject o)
line_text names order before number (line.Chosen n other less) = head_words order number n ++ chosen_words order n other less ++ codes "\n"
line_text names order before number (line.Lost n beside apart) = head_words order number n ++ lost_words order n beside apart ++ codes "\n"

-- the lines after these, from a number on
abbrev pub line_texts : List HostPort → List ServerNo → ℕ → List Line → List Line → List ℕ
line_texts names order number before [] = []
line_texts names order number before (l ∷ ls) =
    line_text names order before number l ++ line_texts names order (number + 1) (before ++ l ∷ []) ls

-- ---- the whole

-- what the plan of a recovery or a regroup is, and what it can't know
unfoldable pub branch_words : List ℕ
branch_words =
    codes "# This is one branch: the expected one, as the book stands. Lines with \"chosen\" or \"lost\" say on what noted coordinates it depends.\n"
    ++ (codes "# Where a condition fails, start the replicas that are stopped, read the servers again, and print the plan anew.\n"
    ++ (codes "# A server that is reached again hasn't failed: don't go on.\n"
    ++ (codes "# A line \"by hand\" wants a coordinate of the new source's log. Find it there: a pair that was kept of a working server may be wrong.\n"
    ++ codes "# No plan knows what the failed server executed and no replica received.\n")))

abbrev pub branch_lines : Bool → List ℕ
branch_lines false = []
branch_lines true = branch_words

-- the lines, by servers in an order
unfoldable pub ordered_text : List HostPort → List ServerNo → Bool → List Line → List ℕ
ordered_text names order branches lines =
    warning ++ (branch_lines branches ++ (server_lines names order order ++ line_texts names order 1 [] lines))

-- a plan's lines as text, for servers of these names; if it is one of several branches, the text has that
unfoldable pub plan_text : List HostPort → Bool → List Line → List ℕ
plan_text names branches lines = ordered_text names (order_of lines) branches lines
