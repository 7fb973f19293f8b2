-- Conditions: what is after a line's statements. They are what to note, when to repeat, and the condition under which
-- alone the statements may be sent.
use Rattle.std.specs.Prelude.{ℕ, Bool, true, false, List, [], ◌++◌, codes, Option, Some, None}
use Rattle.plan_texts.specs.Prelude.{Aim, Crossing, EndOf, ExecOf, Op, ServerNo}
use Rattle.plan_texts.specs.Prelude.cross
use Rattle.plan_texts.specs.Prelude.op
use Rattle.plan_texts.specs.declared.line.Apart.{Apart}
use Rattle.plan_texts.specs.declared.line.Apart.TheVariants as apart
use Rattle.plan_texts.specs.declared.line.Expect.{Expect}
use Rattle.plan_texts.specs.declared.line.Expect.TheVariants as expect
use Rattle.plan_texts.specs.declared.line.Line.{Line}
use Rattle.plan_texts.specs.Letters.{letter}
use Rattle.plan_texts.specs.Statements.{aim_words, latest_source}

abbrev pub note_words : List ServerNo → ServerNo → List ℕ
note_words order n = codes " -- note " ++ letter order n

abbrev pub below_words : List ServerNo → Option ServerNo → List ℕ
below_words order None = []
below_words order (Some source) = codes "; must be below " ++ letter order source

-- noted, with a word about the server
abbrev pub noted_words : List ServerNo → ServerNo → List ℕ → List ℕ
noted_words order n word = note_words order n ++ codes "; only where " ++ letter order n ++ word

-- the source of a server: by its letter if an earlier line has it, else as it was noted
abbrev pub source_letter : List ServerNo → ServerNo → Option ServerNo → List ℕ
source_letter order n None = letter order n ++ codes ".source"
source_letter order n (Some source) = letter order source

-- the server has executed so far
abbrev pub reaches_words : List ServerNo → ServerNo → Aim → List ℕ
reaches_words order n aim = letter order n ++ codes ".exec >= " ++ aim_words order aim

-- the server is below this one, so far, and stopped
unfoldable pub below_at_words : List ServerNo → ServerNo → List ℕ → Aim → List ℕ
below_at_words order n source aim =
    codes "only where " ++ letter order n ++ codes " is below " ++ source ++ codes " at " ++ aim_words order aim ++ codes ", stopped"

abbrev pub stands_words : List ServerNo → ServerNo → List ℕ → Aim → List ℕ
stands_words order n source aim = codes " -- " ++ below_at_words order n source aim

-- the server's own log ends there, and it is stopped
abbrev pub ends_words : List ServerNo → ServerNo → Aim → List ℕ
ends_words order n aim = codes " -- only where " ++ letter order n ++ codes " ends at " ++ aim_words order aim ++ codes ", stopped"

-- the first has executed all that the second has, or more
abbrev pub over_words : Bool → List ℕ
over_words false = codes ".exec >= "
over_words true = codes ".exec > "

unfoldable pub passes_words : List ServerNo → ServerNo → ServerNo → Bool → List ℕ
passes_words order n m more = codes "; only where " ++ letter order n ++ over_words more ++ letter order m ++ codes ".exec"

abbrev pub cross_condition : List ServerNo → List Line → Crossing → ServerNo → ServerNo → List ℕ
cross_condition order before cross.Up a b = stands_words order a (letter order b) (EndOf b)
cross_condition order before cross.Down a b = stands_words order a (source_letter order b (latest_source before b)) (ExecOf b)
cross_condition order before cross.About a b = ends_words order a (ExecOf b)
cross_condition order before cross.Back a b = ends_words order a (EndOf a)

-- all that the first has executed is of the second, and all that the second has purged is of the first
abbrev pub contained_words : List ServerNo → ServerNo → ServerNo → List ℕ
contained_words order n m =
    codes " -- only where " ++ letter order n ++ codes ".gtids are in " ++ letter order m ++ codes ".gtids, stopped; only where "
    ++ letter order m ++ codes ".purged is in " ++ letter order n ++ codes ".gtids"

-- what is after the statements of an operation, after these lines
abbrev pub condition : List ServerNo → List Line → Op → List ℕ
condition order before (op.Status n from) = note_words order n ++ below_words order from
condition order before (op.Stop n) = []
condition order before (op.StopReceiver n) = []
condition order before (op.Start n) = []
condition order before (op.Reset n) = []
condition order before (op.Detach n) = noted_words order n (codes " is attached, stopped")
condition order before (op.Reattach n) = noted_words order n (codes " is detached, stopped")
condition order before (op.ReadOnly n on) = []
condition order before (op.Until n aim) = codes " -- not where " ++ reaches_words order n aim
condition order before (op.Await n aim) = note_words order n ++ codes "; again until " ++ reaches_words order n aim
condition order before (op.AwaitSet n m) = codes " -- again until it answers 0; until then its applier must be on"
condition order before (op.Settle n) =
    note_words order n ++ codes "; again until " ++ letter order n ++ codes ".exec = " ++ letter order n ++ codes ".read or its applier is off"
condition order before (op.Cross c a b) = cross_condition order before c a b
condition order before (op.Same n) = stands_words order n (source_letter order n (latest_source before n)) (ExecOf n)
condition order before (op.Auto n m) = contained_words order n m
condition order before (op.Match n m every) =
    note_words order n ++ codes ".match, by hand: the place in the log of " ++ letter order m ++ codes " behind all that " ++ letter order n
    ++ codes " shows behind its last mark"
condition order before (op.CrossMatch n m) = codes " -- only where " ++ letter order n ++ codes " stands as it did then, stopped"
condition order before (op.Finish lines) = []

-- ---- what is expected

-- the place of a server in the log of its new source is found by hand; it is still below its source, if it was noted
abbrev pub by_hand_words : List ServerNo → ServerNo → ServerNo → List ℕ
by_hand_words order n m =
    note_words order n ++ codes ".match, by hand: the place in the log of " ++ letter order m ++ codes " behind the last transaction that "
    ++ letter order n ++ codes " has executed"

abbrev pub still_words : List ServerNo → List Line → ServerNo → List ℕ
still_words order before n = codes "; " ++ below_at_words order n (source_letter order n (latest_source before n)) (ExecOf n)

-- what is after the statements of an operation if this is expected of its server
abbrev pub expected_condition : List ServerNo → List Line → Op → ServerNo → Expect → List ℕ
expected_condition order before o n expect.AsTold = condition order before o
expected_condition order before o n (expect.Below m) = note_words order n ++ below_words order (Some m)
expected_condition order before o n expect.Root = note_words order n ++ codes "; must be below nothing"
expected_condition order before o n expect.Away = codes " -- only while it isn't reached"
expected_condition order before o n expect.Gone = codes " -- lost, unreachable; only while it isn't reached"
expected_condition order before o n expect.AttachedByAuto = noted_words order n (codes " is attached by auto position, stopped")
expected_condition order before o n expect.DetachedByAuto = noted_words order n (codes " is detached by auto position, stopped")
expected_condition order before o n (expect.ByHand m) = by_hand_words order n m ++ still_words order before n
expected_condition order before o n (expect.Behind m) = by_hand_words order n m ++ passes_words order m n true ++ still_words order before n

-- ---- lines that send nothing

unfoldable pub chosen_words : List ServerNo → ServerNo → ServerNo → Bool → List ℕ
chosen_words order n before less = codes " -- chosen before " ++ letter order before ++ passes_words order n before less

-- why a replica is lost, beside this one; if that is by what was noted, it must be so
abbrev pub lost_words : List ServerNo → ServerNo → ServerNo → Apart → List ℕ
lost_words order n beside apart.Behind = codes " -- lost, behind " ++ letter order beside ++ passes_words order beside n true
lost_words order n beside apart.Ahead = codes " -- lost, ahead of " ++ letter order beside ++ passes_words order n beside true
lost_words order n beside apart.Refused = codes " -- lost, ahead of " ++ letter order beside ++ passes_words order n beside true
lost_words order n beside apart.Unpaired = codes " -- lost, no kept pair of " ++ letter order beside
