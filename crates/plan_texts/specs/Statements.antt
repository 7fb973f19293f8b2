-- Statements: what is sent for each operation (MySQL 8.0 Reference Manual, "Replication Statements"), with names in
-- place of coordinates that earlier lines noted.
use Rattle.std.specs.Prelude.{ℕ, ◌==◌, Bool, true, false, List, [], ◌++◌, codes, decimal, fold, if◌then◌else◌, slice_get, Option, Some, None}
use Rattle.plan_texts.specs.Prelude.{Aim, Crossing, EndOf, ExecOf, HostPort, Op, ServerNo, option_or}
use Rattle.plan_texts.specs.Prelude.cross
use Rattle.plan_texts.specs.Prelude.op
use Rattle.plan_texts.specs.declared.line.Expect.{Expect}
use Rattle.plan_texts.specs.declared.line.Expect.TheVariants as expect
use Rattle.plan_texts.specs.declared.line.Line.{Line}
use Rattle.plan_texts.specs.declared.line.Line.TheVariants as line
use Rattle.plan_texts.specs.Letters.{letter, subject}

-- ---- the sources that earlier lines have

-- that of a server, if the operation reads it and names one
abbrev pub told_by : ServerNo → Op → Option ServerNo
told_by n (op.Status m from) = if m.0 == n.0 then from else None
told_by n (op.Stop m) = None
told_by n (op.StopReceiver m) = None
told_by n (op.Start m) = None
told_by n (op.Reset m) = None
told_by n (op.Detach m) = None
told_by n (op.Reattach m) = None
told_by n (op.ReadOnly m on) = None
told_by n (op.Until m aim) = None
told_by n (op.Await m aim) = None
told_by n (op.AwaitSet m d) = None
told_by n (op.Settle m) = None
told_by n (op.Cross c a b) = None
told_by n (op.Same m) = None
told_by n (op.Auto m d) = None
told_by n (op.Match m d every) = None
told_by n (op.CrossMatch m d) = None
told_by n (op.Finish lines) = None

-- the source that an expectation names
abbrev pub below_in : Expect → Option ServerNo
below_in expect.AsTold = None
below_in (expect.Below m) = Some m
below_in expect.Root = None
below_in expect.Away = None
below_in expect.Gone = None
below_in expect.AttachedByAuto = None
below_in expect.DetachedByAuto = None
below_in (expect.ByHand m) = None
below_in (expect.Behind m) = None

-- that of a server, if the operation is sent to it
abbrev pub expected_by : ServerNo → Option ServerNo → Expect → Option ServerNo
expected_by n None e = None
expected_by n (Some m) e = if m.0 == n.0 then below_in e else None

abbrev pub told_in : ServerNo → Line → Option ServerNo
told_in n (line.Does o e) = option_or (told_by n o) (expected_by n (subject o) e)
told_in n (line.Chosen m before less) = None
told_in n (line.Lost m beside apart) = None

-- the latest that a line has
abbrev pub latest_source : List Line → ServerNo → Option ServerNo
latest_source before n = fold (λ found l. option_or (told_in n l) found) None before

-- ---- texts of statements

-- what is noted of a server: A.end, A.exec
unfoldable pub aim_words : List ServerNo → Aim → List ℕ
aim_words order (EndOf n) = letter order n ++ codes ".end"
aim_words order (ExecOf n) = letter order n ++ codes ".exec"

-- the coordinate that was noted
unfoldable pub spot_words : List ServerNo → Aim → List ℕ
spot_words order aim = codes "SOURCE_LOG_FILE=:" ++ aim_words order aim ++ codes ".file, SOURCE_LOG_POS=:" ++ aim_words order aim ++ codes ".pos"

abbrev pub address_words : Option HostPort → List ℕ
address_words None = []
address_words (Some name) = codes "SOURCE_HOST='" ++ name.host ++ codes "', SOURCE_PORT=" ++ decimal name.port

unfoldable pub named_words : List HostPort → ServerNo → List ℕ
named_words names n = address_words (slice_get names n.0)

-- the source that was noted of a server, after so many slashes
unfoldable pub own_words : List ServerNo → List ℕ → ServerNo → List ℕ
own_words order slashes n =
    codes "SOURCE_HOST='" ++ slashes ++ codes ":" ++ letter order n ++ codes ".source.host', SOURCE_PORT=:" ++ letter order n ++ codes ".source.port"

-- the source of a server: by its name if an earlier line has it, else as it was noted
abbrev pub source_words : List HostPort → List ServerNo → ServerNo → Option ServerNo → List ℕ
source_words names order n None = own_words order [] n
source_words names order n (Some source) = named_words names source

-- another source, by a coordinate
unfoldable pub change_words : List ServerNo → List ℕ → Aim → List ℕ
change_words order source aim = codes "CHANGE REPLICATION SOURCE TO " ++ source ++ codes ", " ++ spot_words order aim ++ codes ", SOURCE_AUTO_POSITION=0"

-- one who had no source needs a login
abbrev pub login_words : Option ServerNo → List ℕ
login_words None = codes ", SOURCE_USER=:user, SOURCE_PASSWORD=:password"
login_words (Some source) = []

abbrev pub reading_words : List ℕ
reading_words = codes "SHOW REPLICA STATUS; SHOW BINARY LOG STATUS"

abbrev pub read_only_words : Bool → List ℕ
read_only_words true = codes "SET PERSIST super_read_only=ON"
read_only_words false = codes "SET PERSIST super_read_only=OFF; SET PERSIST read_only=OFF"

-- ---- statements

abbrev pub cross_statement : List HostPort → List ServerNo → List Line → Crossing → ServerNo → ServerNo → List ℕ
cross_statement names order before cross.Up a b = change_words order (source_words names order b (latest_source before b)) (ExecOf b)
cross_statement names order before cross.Down a b = change_words order (named_words names b) (EndOf b)
cross_statement names order before cross.About a b = change_words order (named_words names b) (EndOf b) ++ login_words (latest_source before a)
cross_statement names order before cross.Back a b = change_words order (named_words names b) (ExecOf a) ++ login_words None

-- A server is stopped and read, and its source changes. The new source is the one that was noted, after so many
-- slashes: by the coordinate that was noted too; or, in auto position, alone.
abbrev pub own_change : List ServerNo → List ℕ → ServerNo → List ℕ
own_change order slashes n = codes "STOP REPLICA; " ++ reading_words ++ codes "; " ++ change_words order (own_words order slashes n) (ExecOf n)

abbrev pub auto_change : List ServerNo → List ℕ → ServerNo → List ℕ
auto_change order slashes n =
    codes "STOP REPLICA; " ++ reading_words ++ codes "; CHANGE REPLICATION SOURCE TO " ++ own_words order slashes n

-- another source, by a coordinate of its log that was found
abbrev pub match_change : List HostPort → List ServerNo → ServerNo → ServerNo → List ℕ
match_change names order n m =
    codes "CHANGE REPLICATION SOURCE TO " ++ named_words names m ++ codes ", SOURCE_LOG_FILE=:" ++ letter order n
    ++ codes ".match.file, SOURCE_LOG_POS=:" ++ letter order n ++ codes ".match.pos, SOURCE_AUTO_POSITION=0"

-- what is sent for an operation, after these lines; nothing for the end of a job
abbrev pub statement : List HostPort → List ServerNo → List Line → Op → List ℕ
statement names order before (op.Status n from) = reading_words
statement names order before (op.Stop n) = codes "STOP REPLICA"
statement names order before (op.StopReceiver n) = codes "STOP REPLICA IO_THREAD"
statement names order before (op.Start n) = codes "START REPLICA"
statement names order before (op.Reset n) = codes "STOP REPLICA; RESET REPLICA ALL"
statement names order before (op.Detach n) = own_change order (codes "//") n
statement names order before (op.Reattach n) = own_change order [] n
statement names order before (op.ReadOnly n on) = read_only_words on
statement names order before (op.Until n aim) = codes "START REPLICA UNTIL " ++ spot_words order aim
statement names order before (op.Await n aim) = reading_words
statement names order before (op.AwaitSet n m) = codes "SELECT WAIT_FOR_EXECUTED_GTID_SET(':" ++ letter order m ++ codes ".gtids', 1)"
statement names order before (op.Settle n) = reading_words
statement names order before (op.Cross c a b) = cross_statement names order before c a b
statement names order before (op.Same n) = change_words order (source_words names order n (latest_source before n)) (ExecOf n)
statement names order before (op.Auto n m) = codes "CHANGE REPLICATION SOURCE TO " ++ named_words names m ++ codes ", SOURCE_AUTO_POSITION=1"
statement names order before (op.Match n m every) = codes "SHOW BINLOG EVENTS"
statement names order before (op.CrossMatch n m) = match_change names order n m
statement names order before (op.Finish lines) = []

-- and if this is expected of its server
abbrev pub expected_statement : List HostPort → List ServerNo → List Line → Op → ServerNo → Expect → List ℕ
expected_statement names order before o n expect.AsTold = statement names order before o
expected_statement names order before o n (expect.Below m) = statement names order before o
expected_statement names order before o n expect.Root = statement names order before o
expected_statement names order before o n expect.Away = reading_words
expected_statement names order before o n expect.Gone = reading_words
expected_statement names order before o n expect.AttachedByAuto = auto_change order (codes "//") n
expected_statement names order before o n expect.DetachedByAuto = auto_change order [] n
expected_statement names order before o n (expect.ByHand m) = codes "SHOW BINLOG EVENTS; " ++ match_change names order n m
expected_statement names order before o n (expect.Behind m) = codes "SHOW BINLOG EVENTS; " ++ match_change names order n m
