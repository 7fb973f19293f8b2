-- Examples: two plans as texts, and lines of operations and expectations that these don't have.
use Rattle.std.specs.Prelude.{ℕ, true, false, List, [], ◌∷◌, ◌++◌, codes, map, Some, None}
use Rattle.plan_texts.specs.Prelude.{About, Back, Cross, CrossMatch, Detach, Down, Finish, HostPort, Match, Op, Reattach, Same, ServerNo, Settle}
use Rattle.plan_texts.specs.Prelude.{Status, StopReceiver, Up, auto, up}
use Rattle.plan_texts.specs.declared.line.Apart.TheVariants as apart
use Rattle.plan_texts.specs.declared.line.Expect.TheVariants as expect
use Rattle.plan_texts.specs.declared.line.Line.{Line}
use Rattle.plan_texts.specs.declared.line.Line.TheVariants as line
use Rattle.plan_texts.specs.Texts.{branch_words, warning}

abbrev pub no : ℕ → ServerNo
no n = record { 0 = n }

abbrev pub at_home : List ℕ → HostPort
at_home host = record { host = host; port = 3306 }

abbrev pub three_names : List HostPort
three_names = at_home (codes "m") ∷ at_home (codes "s") ∷ at_home (codes "r") ∷ []

-- operations that expect nothing else
abbrev pub as_told : List Op → List Line
as_told ops = map (λ o. line.Does o expect.AsTold) ops

-- r, which is below s, goes to m
abbrev pub move_up_ops : List Op
move_up_ops = up (no 2) (no 1) (no 0) ++ Finish [] ∷ []

abbrev pub move_up_text : List ℕ
move_up_text =
    warning
    ++ (codes "server A r:3306\n"
    ++ (codes "server B s:3306\n"
    ++ (codes "server C m:3306\n"
    ++ (codes "1 A STOP REPLICA;\n"
    ++ (codes "2 B STOP REPLICA;\n"
    ++ (codes "3 B SHOW REPLICA STATUS; SHOW BINARY LOG STATUS; -- note B; must be below C\n"
    ++ (codes "4 A SHOW REPLICA STATUS; SHOW BINARY LOG STATUS; -- note A; must be below B\n"
    ++ (codes "5 A START REPLICA UNTIL SOURCE_LOG_FILE=:B.end.file, SOURCE_LOG_POS=:B.end.pos; -- not where A.exec >= B.end\n"
    ++ (codes "6 A SHOW REPLICA STATUS; SHOW BINARY LOG STATUS; -- note A; again until A.exec >= B.end\n"
    ++ (codes "7 A STOP REPLICA;\n"
    ++ (codes "8 A CHANGE REPLICATION SOURCE TO SOURCE_HOST='m', SOURCE_PORT=3306, SOURCE_LOG_FILE=:B.exec.file, SOURCE_LOG_POS=:B.exec.pos, SOURCE_AUTO_POSITION=0; -- only where A is below B at B.end, stopped\n"
    ++ (codes "9 A START REPLICA;\n"
    ++ (codes "10 B START REPLICA;\n"
    ++ codes "11 A SHOW REPLICA STATUS; SHOW BINARY LOG STATUS; -- note A\n")))))))))))))

-- r goes below m, by what was executed
abbrev pub move_gtid_ops : List Op
move_gtid_ops = auto (no 2) (no 0) ++ Finish [] ∷ []

abbrev pub move_gtid_text : List ℕ
move_gtid_text =
    warning
    ++ (codes "server A r:3306\n"
    ++ (codes "server B m:3306\n"
    ++ (codes "1 A STOP REPLICA;\n"
    ++ (codes "2 A SHOW REPLICA STATUS; SHOW BINARY LOG STATUS; -- note A\n"
    ++ (codes "3 B SELECT WAIT_FOR_EXECUTED_GTID_SET(':A.gtids', 1); -- again until it answers 0; until then its applier must be on\n"
    ++ (codes "4 B SHOW REPLICA STATUS; SHOW BINARY LOG STATUS; -- note B\n"
    ++ (codes "5 A CHANGE REPLICATION SOURCE TO SOURCE_HOST='m', SOURCE_PORT=3306, SOURCE_AUTO_POSITION=1; -- only where A.gtids are in B.gtids, stopped; only where B.purged is in A.gtids\n"
    ++ (codes "6 A START REPLICA;\n"
    ++ codes "7 A SHOW REPLICA STATUS; SHOW BINARY LOG STATUS; -- note A\n"))))))))

-- what plans may do with r, which is below s and then below m, one after another
abbrev pub other_ops : List Op
other_ops =
    StopReceiver (no 2) ∷ Settle (no 2) ∷ Detach (no 2) ∷ Reattach (no 2) ∷ Status (no 2) (Some (no 1)) ∷ Status (no 2) (Some (no 0)) ∷ Same (no 2)
    ∷ Match (no 2) (no 0) 7 ∷ CrossMatch (no 2) (no 0) ∷ Cross Up (no 2) (no 1) ∷ Cross About (no 2) (no 1) ∷ Cross Back (no 2) (no 1) ∷ []

abbrev pub other_text : List ℕ
other_text =
    warning
    ++ (codes "server A r:3306\n"
    ++ (codes "server B s:3306\n"
    ++ (codes "server C m:3306\n"
    ++ (codes "1 A STOP REPLICA IO_THREAD;\n"
    ++ (codes "2 A SHOW REPLICA STATUS; SHOW BINARY LOG STATUS; -- note A; again until A.exec = A.read or its applier is off\n"
    ++ (codes "3 A STOP REPLICA; SHOW REPLICA STATUS; SHOW BINARY LOG STATUS; CHANGE REPLICATION SOURCE TO SOURCE_HOST='//:A.source.host', SOURCE_PORT=:A.source.port, SOURCE_LOG_FILE=:A.exec.file, SOURCE_LOG_POS=:A.exec.pos, SOURCE_AUTO_POSITION=0; -- note A; only where A is attached, stopped\n"
    ++ (codes "4 A STOP REPLICA; SHOW REPLICA STATUS; SHOW BINARY LOG STATUS; CHANGE REPLICATION SOURCE TO SOURCE_HOST=':A.source.host', SOURCE_PORT=:A.source.port, SOURCE_LOG_FILE=:A.exec.file, SOURCE_LOG_POS=:A.exec.pos, SOURCE_AUTO_POSITION=0; -- note A; only where A is detached, stopped\n"
    ++ (codes "5 A SHOW REPLICA STATUS; SHOW BINARY LOG STATUS; -- note A; must be below B\n"
    ++ (codes "6 A SHOW REPLICA STATUS; SHOW BINARY LOG STATUS; -- note A; must be below C\n"
    ++ (codes "7 A CHANGE REPLICATION SOURCE TO SOURCE_HOST='m', SOURCE_PORT=3306, SOURCE_LOG_FILE=:A.exec.file, SOURCE_LOG_POS=:A.exec.pos, SOURCE_AUTO_POSITION=0; -- only where A is below C at A.exec, stopped\n"
    ++ (codes "8 A SHOW BINLOG EVENTS; -- note A.match, by hand: the place in the log of C behind all that A shows behind its last mark\n"
    ++ (codes "9 A CHANGE REPLICATION SOURCE TO SOURCE_HOST='m', SOURCE_PORT=3306, SOURCE_LOG_FILE=:A.match.file, SOURCE_LOG_POS=:A.match.pos, SOURCE_AUTO_POSITION=0; -- only where A stands as it did then, stopped\n"
    ++ (codes "10 A CHANGE REPLICATION SOURCE TO SOURCE_HOST=':B.source.host', SOURCE_PORT=:B.source.port, SOURCE_LOG_FILE=:B.exec.file, SOURCE_LOG_POS=:B.exec.pos, SOURCE_AUTO_POSITION=0; -- only where A is below B at B.end, stopped\n"
    ++ (codes "11 A CHANGE REPLICATION SOURCE TO SOURCE_HOST='s', SOURCE_PORT=3306, SOURCE_LOG_FILE=:B.end.file, SOURCE_LOG_POS=:B.end.pos, SOURCE_AUTO_POSITION=0; -- only where A ends at B.exec, stopped\n"
    ++ codes "12 A CHANGE REPLICATION SOURCE TO SOURCE_HOST='s', SOURCE_PORT=3306, SOURCE_LOG_FILE=:A.exec.file, SOURCE_LOG_POS=:A.exec.pos, SOURCE_AUTO_POSITION=0, SOURCE_USER=:user, SOURCE_PASSWORD=:password; -- only where A ends at A.end, stopped\n"))))))))))))))

-- m has failed; its replicas are s, which is chosen, and r, which has executed less and goes below s at the coordinate
-- that is found by hand
abbrev pub branch_plan : List Line
branch_plan =
    line.Does (Status (no 0) None) expect.Away ∷ line.Does (Status (no 1) None) (expect.Below (no 0))
    ∷ line.Does (Status (no 2) None) (expect.Below (no 0)) ∷ line.Chosen (no 1) (no 2) false ∷ line.Chosen (no 1) (no 2) true
    ∷ line.Does (Cross Down (no 2) (no 1)) (expect.Behind (no 1)) ∷ line.Does (Cross Down (no 2) (no 1)) expect.AsTold
    ∷ line.Does (Cross Up (no 2) (no 0)) (expect.ByHand (no 1)) ∷ line.Lost (no 2) (no 1) apart.Behind ∷ line.Lost (no 2) (no 1) apart.Ahead
    ∷ line.Lost (no 2) (no 0) apart.Unpaired ∷ line.Does (StopReceiver (no 2)) expect.Gone ∷ line.Does (Cross About (no 1) (no 2)) expect.AsTold
    ∷ line.Does (Status (no 1) None) expect.Root ∷ line.Does (Detach (no 2)) expect.AttachedByAuto ∷ line.Does (Reattach (no 2)) expect.DetachedByAuto
    ∷ line.Lost (no 2) (no 1) apart.Refused ∷ []

abbrev pub branch_text : List ℕ
branch_text =
    warning
    ++ (branch_words
    ++ (codes "server A m:3306\n"
    ++ (codes "server B s:3306\n"
    ++ (codes "server C r:3306\n"
    ++ (codes "1 A SHOW REPLICA STATUS; SHOW BINARY LOG STATUS; -- only while it isn't reached\n"
    ++ (codes "2 B SHOW REPLICA STATUS; SHOW BINARY LOG STATUS; -- note B; must be below A\n"
    ++ (codes "3 C SHOW REPLICA STATUS; SHOW BINARY LOG STATUS; -- note C; must be below A\n"
    ++ (codes "4 B -- chosen before C; only where B.exec >= C.exec\n"
    ++ (codes "5 B -- chosen before C; only where B.exec > C.exec\n"
    ++ (codes "6 C SHOW BINLOG EVENTS; CHANGE REPLICATION SOURCE TO SOURCE_HOST='s', SOURCE_PORT=3306, SOURCE_LOG_FILE=:C.match.file, SOURCE_LOG_POS=:C.match.pos, SOURCE_AUTO_POSITION=0; -- note C.match, by hand: the place in the log of B behind the last transaction that C has executed; only where B.exec > C.exec; only where C is below A at C.exec, stopped\n"
    ++ (codes "7 C CHANGE REPLICATION SOURCE TO SOURCE_HOST='s', SOURCE_PORT=3306, SOURCE_LOG_FILE=:B.end.file, SOURCE_LOG_POS=:B.end.pos, SOURCE_AUTO_POSITION=0; -- only where C is below A at B.exec, stopped\n"
    ++ (codes "8 C SHOW BINLOG EVENTS; CHANGE REPLICATION SOURCE TO SOURCE_HOST='s', SOURCE_PORT=3306, SOURCE_LOG_FILE=:C.match.file, SOURCE_LOG_POS=:C.match.pos, SOURCE_AUTO_POSITION=0; -- note C.match, by hand: the place in the log of B behind the last transaction that C has executed; only where C is below A at C.exec, stopped\n"
    ++ (codes "9 C -- lost, behind B; only where B.exec > C.exec\n"
    ++ (codes "10 C -- lost, ahead of B; only where C.exec > B.exec\n"
    ++ (codes "11 C -- lost, no kept pair of A\n"
    ++ (codes "12 C SHOW REPLICA STATUS; SHOW BINARY LOG STATUS; -- lost, unreachable; only while it isn't reached\n"
    ++ (codes "13 B CHANGE REPLICATION SOURCE TO SOURCE_HOST='r', SOURCE_PORT=3306, SOURCE_LOG_FILE=:C.end.file, SOURCE_LOG_POS=:C.end.pos, SOURCE_AUTO_POSITION=0; -- only where B ends at C.exec, stopped\n"
    ++ (codes "14 B SHOW REPLICA STATUS; SHOW BINARY LOG STATUS; -- note B; must be below nothing\n"
    ++ (codes "15 C STOP REPLICA; SHOW REPLICA STATUS; SHOW BINARY LOG STATUS; CHANGE REPLICATION SOURCE TO SOURCE_HOST='//:C.source.host', SOURCE_PORT=:C.source.port; -- note C; only where C is attached by auto position, stopped\n"
    ++ (codes "16 C STOP REPLICA; SHOW REPLICA STATUS; SHOW BINARY LOG STATUS; CHANGE REPLICATION SOURCE TO SOURCE_HOST=':C.source.host', SOURCE_PORT=:C.source.port; -- note C; only where C is detached by auto position, stopped\n"
    ++ codes "17 C -- lost, ahead of B; only where C.exec > B.exec\n"))))))))))))))))))))
