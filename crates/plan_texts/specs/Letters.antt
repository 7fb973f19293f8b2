-- Letters: by which letter a plan speaks of each server.
use Rattle.std.specs.Prelude.{ℕ, ◌+◌, ◌/◌, ◌%◌, ◌==◌, nat_lt, List, [], ◌∷◌, ◌++◌, decimal, fold, position, if◌then◌else◌, Option, Some, None}
use Rattle.plan_texts.specs.Prelude.{Aim, EndOf, ExecOf, Op, ServerNo, list_any}
use Rattle.plan_texts.specs.Prelude.op
use Rattle.plan_texts.specs.declared.line.Expect.{Expect}
use Rattle.plan_texts.specs.declared.line.Expect.TheVariants as expect
use Rattle.plan_texts.specs.declared.line.Line.{Line}
use Rattle.plan_texts.specs.declared.line.Line.TheVariants as line

-- ---- the order in which servers are first spoken of

abbrev pub with_server : List ServerNo → ServerNo → List ServerNo
with_server order n = if list_any (λ m. m.0 == n.0) order then order else order ++ n ∷ []

abbrev pub with_given : List ServerNo → Option ServerNo → List ServerNo
with_given order None = order
with_given order (Some n) = with_server order n

-- the server to which an operation's statements are sent
abbrev pub subject : Op → Option ServerNo
subject (op.Status n from) = Some n
subject (op.Stop n) = Some n
subject (op.StopReceiver n) = Some n
subject (op.Start n) = Some n
subject (op.Reset n) = Some n
subject (op.Detach n) = Some n
subject (op.Reattach n) = Some n
subject (op.ReadOnly n on) = Some n
subject (op.Until n aim) = Some n
subject (op.Await n aim) = Some n
subject (op.AwaitSet n m) = Some n
subject (op.Settle n) = Some n
subject (op.Cross c a b) = Some a
subject (op.Same n) = Some n
subject (op.Auto n m) = Some n
subject (op.Match n m every) = Some n
subject (op.CrossMatch n m) = Some n
subject (op.Finish lines) = None

abbrev pub server_of : Aim → ServerNo
server_of (EndOf n) = n
server_of (ExecOf n) = n

-- the other server of which it speaks
abbrev pub other : Op → Option ServerNo
other (op.Status n from) = from
other (op.Stop n) = None
other (op.StopReceiver n) = None
other (op.Start n) = None
other (op.Reset n) = None
other (op.Detach n) = None
other (op.Reattach n) = None
other (op.ReadOnly n on) = None
other (op.Until n aim) = Some (server_of aim)
other (op.Await n aim) = Some (server_of aim)
other (op.AwaitSet n m) = Some m
other (op.Settle n) = None
other (op.Cross c a b) = Some b
other (op.Same n) = None
other (op.Auto n m) = Some m
other (op.Match n m every) = Some m
other (op.CrossMatch n m) = Some m
other (op.Finish lines) = None

-- the server of which an expectation speaks
abbrev pub expected_of : Expect → Option ServerNo
expected_of expect.AsTold = None
expected_of (expect.Below n) = Some n
expected_of expect.Root = None
expected_of expect.Away = None
expected_of expect.Gone = None
expected_of expect.AttachedByAuto = None
expected_of expect.DetachedByAuto = None
expected_of (expect.ByHand n) = Some n
expected_of (expect.Behind n) = Some n

-- with the servers of which a line speaks
unfoldable pub with_spoken : List ServerNo → Line → List ServerNo
with_spoken order (line.Does o e) = with_given (with_given (with_given order (subject o)) (other o)) (expected_of e)
with_spoken order (line.Chosen n before less) = with_server (with_server order n) before
with_spoken order (line.Lost n beside apart) = with_server (with_server order n) beside

-- the servers of which lines speak, each once, in the order in which they are first spoken of
abbrev pub order_of : List Line → List ServerNo
order_of lines = fold with_spoken [] lines

-- ---- letters

-- A to Z, and then each of them with a number
abbrev pub letter_at : ℕ → List ℕ
letter_at k = (65 + k % 26) ∷ (if nat_lt k 26 then [] else decimal (k / 26))

abbrev pub letter_found : Option ℕ → List ℕ
letter_found None = []
letter_found (Some k) = letter_at k

-- that of a server is that of its place in the order
unfoldable pub letter : List ServerNo → ServerNo → List ℕ
letter order n = letter_found (position (λ m. m.0 == n.0) order)
