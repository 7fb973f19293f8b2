-- What a command comes to, by what refuses it, and that it leaves ids.
use Rattle.std.proofs.Common.{◌≡◌, ◌∙◌, ◌+◌, ℕ, List, [], sym, ap, Option, Some, None, Result, Ok, Err}
use Rattle.command_outcomes.proofs.Prelude.{BookState, Change, LeavesIds, Numbers, Outcome, Refusal, ServerNo, Unended, allowed, asked, begun}
use Rattle.command_outcomes.proofs.Prelude.{decided, discovered, first_of, forgotten, only_lines, refusal, unless_refused}
use Rattle.recovery_core.specs.KeptRows.declared.observation.Observation.{Observation}
use Rattle.recovery_core.specs.ServerWords.declared.status.Status.{Status as Seen}
use Rattle.recovery_core.specs.Commands.declared.line.Line.{Line}
use Rattle.asking_commands.specs.declared.answers.AnswerFault.TheVariants as fault
use Rattle.recovery_core.specs.AuditLog.Audits.{AuditState}
use Rattle.book_commands.specs.declared.decided.Decided.{Decided}
use Rattle.recovery_core.specs.Permission.Checks.{permitted}
use Rattle.command_outcomes.specs.Prelude.answered
use Rattle.command_outcomes.specs.declared.command.Update.TheVariants as update

-- of two tests the first that refuses
pub refused-first : (unknown later : Option Refusal) (why : Refusal) → Err why ≡ allowed unknown → Some why ≡ first_of unknown later
refused-first None later why h = cc
refused-first (Some r) later why h = let same : why ≡ r = cc in ap (λ (x : Refusal). Some x) same

-- what a command that only asks comes to, by its answer
pub asked_told : (reads : ℕ) (p : Result Unit Refusal) (lines given : List Line) → unless_refused p lines ≡ Ok given → only_lines reads given ≡ asked reads p lines
asked_told reads (Ok permit) lines given e = let same : lines ≡ given = cc in ap (only_lines reads) (sym same)
asked_told reads (Err r) lines given e = cc

-- its outcome may list its changes by another name
abbrev told_with_rows : ℕ → List Line → List Change → Outcome
told_with_rows reads lines rows = record { reply = answered.Told lines; book = update.Stays; rows = rows; reads = reads }

pub without-rows : (reads : ℕ) (lines : List Line) (rows : List Change) → rows ≡ [] → told_with_rows reads lines rows ≡ only_lines reads lines
without-rows reads lines rows none = ap (told_with_rows reads lines) none

pub asked_refused : (reads : ℕ) (p : Result Unit Refusal) (lines : List Line) (why : Refusal) → unless_refused p lines ≡ Err (fault.Refused why) → refusal reads why ≡ asked reads p lines
asked_refused reads (Ok permit) lines why e = cc
asked_refused reads (Err r) lines why e = let same : r ≡ why = cc in ap (refusal reads) (sym same)

-- what a command that begins a job comes to, by what its permission answers
pub refused-begun : (n : Numbers) (r : Option Refusal) (why : Refusal) (list : List ServerNo) (job : Unended) → permitted r ≡ Err why → refusal n.reads why ≡ begun n r list job
refused-begun n None why list job h = cc
refused-begun n (Some r) why list job h = let same : r ≡ why = cc in ap (refusal n.reads) (sym same)

abbrev begun_with : Numbers → Unended → List ServerNo → List Change → Outcome
begun_with n job list rows = record { reply = answered.Begun (n.last_job + 1); book = update.Begins (record { list = list; job = job }); rows = rows; reads = n.reads }

pub permitted-begun : (n : Numbers) (r : Option Refusal) (list given : List ServerNo) (job : Unended) (rows : List Change) → permitted r ≡ Ok tt → given ≡ list → rows ≡ []
    → begun_with n job given rows ≡ begun n r list job
permitted-begun n None list given job rows h same none = ap (λ (l : List ServerNo). begun_with n job l rows) same ∙ ap (begun_with n job list) none
permitted-begun n (Some r) list given job rows h same none = cc

-- neither a question nor a decision begins an entry
pub asked-leaves : (reads : ℕ) (p : Result Unit Refusal) (lines : List Line) → LeavesIds (asked reads p lines).book
asked-leaves reads (Ok permit) lines = tt
asked-leaves reads (Err r) lines = tt

pub decided-leaves : (reads : ℕ) (a : AuditState) (p : Result Unit Refusal) (d : Decided) → LeavesIds (decided reads a p d).book
decided-leaves reads a (Ok permit) d = tt
decided-leaves reads a (Err r) d = tt

-- nor what is read of a server, nor a plan
pub discovered-leaves : (b : BookState) (reads : ℕ) (o : Observation) (seen : Option Seen) → LeavesIds (discovered b reads o seen).book
discovered-leaves b reads o None = tt
discovered-leaves b reads o (Some seen) = tt

pub forgotten-leaves : (reads : ℕ) (p : Result Unit Refusal) (i : ServerNo) → LeavesIds (forgotten reads p i).book
forgotten-leaves reads (Ok permit) i = tt
forgotten-leaves reads (Err r) i = tt

pub begun-leaves : (n : Numbers) (refusal : Option Refusal) (list : List ServerNo) (job : Unended) → LeavesIds (begun n refusal list job).book
begun-leaves n None list job = tt
begun-leaves n (Some r) list job = tt
