-- A job's turn, of a plan or a recovery, makes neither writes nor new files.
use Rattle.std.proofs.Common.{◌≡◌, ℕ, ◌+◌, Bool, true, false, cond, List, [], ◌∷◌, ◌++◌, refl, ap, Option, Some, None, arith, IfSome, All, count_by}
use Rattle.run_laws.proofs.Prelude.{All-append, All-cons, All-head, All-nil, All-tail, Ask, Attempts, BookState, Cause, Deed, Ends, Exchange, Goes}
use Rattle.run_laws.proofs.Prelude.{IsAttachment, Job, Moment, Observation, Op, Purpose, Request, ServerNo, Sight, Stage, Stops, Unended, World}
use Rattle.run_laws.proofs.Prelude.{attempts, bridge_at, by_deed, by_ops, can_attach, crossed-of, crossing_of, deed_of, flown, ground_of, hooked-has}
use Rattle.run_laws.proofs.Prelude.{is_rotate, is_write, promoted_in, read_by, restarts, seen_of, settled, sum_by-cons, turned}
use Rattle.run_laws.proofs.Prelude.Deciding.{decided}
use Rattle.run_laws.proofs.Prelude.RecoveryPlans.{Recovery}
use Rattle.run_laws.proofs.Prelude.Turns.{Attempt}
use Rattle.run_laws.proofs.Prelude.asking
use Rattle.run_laws.proofs.Prelude.cross
use Rattle.run_laws.proofs.Prelude.purpose
use Rattle.run_laws.proofs.Prelude.stage
use Rattle.run_laws.proofs.Prelude.taking
use Rattle.run_laws.proofs.Prelude.unended
use Rattle.run_laws.proofs.Prelude.doing

-- an exchange that adds neither a transaction of a client nor a file
pub record IsPlain (e : Exchange) : Type 0 where
  pub writes_not : is_write e ≡ false
  pub rotates_not : is_rotate e ≡ false

request-plain : (n : ServerNo) (a : Ask) → IsPlain (Request n.0 a)
request-plain n a = record { writes_not = refl; rotates_not = refl }

restarts-plain : (hands : List ServerNo) → All IsPlain (restarts hands)
restarts-plain [] = All-nil IsPlain
restarts-plain (n ∷ ns) = All-cons IsPlain (Request n.0 asking.Start) (restarts ns) (request-plain n asking.Start) (restarts-plain ns)

one-plain : (e : Exchange) → IsPlain e → All IsPlain (e ∷ [])
one-plain e is = All-cons IsPlain e [] is (All-nil IsPlain)

attachment-plain : (n : ServerNo) (e : Exchange) → IsAttachment n e → IsPlain e
attachment-plain n e (doing.At expect to at) = record { writes_not = refl; rotates_not = refl }
attachment-plain n e (doing.BySet set to) = record { writes_not = refl; rotates_not = refl }

-- ---- each operation

plain-by : (w : World) (read : ℕ) (now : Moment) (j : Job) (rest : List Op) (d : Deed) (a : Attempt) → Attempts w read now j rest d a → All IsPlain (settled j a).exchanges
plain-by w read now j rest d a (doing.Misses n from c why) = restarts-plain j.hands
plain-by w read now j rest d a (doing.Fails x c why) = restarts-plain j.hands
plain-by w read now j rest d a (doing.Asks n b) = one-plain (Request n.0 b) (request-plain n b)
plain-by w read now j rest d a (doing.Begins n to c until) = one-plain (Request n.0 (asking.StartUntil c)) (request-plain n (asking.StartUntil c))
plain-by w read now j rest d a (doing.Attaches n x e is made of can done) = one-plain e (attachment-plain n e of)
plain-by w read now j rest d a _ = All-nil IsPlain

deed-plain : (w : World) (read : ℕ) (now : Moment) (j : Job) (rest : List Op) (d : Deed) → All IsPlain (settled j (by_deed w read now j rest d)).exchanges
deed-plain w read now j rest d = plain-by w read now j rest d (by_deed w read now j rest d) (attempts w read now j rest d)

turn-plain : (w : World) (read : ℕ) (now : Moment) (j : Job) → All IsPlain (turned w read now j).exchanges
turn-plain w read now j = go j.ops
  where
    go : (ops : List Op) → All IsPlain (settled j (by_ops w read now j ops)).exchanges
    go [] = All-nil IsPlain
    go (op ∷ rest) = deed-plain w read now j rest (deed_of op)

-- ---- a recovery's turn

append-plain : (es fs : List Exchange) → All IsPlain es → All IsPlain fs → All IsPlain (es ++ fs)
append-plain es fs one other = All-append IsPlain es fs one other

-- what is made beside an operation, if a recovery goes its way back
back-plain : (w : World) (n : ServerNo) (o : Option Exchange) → IfSome o (IsAttachment n) → All IsPlain (taking.that_can w o)
back-plain w n None of = All-nil IsPlain
back-plain w n (Some e) of = go (can_attach w e)
  where
    go : (b : Bool) → All IsPlain (cond b (e ∷ []) [])
    go true = one-plain e (attachment-plain n e of)
    go false = All-nil IsPlain

writes-plain : (m : ServerNo) → All IsPlain (taking.takes_writes m)
writes-plain m = one-plain (Request m.0 (asking.SetReadOnly false)) (request-plain m (asking.SetReadOnly false))

goes-back-plain : (w : World) (seen : List Sight) (m d : ServerNo) → All IsPlain (taking.goes_back w seen m d)
goes-back-plain w seen m d =
    append-plain (taking.that_can w (crossing_of seen cross.Back d m)) (Request d.0 asking.Start ∷ taking.takes_writes m)
    (back-plain w d (crossing_of seen cross.Back d m) (crossed-of d cross.Back (bridge_at (read_by cross.Back d m) (seen_of seen (read_by cross.Back d m).0))))
    (All-cons IsPlain (Request d.0 asking.Start) (taking.takes_writes m) (request-plain d asking.Start) (writes-plain m))

way-back-plain : (w : World) (seen : List Sight) (m : ServerNo) (s : Stage) → All IsPlain (taking.way_back w seen m s)
way-back-plain w seen m (stage.Switch k d) = goes-back-plain w seen k d
way-back-plain w seen m (stage.Meet k d) = All-nil IsPlain
way-back-plain w seen m (stage.Shut k d) = All-nil IsPlain
way-back-plain w seen m (stage.Switched k d) = All-nil IsPlain
way-back-plain w seen m (stage.Open n) = All-nil IsPlain
way-back-plain w seen m (stage.Opened n) = All-nil IsPlain
way-back-plain w seen m (stage.Close lines) = All-nil IsPlain
way-back-plain w seen m s = writes-plain m

undone-plain : (w : World) (u : Purpose) (seen : List Sight) (f : ServerNo) (s : Stage) → All IsPlain (taking.undone w u seen f s)
undone-plain w (purpose.Takeover d) seen f s = way-back-plain w seen f s
undone-plain w _ seen f s = All-nil IsPlain

last-plain : (w : World) (r : Recovery) → All IsPlain (taking.last_exchanges w r)
last-plain w r = append-plain (taking.undone w r.purpose r.core.seen r.failed r.stage) (restarts r.core.hands) (undone-plain w r.purpose r.core.seen r.failed r.stage) (restarts-plain r.core.hands)

met-plain : (w : World) (r : Recovery) (c : Cause) (ob : Option Observation) (f : taking.Fate) → All IsPlain (taking.met w r c ob f).exchanges
met-plain w r c ob taking.Fails = last-plain w r
met-plain w r c ob _ = All-nil IsPlain

attempted-plain : (w : World) (r : Recovery) (o : Op) (a : Attempt) → All IsPlain (settled r.core a).exchanges → All IsPlain (taking.attempted w r o a).exchanges
attempted-plain w r o (Goes ob es j) all = go (taking.barred_by r.stage r.failed j.seen)
  where
    go : (c : Option Cause) → All IsPlain (taking.on_going w r o ob es j c).exchanges
    go None = all
    go (Some c) = last-plain w r
attempted-plain w r o (Stops c ob) all = met-plain w r c ob (taking.fate w r.purpose r.stage c)
attempted-plain w r o (Ends lines) all = All-nil IsPlain

taken-plain : (w : World) (b : BookState) (read : ℕ) (now : Moment) (r : Recovery) → All IsPlain (taking.taken w b read now r).exchanges
taken-plain w b read now r = go (decided (ground_of w b now) r) (decided (ground_of w b now) r).core.ops
  where
    go : (d : Recovery) (ops : List Op) → All IsPlain (taking.acted w read now d ops).exchanges
    go d [] = last-plain w d
    go d (o ∷ rest) = attempted-plain w d o (by_deed w read now d.core rest (deed_of o)) (deed-plain w read now d.core rest (deed_of o))

-- ---- any job's

pub flown-plain : (w : World) (b : BookState) (read : ℕ) (now : Moment) (u : Unended) → All IsPlain (flown w b read now u).exchanges
flown-plain w b read now (unended.Plan j) = turn-plain w read now j
flown-plain w b read now (unended.Recovery r d) =
    let t = taking.taken w b read now r in
    hooked-has (λ x. All IsPlain x.exchanges) d (promoted_in b t) r t (λ s same. taken-plain w b read now r) (λ s. All-nil IsPlain)

abbrev tick : Bool → ℕ
tick b = cond b 1 0

-- none of them counts
pub none-counts : (test : Exchange → Bool) → ((e : Exchange) → IsPlain e → test e ≡ false) → (es : List Exchange) → All IsPlain es → count_by test es ≡ 0
none-counts test not_plain [] all = refl
none-counts test not_plain (e ∷ es) all =
    let here : tick (test e) ≡ 0 = ap tick (not_plain e (All-head IsPlain e es all)) in
    let rest : count_by test es ≡ 0 = none-counts test not_plain es (All-tail IsPlain e es all) in
    let sum : count_by test (e ∷ es) ≡ tick (test e) + count_by test es = sum_by-cons (λ x. tick (test x)) e es in
    omega (arith, here, rest, sum)
