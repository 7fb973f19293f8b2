-- What a job has in its hands is what it left stopped.
use Rattle.std.proofs.Common.{◌≡◌, ℕ, ◌+◌, Bool, true, false, cond, not, ◌||◌, List, [], ◌∷◌, ◌++◌, refl, sym, ◌∙◌, ap, subst, Option, Some, None, map, get_or, ◌⊎◌, inl, inr, arith, ◌==◌, fold, All, AllPairs}
use Rattle.cause_laws.proofs.Prelude.{All-cons, All-head, All-nil, All-tail, AllGoing, AllPairs-filter, Ask, Attempt, Attempts, Cause, Coord, Deed}
use Rattle.cause_laws.proofs.Prelude.{Done, Ended, Exchange, HasLeases, IsLeased, IsLeftStopped, IsMove, IsNoStart, IsTaken, IsWaitFor, Job}
use Rattle.cause_laws.proofs.Prelude.{KeepsLeases, Leases, Line, MayChange, Meeting, Misses, Moment, Op, Request, ServerNo, Status, Stopped, Threads}
use Rattle.cause_laws.proofs.Prelude.{Waited, World, Write, aim_of, all_pairs_push, asked_until, attachment_of, attempts, by_deed, by_ops, can_attach}
use Rattle.cause_laws.proofs.Prelude.{cases_Bool, changes_by, deed_of, eq-eqb, eqb-true, exchanges_in, false≢true, filter_passes, fold-append}
use Rattle.cause_laws.proofs.Prelude.{hands_after, is_in_hands, job_after, list_any, made, not-true, seen_of, settled, turn-leased, turn_at, until_by}
use Rattle.cause_laws.proofs.Prelude.{with_hand, without}
use Rattle.cause_laws.proofs.Prelude.asking
use Rattle.cause_laws.proofs.Prelude.deed
use Rattle.cause_laws.proofs.Prelude.step
use Rattle.cause_laws.proofs.Turning.{turn-idle, turn-taken}
use Rattle.cause_laws.proofs.Prelude.doing

-- ---- whether a server is left stopped, exchange by exchange

abbrev by_ask : Bool → Ask → Bool → Bool
by_ask true (asking.Stop which) b = true
by_ask true asking.Start b = false
by_ask _ _ b = b

abbrev one_on : ℕ → Bool → Exchange → Bool
one_on n b (Request k a) = by_ask (k == n) a b
one_on n b _ = b

abbrev left_on : ℕ → Bool → List Exchange → Bool
left_on n b es = fold (one_on n) b es

-- what one exchange is for a server: a stop, a start, or neither
data Part (n : ℕ) (e : Exchange) : Type 0 where
  AStop : (which : Threads) → e ≡ Request n (asking.Stop which) → ((b : Bool) → one_on n b e ≡ true) → Part n e
  AStart : e ≡ Request n asking.Start → ((b : Bool) → one_on n b e ≡ false) → Part n e
  Other : IsNoStart n e → ((b : Bool) → one_on n b e ≡ b) → Part n e

ask-part : (n k : ℕ) (a : Ask) → k ≡ n → Part n (Request k a)
ask-part n k (asking.Stop which) same = AStop which (ap (λ m. Request m (asking.Stop which)) same) (λ b. ap (λ t. by_ask t (asking.Stop which) b) (eq-eqb k n same))
ask-part n k asking.Start same = AStart (ap (λ m. Request m asking.Start) same) (λ b. ap (λ t. by_ask t asking.Start b) (eq-eqb k n same))
ask-part n k x same = Other (λ h. cc) (λ b. ap (λ t. by_ask t x b) (eq-eqb k n same))

other-part : (n k : ℕ) (a : Ask) → (k == n) ≡ false → Part n (Request k a)
other-part n k a apart = Other (λ h. let same : k ≡ n = cc in false≢true (sym apart ∙ eq-eqb k n same)) (λ b. ap (λ t. by_ask t a b) apart)

part : (n : ℕ) (e : Exchange) → Part n e
part n (Request k a) = go (cases_Bool (k == n))
  where
    go : ((k == n) ≡ true) ⊎ ((k == n) ≡ false) → Part n (Request k a)
    go (inl same) = ask-part n k a (eqb-true k n same)
    go (inr apart) = other-part n k a apart
part n (Write k size) = Other (λ h. cc) (λ b. refl)
part n _ = Other (λ h. cc) (λ b. refl)

-- the last stop is found, or nothing that wasn't so before
last-stop : (n : ℕ) (b : Bool) (es : List Exchange) → left_on n b es ≡ true → ((b ≡ true) × All (IsNoStart n) es) ⊎ IsLeftStopped n es
last-stop n b [] h = inl (h, All-nil (IsNoStart n))
last-stop n b (e ∷ es) h = go (part n e) (last-stop n (one_on n b e) es h)
  where
    behind : IsLeftStopped n es → IsLeftStopped n (e ∷ es)
    behind s = record { which = s.which; before = e ∷ s.before; behind = s.behind; split = ap (λ xs. e ∷ xs) s.split; none = s.none }

    go : Part n e → ((one_on n b e ≡ true) × All (IsNoStart n) es) ⊎ IsLeftStopped n es → ((b ≡ true) × All (IsNoStart n) (e ∷ es)) ⊎ IsLeftStopped n (e ∷ es)
    go p (inr s) = inr (behind s)
    go (AStop which is so) (inl h) = inr (record { which = which; before = []; behind = es; split = ap (λ x. x ∷ es) is; none = h.1 })
    go (AStart is so) (inl h) = absurd (false≢true (sym (so b) ∙ h.0))
    go (Other none so) (inl h) = inl (sym (so b) ∙ h.0, All-cons (IsNoStart n) e es none h.1)

stays-on : (n : ℕ) (es : List Exchange) → All (IsNoStart n) es → left_on n true es ≡ true
stays-on n [] all = refl
stays-on n (e ∷ es) all = go (part n e) (stays-on n es (All-tail (IsNoStart n) e es all))
  where
    go : Part n e → left_on n true es ≡ true → left_on n (one_on n true e) es ≡ true
    go (AStop which is so) rest = ap (λ b. left_on n b es) (so true) ∙ rest
    go (AStart is so) rest = absurd (All-head (IsNoStart n) e es all is)
    go (Other none so) rest = ap (λ b. left_on n b es) (so true) ∙ rest

stop-on : (n : ℕ) (b : Bool) (which : Threads) → one_on n b (Request n (asking.Stop which)) ≡ true
stop-on n b which = ap (λ t. by_ask t (asking.Stop which) b) (eq-eqb n n refl)

left-on : (n : ℕ) (b : Bool) (es : List Exchange) → IsLeftStopped n es → left_on n b es ≡ true
left-on n b es s =
    ap (left_on n b) s.split
    ∙ (fold-append (one_on n) b s.before (Request n (asking.Stop s.which) ∷ s.behind)
    ∙ (ap (λ t. left_on n t s.behind) (stop-on n (left_on n b s.before) s.which) ∙ stays-on n s.behind s.none))

-- ---- hands

abbrev pub has : ℕ → List ServerNo → Bool
has n hands = list_any (λ k. k.0 == n) hands

has-append : (n : ℕ) (xs ys : List ServerNo) → has n (xs ++ ys) ≡ (has n xs || has n ys)
has-append n [] ys = refl
has-append n (x ∷ xs) ys = go (x.0 == n) (has-append n xs ys)
  where
    go : (b : Bool) → has n (xs ++ ys) ≡ (has n xs || has n ys) → (b || has n (xs ++ ys)) ≡ ((b || has n xs) || has n ys)
    go true rest = refl
    go false rest = rest

-- a server that is taken out is there no longer, and every other as before
pub has-without : (n : ℕ) (hands : List ServerNo) (k : ServerNo) → has n (without hands k) ≡ cond (k.0 == n) false (has n hands)
has-without n [] k = go (k.0 == n)
  where
    go : (b : Bool) → false ≡ cond b false false
    go true = refl
    go false = refl
has-without n (x ∷ xs) k = go (cases_Bool (x.0 == k.0)) (cases_Bool (k.0 == n)) (has-without n xs k)
  where
    go : ((x.0 == k.0) ≡ true) ⊎ ((x.0 == k.0) ≡ false) → ((k.0 == n) ≡ true) ⊎ ((k.0 == n) ≡ false) → has n (without xs k) ≡ cond (k.0 == n) false (has n xs)
        → has n (cond (not (x.0 == k.0)) (x ∷ without xs k) (without xs k)) ≡ cond (k.0 == n) false ((x.0 == n) || has n xs)
    go (inl same) (inl one) rest =
        ap (λ b. has n (cond (not b) (x ∷ without xs k) (without xs k))) same
        ∙ (rest ∙ (ap (λ b. cond b false (has n xs)) one ∙ sym (ap (λ b. cond b false ((x.0 == n) || has n xs)) one)))
    go (inl same) (inr apart) rest =
        ap (λ b. has n (cond (not b) (x ∷ without xs k) (without xs k))) same
        ∙ (rest ∙ (ap (λ b. cond b false (has n xs)) apart
        ∙ sym (ap (λ b. cond b false ((x.0 == n) || has n xs)) apart ∙ ap (λ b. b || has n xs) (ap (λ m. m == n) (eqb-true x.0 k.0 same) ∙ apart))))
    go (inr other) (inl one) rest =
        ap (λ b. has n (cond (not b) (x ∷ without xs k) (without xs k))) other
        ∙ (ap (λ b. (x.0 == n) || b) rest
        ∙ (ap (λ b. (x.0 == n) || cond b false (has n xs)) one
        ∙ (ap (λ b. b || false) (ap (λ m. x.0 == m) (sym (eqb-true k.0 n one)) ∙ other) ∙ sym (ap (λ b. cond b false ((x.0 == n) || has n xs)) one))))
    go (inr other) (inr apart) rest =
        ap (λ b. has n (cond (not b) (x ∷ without xs k) (without xs k))) other
        ∙ (ap (λ b. (x.0 == n) || b) rest
        ∙ (ap (λ b. (x.0 == n) || cond b false (has n xs)) apart ∙ sym (ap (λ b. cond b false ((x.0 == n) || has n xs)) apart)))

or-end : (a b : Bool) → (cond b false a || (b || false)) ≡ cond b true a
or-end true true = refl
or-end true false = refl
or-end false true = refl
or-end false false = refl

pub has-with : (n : ℕ) (hands : List ServerNo) (k : ServerNo) → has n (with_hand hands k) ≡ cond (k.0 == n) true (has n hands)
has-with n hands k =
    has-append n (without hands k) (k ∷ [])
    ∙ (ap (λ b. b || ((k.0 == n) || false)) (has-without n hands k) ∙ or-end (has n hands) (k.0 == n))

has-asked : (n : ℕ) (hands : List ServerNo) (k : ServerNo) (a : Ask) → has n (hands_after hands k a) ≡ by_ask (k.0 == n) a (has n hands)
has-asked n hands k (asking.Stop which) = has-with n hands k ∙ go (k.0 == n) (has n hands)
  where
    go : (b h : Bool) → cond b true h ≡ by_ask b (asking.Stop which) h
    go true h = refl
    go false h = refl
has-asked n hands k asking.Start = has-without n hands k ∙ go (k.0 == n) (has n hands)
  where
    go : (b h : Bool) → cond b false h ≡ by_ask b asking.Start h
    go true h = refl
    go false h = refl
has-asked n hands k (asking.StartUntil to) = go (k.0 == n) (has n hands)
  where
    go : (b h : Bool) → h ≡ by_ask b (asking.StartUntil to) h
    go true h = refl
    go false h = refl
has-asked n hands k asking.Detach = go (k.0 == n) (has n hands)
  where
    go : (b h : Bool) → h ≡ by_ask b asking.Detach h
    go true h = refl
    go false h = refl
has-asked n hands k asking.Reattach = go (k.0 == n) (has n hands)
  where
    go : (b h : Bool) → h ≡ by_ask b asking.Reattach h
    go true h = refl
    go false h = refl
has-asked n hands k asking.Reset = go (k.0 == n) (has n hands)
  where
    go : (b h : Bool) → h ≡ by_ask b asking.Reset h
    go true h = refl
    go false h = refl
has-asked n hands k (asking.SetReadOnly on) = go (k.0 == n) (has n hands)
  where
    go : (b h : Bool) → h ≡ by_ask b (asking.SetReadOnly on) h
    go true h = refl
    go false h = refl

abbrev pub hands_by : Deed → List ServerNo → List ServerNo
hands_by (deed.Request n a) hands = hands_after hands n a
hands_by _ hands = hands

wait-hands : (n : ServerNo) (d : Deed) (hands : List ServerNo) → IsWaitFor n d → hands ≡ hands_by d hands
wait-hands n d hands (doing.Awaits to) = refl
wait-hands n d hands _ = refl

move-hands : (n : ServerNo) (d : Deed) (hands : List ServerNo) → IsMove n d → hands ≡ hands_by d hands
move-hands n d hands (doing.Crosses c b) = refl
move-hands n d hands _ = refl

module _ (w : World) (read : ℕ) (now : Moment) (j : Job) (rest : List Op) where
  -- an attempt after which the job goes on leaves it these hands
  abbrev Leaves : List ServerNo → Attempt → Type 0
  Leaves hands a = (settled j a).step ≡ step.Going → (settled j a).job.hands ≡ hands

  hands-after : (d : Deed) (a : Attempt) → Attempts w read now j rest d a → Leaves (hands_by d j.hands) a
  hands-after d a (doing.Misses n from c why) e = cc
  hands-after d a (doing.Fails x c why) e = cc
  hands-after d a (doing.Waits n x s is seen short more) e = wait-hands n x j.hands is
  hands-after d a (doing.Reaches n x s is seen over) e = wait-hands n x j.hands is
  hands-after d a (doing.Attaches n x y is made of can done) e = move-hands n x j.hands is
  hands-after d a (doing.Passes n x is not-can) e = move-hands n x j.hands is
  hands-after d a (doing.Finishes lines) e = cc
  hands-after d a _ e = refl

  pub deed-hands : (d : Deed) → Leaves (hands_by d j.hands) (by_deed w read now j rest d)
  deed-hands d = hands-after d (by_deed w read now j rest d) (attempts w read now j rest d)

-- ---- what an operation changes, and the hands

until-same : (b : Bool) (to : Coord) (h : Bool) → h ≡ by_ask b (asking.StartUntil to) h
until-same true to h = refl
until-same false to h = refl

until-left : (n : ℕ) (b : Bool) (k : ServerNo) (o : Option Coord) → b ≡ left_on n b (asked_until k o)
until-left n b k None = refl
until-left n b k (Some to) = until-same (k.0 == n) to b

attach-left : (w : World) (n : ℕ) (b : Bool) (x : Exchange) → can_attach w x ≡ true → b ≡ left_on n b (x ∷ [])
attach-left w n b (Request k a) can = absurd (false≢true can)
attach-left w n b _ can = refl

made-left : (w : World) (n : ℕ) (b : Bool) (o : Option Exchange) → b ≡ left_on n b (made w o)
made-left w n b None = refl
made-left w n b (Some x) = go (can_attach w x) refl
  where
    go : (c : Bool) → can_attach w x ≡ c → b ≡ left_on n b (cond c (x ∷ []) [])
    go true can = attach-left w n b x can
    go false can = refl

changes-left : (w : World) (j : Job) (n : ℕ) (d : Deed) (hands : List ServerNo) → has n (hands_by d hands) ≡ left_on n (has n hands) (changes_by w j d)
changes-left w j n (deed.Request k a) hands = has-asked n hands k a
changes-left w j n (deed.Until k to) hands = until-left n (has n hands) k (until_by (seen_of j.seen k.0) (aim_of j.seen to))
changes-left w j n (deed.Cross c a b) hands = made-left w n (has n hands) (attachment_of j (deed.Cross c a b))
changes-left w j n (deed.Same k) hands = made-left w n (has n hands) (attachment_of j (deed.Same k))
changes-left w j n (deed.Auto k m) hands = made-left w n (has n hands) (attachment_of j (deed.Auto k m))
changes-left w j n (deed.CrossMatch k m) hands = made-left w n (has n hands) (attachment_of j (deed.CrossMatch k m))
changes-left w j n _ hands = refl

waits-change-nothing : (w : World) (j : Job) (d : Deed) (s : Status) → Misses j d s → changes_by w j d ≡ []
waits-change-nothing w j (deed.Await n to) s h = refl
waits-change-nothing w j (deed.AwaitSet n m) s h = refl
waits-change-nothing w j (deed.Settle n) s h = refl
waits-change-nothing w j _ s h = absurd h

-- ---- turns

-- the operation that was due, and what a turn after which the job goes on made of the hands
record Handled (j : Job) (m : Meeting) : Type 0 where
  pub deed : Deed
  pub hands : (turn_at j m).job.hands ≡ hands_by deed j.hands
  pub changes : (turn_at j m).exchanges ≡ changes_by m.world j deed

handled : (j : Job) (m : Meeting) → (turn_at j m).step ≡ step.Going → Handled j m
handled j m going = go j.ops refl
  where
    left : (op : Op) (rest : List Op) → j.ops ≡ op ∷ rest → (turn_at j m).job.hands ≡ hands_by (deed_of op) j.hands
    left op rest is =
        let at : (settled j (by_deed m.world m.read m.now j rest (deed_of op))).step ≡ step.Going =
        sym (ap (λ ops. (settled j (by_ops m.world m.read m.now j ops)).step) is) ∙ going in
        ap (λ ops. (settled j (by_ops m.world m.read m.now j ops)).job.hands) is ∙ deed-hands m.world m.read m.now j rest (deed_of op) at

    by : (op : Op) (rest : List Op) → j.ops ≡ op ∷ rest → IsTaken m.world j rest (deed_of op) (turn_at j m) → Handled j m
    by op rest is (Done h) = record { deed = deed_of op; hands = left op rest is; changes = h.changes }
    by op rest is (Waited h) = record {
      deed = deed_of op;
      hands = left op rest is;
      changes = h.changes ∙ sym (waits-change-nothing m.world j (deed_of op) h.short.seen h.short.misses);
    }
    by op rest is (Ended h) = let done = h.done in cc
    by op rest is (Stopped h) = let failed = h.failed in cc

    go : (ops : List Op) → j.ops ≡ ops → Handled j m
    go [] is = let done = turn-idle m.world m.read m.now j is in cc
    go (op ∷ rest) is = by op rest is (turn-taken m.world m.read m.now j op rest is)

turn-left : (j : Job) (m : Meeting) (n : ℕ) → (turn_at j m).step ≡ step.Going → has n (turn_at j m).job.hands ≡ left_on n (has n j.hands) (turn_at j m).exchanges
turn-left j m n going =
    let h = handled j m going in
    ap (has n) h.hands ∙ (changes-left m.world j n h.deed j.hands ∙ sym (ap (left_on n (has n j.hands)) h.changes))

course-left : (j : Job) (ms : List Meeting) (n : ℕ) → AllGoing j ms → has n (job_after j ms).hands ≡ left_on n (has n j.hands) (exchanges_in j ms)
course-left j [] n going = refl
course-left j (m ∷ ms) n going =
    course-left (turn_at j m).job ms n going.1
    ∙ (ap (λ b. left_on n b (exchanges_in (turn_at j m).job ms)) (turn-left j m n going.0)
    ∙ sym (fold-append (one_on n) (has n j.hands) (turn_at j m).exchanges (exchanges_in (turn_at j m).job ms)))

empty-left : (j : Job) (ms : List Meeting) (n : ℕ) → j.hands ≡ [] → AllGoing j ms → has n (job_after j ms).hands ≡ left_on n false (exchanges_in j ms)
empty-left j ms n none going = course-left j ms n going ∙ ap (λ hands. left_on n (has n hands) (exchanges_in j ms)) none

pub hands-left : (j : Job) (ms : List Meeting) (n : ℕ) → j.hands ≡ [] → AllGoing j ms → is_in_hands (job_after j ms) n ≡ true → IsLeftStopped n (exchanges_in j ms)
hands-left j ms n none going h = go (last-stop n false (exchanges_in j ms) (sym (empty-left j ms n none going) ∙ h))
  where
    go : ((false ≡ true) × All (IsNoStart n) (exchanges_in j ms)) ⊎ IsLeftStopped n (exchanges_in j ms) → IsLeftStopped n (exchanges_in j ms)
    go (inl p) = absurd (false≢true p.0)
    go (inr s) = s

pub hands-held : (j : Job) (ms : List Meeting) (n : ℕ) → j.hands ≡ [] → AllGoing j ms → IsLeftStopped n (exchanges_in j ms) → is_in_hands (job_after j ms) n ≡ true
hands-held j ms n none going s = empty-left j ms n none going ∙ left-on n false (exchanges_in j ms) s

-- ---- each once

abbrev Apart : ServerNo → ServerNo → Type 0
Apart a b = (a.0 == b.0) ≡ false

pushed-apart : (hands : List ServerNo) (n : ServerNo) → AllPairs Apart hands → AllPairs Apart (with_hand hands n)
pushed-apart hands n apart =
    all_pairs_push Apart (without hands n) n (AllPairs-filter Apart (λ k. not (k.0 == n.0)) hands apart)
    (λ k d within. not-true ((get_or (without hands n) k d).0 == n.0) (filter_passes (λ (x : ServerNo). not (x.0 == n.0)) hands k d within))

asked-apart : (hands : List ServerNo) (n : ServerNo) (a : Ask) → AllPairs Apart hands → AllPairs Apart (hands_after hands n a)
asked-apart hands n (asking.Stop which) apart = pushed-apart hands n apart
asked-apart hands n asking.Start apart = AllPairs-filter Apart (λ k. not (k.0 == n.0)) hands apart
asked-apart hands n _ apart = apart

handled-apart : (d : Deed) (hands : List ServerNo) → AllPairs Apart hands → AllPairs Apart (hands_by d hands)
handled-apart (deed.Request n a) hands apart = asked-apart hands n a apart
handled-apart _ hands apart = apart

course-apart : (j : Job) (ms : List Meeting) → AllPairs Apart j.hands → AllGoing j ms → AllPairs Apart (job_after j ms).hands
course-apart j [] apart going = apart
course-apart j (m ∷ ms) apart going =
    let h = handled j m going.0 in
    course-apart (turn_at j m).job ms (subst (AllPairs Apart) (sym h.hands) (handled-apart h.deed j.hands apart)) going.1

pub hands-apart : (j : Job) (ms : List Meeting) → j.hands ≡ [] → AllGoing j ms → AllPairs (λ a b. (a.0 == b.0) ≡ false) (job_after j ms).hands
hands-apart j ms none going = course-apart j ms (subst (AllPairs Apart) (sym none) none-apart) going
  where
    none-apart : AllPairs Apart []
    none-apart i k d low high = absurd (omega (arith, high))

-- ---- leases

leased-in : (l : Leases) (id n : ℕ) (hands : List ServerNo) → All (λ k. IsLeased l id k.0) hands → has n hands ≡ true → IsLeased l id n
leased-in l id n [] all h = absurd (false≢true h)
leased-in l id n (k ∷ hands) all h = go (cases_Bool (k.0 == n)) (leased-in l id n hands (All-tail (λ k. IsLeased l id k.0) k hands all))
  where
    go : ((k.0 == n) ≡ true) ⊎ ((k.0 == n) ≡ false) → (has n hands ≡ true → IsLeased l id n) → IsLeased l id n
    go (inl same) rest = subst (IsLeased l id) (eqb-true k.0 n same) (All-head (λ k. IsLeased l id k.0) k hands all)
    go (inr apart) rest = rest (sym (ap (λ b. b || has n hands) apart) ∙ h)

leased-course : (l : Leases) (id : ℕ) (j : Job) (ms : List Meeting) → j.id ≡ id → HasLeases l j → All (λ k. IsLeased l id k.0) (job_after j ms).hands
leased-course l id j [] same leases = subst (λ i. All (λ k. IsLeased l i k.0) j.hands) same leases.hands
leased-course l id j (m ∷ ms) same leases = leased-course l id (turn_at j m).job ms (kept.id ∙ same) (record { ops = ops; hands = hands })
  where
    kept : KeepsLeases l j.id (turn_at j m)
    kept = turn-leased l m.world m.read m.now j leases

    ops : All (MayChange l (turn_at j m).job.id) (turn_at j m).job.ops
    ops = subst (λ i. All (MayChange l i) (turn_at j m).job.ops) (sym kept.id) kept.ops

    hands : All (λ k. IsLeased l (turn_at j m).job.id k.0) (turn_at j m).job.hands
    hands = subst (λ i. All (λ k. IsLeased l i k.0) (turn_at j m).job.hands) (sym kept.id) kept.hands

pub left-leased : (l : Leases) (j : Job) (ms : List Meeting) (n : ℕ) → HasLeases l j → j.hands ≡ [] → AllGoing j ms → IsLeftStopped n (exchanges_in j ms) → IsLeased l j.id n
left-leased l j ms n leases none going s = leased-in l j.id n (job_after j ms).hands (leased-course l j.id j ms refl leases) (hands-held j ms n none going s)

-- ---- a job that fails

pub failed-starts : (j : Job) (m : Meeting) (c : Cause) (lines : List Line) → (turn_at j m).step ≡ step.Failed c lines → (turn_at j m).exchanges ≡ map (λ (k : ServerNo). Request k.0 asking.Start) j.hands
failed-starts j m c lines e = go j.ops refl
  where
    by : (op : Op) (rest : List Op) → IsTaken m.world j rest (deed_of op) (turn_at j m) → (turn_at j m).exchanges ≡ map (λ (k : ServerNo). Request k.0 asking.Start) j.hands
    by op rest (Done h) = let going = h.going in cc
    by op rest (Waited h) = let going = h.going in cc
    by op rest (Ended h) = let done = h.done in cc
    by op rest (Stopped h) = h.changes

    go : (ops : List Op) → j.ops ≡ ops → (turn_at j m).exchanges ≡ map (λ (k : ServerNo). Request k.0 asking.Start) j.hands
    go [] is = let done = turn-idle m.world m.read m.now j is in cc
    go (op ∷ rest) is = by op rest (turn-taken m.world m.read m.now j op rest is)
