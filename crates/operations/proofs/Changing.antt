-- A turn changes only servers that the job's operations may change or that are in its hands, and leaves no others.
use Rattle.std.proofs.Common.{◌≡◌, ℕ, List, [], ◌∷◌, refl, sym, subst, Option, None, IfSome, ◌==◌, not}
use Rattle.operations.proofs.Prelude.{All, All-cons, All-filter, All-head, All-map, All-nil, All-push, All-tail, Ask, Attempt, Cause, Deed, Exchange}
use Rattle.operations.proofs.Prelude.{Job, Moment, Observation, Op, Request, ServerNo, Turned, World, by_deed, by_ops, change_of, deed_of, failed}
use Rattle.operations.proofs.Prelude.{going, hands_after, next, server_of, settled, turned, without}
use Rattle.operations.proofs.Prelude.asking
use Rattle.operations.proofs.Attempts.{Attempts, IsMove, attached-server, attempts}
use Rattle.operations.proofs.Attempts as doing

-- the server that an operation may change, if there is one, is of this kind
abbrev pub ChangesOf : (ℕ → Type 0) → Op → Type 0
ChangesOf P op = IfSome (change_of (deed_of op)) (λ n. P n.0)

-- so is each that a turn leaves to its job, and each with which it has an exchange; and the job keeps its number
pub record StaysOf (P : ℕ → Type 0) (number : ℕ) (t : Turned) : Type 0 where
  pub id : t.job.id ≡ number
  pub ops : All (ChangesOf P) t.job.ops
  pub hands : All (λ n. P n.0) t.job.hands
  pub exchanges : All (λ e. P (server_of e)) t.exchanges

-- the server whose source an operation changes
moved-here : (P : ℕ → Type 0) (n : ServerNo) (d : Deed) → IsMove n d → IfSome (change_of d) (λ k. P k.0) → P n.0
moved-here P n d (doing.Crosses c b) here = here
moved-here P n d _ here = here

module _ (P : ℕ → Type 0) (w : World) (read : ℕ) (now : Moment) (j : Job) (rest : List Op) (ops : All (ChangesOf P) rest) (all : All (ChangesOf P) j.ops) (hands : All (λ n. P n.0) j.hands) where
  abbrev IsOf : ServerNo → Type 0
  IsOf n = P n.0

  abbrev IsWith : Exchange → Type 0
  IsWith e = P (server_of e)

  failed-stays : (c : Cause) (o : Option Observation) → StaysOf P j.id (failed j c o)
  failed-stays c o = record { id = refl; ops = All-nil (ChangesOf P); hands = All-nil IsOf; exchanges = All-map IsWith (λ n. Request n.0 asking.Start) j.hands hands }

  one-stays : (e : Exchange) (hs : List ServerNo) → P (server_of e) → All IsOf hs → StaysOf P j.id (going None (e ∷ []) (record (next j rest) { hands = hs }))
  one-stays e hs here of = record { id = refl; ops = ops; hands = of; exchanges = All-cons IsWith e [] here (All-nil IsWith) }

  hands-stays : (n : ServerNo) (a : Ask) → IsOf n → All IsOf (hands_after j.hands n a)
  hands-stays n (asking.Stop which) here = All-push IsOf (without j.hands n) n (All-filter (λ k. not (k.0 == n.0)) IsOf j.hands hands) here
  hands-stays n asking.Start here = All-filter (λ k. not (k.0 == n.0)) IsOf j.hands hands
  hands-stays n _ here = hands

  stays-by : (d : Deed) (a : Attempt) → Attempts w read now j rest d a → IfSome (change_of d) (λ n. P n.0) → StaysOf P j.id (settled j a)
  stays-by d a (doing.Misses n from c why) here = failed-stays c _
  stays-by d a (doing.Fails x c why) here = failed-stays c None
  stays-by d a (doing.Asks n b) here = one-stays (Request n.0 b) (hands_after j.hands n b) here (hands-stays n b here)
  stays-by d a (doing.Begins n to c until) here = one-stays (Request n.0 (asking.StartUntil c)) j.hands here hands
  stays-by d a (doing.Waits n x s is seen short more) here = record { id = refl; ops = all; hands = hands; exchanges = All-nil IsWith }
  stays-by d a (doing.Attaches n x e is made of can done) here = one-stays e j.hands (subst P (sym (attached-server n e of)) (moved-here P n x is here)) hands
  stays-by d a (doing.Finishes lines) here = record { id = refl; ops = All-nil (ChangesOf P); hands = All-nil IsOf; exchanges = All-nil IsWith }
  stays-by d a _ here = record { id = refl; ops = ops; hands = hands; exchanges = All-nil IsWith }

pub deed-stays : (P : ℕ → Type 0) (w : World) (read : ℕ) (now : Moment) (j : Job) (rest : List Op) (d : Deed)
    → IfSome (change_of d) (λ n. P n.0) → All (ChangesOf P) rest → All (ChangesOf P) j.ops → All (λ n. P n.0) j.hands
    → StaysOf P j.id (settled j (by_deed w read now j rest d))
deed-stays P w read now j rest d here ops all hands = stays-by P w read now j rest ops all hands d (by_deed w read now j rest d) (attempts w read now j rest d) here

pub turn-stays : (P : ℕ → Type 0) (w : World) (read : ℕ) (now : Moment) (j : Job) → All (ChangesOf P) j.ops → All (λ n. P n.0) j.hands → StaysOf P j.id (turned w read now j)
turn-stays P w read now j all hands = go j.ops refl
  where
    go : (ops : List Op) → j.ops ≡ ops → StaysOf P j.id (settled j (by_ops w read now j ops))
    go [] is = record { id = refl; ops = All-nil (ChangesOf P); hands = All-nil (λ n. P n.0); exchanges = All-nil (λ e. P (server_of e)) }
    go (op ∷ rest) is =
        let here = subst (λ (xs : List Op). All (ChangesOf P) xs) is all in
        deed-stays P w read now j rest (deed_of op) (All-head (ChangesOf P) op rest here) (All-tail (ChangesOf P) op rest here) all hands
