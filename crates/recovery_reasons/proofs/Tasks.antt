-- Tasks and stages of a recovery on its way.
use Rattle.std.proofs.Common.{◌≡◌, ◌+◌, ◌≤◌, Bool, true, false, List, [], ◌∷◌, ◌++◌, map, refl, sym, ◌∙◌, ap, Option, Some, None, ◌⊎◌, inl, inr, arith}
use Rattle.recovery_reasons.proofs.Prelude.{All, All-append, All-cons, All-head, All-nil, All-tail, Bridge, Contains, Contains-append_right}
use Rattle.recovery_reasons.proofs.Prelude.{Contains-tail, IsMeeting, IsSwapping, Line, Lot, Op, Purpose, ServerNo, Stage, StageOf, Stopped, SwapOf}
use Rattle.recovery_reasons.proofs.Prelude.{Task, TasksOf, Way, Yields, chooses, closes, false≢true, info, is_takeover, move_of, moved, moves_in}
use Rattle.recovery_reasons.proofs.Prelude.{pauses, pauses_in, pauses_last, same_Some, suits}
use Rattle.recovery_reasons.proofs.Prelude.deciding
use Rattle.recovery_reasons.proofs.Prelude.op
use Rattle.recovery_reasons.proofs.Prelude.purpose
use Rattle.recovery_reasons.proofs.Prelude.stage
use Rattle.recovery_reasons.proofs.Prelude.table
use Rattle.recovery_reasons.proofs.Prelude.task
use Rattle.recovery_reasons.proofs.Prelude.way
use Rattle.recovery_reasons.proofs.Prelude.table.{before as before_op, move}

-- ---- stages

-- which master is to give up its place, and for whom
abbrev pub meeting_in : Stage → Option (ServerNo × ServerNo)
meeting_in (stage.Meet m d) = Some (m, d)
meeting_in (stage.Shut m d) = Some (m, d)
meeting_in (stage.Gather m d) = Some (m, d)
meeting_in s = None

pub meets-so : (s : Stage) (m d : ServerNo) → IsMeeting s m d → meeting_in s ≡ Some (m, d)
meets-so s m d (inl at) = ap meeting_in at
meets-so s m d (inr (inl at)) = ap meeting_in at
meets-so s m d (inr (inr at)) = ap meeting_in at

abbrev no-pair : Option (ServerNo × ServerNo)
no-pair = None

pub no-meeting : (x : ServerNo × ServerNo) → no-pair ≡ Some x → ⊥
no-meeting x e = cc

pub no-bridge : (x : Bridge) → None ≡ Some x → ⊥
no-bridge x e = cc

pub meets-back : (s : Stage) (m d : ServerNo) → meeting_in s ≡ Some (m, d) → IsMeeting s m d
meets-back (stage.Meet k n) m d e = inl (ap (λ (x : ServerNo × ServerNo). stage.Meet x.0 x.1) (same_Some (k, n) (m, d) e))
meets-back (stage.Shut k n) m d e = inr (inl (ap (λ (x : ServerNo × ServerNo). stage.Shut x.0 x.1) (same_Some (k, n) (m, d) e)))
meets-back (stage.Gather k n) m d e = inr (inr (ap (λ (x : ServerNo × ServerNo). stage.Gather x.0 x.1) (same_Some (k, n) (m, d) e)))
meets-back s m d e = absurd (no-meeting (m, d) e)

-- the designated one takes its master's place, or has taken it
abbrev pub gives : Stage → Bool
gives (stage.Yield m d) = true
gives (stage.Switch m d) = true
gives (stage.Switched m d) = true
gives s = closes s

closes-so : (s : Stage) → closes s ≡ true → gives s ≡ true
closes-so (stage.Yield m d) h = refl
closes-so (stage.Switch m d) h = refl
closes-so (stage.Switched m d) h = refl
closes-so s h = h

pub gives-so : (s : Stage) → Yields s → gives s ≡ true
gives-so s (inl x) = by x.2
  where
    by : (s ≡ stage.Yield x.0 x.1) ⊎ ((s ≡ stage.Switch x.0 x.1) ⊎ (s ≡ stage.Switched x.0 x.1)) → gives s ≡ true
    by (inl at) = ap gives at
    by (inr (inl at)) = ap gives at
    by (inr (inr at)) = ap gives at
gives-so s (inr h) = closes-so s h

pub yields-back : (s : Stage) → gives s ≡ true → Yields s
yields-back (stage.Yield m d) h = inl (m, d, inl refl)
yields-back (stage.Switch m d) h = inl (m, d, inr (inl refl))
yields-back (stage.Switched m d) h = inl (m, d, inr (inr refl))
yields-back s h = inr h

-- only such a stage leads to one
gives-back : (s : Stage) → gives (moved s) ≡ true → gives s ≡ true
gives-back (stage.Yield m d) h = refl
gives-back (stage.Switch m d) h = refl
gives-back (stage.Switched m d) h = refl
gives-back (stage.Crown n) h = refl
gives-back (stage.Open n) h = refl
gives-back (stage.Opened n) h = refl
gives-back (stage.Close lines) h = refl
gives-back s h = h

-- who takes whose place in a stage
abbrev pub swap_in : Stage → Option (ServerNo × ServerNo)
swap_in (stage.Level p q) = Some (p, q)
swap_in (stage.Swap p q) = Some (p, q)
swap_in (stage.Swapped p q) = Some (p, q)
swap_in s = None

pub swaps-so : (s : Stage) (p q : ServerNo) → IsSwapping s p q → swap_in s ≡ Some (p, q)
swaps-so s p q (inl at) = ap swap_in at
swaps-so s p q (inr (inl at)) = ap swap_in at
swaps-so s p q (inr (inr at)) = ap swap_in at

-- in no other stage
pub calm : (s : Stage) → swap_in s ≡ None → (p q : ServerNo) → IsSwapping s p q → ⊥
calm s none p q h = no-meeting (p, q) (sym none ∙ swaps-so s p q h)

-- a stage that follows another changes the same places, or none
pub moved-swaps : (s : Stage) (p q : ServerNo) → IsSwapping (moved s) p q → IsSwapping s p q
moved-swaps (stage.Level m n) p q h = let same = same_Some (m, n) (p, q) (swaps-so (stage.Swap m n) p q h) in inl (ap (λ (x : ServerNo × ServerNo). stage.Level x.0 x.1) same)
moved-swaps (stage.Swap m n) p q h = let same = same_Some (m, n) (p, q) (swaps-so (stage.Swapped m n) p q h) in inr (inl (ap (λ (x : ServerNo × ServerNo). stage.Swap x.0 x.1) same))
moved-swaps (stage.Swapped m n) p q h = h
moved-swaps s p q h = absurd (no-meeting (p, q) (swaps-so (moved s) p q h))

-- and such a stage leads to one
pub swaps-on : (s : Stage) (p q : ServerNo) → IsSwapping s p q → IsSwapping (moved s) p q
swaps-on (stage.Level m n) p q h = let same = same_Some (m, n) (p, q) (swaps-so (stage.Level m n) p q h) in inr (inl (ap (λ (x : ServerNo × ServerNo). stage.Swap x.0 x.1) same))
swaps-on (stage.Swap m n) p q h = let same = same_Some (m, n) (p, q) (swaps-so (stage.Swap m n) p q h) in inr (inr (ap (λ (x : ServerNo × ServerNo). stage.Swapped x.0 x.1) same))
swaps-on (stage.Swapped m n) p q h = h
swaps-on s p q h = absurd (no-meeting (p, q) (swaps-so s p q h))

module _ (u : Purpose) (chosen promoted : Option ServerNo) (swaps : Bool) where
  -- another stage begins, in which no places change and nothing is opened
  pub plain-swap : (s t : Stage) → SwapOf u s chosen promoted swaps → swap_in t ≡ None → gives t ≡ false → SwapOf u t chosen promoted swaps
  plain-swap s t h none off = record {
    first = h.first;
    taking = λ p q e. absurd (calm t none p q e);
    closed = λ m y. absurd (false≢true (sym off ∙ gives-so t y));
  }

  -- the stage that follows
  pub next-swap : (s : Stage) → SwapOf u s chosen promoted swaps → SwapOf u (moved s) chosen promoted swaps
  next-swap s h = record {
    first = h.first;
    taking = λ p q e. h.taking p q (moved-swaps s p q e);
    closed = λ m y. h.closed m (yields-back s (gives-back s (gives-so (moved s) y)));
  }

  -- nothing is left but to open the promoted one
  pub last-swap : (s t : Stage) → SwapOf u s chosen promoted swaps → swap_in t ≡ None → Yields s → SwapOf u t chosen promoted swaps
  last-swap s t h none y = record { first = h.first; taking = λ p q e. absurd (calm t none p q e); closed = λ m x. h.closed m y }

-- what follows a stage is barred as it is, and meets whom it meets
pub moved-bar : (s : Stage) → (info (moved s)).bar ≡ (info s).bar
moved-bar stage.Idle = refl
moved-bar s = refl

pub moved-meets : (s : Stage) → meeting_in (moved s) ≡ meeting_in s
moved-meets stage.Idle = refl
moved-meets s = refl

pub moved-places : (s : Stage) (x : Bridge) → (info (moved s)).lead ≡ Some x → (info (moved s)).places ≡ (info s).places
moved-places (stage.Look n b) x e = refl
moved-places (stage.Looked n b) x e = refl
moved-places (stage.Trail n b) x e = refl
moved-places (stage.Halted n b) x e = refl
moved-places s x e = absurd (no-bridge x e)

pub moved-yields : (s : Stage) → ((lines : List Line) → s ≡ stage.Close lines → ⊥) → gives s ≡ true → Yields (moved s)
moved-yields (stage.Yield m d) still h = inl (m, d, inr (inl refl))
moved-yields (stage.Switch m d) still h = inl (m, d, inr (inr refl))
moved-yields (stage.Switched m d) still h = inl (m, d, inr (inr refl))
moved-yields (stage.Crown n) still h = inr refl
moved-yields (stage.Open n) still h = inr refl
moved-yields (stage.Opened n) still h = inr refl
moved-yields (stage.Close lines) still h = absurd (still lines refl)
moved-yields s still h = absurd (false≢true h)

-- another stage begins, in which nothing is barred, nobody is met and nobody goes to the position at which another
-- stopped
pub plain-stage : (u : Purpose) (f : ServerNo) (s t : Stage) (os ops : List Op) (o : Option Bridge) → StageOf u f s os o → (info t).bar ≡ table.Never → (info t).lead ≡ None → meeting_in t ≡ None
    → StageOf u f t ops o
plain-stage u f s t os ops o h never led none = record {
  first = inl never;
  meets = λ m d e. absurd (no-meeting (m, d) (sym none ∙ meets-so t m d e));
  lead = h.lead;
  apart = λ n x e at same. no-bridge x (sym led ∙ e);
}

-- ---- tasks

choosing-apart : (u : Purpose) → chooses u ≡ true → is_takeover u ≡ true → ⊥
choosing-apart purpose.Regroup c t = false≢true t
choosing-apart purpose.Master c t = false≢true t
choosing-apart (purpose.Intermediate s) c t = false≢true c
choosing-apart (purpose.Takeover d) c t = false≢true c

less-last : (u : Purpose) (swaps : Bool) → pauses_last u false ≤ pauses_last u swaps
less-last purpose.Master true = omega arith
less-last _ _ = omega arith

pub pauses-append : (ts us : List Task) → pauses_in (ts ++ us) ≡ pauses_in ts + pauses_in us
pauses-append [] us = omega arith
pauses-append (t ∷ ts) us = let e = pauses-append ts us in omega (arith, e)

abbrev pub Suits : Purpose → Task → Type 0
Suits u t = suits u t ≡ true

-- moves, and what is done with the lost, have operations, and suit any purpose
pub record AreBusy (u : Purpose) (ts : List Task) : Type 0 where
  pub none : pauses_in ts ≡ 0
  pub suited : All (Suits u) ts

pub busy-none : (u : Purpose) → AreBusy u []
busy-none u = record { none = refl; suited = All-nil (Suits u) }

pub busy-more : (u : Purpose) (t : Task) (ts : List Task) → pauses t ≡ 0 → Suits u t → AreBusy u ts → AreBusy u (t ∷ ts)
busy-more u t ts none suit h = let e = h.none in record { none = omega (arith, none, e); suited = All-cons (Suits u) t ts suit h.suited }

pub busy-append : (u : Purpose) (ts us : List Task) → AreBusy u ts → AreBusy u us → AreBusy u (ts ++ us)
busy-append u ts us h k =
    let a = h.none in
    let b = k.none in
    let e = pauses-append ts us in
    record { none = omega (arith, a, b, e); suited = All-append (Suits u) ts us h.suited k.suited }

pub busy-moves : (u : Purpose) (lot : Stopped → Lot) (ss : List Stopped) → AreBusy u (moves_in lot ss)
busy-moves u lot [] = busy-none u
busy-moves u lot (s ∷ ss) = busy-append u (move_of s (lot s)) (moves_in lot ss) (one (lot s)) (busy-moves u lot ss)
  where
    one : (l : Lot) → AreBusy u (move_of s l)
    one (deciding.Goes way) = busy-more u (task.Moving s.no way) [] refl refl (busy-none u)
    one (deciding.Stays y) = busy-none u

pub busy-map : (u : Purpose) (f : ServerNo → Task) → ((n : ServerNo) → pauses (f n) ≡ 0) → ((n : ServerNo) → Suits u (f n)) → (ns : List ServerNo) → AreBusy u (map f ns)
busy-map u f none suit [] = busy-none u
busy-map u f none suit (n ∷ ns) = busy-more u (f n) (map f ns) (none n) (suit n) (busy-map u f none suit ns)

module _ (u : Purpose) (chosen : Option ServerNo) (swaps : Bool) where
  module _ (s : Stage) (ts : List Task) (h : TasksOf u s ts chosen swaps) (idle : s ≡ stage.Idle) where
    -- without a stage the designated one is still to take its master's place
    pub to-yield : is_takeover u ≡ true → Contains ts task.Yielding
    to-yield over = go (h.yields over)
      where
        go : Contains ts task.Yielding ⊎ Yields s → Contains ts task.Yielding
        go (inl c) = c
        go (inr y) = absurd (false≢true (sym (ap gives idle) ∙ gives-so s y))

    -- any stage begins
    pub restage : (t : Stage) → TasksOf u t ts chosen swaps
    restage t = record { few = h.few; suited = h.suited; chosen = h.chosen; yields = λ over. inl (to-yield over); named = h.named; over = h.over }

    pub unswaps : ts ≡ [] → (t : Stage) → TasksOf u t ts chosen false
    unswaps none t =
        let a = h.few in
        let b = less-last u swaps in
        record { few = omega (arith, a, b); suited = h.suited; chosen = h.chosen; yields = λ over. inl (to-yield over); named = h.named; over = λ m e. none }

  -- the next task begins
  module _ (s : Stage) (t : Task) (ts : List Task) (h : TasksOf u s (t ∷ ts) chosen swaps) (idle : s ≡ stage.Idle) where
    pub fewer : pauses_in ts + pauses_last u swaps ≤ 4
    fewer = let a = h.few in omega (arith, a)

    pub suit : Suits u t
    suit = All-head (Suits u) t ts h.suited

    pub suit-rest : All (Suits u) ts
    suit-rest = All-tail (Suits u) t ts h.suited

    -- a better one isn't looked for yet
    pub unlooked : {A : Type 0} → u ≡ purpose.Master → swaps ≡ false → A
    unlooked m e = let bad : t ∷ ts ≡ [] = h.over m e in cc

    pub behind : (t ≡ task.Choosing → ⊥) → (t ≡ task.Yielding → ⊥) → (k : Stage) → TasksOf u k ts chosen swaps
    behind apart other k = record {
      few = fewer;
      suited = suit-rest;
      chosen = λ c none. Contains-tail t ts task.Choosing apart (h.chosen c none);
      yields = λ over. inl (Contains-tail t ts task.Yielding other (to-yield s (t ∷ ts) h idle over));
      named = h.named;
      over = unlooked;
    }

    -- with others before those after it
    pub before : (t ≡ task.Choosing → ⊥) → (t ≡ task.Yielding → ⊥) → (us : List Task) → AreBusy u us → (k : Stage) → TasksOf u k (us ++ ts) chosen swaps
    before apart other us busy k =
        let rest = behind apart other k in
        let a = rest.few in
        let b = busy.none in
        let e = pauses-append us ts in
        record {
          few = omega (arith, a, b, e);
          suited = All-append (Suits u) us ts busy.suited suit-rest;
          chosen = λ c none. Contains-append_right us ts task.Choosing (rest.chosen c none);
          yields = λ over. inl (Contains-append_right us ts task.Yielding (Contains-tail t ts task.Yielding other (to-yield s (t ∷ ts) h idle over)));
          named = h.named;
          over = unlooked;
        }

-- one of the drained is chosen
pub chooses-one : (u : Purpose) (chosen : Option ServerNo) (swaps : Bool) (s : Stage) (ts us : List Task) (p : ServerNo) → TasksOf u s (task.Choosing ∷ ts) chosen swaps → AreBusy u us → (k : Stage)
    → TasksOf u k (us ++ ts) (Some p) swaps
chooses-one u chosen swaps s ts us p h busy k =
    let a = h.few in
    let b = busy.none in
    let e = pauses-append us ts in
    record {
      few = omega (arith, a, b, e);
      suited = All-append (Suits u) us ts busy.suited (All-tail (Suits u) task.Choosing ts h.suited);
      chosen = λ c none. let bad : Some p ≡ None = none in cc;
      yields = λ over. absurd (choosing-apart u (All-head (Suits u) task.Choosing ts h.suited) over);
      named = λ n e. absurd (false≢true (ap chooses (sym e) ∙ All-head (Suits u) task.Choosing ts h.suited));
      over = λ m e. let bad : task.Choosing ∷ ts ≡ [] = h.over m e in cc;
    }

-- ---- operations

-- one that goes some way has operations
pub some-op : (n : ServerNo) (by : Way) → before_op by n ++ move by n ∷ op.Start n ∷ [] ≡ [] → ⊥
some-op n (way.Down b) e = cc
some-op n _ e = cc
