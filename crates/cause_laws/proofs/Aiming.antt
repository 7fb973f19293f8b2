-- What tests of a job say: of a source that was named, of the aims of waits, and of changes of source.
use Rattle.std.proofs.Common.{◌≡◌, ℕ, zero, suc, ◌+◌, ◌-◌, ◌≤◌, Bool, true, false, not, ◌&&◌, List, [], ◌∷◌, refl, sym, ◌∙◌, ap, subst, ◌⊎◌, inl, inr, Option, Some, None, arith, IfSome, nat_lt, nat_le, ◌==◌}
use Rattle.cause_laws.proofs.Prelude.{Attached, Coord, Deed, Detached, Exchange, Interval, IsAttachment, IsBefore, Job, LacksSome, Position, ServerNo}
use Rattle.cause_laws.proofs.Prelude.{SourceState, Status, Without, and_cases, and_from, and_parts, attached-server, attachment_of, bridge_at}
use Rattle.cause_laws.proofs.Prelude.{change_of, crossed-of, eq-eqb, eqb-true, false_from_ne_true, false≢true, has_all, has_from, holds, holds_seen}
use Rattle.cause_laws.proofs.Prelude.{is_moved, is_reached, is_settled, is_within, le-leb, ltb-false, match-of, match_found, not-false, not-true}
use Rattle.cause_laws.proofs.Prelude.{not_from_false, not_from_true, or_cases, or_left, or_right, read_by, same-of, same_Some, same_coord, seen_of}
use Rattle.cause_laws.proofs.Prelude.{server_of, set-of, settles, spans, within-holds}
use Rattle.cause_laws.proofs.Prelude.deed

-- ---- a source that was named

pub moved-apart : (from : Option ServerNo) (source : SourceState) → is_moved from source ≡ true → (m : ServerNo) × (from ≡ Some m) × (source ≡ Attached m → ⊥)
moved-apart None source e = absurd (false≢true e)
moved-apart (Some m) Without e = (m, refl, λ h. cc)
moved-apart (Some m) (Attached k) e = (m, refl, λ h. let same : k ≡ m = cc in absurd (false≢true (sym (not_from_true (k.0 == m.0) (eq-eqb k.0 m.0 (ap (λ (x : ServerNo). x.0) same))) ∙ e)))
moved-apart (Some m) (Detached k) e = (m, refl, λ h. cc)

other-moved : (k m : ServerNo) (b : Bool) → (k.0 == m.0) ≡ b → (Attached k ≡ Attached m → ⊥) → not b ≡ true
other-moved k m true e apart = absurd (apart (ap Attached (ap (λ (n : ℕ). record { 0 = n }) (eqb-true k.0 m.0 e))))
other-moved k m false e apart = refl

pub apart-moved : (m : ServerNo) (source : SourceState) → (source ≡ Attached m → ⊥) → is_moved (Some m) source ≡ true
apart-moved m Without apart = refl
apart-moved m (Attached k) apart = other-moved k m (k.0 == m.0) refl apart
apart-moved m (Detached k) apart = refl

-- ---- aims

pub aim-before : (to : Option Coord) (exec : Coord) → is_reached to exec ≡ false → IsBefore to exec
aim-before None exec e = tt
aim-before (Some c) exec e = e

pub aim-come : (to : Option Coord) (exec : Coord) → is_reached to exec ≡ true → IsBefore to exec → ⊥
aim-come None exec e h = false≢true e
aim-come (Some c) exec e h = false≢true (sym h ∙ e)

pub before-aim : (to : Option Coord) (exec : Coord) → IsBefore to exec → is_reached to exec ≡ false
before-aim None exec h = refl
before-aim (Some c) exec h = h

abbrev Lacks : List Interval → List Interval → Type 0
Lacks xs ys = (uuid : ℕ) × (k : ℕ) × (holds xs uuid k ≡ true) × (holds ys uuid k ≡ false)

-- the first number of some that a set lacks
from-lacks : (ys : List Interval) (u from k : ℕ) → has_from ys u from k ≡ false → (n : ℕ) × (from ≤ n) × (n + 1 ≤ from + k) × (holds ys u n ≡ false)
from-lacks ys u from zero h = absurd (false≢true (sym h))
from-lacks ys u from (suc k) h = go (and_cases (holds ys u from) (has_from ys u (from + 1) k) h) (from-lacks ys u (from + 1) k)
  where
    go : (holds ys u from ≡ false) ⊎ (has_from ys u (from + 1) k ≡ false)
        → (has_from ys u (from + 1) k ≡ false → (n : ℕ) × (from + 1 ≤ n) × (n + 1 ≤ (from + 1) + k) × (holds ys u n ≡ false))
        → (n : ℕ) × (from ≤ n) × (n + 1 ≤ from + suc k) × (holds ys u n ≡ false)
    go (inl here) rest = (from, omega arith, omega arith, here)
    go (inr later) rest = let x = rest later in (x.0, omega (arith, x.1), omega (arith, x.2), x.3)

pub lacks-some : (xs ys : List Interval) → is_within xs ys ≡ false → Lacks xs ys
lacks-some [] ys h = absurd (false≢true (sym h))
lacks-some (s ∷ xs) ys h = go (and_cases (has_all ys s) (is_within xs ys) h) (lacks-some xs ys)
  where
    go : (has_all ys s ≡ false) ⊎ (is_within xs ys ≡ false) → (is_within xs ys ≡ false → Lacks xs ys) → Lacks (s ∷ xs) ys
    go (inl here) rest =
        let x = from-lacks ys s.uuid s.first ((s.last + 1) - s.first) here in
        let n : ℕ = x.0 in
        let low : s.first ≤ n = x.1 in
        let high : n ≤ s.last = omega (arith, x.1, x.2) in
        let at : spans s.uuid n s ≡ true =
        and_from ((s.uuid == s.uuid) && nat_le s.first n) (nat_le n s.last) (and_from (s.uuid == s.uuid) (nat_le s.first n) (eq-eqb s.uuid s.uuid refl) (le-leb s.first n low)) (le-leb n s.last high) in
        (s.uuid, n, or_left (spans s.uuid n s) (holds xs s.uuid n) at, x.3)
    go (inr later) rest = let x = rest later in (x.0, x.1, or_right (spans x.0 x.1 s) (holds xs x.0 x.1) x.2, x.3)

pub set-lacks : (o : Option Position) (s : Status) → holds_seen o s ≡ false → LacksSome o s
set-lacks None s e = tt
set-lacks (Some m) s e = lacks-some m.set s.set e

pub set-come : (o : Option Position) (s : Status) → holds_seen o s ≡ true → LacksSome o s → ⊥
set-come None s e h = false≢true e
set-come (Some m) s e h = false≢true (sym h.3 ∙ within-holds m.set s.set e h.0 h.1 h.2)

pub lacks-set : (o : Option Position) (s : Status) → LacksSome o s → holds_seen o s ≡ false
lacks-set o s h = false_from_ne_true (holds_seen o s) (λ e. set-come o s e h)

pub unsettled : (s : Status) → is_settled s ≡ false → (s.sql ≡ true) × (same_coord s.read s.exec ≡ false)
unsettled s e = let p = and_parts s.sql (not (same_coord s.read s.exec)) (not-false (s.sql && not (same_coord s.read s.exec)) e) in (p.0, not-true (same_coord s.read s.exec) p.1)

pub settled-not : (s : Status) → (s.sql ≡ true) × (same_coord s.read s.exec ≡ false) → is_settled s ≡ false
settled-not s h = not_from_true (s.sql && not (same_coord s.read s.exec)) (and_from s.sql (not (same_coord s.read s.exec)) h.0 (not_from_false (same_coord s.read s.exec) h.1))

-- the wait for a settled applier that ends by an unsettled one was the last
pub has-come : (j : Job) (s : Status) → settles j s ≡ true → (s.sql ≡ true) × (same_coord s.read s.exec ≡ false) → j.wait ≤ j.waited + 1
has-come j s e miss = go (or_cases (is_settled s) (not (nat_lt (j.waited + 1) j.wait)) e)
  where
    go : (is_settled s ≡ true) ⊎ (not (nat_lt (j.waited + 1) j.wait) ≡ true) → j.wait ≤ j.waited + 1
    go (inl h) = absurd (false≢true (sym (settled-not s miss) ∙ h))
    go (inr h) = ltb-false (j.waited + 1) j.wait (not-true (nat_lt (j.waited + 1) j.wait) h)

-- ---- changes of source

with-server : (m n : ServerNo) (o : Option Exchange) (x : Exchange) → IfSome o (IsAttachment m) → Some m ≡ Some n → o ≡ Some x → server_of x ≡ n.0
with-server m n o x of h e = attached-server m x (subst (λ (p : Option Exchange). IfSome p (IsAttachment m)) e of) ∙ ap (λ (k : ServerNo). k.0) (same_Some m n h)

pub attachment-with : (j : Job) (d : Deed) (n : ServerNo) (x : Exchange) → change_of d ≡ Some n → attachment_of j d ≡ Some x → server_of x ≡ n.0
attachment-with j (deed.Cross c a b) n x h e = with-server a n _ x (crossed-of a c (bridge_at (read_by c a b) (seen_of j.seen (read_by c a b).0))) h e
attachment-with j (deed.Same m) n x h e = with-server m n _ x (same-of m (seen_of j.seen m.0)) h e
attachment-with j (deed.Auto m k) n x h e = with-server m n _ x (set-of m k (seen_of j.seen k.0)) h e
attachment-with j (deed.CrossMatch m k) n x h e = with-server m n _ x (match-of m k (match_found j.matches m k)) h e
attachment-with j _ n x h e = cc
