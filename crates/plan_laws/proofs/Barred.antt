-- Replicas that are ahead of the chosen one, and how it is found again.
use Rattle.std.proofs.Common.{◌≡◌, ◌∙◌, Bool, true, false, cond, List, [], ◌∷◌, Option, Some, None, refl, sym, ap, ◌==◌, filter, find}
use Rattle.plan_laws.proofs.Prelude.{Coord, Fate, Loss, Miss, Purpose, ServerNo, Stage, Stopped, Why, World, eqb-true, false≢true, is_takeover}
use Rattle.plan_laws.proofs.Prelude.{lost_on_way, lost_or_fails, missed_fate, move_fate, same-no, same_Some, stopped_in, why_missed}
use Rattle.plan_laws.proofs.Prelude.purpose
use Rattle.plan_laws.proofs.Prelude.stage
use Rattle.plan_laws.proofs.Prelude.taking
use Rattle.plan_laws.proofs.Prelude.way
use Rattle.plan_laws.proofs.Prelude.why

-- of a move by GTIDs
abbrev pub exec_in : Coord → Stage → Coord
exec_in d (stage.Move n (way.Auto to exec)) = exec
exec_in d _ = d

abbrev pub mover_in : ServerNo → Stage → ServerNo
mover_in d (stage.Move n by) = n
mover_in d _ = d

-- no replica is started at once, but in a takeover
abbrev pub NotFrees : Fate → Type 0
NotFrees (taking.Frees n y) = ⊥
NotFrees _ = Unit {0}

pub not-frees : (w : World) (u : Purpose) → is_takeover u ≡ false → (n to : ServerNo) (exec : Coord) (l : Option Loss) → NotFrees (move_fate w u n (way.Auto to exec) l)
not-frees w u rest n to exec l = go l
  where
    on-way : (v : Purpose) → is_takeover v ≡ false → (y : Why) → NotFrees (lost_on_way v n y)
    on-way (purpose.Takeover d) is y = absurd (false≢true (sym is))
    on-way _ is y = tt

    missed : (m : Miss) → NotFrees (missed_fate w u n (way.Auto to exec) m)
    missed m = by-why (why_missed w n (way.Auto to exec) m)
      where
        by-why : (o : Option Why) → NotFrees (lost_or_fails u n o)
        by-why None = tt
        by-why (Some y) = on-way u rest y

    go : (x : Option Loss) → NotFrees (move_fate w u n (way.Auto to exec) x)
    go None = tt
    go (Some taking.Spent) = tt
    go (Some taking.Differs) = on-way u rest (why.ahead exec)
    go (Some (taking.Missed m)) = missed m

-- what is found of a list
found-no : (n : ServerNo) (xs : List Stopped) (p : Stopped) → stopped_in xs (Some n) ≡ Some p → p.no ≡ n
found-no n [] p h = cc
found-no n (x ∷ xs) p h = go (x.no.0 == n.0) refl h (found-no n xs p)
  where
    go : (b : Bool) → (x.no.0 == n.0) ≡ b → cond b (Some x) (find (λ s. s.no.0 == n.0) xs) ≡ Some p → (stopped_in xs (Some n) ≡ Some p → p.no ≡ n) → p.no ≡ n
    go true is h rest = ap (λ (s : Stopped). s.no) (sym (same_Some x p h)) ∙ same-no x.no n (eqb-true x.no.0 n.0 is)
    go false is h rest = rest h

-- is found of those that pass, if it passes
pub find-filter : (n : ServerNo) (q : Stopped → Bool) (xs : List Stopped) (p : Stopped) → stopped_in xs (Some n) ≡ Some p → q p ≡ true → stopped_in (filter q xs) (Some n) ≡ Some p
find-filter n q [] p h passes = h
find-filter n q (x ∷ xs) p h passes = go (x.no.0 == n.0) refl h (λ g. find-filter n q xs p g passes)
  where
    go : (b : Bool) → (x.no.0 == n.0) ≡ b → cond b (Some x) (find (λ s. s.no.0 == n.0) xs) ≡ Some p → (stopped_in xs (Some n) ≡ Some p → stopped_in (filter q xs) (Some n) ≡ Some p)
        → stopped_in (cond (q x) (x ∷ filter q xs) (filter q xs)) (Some n) ≡ Some p
    go true is h rest =
        ap (λ (b : Bool). stopped_in (cond b (x ∷ filter q xs) (filter q xs)) (Some n)) (ap q (same_Some x p h) ∙ passes)
        ∙ (ap (λ (b : Bool). cond b (Some x) (find (λ s. s.no.0 == n.0) (filter q xs))) is ∙ h)
    go false is h rest = by (q x)
      where
        by : (v : Bool) → stopped_in (cond v (x ∷ filter q xs) (filter q xs)) (Some n) ≡ Some p
        by true = ap (λ (b : Bool). cond b (Some x) (find (λ s. s.no.0 == n.0) (filter q xs))) is ∙ rest h
        by false = rest h

pub named-so : (xs : List Stopped) (p : Stopped) (o : Option ServerNo) → stopped_in xs o ≡ Some p → stopped_in xs (Some p.no) ≡ Some p
named-so xs p None h = cc
named-so xs p (Some n) h = ap (λ (k : ServerNo). stopped_in xs (Some k)) (found-no n xs p h) ∙ h
