-- Plans leave operations with `Held`.
use Rattle.job_laws.proofs.Prelude.{Deed, Finish, Footing, Line, Op, SameBase, ServerNo, again, and_parts, are_held, asking, auto, both, deed_of}
use Rattle.job_laws.proofs.Prelude.{eq_refl as self, finds, finished, learn, looking, or_right as or-more, swap, under, up}
use Rattle.job_laws.proofs.Prelude.op.{Status}
use Rattle.job_laws.proofs.Prelude.deed
use Rattle.std.proofs.Common.{◌≡◌, Bool, true, false, List, [], ◌∷◌, ◌++◌, refl, Option, Some, None, ◌||◌, ◌==◌}

pub any-true : (b : Bool) → (b || true) ≡ true
any-true true = refl
any-true false = refl

pub up-held : (f : Footing) (i x g : ServerNo) → (i.0 == x.0) ≡ false → are_held f (up i x g) ≡ true
up-held f i x g apart = simp (self, apart) refl

-- a server that is its own source has no plan with `Held`: the wait forgets what was seen of it
pub up-itself : (f : Footing) (i g : ServerNo) → are_held f (up i i g) ≡ false
up-itself f i g = simp (self, any-true) refl

pub under-held : (f : Footing) (i d s : ServerNo) → f.logs d.0 ≡ true → are_held f (under i d s) ≡ true
under-held f i d s logs = simp (self, logs, any-true) refl

pub again-held : (f : Footing) (i x : ServerNo) → are_held f (again i x) ≡ true
again-held f i x = simp (self) refl

pub auto-held : (f : Footing) (r d : ServerNo) → f.gtid ≡ true → f.logs d.0 ≡ true → are_held f (auto r d) ≡ true
auto-held f r d gtid logs = simp (self, gtid, logs) refl

pub swap-held : (f : Footing) (i x g : ServerNo) → (i.0 == x.0) ≡ false → f.logs i.0 ≡ true → are_held f (swap i x g) ≡ true
swap-held f i x g apart logs = simp (self, apart, logs, any-true) refl

-- an operation that asks one thing, and then a reading
pub asking-held : (f : Footing) (op : Op) (i : ServerNo) → finds f (deed_of op) ≡ true → are_held f (asking op i) ≡ true
asking-held f op i h = both (finds f (deed_of op)) (are_held (learn f (deed_of op)) (Status i None ∷ [])) h refl

-- ---- plans one after another

base-looking : (f : Footing) (n : ServerNo) (from : Option ServerNo) → SameBase f (looking f n from)
base-looking f n None = record { gtid = λ h. h; logs = λ k h. h }
base-looking f n (Some m) = record { gtid = λ h. h; logs = λ k h. or-more (m.0 == k) (f.logs k) h }

base-learn : (f : Footing) (d : Deed) → SameBase f (learn f d)
base-learn f (deed.Look n from) = base-looking f n from
base-learn f _ = record { gtid = λ h. h; logs = λ k h. h }

base-trans : (f g h : Footing) → SameBase f g → SameBase g h → SameBase f h
base-trans f g h p q = record { gtid = λ e. q.gtid (p.gtid e); logs = λ n e. q.logs n (p.logs n e) }

-- operations with `Held`, and after them some that have `Held` whatever was read
pub held-append : (f : Footing) (ps qs : List Op) → are_held f ps ≡ true → ((g : Footing) → SameBase f g → are_held g qs ≡ true) → are_held f (ps ++ qs) ≡ true
held-append f [] qs h then = then f (record { gtid = λ e. e; logs = λ n e. e })
held-append f (p ∷ ps) qs h then =
    let parts = and_parts (finds f (deed_of p)) (are_held (learn f (deed_of p)) ps) h in
    both (finds f (deed_of p)) (are_held (learn f (deed_of p)) (ps ++ qs)) parts.0
    (held-append (learn f (deed_of p)) ps qs parts.1 (λ g base. then g (base-trans f (learn f (deed_of p)) g (base-learn f (deed_of p)) base)))

-- the last operation has the lines of what was done
pub finished-held : (f : Footing) (ops : List Op) (lines : List Line) → are_held f ops ≡ true → are_held f (finished ops lines) ≡ true
finished-held f ops lines h = held-append f ops (Finish lines ∷ []) h (λ g base. refl)
