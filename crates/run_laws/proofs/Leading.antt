-- Each command's plan leads the servers of its lines where these have them, and starts them.
use Rattle.std.proofs.Common.{All, Bool, List, None, Option, Some, [], ap, append_assoc, arith, cond, false, inl, inr, refl, subst, sym, true, ℕ, ◌&&◌, ◌++◌, ◌==◌, ◌∙◌, ◌∷◌, ◌||◌, ◌≡◌, ◌⊎◌, Contains, if◌then◌else◌}
use Rattle.run_laws.proofs.Prelude.{All-cons, All-contains, All-head, All-map, All-nil, All-tail, All-weaker, Attached, Below, BookState, Command}
use Rattle.run_laws.proofs.Prelude.{CoordsCommand, Deed, Detached, Footing, GtidCommand, HasNoOwnSource, HasPath, LeadsAsTold, Line, MatchCommand, Op}
use Rattle.run_laws.proofs.Prelude.{Path, PlansLeadAsTold, ServerNo, SourceState, Without, World, about_kind, about_one, again, again_auto, and_parts}
use Rattle.run_laws.proofs.Prelude.{append-nil, are_held, auto, autos, below_after, by_gtids, by_name, coords_command, deed_of, eq-eqb, eqb-true}
use Rattle.run_laws.proofs.Prelude.{false≢true, filter_passes, finds, finished, flat_map, following, gtid_command, instance_at, is_attached_to}
use Rattle.run_laws.proofs.Prelude.{is_finish, is_replica_of, learn, led_by, led_by_all, lines_by, lines_of_ops, list_any, matching_plan, ne_eqb}
use Rattle.run_laws.proofs.Prelude.{option_and_then, option_or, or_parts, path_of, pseudo_command, replicas_but, replicas_of, same-no, same_Some}
use Rattle.run_laws.proofs.Prelude.{seen_source, siblings_of, source_above, source_in, source_of, swap, under, up, up-itself}
use Rattle.run_laws.proofs.Prelude.asking
use Rattle.run_laws.proofs.Prelude.coords_kind
use Rattle.run_laws.proofs.Prelude.coords_plans
use Rattle.run_laws.proofs.Prelude.deed
use Rattle.run_laws.proofs.Prelude.gtid_kind
use Rattle.run_laws.proofs.Prelude.gtid_plans
use Rattle.run_laws.proofs.Prelude.line
use Rattle.run_laws.proofs.Prelude.match_plans
use Rattle.run_laws.proofs.Prelude.matching as match_kind
use Rattle.run_laws.proofs.Prelude.op
use Rattle.run_laws.proofs.Prelude.path_plans

-- ---- operations one after another

abbrev below-all : Below → List Op → Below
below-all below [] = below
below-all below (x ∷ xs) = below-all (below_after below (deed_of x)) xs

led-append : (n : ℕ) (below : Below) (at : Option ServerNo) (xs ys : List Op) → led_by_all n below at (xs ++ ys) ≡ led_by_all n (below-all below xs) (led_by_all n below at xs) ys
led-append n below at [] ys = refl
led-append n below at (x ∷ xs) ys = led-append n (below_after below (deed_of x)) (led_by n below at (deed_of x)) xs ys

lines-append : (xs ys : List Op) → lines_of_ops (xs ++ ys) ≡ lines_of_ops xs ++ lines_of_ops ys
lines-append [] ys = refl
lines-append (x ∷ xs) ys = ap (λ (ls : List Line). lines_by (deed_of x) ++ ls) (lines-append xs ys) ∙ sym (append_assoc (lines_by (deed_of x)) (lines_of_ops xs) (lines_of_ops ys))

no-lines : (ops : List Op) → list_any (λ o. is_finish (deed_of o)) ops ≡ false → lines_of_ops ops ≡ []
no-lines [] none = refl
no-lines (x ∷ xs) none =
    let parts = or_parts (is_finish (deed_of x)) (list_any (λ o. is_finish (deed_of o)) xs) none in
    ap (λ (ls : List Line). ls ++ lines_of_ops xs) (untold (deed_of x) parts.0) ∙ no-lines xs parts.1
  where
    untold : (d : Deed) → is_finish d ≡ false → lines_by d ≡ []
    untold (deed.Finish ls) e = absurd (false≢true (sym e))
    untold _ e = refl

any-append : (xs ys : List Op) → list_any (λ o. is_finish (deed_of o)) xs ≡ false → list_any (λ o. is_finish (deed_of o)) ys ≡ false → list_any (λ o. is_finish (deed_of o)) (xs ++ ys) ≡ false
any-append [] ys first later = later
any-append (x ∷ xs) ys first later =
    let parts = or_parts (is_finish (deed_of x)) (list_any (λ o. is_finish (deed_of o)) xs) first in
    ap (λ (b : Bool). b || list_any (λ o. is_finish (deed_of o)) (xs ++ ys)) parts.0 ∙ any-append xs ys parts.1 later

-- ---- starts

-- whether a server is started, and not stopped or moved after it
abbrev pub runs_by : ℕ → Bool → Deed → Bool
runs_by n on (deed.Request k asking.Start) = if k.0 == n then true else on
runs_by n on (deed.Request k (asking.SetReadOnly b)) = on
runs_by n on (deed.Request k _) = if k.0 == n then false else on
runs_by n on (deed.Until k to) = if k.0 == n then false else on
runs_by n on (deed.Cross c a b) = if a.0 == n then false else on
runs_by n on (deed.Same k) = if k.0 == n then false else on
runs_by n on (deed.Auto k m) = if k.0 == n then false else on
runs_by n on (deed.CrossMatch k m) = if k.0 == n then false else on
runs_by n on _ = on

abbrev pub runs : ℕ → Bool → List Op → Bool
runs n on [] = on
runs n on (x ∷ xs) = runs n (runs_by n on (deed_of x)) xs

runs-append : (n : ℕ) (on : Bool) (xs ys : List Op) → runs n on (xs ++ ys) ≡ runs n (runs n on xs) ys
runs-append n on [] ys = refl
runs-append n on (x ∷ xs) ys = runs-append n (runs_by n on (deed_of x)) xs ys

-- operations leave a server started that was, or that is this one
abbrev Starts : ServerNo → List Op → Type 0
Starts r ops = (n : ℕ) (on : Bool) → (on ≡ true) ⊎ ((r.0 == n) ≡ true) → runs n on ops ≡ true

abbrev Stays : List Op → Type 0
Stays ops = (n : ℕ) (on : Bool) → on ≡ true → runs n on ops ≡ true

starts-before : (r : ServerNo) (xs ys : List Op) → Starts r xs → Stays ys → Starts r (xs ++ ys)
starts-before r xs ys first later n on h = runs-append n on xs ys ∙ later n (runs n on xs) (first n on h)

-- ---- lines

-- it is led where a line has it, and started
abbrev pub IsLedSo : List Op → Line → Type 0
IsLedSo ops (line.Follows r s) = (led_by_all r.0 (λ n. None) None ops ≡ Some s) × (runs r.0 false ops ≡ true)
IsLedSo ops _ = Unit {0}

-- operations of which none ends the job, with these lines after them
pub record Tells (ops : List Op) : Type 0 where
  pub before : List Op
  pub lines : List Line
  pub is : ops ≡ finished before lines
  pub none : list_any (λ o. is_finish (deed_of o)) before ≡ false
  pub led : All (IsLedSo before) lines

-- a plan is empty, or ends with lines of servers that it leads there
abbrev pub IsTold : List Op → Type 0
IsTold ops = (ops ≡ []) ⊎ Tells ops

ends-so : (ops : List Op) (lines : List Line) → list_any (λ o. is_finish (deed_of o)) ops ≡ false → All (IsLedSo ops) lines → IsTold (finished ops lines)
ends-so ops lines none all = inr (record { before = ops; lines = lines; is = refl; none = none; led = all })

nothing-told : IsTold []
nothing-told = inl refl

-- then it leads the servers of its lines
leads-so : (ops : List Op) → IsTold ops → LeadsAsTold ops
leads-so ops (inl none) r s has = absurd (none-in (line.Follows r s) (subst (λ (os : List Op). Contains (lines_of_ops os) (line.Follows r s)) none has))
  where
    none-in : (l : Line) → Contains [] l → ⊥
    none-in l c = let lt = c.1 in omega (arith, lt)
leads-so ops (inr t) r s has =
    ap (led_by_all r.0 (λ n. None) None) t.is
    ∙ led-append r.0 (λ n. None) None t.before (op.Finish t.lines ∷ [])
    ∙ (All-contains (IsLedSo t.before) t.lines (line.Follows r s) t.led (subst (λ (ls : List Line). Contains ls (line.Follows r s)) told has)).0
  where
    told : lines_of_ops ops ≡ t.lines
    told =
        ap lines_of_ops t.is ∙ lines-append t.before (op.Finish t.lines ∷ [])
        ∙ (ap (λ (ls : List Line). ls ++ (t.lines ++ [])) (no-lines t.before t.none) ∙ append-nil t.lines)

one-line : (ops : List Op) (r s : ServerNo) → led_by_all r.0 (λ n. None) None ops ≡ Some s → runs r.0 false ops ≡ true → All (IsLedSo ops) (line.Follows r s ∷ [])
one-line ops r s h on = All-cons (IsLedSo ops) (line.Follows r s) [] (h, on) (All-nil (IsLedSo ops))

-- ---- parts

self : (n : ServerNo) → (n.0 == n.0) ≡ true
self n = eq-eqb n.0 n.0 refl

apart-so : (a b : ServerNo) → (a.0 ≡ b.0 → ⊥) → (a.0 == b.0) ≡ false
apart-so a b h = ne_eqb a.0 b.0 h

-- a part leads this server there, and no other anywhere
abbrev Leads : ServerNo → ServerNo → List Op → Type 0
Leads r t ops = (n : ℕ) (below : Below) (at : Option ServerNo) → led_by_all n below at ops ≡ cond (r.0 == n) (Some t) at

-- and starts it, and ends no job
pub record Part (r t : ServerNo) (ops : List Op) : Type 0 where
  leads : Leads r t ops
  starts : Starts r ops
  none : list_any (λ o. is_finish (deed_of o)) ops ≡ false

-- the threads of two servers, by which of them it is
two-run : (a b on : Bool) → (on ≡ true) ⊎ (a ≡ true) → cond b true (cond a true (cond a false (cond a false (cond a false (cond b false (cond a false on)))))) ≡ true
two-run a true on h = refl
two-run true false on h = refl
two-run false false on (inl h) = h
two-run false false on (inr h) = absurd (false≢true h)

four-run : (a b on : Bool) → (on ≡ true) ⊎ (a ≡ true)
    → cond a true (cond b true (cond a false (cond b false (cond a false (cond b false (cond a false (cond b false (cond a false on)))))))) ≡ true
four-run true b on h = refl
four-run false true on h = refl
four-run false false on (inl h) = h
four-run false false on (inr h) = absurd (false≢true h)

swap-run : (a b on : Bool) → (on || (a || b)) ≡ true → cond b true (cond a true (cond b false (cond a false (cond a false (cond a false (cond b false (cond a false on))))))) ≡ true
swap-run a true on h = refl
swap-run true false on h = refl
swap-run false false true h = refl
swap-run false false false h = absurd (false≢true h)

one-run : (a on : Bool) → (on ≡ true) ⊎ (a ≡ true) → cond a true (cond a false (cond a false on)) ≡ true
one-run true on h = refl
one-run false on (inl h) = h
one-run false on (inr h) = absurd (false≢true h)

up-leads : (i x g : ServerNo) → (i.0 ≡ x.0 → ⊥) → Part i g (up i x g)
up-leads i x g apart = record {
  leads = λ n below at.
      ap (λ (a : Bool). cond (i.0 == n) (cond a None (cond a (Some x) (cond (x.0 == x.0) (Some g) (below x.0)))) at) (apart-so i x apart)
      ∙ ap (λ (a : Bool). cond (i.0 == n) (cond a (Some g) (below x.0)) at) (self x);
  starts = λ n on h. two-run (i.0 == n) (x.0 == n) on h;
  none = refl;
}

under-leads : (i d s : ServerNo) → Part i d (under i d s)
under-leads i d s = record { leads = λ n below at. refl; starts = λ n on h. four-run (i.0 == n) (d.0 == n) on h; none = refl }

auto-leads : (r d : ServerNo) → Part r d (auto r d)
auto-leads r d = record { leads = λ n below at. refl; starts = λ n on h. one-run (r.0 == n) on h; none = refl }

matching-leads : (r d : ServerNo) (every : ℕ) → Part r d (matching_plan r d every)
matching-leads r d every = record { leads = λ n below at. refl; starts = λ n on h. one-run (r.0 == n) on h; none = refl }

again-leads : (i x : ServerNo) → Part i x (again i x)
again-leads i x = record {
  leads = λ n below at. ap (λ (a : Bool). cond (i.0 == n) (cond a (Some x) (below i.0)) at) (self i);
  starts = λ n on h. one-run (i.0 == n) on h;
  none = refl;
}

-- the server itself
leads-it : (r t : ServerNo) (ops : List Op) → Part r t ops → (below : Below) (at : Option ServerNo) → led_by_all r.0 below at ops ≡ Some t
leads-it r t ops h below at = h.leads r.0 below at ∙ ap (λ (a : Bool). cond a (Some t) at) (self r)

starts-it : (r t : ServerNo) (ops : List Op) → Part r t ops → (on : Bool) → runs r.0 on ops ≡ true
starts-it r t ops h on = h.starts r.0 on (inr (self r))

-- a part of one server, with its line
part-told : (r t : ServerNo) (ops : List Op) → Part r t ops → IsTold (finished ops (line.Follows r t ∷ []))
part-told r t ops h = ends-so ops (line.Follows r t ∷ []) h.none (one-line ops r t (leads-it r t ops h (λ n. None) None) (starts-it r t ops h false))

-- one part after another of the same server
module _ (r : ServerNo) where
  then-leads : (s t : ServerNo) (xs ys : List Op) → Part r s xs → Part r t ys → Part r t (xs ++ ys)
  then-leads s t xs ys first later = record {
    leads = λ n below at.
        led-append n below at xs ys
        ∙ (later.leads n (below-all below xs) (led_by_all n below at xs) ∙ (ap (λ (o : Option ServerNo). cond (r.0 == n) (Some t) o) (first.leads n below at) ∙ twice at (r.0 == n)));
    starts = starts-before r xs ys first.starts (λ n on h. later.starts n on (inl h));
    none = any-append xs ys first.none later.none;
  }
    where
      twice : (at : Option ServerNo) (a : Bool) → cond a (Some t) (cond a (Some s) at) ≡ cond a (Some t) at
      twice at true = refl
      twice at false = refl

-- ---- several, one after another

module _ (f : ServerNo → List Op) (t : ServerNo) where
  abbrev Each : List ServerNo → Type 0
  Each rs = All (λ r. Part r t (f r)) rs

  head : (r : ServerNo) (rs : List ServerNo) → Each (r ∷ rs) → Part r t (f r)
  head r rs all = All-head (λ (k : ServerNo). Part k t (f k)) r rs all

  tail : (r : ServerNo) (rs : List ServerNo) → Each (r ∷ rs) → Each rs
  tail r rs all = All-tail (λ (k : ServerNo). Part k t (f k)) r rs all

  -- one that is there stays there
  stays-led : (rs : List ServerNo) → Each rs → (n : ℕ) (below : Below) → led_by_all n below (Some t) (flat_map f rs) ≡ Some t
  stays-led [] all n below = refl
  stays-led (r ∷ rs) all n below =
      led-append n below (Some t) (f r) (flat_map f rs)
      ∙ (ap (λ (o : Option ServerNo). led_by_all n (below-all below (f r)) o (flat_map f rs)) ((head r rs all).leads n below (Some t) ∙ same (r.0 == n))
      ∙ stays-led rs (tail r rs all) n (below-all below (f r)))
    where
      same : (a : Bool) → cond a (Some t) (Some t) ≡ Some t
      same true = refl
      same false = refl

  stays-on : (rs : List ServerNo) → Each rs → Stays (flat_map f rs)
  stays-on [] all n on h = h
  stays-on (r ∷ rs) all n on h = runs-append n on (f r) (flat_map f rs) ∙ stays-on rs (tail r rs all) n (runs n on (f r)) ((head r rs all).starts n on (inl h))

  abbrev LedTo : Below → Option ServerNo → Bool → List Op → ServerNo → Type 0
  LedTo below at on ops r = (led_by_all r.0 below at ops ≡ Some t) × (runs r.0 on ops ≡ true)

  all-led : (rs : List ServerNo) → Each rs → (at : Option ServerNo) (below : Below) (on : Bool) → All (LedTo below at on (flat_map f rs)) rs
  all-led [] all at below on = All-nil (LedTo below at on [])
  all-led (r ∷ rs) all at below on =
      All-cons (LedTo below at on (f r ++ flat_map f rs)) r rs (
        led-append r.0 below at (f r) (flat_map f rs)
            ∙ (ap (λ (o : Option ServerNo). led_by_all r.0 (below-all below (f r)) o (flat_map f rs)) (leads-it r t (f r) (head r rs all) below at)
            ∙ stays-led rs (tail r rs all) r.0 (below-all below (f r))),
        runs-append r.0 on (f r) (flat_map f rs) ∙ stays-on rs (tail r rs all) r.0 (runs r.0 on (f r)) (starts-it r t (f r) (head r rs all) on),
      )
      (All-weaker (λ (k : ServerNo). (o : Option ServerNo) (a : Bool) → LedTo (below-all below (f r)) o a (flat_map f rs) k) (LedTo below at on (f r ++ flat_map f rs))
      (λ k h. (
        led-append k.0 below at (f r) (flat_map f rs) ∙ (h (led_by_all k.0 below at (f r)) (runs k.0 on (f r))).0,
        runs-append k.0 on (f r) (flat_map f rs) ∙ (h (led_by_all k.0 below at (f r)) (runs k.0 on (f r))).1,
      )) rs (λ i d lt o a. all-led rs (tail r rs all) o (below-all below (f r)) a i d lt))

  -- none of them ends the job
  none-ends : (rs : List ServerNo) → Each rs → list_any (λ o. is_finish (deed_of o)) (flat_map f rs) ≡ false
  none-ends [] all = refl
  none-ends (r ∷ rs) all = any-append (f r) (flat_map f rs) (head r rs all).none (none-ends rs (tail r rs all))

  all-tell : (rs : List ServerNo) → Each rs → IsTold (finished (flat_map f rs) (following rs t))
  all-tell rs all =
      ends-so (flat_map f rs) (following rs t) (none-ends rs all)
      (All-map (IsLedSo (flat_map f rs)) (λ (r : ServerNo). line.Follows r t) rs (all-led rs all None (λ n. None) false))

every : (f : ServerNo → List Op) (t : ServerNo) → ((r : ServerNo) → Part r t (f r)) → (rs : List ServerNo) → All (λ r. Part r t (f r)) rs
every f t each [] = All-nil (λ (r : ServerNo). Part r t (f r))
every f t each (r ∷ rs) = All-cons (λ (k : ServerNo). Part k t (f k)) r rs (each r) (every f t each rs)

-- one whose line is the server alone
told-server : (ops : List Op) (i : ServerNo) → list_any (λ o. is_finish (deed_of o)) ops ≡ false → IsTold (finished ops (line.Server i ∷ []))
told-server ops i none = ends-so ops (line.Server i ∷ []) none (All-cons (IsLedSo ops) (line.Server i) [] tt (All-nil (IsLedSo ops)))

-- ---- what finds what it uses

-- operations find what they use, if so much is known
abbrev pub Finds : List Op → Type 0
Finds ops = (g : Footing) × (are_held g ops ≡ true)

finds-parts : (g : Footing) (xs ys : List Op) → are_held g (xs ++ ys) ≡ true → (are_held g xs ≡ true) × Finds ys
finds-parts g [] ys h = (refl, (g, h))
finds-parts g (x ∷ xs) ys h =
    let parts = and_parts (finds g (deed_of x)) (are_held (learn g (deed_of x)) (xs ++ ys)) h in
    let rest = finds-parts (learn g (deed_of x)) xs ys parts.1 in
    (both (finds g (deed_of x)) (are_held (learn g (deed_of x)) xs) parts.0 rest.0, rest.1)
  where
    both : (a b : Bool) → a ≡ true → b ≡ true → (a && b) ≡ true
    both true b p q = q
    both false b p q = absurd (false≢true p)

-- a server that goes up finds it of another
up-apart : (g : Footing) (i x t : ServerNo) → are_held g (up i x t) ≡ true → i.0 ≡ x.0 → ⊥
up-apart g i x t h same = false≢true (sym (up-itself g i t) ∙ subst (λ (k : ServerNo). are_held g (up i k t) ≡ true) (sym (same-no i x same)) h)

ups-apart : (i x : ServerNo) (rs : List ServerNo) → Finds (flat_map (λ (r : ServerNo). up r i x) rs) → All (λ r. r.0 ≡ i.0 → ⊥) rs
ups-apart i x [] h = All-nil (λ (r : ServerNo). r.0 ≡ i.0 → ⊥)
ups-apart i x (r ∷ rs) h =
    let parts = finds-parts h.0 (up r i x) (flat_map (λ (k : ServerNo). up k i x) rs) h.1 in
    All-cons (λ (k : ServerNo). k.0 ≡ i.0 → ⊥) r rs (up-apart h.0 r i x parts.0) (ups-apart i x rs parts.1)

-- ---- by coordinates

-- in a book that has no instance as its own source a replica is another server
module _ (b : BookState) (loose : HasNoOwnSource b) where
  attached-apart : (i r : ServerNo) → is_replica_of b i r ≡ true → r.0 ≡ i.0 → ⊥
  attached-apart i r h same = go (seen_source (instance_at b r)) refl h
    where
      go : (x : SourceState) → seen_source (instance_at b r) ≡ x → is_attached_to i x ≡ true → ⊥
      go Without e g = false≢true g
      go (Attached m) e g = loose r m (ap source_in e) (eqb-true m.0 i.0 g ∙ sym same)
      go (Detached m) e g = false≢true g

  replicas-apart : (i : ServerNo) → All (λ r. r.0 ≡ i.0 → ⊥) (replicas_of b i)
  replicas-apart i = All-weaker (λ (r : ServerNo). is_replica_of b i r ≡ true) (λ (r : ServerNo). r.0 ≡ i.0 → ⊥) (λ r h. attached-apart i r h) (replicas_of b i) (filter_passes (is_replica_of b i) (by_name b.names))

-- in such a book, or if its operations find what they use
module _ (b : BookState) where
  abbrev Works : List Op → Type 0
  Works ops = HasNoOwnSource b ⊎ Finds ops

  goes-apart : (i x g : ServerNo) (lines : List Line) → source_of b i ≡ Some x → Works (finished (up i x g) lines) → i.0 ≡ x.0 → ⊥
  goes-apart i x g lines e (inl loose) = λ same. loose i x e (sym same)
  goes-apart i x g lines e (inr h) = up-apart h.0 i x g (finds-parts h.0 (up i x g) (op.Finish lines ∷ []) h.1).0

  ups-go-apart : (i x : ServerNo) (lines : List Line) → Works (finished (flat_map (λ (r : ServerNo). up r i x) (replicas_of b i)) lines) → All (λ r. r.0 ≡ i.0 → ⊥) (replicas_of b i)
  ups-go-apart i x lines (inl loose) = replicas-apart b loose i
  ups-go-apart i x lines (inr h) =
      ups-apart i x (replicas_of b i) (h.0, (finds-parts h.0 (flat_map (λ (r : ServerNo). up r i x) (replicas_of b i)) (op.Finish lines ∷ []) h.1).0)

  -- two that change places, whether they are two or one
  swap-told : (i x g : ServerNo) → source_of b i ≡ Some x → source_above b i ≡ Some g → IsTold (finished (swap i x g) (line.Follows i g ∷ line.Follows x i ∷ []))
  swap-told i x g e above = go (i.0 == x.0) refl
    where
      told : led_by_all i.0 (λ n. None) None (swap i x g) ≡ Some g → led_by_all x.0 (λ n. None) None (swap i x g) ≡ Some i → IsTold (finished (swap i x g) (line.Follows i g ∷ line.Follows x i ∷ []))
      told first second =
          ends-so (swap i x g) (line.Follows i g ∷ line.Follows x i ∷ []) refl
          (All-cons (IsLedSo (swap i x g)) (line.Follows i g) (line.Follows x i ∷ [])
          (first, swap-run (i.0 == i.0) (x.0 == i.0) false (ap (λ (a : Bool). a || (x.0 == i.0)) (self i)))
          (one-line (swap i x g) x i second (swap-run (i.0 == x.0) (x.0 == x.0) false (or-right (i.0 == x.0) (x.0 == x.0) (self x)))))
        where
          or-right : (a c : Bool) → c ≡ true → (a || c) ≡ true
          or-right true c h = refl
          or-right false c h = h

      -- a server that is its own source
      one : i ≡ x → IsTold (finished (swap i x g) (line.Follows i g ∷ line.Follows x i ∷ []))
      one same =
          let its : g ≡ i = same_Some g i (sym above ∙ (ap (option_and_then (source_of b)) (e ∙ ap Some (sym same)) ∙ (e ∙ ap Some (sym same)))) in
          told
          (ap (λ (y : ServerNo). led_by_all i.0 (λ n. None) None (swap i y g)) (sym same)
          ∙ (ap (λ (a : Bool). cond a (Some i) (cond a (cond a (Some i) (cond a None (cond a (Some i) (cond a (Some g) None)))) None)) (self i) ∙ ap Some (sym its)))
          (ap (λ (y : ServerNo). led_by_all y.0 (λ n. None) None (swap i y g)) (sym same)
          ∙ ap (λ (a : Bool). cond a (Some i) (cond a (cond a (Some i) (cond a None (cond a (Some i) (cond a (Some g) None)))) None)) (self i))

      two : (i.0 ≡ x.0 → ⊥) → IsTold (finished (swap i x g) (line.Follows i g ∷ line.Follows x i ∷ []))
      two apart = told first second
        where
          -- the source below which the other was read, by whether they are one
          seen : Bool → Bool → Option ServerNo
          seen a c = cond a (Some x) (cond a None (cond a (Some x) (cond c (Some g) None)))

          first : led_by_all i.0 (λ n. None) None (swap i x g) ≡ Some g
          first =
              ap (λ (a : Bool). cond a (Some i) (cond (i.0 == i.0) (seen (i.0 == x.0) (x.0 == x.0)) None)) (apart-so x i (λ same. apart (sym same)))
              ∙ (ap (λ (a : Bool). cond a (seen (i.0 == x.0) (x.0 == x.0)) None) (self i)
              ∙ (ap (λ (a : Bool). seen a (x.0 == x.0)) (apart-so i x apart) ∙ ap (seen false) (self x)))

          second : led_by_all x.0 (λ n. None) None (swap i x g) ≡ Some i
          second = ap (λ (a : Bool). cond a (Some i) (cond (i.0 == x.0) (seen (i.0 == x.0) (x.0 == x.0)) None)) (self x)

      go : (c : Bool) → (i.0 == x.0) ≡ c → IsTold (finished (swap i x g) (line.Follows i g ∷ line.Follows x i ∷ []))
      go true same = one (same-no i x (eqb-true i.0 x.0 same))
      go false apart = two (λ same. false≢true (sym apart ∙ eq-eqb i.0 x.0 same))

  kind-tells : (w : World) (k : CoordsCommand) (i : ServerNo) (d : Option ServerNo) → Works (coords_plans.ops_of w b k i d) → IsTold (coords_plans.ops_of w b k i d)
  kind-tells w coords_kind.MoveUp i d works = go (source_of b i) refl (source_above b i) works
    where
      go : (x : Option ServerNo) → source_of b i ≡ x → (g : Option ServerNo) → Works (coords_plans.moved_up i x g) → IsTold (coords_plans.moved_up i x g)
      go None e g works = nothing-told
      go (Some x) e None works = nothing-told
      go (Some x) e (Some g) works = part-told i g (up i x g) (up-leads i x g (goes-apart i x g (line.Follows i g ∷ []) e works))
  kind-tells w coords_kind.MoveUpReplicas i d works = go (source_of b i) works
    where
      go : (x : Option ServerNo) → Works (coords_plans.replicas_moved_up (replicas_of b i) i x) → IsTold (coords_plans.replicas_moved_up (replicas_of b i) i x)
      go None works = nothing-told
      go (Some x) works =
          all-tell (λ (r : ServerNo). up r i x) x (replicas_of b i)
          (All-weaker (λ (r : ServerNo). r.0 ≡ i.0 → ⊥) (λ (r : ServerNo). Part r x (up r i x)) (λ r h. up-leads r i x h) (replicas_of b i) (ups-go-apart i x (following (replicas_of b i) x) works))
  kind-tells w coords_kind.MoveBelow i d works = go d (source_of b i)
    where
      go : (to x : Option ServerNo) → IsTold (coords_plans.moved_below i to x)
      go None x = nothing-told
      go (Some to) None = nothing-told
      go (Some to) (Some x) = part-told i to (under i to x) (under-leads i to x)
  kind-tells w coords_kind.Repoint i d works = go (by_gtids w b i) d (source_of b i)
    where
      by-auto : (x : Option ServerNo) → IsTold (coords_plans.repointed_auto i x)
      by-auto None = nothing-told
      by-auto (Some x) = part-told i x (auto i x) (auto-leads i x)

      by-place : (x : Option ServerNo) → IsTold (coords_plans.repointed i x)
      by-place None = nothing-told
      by-place (Some x) = part-told i x (again i x) (again-leads i x)

      go : (gtids : Bool) (to x : Option ServerNo) → IsTold (coords_plans.repointed_by gtids i to x)
      go true to x = by-auto (option_or to x)
      go false to x = by-place x
  kind-tells w coords_kind.TakeSiblings i d works = go (source_of b i)
    where
      go : (x : Option ServerNo) → IsTold (coords_plans.siblings_taken (siblings_of b i) i x)
      go None = nothing-told
      go (Some x) = all-tell (λ (r : ServerNo). under r i x) i (siblings_of b i) (every (λ (r : ServerNo). under r i x) i (λ r. under-leads r i x) (siblings_of b i))
  kind-tells w coords_kind.TakeMaster i d works = go (source_of b i) refl (source_above b i) refl
    where
      go : (x : Option ServerNo) → source_of b i ≡ x → (g : Option ServerNo) → source_above b i ≡ g → IsTold (coords_plans.master_taken i x g)
      go None e g above = nothing-told
      go (Some x) e None above = nothing-told
      go (Some x) e (Some g) above = swap-told i x g e above
  kind-tells w coords_kind.DetachReplica i d works = told-server (op.Detach i ∷ op.Status i None ∷ []) i refl
  kind-tells w coords_kind.ReattachReplica i d works = told-server (op.Reattach i ∷ op.Start i ∷ op.Status i None ∷ []) i refl
  kind-tells w coords_kind.ResetReplica i d works = told-server (op.Reset i ∷ op.Status i None ∷ []) i refl
  kind-tells w coords_kind.StartReplica i d works = told-server (op.Start i ∷ op.Status i None ∷ []) i refl
  kind-tells w coords_kind.StopReplica i d works = told-server (op.Stop i ∷ op.Status i None ∷ []) i refl
  kind-tells w coords_kind.RestartReplica i d works = told-server (op.Stop i ∷ op.Start i ∷ op.Status i None ∷ []) i refl
  kind-tells w coords_kind.SetReadOnly i d works = told-server (op.ReadOnly i true ∷ op.Status i None ∷ []) i refl
  kind-tells w coords_kind.SetWriteable i d works = told-server (op.ReadOnly i false ∷ op.Status i None ∷ []) i refl

  pub coords-tell : (w : World) (kind : Option CoordsCommand) (c : Command) → Works (about_kind [] (coords_plans.ops_of w b) kind c) → IsTold (about_kind [] (coords_plans.ops_of w b) kind c)
  coords-tell w None c works = nothing-told
  coords-tell w (Some k) c works = one c.i works
    where
      one : (i : Option ServerNo) → Works (about_one [] (coords_plans.ops_of w b k) i c.d) → IsTold (about_one [] (coords_plans.ops_of w b k) i c.d)
      one None works = nothing-told
      one (Some i) works = kind-tells w k i c.d works

about-tells : {K : Type 0} (f : K → ServerNo → Option ServerNo → List Op) (o : Option K) (c : Command) → ((k : K) (i : ServerNo) → IsTold (f k i c.d)) → IsTold (about_kind [] f o c)
about-tells f None c each = nothing-told
about-tells f (Some k) c each = go c.i
  where
    go : (i : Option ServerNo) → IsTold (about_one [] (f k) i c.d)
    go None = nothing-told
    go (Some i) = each k i

-- ---- by GTIDs, matches and paths

pub gtids-tell : (b : BookState) (kind : Option GtidCommand) (c : Command) → IsTold (about_kind [] (gtid_plans.ops_of b) kind c)
gtids-tell b kind c = about-tells (gtid_plans.ops_of b) kind c (λ k i. by k i)
  where
    by : (k : GtidCommand) (i : ServerNo) → IsTold (gtid_plans.ops_of b k i c.d)
    by gtid_kind.MoveGtid i = go c.d
      where
        go : (d : Option ServerNo) → IsTold (gtid_plans.moved i d)
        go None = nothing-told
        go (Some d) = part-told i d (auto i d) (auto-leads i d)
    by gtid_kind.MoveReplicasGtid i = go (replicas_but b i c.d) c.d
      where
        go : (rs : List ServerNo) (d : Option ServerNo) → IsTold (gtid_plans.replicas_moved rs d)
        go rs None = nothing-told
        go rs (Some d) = all-tell (λ (r : ServerNo). auto r d) d rs (every (λ (r : ServerNo). auto r d) d (λ r. auto-leads r d) rs)
    by gtid_kind.EnableGtid i = go (source_of b i)
      where
        go : (x : Option ServerNo) → IsTold (gtid_plans.enabled i x)
        go None = nothing-told
        go (Some x) = told-server (again_auto i x) i refl
    by gtid_kind.DisableGtid i = go (source_of b i)
      where
        go : (x : Option ServerNo) → IsTold (gtid_plans.disabled i x)
        go None = nothing-told
        go (Some x) = told-server (again i x) i refl

pub matches-tell : (b : BookState) (every' : ℕ) (kind : Option MatchCommand) (c : Command) → IsTold (about_kind [] (match_plans.ops_of b every') kind c)
matches-tell b every' kind c = about-tells (match_plans.ops_of b every') kind c (λ k i. by k i)
  where
    one : (i : ServerNo) (d : Option ServerNo) → IsTold (match_plans.moved i every' d)
    one i None = nothing-told
    one i (Some d) = part-told i d (matching_plan i d every') (matching-leads i d every')

    by : (k : MatchCommand) (i : ServerNo) → IsTold (match_plans.ops_of b every' k i c.d)
    by match_kind.Match i = one i c.d
    by match_kind.MatchUp i = one i (source_above b i)
    by match_kind.MatchReplicas i = go (replicas_but b i c.d) c.d
      where
        go : (rs : List ServerNo) (d : Option ServerNo) → IsTold (match_plans.replicas_moved rs every' d)
        go rs None = nothing-told
        go rs (Some d) = all-tell (λ (r : ServerNo). matching_plan r d every') d rs (every (λ (r : ServerNo). matching_plan r d every') d (λ r. matching-leads r d every') rs)
    by match_kind.RegroupReplicas i = nothing-told

-- a server that climbs leaves others where they are, and comes below the last one
module _ (n : ServerNo) where
  climbs-leads : (x : ServerNo) (xs : List ServerNo) (to : ServerNo) → All (λ y. y.0 ≡ n.0 → ⊥) (x ∷ xs) → Part n to (path_plans.climbed n (x ∷ xs) to)
  climbs-leads x [] to all = up-leads n x to (λ same. All-head (λ (y : ServerNo). y.0 ≡ n.0 → ⊥) x [] all (sym same))
  climbs-leads x (y ∷ ys) to all =
      then-leads n y to (up n x y) (path_plans.climbed n (y ∷ ys) to)
      (up-leads n x y (λ same. All-head (λ (z : ServerNo). z.0 ≡ n.0 → ⊥) x (y ∷ ys) all (sym same)))
      (climbs-leads y ys to (All-tail (λ (z : ServerNo). z.0 ≡ n.0 → ⊥) x (y ∷ ys) all))

  arrives : (d : ServerNo) (xs : List ServerNo) (o : Option ServerNo) → All (λ y. y.0 ≡ n.0 → ⊥) xs → Part n d (path_plans.arrived n d xs o)
  arrives d [] None all = again-leads n d
  arrives d (x ∷ xs) None all = climbs-leads x xs d all
  arrives d [] (Some s) all = under-leads n d s
  arrives d (x ∷ xs) (Some s) all = then-leads n s d (path_plans.climbed n (x ∷ xs) s) (under n d s) (climbs-leads x xs s all) (under-leads n d s)

-- by GTIDs a server needs no path
pub moves-tell : (movers : List ServerNo) (d : ServerNo) → IsTold (finished (autos movers d) (following movers d))
moves-tell movers d = all-tell (λ (r : ServerNo). auto r d) d movers (every (λ (r : ServerNo). auto r d) d (λ r. auto-leads r d) movers)

pub relocates-tell : (gtid : Bool) (b : BookState) (movers : List ServerNo) (d : ServerNo) → All (HasPath b d) movers → IsTold (path_plans.relocated gtid b movers (Some d))
relocates-tell true b movers d all = moves-tell movers d
relocates-tell false b movers d all =
    all-tell (λ (n : ServerNo). path_plans.travelled n d (path_of b n d)) d movers
    (All-weaker (HasPath b d) (λ (n : ServerNo). Part n d (path_plans.travelled n d (path_of b n d))) (λ n h. travels n h) movers all)
  where
    travels : (n : ServerNo) → HasPath b d n → Part n d (path_plans.travelled n d (path_of b n d))
    travels n h = subst (λ (p : Option Path). Part n d (path_plans.travelled n d p)) (sym h.is) (arrives n d h.passed h.under h.apart)

pub plans-lead-as-told : PlansLeadAsTold
plans-lead-as-told = record {
  coords = λ w b c loose. leads-so (coords_plans.plan_of w b c) (coords-tell b w (coords_command c.name) c (inl loose));
  gtids = λ b c. leads-so (gtid_plans.plan_of b c) (gtids-tell b (gtid_command c.name) c);
  matches = λ b every' c. leads-so (match_plans.plan_of b every' c) (matches-tell b every' (pseudo_command c.name) c);
  relocates = λ gtid b movers d all. leads-so (path_plans.relocated gtid b movers (Some d)) (relocates-tell gtid b movers d all);
}
