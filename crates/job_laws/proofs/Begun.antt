-- Jobs that begin, take their turns and end.
use Rattle.job_laws.proofs.Prelude.{All, All-cons, All-filter, All-nil, All-push, All-replicate, All-weaker, AllBridged, AllMeet, AreLeased}
use Rattle.job_laws.proofs.Prelude.{ArePlaced, Begins, Flight, HasLeases, Held, HeldJob, IsBridged, IsLeased, IsPlaced, IsQuiet, IsShown}
use Rattle.job_laws.proofs.Prelude.{IsShownBridged, Job, KeepsHeld, KeepsLeases, KeepsSound, Leases, MayChange, Meets, Moment, Observation, Op}
use Rattle.job_laws.proofs.Prelude.{Placed, Placed-run, Safe, Safe-run, ServerNo, Shows, Shows-run, Sound, Spans, StandsIn, Turned, World, after_turn}
use Rattle.job_laws.proofs.Prelude.{and_parts, are_held, are_listed, are_matched, begun, change_of, deed_of, eq-eqb, eqb-true, false≢true}
use Rattle.job_laws.proofs.Prelude.{filter_passes, footing, is_going, is_in, is_of, job_at, job_turned, leased_to, list_any, matched_in, no_leases}
use Rattle.job_laws.proofs.Prelude.{not-true, opened_flight, position_of, replaced, run, same_Some, seen_of, server_at, turned, without_job}
use Rattle.job_laws.proofs.Prelude.{without_leases}
use Rattle.std.proofs.Common.{◌≡◌, ℕ, Bool, true, false, cond, not, List, [], ◌∷◌, ◌++◌, refl, sym, ◌∙◌, ap, subst, Option, Some, None, IfSome, ◌==◌}
use Rattle.job_laws.proofs.Lists.{All-find, All-replaced, found-replaced, found-without}
use Rattle.job_laws.proofs.Passing.{rings-run, rings-stand, slots-run, slots-bridged, jobs-run, jobs-bridged, jobs-meet, observed-shown, observed-bridged}
use Rattle.job_laws.proofs.Showing.{Bridged-run}
use Rattle.job_laws.proofs.Observing.{turn-observes}
use Rattle.job_laws.proofs.Turns.{turn-kept, turn-sound}
use Rattle.job_laws.proofs.Leased.{turn-leased}
use Rattle.job_laws.proofs.Others.{unleased-run}

All-and : {X : Type 0} (P Q : X → Type 0) (xs : List X) → All P xs → All Q xs → All (λ x. P x × Q x) xs
All-and P Q xs p q = λ k d lt. (p k d lt, q k d lt)

if-weaker : {X : Type 0} (P Q : X → Type 0) (o : Option X) → ((x : X) → P x → Q x) → IfSome o P → IfSome o Q
if-weaker P Q None f h = h
if-weaker P Q (Some x) f h = f x h

-- leases that are kept keep what a job has
leases-weaker : (L M : Leases) (j : Job) → ((n : ℕ) → IsLeased L j.id n → IsLeased M j.id n) → HasLeases L j → HasLeases M j
leases-weaker L M j f has = record {
  ops =
      All-weaker (MayChange L j.id) (MayChange M j.id)
      (λ op h. if-weaker (λ (n : ServerNo). IsLeased L j.id n.0) (λ (n : ServerNo). IsLeased M j.id n.0) (change_of (deed_of op)) (λ n h. f n.0 h) h) j.ops has.ops;
  hands = All-weaker (λ n. IsLeased L j.id n.0) (λ n. IsLeased M j.id n.0) (λ n h. f n.0 h) j.hands has.hands;
}

-- ---- a job that ends frees its leases and no others

pub freed-others : (L : Leases) (id k n : ℕ) → (k == id) ≡ false → L n ≡ Some k → without_leases L id n ≡ Some k
freed-others L id k n apart h = ap (λ o. cond (is_of o id) None o) h ∙ ap (λ b. cond b None (Some k)) apart

freed-back : (L : Leases) (id k n : ℕ) → without_leases L id n ≡ Some k → (L n ≡ Some k) × (k ≡ id → ⊥)
freed-back L id k n h = go (L n) refl h
  where
    go : (o : Option ℕ) → L n ≡ o → cond (is_of o id) None o ≡ Some k → (L n ≡ Some k) × (k ≡ id → ⊥)
    go None e h = cc
    go (Some m) e h = at (m == id) refl h
      where
        at : (b : Bool) → (m == id) ≡ b → cond b None (Some m) ≡ Some k → (L n ≡ Some k) × (k ≡ id → ⊥)
        at true f h = cc
        at false f h =
            let same : m ≡ k = same_Some m k h in
            (e ∙ h, λ is. false≢true (sym f ∙ eq-eqb m id (same ∙ is)))

leased-without : (L : Leases) (jobs : List Job) (id : ℕ) → AreLeased L jobs → AreLeased (without_leases L id) (without_job jobs id)
leased-without L jobs id are = record {
  each =
      All-weaker (λ k. HasLeases L k × (not (k.id == id) ≡ true)) (HasLeases (without_leases L id))
      (λ k h. leases-weaker L (without_leases L id) k (λ n is. freed-others L id k.id n (not-true (k.id == id) h.1) is) h.0)
      (without_job jobs id)
      (All-and (HasLeases L) (λ k. not (k.id == id) ≡ true) (without_job jobs id)
      (All-filter (λ k. not (k.id == id)) (HasLeases L) jobs are.each)
      (filter_passes (λ k. not (k.id == id)) jobs));
  named = λ n k h.
      let back = freed-back L id k n h in
      let found = are.named n k back.0 in
      (found.0, found-without jobs id k found.0 back.1 found.1);
}

-- ---- a job that goes on takes its place

found-id : (jobs : List Job) (id : ℕ) (j : Job) → job_at jobs id ≡ Some j → j.id ≡ id
found-id [] id j h = cc
found-id (x ∷ xs) id j h = go (x.id == id) refl h (found-id xs id j)
  where
    go : (b : Bool) → (x.id == id) ≡ b → cond b (Some x) (job_at xs id) ≡ Some j → (job_at xs id ≡ Some j → j.id ≡ id) → j.id ≡ id
    go true e h rest = sym (ap (λ (y : Job). y.id) (same_Some x j h)) ∙ eqb-true x.id id e
    go false e h rest = rest h

leased-replaced : (L : Leases) (jobs : List Job) (id : ℕ) (t : Turned) → KeepsLeases L id t → AreLeased L jobs → AreLeased L (replaced jobs id t.job)
leased-replaced L jobs id t keeps are = record {
  each =
      All-replaced (HasLeases L) jobs id t.job
      (record {
        ops = subst (λ (i : ℕ). All (MayChange L i) t.job.ops) (sym keeps.id) keeps.ops;
        hands = subst (λ (i : ℕ). All (λ n. IsLeased L i n.0) t.job.hands) (sym keeps.id) keeps.hands;
      })
      are.each;
  named = λ n k h. let found = are.named n k h in found-replaced jobs id t.job keeps.id k found.0 found.1;
}

-- ---- a turn of a job

module _ (f : Flight) (id : ℕ) (t : Turned) (held : Held f) (keeps : KeepsHeld f.world t) (leases : KeepsLeases f.leases id t) where
  pub held-after : Held (after_turn f id t)
  held-after = go (is_going t.step)
    where
      later : All (HeldJob (run f.world t.exchanges)) f.jobs
      later = jobs-run f.world t.exchanges held.placed keeps.allowed f.jobs held.jobs

      go : (b : Bool) → Held (record f { world = run f.world t.exchanges; jobs = cond b (replaced f.jobs id t.job) (without_job f.jobs id); leases = cond b f.leases (without_leases f.leases id) })
      go true = record {
        placed = Placed-run f.world t.exchanges held.placed keeps.allowed;
        rings = rings-run f.world t.exchanges held.placed keeps.allowed f.rings held.rings;
        slots = slots-run f.world t.exchanges held.placed keeps.allowed f.slots held.slots;
        jobs = All-replaced (HeldJob (run f.world t.exchanges)) f.jobs id t.job keeps.held later;
        leased = leased-replaced f.leases f.jobs id t leases held.leased;
      }
      go false = record {
        placed = Placed-run f.world t.exchanges held.placed keeps.allowed;
        rings = rings-run f.world t.exchanges held.placed keeps.allowed f.rings held.rings;
        slots = slots-run f.world t.exchanges held.placed keeps.allowed f.slots held.slots;
        jobs = All-filter (λ k. not (k.id == id)) (HeldJob (run f.world t.exchanges)) f.jobs later;
        leased = leased-without f.leases f.jobs id held.leased;
      }

  pub sound-after : Sound f → KeepsSound f.world t → IsQuiet (run f.world t.exchanges) → Sound (after_turn f id t)
  sound-after sound also quiet = go (is_going t.step)
    where
      later : All (λ j. AllBridged (run f.world t.exchanges) j.seen) f.jobs
      later = jobs-bridged f.world t.exchanges held.placed keeps.allowed f.jobs sound.jobs

      meeting : All (λ j. AllMeet (run f.world t.exchanges) j.matches) f.jobs
      meeting = jobs-meet f.world t.exchanges held.placed keeps.allowed f.jobs sound.met

      go : (b : Bool) → Sound (record f { world = run f.world t.exchanges; jobs = cond b (replaced f.jobs id t.job) (without_job f.jobs id); leases = cond b f.leases (without_leases f.leases id) })
      go true = record {
        safe = Safe-run f.world t.exchanges sound.safe keeps.allowed also.joins quiet;
        rings = rings-stand f.world t.exchanges held.placed keeps.allowed f.rings sound.rings;
        slots = slots-bridged f.world t.exchanges held.placed keeps.allowed f.slots sound.slots;
        jobs = All-replaced (λ j. AllBridged (run f.world t.exchanges) j.seen) f.jobs id t.job also.bridged later;
        met = All-replaced (λ j. AllMeet (run f.world t.exchanges) j.matches) f.jobs id t.job also.met meeting;
      }
      go false = record {
        safe = Safe-run f.world t.exchanges sound.safe keeps.allowed also.joins quiet;
        rings = rings-stand f.world t.exchanges held.placed keeps.allowed f.rings sound.rings;
        slots = slots-bridged f.world t.exchanges held.placed keeps.allowed f.slots sound.slots;
        jobs = All-filter (λ k. not (k.id == id)) (λ j. AllBridged (run f.world t.exchanges) j.seen) f.jobs later;
        met = All-filter (λ k. not (k.id == id)) (λ j. AllMeet (run f.world t.exchanges) j.matches) f.jobs meeting;
      }

-- a job has what leases it needs, under its number
leases-of : (f : Flight) (read : ℕ) (now : Moment) (id : ℕ) (j : Job) → Held f → job_at f.jobs id ≡ Some j → KeepsLeases f.leases id (turned f.world read now j)
leases-of f read now id j held at =
    subst (λ (i : ℕ). KeepsLeases f.leases i (turned f.world read now j)) (found-id f.jobs id j at)
    (turn-leased f.leases f.world read now j (All-find (HasLeases f.leases) (λ k. k.id == id) f.jobs j held.leased.each at))

pub held-of : (f : Flight) (id : ℕ) (j : Job) → Held f → job_at f.jobs id ≡ Some j → HeldJob f.world j
held-of f id j held at = All-find (HeldJob f.world) (λ k. k.id == id) f.jobs j held.jobs at

pub Held-turned : (f : Flight) (read : ℕ) (now : Moment) (id : ℕ) → Held f → Held (job_turned f read now id (job_at f.jobs id))
Held-turned f read now id held = go (job_at f.jobs id) refl
  where
    go : (o : Option Job) → job_at f.jobs id ≡ o → Held (job_turned f read now id o)
    go None at = held
    go (Some j) at = held-after f id (turned f.world read now j) held (turn-kept f.world read now j held.placed (held-of f id j held at)) (leases-of f read now id j held at)

pub Sound-turned : (f : Flight) (read : ℕ) (now : Moment) (id : ℕ) → Held f → Sound f → IsQuiet (job_turned f read now id (job_at f.jobs id)).world
    → Sound (job_turned f read now id (job_at f.jobs id))
Sound-turned f read now id held sound = go (job_at f.jobs id) refl
  where
    go : (o : Option Job) → job_at f.jobs id ≡ o → IsQuiet (job_turned f read now id o).world → Sound (job_turned f read now id o)
    go None at quiet = sound
    go (Some j) at quiet =
        let mine = held-of f id j held at in
        sound-after f id (turned f.world read now j) held (turn-kept f.world read now j held.placed mine) (leases-of f read now id j held at) sound
        (turn-sound f.world read now j sound.safe held.placed mine (All-find (λ k. AllBridged f.world k.seen) (λ k. k.id == id) f.jobs j sound.jobs at)
        (All-find (λ k. AllMeet f.world k.matches) (λ k. k.id == id) f.jobs j sound.met at)) quiet

-- ---- a job that begins

found-append : (jobs ys : List Job) (n : ℕ) (k : Job) → job_at jobs n ≡ Some k → job_at (jobs ++ ys) n ≡ Some k
found-append [] ys n k h = cc
found-append (x ∷ xs) ys n k h = go (x.id == n) h (found-append xs ys n k)
  where
    go : (b : Bool) → cond b (Some x) (job_at xs n) ≡ Some k → (job_at xs n ≡ Some k → job_at (xs ++ ys) n ≡ Some k) → cond b (Some x) (job_at (xs ++ ys) n) ≡ Some k
    go true h rest = h
    go false h rest = rest h

found-last : (jobs : List Job) (j : Job) → (k : Job) × (job_at (jobs ++ j ∷ []) j.id ≡ Some k)
found-last [] j = (j, ap (λ b. cond b (Some j) None) (eq-eqb j.id j.id refl))
found-last (x ∷ xs) j = go (x.id == j.id) (found-last xs j)
  where
    go : (b : Bool) → (k : Job) × (job_at (xs ++ j ∷ []) j.id ≡ Some k) → (k : Job) × (cond b (Some x) (job_at (xs ++ j ∷ []) j.id) ≡ Some k)
    go true rest = (x, refl)
    go false rest = rest

listed-op : (L : Leases) (id : ℕ) (list : List ServerNo) → ((n : ServerNo) → list_any (λ (k : ServerNo). k.0 == n.0) list ≡ true → IsLeased L id n.0) → (o : Option ServerNo) → is_in list o ≡ true → IfSome o (λ n. IsLeased L id n.0)
listed-op L id list f None h = tt
listed-op L id list f (Some n) h = f n h

listed-ops : (L : Leases) (id : ℕ) (list : List ServerNo) → ((n : ServerNo) → list_any (λ (k : ServerNo). k.0 == n.0) list ≡ true → IsLeased L id n.0) → (ops : List Op) → are_listed list ops ≡ true → All (MayChange L id) ops
listed-ops L id list f [] h = All-nil (MayChange L id)
listed-ops L id list f (op ∷ ops) h =
    let parts = and_parts (is_in list (change_of (deed_of op))) (are_listed list ops) h in
    All-cons (MayChange L id) op ops (listed-op L id list f (change_of (deed_of op)) parts.0) (listed-ops L id list f ops parts.1)

module _ (f : Flight) (list : List ServerNo) (j : Job) (b : Begins f.world f.jobs f.leases list j) where
  taken : Leases
  taken = leased_to f.leases list j.id

  pub kept-leases : (k n : ℕ) → IsLeased f.leases k n → IsLeased (leased_to f.leases list j.id) k n
  kept-leases k n h = go (list_any (λ (m : ServerNo). m.0 == n) list) refl
    where
      go : (c : Bool) → list_any (λ (m : ServerNo). m.0 == n) list ≡ c → cond c (Some j.id) (f.leases n) ≡ Some k
      go true e = let none : None ≡ Some k = sym (b.free n e) ∙ h in cc
      go false e = h

  new-lease : (n : ServerNo) → list_any (λ (k : ServerNo). k.0 == n.0) list ≡ true → IsLeased (leased_to f.leases list j.id) j.id n.0
  new-lease n h = ap (λ c. cond c (Some j.id) (f.leases n.0)) h

  begun-leased : AreLeased f.leases f.jobs → AreLeased (leased_to f.leases list j.id) (f.jobs ++ j ∷ [])
  begun-leased are = record {
    each =
        All-push (HasLeases (leased_to f.leases list j.id)) f.jobs j
        (All-weaker (HasLeases f.leases) (HasLeases (leased_to f.leases list j.id)) (λ k h. leases-weaker f.leases (leased_to f.leases list j.id) k (kept-leases k.id) h) f.jobs are.each)
        (record {
          ops = listed-ops (leased_to f.leases list j.id) j.id list new-lease j.ops b.listed;
          hands = subst (λ (hs : List ServerNo). All (λ n. IsLeased (leased_to f.leases list j.id) j.id n.0) hs) (sym b.hands) (All-nil (λ n. IsLeased (leased_to f.leases list j.id) j.id n.0));
        });
    named = λ n k h. go n k (list_any (λ (m : ServerNo). m.0 == n) list) h;
  }
    where
      go : (n k : ℕ) (c : Bool) → cond c (Some j.id) (f.leases n) ≡ Some k → (m : Job) × (job_at (f.jobs ++ j ∷ []) k ≡ Some m)
      go n k true h = subst (λ (i : ℕ). (m : Job) × (job_at (f.jobs ++ j ∷ []) i ≡ Some m)) (same_Some j.id k h) (found-last f.jobs j)
      go n k false h = let found = are.named n k h in (found.0, found-append f.jobs (j ∷ []) k found.0 found.1)

  begun-held : HeldJob f.world j
  begun-held = record {
    left = ap (λ xs. are_held (footing f.world xs) j.ops) b.seen ∙ b.left;
    shown = λ n s h. let none : None ≡ Some s = sym (ap (λ xs. seen_of xs n) b.seen) ∙ h in cc;
    matched = ap (λ xs. are_matched (matched_in xs) j.ops) b.found ∙ b.matched;
    ends = subst (ArePlaced f.world) (sym b.found) (All-nil (IsPlaced f.world));
  }

pub Held-begun : (f : Flight) (list : List ServerNo) (j : Job) → Begins f.world f.jobs f.leases list j → Held f → Held (begun f list j)
Held-begun f list j b held = record {
  placed = held.placed;
  rings = held.rings;
  slots = held.slots;
  jobs = All-push (HeldJob f.world) f.jobs j held.jobs (begun-held f list j b);
  leased = begun-leased f list j b held.leased;
}

pub Sound-begun : (f : Flight) (list : List ServerNo) (j : Job) → Begins f.world f.jobs f.leases list j → Sound f → Sound (begun f list j)
Sound-begun f list j b sound = record {
  safe = sound.safe;
  rings = sound.rings;
  slots = sound.slots;
  jobs = All-push (λ k. AllBridged f.world k.seen) f.jobs j sound.jobs (λ n s h. let none : None ≡ Some s = sym (ap (λ xs. seen_of xs n) b.seen) ∙ h in cc);
  met = All-push (λ k. AllMeet f.world k.matches) f.jobs j sound.met (subst (AllMeet f.world) (sym b.found) (All-nil (Meets f.world)));
}

-- ---- a job's turn and the servers that it hasn't

pub others-left : (f : Flight) (read : ℕ) (now : Moment) (id m : ℕ) → Held f → (IsLeased f.leases id m → ⊥) → server_at (job_turned f read now id (job_at f.jobs id)).world m ≡ server_at f.world m
others-left f read now id m held apart = go (job_at f.jobs id) refl
  where
    go : (o : Option Job) → job_at f.jobs id ≡ o → server_at (job_turned f read now id o).world m ≡ server_at f.world m
    go None at = refl
    go (Some j) at = unleased-run f.leases id f.world (turned f.world read now j).exchanges m (leases-of f read now id j held at).exchanges apart

-- ---- what a job's turn observed is in the statuses of the world after it

pub turn-shown : (w : World) (read : ℕ) (now : Moment) (j : Job) (o : Observation) → Placed w → HeldJob w j → (turned w read now j).observation ≡ Some o → IsShown (run w (turned w read now j).exchanges) o
turn-shown w read now j o placed held h s is =
    let n = turn-observes w read now j o h in
    let shown : Shows w o.no.0 s = subst (λ (x : Observation). IsShown w x) (sym n.1) (observed-shown w read now n.0 placed) s is in
    Shows-run w (turned w read now j).exchanges o.no.0 s placed (turn-kept w read now j placed held).allowed shown

pub turn-bridged : (w : World) (read : ℕ) (now : Moment) (j : Job) (o : Observation) → Safe w → Placed w → HeldJob w j → (turned w read now j).observation ≡ Some o
    → IsShownBridged (run w (turned w read now j).exchanges) o
turn-bridged w read now j o safe placed held h s is =
    let n = turn-observes w read now j o h in
    let bridged : IsBridged w o.no.0 (position_of s) = subst (λ (x : Observation). IsShownBridged w x) (sym n.1) (observed-bridged w read now n.0 safe) s is in
    Bridged-run w (turned w read now j).exchanges o.no.0 (position_of s) placed (turn-kept w read now j placed held).allowed bridged

-- ---- the start of a run

pub Held-opened : (w : World) (rings slots : ℕ) → Placed w → Held (opened_flight w rings slots)
Held-opened w rings slots placed = record {
  placed = placed;
  rings = All-replicate (All (Spans w)) rings [] (All-nil (Spans w));
  slots = All-replicate (λ slot. IfSome slot (IsShown w)) slots None tt;
  jobs = All-nil (HeldJob w);
  leased = record { each = All-nil (HasLeases no_leases); named = λ n id h. cc };
}

pub Sound-opened : (w : World) (rings slots : ℕ) → Safe w → Sound (opened_flight w rings slots)
Sound-opened w rings slots safe = record {
  safe = safe;
  rings = All-replicate (All (StandsIn w)) rings [] (All-nil (StandsIn w));
  slots = All-replicate (λ slot. IfSome slot (IsShownBridged w)) slots None tt;
  jobs = All-nil (λ j. AllBridged w j.seen);
  met = All-nil (λ j. AllMeet w j.matches);
}
