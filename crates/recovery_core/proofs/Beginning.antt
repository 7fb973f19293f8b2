-- What isn't refused can begin.
use Rattle.std.proofs.Common.{◌≡◌, ℕ, ◌+◌, ◌<◌, ◌≤◌, ◌∙◌, ◌&&◌, ◌||◌, Bool, true, false, cond, not, List, [], ◌∷◌, length, map, refl, sym, ap, subst, zero-add, Option, Some, None, Ok, arith, ◌==◌, IfSome, filter, slice_index_or}
use Rattle.recovery_core.proofs.Prelude.{Attached, Attempt, AuditState, Begins, BookState, CanBegin, Code, Detached, HostPort, IsBook, IsListed}
use Rattle.recovery_core.proofs.Prelude.{IsListOf, IsOrder-by_name, NotReplica, Refusal, ServerNo, SourceState, UnknownInstance, Without, World}
use Rattle.recovery_core.proofs.Prelude.{attached_in, attached_of, begun-of, busy, by_name, case_of, code_at, eq-eqb, eqb-true, false≢true}
use Rattle.recovery_core.proofs.Prelude.{first_about, first_busy, first_of, first_refusal, followers_of, free-list, get_or-range_with_len, held_back}
use Rattle.recovery_core.proofs.Prelude.{instance_at, is_attached_to, is_given, is_instance, is_replica_of, length-by_name, length-range_with_len}
use Rattle.recovery_core.proofs.Prelude.{list_any, list_any-IsPermutation, list_any_at, longest_block, neither, no_master, no_replica, only_if}
use Rattle.recovery_core.proofs.Prelude.{purpose_by, range_with_len, recovery_begins, recovery_list, recovery_purpose, recovery_refusal, recovery_try}
use Rattle.recovery_core.proofs.Prelude.{refusal_by, replicas-within, replicas_of, row, seen_source, source-within, source_of, takeover_begins}
use Rattle.recovery_core.proofs.Prelude.{takeover_refusal, takeover_try, unless_refused}
use Rattle.recovery_core.proofs.Prelude.Leases.{busy_by}
use Rattle.recovery_core.proofs.Prelude.fault
use Rattle.recovery_core.proofs.Prelude.means
use Rattle.recovery_core.proofs.Prelude.purpose
use Rattle.recovery_core.proofs.Trying.{list-within, recovery-may, takeover-may}

-- ---- what isn't refused

pub unrefused : (o : Option Refusal) (y x : Begins) → unless_refused o y ≡ Ok x → (o ≡ None) × (y ≡ x)
unrefused None y x h = (refl, cc)
unrefused (Some r) y x h = cc

-- ---- leases

-- nobody has a lease of a server of a list of which none is busy
free-of : (leases : List (Option ℕ)) (list : List ServerNo) → first_busy leases list ≡ None → (n : ℕ) → IsListed list n → slice_index_or leases n None ≡ None
free-of leases [] h n is = absurd (false≢true is)
free-of leases (k ∷ ks) h n is = go (slice_index_or leases k.0 None) refl (k.0 == n) refl is (free-of leases ks)
  where
    go : (o : Option ℕ) → slice_index_or leases k.0 None ≡ o → (c : Bool) → (k.0 == n) ≡ c → (c || list_any (λ (m : ServerNo). m.0 == n) ks) ≡ true
        → (first_busy leases ks ≡ None → (m : ℕ) → IsListed ks m → slice_index_or leases m None ≡ None) → slice_index_or leases n None ≡ None
    go (Some job) e c f any rest = absurd (never (sym (ap (λ x. busy_by k x (first_busy leases ks)) e) ∙ h))
      where
        never : Some (fault.Busy k job) ≡ None → ⊥
        never g = cc
    go None e true f any rest = ap (λ m. slice_index_or leases m None) (sym (eqb-true k.0 n f)) ∙ e
    go None e false f any rest = rest (sym (ap (λ x. busy_by k x (first_busy leases ks)) e) ∙ h) n any

pub recovery-idle : (w : World) (b : BookState) (audit : AuditState) (a : Attempt) (f : ServerNo) → recovery_refusal w b audit a f ≡ None → first_busy b.leases (recovery_list b f) ≡ None
recovery-idle w b audit a f h = go (code_at b f) h
  where
    go : (o : Option Code) → refusal_by w b audit a f o ≡ None → first_busy b.leases (recovery_list b f) ≡ None
    go None g = cc
    go (Some code) g = free-list b (recovery_list b f) (neither (first_about (busy b) (recovery_list b f)) None (neither _ _ g).0).0

pub takeover-idle : (w : World) (b : BookState) (audit : AuditState) (a : Attempt) (i d : ServerNo) → takeover_refusal w b audit a i d ≡ None → first_busy b.leases (recovery_list b i) ≡ None
takeover-idle w b audit a i d h = free-list b (recovery_list b i) (neither _ _ (neither _ _ (neither _ _ (neither _ _ h).1).0).1).0

-- ---- the servers of the list

-- the failed server is of it
head-listed : (f : ServerNo) (rest : List ServerNo) → IsListed (f ∷ rest) f.0
head-listed f rest = ap (λ c. c || list_any (λ (k : ServerNo). k.0 == f.0) rest) (eq-eqb f.0 f.0 refl)

any-map : {X Y : Type 0} (p : Y → Bool) (f : X → Y) (xs : List X) → list_any p (map f xs) ≡ list_any (λ x. p (f x)) xs
any-map p f [] = refl
any-map p f (x ∷ xs) = ap (λ c. p (f x) || c) (any-map p f xs)

in-order : (names : List HostPort) (d : ServerNo) → d.0 < length names → IsListed (by_name names) d.0
in-order names d within =
    let order = by_name names in
    let short : d.0 < length order = omega (arith, within, length-by_name names) in
    sym (any-map (λ n. n == d.0) (λ (k : ServerNo). k.0) order)
    ∙ sym (list_any-IsPermutation (λ n. n == d.0) (range_with_len 0 (length order)) (map (λ (k : ServerNo). k.0) order) (IsOrder-by_name names))
    ∙ list_any_at (λ n. n == d.0) (range_with_len 0 (length order)) d.0 0 (omega (arith, short, length-range_with_len 0 (length order)))
    (ap (λ n. n == d.0) (get_or-range_with_len 0 (length order) d.0 0 short ∙ zero-add d.0) ∙ eq-eqb d.0 d.0 refl)

kept : (p : ServerNo → Bool) (d : ServerNo) (xs : List ServerNo) → p d ≡ true → IsListed xs d.0 → IsListed (filter p xs) d.0
kept p d [] passes h = h
kept p d (x ∷ xs) passes h = go (p x) refl (x.0 == d.0) refl h (kept p d xs passes)
  where
    same : x.0 ≡ d.0 → x ≡ d
    same e = λ j. record { 0 = e j }

    go : (b : Bool) → p x ≡ b → (c : Bool) → (x.0 == d.0) ≡ c → (c || list_any (λ (k : ServerNo). k.0 == d.0) xs) ≡ true
        → (IsListed xs d.0 → IsListed (filter p xs) d.0) → IsListed (cond b (x ∷ filter p xs) (filter p xs)) d.0
    go true e true f any rest = ap (λ c. c || list_any (λ (k : ServerNo). k.0 == d.0) (filter p xs)) f
    go true e false f any rest = ap (λ c. c || list_any (λ (k : ServerNo). k.0 == d.0) (filter p xs)) f ∙ rest any
    go false e true f any rest = absurd (false≢true (sym e ∙ ap p (same (eqb-true x.0 d.0 f)) ∙ passes))
    go false e false f any rest = rest any

tail-listed : (f : ServerNo) (rest : List ServerNo) (n : ℕ) → IsListed rest n → IsListed (f ∷ rest) n
tail-listed f rest n h = go (f.0 == n)
  where
    go : (c : Bool) → (c || list_any (λ (k : ServerNo). k.0 == n) rest) ≡ true
    go true = refl
    go false = h

pub attached-replica : (i : ServerNo) (s : SourceState) → is_given i (attached_in s) ≡ is_attached_to i s
attached-replica i Without = refl
attached-replica i (Attached m) = refl
attached-replica i (Detached m) = refl

pub passed : (b : Bool) (r : Refusal) → only_if (not b) r ≡ None → b ≡ true
passed true r h = refl
passed false r h = cc

designated-listed : (b : BookState) (i d : ServerNo) → d.0 < length b.names → no_replica b i d ≡ None → IsListed (recovery_list b i) d.0
designated-listed b i d within h =
    tail-listed i (replicas_of b i) d.0
    (kept (is_replica_of b i) d (by_name b.names)
    (sym (attached-replica i (seen_source (instance_at b d))) ∙ passed (is_given i (attached_of b d)) NotReplica h)
    (in-order b.names d within))

last-of-five : (x1 x2 x3 x4 x5 : Option Refusal) → first_of (x1 ∷ x2 ∷ x3 ∷ x4 ∷ x5 ∷ []) ≡ None → x5 ≡ None
last-of-five None None None None None h = refl
last-of-five _ _ _ _ _ h = cc

attached-then : (w : World) (b : BookState) (audit : AuditState) (a : Attempt) (i d : ServerNo) → takeover_refusal w b audit a i d ≡ None → no_replica b i d ≡ None
attached-then w b audit a i d h =
    last-of-five (only_if (not (is_instance b i && is_instance b d)) UnknownInstance) (first_refusal w b (case_of b i d) row) (held_back b audit a i) (no_master b i)
    (no_replica b i d) h

source-listed : (P Q : ℕ → Type 0) (f : ServerNo) (o : Option ServerNo) → IfSome o (λ n. Q n.0) → IsListOf P Q (purpose_by o) f
source-listed P Q f None h = tt
source-listed P Q f (Some s) h = h

-- ---- what can begin

module _ (w : World) (b : BookState) (audit : AuditState) (a : Attempt) (wait last : ℕ) (is : IsBook b) (short : a.block ≤ longest_block) where
  abbrev IsThere : ℕ → Type 0
  IsThere n = n < length b.names

  abbrev Can : Begins → Type 0
  Can x = CanBegin (length b.names) b.leases audit last x

  recovery-can : (f : ServerNo) → f.0 < length b.names → recovery_refusal w b audit a f ≡ None → Can (recovery_begins b audit a.now a.block wait (last + 1) f)
  recovery-can f within free = record {
    within = list-within b f within;
    free = free-of b.leases (recovery_list b f) (recovery-idle w b audit a f free);
    idle = recovery-idle w b audit a f free;
    list = refl;
    listed = source-listed (IsListed (recovery_list b f)) IsThere f (source_of b f) (source-within b f is within);
    fresh = refl;
    named = begun-of IsThere IsThere (recovery_purpose b f) means.Bridges (last + 1) wait f (replicas_of b f) (replicas_of b f) (replicas-within b f) within
        (source-listed IsThere IsThere f (source_of b f) (source-within b f is within));
    number = refl;
    may = record { answered = recovery-may b audit a f w free; short = short };
    failed = refl;
    ended = refl;
    outcome = refl;
  }

  takeover-can : (i d : ServerNo) → i.0 < length b.names → d.0 < length b.names → takeover_refusal w b audit a i d ≡ None
      → Can (takeover_begins b audit a.now a.block wait (last + 1) i d)
  takeover-can i d within there free = record {
    within = list-within b i within;
    free = free-of b.leases (recovery_list b i) (takeover-idle w b audit a i d free);
    idle = takeover-idle w b audit a i d free;
    list = refl;
    listed = (head-listed i (replicas_of b i), designated-listed b i d there (attached-then w b audit a i d free));
    fresh = refl;
    named = begun-of IsThere IsThere (purpose.Takeover d) means.Bridges (last + 1) wait i (replicas_of b i) (followers_of b i d) (replicas-within b i) within (within, there);
    number = refl;
    may = record { answered = takeover-may b audit a i w d free; short = short };
    failed = refl;
    ended = refl;
    outcome = refl;
  }

  pub recovery-begins : (f : ServerNo) (x : Begins) → f.0 < length b.names → recovery_try w b audit a wait (last + 1) f ≡ Ok x → Can x
  recovery-begins f x within h =
      let parts = unrefused (recovery_refusal w b audit a f) (recovery_begins b audit a.now a.block wait (last + 1) f) x h in
      subst Can parts.1 (recovery-can f within parts.0)

  pub takeover-begins : (i d : ServerNo) (x : Begins) → i.0 < length b.names → d.0 < length b.names → takeover_try w b audit a wait (last + 1) i d ≡ Ok x → Can x
  takeover-begins i d x within there h =
      let parts = unrefused (takeover_refusal w b audit a i d) (takeover_begins b audit a.now a.block wait (last + 1) i d) x h in
      subst Can parts.1 (takeover-can i d within there parts.0)

module _ (w : World) (b : BookState) (audit : AuditState) (a : Attempt) (wait job : ℕ) where
  pub recovery-moment : (f : ServerNo) (x : Begins) → recovery_try w b audit a wait job f ≡ Ok x → x.entry.begun ≡ a.now
  recovery-moment f x h = sym (ap (λ (y : Begins). y.entry.begun) (unrefused (recovery_refusal w b audit a f) (recovery_begins b audit a.now a.block wait job f) x h).1)

  pub recovery-block : (f : ServerNo) (x : Begins) → recovery_try w b audit a wait job f ≡ Ok x → x.entry.block ≡ a.block
  recovery-block f x h = sym (ap (λ (y : Begins). y.entry.block) (unrefused (recovery_refusal w b audit a f) (recovery_begins b audit a.now a.block wait job f) x h).1)

  pub takeover-block : (i d : ServerNo) (x : Begins) → takeover_try w b audit a wait job i d ≡ Ok x → x.entry.block ≡ a.block
  takeover-block i d x h = sym (ap (λ (y : Begins). y.entry.block) (unrefused (takeover_refusal w b audit a i d) (takeover_begins b audit a.now a.block wait job i d) x h).1)

  pub takeover-moment : (i d : ServerNo) (x : Begins) → takeover_try w b audit a wait job i d ≡ Ok x → x.entry.begun ≡ a.now
  takeover-moment i d x h = sym (ap (λ (y : Begins). y.entry.begun) (unrefused (takeover_refusal w b audit a i d) (takeover_begins b audit a.now a.block wait job i d) x h).1)
