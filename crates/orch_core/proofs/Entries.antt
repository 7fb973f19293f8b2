-- The entries of jobs: how they stay while jobs and the audit change.
use Rattle.std.proofs.Common.{◌≡◌, ◌≢◌, ◌∙◌, ℕ, ◌<◌, ◌≤◌, Bool, true, false, cond, List, [], ◌∷◌, ◌++◌, map, refl, sym, ap, subst, Option, Some, None, arith}
use Rattle.std.specs.Prelude.{◌==◌, All, IsSomeAnd, find, not, unwrap_or, if◌then◌else◌}
use Rattle.orch_core.proofs.Prelude.{All-head, All-tail, AuditState, Ending, HasEntry, HaveEntries, IsAudit, IsOpenAt, Moment, Recovery, Rise}
use Rattle.orch_core.proofs.Prelude.{Unended, acked_so, acknowledged, acknowledged-id, acknowledged_at, acknowledged_for, begun, ended, ended_so}
use Rattle.orch_core.proofs.Prelude.{entry_id, eq-eqb, eqb-true, is_of, is_unended, job_at, ne_eqb, number_of, same_Some, with-past, with_job}
use Rattle.orch_core.proofs.Prelude.{without_job}

-- ---- entries that aren't ended, in an audit that changes

abbrev Open : Recovery → Type 0
Open r = is_unended r ≡ true

-- the entry of an id, in a list
abbrev OpenIn : List Recovery → ℕ → Type 0
OpenIn rs id = IsSomeAnd (find (λ r. r.id == id) rs) Open

-- a change that keeps ids, and leaves those of this id open
open-mapped : (f : Recovery → Recovery) (id : ℕ) → ((r : Recovery) → (f r).id ≡ r.id) → ((r : Recovery) → r.id ≡ id → Open r → Open (f r)) → (rs : List Recovery) → OpenIn rs id → OpenIn (map f rs) id
open-mapped f id same stays [] h = h
open-mapped f id same stays (r ∷ rs) h = go (r.id == id) refl (open-mapped f id same stays rs) h
  where
    at : (b : Bool) → (r.id == id) ≡ b → ((f r).id == id) ≡ b
    at b e = ap (λ n. n == id) (same r) ∙ e

    go : (b : Bool) → (r.id == id) ≡ b → (OpenIn rs id → OpenIn (map f rs) id) → IsSomeAnd (cond b (Some r) (find (λ x. x.id == id) rs)) Open
        → IsSomeAnd (cond ((f r).id == id) (Some (f r)) (find (λ x. x.id == id) (map f rs))) Open
    go true e rest h = subst (λ (b : Bool). IsSomeAnd (cond b (Some (f r)) (find (λ x. x.id == id) (map f rs))) Open) (sym (at true e)) (stays r (eqb-true r.id id e) h)
    go false e rest h = subst (λ (b : Bool). IsSomeAnd (cond b (Some (f r)) (find (λ x. x.id == id) (map f rs))) Open) (sym (at false e)) (rest h)

pub open-acknowledged : (a : AuditState) (cluster : List ℕ) (id : ℕ) → IsOpenAt a id → IsOpenAt (acknowledged a cluster) id
open-acknowledged a cluster id h = open-mapped (acknowledged_for cluster) id (acknowledged-id cluster) (λ r at unended. stays r (is_of cluster r) unended) a.recoveries h
  where
    stays : (r : Recovery) (b : Bool) → Open r → Open (if b then record r { acked = true } else r)
    stays r true unended = unended
    stays r false unended = unended

pub open-acked : (a : AuditState) (at id : ℕ) → IsOpenAt a id → IsOpenAt (acknowledged_at a at) id
open-acked a at id h = open-mapped (λ r. cond (r.id == at) (acked_so r) r) id (λ r. ids r (r.id == at)) (λ r e unended. stays r (r.id == at) unended) a.recoveries h
  where
    ids : (r : Recovery) (b : Bool) → (cond b (acked_so r) r).id ≡ r.id
    ids r true = refl
    ids r false = refl

    stays : (r : Recovery) (b : Bool) → Open r → Open (cond b (acked_so r) r)
    stays r true unended = unended
    stays r false unended = unended

pub open-ended : (a : AuditState) (at : ℕ) (now : Moment) (outcome : Ending) (id : ℕ) → id ≢ at → IsOpenAt a id → IsOpenAt (ended a at now outcome) id
open-ended a at now outcome id other h =
    open-mapped (λ r. cond (r.id == at) (ended_so now outcome r) r) id (λ r. ids r (r.id == at)) (λ r e unended. stays r (r.id == at) (ne_eqb r.id at (λ f. other (sym e ∙ f))) unended) a.recoveries h
  where
    ids : (r : Recovery) (b : Bool) → (cond b (ended_so now outcome r) r).id ≡ r.id
    ids r true = refl
    ids r false = refl

    stays : (r : Recovery) (b : Bool) → b ≡ false → Open r → Open (cond b (ended_so now outcome r) r)
    stays r true e unended = cc
    stays r false e unended = unended

-- with one more entry
open-before : (rs : List Recovery) (r : Recovery) (id : ℕ) → OpenIn rs id → OpenIn (rs ++ r ∷ []) id
open-before [] r id h = absurd h
open-before (x ∷ xs) r id h = go (x.id == id) (open-before xs r id) h
  where
    go : (b : Bool) → (OpenIn xs id → OpenIn (xs ++ r ∷ []) id) → IsSomeAnd (cond b (Some x) (find (λ y. y.id == id) xs)) Open
        → IsSomeAnd (cond b (Some x) (find (λ y. y.id == id) (xs ++ r ∷ []))) Open
    go true rest h = h
    go false rest h = rest h

open-last : (rs : List Recovery) (r : Recovery) → All (λ x. x.id < r.id) rs → Open r → OpenIn (rs ++ r ∷ []) r.id
open-last [] r all unended = subst (λ (b : Bool). IsSomeAnd (cond b (Some r) None) Open) (sym (eq-eqb r.id r.id refl)) unended
open-last (x ∷ xs) r all unended =
    let less = All-head (λ (y : Recovery). y.id < r.id) x xs all in
    let other : (x.id == r.id) ≡ false = ne_eqb x.id r.id (λ e. absurd (omega (arith, less, e))) in
    subst (λ (b : Bool). IsSomeAnd (cond b (Some x) (find (λ y. y.id == r.id) (xs ++ r ∷ []))) Open) (sym other) (open-last xs r (All-tail (λ (y : Recovery). y.id < r.id) x xs all) unended)

-- an entry that is there is below the next id
open-below : (rs : List Recovery) (next id : ℕ) → All (λ r. r.id < next) rs → OpenIn rs id → id < next
open-below [] next id all h = absurd h
open-below (x ∷ xs) next id all h = go (x.id == id) refl (open-below xs next id (All-tail (λ (y : Recovery). y.id < next) x xs all)) h
  where
    go : (b : Bool) → (x.id == id) ≡ b → (OpenIn xs id → id < next) → IsSomeAnd (cond b (Some x) (find (λ y. y.id == id) xs)) Open → id < next
    go true e rest h = let less = All-head (λ (y : Recovery). y.id < next) x xs all in let same = eqb-true x.id id e in omega (arith, less, same)
    go false e rest h = rest h

-- ---- entries of jobs

at-least : (a : AuditState) (low : ℕ) (o : Option ℕ) → HasEntry a low o → low ≤ unwrap_or o low
at-least a low None h = omega arith
at-least a low (Some id) h = let above = h.0 in omega (arith, above)

-- a lower first id
entries-from : (a : AuditState) (low low' : ℕ) (jobs : List Unended) → low' ≤ low → HaveEntries a low jobs → HaveEntries a low' jobs
entries-from a low low' [] le h = tt
entries-from a low low' (j ∷ js) le h = go (entry_id j) (λ l l' e. entries-from a l l' js e) h
  where
    go : (o : Option ℕ) → ((l l' : ℕ) → l' ≤ l → HaveEntries a l js → HaveEntries a l' js) → HasEntry a low o × HaveEntries a (unwrap_or o low) js
        → HasEntry a low' o × HaveEntries a (unwrap_or o low') js
    go None rest h = (tt, rest low low' le h.1)
    go (Some id) rest h = let above = h.0.0 in ((omega (arith, above, le), h.0.1), h.1)

pub entries-without : (a : AuditState) (low : ℕ) (jobs : List Unended) (id : ℕ) → HaveEntries a low jobs → HaveEntries a low (without_job jobs id)
entries-without a low [] id h = tt
entries-without a low (j ∷ js) id h = go (number_of j == id) (entries-without a (unwrap_or (entry_id j) low) js id h.1)
  where
    go : (b : Bool) → HaveEntries a (unwrap_or (entry_id j) low) (without_job js id) → HaveEntries a low (cond (not b) (j ∷ without_job js id) (without_job js id))
    go true rest = entries-from a (unwrap_or (entry_id j) low) low (without_job js id) (at-least a low (entry_id j) h.0) rest
    go false rest = (h.0, rest)

-- a job in place of another with the same entry
pub entries-with : (a : AuditState) (low from : ℕ) (jobs : List Unended) (high id : ℕ) (j k : Unended) → Rise from jobs high → entry_id k ≡ entry_id j → job_at jobs id ≡ Some j → HaveEntries a low jobs
    → HaveEntries a low (with_job jobs id k)
entries-with a low from [] high id j k rise same found h = tt
entries-with a low from (x ∷ xs) high id j k rise same found h =
    go (number_of x == id) refl found (λ there. entries-with a (unwrap_or (entry_id x) low) (number_of x) xs high id j k rise.1 same there h.1)
  where
    go : (b : Bool) → (number_of x == id) ≡ b → cond b (Some x) (job_at xs id) ≡ Some j → (job_at xs id ≡ Some j → HaveEntries a (unwrap_or (entry_id x) low) (with_job xs id k))
        → HaveEntries a low ((if b then k else x) ∷ with_job xs id k)
    go true e found rest =
        let entry : entry_id x ≡ entry_id k = ap entry_id (same_Some x j found) ∙ sym same in
        let past : with_job xs id k ≡ xs = with-past (number_of x) xs high id k (let here = eqb-true (number_of x) id e in omega (arith, here)) rise.1 in
        subst (λ (ys : List Unended). HasEntry a low (entry_id k) × HaveEntries a (unwrap_or (entry_id k) low) ys) (sym past)
        (subst (λ (o : Option ℕ). HasEntry a low o × HaveEntries a (unwrap_or o low) xs) entry h)
    go false e found rest = (h.0, rest found)

-- each entry above this one stays open
entries-over : (a a' : AuditState) (e : ℕ) → ((id : ℕ) → e < id → IsOpenAt a id → IsOpenAt a' id) → (low : ℕ) (jobs : List Unended) → e ≤ low → HaveEntries a low jobs → HaveEntries a' low jobs
entries-over a a' e stays low [] above h = tt
entries-over a a' e stays low (j ∷ js) above h =
    let least = at-least a low (entry_id j) h.0 in
    (one (entry_id j) h.0, entries-over a a' e stays (unwrap_or (entry_id j) low) js (omega (arith, least, above)) h.1)
  where
    one : (o : Option ℕ) → HasEntry a low o → HasEntry a' low o
    one None has = tt
    one (Some id) has = let more = has.0 in (more, stays id (omega (arith, above, more)) has.1)

-- the entry of a job that is found is above the first id
found-above : (a : AuditState) (low : ℕ) (jobs : List Unended) (id : ℕ) (j : Unended) (e : ℕ) → job_at jobs id ≡ Some j → entry_id j ≡ Some e → HaveEntries a low jobs → low < e
found-above a low [] id j e found entry h = cc
found-above a low (x ∷ xs) id j e found entry h = go (number_of x == id) found (λ there. found-above a (unwrap_or (entry_id x) low) xs id j e there entry h.1)
  where
    go : (b : Bool) → cond b (Some x) (job_at xs id) ≡ Some j → (job_at xs id ≡ Some j → unwrap_or (entry_id x) low < e) → low < e
    go true found rest = let here : HasEntry a low (Some e) = subst (HasEntry a low) (ap entry_id (same_Some x j found) ∙ entry) h.0 in here.0
    go false found rest =
        let least = at-least a low (entry_id x) h.0 in
        let more = rest found in
        omega (arith, least, more)

-- and open
pub found-open : (a : AuditState) (low : ℕ) (jobs : List Unended) (id : ℕ) (j : Unended) (e : ℕ) → job_at jobs id ≡ Some j → entry_id j ≡ Some e → HaveEntries a low jobs → IsOpenAt a e
found-open a low [] id j e found entry h = cc
found-open a low (x ∷ xs) id j e found entry h = go (number_of x == id) found (λ there. found-open a (unwrap_or (entry_id x) low) xs id j e there entry h.1)
  where
    go : (b : Bool) → cond b (Some x) (job_at xs id) ≡ Some j → (job_at xs id ≡ Some j → IsOpenAt a e) → IsOpenAt a e
    go true found rest = let here : HasEntry a low (Some e) = subst (HasEntry a low) (ap entry_id (same_Some x j found) ∙ entry) h.0 in here.1
    go false found rest = rest found

-- a job is dropped, and only its entry may have ended
pub entries-closed : (a a' : AuditState) (e : ℕ) → ((id : ℕ) → id ≢ e → IsOpenAt a id → IsOpenAt a' id) → (low : ℕ) (jobs : List Unended) (id : ℕ) (j : Unended) → job_at jobs id ≡ Some j → entry_id j ≡ Some e
    → HaveEntries a low jobs → HaveEntries a' low (without_job jobs id)
entries-closed a a' e stays low [] id j found entry h = cc
entries-closed a a' e stays low (x ∷ xs) id j found entry h = go (number_of x == id) found (λ there. entries-closed a a' e stays (unwrap_or (entry_id x) low) xs id j there entry h.1)
  where
    one : (o : Option ℕ) → unwrap_or o low < e → HasEntry a low o → HasEntry a' low o
    one None less has = tt
    one (Some i) less has = (has.0, stays i (λ same. absurd (omega (arith, less, same))) has.1)

    go : (b : Bool) → cond b (Some x) (job_at xs id) ≡ Some j → (job_at xs id ≡ Some j → HaveEntries a' (unwrap_or (entry_id x) low) (without_job xs id))
        → HaveEntries a' low (cond (not b) (x ∷ without_job xs id) (without_job xs id))
    go true found rest =
        let here : HasEntry a low (Some e) × HaveEntries a e xs =
        subst (λ (o : Option ℕ). HasEntry a low o × HaveEntries a (unwrap_or o low) xs) (ap entry_id (same_Some x j found) ∙ entry) h in
        let above = here.0.0 in
        entries-from a' e low (without_job xs id) (omega (arith, above))
        (entries-without a' e xs id (entries-over a a' e (λ i more unended. stays i (λ same. absurd (omega (arith, more, same))) unended) e xs (omega arith) here.1))
    go false found rest =
        let less = found-above a (unwrap_or (entry_id x) low) xs id j e found entry h.1 in
        (one (entry_id x) less h.0, rest found)

-- one more job without an entry
pub entries-push : (a : AuditState) (low : ℕ) (jobs : List Unended) (j : Unended) → entry_id j ≡ None → HaveEntries a low jobs → HaveEntries a low (jobs ++ j ∷ [])
entries-push a low [] j none h = (subst (HasEntry a low) (sym none) tt, tt)
entries-push a low (x ∷ xs) j none h = (h.0, entries-push a (unwrap_or (entry_id x) low) xs j none h.1)

-- one more job with an entry that is above all others
entries-begun : (a a' : AuditState) (top : ℕ) → ((id : ℕ) → IsOpenAt a id → (id < top) × IsOpenAt a' id) → IsOpenAt a' top → (low : ℕ) (jobs : List Unended) (j : Unended) → entry_id j ≡ Some top → low < top
    → HaveEntries a low jobs → HaveEntries a' low (jobs ++ j ∷ [])
entries-begun a a' top stays unended low [] j entry above h = (subst (HasEntry a' low) (sym entry) (above, unended), tt)
entries-begun a a' top stays unended low (x ∷ xs) j entry above h = (one (entry_id x) h.0, entries-begun a a' top stays unended (unwrap_or (entry_id x) low) xs j entry (below (entry_id x) h.0) h.1)
  where
    one : (o : Option ℕ) → HasEntry a low o → HasEntry a' low o
    one None has = tt
    one (Some id) has = (has.0, (stays id has.1).1)

    below : (o : Option ℕ) → HasEntry a low o → unwrap_or o low < top
    below None has = above
    below (Some id) has = (stays id has.1).0

-- ---- the audit begins and ends entries

-- a recovery begins, with the next id
pub entries-joined : (a : AuditState) (jobs : List Unended) (j : Unended) (r : Recovery) → IsAudit a → r.id ≡ a.next → is_unended r ≡ true → entry_id j ≡ Some r.id → HaveEntries a 0 jobs
    → HaveEntries (begun a r) 0 (jobs ++ j ∷ [])
entries-joined a jobs j r is next unended entry h =
    entries-begun a (begun a r) r.id
    (λ id there. (let less = open-below a.recoveries a.next id is.below there in omega (arith, less, next), open-before a.recoveries r id there))
    (open-last a.recoveries r (λ k d within. let less = is.below k d within in omega (arith, less, next)) unended) 0 jobs j entry (let first = is.first in omega (arith, first, next)) h

pub entries-acknowledged : (a : AuditState) (cluster : List ℕ) (jobs : List Unended) → HaveEntries a 0 jobs → HaveEntries (acknowledged a cluster) 0 jobs
entries-acknowledged a cluster jobs h = entries-over a (acknowledged a cluster) 0 (λ id more. open-acknowledged a cluster id) 0 jobs (omega arith) h
