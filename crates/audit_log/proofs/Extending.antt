-- An audit with more recoveries after its own.
use Rattle.std.proofs.Common.{◌≡◌, ℕ, ◌+◌, List, [], ◌∷◌, ◌++◌, length, refl, sym, ◌∙◌, ap, subst, Option, Some, None, Ok, arith, ◌&&◌, All, find, reverse}
use Rattle.audit_log.proofs.Prelude.{AuditState, IsClear, MayBegin, Recovery, append_assoc, begun, either_held, extended, find-append}
use Rattle.audit_log.proofs.Prelude.{get_or-append-add, held_by, is_blocking, is_of, is_unended, last_blocking, length-append, may_begin, option_or}
use Rattle.audit_log.proofs.Prelude.{reverse-append, unended_of}
use Rattle.audit_log.proofs.Parting.{apart-begins, begins-apart}

pub All-second : {X : Type 0} (P : X → Type 0) (xs ys : List X) → All P (xs ++ ys) → All P ys
All-second P xs ys all k d within =
    let long = length-append xs ys in
    subst P (get_or-append-add xs ys k d) (all (length xs + k) d (omega (arith, within, long)))

both-held : (a b : AuditState) (ua ub la lb : Option Recovery) → held_by (extended a b) (option_or ua ub) (option_or lb la) ≡ either_held (held_by a ua la) (held_by b ub lb)
both-held a b None (Some r) (Some x) lb = refl
both-held a b None None (Some x) (Some y) = refl
both-held a b None None None (Some y) = refl
both-held a b _ _ _ _ = refl

pub extended-held : (a b : AuditState) (cluster : List ℕ) (now : ℕ) → may_begin (extended a b) cluster now ≡ either_held (may_begin a cluster now) (may_begin b cluster now)
extended-held a b cluster now =
    let first = find-append (λ r. is_of cluster r && is_unended r) a.recoveries b.recoveries in
    let blocks = λ (r : Recovery). is_of cluster r && is_blocking now r in
    let back = find-append blocks (reverse b.recoveries) (reverse a.recoveries) in
    (λ i. held_by (extended a b) (first i) (last_blocking (extended a b) cluster now))
    ∙ ap (λ xs. held_by (extended a b) (option_or (unended_of a cluster) (unended_of b cluster)) (find blocks xs)) (reverse-append a.recoveries b.recoveries)
    ∙ (λ i. held_by (extended a b) (option_or (unended_of a cluster) (unended_of b cluster)) (back i))
    ∙ both-held a b (unended_of a cluster) (unended_of b cluster) (last_blocking a cluster now) (last_blocking b cluster now)

pub extended-may : (a b : AuditState) (r : Recovery) → MayBegin (extended a b) r → MayBegin b r
extended-may a b r may = record {
  answered =
      let parts = apart-begins r.cluster r.begun.0 (extended a b) r.id may.answered in
      begins-apart r.cluster r.begun.0 b (All-second (IsClear r.cluster r.begun.0) a.recoveries b.recoveries parts.1) ∙ ap Ok (sym parts.0);
  short = may.short;
}

pub extended-begun : (a b : AuditState) (r : Recovery) → extended a (begun b r) ≡ begun (extended a b) r
extended-begun a b r = λ i. record { recoveries = sym (append_assoc a.recoveries b.recoveries (r ∷ [])) i; next = r.id + 1 }
