-- What claims change of the kept rows is neither the book's nor the audit's.
use Rattle.orch_core.proofs.InstanceKeeper.NoRecovery.{above}
use Rattle.std.proofs.Common.{◌≡◌, ◌∙◌, ℕ, ◌+◌, ◌*◌, ◌<◌, ◌^◌, ◌⊎◌, inl, inr, Bool, true, false, List, [], ◌∷◌, ◌++◌, length, Option, Some, None, refl, sym, ap, subst, append_assoc, arith, All, ◌==◌, if◌then◌else◌}
use Rattle.run_laws.proofs.Prelude.{All-append, All-cons, All-head, All-nil, All-tail, All-weaker, AuditState, BookState, Change, ClaimAnswer, Follow}
use Rattle.run_laws.proofs.Prelude.{FollowAudit, IsAudited, IsBook, IsKeptFor, Moment, Recovery, Row, State, below, book_rows, changed, changed_by}
use Rattle.run_laws.proofs.Prelude.{changed_by_rising, claim_changes, claim_changes_by, claim_key, claimed, first, is_eq, is_kept_so, last}
use Rattle.run_laws.proofs.Prelude.{option_map, option_to_list, recovery_at, release_changes, row_after, row_in, row_in-changed_by, row_in-elsewhere}
use Rattle.run_laws.proofs.Prelude.{second, sort_key, sort_key_of, third, to_third}
use Rattle.run_laws.proofs.Prelude.claims.{is_of}
use Rattle.run_laws.proofs.Prelude.change
use Rattle.run_laws.proofs.Prelude.claim
use Rattle.run_laws.proofs.Prelude.kept_row as row
use Rattle.run_laws.proofs.Prelude.key
use Rattle.run_laws.proofs.Prelude.table

-- ---- the claim's row

last-high : (x : Option Bool) → All (λ r. sort_key_of r < 6 * 2 ^ 65) (option_to_list (option_map row.Switch x))
last-high None = All-nil (λ r. sort_key_of r < 6 * 2 ^ 65)
last-high (Some e) = All-cons (λ r. sort_key_of r < 6 * 2 ^ 65) (row.Switch e) [] (omega arith) (All-nil (λ r. sort_key_of r < 6 * 2 ^ 65))

-- a book has none
no_claim : (b : BookState) → IsBook b → row_in (book_rows b) claim_key ≡ None
no_claim b is =
    let front : All (λ r. (sort_key_of r == claim_key) ≡ false) ((first b is ++ second b is) ++ third b is) =
    All-weaker (λ r. sort_key_of r < 3 * 2 ^ 65 + 2 ^ 32) (λ r. (sort_key_of r == claim_key) ≡ false) (λ r h. below claim_key (sort_key_of r) (omega (arith, h))) ((first b is ++ second b is) ++ third b is) (to_third b is) in
    let back : All (λ r. (sort_key_of r == claim_key) ≡ false) (last b is) =
    All-weaker (λ r. sort_key_of r < 6 * 2 ^ 65) (λ r. (sort_key_of r == claim_key) ≡ false) (λ r h. below claim_key (sort_key_of r) (omega (arith, h))) (last b is) (last-high b.switch) in
    let all = All-append (λ r. (sort_key_of r == claim_key) ≡ false) ((first b is ++ second b is) ++ third b is) (last b is) front back in
    let rows : ((first b is ++ second b is) ++ third b is) ++ last b is ≡ book_rows b =
    ap (λ (xs : List Row). xs ++ last b is) (append_assoc (first b is) (second b is) (third b is))
    ∙ append_assoc (first b is) (second b is ++ third b is) (last b is)
    ∙ ap (λ (xs : List Row). first b is ++ xs) (append_assoc (second b is) (third b is) (last b is)) in
    ap (λ (xs : List Row). row_in xs claim_key) (sym rows) ∙ row_in-elsewhere (((first b is ++ second b is) ++ third b is) ++ last b is) claim_key all

-- ---- changes of it

abbrev pub IsOfClaim : Change → Type 0
IsOfClaim c = ((node : ℕ) × (until : Moment) × (c ≡ change.Put (row.Active node until))) ⊎ (c ≡ change.Remove table.Active key.Active)

put-claim : (rows : List Row) (b : BookState) (node : ℕ) (until : Moment) → Follow rows b → Follow (changed_by rows (change.Put (row.Active node until))) b
put-claim rows b node until follow = record {
  rising = changed_by_rising rows (change.Put (row.Active node until)) follow.rising;
  book = follow.book;
  each = λ p. subst (λ (x : Option Row). IsKeptFor (length b.names) x (row_in (book_rows b) p)) (sym (row_in-changed_by rows (change.Put (row.Active node until)) p)) (go p (claim_key == p) refl);
}
  where
    go : (p : ℕ) (e : Bool) → (claim_key == p) ≡ e → IsKeptFor (length b.names) (if e then Some (row.Active node until) else row_in rows p) (row_in (book_rows b) p)
    go p false is = follow.each p
    go p true is =
        let at : claim_key ≡ p = is_eq claim_key p is in
        subst (IsKeptFor (length b.names) (Some (row.Active node until))) (sym (subst (λ (q : ℕ). row_in (book_rows b) q ≡ None) at (no_claim b follow.book))) refl

remove-claim : (rows : List Row) (b : BookState) → Follow rows b → Follow (changed_by rows (change.Remove table.Active key.Active)) b
remove-claim rows b follow = record {
  rising = changed_by_rising rows (change.Remove table.Active key.Active) follow.rising;
  book = follow.book;
  each = λ p. subst (λ (x : Option Row). IsKeptFor (length b.names) x (row_in (book_rows b) p)) (sym (row_in-changed_by rows (change.Remove table.Active key.Active) p)) (go p (claim_key == p) refl);
}
  where
    go : (p : ℕ) (e : Bool) → (claim_key == p) ≡ e → IsKeptFor (length b.names) (if e then None else row_in rows p) (row_in (book_rows b) p)
    go p false is = follow.each p
    go p true is =
        let at : claim_key ≡ p = is_eq claim_key p is in
        subst (IsKeptFor (length b.names) None) (sym (subst (λ (q : ℕ). row_in (book_rows b) q ≡ None) at (no_claim b follow.book))) tt

one-claim : (rows : List Row) (b : BookState) (c : Change) → IsOfClaim c → Follow rows b → Follow (changed_by rows c) b
one-claim rows b c (inl put) follow = subst (λ (x : Change). Follow (changed_by rows x) b) (sym put.2) (put-claim rows b put.0 put.1 follow)
one-claim rows b c (inr removed) follow = subst (λ (x : Change). Follow (changed_by rows x) b) (sym removed) (remove-claim rows b follow)

pub Follow-claims : (rows : List Row) (b : BookState) (cs : List Change) → All IsOfClaim cs → Follow rows b → Follow (changed rows cs) b
Follow-claims rows b [] all follow = follow
Follow-claims rows b (c ∷ cs) all follow = Follow-claims (changed_by rows c) b cs (All-tail IsOfClaim c cs all) (one-claim rows b c (All-head IsOfClaim c cs all) follow)

-- ---- beside the audit

apart-id : (id : ℕ) → id < 2 ^ 64 → (claim_key == sort_key table.Recovery (key.Id id)) ≡ false
apart-id id small = above (sort_key table.Recovery (key.Id id)) claim_key (omega (arith, small))

left : (id : ℕ) → id < 2 ^ 64 → (c : Change) → IsOfClaim c → (x : Option Row) → row_after (sort_key table.Recovery (key.Id id)) x c ≡ x
left id small c (inl put) x = ap (row_after (sort_key table.Recovery (key.Id id)) x) put.2 ∙ ap (λ (b : Bool). if b then Some (row.Active put.0 put.1) else x) (apart-id id small)
left id small c (inr removed) x = ap (row_after (sort_key table.Recovery (key.Id id)) x) removed ∙ ap (λ (b : Bool). if b then None else x) (apart-id id small)

one-audit : (count : ℕ) (rows : List Row) (a : AuditState) (c : Change) → IsOfClaim c → FollowAudit count rows a → FollowAudit count (changed_by rows c) a
one-audit count rows a c is follow = record {
  audit = follow.audit;
  small = follow.small;
  each = λ id small.
      subst (λ (x : Option Row). IsAudited count a.next x (recovery_at a id))
      (sym (row_in-changed_by rows c (sort_key table.Recovery (key.Id id)) ∙ left id small c is (row_in rows (sort_key table.Recovery (key.Id id))))) (follow.each id small);
}

pub FollowAudit-claims : (count : ℕ) (rows : List Row) (a : AuditState) (cs : List Change) → All IsOfClaim cs → FollowAudit count rows a → FollowAudit count (changed rows cs) a
FollowAudit-claims count rows a [] all follow = follow
FollowAudit-claims count rows a (c ∷ cs) all follow =
    FollowAudit-claims count (changed_by rows c) a cs (All-tail IsOfClaim c cs all) (one-audit count rows a c (All-head IsOfClaim c cs all) follow)

-- ---- what turns change

one-of : (c : Change) → IsOfClaim c → All IsOfClaim (c ∷ [])
one-of c is = All-cons IsOfClaim c [] is (All-nil IsOfClaim)

claim-changes-by : (kept : Option (ℕ × Moment)) (node : ℕ) (a : ClaimAnswer) → All IsOfClaim (claim_changes_by kept node a)
claim-changes-by kept node (claim.Taken other until) = All-nil IsOfClaim
claim-changes-by kept node (claim.Held until) = go (is_kept_so kept node until)
  where
    go : (same : Bool) → All IsOfClaim (if same then [] else change.Put (row.Active node until) ∷ [])
    go true = All-nil IsOfClaim
    go false = one-of (change.Put (row.Active node until)) (inl (node, until, refl))

pub claim-changes-are : (s : State) (node : ℕ) → All IsOfClaim (claim_changes s node)
claim-changes-are s node = claim-changes-by s.claims.kept node (claimed s node)

pub release-changes-are : (s : State) (node : ℕ) → All IsOfClaim (release_changes s node)
release-changes-are s node = go (is_of node s.claims.kept)
  where
    go : (own : Bool) → All IsOfClaim (if own then change.Remove table.Active key.Active ∷ [] else [])
    go true = one-of (change.Remove table.Active key.Active) (inr refl)
    go false = All-nil IsOfClaim
