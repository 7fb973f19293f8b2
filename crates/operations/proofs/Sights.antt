-- The latest that was seen of each server.
use Rattle.std.proofs.Common.{◌≡◌, ℕ, Bool, true, false, cond, not, List, [], ◌∷◌, ◌++◌, refl, sym, ◌∙◌, ap, Some, None, ◌==◌}
use Rattle.operations.proofs.Prelude.{Position, ServerNo, Sight, eq-eqb, eqb-true, false≢true, ne_eqb, others, seen_of, with_seen}

seen-others : (xs : List Sight) (n : ServerNo) (k : ℕ) → (n.0 ≡ k → ⊥) → seen_of (others xs n) k ≡ seen_of xs k
seen-others [] n k apart = refl
seen-others (x ∷ xs) n k apart = go (x.no.0 == n.0) refl (seen-others xs n k apart)
  where
    go : (b : Bool) → (x.no.0 == n.0) ≡ b → seen_of (others xs n) k ≡ seen_of xs k
        → seen_of (cond (not b) (x ∷ others xs n) (others xs n)) k ≡ cond (x.no.0 == k) (Some x.seen) (seen_of xs k)
    go true e rest = rest ∙ ap (λ b. cond b (Some x.seen) (seen_of xs k)) (sym (ne_eqb x.no.0 k (λ same. apart (sym (eqb-true x.no.0 n.0 e) ∙ same))))
    go false e rest = ap (λ o. cond (x.no.0 == k) (Some x.seen) o) rest

-- a list with one more at its end
seen-more : (xs : List Sight) (x : Sight) (k : ℕ) → (x.no.0 == k) ≡ false → seen_of (xs ++ x ∷ []) k ≡ seen_of xs k
seen-more [] x k apart = ap (λ b. cond b (Some x.seen) None) apart
seen-more (y ∷ ys) x k apart = ap (λ o. cond (y.no.0 == k) (Some y.seen) o) (seen-more ys x k apart)

seen-last : (xs : List Sight) (n : ServerNo) (s : Position) (k : ℕ) → (n.0 == k) ≡ true → seen_of (others xs n ++ record { no = n; seen = s } ∷ []) k ≡ Some s
seen-last [] n s k here = ap (λ b. cond b (Some s) None) here
seen-last (x ∷ xs) n s k here = go (x.no.0 == n.0) refl (seen-last xs n s k here)
  where
    go : (b : Bool) → (x.no.0 == n.0) ≡ b → seen_of (others xs n ++ record { no = n; seen = s } ∷ []) k ≡ Some s
        → seen_of (cond (not b) (x ∷ others xs n) (others xs n) ++ record { no = n; seen = s } ∷ []) k ≡ Some s
    go true e rest = rest
    go false e rest =
        let apart : (x.no.0 == k) ≡ false = ne_eqb x.no.0 k (λ same. false≢true (sym e ∙ eq-eqb x.no.0 n.0 (same ∙ sym (eqb-true n.0 k here)))) in
        ap (λ b. cond b (Some x.seen) (seen_of (others xs n ++ record { no = n; seen = s } ∷ []) k)) apart ∙ rest

-- what was seen last of each server
pub seen-at : (xs : List Sight) (n : ServerNo) (s : Position) (k : ℕ) → seen_of (with_seen xs n s) k ≡ cond (n.0 == k) (Some s) (seen_of xs k)
seen-at xs n s k = go (n.0 == k) refl
  where
    go : (b : Bool) → (n.0 == k) ≡ b → seen_of (with_seen xs n s) k ≡ cond b (Some s) (seen_of xs k)
    go true e = seen-last xs n s k e
    go false e = seen-more (others xs n) (record { no = n; seen = s }) k e ∙ seen-others xs n k (λ same. false≢true (sym e ∙ eq-eqb n.0 k same))
