-- Rings have their own servers' bridges.
use Rattle.std.proofs.Common.{◌≡◌, ℕ, zero, suc, List, [], ◌∷◌, refl, sym, ap, subst, Option, Some, None, IfSome, replicate, slice_set, slice_index_or}
use Rattle.recovery_laws.proofs.Prelude.{All, All-nil, All-ring, AreOwn, Bridge, ServerNo, Status, bridge-parts, bridge_in, position_of, ring_at}
use Rattle.recovery_laws.proofs.Prelude.{ringed}
use Rattle.recovery_laws.proofs.Prelude.Bridges.{with_bridge}

abbrev IsOf : ℕ → Bridge → Type 0
IsOf n b = b.no.0 ≡ n

-- a fact of the ring at a place, if one ring is put
set-ring : (P : List Bridge → Type 0) (rings : List (List Bridge)) (k j : ℕ) (r : List Bridge) → (k ≡ j → P r) → P (slice_index_or rings j []) → P (slice_index_or (slice_set rings k r) j [])
set-ring P (x ∷ xs) zero zero r same old = same refl
set-ring P (x ∷ xs) (suc k) (suc j) r same old = set-ring P xs k j r (λ e. same (ap suc e)) old
set-ring _ _ _ _ r same old = old

fresh-ring : (P : List Bridge → Type 0) (count j : ℕ) → P [] → P (slice_index_or (replicate count []) j [])
fresh-ring P zero j h = h
fresh-ring P (suc k) zero h = h
fresh-ring P (suc k) (suc j) h = fresh-ring P k j h

pub fresh-own : (count : ℕ) → AreOwn (replicate count [])
fresh-own count n = fresh-ring (λ ring. All (λ b. b.no.0 ≡ n.0) ring) count n.0 (All-nil (λ b. b.no.0 ≡ n.0))

pub kept-own : (rings : List (List Bridge)) (n : ServerNo) (o : Option Bridge) → IfSome o (λ b. b.no.0 ≡ n.0) → AreOwn rings → AreOwn (ringed rings n o)
kept-own rings n None h own m = own m
kept-own rings n (Some b) h own m =
    set-ring (λ ring. All (λ x. x.no.0 ≡ m.0) ring) rings n.0 m.0 (with_bridge (ring_at rings n) b)
    (λ e. subst (λ (k : ℕ). All (λ x. x.no.0 ≡ k) (with_bridge (ring_at rings n) b)) e (All-ring (IsOf n.0) (ring_at rings n) b h (own n))) (own m)

pub shown-own : (n : ServerNo) (seen : Option Status) → IfSome (bridge_in n seen) (λ b. b.no.0 ≡ n.0)
shown-own n None = tt
shown-own n (Some s) = go (bridge_in n (Some s)) refl
  where
    go : (o : Option Bridge) → bridge_in n (Some s) ≡ o → IfSome o (λ b. b.no.0 ≡ n.0)
    go None e = tt
    go (Some b) e = sym (bridge-parts n (Some (position_of s)) b e).no

pub forgotten-own : (rings : List (List Bridge)) (n : ServerNo) → AreOwn rings → AreOwn (slice_set rings n.0 [])
forgotten-own rings n own m =
    set-ring (λ ring. All (λ x. x.no.0 ≡ m.0) ring) rings n.0 m.0 [] (λ e. All-nil (λ (x : Bridge). x.no.0 ≡ m.0)) (own m)
