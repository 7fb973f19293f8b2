-- What is read of a book and of the order of its names.
use Rattle.std.proofs.Common.{◌≡◌, ℕ, zero, suc, ◌<◌, true, List, length, get_or, map, Option, None, Some, Bor, refl, sym, ◌∙◌, ap, subst, arith, All, slice_get, nat_lt, [], ◌∷◌}
use Rattle.book_views.proofs.Prelude.{All-get_or, BookState, HasKnownSource, HostPort, Instance, IsBook, ServerNo, are_known, by_name, by_name-within}
use Rattle.book_views.proofs.Prelude.{get_or_from_slice_get, instance_at, length-map, list_all, nat_tests, seen_source, slice_get_within}
use Rattle.book_views.proofs.Prelude.{source_servers}

known-seen : (n : ℕ) (o : Option Instance) → HasKnownSource n o → are_known n (source_servers (seen_source o)) ≡ true
known-seen n None known = refl
known-seen n (Some i) known = known

-- the seen source of each server is one of the book's servers
pub source-known : (b : BookState) (server : ServerNo) → IsBook b → server.0 < length b.names → are_known (length b.names) (source_servers (seen_source (instance_at b server))) ≡ true
source-known b server is below =
    known-seen (length b.names) (instance_at b server)
    (All-get_or (HasKnownSource (length b.names)) b.instances server.0 None (omega (arith, below, is.instances)) is.sources)

-- a server at a rank of the order is one of the names
pub placed-within : (names : List HostPort) (order : List ServerNo) (k : ℕ) (server : ServerNo) → order ≡ by_name names → slice_get order k ≡ Some server → server.0 < length names
placed-within names order k server is at =
    let within : k < length order = slice_get_within order k server at in
    let all : All (λ (s : ServerNo). s.0 < length names) order = subst (All (λ (s : ServerNo). s.0 < length names)) (sym is) (by_name-within names) in
    subst (λ (s : ServerNo). s.0 < length names) (get_or_from_slice_get order k server server at) (all k server within)

pub known-below : (n s : ℕ) → list_all (λ k. nat_lt k n) (s ∷ []) ≡ true → s < n
known-below n s known = grind (arith, nat_tests)

-- what is known of a server, among references to all that is known
place-in : (ps : List (Bor (Option Instance))) (i : ℕ) (p : Bor (Option Instance)) → i < length ps → p ≡ get_or ps i p → get_or (map (λ q. q.now) ps) i None ≡ p.now
place-in [] i p within is = absurd (omega (arith, within))
place-in (q ∷ ps) zero p within is = ap (λ r. r.now) (sym is)
place-in (q ∷ ps) (suc i) p within is = place-in ps i p (omega (arith, within)) is

pub place-at : (b : BookState) (ps : List (Bor (Option Instance))) (i : ℕ) (p : Bor (Option Instance)) → map (λ q. q.now) ps ≡ b.instances → i < length ps → p ≡ get_or ps i p → get_or b.instances i None ≡ p.now
place-at b ps i p all within is = ap (λ xs. get_or xs i None) (sym all) ∙ place-in ps i p within is

pub places-all : (b : BookState) (ps : List (Bor (Option Instance))) → map (λ q. q.now) ps ≡ b.instances → length ps ≡ length b.instances
places-all b ps all = sym (length-map ps (λ q. q.now)) ∙ ap length all
