-- Entries of a journal.
use Rattle.std.proofs.Common.{◌≡◌, ◌∙◌, ℕ, suc, ◌+◌, Bool, true, false, cond, List, [], ◌∷◌, ◌++◌, length, map, refl, sym, ap, arith, ◌==◌}
use Rattle.live_desk.proofs.Prelude.{Entry, Reply, Stands, Turn, driver_entries, driver_list, drives, entries_of, eq-eqb, filter-append, is_of}
use Rattle.live_desk.proofs.Prelude.{length-append, map-append, pairs_in, places_from, places_of, those_in, turns_in}

pub pairs-entries : (ns : List ℕ) (ps : List (Turn × Reply)) → pairs_in (entries_of ns ps) ≡ ps
pairs-entries ns [] = refl
pairs-entries [] (p ∷ ps) = ap (λ (qs : List (Turn × Reply)). (p.0, p.1) ∷ qs) (pairs-entries [] ps)
pairs-entries (n ∷ ns) (p ∷ ps) = ap (λ (qs : List (Turn × Reply)). (p.0, p.1) ∷ qs) (pairs-entries ns ps)

pub length-entries : (ns : List ℕ) (ps : List (Turn × Reply)) → length (entries_of ns ps) ≡ length ps
length-entries ns [] = refl
length-entries [] (p ∷ ps) = ap suc (length-entries [] ps)
length-entries (n ∷ ns) (p ∷ ps) = ap suc (length-entries ns ps)

pub turns-pairs : (es : List Entry) → turns_in es ≡ map (λ p. p.0) (pairs_in es)
turns-pairs [] = refl
turns-pairs (e ∷ es) = ap (λ (ts : List Turn). e.1 ∷ ts) (turns-pairs es)

-- one more turn
pub entries-push : (ns : List ℕ) (ps : List (Turn × Reply)) (n : ℕ) (p : Turn × Reply) → length ns ≡ length ps → entries_of (ns ++ n ∷ []) (ps ++ p ∷ []) ≡ entries_of ns ps ++ (n, p.0, p.1) ∷ []
entries-push [] [] n p same = refl
entries-push [] (q ∷ ps) n p same = absurd (omega (arith, same))
entries-push (m ∷ ns) [] n p same = absurd (omega (arith, same))
entries-push (m ∷ ns) (q ∷ ps) n p same = ap (λ (es : List Entry). (m, q.0, q.1) ∷ es) (entries-push ns ps n p (omega (arith, same)))

-- more turns, by the caller
pub entries-more : (ns : List ℕ) (ps more : List (Turn × Reply)) → length ns ≡ length ps → entries_of ns (ps ++ more) ≡ entries_of ns ps ++ entries_of [] more
entries-more [] [] more same = refl
entries-more [] (q ∷ ps) more same = absurd (omega (arith, same))
entries-more (m ∷ ns) [] more same = absurd (omega (arith, same))
entries-more (m ∷ ns) (q ∷ ps) more same = ap (λ (es : List Entry). (m, q.0, q.1) ∷ es) (entries-more ns ps more (omega (arith, same)))

pub turns-append : (es fs : List Entry) → turns_in (es ++ fs) ≡ turns_in es ++ turns_in fs
turns-append es fs = map-append (λ (e : Entry). e.1) es fs

pub pairs-append : (es fs : List Entry) → pairs_in (es ++ fs) ≡ pairs_in es ++ pairs_in fs
pairs-append es fs = map-append (λ (e : Entry). (e.1, e.2)) es fs

pub those-append : (c : Bool) (ts us : List Turn) → those_in c (ts ++ us) ≡ those_in c ts ++ those_in c us
those-append c ts us = filter-append (is_of c) ts us

pub driver-append : (es fs : List Entry) → driver_list (es ++ fs) ≡ driver_list es ++ driver_list fs
driver-append es fs = ap turns_in (filter-append (λ (e : Entry). drives e.0 e.1) es fs) ∙ turns-append (driver_entries es) (driver_entries fs)

-- the places of a number
pub places-push : (by k : ℕ) (es : List Entry) (e : Entry) → places_from by k (es ++ e ∷ []) ≡ places_from by k es ++ cond (e.0 == by) ((k + length es + 1) ∷ []) []
places-push by k [] e = go (e.0 == by)
  where
    go : (b : Bool) → cond b ((k + 1) ∷ []) [] ≡ cond b ((k + 0 + 1) ∷ []) []
    go true = let same : k + 1 ≡ k + 0 + 1 = omega arith in ap (λ (n : ℕ). n ∷ []) same
    go false = refl
places-push by k (f ∷ es) e = go (f.0 == by) (places-push by (k + 1) es e ∙ ap (λ (n : ℕ). places_from by (k + 1) es ++ cond (e.0 == by) (n ∷ []) []) same)
  where
    same : k + 1 + length es + 1 ≡ k + suc (length es) + 1
    same = omega arith

    go : (b : Bool) → places_from by (k + 1) (es ++ e ∷ []) ≡ places_from by (k + 1) es ++ cond (e.0 == by) ((k + suc (length es) + 1) ∷ []) []
        → cond b ((k + 1) ∷ places_from by (k + 1) (es ++ e ∷ [])) (places_from by (k + 1) (es ++ e ∷ [])) ≡ cond b ((k + 1) ∷ places_from by (k + 1) es) (places_from by (k + 1) es) ++ cond (e.0 == by) ((k + suc (length es) + 1) ∷ []) []
    go true h = ap (λ (ns : List ℕ). (k + 1) ∷ ns) h
    go false h = h

-- a pass that is in a journal is in it after its turn, too
pub stands-push : (by seen seen' : ℕ) (mine mine' : List ℕ) (es es' : List Entry) (t : Turn) (r : Reply) → es' ≡ es ++ (by, t, r) ∷ [] → seen' ≡ length es' → mine' ≡ mine ++ length es' ∷ [] → Stands by seen mine es
    → Stands by seen' mine' es'
stands-push by seen seen' mine mine' es es' t r joined saw took stands =
    let e : Entry = (by, t, r) in
    let long : length es' ≡ 0 + length es + 1 = omega (arith, ap (λ (fs : List Entry). length fs) joined, length-append es (e ∷ [])) in
    record {
      behind = omega (arith, saw);
      own =
          took ∙ ap (λ (ns : List ℕ). ns ++ length es' ∷ []) stands.own
          ∙ ap (λ (n : ℕ). places_of by es ++ n ∷ []) long
          ∙ ap (λ (b : Bool). places_of by es ++ cond b ((0 + length es + 1) ∷ []) []) (sym (eq-eqb by by refl))
          ∙ sym (ap (places_of by) joined ∙ places-push by 0 es e);
    }
