-- Drawn servers are of the cluster of their source.
use Rattle.std.proofs.Common.{◌≡◌, ◌∙◌, ◌<◌, ℕ, zero, suc, ◌+◌, true, false, ◌∷◌, List, [], length, Option, Some, None, refl, sym, ap, arith, nat_eq, not, slice_get}
use Rattle.read_back_laws.proofs.Prelude.{ArePlaced, DrawnServer, Given, IsLoopless, IsPlaced, Replica, ServerInit, at_server, eq-eqb, first_met, given_of}
use Rattle.read_back_laws.proofs.Prelude.{givens_from, inits_from_drawn, label_at, other_cluster, pointwise, root_in, same-end, same_cluster, slice_get_within}
use Rattle.scenario_generator.specs.declared.server.DrawnServer.TheVariants.{Root}
use Rattle.scenario_reader.specs.ScenarioServers.Openings.{init_of, source_in}
use Rattle.scenario_reader.specs.Openings.Servers.{number_of}
use Rattle.read_back_laws.proofs.DrawnFlaws.{at_drawn, at_found, drawn_at, falls, given_at, none_meets}

same_label : (a : List ℕ) → pointwise nat_eq a a ≡ true
same_label [] = refl
same_label (x ∷ xs) = let here : nat_eq x x ≡ true = eq-eqb x x refl in rw here (same_label xs)

-- ---- the sources of what is given

abbrev up_of : List DrawnServer → ℕ → Option ℕ
up_of ss m = source_in (slice_get (givens_from 0 ss) m)

length-givens : (n : ℕ) (ss : List DrawnServer) → length (givens_from n ss) ≡ length ss
length-givens n [] = refl
length-givens n (s ∷ ss) = ap suc (length-givens (n + 1) ss)

given_there : (n m : ℕ) (ss : List DrawnServer) (s : DrawnServer) → slice_get ss m ≡ Some s → slice_get (givens_from n ss) m ≡ Some (given_of (n + m) s)
given_there n m [] s e = absurd (cc)
given_there n zero (t ∷ ss) s e = let same : n ≡ n + 0 = omega arith in let is : t ≡ s = cc in ap (λ u. Some (given_of n u)) is ∙ ap (λ k. Some (given_of k s)) same
given_there n (suc m) (t ∷ ss) s e = let same : n + 1 + m ≡ n + suc m = omega arith in given_there (n + 1) m ss s e ∙ ap (λ k. Some (given_of k s)) same

falls_to : (ss : List DrawnServer) (a b : ℕ) (s : DrawnServer) → IsPlaced ss a s → number_of (given_of a s).source ≡ Some b → b < a
falls_to ss a b Root is e = absurd (cc)
falls_to ss a b (Replica source executed) is e = let same : source ≡ b = cc in omega (arith, is.earlier, same)

falls_from : (ss : List DrawnServer) → ArePlaced ss → (a b : ℕ) (o : Option Given) → slice_get (givens_from 0 ss) a ≡ o → source_in o ≡ Some b → (b < a) × (a < length ss)
falls_from ss are a b None is e = absurd (cc)
falls_from ss are a b (Some g) is e =
    let h = given_at 0 a ss g is in
    let same : 0 + a ≡ a = omega arith in
    let drawn : g ≡ given_of a h.0 = h.2 ∙ ap (λ k. given_of k h.0) same in
    (falls_to ss a b h.0 (are a h.0 h.1) (sym (ap (λ (x : Given). number_of x.source) drawn) ∙ e), slice_get_within ss a h.0 h.1)

loopless : (ss : List DrawnServer) → ArePlaced ss → IsLoopless (up_of ss) (length (givens_from 0 ss))
loopless ss are = record {
  from = λ n m e. let h = falls_from ss are n m (slice_get (givens_from 0 ss) n) refl e in omega (arith, h.0, h.1, length-givens 0 ss);
  never = λ n. falls (up_of ss) (length (givens_from 0 ss)) n n (λ a b e. (falls_from ss are a b (slice_get (givens_from 0 ss) a) refl e).0) (omega arith);
}

-- a replica and its source have one root
same_root : (ss : List DrawnServer) → ArePlaced ss → (n source executed : ℕ) → slice_get ss n ≡ Some (Replica source executed) → root_in (givens_from 0 ss) n ≡ root_in (givens_from 0 ss) source
same_root ss are n source executed e =
    let there : n < length ss = slice_get_within ss n (Replica source executed) e in
    same-end (up_of ss) (length (givens_from 0 ss)) (loopless ss are) n source (omega (arith, length-givens 0 ss)) (ap source_in (given_there 0 n ss (Replica source executed) e))

-- ---- clusters

alike : (i j : ServerInit) → i.settings.cluster ≡ j.settings.cluster → not (same_cluster i j) ≡ false
alike i j same = ap not (sym (ap (pointwise nat_eq i.settings.cluster) same) ∙ same_label i.settings.cluster)

cluster_of : (ss : List DrawnServer) → ArePlaced ss → (n : ℕ) (s : DrawnServer) → slice_get ss n ≡ Some s → other_cluster (inits_from_drawn ss) (init_of (givens_from 0 ss) n (given_of n s)) ≡ false
cluster_of ss are n Root e =
    let i = init_of (givens_from 0 ss) n (given_of n Root) in
    let origin : at_server (λ t. not (same_cluster i t)) (slice_get (inits_from_drawn ss) n) ≡ false =
    at_found (λ m t. not (same_cluster i t)) n (slice_get (inits_from_drawn ss) n)
    (λ j there. let h = drawn_at ss n j there in alike i j (sym (ap (λ (x : ServerInit). x.settings.cluster) h.is))) in
    rw origin refl
cluster_of ss are n (Replica source executed) e =
    let i = init_of (givens_from 0 ss) n (given_of n (Replica source executed)) in
    let above = at_drawn ss (λ m t. not (same_cluster i t)) source
    (λ t there. alike i (init_of (givens_from 0 ss) source (given_of source t)) (ap (λ r. label_at (slice_get (givens_from 0 ss) r)) (same_root ss are n source executed e))) in
    rw above refl

pub none_is_elsewhere : (ss : List DrawnServer) → ArePlaced ss → first_met (λ n i. other_cluster (inits_from_drawn ss) i) 0 (inits_from_drawn ss) ≡ None
none_is_elsewhere ss are = none_meets (λ n i. other_cluster (inits_from_drawn ss) i) ss (λ n s e. cluster_of ss are n s e)
