-- Replicas that are expected to stop are there.
use Rattle.std.proofs.Common.{◌≡◌, ◌<◌, Bool, true, false, cond, List, [], ◌∷◌, Option, Some, None, length, subst, sym, All, ◌==◌, filter_map, not}
use Rattle.plan_lines.proofs.Prelude.{All-chosen, All-cons, All-filter, All-head, All-nil, All-tail, BookState, Follower, Ground, Instance, Lot}
use Rattle.plan_lines.proofs.Prelude.{ServerNo, Stopped, chosen_of, cons_option, expected, expected_at, follower_in, instance_at, stopped_of}
use Rattle.plan_lines.proofs.Prelude.{without_stopped}
use Rattle.plan_lines.proofs.Prelude.lot

-- one of the book's
abbrev pub IsThere : BookState → Stopped → Type 0
IsThere b s = s.no.0 < length b.names

module _ (b : BookState) (n : ServerNo) (here : n.0 < length b.names) (rest : List Stopped) (there : All (IsThere b) rest) where
  valid-there : (i : Instance) (valid : Bool) → All (IsThere b) (cons_option (cond valid (Some (stopped_of n i)) None) rest)
  valid-there i true = All-cons (IsThere b) (stopped_of n i) rest here there
  valid-there i false = there

  one-there : (o : Option Instance) → All (IsThere b) (cons_option (expected_at n o) rest)
  one-there None = there
  one-there (Some i) = valid-there i i.valid

pub expected-there : (b : BookState) (ns : List ServerNo) → All (λ n. n.0 < length b.names) ns → All (IsThere b) (expected b ns)
expected-there b [] all = All-nil (IsThere b)
expected-there b (n ∷ ns) all =
    one-there b n (All-head (λ (n : ServerNo). n.0 < length b.names) n ns all) (expected b ns)
    (expected-there b ns (All-tail (λ (n : ServerNo). n.0 < length b.names) n ns all)) (instance_at b n)

-- so are the others beside one of them
pub others-there : (b : BookState) (xs ys : List Stopped) (p : ServerNo) → ys ≡ without_stopped xs p → All (IsThere b) xs → All (IsThere b) ys
others-there b xs ys p is all = subst (All (IsThere b)) (sym is) (All-filter (λ (s : Stopped). not (s.no.0 == p.0)) (IsThere b) xs all)

-- the chosen one
pub chosen-there : (g : Ground) (f : ServerNo) (xs : List Stopped) (p : Stopped) → chosen_of g f xs ≡ Some p → All (IsThere g.book) xs → IsThere g.book p
chosen-there g f xs p is all = All-chosen g.world g.book g.moment f (IsThere g.book) xs p all is

-- and those that follow it
abbrev Follows : BookState → Follower → Type 0
Follows b x = x.no.0 < length b.names

follows : (b : BookState) (p : ServerNo) (lot : Stopped → Lot) (ss : List Stopped) → All (IsThere b) ss → All (Follows b) (filter_map (λ s. follower_in p s (lot s)) ss)
follows b p by [] all = All-nil (Follows b)
follows b p by (s ∷ ss) all = go (by s) (All-head (IsThere b) s ss all) (follows b p by ss (All-tail (IsThere b) s ss all))
  where
    go : (l : Lot) → IsThere b s → All (Follows b) (filter_map (λ t. follower_in p t (by t)) ss)
        → All (Follows b) (cons_option (follower_in p s l) (filter_map (λ t. follower_in p t (by t)) ss))
    go (lot.Goes way) here rest = All-cons (Follows b) (record { no = s.no; source = p }) (filter_map (λ t. follower_in p t (by t)) ss) here rest
    go (lot.Stays why) here rest = rest

pub followers-there : (b : BookState) (p : ServerNo) (by : Stopped → Lot) (ss : List Stopped) (xs : List Follower) → xs ≡ filter_map (λ s. follower_in p s (by s)) ss
    → All (IsThere b) ss → All (Follows b) xs
followers-there b p by ss xs is all = subst (All (Follows b)) (sym is) (follows b p by ss all)
