-- Each command's plan starts what it stops.
use Rattle.std.proofs.Common.{Bool, List, None, Option, Some, [], ap, false, refl, true, ℕ, ◌++◌, ◌==◌, ◌∙◌, ◌∷◌, ◌≡◌, if◌then◌else◌}
use Rattle.run_laws.proofs.Prelude.{BookState, Command, CoordsCommand, GtidCommand, Line, MatchCommand, Op, Path, PathCommand, PlansStartAgain}
use Rattle.run_laws.proofs.Prelude.{ServerNo, StartsWhatItStops, World, about_kind, about_one, after_deed, again, again_auto, auto, autos, by_gtids}
use Rattle.run_laws.proofs.Prelude.{coords_command, deed_of, finished, flat_map, gtid_command, left_stopped, matching_plan, matchings, option_or}
use Rattle.run_laws.proofs.Prelude.{path_of, pseudo_command, regroup_command, replicas_but, replicas_of, siblings_of, source_above, source_of, swap}
use Rattle.run_laws.proofs.Prelude.{under, unders, up, ups}
use Rattle.run_laws.proofs.Prelude.coords_kind
use Rattle.run_laws.proofs.Prelude.coords_plans
use Rattle.run_laws.proofs.Prelude.gtid_kind
use Rattle.run_laws.proofs.Prelude.gtid_plans
use Rattle.run_laws.proofs.Prelude.command as path_kind
use Rattle.run_laws.proofs.Prelude.match_plans
use Rattle.run_laws.proofs.Prelude.matching as match_kind
use Rattle.run_laws.proofs.Prelude.op
use Rattle.run_laws.proofs.Prelude.path_plans

-- ---- operations one after another

left-append : (n : ℕ) (s : Bool) (xs ys : List Op) → left_stopped n s (xs ++ ys) ≡ left_stopped n (left_stopped n s xs) ys
left-append n s [] ys = refl
left-append n s (x ∷ xs) ys = left-append n (after_deed n s (deed_of x)) xs ys

left-finished : (xs : List Op) (lines : List Line) → StartsWhatItStops xs → StartsWhatItStops (finished xs lines)
left-finished xs lines starts n = left-append n false xs (op.Finish lines ∷ []) ∙ starts n

both-start : (xs ys : List Op) → StartsWhatItStops xs → StartsWhatItStops ys → StartsWhatItStops (xs ++ ys)
both-start xs ys one two n = left-append n false xs ys ∙ (ap (λ (s : Bool). left_stopped n s ys) (one n) ∙ two n)

all-start : (f : ServerNo → List Op) → ((r : ServerNo) → StartsWhatItStops (f r)) → (rs : List ServerNo) → StartsWhatItStops (flat_map f rs)
all-start f each [] n = refl
all-start f each (r ∷ rs) n = both-start (f r) (flat_map f rs) (each r) (all-start f each rs) n

-- ---- the parts of plans, by whether they are about a server

one-starts : (p : Bool) → (if p then false else if p then true else false) ≡ false
one-starts true = refl
one-starts false = refl

two-start : (p q : Bool) → (if q then false else if p then false else if p then true else if q then true else if p then true else false) ≡ false
two-start true true = refl
two-start true false = refl
two-start false true = refl
two-start false false = refl

four-start : (p q : Bool) → (if p then false else if q then false else if q then true else if p then true else if q then true else if p then true else false) ≡ false
four-start true true = refl
four-start true false = refl
four-start false true = refl
four-start false false = refl

never-stops : (p : Bool) → (if p then false else false) ≡ false
never-stops true = refl
never-stops false = refl

then-starts : (p : Bool) → (if p then false else if p then false else false) ≡ false
then-starts true = refl
then-starts false = refl

up-starts : (i x g : ServerNo) → StartsWhatItStops (up i x g)
up-starts i x g n = two-start (i.0 == n) (x.0 == n)

under-starts : (i d s : ServerNo) → StartsWhatItStops (under i d s)
under-starts i d s n = four-start (i.0 == n) (d.0 == n)

again-starts : (i x : ServerNo) → StartsWhatItStops (again i x)
again-starts i x n = one-starts (i.0 == n)

auto-starts : (r d : ServerNo) → StartsWhatItStops (auto r d)
auto-starts r d n = one-starts (r.0 == n)

swap-starts : (i x g : ServerNo) → StartsWhatItStops (swap i x g)
swap-starts i x g n = two-start (i.0 == n) (x.0 == n)

again-auto-starts : (i x : ServerNo) → StartsWhatItStops (again_auto i x)
again-auto-starts i x n = one-starts (i.0 == n)

matching-starts : (r d : ServerNo) (every : ℕ) → StartsWhatItStops (matching_plan r d every)
matching-starts r d every n = one-starts (r.0 == n)

none-start : StartsWhatItStops []
none-start n = refl

-- ---- by coordinates

kind-starts : (w : World) (b : BookState) (k : CoordsCommand) (i : ServerNo) (d : Option ServerNo) → (k ≡ coords_kind.StopReplica → ⊥) → StartsWhatItStops (coords_plans.ops_of w b k i d)
kind-starts w b coords_kind.MoveUp i d apart = go (source_of b i) (source_above b i)
  where
    go : (x g : Option ServerNo) → StartsWhatItStops (coords_plans.moved_up i x g)
    go None g = none-start
    go (Some x) None = none-start
    go (Some x) (Some g) = up-starts i x g
kind-starts w b coords_kind.MoveUpReplicas i d apart = go (source_of b i)
  where
    go : (x : Option ServerNo) → StartsWhatItStops (coords_plans.replicas_moved_up (replicas_of b i) i x)
    go None = none-start
    go (Some x) = left-finished (ups (replicas_of b i) i x) _ (all-start (λ (r : ServerNo). up r i x) (λ r. up-starts r i x) (replicas_of b i))
kind-starts w b coords_kind.MoveBelow i d apart = go d (source_of b i)
  where
    go : (to x : Option ServerNo) → StartsWhatItStops (coords_plans.moved_below i to x)
    go None x = none-start
    go (Some to) None = none-start
    go (Some to) (Some x) = under-starts i to x
kind-starts w b coords_kind.Repoint i d apart = go (by_gtids w b i) d (source_of b i)
  where
    by-auto : (x : Option ServerNo) → StartsWhatItStops (coords_plans.repointed_auto i x)
    by-auto None = none-start
    by-auto (Some x) = auto-starts i x

    by-place : (x : Option ServerNo) → StartsWhatItStops (coords_plans.repointed i x)
    by-place None = none-start
    by-place (Some x) = again-starts i x

    go : (gtids : Bool) (to x : Option ServerNo) → StartsWhatItStops (coords_plans.repointed_by gtids i to x)
    go true to x = by-auto (option_or to x)
    go false to x = by-place x
kind-starts w b coords_kind.TakeSiblings i d apart = go (source_of b i)
  where
    go : (x : Option ServerNo) → StartsWhatItStops (coords_plans.siblings_taken (siblings_of b i) i x)
    go None = none-start
    go (Some x) = left-finished (unders (siblings_of b i) i x) _ (all-start (λ (r : ServerNo). under r i x) (λ r. under-starts r i x) (siblings_of b i))
kind-starts w b coords_kind.TakeMaster i d apart = go (source_of b i) (source_above b i)
  where
    go : (x g : Option ServerNo) → StartsWhatItStops (coords_plans.master_taken i x g)
    go None g = none-start
    go (Some x) None = none-start
    go (Some x) (Some g) = swap-starts i x g
kind-starts w b coords_kind.ReattachReplica i d apart = λ n. then-starts (i.0 == n)
kind-starts w b coords_kind.StopReplica i d apart = λ n. absurd (apart refl)
kind-starts w b coords_kind.RestartReplica i d apart = λ n. one-starts (i.0 == n)
kind-starts w b _ i d apart = λ n. never-stops (i.0 == n)

about-starts : {K : Type 0} (f : K → ServerNo → Option ServerNo → List Op) (o : Option K) (c : Command) → ((k : K) → o ≡ Some k → (i : ServerNo) → StartsWhatItStops (f k i c.d)) → StartsWhatItStops (about_kind [] f o c)
about-starts f None c each = none-start
about-starts f (Some k) c each = go c.i
  where
    go : (i : Option ServerNo) → StartsWhatItStops (about_one [] (f k) i c.d)
    go None = none-start
    go (Some i) = each k refl i

pub coords-start : (w : World) (b : BookState) (kind : Option CoordsCommand) (c : Command) → (kind ≡ Some coords_kind.StopReplica → ⊥)
    → StartsWhatItStops (about_kind [] (coords_plans.ops_of w b) kind c)
coords-start w b kind c apart = about-starts (coords_plans.ops_of w b) kind c (λ k is i. kind-starts w b k i c.d (λ same. apart (is ∙ ap Some same)))

-- ---- by GTIDs, matches and paths

pub gtids-start : (b : BookState) (kind : Option GtidCommand) (c : Command) → StartsWhatItStops (about_kind [] (gtid_plans.ops_of b) kind c)
gtids-start b kind c = about-starts (gtid_plans.ops_of b) kind c (λ k is i. by k i)
  where
    by : (k : GtidCommand) (i : ServerNo) → StartsWhatItStops (gtid_plans.ops_of b k i c.d)
    by gtid_kind.MoveGtid i = go c.d
      where
        go : (d : Option ServerNo) → StartsWhatItStops (gtid_plans.moved i d)
        go None = none-start
        go (Some d) = auto-starts i d
    by gtid_kind.MoveReplicasGtid i = go (replicas_but b i c.d) c.d
      where
        go : (rs : List ServerNo) (d : Option ServerNo) → StartsWhatItStops (gtid_plans.replicas_moved rs d)
        go rs None = none-start
        go rs (Some d) = left-finished (autos rs d) _ (all-start (λ (r : ServerNo). auto r d) (λ r. auto-starts r d) rs)
    by gtid_kind.EnableGtid i = go (source_of b i)
      where
        go : (x : Option ServerNo) → StartsWhatItStops (gtid_plans.enabled i x)
        go None = none-start
        go (Some x) = again-auto-starts i x
    by gtid_kind.DisableGtid i = go (source_of b i)
      where
        go : (x : Option ServerNo) → StartsWhatItStops (gtid_plans.disabled i x)
        go None = none-start
        go (Some x) = again-starts i x

pub matches-start : (b : BookState) (every : ℕ) (kind : Option MatchCommand) (c : Command) → StartsWhatItStops (about_kind [] (match_plans.ops_of b every) kind c)
matches-start b every kind c = about-starts (match_plans.ops_of b every) kind c (λ k is i. by k i)
  where
    one : (i : ServerNo) (d : Option ServerNo) → StartsWhatItStops (match_plans.moved i every d)
    one i None = none-start
    one i (Some d) = matching-starts i d every

    by : (k : MatchCommand) (i : ServerNo) → StartsWhatItStops (match_plans.ops_of b every k i c.d)
    by match_kind.Match i = one i c.d
    by match_kind.MatchUp i = one i (source_above b i)
    by match_kind.MatchReplicas i = go (replicas_but b i c.d) c.d
      where
        go : (rs : List ServerNo) (d : Option ServerNo) → StartsWhatItStops (match_plans.replicas_moved rs every d)
        go rs None = none-start
        go rs (Some d) = left-finished (matchings rs d every) _ (all-start (λ (r : ServerNo). matching_plan r d every) (λ r. matching-starts r d every) rs)
    by match_kind.RegroupReplicas i = none-start

climbed-starts : (n : ServerNo) (xs : List ServerNo) (to : ServerNo) → StartsWhatItStops (path_plans.climbed n xs to)
climbed-starts n [] to = none-start
climbed-starts n (x ∷ xs) to = both-start (up n x (path_plans.next_of xs to)) (path_plans.climbed n xs to) (up-starts n x (path_plans.next_of xs to)) (climbed-starts n xs to)

ascended-starts : (n d : ServerNo) (xs : List ServerNo) → StartsWhatItStops (path_plans.ascended n d xs)
ascended-starts n d [] = again-starts n d
ascended-starts n d (x ∷ xs) = climbed-starts n (x ∷ xs) d

arrived-starts : (n d : ServerNo) (xs : List ServerNo) (o : Option ServerNo) → StartsWhatItStops (path_plans.arrived n d xs o)
arrived-starts n d xs None = ascended-starts n d xs
arrived-starts n d xs (Some s) = both-start (path_plans.climbed n xs s) (under n d s) (climbed-starts n xs s) (under-starts n d s)

travelled-starts : (n d : ServerNo) (p : Option Path) → StartsWhatItStops (path_plans.travelled n d p)
travelled-starts n d None = none-start
travelled-starts n d (Some p) = arrived-starts n d p.passed p.under

relocated-starts : (gtid : Bool) (b : BookState) (movers : List ServerNo) (d : Option ServerNo) → StartsWhatItStops (path_plans.relocated gtid b movers d)
relocated-starts gtid b movers None = none-start
relocated-starts gtid b movers (Some d) = left-finished (path_plans.moved_by gtid b movers d) _ (by gtid)
  where
    by : (g : Bool) → StartsWhatItStops (path_plans.moved_by g b movers d)
    by true = all-start (λ (r : ServerNo). auto r d) (λ r. auto-starts r d) movers
    by false = all-start (λ (n : ServerNo). path_plans.travelled n d (path_of b n d)) (λ n. travelled-starts n d (path_of b n d)) movers

pub paths-start : (w : World) (b : BookState) (kind : Option PathCommand) (c : Command) → StartsWhatItStops (about_kind [] (path_plans.ops_of w b) kind c)
paths-start w b kind c = about-starts (path_plans.ops_of w b) kind c (λ k is i. by k i)
  where
    by : (k : PathCommand) (i : ServerNo) → StartsWhatItStops (path_plans.ops_of w b k i c.d)
    by path_kind.Relocate i = relocated-starts w.gtid b (i ∷ []) c.d
    by path_kind.RelocateReplicas i = relocated-starts w.gtid b (replicas_but b i c.d) c.d
    by path_kind.RegroupReplicas i = none-start

pub plans-start-again : PlansStartAgain
plans-start-again = record {
  coords = λ w b c. coords-start w b (coords_command c.name) c;
  gtids = λ b c. gtids-start b (gtid_command c.name) c;
  matches = λ b every c. matches-start b every (pseudo_command c.name) c;
  paths = λ w b c. paths-start w b (regroup_command c.name) c;
}
