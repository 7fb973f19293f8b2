-- What the lines of a branch say that turns do.
use Rattle.std.proofs.Common.{◌≡◌, ◌∙◌, Bool, true, false, cond, List, [], ◌∷◌, ◌++◌, map, Option, Some, None, refl, sym, ap, filter_map}
use Rattle.plan_laws.proofs.Prelude.{BookState, Care, Done, Event, Follower, Fork, Ground, Group, Line, Lot, Means, Missed, Op, Path, Purpose}
use Rattle.plan_laws.proofs.Prelude.{ServerNo, Stopped, Way, Why, as_told, attached_as, better_of, care_of, chosen_line, chosen_lines, cons_option}
use Rattle.plan_laws.proofs.Prelude.{crowned, detach_line, event_of, events_of, false≢true, filter_map-append, flat_map, follower_in, fork_of}
use Rattle.plan_laws.proofs.Prelude.{gathers, group_of, is_auto, is_before, last_lines, level, lot_by, lot_by_group, lot_lines, lot_told, own_end_of}
use Rattle.plan_laws.proofs.Prelude.{parted, same_coord, steps_of, way_lines, wins}
use Rattle.plan_laws.proofs.Prelude.apart
use Rattle.plan_laws.proofs.Prelude.group
use Rattle.plan_laws.proofs.Prelude.line
use Rattle.plan_laws.proofs.Prelude.lot
use Rattle.plan_laws.proofs.Prelude.means
use Rattle.plan_laws.proofs.Prelude.op
use Rattle.plan_laws.proofs.Prelude.path
use Rattle.plan_laws.proofs.Prelude.purpose
use Rattle.plan_laws.proofs.Prelude.way
use Rattle.plan_laws.proofs.Prelude.why as whys

-- ---- what turns do in a branch

abbrev pub go_events : ServerNo → Option (List Op) → List Event
go_events n None = []
go_events n (Some ops) = map Done (ops ++ op.Start n ∷ [])

abbrev pub path_events : ServerNo → Path → List Event
path_events n (path.Goes ops) = map Done (ops ++ op.Start n ∷ [])
path_events n (path.Refused o) = Missed o ∷ []
path_events n path.Left = []

abbrev pub fork_events : Fork → List Event
fork_events x = path_events x.no x.path

-- a lost one is detached, or started again
abbrev pub part : Purpose → ServerNo → Op
part purpose.Regroup n = op.Start n
part _ n = op.Detach n

abbrev pub lost_of : ServerNo → Option (List Op) → Option ServerNo
lost_of n None = Some n
lost_of n (Some ops) = None

abbrev pub loser_of : ServerNo → Path → Option ServerNo
loser_of n (path.Goes ops) = None
loser_of n (path.Refused o) = Some n
loser_of n path.Left = Some n

abbrev pub stays : Fork → Option ServerNo
stays x = loser_of x.no x.path

abbrev pub goer_of : ServerNo → Path → Option ServerNo
goer_of n (path.Goes ops) = Some n
goer_of n (path.Refused o) = None
goer_of n path.Left = None

abbrev pub goes : Fork → Option ServerNo
goes x = goer_of x.no x.path

abbrev pub crown_events : ServerNo → Option ServerNo → List Event
crown_events p None = map Done (op.Reset p ∷ op.ReadOnly p false ∷ op.Status p None ∷ [])
crown_events p (Some q) = map Done (level p q ++ op.Start p ∷ op.ReadOnly q false ∷ op.Status q None ∷ [])

abbrev pub last_events : Ground → Purpose → ServerNo → ServerNo → List ServerNo → List Event
last_events g purpose.Regroup f p qs = Done (op.Start p) ∷ []
last_events g purpose.Master f p qs = crown_events p (better_of g f p qs)
last_events g (purpose.Intermediate s) f p qs = []
last_events g (purpose.Takeover d) f p qs = []

abbrev pub script : Ground → Purpose → ServerNo → ServerNo → List Fork → List Event
script g u f p xs = flat_map fork_events xs ++ (map (λ n. Done (part u n)) (filter_map stays xs) ++ last_events g u f p (filter_map goes xs))

-- ---- why one is left

-- it executed something else than the chosen one, and was reached
abbrev pub Parts : Care → Type 0
Parts c = (c.apart ≡ true) × (c.elsewhere ≡ false) × (c.reached ≡ true)

-- by GTIDs it goes below the chosen one, from where it stopped
abbrev pub WayFits : Stopped → Stopped → Way → Type 0
WayFits p s (way.Auto to exec) = (to ≡ p.no) × (exec ≡ s.exec)
WayFits p s _ = Unit {0}

abbrev pub StaysApart : Stopped → Stopped → Lot → Type 0
StaysApart p s (lot.Goes by) = WayFits p s by
StaysApart p s (lot.Stays why) = Parts (care_of why)

module _ (g : Ground) (by : Means) (f : ServerNo) where
  pub lots-apart : (p s : Stopped) → StaysApart p s (lot_by by g f p s)
  lots-apart p s = go by
    where
      grouped : (x : Group) → StaysApart p s (lot_by_group p.no f s x)
      grouped (group.Follow at) = tt
      grouped group.Ahead = (refl, refl, refl)
      grouped group.Behind = (refl, refl, refl)

      bridged : (b : Bool) → StaysApart p s (cond b (lot.Goes (way.Auto p.no s.exec)) (lot_by_group p.no f s (group_of g.book.rings p.no (own_end_of p) p.exec f s.exec)))
      bridged true = (refl, refl)
      bridged false = grouped (group_of g.book.rings p.no (own_end_of p) p.exec f s.exec)

      go : (m : Means) → StaysApart p s (lot_by m g f p s)
      go means.Bridges = bridged g.world.gtid
      go (means.Matches every) = tt

-- ---- what lines say

-- a choice takes no turn
chosen-none : (g : Ground) (f : ServerNo) (p : Stopped) (ss : List Stopped) → events_of (filter_map (chosen_line g f p) ss) ≡ []
chosen-none g f p [] = refl
chosen-none g f p (s ∷ ss) = go (wins g f s (s ∷ [])) (chosen-none g f p ss)
  where
    go : (b : Bool) → events_of (filter_map (chosen_line g f p) ss) ≡ []
        → events_of (cons_option (cond b (Some (line.Chosen p.no s.no (wins g f s (p ∷ record s { exec = p.exec } ∷ [])))) None) (filter_map (chosen_line g f p) ss)) ≡ []
    go true rest = rest
    go false rest = rest

pub way-events : (even : Bool) (n : ServerNo) (by : Way) → events_of (way_lines even n by) ≡ go_events n (steps_of n (Some by))
way-events true n (way.Down b) = refl
way-events false n (way.Down b) = refl
way-events _ n _ = refl

lot-events : (p s : Stopped) (l : Lot) → StaysApart p s l → events_of (lot_lines p s l) ≡ fork_events (fork_of p s l)
lot-events p s (lot.Stays why) fits = go (is_before p.exec s.exec)
  where
    go : (b : Bool) → events_of (line.Lost s.no p.no (cond b apart.Ahead apart.Behind) ∷ []) ≡ []
    go true = refl
    go false = refl
lot-events p s (lot.Goes (way.Down b)) fits = way-events (same_coord s.exec p.exec) s.no (way.Down b)
lot-events p s (lot.Goes (way.Up b)) fits = way-events (same_coord s.exec p.exec) s.no (way.Up b)
lot-events p s (lot.Goes (way.Match to exec every)) fits = way-events (same_coord s.exec p.exec) s.no (way.Match to exec every)
lot-events p s (lot.Goes (way.Auto to exec)) fits = go (is_before p.exec s.exec)
  where
    go : (b : Bool) → events_of (cond b (line.Lost s.no p.no apart.Refused ∷ []) (way_lines (same_coord s.exec p.exec) s.no (way.Auto to exec)))
        ≡ path_events s.no (cond b (path.Refused (op.Auto s.no to)) (path.Goes (op.Auto s.no to ∷ [])))
    go true = ap (λ (k : ServerNo). Missed (op.Auto s.no k) ∷ []) (sym fits.0)
    go false = way-events (same_coord s.exec p.exec) s.no (way.Auto to exec)

-- a detachment in auto position or not
pub detach-event : (b : BookState) (n : ServerNo) (ls : List Line) → events_of (detach_line b n ∷ ls) ≡ Done (op.Detach n) ∷ events_of ls
detach-event b n ls = go (is_auto b n)
  where
    go : (v : Bool) → events_of (line.Does (op.Detach n) (attached_as v) ∷ ls) ≡ Done (op.Detach n) ∷ events_of ls
    go true = refl
    go false = refl

why-event : (b : BookState) (u : Purpose) → gathers u ≡ true → (s : Stopped) (why : Why) → Parts (care_of why) → (ls : List Line)
    → events_of (cons_option (parted b u s (lot.Stays why)) ls) ≡ Done (part u s.no) ∷ events_of ls
why-event b purpose.Regroup is s why apart ls = ap (λ (v : Bool). events_of (cons_option (cond v (Some (as_told (op.Start s.no))) None) ls)) apart.2
why-event b purpose.Master is s why apart ls =
    ap (λ (v : Bool). events_of (cons_option (cond v (Some (detach_line b s.no)) (cond (care_of why).elsewhere (Some (as_told (op.Start s.no))) None)) ls)) apart.0
    ∙ detach-event b s.no ls
why-event b (purpose.Intermediate k) is s why apart ls = absurd (false≢true is)
why-event b (purpose.Takeover k) is s why apart ls = absurd (false≢true is)

module _ (b : BookState) (u : Purpose) (is : gathers u ≡ true) (p s : Stopped) (ls : List Line) (ks : List ServerNo) (rest : events_of ls ≡ map (λ n. Done (part u n)) ks) where
  parted-event : (l : Lot) → StaysApart p s l → events_of (cons_option (parted b u s (lot_told p s l)) ls) ≡ map (λ n. Done (part u n)) (cons_option (stays (fork_of p s l)) ks)
  parted-event (lot.Stays why) apart = why-event b u is s why apart ls ∙ ap (λ (l : List Event). Done (part u s.no) ∷ l) rest
  parted-event (lot.Goes (way.Auto to exec)) apart = go (is_before p.exec s.exec)
    where
      go : (v : Bool) → events_of (cons_option (parted b u s (cond v (lot.Stays (whys.ahead s.exec)) (lot.Goes (way.Auto to exec)))) ls)
          ≡ map (λ n. Done (part u n)) (cons_option (loser_of s.no (cond v (path.Refused (op.Auto s.no to)) (path.Goes (op.Auto s.no to ∷ [])))) ks)
      go true = why-event b u is s (whys.ahead s.exec) (refl, refl, refl) ls ∙ ap (λ (l : List Event). Done (part u s.no) ∷ l) rest
      go false = rest
  parted-event _ apart = rest

module _ (p : Stopped) (lots : Stopped → Lot) where
  abbrev pub forks : List Stopped → List Fork
  forks ss = map (λ s. fork_of p s (lots s)) ss

  flat-events : ((s : Stopped) → StaysApart p s (lots s)) → (ss : List Stopped) → events_of (flat_map (λ s. lot_lines p s (lots s)) ss) ≡ flat_map fork_events (forks ss)
  flat-events apart [] = refl
  flat-events apart (s ∷ ss) =
      filter_map-append event_of (lot_lines p s (lots s)) (flat_map (λ t. lot_lines p t (lots t)) ss)
      ∙ (λ i. lot-events p s (lots s) (apart s) i ++ flat-events apart ss i)

  part-events : (b : BookState) (u : Purpose) → gathers u ≡ true → ((s : Stopped) → StaysApart p s (lots s)) → (ss : List Stopped)
      → events_of (filter_map (λ s. parted b u s (lot_told p s (lots s))) ss) ≡ map (λ n. Done (part u n)) (filter_map stays (forks ss))
  part-events b u is apart [] = refl
  part-events b u is apart (s ∷ ss) =
      parted-event b u is p s (filter_map (λ t. parted b u t (lot_told p t (lots t))) ss) (filter_map stays (forks ss)) (part-events b u is apart ss) (lots s) (apart s)

  goers-are : (ss : List Stopped) → map (λ x. x.no) (filter_map (λ s. follower_in p.no s (lot_told p s (lots s))) ss) ≡ filter_map goes (forks ss)
  goers-are [] = refl
  goers-are (s ∷ ss) = go (lots s) (goers-are ss)
    where
      go : (l : Lot) → map (λ x. x.no) (filter_map (λ t. follower_in p.no t (lot_told p t (lots t))) ss) ≡ filter_map goes (forks ss)
          → map (λ x. x.no) (cons_option (follower_in p.no s (lot_told p s l)) (filter_map (λ t. follower_in p.no t (lot_told p t (lots t))) ss)) ≡ cons_option (goes (fork_of p s l)) (filter_map goes (forks ss))
      go (lot.Stays why) rest = rest
      go (lot.Goes (way.Auto to exec)) rest = by (is_before p.exec s.exec)
        where
          by : (v : Bool) → map (λ x. x.no) (cons_option (follower_in p.no s (cond v (lot.Stays (whys.ahead s.exec)) (lot.Goes (way.Auto to exec)))) (filter_map (λ t. follower_in p.no t (lot_told p t (lots t))) ss))
              ≡ cons_option (goer_of s.no (cond v (path.Refused (op.Auto s.no to)) (path.Goes (op.Auto s.no to ∷ [])))) (filter_map goes (forks ss))
          by true = rest
          by false = ap (λ (l : List ServerNo). s.no ∷ l) rest
      go _ rest = ap (λ (l : List ServerNo). s.no ∷ l) rest

last-told : (g : Ground) (u : Purpose) → gathers u ≡ true → (f p : ServerNo) (xs : List Follower)
    → events_of (last_lines g u f p xs) ≡ last_events g u f p (map (λ x. x.no) xs)
last-told g purpose.Regroup is f p xs = refl
last-told g purpose.Master is f p xs = go (better_of g f p (map (λ x. x.no) xs))
  where
    go : (o : Option ServerNo) → events_of (crowned p o) ≡ crown_events p o
    go None = refl
    go (Some q) = refl
last-told g (purpose.Intermediate s) is f p xs = absurd (false≢true is)
last-told g (purpose.Takeover d) is f p xs = absurd (false≢true is)

module _ (g : Ground) (u : Purpose) (is : gathers u ≡ true) (by : Means) (f : ServerNo) (p : Stopped) (others : List Stopped) where
  abbrev lots : Stopped → Lot
  lots s = lot_by by g f p s

  abbrev below : List Line
  below = flat_map (λ s. lot_lines p s (lots s)) others

  abbrev lost : List Line
  lost = filter_map (λ s. parted g.book u s (lot_told p s (lots s))) others

  abbrev followers : List Follower
  followers = filter_map (λ s. follower_in p.no s (lot_told p s (lots s))) others

  abbrev last : List Line
  last = last_lines g u f p.no followers

  pub told-branch : events_of (chosen_lines g u by f p others) ≡ script g u f p.no (forks p lots others)
  told-branch =
      filter_map-append event_of (filter_map (chosen_line g f p) others) (below ++ (lost ++ last))
      ∙ (ap (λ (l : List Event). l ++ events_of (below ++ (lost ++ last))) (chosen-none g f p others)
      ∙ (filter_map-append event_of below (lost ++ last)
      ∙ (ap (λ (l : List Event). l ++ events_of (lost ++ last)) (flat-events p lots (lots-apart g by f p) others)
      ∙ ap (λ (l : List Event). flat_map fork_events (forks p lots others) ++ l)
      (filter_map-append event_of lost last
      ∙ (λ i. part-events p lots g.book u is (lots-apart g by f p) others i ++ last-told g u is f p.no followers i)
      ∙ ap (λ (ns : List ServerNo). map (λ n. Done (part u n)) (filter_map stays (forks p lots others)) ++ last_events g u f p.no ns) (goers-are p lots others)))))
