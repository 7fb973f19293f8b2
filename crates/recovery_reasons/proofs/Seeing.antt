-- What a job saw was observed in one of its turns, or is what a bridge has of its own server.
use Rattle.std.proofs.Common.{◌≡◌, ℕ, Bool, true, false, cond, not, List, refl, sym, subst, Option, Some, inl, inr, ◌==◌}
use Rattle.recovery_reasons.proofs.Prelude.{All, All-filter, All-push, Attempt, Attempts, Bearing, BookState, Bridge, Decision, Decisions, Deed, Does}
use Rattle.recovery_reasons.proofs.Prelude.{Ending, Exchange, ExplainsTruly, Fact, IsSeenSo, IsShown, Job, Keeps, MayDecide, Moment, Observation, Op}
use Rattle.recovery_reasons.proofs.Prelude.{Position, Reads, Recovery, ServerNo, Sight, Status, Way, World, attempts, borne, by_deed, decided_by}
use Rattle.recovery_reasons.proofs.Prelude.{deed_of, ended_by, ends, entered, fate_of, ground_of, joined, kept-whole, moved, others, position_of}
use Rattle.recovery_reasons.proofs.Prelude.{seen_in, sight_of, spoken_to, status, stepped, taken, with_bridge, with_seen, with_way}
use Rattle.recovery_reasons.proofs.Prelude.attempt
use Rattle.recovery_reasons.proofs.Prelude.by
use Rattle.recovery_reasons.proofs.Prelude.way
use Rattle.recovery_reasons.proofs.Speaking.{entered-core}
use Rattle.recovery_reasons.proofs.Prelude.doing
use Rattle.recovery_reasons.proofs.Sights.{wait-speaks}

-- ---- an operation

abbrev SeenSo : (Sight → Type 0) → Attempt → Type 0
SeenSo Q (attempt.Goes o es k) = All Q k.seen
SeenSo Q (attempt.Stops c o) = Unit {0}
SeenSo Q (attempt.Ends lines) = Unit {0}

abbrev sight : ServerNo → Position → Sight
sight n p = record { no = n; seen = p }

pub one-seen : (Q : Sight → Type 0) (xs : List Sight) (n : ServerNo) (p : Position) → All Q xs → Q (sight n p) → All Q (with_seen xs n p)
one-seen Q xs n p all h = All-push Q (others xs n) (sight n p) (All-filter (λ x. not (x.no.0 == n.0)) Q xs all) h

module _ (w : World) (read : ℕ) (now : Moment) (j : Job) (rest : List Op) (Q : Sight → Type 0) (all : All Q j.seen) where
  abbrev Shows : Deed → Type 0
  Shows d = (n : ServerNo) (s : Status) → spoken_to d ≡ Some n → seen_in (status w n.0) ≡ Some s → Q (sight n (position_of s))

  seen-by : (d : Deed) (a : Attempt) → Attempts w read now j rest d a → Shows d → SeenSo Q a
  seen-by d a (doing.Misses n from c why) h = tt
  seen-by d a (doing.Fails x c why) h = tt
  seen-by d a (doing.Reads n from s seen is) h = one-seen Q j.seen n (position_of s) all (h n s refl seen)
  seen-by d a (doing.Waits n x s is seen short more) h = one-seen Q j.seen n (position_of s) all (h n s (wait-speaks n x is) seen)
  seen-by d a (doing.Reaches n x s is seen over) h = one-seen Q j.seen n (position_of s) all (h n s (wait-speaks n x is) seen)
  seen-by d a (doing.Finishes lines) h = tt
  seen-by d a _ h = all

  pub deed-seen : (d : Deed) → ((n : ServerNo) (s : Status) → spoken_to d ≡ Some n → seen_in (status w n.0) ≡ Some s → Q (sight n (position_of s))) → SeenSo Q (by_deed w read now j rest d)
  deed-seen d h = seen-by d (by_deed w read now j rest d) (attempts w read now j rest d) h

-- ---- a turn

module _ (w : World) (b : BookState) (now : Moment) (r : Recovery) (P : Fact → Bool) (why : ExplainsTruly w b now r P) where
  abbrev So : List Sight → Type 0
  So xs = All (IsSeenSo P) xs

  bridge-so : (xs : List Sight) (x : Bridge) → So xs → So (with_bridge xs x)
  bridge-so xs x all = one-seen (IsSeenSo P) xs x.no (sight_of x) all (inr (x, refl))

  way-so : (xs : List Sight) (by : Way) → So xs → So (with_way xs by)
  way-so xs (way.Down x) all = bridge-so xs x all
  way-so xs (way.Up x) all = bridge-so xs x all
  way-so xs (way.Auto to exec) all = all
  way-so xs (way.Match to exec every) all = all

  decided-so : (x : Recovery) (d : Decision) → MayDecide (ground_of w b now) x d → So x.core.seen → So (decided_by (ground_of w b now) x d).core.seen
  decided-so x (by.Sends n go ts) may all = way-so x.core.seen go all
  decided-so x (by.Hands d ds go ts) may all = way-so x.core.seen go all
  decided-so x (by.Yields y ts) may all = bridge-so x.core.seen y all
  decided-so x (by.Reads n ts) may all = all
  decided-so x d may all = all

  completes-so : (x : Recovery) (e : Ending) → So x.core.seen → So (ended_by x e).core.seen
  completes-so x (by.Trails n y) all = bridge-so x.core.seen y all
  completes-so x (by.Joins n y) all = bridge-so x.core.seen y all
  completes-so x by.Rests all = all
  completes-so x e all = all

  abbrev Before : Recovery → Type 0
  Before x = Decisions (ground_of w b now) r x × So x.core.seen

  does-so : (read : ℕ) (x : Recovery) (o : Op) (rest : List Op) (ob : Option Observation) (es : List Exchange) (j : Job) → Does w read now x o rest ob es j → Before x → So j.seen
  does-so read x o rest ob es j did h =
      subst (λ (a : Attempt). SeenSo (IsSeenSo P) a) did.goes
      (deed-seen w read now x.core rest (IsSeenSo P) h.1 (deed_of o) (λ n s on is.
      inl (why x (IsShown n (position_of s)) h.0 (Reads o rest s did.ops on is (record { own_end = refl; source = refl; exec = refl; set = refl })))))

  keeps-so : (read : ℕ) → Keeps w b read now Before (λ v x. So x.core.seen) (λ v x. So x.core.seen)
  keeps-so read = record {
    decides = λ x d may h. (joined w b now h.0 (by.Then d may by.Still), decided-so x d may h.1);
    waits = λ x o rest ob es j did e h. does-so read x o rest ob es j did h;
    acts = λ x o rest ob es j did e h. steps x o j (does-so read x o rest ob es j did h);
    continues = λ v x y ys is all. all;
    completes = λ v x e none may all. completes-so x e all;
    bears = λ x o rest c ob e stops is may h. borne-so x e h.1;
  }
    where
      steps : (x : Recovery) (o : Op) (j : Job) → So j.seen → So (stepped (record x { core = j }) o).core.seen
      steps x o j all = go (ends x.stage (deed_of o))
        where
          go : (a : Bool) → So (cond a (entered (record x { core = j }) (moved x.stage)) (record x { core = j })).core.seen
          go true = subst (λ (k : Job). So k.seen) (sym (entered-core (record x { core = j }) (moved x.stage))) all
          go false = all

      borne-so : (x : Recovery) (e : Bearing) → So x.core.seen → So (borne x (fate_of e)).core.seen
      borne-so x by.Drops all = all
      borne-so x e all = all

  pub taken-seen : (read : ℕ) → So r.core.seen → So (taken w b read now r).recovery.core.seen
  taken-seen read all =
      kept-whole w b read now Before (λ v x. So x.core.seen) (λ v x. So x.core.seen) (keeps-so read)
      (record { fails = λ x c ob f h. h.1; finishes = λ x o rest lines is e h. h.1 }) r (by.Still, all)
