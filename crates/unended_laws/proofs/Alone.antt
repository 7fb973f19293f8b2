-- A takeover's master has no source from its reading on, until it is below the designated one.
use Rattle.std.proofs.Common.{◌≡◌, ℕ, ◌<◌, Bool, true, false, cond, List, [], ◌∷◌, refl, sym, ◌∙◌, ap, subst, Option, Some, None, ◌⊎◌, inl, inr, arith}
use Rattle.std.specs.List.{Contains}
use Rattle.unended_laws.proofs.Prelude.{After, All, All-head, Attached, Attempt, Bearing, BookState, CoversAt}
use Rattle.unended_laws.proofs.Prelude.{CoversSoFar, Decision, Decisions, Detached, Ending, Exchange, ExplainsTruly, Fact, Fine, Fits, Free-keeps}
use Rattle.unended_laws.proofs.Prelude.{HeldRecovery, HeldRings, IsAny, IsFit, IsFree, IsLeased, IsOnWay, IsStuck, IsToStand, Job, KeepsMoves}
use Rattle.unended_laws.proofs.Prelude.{LeasedRecovery, MayBear, MayDecide, MayEnd, Means, Moment, Observation, Op, OpensAlone, Placed, Position}
use Rattle.unended_laws.proofs.Prelude.{Purpose, ReadsNow, Recovery, Server, ServerNo, ShowsNow, SourceState, Speaks, SpeaksWith, Stage}
use Rattle.unended_laws.proofs.Prelude.{StandsAlone, Stays, Stays-keeps, Stays-same, UpSoFar, WasRead, Without, World, Yields, after}
use Rattle.unended_laws.proofs.Prelude.{altered_by, barred_by, begun_recovery, borne, by_deed, closed_at, closes, covered, decided_by, decides-fine}
use Rattle.unended_laws.proofs.Prelude.{decides-idle, decisions-keep, deed-still, deed_of, ended_by, ends, entered, false≢true, fate_of, fits-of}
use Rattle.unended_laws.proofs.Prelude.{fits-step, follows_no_more, ground_of, has_source, info, is_attached, is_going, is_outside}
use Rattle.unended_laws.proofs.Prelude.{is_takeover, kept-along, leaver, made-well, moved, moved-fits, no-tail, outside-stays}
use Rattle.unended_laws.proofs.Prelude.{position_of, read-now, run, same-head, same_Some, seen_of, server_of, source_cause, started}
use Rattle.unended_laws.proofs.Prelude.{stepped, stepped-fits, still-on, tail_of, taken, times, unleased-run, went-of}
use Rattle.unended_laws.proofs.Prelude.attempt
use Rattle.unended_laws.proofs.Prelude.by
use Rattle.unended_laws.proofs.Prelude.cause
use Rattle.unended_laws.proofs.Prelude.op
use Rattle.unended_laws.proofs.Prelude.purpose
use Rattle.unended_laws.proofs.Prelude.stage
use Rattle.unended_laws.proofs.Prelude.table
use Rattle.unended_laws.proofs.Prelude.task
use Rattle.unended_laws.proofs.Applying.{LastsGently, Spares, run-so}
use Rattle.unended_laws.proofs.LastReads.{shown-source}
use Rattle.unended_laws.proofs.Lasting.{old-leased}
use Rattle.unended_laws.proofs.RestTurns.{not-moves, shown-there}
use Rattle.unended_laws.proofs.Running.{master-not, not-promoted, old-waits, spared, unaltered}
use Rattle.unended_laws.proofs.Upkeeping.{Before, decides-before-up, stuck-only}

-- ---- servers

abbrev HasNone : Server → Type 0
HasNone s = s.source ≡ Without

none-gently : LastsGently HasNone
none-gently = record { starts = λ s h. starts-so s h; opens = λ s on h. h }
  where
    starts-so : (s : Server) → HasNone s → HasNone (started None s)
    starts-so s h = go (is_attached s.source)
      where
        go : (b : Bool) → HasNone (cond b (record s { receiver = true; applier = true; until = None }) s)
        go true = h
        go false = h

spared-free : (w : World) (es : List Exchange) (n : ℕ) → All (Spares n) es → IsFree w n → IsFree (run w es) n
spared-free w es n all h =
    let k = run-so HasNone none-gently w es n all (record { server = h.server; there = h.there; is = h.free }) in
    record { server = k.server; there = k.there; free = k.is }

stays-free : (w w' : World) (n : ℕ) → Stays w w' n → IsFree w n → IsFree w' n
stays-free w w' n st h = Free-keeps w w' n (Stays-keeps w w' n st) h

-- ---- what others do

pub outside-alone : (w : World) (e : Exchange) (r : Recovery) → is_outside e ≡ true → StandsAlone w r → StandsAlone (after w e) r
outside-alone w e r out h t s = stays-free w (after w e) r.failed.0 (outside-stays w e out r.failed.0) (h t s)

pub others-alone : (l : ℕ → Option ℕ) (id mine : ℕ) (w : World) (es : List Exchange) (r : Recovery) → All (λ e. IsLeased l id (server_of e)) es → (id ≡ mine → ⊥) → LeasedRecovery l mine r
    → StandsAlone w r → StandsAlone (run w es) r
others-alone l id mine w es r all apart leased h t s =
    let own = old-leased (IsLeased l mine) IsAny r.purpose r.failed r.chosen t leased.sources in
    stays-free w (run w es) r.failed.0 (Stays-same w (run w es) r.failed.0 (unleased-run l id w es r.failed.0 all (λ e. apart (same_Some id mine (sym e ∙ own))))) (h t s)

-- ---- stages

-- it isn't read yet, or is below the designated one
abbrev is_out : Stage → Bool
is_out (stage.Meet m d) = true
is_out (stage.Switched m d) = true
is_out (stage.Open n) = true
is_out (stage.Opened n) = true
is_out (stage.Close lines) = true
is_out s = false

-- then nothing is said of its source
out-not : (f : ServerNo) (s : Stage) → is_out s ≡ true → IsToStand f s → ⊥
out-not f s out (inl (m, d, at)) = false≢true (sym (ap is_out at) ∙ out)
out-not f (stage.Meet m d) out (inr (k, e)) = cc
out-not f (stage.Switched m d) out (inr (k, e)) = cc
out-not f (stage.Open n) out (inr (k, e)) = cc
out-not f (stage.Opened n) out (inr (k, e)) = cc
out-not f (stage.Close lines) out (inr (k, e)) = cc
out-not f s out (inr (k, e)) = false≢true out

-- the designated one takes its place, or has taken it
abbrev pub is_late : Stage → Bool
is_late (stage.Yield m d) = true
is_late (stage.Switch m d) = true
is_late (stage.Switched m d) = true
is_late (stage.Crown n) = true
is_late (stage.Open n) = true
is_late (stage.Opened n) = true
is_late (stage.Close lines) = true
is_late s = false

closes-late : (s : Stage) → closes s ≡ true → is_late s ≡ true
closes-late (stage.Crown n) h = refl
closes-late (stage.Open n) h = refl
closes-late (stage.Opened n) h = refl
closes-late (stage.Close lines) h = refl
closes-late s h = absurd (false≢true h)

pub yields-late : (s : Stage) → Yields s → is_late s ≡ true
yields-late s (inl (m, d, inl at)) = ap is_late at
yields-late s (inl (m, d, inr (inl at))) = ap is_late at
yields-late s (inl (m, d, inr (inr at))) = ap is_late at
yields-late s (inr h) = closes-late s h

moved-unmet : (s : Stage) (o : Op) (rest : List Op) (m d : ServerNo) → o ∷ rest ≡ tail_of s → moved s ≡ stage.Meet m d → ⊥
moved-unmet (stage.Meet k e) o rest m d t h = cc
moved-unmet (stage.Move n by) o rest m d t h = cc
moved-unmet s o rest m d t h = cc

pub begun-alone : (w : World) (u : Purpose) (by : Means) (id wait : ℕ) (f : ServerNo) (ns order : List ServerNo) → StandsAlone w (begun_recovery u by id wait f ns order)
begun-alone w (purpose.Takeover d) by id wait f ns order = λ t s. absurd (out-not f (stage.Meet f d) refl s)
begun-alone w purpose.Regroup by id wait f ns order = λ t s. absurd (false≢true t)
begun-alone w _ by id wait f ns order = λ t s. absurd (false≢true t)

-- ---- what is decided

module _ (w : World) (b : BookState) (now : Moment) where
  decides-alone : (x : Recovery) (d : Decision) → MayDecide (ground_of w b now) x d → CoversSoFar w x ⊎ IsStuck x → StandsAlone w x → StandsAlone w (decided_by (ground_of w b now) x d)
  decides-alone x d may (inl c) h = go d
    where
      free : is_takeover x.purpose ≡ true → IsFree w x.failed.0
      free t = h t (inr (x.failed, ap (closed_at x.failed) (c.rests (decides-idle w b now x d may))))

      go : (e : Decision) → StandsAlone w (decided_by (ground_of w b now) x e)
      go (by.Chooses p ts) = λ t s. free t
      go e = λ t s. free t
  decides-alone x d may (inr stuck) h = subst (λ (e : Decision). StandsAlone w (decided_by (ground_of w b now) x e)) (sym (stuck-only w b now x d may stuck)) h

-- ---- an operation

-- After an operation the master has no source while it is to have none. One that was read without a source has none.
record Alone (v : World) (z : Recovery) : Type 0 where
  so : StandsAlone v z
  met : (m d : ServerNo) → z.stage ≡ stage.Meet m d → z.core.ops ≡ [] → is_takeover z.purpose ≡ true → IsFree v z.failed.0

module _ (w : World) (read : ℕ) (now : Moment) (P : Fact → Bool) (x : Recovery) (o : Op) (rest : List Op) (is : x.core.ops ≡ o ∷ rest) (c : CoversAt w x x.stage) (fits : Fits x.stage (o ∷ rest))
    (speaks : SpeaksWith x) (way' : IsOnWay x) (up : UpSoFar P w x) (h : StandsAlone w x) (ob : Option Observation) (es : List Exchange) (j : Job)
    (goes-so : by_deed w read now x.core rest (deed_of o) ≡ attempt.Goes ob es j) (unbarred : barred_by x.stage x.failed j.seen ≡ None) where
  abbrev w' : World
  w' = run w es

  abbrev later : Recovery
  later = record x { core = j }

  -- an operation that is this one
  so-does : (y : Op) → o ≡ y → by_deed w read now x.core rest (deed_of y) ≡ attempt.Goes ob es j
  so-does y same = subst (λ (z : Op). by_deed w read now x.core rest (deed_of z) ≡ attempt.Goes ob es j) same goes-so

  -- ---- the stage goes on

  module _ (goes-on : ends x.stage (deed_of o) ≡ false) where
    keeps-source : (n : ℕ) → Stays w w' n
    keeps-source n = subst (λ (a : Attempt). After w a (λ v. Stays w v n)) goes-so (deed-still w x.core rest n read now (deed_of o) (not-moves (deed_of o) x.stage goes-on))

    -- it was read, and nothing that was seen ends the takeover
    read-free : (m d : ServerNo) → x.stage ≡ stage.Meet m d → IsFree w x.failed.0
    read-free m d at = go way'.course.stage.first
      where
        same : x.failed ≡ m
        same = (subst (λ (s : Stage). CoversAt w x s) at c).stage.failed

        without : (s : SourceState) → has_source s ≡ false → s ≡ Without
        without Without e = refl
        without (Attached k) e = absurd (false≢true (sym e))
        without (Detached k) e = absurd (false≢true (sym e))

        unsourced : (y : Position) → source_cause m (Some y) ≡ None → has_source y.source ≡ false
        unsourced y e = by-source (has_source y.source) e
          where
            by-source : (a : Bool) → cond a (Some (cause.Moved m y.source)) None ≡ None → a ≡ false
            by-source true g = cc
            by-source false g = refl

        shows : o ≡ op.Status x.failed None → ShowsNow w j.seen x.failed
        shows reads = subst (ReadsNow w x.failed) (so-does (op.Status x.failed None) reads) (read-now w read now x.core rest x.failed)

        seen-free : ShowsNow w j.seen x.failed → IsFree w x.failed.0
        seen-free y =
            let k = shown-there w x.failed y.0 y.1 in
            let bars : source_cause m (seen_of j.seen m.0) ≡ None = subst (λ (s : Stage). barred_by s x.failed j.seen ≡ None) at unbarred in
            let last : seen_of j.seen m.0 ≡ Some (position_of y.0) = ap (λ (i : ServerNo). seen_of j.seen i.0) (sym same) ∙ y.2 in
            record {
              server = k.0;
              there = k.1;
              free = sym (shown-source w x.failed.0 k.0 y.0 k.1 y.1) ∙ without y.0.source (unsourced (position_of y.0) (ap (source_cause m) (sym last) ∙ bars));
            }

        go : ((info x.stage).bar ≡ table.Never) ⊎ All (λ y. y ≡ op.Status x.failed None) x.core.ops → IsFree w x.failed.0
        go (inl e) = let bad : table.Sourced m ≡ table.Never = sym (ap (λ (s : Stage). (info s).bar) at) ∙ e in cc
        go (inr all) =
            seen-free (shows (All-head (λ (y : Op). y ≡ op.Status x.failed None) o rest (subst (λ (os : List Op). All (λ y. y ≡ op.Status x.failed None) os) is all)))

    same-alone : Alone w' later
    same-alone = record {
      so = λ t s. stays-free w w' x.failed.0 (keeps-source x.failed.0) (h t s);
      met = λ m d at none t. stays-free w w' x.failed.0 (keeps-source x.failed.0) (read-free m d at);
    }

  -- ---- the next stage begins

  -- while it is to give up its place no stage alters it
  waits-free : Contains x.queue task.Yielding → IsFree w x.failed.0 → IsFree w' x.failed.0
  waits-free has free = spared-free w es x.failed.0 (spared w read now P x o rest is c fits speaks up ob es j goes-so x.failed.0 (off (times x.failed.0 (altered_by x.stage)) (unaltered w x x.stage c x.failed.0 (old-waits x has)))) free
    where
      off : (k : ℕ) → k ≡ 0 → 0 < k → ⊥
      off k z g = omega (arith, z, g)

  -- the designated one loses its source, which isn't the master
  yields-free : (m d : ServerNo) → x.stage ≡ stage.Yield m d → o ≡ op.Reset d → is_takeover x.purpose ≡ true → IsFree w x.failed.0 → IsFree w' x.failed.0
  yields-free m d at same t free =
      let last = (subst (λ (s : Stage). CoversAt w x s) at c).stage.1 in
      spared-free w es x.failed.0
      (made-well (Spares x.failed.0) w x.core rest read now (deed_of (op.Reset d)) (inl (not-promoted w x x.stage c t d last.promoted)) ob es j (so-does (op.Reset d) same)) free

  module _ (t : o ∷ rest ≡ tail_of x.stage) where
    -- at a stage at which it has none, and of which something is left
    stands-on : (s : Stage) → x.stage ≡ s → (k : ServerNo) → closed_at x.failed s ≡ Some k → is_late s ≡ false → is_takeover x.purpose ≡ true → Contains x.queue task.Yielding ⊎ Yields x.stage → IsFree w' x.failed.0
    stands-on s at k e early takes (inl has) = waits-free has (h takes (inr (k, ap (closed_at x.failed) at ∙ e)))
    stands-on s at k e early takes (inr y) = absurd (false≢true (sym early ∙ (sym (ap is_late at) ∙ yields-late x.stage y)))

    tail-free : (s : Stage) → x.stage ≡ s → o ∷ rest ≡ tail_of s → is_takeover x.purpose ≡ true → IsToStand x.failed (moved s) → Contains x.queue task.Yielding ⊎ Yields x.stage → IsFree w' x.failed.0
    tail-free (stage.Drain n) at e takes new y = stands-on (stage.Drain n) at x.failed refl refl takes y
    tail-free (stage.Look n b) at e takes new y = stands-on (stage.Look n b) at x.failed refl refl takes y
    tail-free (stage.Trail n b) at e takes new y = stands-on (stage.Trail n b) at x.failed refl refl takes y
    tail-free (stage.Move n go) at e takes new y = stands-on (stage.Move n go) at x.failed refl refl takes y
    tail-free (stage.Expel n) at e takes new y = stands-on (stage.Expel n) at x.failed refl refl takes y
    tail-free (stage.Level p q) at e takes new y = stands-on (stage.Level p q) at x.failed refl refl takes y
    tail-free (stage.Swap p q) at e takes new y = stands-on (stage.Swap p q) at x.failed refl refl takes y
    tail-free (stage.Return p q) at e takes new y = stands-on (stage.Return p q) at x.failed refl refl takes y
    tail-free (stage.Shut m d) at e takes new (inl has) = waits-free has (h takes (inl (m, d, at)))
    tail-free (stage.Shut m d) at e takes new (inr y) = absurd (false≢true (sym (ap is_late at) ∙ yields-late x.stage y))
    tail-free (stage.Yield m d) at e takes new y =
        yields-free m d at (same-head o (op.Reset d) rest _ e) takes (h takes (inr (x.failed, ap (closed_at x.failed) at)))
    tail-free (stage.Switch m d) at e takes new y = absurd (out-not x.failed (stage.Switched m d) refl new)
    tail-free (stage.Open n) at e takes new y = absurd (out-not x.failed (stage.Opened n) refl new)
    tail-free (stage.Crown n) at e takes new y = absurd (master-not x.purpose (subst (λ (s : Stage). CoversAt w x s) at c).stage.0 takes)
    tail-free (stage.Close lines) at e takes new y = let bad : attempt.Ends lines ≡ attempt.Goes ob es j = so-does (op.Finish lines) (same-head o (op.Finish lines) rest [] e) in cc
    tail-free _ at e takes new y = cc

    abbrev next : Option ServerNo → Recovery
    next q = record (follows_no_more later q) { stage = moved x.stage }

    next-alone : (q : Option ServerNo) → Alone w' (next q)
    next-alone None = record {
      so = λ takes new. tail-free x.stage refl t takes new (way'.course.tasks.yields takes);
      met = λ m d at. absurd (moved-unmet x.stage o rest m d t at);
    }
    next-alone (Some k) = record {
      so = λ takes new. tail-free x.stage refl t takes new (way'.course.tasks.yields takes);
      met = λ m d at. absurd (moved-unmet x.stage o rest m d t at);
    }

  stepped-alone : Alone w' (stepped later o)
  stepped-alone = go (fits-step x.stage o rest fits)
    where
      go : ((ends x.stage (deed_of o) ≡ false) × Fits x.stage rest) ⊎ (o ∷ rest ≡ tail_of x.stage) → Alone w' (stepped later o)
      go (inl p) = subst (λ (b : Bool). Alone w' (cond b (entered later (moved x.stage)) later)) (sym p.0) (same-alone p.0)
      go (inr t) = subst (λ (b : Bool). Alone w' (cond b (entered later (moved x.stage)) later)) (sym (moved-fits x.stage o rest t).0) (next-alone t (leaver (moved x.stage)))

-- ---- the end of a stage

-- one that ends by itself, and of which nothing is left
rests-stand : (f : ServerNo) (s : Stage) → by.rests s ≡ true → Fits s [] → (m : ServerNo) × (closed_at f s ≡ Some m)
rests-stand f (stage.Meet m d) h fits = absurd (false≢true h)
rests-stand f (stage.Switched m d) h fits = absurd (false≢true h)
rests-stand f (stage.Opened n) h fits = absurd (false≢true h)
rests-stand f (stage.Shut m d) h fits = absurd (no-tail fits.front _ _ fits.is)
rests-stand f (stage.Open n) h fits = absurd (no-tail fits.front _ _ fits.is)
rests-stand f (stage.Close lines) h fits = absurd (no-tail fits.front _ _ fits.is)
rests-stand f (stage.Switch m d) h fits = (m, refl)
rests-stand f s h fits = (f, refl)

module _ (v : World) (z : Recovery) (none : z.core.ops ≡ []) (fits : Fits z.stage []) (l : Alone v z) where
  stood : (s : Stage) (k : ServerNo) → z.stage ≡ s → closed_at z.failed s ≡ Some k → is_takeover z.purpose ≡ true → IsFree v z.failed.0
  stood s k at e t = l.so t (inr (k, ap (closed_at z.failed) at ∙ e))

  completes-alone : (e : Ending) → MayEnd z e → StandsAlone v (ended_by z e)
  completes-alone by.Rests may = λ t s. let k = rests-stand z.failed z.stage may fits in stood z.stage k.0 refl k.1 t
  completes-alone (by.Stays n p) may = λ t s. stood (stage.Judged n) z.failed may.0 refl t
  completes-alone (by.Loses n why) may = λ t s. go may.0 t
    where
      go : WasRead z.stage n → is_takeover z.purpose ≡ true → IsFree v z.failed.0
      go (inl at) t = stood (stage.Judged n) z.failed at refl t
      go (inr at) t = stood (stage.Looked n at.0) z.failed at.1 refl t
  completes-alone (by.Frees n why) may = λ t s. stood (stage.Halted n may.0) z.failed may.1 refl t
  completes-alone (by.Follows n p) may = λ t s. go may t
    where
      go : (z.stage ≡ stage.Join n p) ⊎ (z.stage ≡ stage.Resume p n) → is_takeover z.purpose ≡ true → IsFree v z.failed.0
      go (inl at) t = stood (stage.Join n p) z.failed at refl t
      go (inr at) t = stood (stage.Resume p n) z.failed at refl t
  completes-alone (by.Marks n) may = λ t s. stood (stage.Expelled n) z.failed may refl t
  completes-alone (by.Leads d) may = λ t s. stood (stage.Gather may.0 d) z.failed may.1 refl t
  completes-alone (by.Trails n b) may = λ t s. stood (stage.Looked n b) z.failed may.0 refl t
  completes-alone (by.Joins n b) may = λ t s. stood (stage.Halted n b) z.failed may.0 refl t
  completes-alone (by.Swaps p q) may = λ t s. absurd (out-not z.failed (stage.Open q) refl s)
  completes-alone (by.Switches m d) may = λ t s. absurd (out-not z.failed (stage.Open d) refl s)
  completes-alone (by.Shuts m d) may = λ t s. l.met m d may none t
  completes-alone (by.Ends n) may = λ t s. absurd (out-not z.failed (ended_by z (by.Ends n)).stage refl s)

-- ---- a failing operation

module _ (w : World) (x : Recovery) (h : StandsAlone w x) where
  bore : (s : Stage) → x.stage ≡ s → closed_at x.failed s ≡ Some x.failed → is_takeover x.purpose ≡ true → IsFree w x.failed.0
  bore s at e t = h t (inr (x.failed, ap (closed_at x.failed) at ∙ e))

  borne-alone : (e : Bearing) → MayBear x.stage e → StandsAlone w (borne x (fate_of e))
  borne-alone by.Drops (inl at) = λ t s. bore stage.Check at refl t
  borne-alone by.Drops (inr (n, inl at)) = λ t s. bore (stage.Expel n) at refl t
  borne-alone by.Drops (inr (n, inr at)) = λ t s. bore (stage.Release n) at refl t
  borne-alone (by.Misses n y) (inl at) = λ t s. bore (stage.Drain n) at refl t
  borne-alone (by.Misses n y) (inr (inl (go, at))) = λ t s. bore (stage.Move n go) at refl t
  borne-alone (by.Misses n y) (inr (inr (p, at))) = λ t s. bore (stage.Join n p) at refl t
  borne-alone (by.Lets n y) (inl (go, at, more)) = λ t s. bore (stage.Move n go) at refl t
  borne-alone (by.Lets n y) (inr (k, inl at)) = λ t s. bore (stage.Look n k) at refl t
  borne-alone (by.Lets n y) (inr (k, inr at)) = λ t s. bore (stage.Trail n k) at refl t
  borne-alone (by.Restarts p q) at = λ t s. bore (stage.Level p q) at refl t
  borne-alone (by.Returns p q) at = λ t s. bore (stage.Swap p q) at refl t

-- ---- a turn

-- whom it has closed is its master
closed-old : (f : ServerNo) (s : Stage) (m : ServerNo) → ((k d : ServerNo) → s ≡ stage.Switch k d → f ≡ k) → closed_at f s ≡ Some m → f ≡ m
closed-old f (stage.Switch k d) m switches e = switches k d refl ∙ same_Some k m e
closed-old f (stage.Meet k d) m switches e = cc
closed-old f (stage.Shut k d) m switches e = cc
closed-old f (stage.Switched k d) m switches e = cc
closed-old f (stage.Open n) m switches e = cc
closed-old f (stage.Opened n) m switches e = cc
closed-old f (stage.Close lines) m switches e = cc
closed-old f s m switches e = same_Some f m e

module _ (w : World) (b : BookState) (now : Moment) (r : Recovery) (P : Fact → Bool) (why : ExplainsTruly w b now r P) (read : ℕ) (placed : Placed w) (rings : HeldRings w b.rings) where
  abbrev Sofar : Recovery → Type 0
  Sofar x = Before w b now r P why read placed rings x × (Fine x × StandsAlone w x)

  decides-on : (x : Recovery) (d : Decision) → MayDecide (ground_of w b now) x d → Sofar x → Sofar (decided_by (ground_of w b now) x d)
  decides-on x d may h = (
    decides-before-up w b now r P why read placed rings x d may h.0,
    (decides-fine w b now x d may h.1.0, decides-alone w b now x d may h.0.0.1 h.1.1),
  )

  keeps-alone : KeepsMoves w b read now Sofar (λ v z. IsFit z × Alone v z) (λ v z. StandsAlone v z)
  keeps-alone = record {
    decides = decides-on;
    waits = λ x o rest ob es j did e h.
        let left = (went-of w read now x o rest ob es j did).waits e in
        subst (λ (xs : List Exchange). StandsAlone (run w xs) (record x { core = j })) (sym left.1) h.1.1;
    acts = λ x o rest ob es j did e h.
        let fits = fits-of w x o rest did.ops h.0.0.0 in
        let left = (went-of w read now x o rest ob es j did).done e in (
          stepped-fits x o rest j fits left,
          stepped-alone w read now P x o rest did.ops (covered w b read now placed rings x o rest did.ops h.0.0.1).at fits h.0.1.0 (still-on x o rest did.ops h.1.0) h.0.1.1.1 h.1.1 ob es j did.goes did.free,
        );
    continues = λ v z y ys is m. m.1.so;
    completes = λ v z e none may m. completes-alone v z none (subst (λ (os : List Op). Fits z.stage os) none m.0) m.1 e may;
    bears = λ x o rest c ob e stops is may h. borne-alone w x h.1.1 e may;
  }

  module _ (held : HeldRecovery w r) (c : CoversSoFar w r) (speaks : Speaks r) (up : UpSoFar P w r) (h : StandsAlone w r) where
    first : Sofar r
    first = (((held, inl c), (speaks.says, (by.Still, up))), (inl speaks.way, h))

    pub taken-alone : is_going (taken w b read now r).step ≡ true → StandsAlone (run w (taken w b read now r).exchanges) (taken w b read now r).recovery
    taken-alone = kept-along w b read now Sofar (λ v z. IsFit z × Alone v z) (λ v z. StandsAlone v z) keeps-alone r first

    -- if it is closed as the recovery is decided, it has no source
    pub opens-alone : (d : Recovery) → Decisions (ground_of w b now) r d → OpensAlone w d
    opens-alone d ds = λ m t e.
        let so = decisions-keep w b now Sofar decides-on ds first in
        subst (λ (i : ServerNo). IsFree w i.0) (closed-old d.failed d.stage m (switches so.0.0) e) (so.1.1 t (inr (m, e)))
      where
        switches : HeldRecovery w d × (CoversSoFar w d ⊎ IsStuck d) → (k q : ServerNo) → d.stage ≡ stage.Switch k q → d.failed ≡ k
        switches (has, inl covers) k q at = (subst (λ (s : Stage). CoversAt w d s) at covers.at).stage.0.failed
        switches (has, inr stuck) k q at =
            let f = subst (λ (os : List Op). Fits (stage.Switch k q) os) stuck.ops (subst (λ (s : Stage). Fits s d.core.ops) at has.fits) in
            absurd (no-tail f.front _ _ f.is)
