-- A turn of a recovery keeps up its followers, and a closed master.
use Rattle.std.proofs.Common.{◌≡◌, ℕ, ◌+◌, ◌<◌, Bool, true, false, List, [], ◌∷◌, ◌++◌, refl, sym, ◌∙◌, ap, subst, Option, Some, None, ◌⊎◌, inl, inr, Ok, Err, Result, arith}
use Rattle.unended_laws.proofs.Prelude.{All, All-cons, All-head, All-nil, All-push, All-weaker, Attempt, Bearing, BookState, Bridge, Cause}
use Rattle.unended_laws.proofs.Prelude.{ClosesFirst, CoversAt, CoversSoFar, Decision, Decisions, Does, Ending, Exchange, ExplainsTruly, Fact, Fine}
use Rattle.unended_laws.proofs.Prelude.{Fits, Follower, GivesUp, GoesOn, HeldRecovery, HeldRings, IsFit, IsGivenUp, IsInWork, IsKeptUp, IsNext}
use Rattle.unended_laws.proofs.Prelude.{IsOnWay, IsOpenYet, IsPassed, IsShut, IsStuck, Job, JobStep, KeepsMoves, KeepsUp, Line, Makes, MayBear}
use Rattle.unended_laws.proofs.Prelude.{MayDecide, MayEnd, Moment, Observation, OldWasRead, Op, Passes, Placed, Purpose, ReadsLast, Recovery}
use Rattle.unended_laws.proofs.Prelude.{Request, RunsOn, SawFree, ServerNo, Speaks, SpeaksWith, Stage, StopsUnreached, Taken, Task, Turning}
use Rattle.unended_laws.proofs.Prelude.{Unreachable, UpSoFar, WasRead, Way, Why, World, after_ask, asked-unreached, before, borne, by_deed, covered}
use Rattle.unended_laws.proofs.Prelude.{crowns, decided_by, decides-before, decides-fine, decides-idle, decides-speaks, decisions-keep, deed_of}
use Rattle.unended_laws.proofs.Prelude.{desk_answer, drain, ended, ended_by, ends, false≢true, fate_of, fits-of, gather, ground_of, info, is_going}
use Rattle.unended_laws.proofs.Prelude.{is_intermediate, is_takeover, joined, kept-along, last_looks, level, made-well, move, no-tail, run}
use Rattle.unended_laws.proofs.Prelude.{result_lines, same-head, same_Some, self-times, server_at, stepped-fits, still-on, taken, taken-walks, times, trail}
use Rattle.unended_laws.proofs.Prelude.{turn-done, went-of}
use Rattle.unended_laws.proofs.Prelude.asking
use Rattle.unended_laws.proofs.Prelude.attempt
use Rattle.unended_laws.proofs.Prelude.by
use Rattle.unended_laws.proofs.Prelude.cross
use Rattle.unended_laws.proofs.Prelude.next
use Rattle.unended_laws.proofs.Prelude.op
use Rattle.unended_laws.proofs.Prelude.purpose
use Rattle.unended_laws.proofs.Prelude.stage
use Rattle.unended_laws.proofs.Prelude.step
use Rattle.unended_laws.proofs.Prelude.table
use Rattle.unended_laws.proofs.Prelude.way
use Rattle.unended_laws.proofs.LastReads.{look-ends, no-cycle, reads-on}
use Rattle.unended_laws.proofs.Running.{Altered, Steps, each, gather-alters, not-promoted, stepped-up}

-- ---- operations of stages

-- a server is in a list of itself, and of itself and another
here : (n : ServerNo) → 0 < times n.0 (n ∷ [])
here n = self-times n []

second : (m n : ServerNo) → 0 < times n.0 (m ∷ n ∷ [])
second m n = let h = self-times n [] in omega (arith, h)

drain-alters : (n : ServerNo) → All (Altered (stage.Drain n)) (drain n)
drain-alters n = each (stage.Drain n) (drain n) (inr (here n), (tt, (inr (here n), (tt, tt))))

move-alters : (n : ServerNo) (by' : Way) → All (Altered (stage.Move n by')) (before by' n ++ move by' n ∷ op.Start n ∷ [])
move-alters n (way.Match to exec every) =
    each (stage.Move n (way.Match to exec every)) (op.Match n to every ∷ op.CrossMatch n to ∷ op.Start n ∷ []) (tt, (here n, (inl tt, tt)))
move-alters n x = each (stage.Move n x) (move x n ∷ op.Start n ∷ []) (here n, (inl tt, tt))

trail-alters : (n : ServerNo) (x : Bridge) → All (Altered (stage.Trail n x)) (trail n x.no)
trail-alters n x = each (stage.Trail n x) (trail n x.no) (here n, (tt, (inr (here n), (tt, tt))))

level-alters : (p q : ServerNo) → All (Altered (stage.Level p q)) (level p q)
level-alters p q =
    each (stage.Level p q) (level p q) (tt, (tt, (second p q, (tt, (inr (second p q), (tt, (inr (second p q), (self-times p (q ∷ []), tt))))))))

last-alters : (r : Recovery) (u : Purpose) (n : ServerNo) (lines : List Line) → All (Altered (stage.Close lines)) (last_looks r u n ++ op.Finish lines ∷ [])
last-alters r (purpose.Takeover d) n lines = each (stage.Close lines) (op.Status r.failed None ∷ op.Status n None ∷ op.Finish lines ∷ []) (tt, (tt, (tt, tt)))
last-alters r purpose.Regroup n lines = each (stage.Close lines) (op.Status n None ∷ op.Finish lines ∷ []) (tt, (tt, tt))
last-alters r _ n lines = each (stage.Close lines) (op.Status n None ∷ op.Finish lines ∷ []) (tt, (tt, tt))

no-levels : (s : Stage) → Fits s [] → (p n : ServerNo) → s ≡ stage.Level p n → ⊥
no-levels s f p n at = let g = subst (λ (k : Stage). Fits k []) at f in no-tail g.front _ _ g.is

no-shutting : (s : Stage) → Fits s [] → (m d : ServerNo) → s ≡ stage.Shut m d → ⊥
no-shutting s f m d at = let g = subst (λ (k : Stage). Fits k []) at f in no-tail g.front _ _ g.is

-- what a recovery has that keeps up its followers as another does
module _ (P : Fact → Bool) (v : World) (x y : Recovery) (aim : y.purpose ≡ x.purpose) (failed : y.failed ≡ x.failed) where
  runs-as : (n : ServerNo) → RunsOn P v x n → RunsOn P v y n
  runs-as n (inl h) = inl h
  runs-as n (inr (inl h)) = inr (inl (ap is_takeover aim ∙ h.0, h.1 ∙ sym failed))
  runs-as n (inr (inr h)) = inr (inr h)

  all-as : (xs : List Follower) → All (λ z. RunsOn P v x z.no) xs → All (λ z. IsKeptUp P v y z.no) xs
  all-as xs all = All-weaker (λ (z : Follower). RunsOn P v x z.no) (λ (z : Follower). IsKeptUp P v y z.no) (λ z h. inl (runs-as z.no h)) xs all

  shut-as : IsShut v x.failed.0 → IsShut v y.failed.0
  shut-as h = subst (λ (i : ServerNo). IsShut v i.0) (sym failed) h

  takes-as : is_takeover y.purpose ≡ true → is_takeover x.purpose ≡ true
  takes-as h = sym (ap is_takeover aim) ∙ h

-- ---- what is decided

module _ (w : World) (b : BookState) (now : Moment) where
  no-task : (x : Recovery) (t : Task) (ts : List Task) → IsStuck x → IsNext x t ts → ⊥
  no-task x t ts s next = let bad : [] ≡ t ∷ ts = sym s.queue ∙ next.queue in cc

  -- one that is stuck looks for no better one
  pub stuck-only : (x : Recovery) (d : Decision) → MayDecide (ground_of w b now) x d → IsStuck x → d ≡ by.Remains
  stuck-only x by.Remains may s = refl
  stuck-only x (by.Levels p q) may s = let bad : None ≡ Some p = sym s.chosen ∙ may.2 in cc
  stuck-only x (by.Crowns p) may s = let bad : None ≡ Some p = sym s.chosen ∙ may.2 in cc
  stuck-only x (by.Rejoins p) may s = let bad : None ≡ Some p = sym s.chosen ∙ may.1 in cc
  stuck-only x by.Closes may s = absurd (false≢true (sym s.apart ∙ ap is_intermediate may.1.purpose))
  stuck-only x (by.Reads n ts) may s = absurd (no-task x _ _ s may)
  stuck-only x (by.Drains n ts) may s = absurd (no-task x _ _ s may)
  stuck-only x (by.Sends n go ts) may s = absurd (no-task x _ _ s may)
  stuck-only x (by.Expels n ts) may s = absurd (no-task x _ _ s may)
  stuck-only x (by.Releases n ts) may s = absurd (no-task x _ _ s may)
  stuck-only x (by.Sorts ts) may s = absurd (no-task x _ _ s may)
  stuck-only x (by.Hands d ds go ts) may s = absurd (no-task x _ _ s may.next)
  stuck-only x (by.Leaves d ds ts) may s = absurd (no-task x _ _ s may.next)
  stuck-only x d may s = absurd (no-task x _ _ s may.0)

module _ (w : World) (b : BookState) (now : Moment) (r : Recovery) (P : Fact → Bool) where
  module _ (x : Recovery) (none : x.core.ops ≡ []) (way' : x.stage ≡ stage.Idle) (up : UpSoFar P w x) where
    runs-now : All (λ z. RunsOn P w x z.no) x.outcome.followers
    runs-now = All-weaker (λ (z : Follower). IsKeptUp P w x z.no) (λ (z : Follower). RunsOn P w x z.no) (λ z h. go z h) x.outcome.followers up.followers
      where
        go : (z : Follower) → IsKeptUp P w x z.no → RunsOn P w x z.no
        go z (inl h) = h
        go z (inr (inl at)) = let bad : stage.Idle ≡ stage.Level at.0 z.no = sym way' ∙ at.1 in cc
        go z (inr (inr (inl at))) = let bad : stage.Idle ≡ stage.Release z.no = sym way' ∙ at.2 in cc
        go z (inr (inr (inr at))) = let bad : stage.Idle ≡ stage.Open at.0 = sym way' ∙ at.1 in cc

    closed-now : is_takeover x.purpose ≡ true → IsShut w x.failed.0
    closed-now t = go (up.shut t)
      where
        go : IsOpenYet x.stage ⊎ IsShut w x.failed.0 → IsShut w x.failed.0
        go (inl (m, d, inl at)) = let bad : stage.Idle ≡ stage.Meet m d = sym way' ∙ at in cc
        go (inl (m, d, inr at)) = let bad : stage.Idle ≡ stage.Shut m d = sym way' ∙ at in cc
        go (inr h) = h

    -- a stage begins, or nothing is to be done yet
    begins : (y : Recovery) → y.purpose ≡ x.purpose → y.failed ≡ x.failed → y.outcome.followers ≡ x.outcome.followers → All (Altered y.stage) y.core.ops
        → ((p : ServerNo) (lines : List Line) → y.purpose ≡ purpose.Regroup → y.stage ≡ stage.Close lines → y.chosen ≡ Some p → y.core.ops ≡ op.Start p ∷ op.Finish lines ∷ [])
        → ((m d : ServerNo) → y.stage ≡ stage.Shut m d → ⊥) → ((lines : List Line) → y.stage ≡ stage.Close lines → crowns y.purpose ≡ true → ⊥) → UpSoFar P w y
    begins y aim failed same alters rejoins unopened uncrowned = record {
      alters = alters;
      followers = subst (λ (xs : List Follower). All (λ z. IsKeptUp P w y z.no) xs) (sym same) (all-as P w x y aim failed x.outcome.followers runs-now);
      rejoins = λ p lines regroup at chosen. inl (rejoins p lines regroup at chosen);
      first = λ m d at. absurd (unopened m d at);
      shut = λ t. inr (shut-as P w x y aim failed (closed-now (takes-as P w x y aim failed t)));
      reads = λ n lines crowned at promoted. absurd (uncrowned lines at crowned);
    }

    rests : (y : Recovery) → y.purpose ≡ x.purpose → y.failed ≡ x.failed → y.outcome.followers ≡ x.outcome.followers → y.stage ≡ x.stage → y.core.ops ≡ x.core.ops → UpSoFar P w y
    rests y aim failed same at ops =
        begins y aim failed same (subst (λ (os : List Op). All (Altered y.stage) os) (sym (ops ∙ none)) (All-nil (Altered y.stage)))
        (λ p lines regroup e chosen. let bad : stage.Idle ≡ stage.Close lines = sym way' ∙ (sym at ∙ e) in cc)
        (λ m d e. let bad : stage.Idle ≡ stage.Shut m d = sym way' ∙ (sym at ∙ e) in cc)
        (λ lines e crowned. let bad : stage.Idle ≡ stage.Close lines = sym way' ∙ (sym at ∙ e) in cc)

    decided-up : (d : Decision) → MayDecide (ground_of w b now) x d → UpSoFar P w (decided_by (ground_of w b now) x d)
    decided-up (by.Reads n ts) may = begins _ refl refl refl (each (stage.Read n) (op.Status n None ∷ []) (tt, tt)) (λ p lines regroup at chosen. cc) (λ m d at. cc) (λ lines at crowned. cc)
    decided-up (by.Drains n ts) may = begins _ refl refl refl (drain-alters n) (λ p lines regroup at chosen. cc) (λ m d at. cc) (λ lines at crowned. cc)
    decided-up (by.Sends n go ts) may = begins _ refl refl refl (move-alters n go) (λ p lines regroup at chosen. cc) (λ m d at. cc) (λ lines at crowned. cc)
    decided-up (by.Hands d ds go ts) may = begins _ refl refl refl (move-alters d.no go) (λ p lines regroup at chosen. cc) (λ m k at. cc) (λ lines at crowned. cc)
    decided-up (by.Expels n ts) may = begins _ refl refl refl (each (stage.Expel n) (op.Detach n ∷ []) (inr (here n), tt)) (λ p lines regroup at chosen. cc) (λ m d at. cc) (λ lines at crowned. cc)
    decided-up (by.Releases n ts) may = begins _ refl refl refl (each (stage.Release n) (op.Start n ∷ []) (inl tt, tt)) (λ p lines regroup at chosen. cc) (λ m d at. cc) (λ lines at crowned. cc)
    decided-up (by.Looks n y ts) may = begins _ refl refl refl (each (stage.Look n y) (op.Status n None ∷ []) (tt, tt)) (λ p lines regroup at chosen. cc) (λ m d at. cc) (λ lines at crowned. cc)
    decided-up (by.Yields y ts) may =
        begins _ refl refl refl
        (each (stage.Yield x.failed y.no) (op.Reset y.no ∷ op.Cross cross.About x.failed y.no ∷ []) (inr (second x.failed y.no), (self-times x.failed (y.no ∷ []), tt)))
        (λ p lines regroup at chosen. cc) (λ m d at. cc) (λ lines at crowned. cc)
    decided-up (by.Levels p q) may = begins _ refl refl refl (level-alters p q) (λ k lines regroup at chosen. cc) (λ m d at. cc) (λ lines at crowned. cc)
    decided-up (by.Crowns p) may =
        begins _ refl refl refl (each (stage.Crown p) (op.Reset p ∷ op.ReadOnly p false ∷ []) (inr (here p), (inl tt, tt))) (λ k lines regroup at chosen. cc) (λ m d at. cc) (λ lines at crowned. cc)
    decided-up (by.Rejoins p) may =
        begins _ refl refl refl (each (stage.Close (result_lines x)) (op.Start p ∷ op.Finish (result_lines x) ∷ []) (inl tt, (tt, tt)))
        (λ k lines regroup at chosen.
        ap (λ (i : ServerNo). op.Start i ∷ op.Finish (result_lines x) ∷ []) (same_Some p k (sym may.1 ∙ chosen)) ∙ ap (λ (ls : List Line). op.Start k ∷ op.Finish ls ∷ []) (ap lines_in at))
        (λ m d at. cc) (λ lines at crowned. false≢true (sym (ap crowns may.0.purpose) ∙ crowned))
      where
        lines_in : Stage → List Line
        lines_in (stage.Close ls) = ls
        lines_in _ = []
    decided-up by.Closes may =
        begins _ refl refl refl (each (stage.Close (result_lines x)) (op.Finish (result_lines x) ∷ []) (tt, tt))
        (λ k lines regroup at chosen. let bad : purpose.Intermediate may.0 ≡ purpose.Regroup = sym may.1.purpose ∙ regroup in cc) (λ m d at. cc) (λ lines at crowned. false≢true (sym (ap crowns may.1.purpose) ∙ crowned))
    decided-up (by.Chooses p ts) may = rests _ refl refl refl refl refl
    decided-up (by.ChoosesNobody ts) may = rests _ refl refl refl refl refl
    decided-up (by.Sticks t ts) may = rests _ refl refl refl refl refl
    decided-up (by.Leaves d ds ts) may = rests _ refl refl refl refl refl
    decided-up (by.HandedOver ts) may = rests _ refl refl refl refl refl
    decided-up (by.Passes ts) may = rests _ refl refl refl refl refl
    decided-up (by.Sorts ts) may = rests _ refl refl refl refl refl
    decided-up by.Remains may = rests _ refl refl refl refl refl

  stuck-up : (x : Recovery) (d : Decision) → MayDecide (ground_of w b now) x d → IsStuck x → UpSoFar P w x → UpSoFar P w (decided_by (ground_of w b now) x d)
  stuck-up x d may s up =
      subst (λ (e : Decision). UpSoFar P w (decided_by (ground_of w b now) x e)) (sym (stuck-only w b now x d may s))
      (record { alters = up.alters; followers = up.followers; rejoins = up.rejoins; first = up.first; shut = up.shut; reads = up.reads })

  decides-up : (x : Recovery) (d : Decision) → MayDecide (ground_of w b now) x d → CoversSoFar w x ⊎ IsStuck x → UpSoFar P w x → UpSoFar P w (decided_by (ground_of w b now) x d)
  decides-up x d may (inl c) up = let none = decides-idle w b now x d may in decided-up x none (c.rests none) up d may
  decides-up x d may (inr s) up = stuck-up x d may s up

  -- ---- the end of a stage

  module _ (v : World) (z : Recovery) (none : z.core.ops ≡ []) (fits : Fits z.stage []) (st : Steps P v z) where
    runs-then : All (λ y. RunsOn P v z y.no) z.outcome.followers
    runs-then = All-weaker (λ (y : Follower). RunsOn P v z y.no ⊎ ((p : ServerNo) × (z.stage ≡ stage.Level p y.no))) (λ (y : Follower). RunsOn P v z y.no) (λ y h. go y h) z.outcome.followers st.followers
      where
        go : (y : Follower) → RunsOn P v z y.no ⊎ ((p : ServerNo) × (z.stage ≡ stage.Level p y.no)) → RunsOn P v z y.no
        go y (inl h) = h
        go y (inr at) = absurd (no-levels z.stage fits at.0 y.no at.1)

    -- unless the master is still to be closed
    shut-then : ((m d : ServerNo) → z.stage ≡ stage.Meet m d → ⊥) → is_takeover z.purpose ≡ true → IsShut v z.failed.0
    shut-then met t = go (st.shut t)
      where
        go : IsOpenYet z.stage ⊎ IsShut v z.failed.0 → IsShut v z.failed.0
        go (inl (m, d, inl at)) = absurd (met m d at)
        go (inl (m, d, inr at)) = absurd (no-shutting z.stage fits m d at)
        go (inr h) = h

    -- with these followers
    ended-so : (y : Recovery) → y.purpose ≡ z.purpose → y.failed ≡ z.failed → All (Altered y.stage) y.core.ops → All (λ k. IsKeptUp P v y k.no) y.outcome.followers
        → ((p : ServerNo) (lines : List Line) → y.purpose ≡ purpose.Regroup → y.stage ≡ stage.Close lines → ⊥) → ((m d : ServerNo) → y.stage ≡ stage.Shut m d → ⊥)
        → ((m d : ServerNo) → z.stage ≡ stage.Meet m d → ⊥)
        → ((n : ServerNo) (lines : List Line) → crowns y.purpose ≡ true → y.stage ≡ stage.Close lines → y.outcome.promoted ≡ Some n → ReadsLast y n lines) → UpSoFar P v y
    ended-so y aim failed alters all unclosed unopened met reads = record {
      alters = alters;
      followers = all;
      rejoins = λ p lines regroup at chosen. absurd (unclosed p lines regroup at);
      first = λ m d at. absurd (unopened m d at);
      shut = λ t. inr (shut-as P v z y aim failed (shut-then met (takes-as P v z y aim failed t)));
      reads = reads;
    }

    same-follow : (y : Recovery) → y.purpose ≡ z.purpose → y.failed ≡ z.failed → y.outcome.followers ≡ z.outcome.followers → All (λ k. IsKeptUp P v y k.no) y.outcome.followers
    same-follow y aim failed same = subst (λ (xs : List Follower). All (λ k. IsKeptUp P v y k.no) xs) (sym same) (all-as P v z y aim failed z.outcome.followers runs-then)

    one-more : (y : Recovery) (k : Follower) → y.purpose ≡ z.purpose → y.failed ≡ z.failed → y.outcome.followers ≡ z.outcome.followers ++ k ∷ [] → IsKeptUp P v y k.no
        → All (λ i. IsKeptUp P v y i.no) y.outcome.followers
    one-more y k aim failed same new =
        subst (λ (xs : List Follower). All (λ i. IsKeptUp P v y i.no) xs) (sym same)
        (All-push (λ (i : Follower). IsKeptUp P v y i.no) z.outcome.followers k (all-as P v z y aim failed z.outcome.followers runs-then) new)

    idle-so : (y : Recovery) → y.purpose ≡ z.purpose → y.failed ≡ z.failed → y.stage ≡ stage.Idle → y.core.ops ≡ z.core.ops → All (λ k. IsKeptUp P v y k.no) y.outcome.followers
        → ((m d : ServerNo) → z.stage ≡ stage.Meet m d → ⊥) → UpSoFar P v y
    idle-so y aim failed at ops all met =
        ended-so y aim failed (subst (λ (os : List Op). All (Altered y.stage) os) (sym (ops ∙ none)) (All-nil (Altered y.stage))) all
        (λ p lines regroup e. let bad : stage.Idle ≡ stage.Close lines = sym at ∙ e in cc) (λ m d e. let bad : stage.Idle ≡ stage.Shut m d = sym at ∙ e in cc) met
        (λ n lines crowned e is. let bad : stage.Idle ≡ stage.Close lines = sym at ∙ e in cc)

    -- the last readings are to come
    ends-reads : (n : ServerNo) → (crowns z.purpose ≡ true) × (z.outcome.promoted ≡ Some n) → (k : ServerNo) (lines : List Line) → stage.Close (result_lines z) ≡ stage.Close lines → z.outcome.promoted ≡ Some k
        → ReadsLast (ended_by z (by.Ends n)) k lines
    ends-reads n led k lines at promoted = go z.purpose refl led.0
      where
        same : n ≡ k
        same = same_Some n k (sym led.1 ∙ promoted)

        lines_in : Stage → List Line
        lines_in (stage.Close ls) = ls
        lines_in _ = []

        these : result_lines z ≡ lines
        these = ap lines_in at

        go : (u : Purpose) → z.purpose ≡ u → crowns u ≡ true → ReadsLast (ended_by z (by.Ends n)) k lines
        go (purpose.Takeover d) aim h =
            inl (ap (λ (u : Purpose). last_looks z u n ++ op.Finish (result_lines z) ∷ []) aim
            ∙ (ap (λ (i : ServerNo). op.Status z.failed None ∷ op.Status i None ∷ op.Finish (result_lines z) ∷ []) same ∙ ap (λ (ls : List Line). op.Status z.failed None ∷ op.Status k None ∷ op.Finish ls ∷ []) these))
        go purpose.Master aim h =
            inr (inl (
              ap (λ (u : Purpose). last_looks z u n ++ op.Finish (result_lines z) ∷ []) aim
                  ∙ (ap (λ (i : ServerNo). op.Status i None ∷ op.Finish (result_lines z) ∷ []) same ∙ ap (λ (ls : List Line). op.Status k None ∷ op.Finish ls ∷ []) these),
              λ d takes. let bad : purpose.Master ≡ purpose.Takeover d = sym aim ∙ takes in cc,
            ))
        go purpose.Regroup aim h = absurd (false≢true h)
        go (purpose.Intermediate i) aim h = absurd (false≢true h)

    completes-up : (e : Ending) → MayEnd z e → UpSoFar P v (ended_by z e)
    completes-up by.Rests may =
        idle-so (ended_by z by.Rests) refl refl refl refl (same-follow (ended_by z by.Rests) refl refl refl) (λ m d at. false≢true (sym (ap by.rests at) ∙ may))
    completes-up (by.Stays n s) may =
        idle-so _ refl refl refl refl (same-follow (ended_by z (by.Stays n s)) refl refl refl) (λ m d at. let bad : stage.Meet m d ≡ stage.Judged n = sym at ∙ may.0 in cc)
    completes-up (by.Loses n why) may = idle-so _ refl refl refl refl (same-follow (ended_by z (by.Loses n why)) refl refl refl) (λ m d at. unread m d at may.0)
      where
        unread : (m d : ServerNo) → z.stage ≡ stage.Meet m d → WasRead z.stage n → ⊥
        unread m d at (inl e) = let bad : stage.Meet m d ≡ stage.Judged n = sym at ∙ e in cc
        unread m d at (inr e) = let bad : stage.Meet m d ≡ stage.Looked n e.0 = sym at ∙ e.1 in cc
    completes-up (by.Marks n) may =
        idle-so _ refl refl refl refl (same-follow (ended_by z (by.Marks n)) refl refl refl) (λ m d at. let bad : stage.Meet m d ≡ stage.Expelled n = sym at ∙ may in cc)
    completes-up (by.Leads k) may =
        idle-so _ refl refl refl refl (same-follow (ended_by z (by.Leads k)) refl refl refl) (λ m d at. let bad : stage.Meet m d ≡ stage.Gather may.0 k = sym at ∙ may.1 in cc)
    completes-up (by.Follows n p) may =
        idle-so _ refl refl refl refl (one-more (ended_by z (by.Follows n p)) (record { no = n; source = p }) refl refl refl (inl (inl (st.joined n p (made may) none)))) (λ m d at. unmet m d at may)
      where
        made : (z.stage ≡ stage.Join n p) ⊎ (z.stage ≡ stage.Resume p n) → (info z.stage).made ≡ table.Follows n p
        made (inl at) = ap (λ (s : Stage). (info s).made) at
        made (inr at) = ap (λ (s : Stage). (info s).made) at

        unmet : (m d : ServerNo) → z.stage ≡ stage.Meet m d → (z.stage ≡ stage.Join n p) ⊎ (z.stage ≡ stage.Resume p n) → ⊥
        unmet m d at (inl e) = let bad : stage.Meet m d ≡ stage.Join n p = sym at ∙ e in cc
        unmet m d at (inr e) = let bad : stage.Meet m d ≡ stage.Resume p n = sym at ∙ e in cc
    completes-up (by.Frees n why) may =
        ended-so _ refl refl (each (stage.Release n) (op.Start n ∷ []) (inl tt, tt)) (same-follow (ended_by z (by.Frees n why)) refl refl refl) (λ p lines regroup at. cc) (λ m d at. cc)
        (λ m d at. let bad : stage.Meet m d ≡ stage.Halted n may.0 = sym at ∙ may.1 in cc)
        (λ k lines crowned at promoted. cc)
    completes-up (by.Trails n x) may =
        ended-so _ refl refl (trail-alters n x) (same-follow (ended_by z (by.Trails n x)) refl refl refl) (λ p lines regroup at. cc) (λ m d at. cc)
        (λ m d at. let bad : stage.Meet m d ≡ stage.Looked n x = sym at ∙ may.0 in cc)
        (λ k lines crowned at promoted. cc)
    completes-up (by.Joins n x) may =
        ended-so _ refl refl (move-alters n (way.Down x)) (same-follow (ended_by z (by.Joins n x)) refl refl refl) (λ p lines regroup at. cc) (λ m d at. cc)
        (λ m d at. let bad : stage.Meet m d ≡ stage.Halted n x = sym at ∙ may.0 in cc)
        (λ k lines crowned at promoted. cc)
    completes-up (by.Swaps p q) may =
        ended-so _ refl refl (each (stage.Open q) (op.Start p ∷ op.ReadOnly q false ∷ []) (inl tt, (inl tt, tt)))
        (one-more (ended_by z (by.Swaps p q)) (record { no = p; source = q }) refl refl refl (inr (inr (inr (q, refl, refl))))) (λ k lines regroup at. cc) (λ m d at. cc)
        (λ m d at. let bad : stage.Meet m d ≡ stage.Swapped p q = sym at ∙ may in cc)
        (λ k lines crowned at promoted. cc)
    completes-up (by.Switches m d) may =
        ended-so _ refl refl (each (stage.Open d) (op.ReadOnly d false ∷ []) (inl tt, tt))
        (one-more (ended_by z (by.Switches m d)) (record { no = m; source = d }) refl refl refl (inl (inr (inl (st.old m d may))))) (λ p lines regroup at. cc) (λ k e at. cc)
        (λ k e at. let bad : stage.Meet k e ≡ stage.Switched m d = sym at ∙ may in cc)
        (λ k lines crowned at promoted. cc)
    completes-up (by.Ends n) may =
        ended-so _ refl refl (last-alters z z.purpose n (result_lines z)) (same-follow (ended_by z (by.Ends n)) refl refl refl)
        (λ p lines regroup at. false≢true (sym (ap crowns regroup) ∙ (st.crowned n may).0)) (λ m d at. cc)
        (λ m d at. let bad : stage.Meet m d ≡ stage.Opened n = sym at ∙ may in cc)
        (λ k lines crowned at promoted. ends-reads n (st.crowned n may) k lines at promoted)
    completes-up (by.Shuts m d) may = record {
      alters = All-cons (Altered (stage.Shut m d)) (op.ReadOnly m true) (gather m d) (inl tt) (gather-alters (stage.Shut m d) m d (here d));
      followers = same-follow (ended_by z (by.Shuts m d)) refl refl refl;
      rejoins = λ p lines regroup at chosen. cc;
      first = λ k e at. inl (ap ops_in at);
      shut = λ t. inl (m, d, inr refl);
      reads = λ k lines crowned at promoted. cc;
    }
      where
        ops_in : Stage → List Op
        ops_in (stage.Shut k e) = op.ReadOnly k true ∷ gather k e
        ops_in _ = []

  -- ---- a failing operation

  module _ (why : ExplainsTruly w b now r P) (x : Recovery) (so : Decisions (ground_of w b now) r x) (read : ℕ) (o : Op) (rest : List Op) (is : x.core.ops ≡ o ∷ rest) (c : Cause) (ob : Option Observation)
      (stops : by_deed w read now x.core rest (deed_of o) ≡ attempt.Stops c ob) (up : UpSoFar P w x) where
    given-up : (p q : ServerNo) → x.stage ≡ stage.Level p q → P (IsGivenUp p q) ≡ true
    given-up p q at =
        why x (IsGivenUp p q) so (GivesUp (inl at) (record { read = read; op = o; rest = rest; ops = is; cause = c; observation = ob; stops = stops }))

    passed-over : (n : ServerNo) → x.stage ≡ stage.Release n → x.core.ops ≡ op.Start n ∷ [] → P (IsPassed n) ≡ true
    passed-over n at e =
        let same : o ≡ op.Start n = same-head o (op.Start n) rest [] (sym is ∙ e) in
        why x (IsPassed n) so
        (Passes (inr at)
        (subst (λ (a : Attempt). StopsUnreached w n a) stops
        (subst (λ (y : Op). StopsUnreached w n (by_deed w read now x.core rest (deed_of y))) (sym same) (asked-unreached w read now x.core rest (deed_of (op.Start n)) n refl tt))))

    all-borne : (y : Recovery) → y.outcome.followers ≡ x.outcome.followers → ((z : Follower) → IsKeptUp P w x z.no → IsKeptUp P w y z.no) → All (λ z. IsKeptUp P w y z.no) y.outcome.followers
    all-borne y same keep =
        subst (λ (xs : List Follower). All (λ z. IsKeptUp P w y z.no) xs) (sym same)
        (All-weaker (λ (z : Follower). IsKeptUp P w x z.no) (λ (z : Follower). IsKeptUp P w y z.no) keep x.outcome.followers up.followers)

    borne-so : (y : Recovery) → y.purpose ≡ x.purpose → y.failed ≡ x.failed → y.outcome.followers ≡ x.outcome.followers → All (Altered y.stage) y.core.ops
        → ((z : Follower) → IsInWork P x z.no → IsKeptUp P w y z.no) → ((lines : List Line) → y.stage ≡ stage.Close lines → ⊥) → ((m d : ServerNo) → y.stage ≡ stage.Shut m d → ⊥)
        → (IsOpenYet x.stage → ⊥) → UpSoFar P w y
    borne-so y aim failed same alters work unclosed unopened met = record {
      alters = alters;
      followers = all-borne y same (λ z h. keep z h);
      rejoins = λ p lines regroup at chosen. absurd (unclosed lines at);
      first = λ m d at. absurd (unopened m d at);
      shut = λ t. inr (shut-as P w x y aim failed (go (up.shut (takes-as P w x y aim failed t))));
      reads = λ n lines crowned at promoted. absurd (unclosed lines at);
    }
      where
        keep : (z : Follower) → IsKeptUp P w x z.no → IsKeptUp P w y z.no
        keep z (inl h) = inl (runs-as P w x y aim failed z.no h)
        keep z (inr h) = work z h

        go : IsOpenYet x.stage ⊎ IsShut w x.failed.0 → IsShut w x.failed.0
        go (inl yet) = absurd (met yet)
        go (inr h) = h

    no-work : (s : Stage) → x.stage ≡ s → ((p n : ServerNo) → s ≡ stage.Level p n → ⊥) → ((n : ServerNo) → s ≡ stage.Release n → ⊥) → ((q : ServerNo) → s ≡ stage.Open q → ⊥)
        → (y : Recovery) (z : Follower) → IsInWork P x z.no → IsKeptUp P w y z.no
    no-work s at level release unopened y z (inl h) = absurd (level h.0 z.no (sym at ∙ h.1))
    no-work s at level release unopened y z (inr (inl h)) = absurd (release z.no (sym at ∙ h.2))
    no-work s at level release unopened y z (inr (inr h)) = absurd (unopened h.0 (sym at ∙ h.1))

    not-met : (s : Stage) → x.stage ≡ s → ((m d : ServerNo) → s ≡ stage.Meet m d → ⊥) → ((m d : ServerNo) → s ≡ stage.Shut m d → ⊥) → IsOpenYet x.stage → ⊥
    not-met s at meet shut (m, d, inl e) = meet m d (sym at ∙ e)
    not-met s at meet shut (m, d, inr e) = shut m d (sym at ∙ e)

    -- nothing more is done
    idles : (y : Recovery) → y.purpose ≡ x.purpose → y.failed ≡ x.failed → y.outcome.followers ≡ x.outcome.followers → y.stage ≡ stage.Idle → y.core.ops ≡ []
        → ((z : Follower) → IsInWork P x z.no → IsKeptUp P w y z.no) → (IsOpenYet x.stage → ⊥) → UpSoFar P w y
    idles y aim failed same at ops work met =
        borne-so y aim failed same (subst (λ (os : List Op). All (Altered y.stage) os) (sym ops) (All-nil (Altered y.stage))) work
        (λ lines e. let bad : stage.Idle ≡ stage.Close lines = sym at ∙ e in cc) (λ m d e. let bad : stage.Idle ≡ stage.Shut m d = sym at ∙ e in cc) met

    drops : (y : Recovery) → y.purpose ≡ x.purpose → y.failed ≡ x.failed → y.outcome.followers ≡ x.outcome.followers → y.stage ≡ stage.Idle → y.core.ops ≡ [] → MayBear x.stage by.Drops → UpSoFar P w y
    drops y aim failed same at ops (inl e) =
        idles y aim failed same at ops (no-work stage.Check e (λ p n g. cc) (λ n g. cc) (λ q g. cc) y) (not-met stage.Check e (λ m d g. cc) (λ m d g. cc))
    drops y aim failed same at ops (inr (k, inl e)) =
        idles y aim failed same at ops (no-work (stage.Expel k) e (λ p n g. cc) (λ n g. cc) (λ q g. cc) y) (not-met (stage.Expel k) e (λ m d g. cc) (λ m d g. cc))
    drops y aim failed same at ops (inr (k, inr e)) = idles y aim failed same at ops work (not-met (stage.Release k) e (λ m d g. cc) (λ m d g. cc))
      where
        work : (z : Follower) → IsInWork P x z.no → IsKeptUp P w y z.no
        work z (inl h) = let bad : stage.Release k ≡ stage.Level h.0 z.no = sym e ∙ h.1 in cc
        work z (inr (inl h)) = inl (inr (inr ((h.0, h.1), passed-over z.no h.2 h.3)))
        work z (inr (inr h)) = let bad : stage.Release k ≡ stage.Open h.0 = sym e ∙ h.1 in cc

    misses : (n : ServerNo) (why' : Why) (y : Recovery) → y.purpose ≡ x.purpose → y.failed ≡ x.failed → y.outcome.followers ≡ x.outcome.followers → y.stage ≡ stage.Idle → y.core.ops ≡ []
        → MayBear x.stage (by.Misses n why') → UpSoFar P w y
    misses n why' y aim failed same at ops (inl e) =
        idles y aim failed same at ops (no-work (stage.Drain n) e (λ p k g. cc) (λ k g. cc) (λ q g. cc) y) (not-met (stage.Drain n) e (λ m d g. cc) (λ m d g. cc))
    misses n why' y aim failed same at ops (inr (inl (go, e))) =
        idles y aim failed same at ops (no-work (stage.Move n go) e (λ p k g. cc) (λ k g. cc) (λ q g. cc) y) (not-met (stage.Move n go) e (λ m d g. cc) (λ m d g. cc))
    misses n why' y aim failed same at ops (inr (inr (p, e))) =
        idles y aim failed same at ops (no-work (stage.Join n p) e (λ i k g. cc) (λ k g. cc) (λ q g. cc) y) (not-met (stage.Join n p) e (λ m d g. cc) (λ m d g. cc))

    lets : (n : ServerNo) (why' : Why) → MayBear x.stage (by.Lets n why') → UpSoFar P w (borne x (fate_of (by.Lets n why')))
    lets n why' (inl (go, e, more)) =
        borne-so (borne x (fate_of (by.Lets n why'))) refl refl refl (each (stage.Release n) (op.Start n ∷ []) (inl tt, tt)) (no-work (stage.Move n go) e (λ p k g. cc) (λ k g. cc) (λ q g. cc) (borne x (fate_of (by.Lets n why')))) (λ lines g. cc) (λ m d g. cc)
        (not-met (stage.Move n go) e (λ m d g. cc) (λ m d g. cc))
    lets n why' (inr (k, inl e)) =
        borne-so (borne x (fate_of (by.Lets n why'))) refl refl refl (each (stage.Release n) (op.Start n ∷ []) (inl tt, tt)) (no-work (stage.Look n k) e (λ p i g. cc) (λ i g. cc) (λ q g. cc) (borne x (fate_of (by.Lets n why')))) (λ lines g. cc) (λ m d g. cc)
        (not-met (stage.Look n k) e (λ m d g. cc) (λ m d g. cc))
    lets n why' (inr (k, inr e)) =
        borne-so (borne x (fate_of (by.Lets n why'))) refl refl refl (each (stage.Release n) (op.Start n ∷ []) (inl tt, tt)) (no-work (stage.Trail n k) e (λ p i g. cc) (λ i g. cc) (λ q g. cc) (borne x (fate_of (by.Lets n why')))) (λ lines g. cc) (λ m d g. cc)
        (not-met (stage.Trail n k) e (λ m d g. cc) (λ m d g. cc))

    borne-up : (e : Bearing) → MayBear x.stage e → UpSoFar P w (borne x (fate_of e))
    borne-up by.Drops may = drops (borne x (fate_of by.Drops)) refl refl refl refl refl may
    borne-up (by.Misses n y) may = misses n y (borne x (fate_of (by.Misses n y))) refl refl refl refl refl may
    borne-up (by.Lets n y) may = lets n y may
    borne-up (by.Restarts p q) may =
        borne-so (borne x (fate_of (by.Restarts p q))) refl refl refl (each (stage.Release q) (op.Start q ∷ []) (inl tt, tt)) work (λ lines g. cc) (λ m d g. cc) (not-met (stage.Level p q) may (λ m d g. cc) (λ m d g. cc))
      where
        better-of : Stage → ServerNo
        better-of (stage.Level i k) = k
        better-of _ = q

        work : (z : Follower) → IsInWork P x z.no → IsKeptUp P w (borne x (fate_of (by.Restarts p q))) z.no
        work z (inl h) =
            let same : q ≡ z.no = ap better-of (sym may ∙ h.1) in
            inr (inr (inl (p, subst (λ (i : ServerNo). P (IsGivenUp p i) ≡ true) same (given-up p q may), ap stage.Release same, ap (λ (i : ServerNo). op.Start i ∷ []) same)))
        work z (inr (inl h)) = let bad : stage.Level p q ≡ stage.Release z.no = sym may ∙ h.2 in cc
        work z (inr (inr h)) = let bad : stage.Level p q ≡ stage.Open h.0 = sym may ∙ h.1 in cc
    borne-up (by.Returns p q) may =
        borne-so (borne x (fate_of (by.Returns p q))) refl refl refl (each (stage.Return p q) (op.Cross cross.Back q p ∷ op.Start q ∷ []) (here q, (inl tt, tt)))
        (no-work (stage.Swap p q) may (λ i k g. cc) (λ k g. cc) (λ k g. cc) (borne x (fate_of (by.Returns p q)))) (λ lines g. cc) (λ m d g. cc) (not-met (stage.Swap p q) may (λ m d g. cc) (λ m d g. cc))

  -- ---- a turn

  module _ (why : ExplainsTruly w b now r P) (read : ℕ) (placed : Placed w) (rings : HeldRings w b.rings) where
    abbrev pub Before : Recovery → Type 0
    Before x = (HeldRecovery w x × (CoversSoFar w x ⊎ IsStuck x)) × (SpeaksWith x × (Decisions (ground_of w b now) r x × UpSoFar P w x))

    pub decides-before-up : (x : Recovery) (d : Decision) → MayDecide (ground_of w b now) x d → Before x → Before (decided_by (ground_of w b now) x d)
    decides-before-up x d may h = (
      decides-before w b read now placed rings x d may h.0,
      (decides-speaks w b now x d may h.1.0, (joined w b now h.1.1.0 (by.Then d may by.Still), decides-up x d may h.0.1 h.1.1.1)),
    )

    waited-up : (x : Recovery) (j : Job) → j.ops ≡ x.core.ops → UpSoFar P w x
        → ((n : ServerNo) (lines : List Line) → crowns x.purpose ≡ true → x.stage ≡ stage.Close lines → x.outcome.promoted ≡ Some n → ⊥) → UpSoFar P w (record x { core = j })
    waited-up x j same up unread = record {
      alters = subst (λ (os : List Op). All (Altered x.stage) os) (sym same) up.alters;
      followers = All-weaker (λ (z : Follower). IsKeptUp P w x z.no) (λ (z : Follower). IsKeptUp P w (record x { core = j }) z.no) (λ z h. keep z h) x.outcome.followers up.followers;
      rejoins = λ p lines regroup at chosen. again (op.Start p ∷ op.Finish lines ∷ []) (GoesOn w p.0) (up.rejoins p lines regroup at chosen);
      first = λ m d at. either m d (up.first m d at);
      shut = up.shut;
      reads = λ n lines crowned at promoted. absurd (unread n lines crowned at promoted);
    }
      where
        keep : (z : Follower) → IsKeptUp P w x z.no → IsKeptUp P w (record x { core = j }) z.no
        keep z (inl h) = inl h
        keep z (inr (inl h)) = inr (inl h)
        keep z (inr (inr (inl h))) = inr (inr (inl (h.0, h.1, h.2, same ∙ h.3)))
        keep z (inr (inr (inr h))) = inr (inr (inr (h.0, h.1, same ∙ h.2)))

        again : (os : List Op) (A : Type 0) → (x.core.ops ≡ os) ⊎ A → (j.ops ≡ os) ⊎ A
        again os A (inl e) = inl (same ∙ e)
        again os A (inr a) = inr a

        either : (m d : ServerNo) → (x.core.ops ≡ op.ReadOnly m true ∷ gather m d) ⊎ (x.core.ops ≡ []) → (j.ops ≡ op.ReadOnly m true ∷ gather m d) ⊎ (j.ops ≡ [])
        either m d (inl e) = inl (same ∙ e)
        either m d (inr e) = inr (same ∙ e)

    keeps-up : KeepsMoves w b read now Before (λ v z. IsFit z × Steps P v z) (λ v z. UpSoFar P v z)
    keeps-up = record {
      decides = decides-before-up;
      waits = λ x o rest ob es j did e h.
          let left = (went-of w read now x o rest ob es j did).waits e in
          let c = covered w b read now placed rings x o rest did.ops h.0.1 in
          subst (λ (xs : List Exchange). UpSoFar P (run w xs) (record x { core = j })) (sym left.1)
          (waited-up x j left.0 h.1.1.1 (λ n lines crowned at promoted.
          no-cycle o rest
          (sym (reads-on w read now x o rest did.ops c.at ob es j did.goes n lines crowned at promoted (λ t. not-promoted w x x.stage c.at t n promoted) (h.1.1.1.reads n lines crowned at promoted)).1
          ∙ (left.0 ∙ did.ops))));
      acts = λ x o rest ob es j did e h.
          let fits = fits-of w x o rest did.ops h.0.0 in
          let left = (went-of w read now x o rest ob es j did).done e in
          let c = covered w b read now placed rings x o rest did.ops h.0.1 in
          (stepped-fits x o rest j fits left, stepped-up w read now P x o rest did.ops c.at fits h.1.0 h.1.1.1 ob es j did.goes left);
      continues = λ v z y ys is h. on-going v z y ys is h.1;
      completes = λ v z e none may h. completes-up v z none (subst (λ (os : List Op). Fits z.stage os) none h.0) h.1 e may;
      bears = λ x o rest c ob e stops is may h. borne-up why x h.1.1.0 read o rest stops.ops c ob stops.stops h.1.1.1 e may;
    }
      where
        on-going : (v : World) (z : Recovery) (y : Op) (ys : List Op) → z.core.ops ≡ y ∷ ys → Steps P v z → UpSoFar P v z
        on-going v z y ys is st = record {
          alters = st.alters;
          followers = All-weaker (λ (k : Follower). RunsOn P v z k.no ⊎ ((p : ServerNo) × (z.stage ≡ stage.Level p k.no))) (λ (k : Follower). IsKeptUp P v z k.no) (λ k h. keep k h) z.outcome.followers st.followers;
          rejoins = st.rejoins;
          first = st.first;
          shut = st.shut;
          reads = st.reads;
        }
          where
            keep : (k : Follower) → RunsOn P v z k.no ⊎ ((p : ServerNo) × (z.stage ≡ stage.Level p k.no)) → IsKeptUp P v z k.no
            keep k (inl h) = inl h
            keep k (inr h) = inr (inl h)

    pub taken-keeps : HeldRecovery w r → CoversSoFar w r → SpeaksWith r → UpSoFar P w r → is_going (taken w b read now r).step ≡ true
        → UpSoFar P (run w (taken w b read now r).exchanges) (taken w b read now r).recovery
    taken-keeps held c speaks up =
        kept-along w b read now Before (λ v z. IsFit z × Steps P v z) (λ v z. UpSoFar P v z) keeps-up r ((held, inl c), (speaks, (by.Still, up)))

    -- ---- one that is done

    done-keeps : (d : Recovery) (o : Op) (rest : List Op) (lines : List Line) → d.core.ops ≡ o ∷ rest → by_deed w read now d.core rest (deed_of o) ≡ attempt.Ends lines → d.stage ≡ stage.Close lines
        → UpSoFar P w d → KeepsUp P w (record d { core = ended d.core })
    done-keeps d o rest lines is ends at up = record {
      followers = All-weaker (λ (z : Follower). IsKeptUp P w d z.no) (λ (z : Follower). RunsOn P w d z.no) (λ z h. go z h) d.outcome.followers up.followers;
      chosen = λ p regroup chosen. by-rejoined p (up.rejoins p lines regroup at chosen);
      shut = λ t. closed (up.shut t);
      read = λ n crowned promoted. last-read n (up.reads n lines crowned at promoted);
    }
      where
        -- a reading ends no job
        look-first : (n : ServerNo) (ys : List Op) → d.core.ops ≡ op.Status n None ∷ ys → ⊥
        look-first n ys e =
            look-ends w read now d.core rest n lines
            (subst (λ (y : Op). by_deed w read now d.core rest (deed_of y) ≡ attempt.Ends lines) (same-head o (op.Status n None) rest ys (sym is ∙ e)) ends)

        last-read : (n : ServerNo) → ReadsLast d n lines → SawFree d.core.seen n × OldWasRead d
        last-read n (inl e) = absurd (look-first d.failed (op.Status n None ∷ op.Finish lines ∷ []) e)
        last-read n (inr (inl h)) = absurd (look-first n (op.Finish lines ∷ []) h.0)
        last-read n (inr (inr h)) = h.1

        go : (z : Follower) → IsKeptUp P w d z.no → RunsOn P w d z.no
        go z (inl h) = h
        go z (inr (inl h)) = let bad : stage.Close lines ≡ stage.Level h.0 z.no = sym at ∙ h.1 in cc
        go z (inr (inr (inl h))) = let bad : stage.Close lines ≡ stage.Release z.no = sym at ∙ h.2 in cc
        go z (inr (inr (inr h))) = let bad : stage.Close lines ≡ stage.Open h.0 = sym at ∙ h.1 in cc

        -- a start doesn't end a job well
        unended : (n : ServerNo) (a : Result (Unit {0}) Unreachable) → after_ask d.core rest n asking.Start a ≡ attempt.Ends lines → ⊥
        unended n (Ok t) e = cc
        unended n (Err x) e = cc

        by-rejoined : (p : ServerNo) → (d.core.ops ≡ op.Start p ∷ op.Finish lines ∷ []) ⊎ GoesOn w p.0 → GoesOn w p.0
        by-rejoined p (inl e) =
            let same : o ≡ op.Start p = same-head o (op.Start p) rest (op.Finish lines ∷ []) (sym is ∙ e) in
            absurd (unended p (desk_answer (server_at w p.0)) (subst (λ (y : Op). by_deed w read now d.core rest (deed_of y) ≡ attempt.Ends lines) same ends))
        by-rejoined p (inr h) = h

        closed : IsOpenYet d.stage ⊎ IsShut w d.failed.0 → IsShut w d.failed.0
        closed (inl (m, k, inl e)) = let bad : stage.Close lines ≡ stage.Meet m k = sym at ∙ e in cc
        closed (inl (m, k, inr e)) = let bad : stage.Close lines ≡ stage.Shut m k = sym at ∙ e in cc
        closed (inr h) = h

    pub finished-keeps : HeldRecovery w r → CoversSoFar w r → SpeaksWith r → UpSoFar P w r → (lines : List Line) → (taken w b read now r).step ≡ step.Done lines
        → KeepsUp P (run w (taken w b read now r).exchanges) (taken w b read now r).recovery
    finished-keeps held c speaks up lines done = go (taken w b read now r) (taken-walks w b read now r) done (turn-done w b read now r placed rings held c lines done).closed
      where
        lines-in : JobStep → List Line
        lines-in step.Going = []
        lines-in (step.Done xs) = xs
        lines-in (step.Failed y ls) = []

        go : (t : Taken) → Turning w b read now r t → t.step ≡ step.Done lines → t.recovery.stage ≡ stage.Close lines → KeepsUp P (run w t.exchanges) t.recovery
        go t (by.Waits ds o rest ob es j did e) h at = cc
        go t (by.Acts ds o rest ob es j did e end) h at = cc
        go t (by.Bears ds o rest x ob e stops is may) h at = cc
        go t (by.Fails ds x ob y) h at = cc
        go t (by.Finishes {d} ds o rest ls is e) h at =
            done-keeps d o rest lines is (e ∙ ap attempt.Ends (ap lines-in h)) at (decisions-keep w b now Before decides-before-up ds ((held, inl c), (speaks, (by.Still, up)))).1.1.1

-- ---- a takeover closes its master first

-- a decision is about the same servers
keeps-aim : (w : World) (b : BookState) (now : Moment) (r x : Recovery) (d : Decision) → (x.purpose ≡ r.purpose) × (x.failed ≡ r.failed)
    → ((decided_by (ground_of w b now) x d).purpose ≡ r.purpose) × ((decided_by (ground_of w b now) x d).failed ≡ r.failed)
keeps-aim w b now r x (by.Chooses p ts) h = h
keeps-aim w b now r x d h = h

module _ (w : World) (read : ℕ) (now : Moment) (P : Fact → Bool) (r d : Recovery) (aim : (d.purpose ≡ r.purpose) × (d.failed ≡ r.failed)) (o : Op) (rest : List Op) (is : d.core.ops ≡ o ∷ rest)
    (c : CoversAt w d d.stage) (way' : IsOnWay d) (up : UpSoFar P w d) (ob : Option Observation) (es : List Exchange) (j : Job) (goes : by_deed w read now d.core rest (deed_of o) ≡ attempt.Goes ob es j) where
  -- an operation that is this one makes such exchanges
  makes-so : (M : Exchange → Type 0) (y : Op) → o ≡ y → Makes M (deed_of y) → All M es
  makes-so M y same h = made-well M w d.core rest read now (deed_of o) (subst (λ (z : Op). Makes M (deed_of z)) (sym same) h) ob es j goes

  closes-meet : (m k : ServerNo) → d.stage ≡ stage.Meet m k → All (λ (e : Exchange). ⊥) es
  closes-meet m k at = go way'.course.stage.first
    where
      go : ((info d.stage).bar ≡ table.Never) ⊎ All (λ x. x ≡ op.Status d.failed None) d.core.ops → All (λ (e : Exchange). ⊥) es
      go (inl e) = let bad : table.Sourced m ≡ table.Never = sym (ap (λ (s : Stage). (info s).bar) at) ∙ e in cc
      go (inr all) =
          makes-so (λ (e : Exchange). ⊥) (op.Status d.failed None)
          (All-head (λ (x : Op). x ≡ op.Status d.failed None) o rest (subst (λ (os : List Op). All (λ x. x ≡ op.Status d.failed None) os) is all)) tt

  closes-shut : (m k : ServerNo) → d.stage ≡ stage.Shut m k → All (λ e. e ≡ Request r.failed.0 (asking.SetReadOnly true)) es
  closes-shut m k at = go (up.first m k at)
    where
      same : m ≡ r.failed
      same = let giving = subst (λ (s : Stage). CoversAt w d s) at c in sym giving.stage.failed ∙ aim.1

      go : (d.core.ops ≡ op.ReadOnly m true ∷ gather m k) ⊎ (d.core.ops ≡ []) → All (λ e. e ≡ Request r.failed.0 (asking.SetReadOnly true)) es
      go (inl e) =
          makes-so (λ x. x ≡ Request r.failed.0 (asking.SetReadOnly true)) (op.ReadOnly m true) (same-head o (op.ReadOnly m true) rest (gather m k) (sym is ∙ e))
          (ap (λ (i : ServerNo). Request i.0 (asking.SetReadOnly true)) same)
      go (inr e) = let bad : o ∷ rest ≡ [] = sym is ∙ e in cc

  closes-so : All (ClosesFirst w r) es
  closes-so = by-purpose (is_takeover r.purpose) refl
    where
      takes : is_takeover r.purpose ≡ true → IsOpenYet d.stage ⊎ IsShut w d.failed.0 → All (ClosesFirst w r) es
      takes t (inl (m, k, inl at)) = All-weaker (λ (e : Exchange). ⊥) (ClosesFirst w r) (λ e bad. absurd bad) es (closes-meet m k at)
      takes t (inl (m, k, inr at)) =
          All-weaker (λ (e : Exchange). e ≡ Request r.failed.0 (asking.SetReadOnly true)) (ClosesFirst w r) (λ e h. λ yes. inl h) es (closes-shut m k at)
      takes t (inr h) = λ i e lt yes. inr (subst (λ (k : ServerNo). IsShut w k.0) aim.1 h)

      by-purpose : (a : Bool) → is_takeover r.purpose ≡ a → All (ClosesFirst w r) es
      by-purpose true t = takes t (up.shut (ap is_takeover aim.0 ∙ t))
      by-purpose false f = λ i e lt yes. absurd (false≢true (sym f ∙ yes))

-- a turn after which a takeover goes on changes nothing before its master is closed
module _ (w : World) (b : BookState) (read : ℕ) (now : Moment) (r : Recovery) (P : Fact → Bool) (placed : Placed w) (rings : HeldRings w b.rings) (held : HeldRecovery w r) (c : CoversSoFar w r) (speaks : Speaks r)
    (up : UpSoFar P w r) where
  abbrev Sofar : Recovery → Type 0
  Sofar x = (HeldRecovery w x × (CoversSoFar w x ⊎ IsStuck x)) × ((Fine x × ((x.purpose ≡ r.purpose) × (x.failed ≡ r.failed))) × UpSoFar P w x)

  decides-on : (x : Recovery) (d : Decision) → MayDecide (ground_of w b now) x d → Sofar x → Sofar (decided_by (ground_of w b now) x d)
  decides-on x d may h = (
    decides-before w b read now placed rings x d may h.0,
    ((decides-fine w b now x d may h.1.0.0, keeps-aim w b now r x d h.1.0.1), decides-up w b now r P x d may h.0.1 h.1.1),
  )

  so-far : {d : Recovery} → Decisions (ground_of w b now) r d → Sofar d
  so-far ds = decisions-keep w b now Sofar decides-on ds ((held, inl c), ((inl speaks.way, (refl, refl)), up))

  does-closed : (d : Recovery) → Decisions (ground_of w b now) r d → (o : Op) (rest : List Op) (ob : Option Observation) (es : List Exchange) (j : Job) → Does w read now d o rest ob es j → All (ClosesFirst w r) es
  does-closed d ds o rest ob es j did =
      let h = so-far ds in
      closes-so w read now P r d h.1.0.1 o rest did.ops (covered w b read now placed rings d o rest did.ops h.0.1).at (still-on d o rest did.ops h.1.0.0) h.1.1 ob es j did.goes

  pub turn-closes : is_going (taken w b read now r).step ≡ true → All (ClosesFirst w r) (taken w b read now r).exchanges
  turn-closes = go (taken w b read now r) (taken-walks w b read now r)
    where
      go : (t : Taken) → Turning w b read now r t → is_going t.step ≡ true → All (ClosesFirst w r) t.exchanges
      go t (by.Waits {d} ds o rest ob es j did e) h = does-closed d ds o rest ob es j did
      go t (by.Acts {d} ds o rest ob es j did e end) h = does-closed d ds o rest ob es j did
      go t (by.Bears ds o rest x ob e stops is may) h = All-nil (ClosesFirst w r)
      go t (by.Fails ds x ob y) h = absurd (false≢true h)
      go t (by.Finishes ds o rest ls is e) h = absurd (false≢true h)
