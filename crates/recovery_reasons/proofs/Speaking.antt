-- Each operation of a stage that places a replica speaks with that replica.
use Rattle.recovery_reasons.proofs.Prelude.{AimsAt, All, All-cons, All-head, All-nil, All-tail, Attach, AttachAuto, AttachFault, Attempt, Bearing}
use Rattle.recovery_reasons.proofs.Prelude.{BookState, Bridge, Cause, Coord, Decision, Ending, Exchange, Fits, GoesBy, HeldRecovery, HeldRings}
use Rattle.recovery_reasons.proofs.Prelude.{IsAsked, IsRefusedOn, Job, Keeps, Match, MatchFault, MayDecide, MayEnd, Means, Moment, Observation, Op}
use Rattle.recovery_reasons.proofs.Prelude.{Position, Purpose, Recovery, ServerNo, ShowsWay, Sight, Speaks, SpeaksWith, Spot, Stage, WaitsFor, Way}
use Rattle.recovery_reasons.proofs.Prelude.{WentOn, World, after_answer, after_attach, after_match, alone, attach_answer_of, before, begun_recovery}
use Rattle.recovery_reasons.proofs.Prelude.{borne, bridge_at, by_deed, by_match, by_set, can_attach, cause_by, crossed, crossing_of, decided_by}
use Rattle.recovery_reasons.proofs.Prelude.{decides-held, deed_of, drain, ended_by, ends, entered, eq-eqb, false≢true, fate_of, fits-step}
use Rattle.recovery_reasons.proofs.Prelude.{follows_no_more, ground_of, info, is_going, is_look, is_waiting, kept-along, lead_of, leaver}
use Rattle.recovery_reasons.proofs.Prelude.{match_found, match_logs, more_on, move, moved, moved-fits, moved-leads, moving, same-head, same-tail}
use Rattle.recovery_reasons.proofs.Prelude.{same_Some, seen-at, seen_of, server_at, sight_of, speaks_of, spoken_to, standing_at, stepped, tail_of}
use Rattle.recovery_reasons.proofs.Prelude.{taken, trail, went-of, with_bridge, with_way}
use Rattle.recovery_reasons.proofs.Prelude.attempt
use Rattle.recovery_reasons.proofs.Prelude.by
use Rattle.recovery_reasons.proofs.Prelude.cross
use Rattle.recovery_reasons.proofs.Prelude.op
use Rattle.recovery_reasons.proofs.Prelude.purpose
use Rattle.recovery_reasons.proofs.Prelude.spot
use Rattle.recovery_reasons.proofs.Prelude.stage
use Rattle.recovery_reasons.proofs.Prelude.table
use Rattle.recovery_reasons.proofs.Prelude.way
use Rattle.std.proofs.Common.{◌≡◌, ℕ, Bool, true, false, cond, List, [], ◌∷◌, ◌++◌, arith, refl, sym, ◌∙◌, ap, subst, Option, Some, None, option_map, ◌⊎◌, inl, inr, Ok, Err, Result}
use Rattle.recovery_reasons.proofs.Asking.{begun-asks, taken-asks}
use Rattle.recovery_reasons.proofs.Beginning.{begun-way}
use Rattle.recovery_reasons.proofs.Caring.{begun-cared, taken-cared}
use Rattle.recovery_reasons.proofs.Changing.{begun-changes, taken-its}
use Rattle.recovery_reasons.proofs.Gathering.{begun-knows, taken-knows}
use Rattle.recovery_reasons.proofs.Listing.{begun-listed, taken-listed}
use Rattle.recovery_reasons.proofs.OnWay.{taken-way}
use Rattle.recovery_reasons.proofs.Sights.{SeesOnly, deed-sees}

abbrev With : ServerNo → Op → Type 0
With n o = spoken_to (deed_of o) ≡ Some n

abbrev Waits : Bridge → Op → Type 0
Waits x o = WaitsFor x (deed_of o)

abbrev Asked : Op → Type 0
Asked o = IsAsked (deed_of o)

abbrev Looks : Op → Type 0
Looks o = is_look (deed_of o) ≡ true

-- the way that a stage's replica goes
abbrev way_in : Stage → Option Way
way_in (stage.Move n by) = Some by
way_in s = None

abbrev mover : Stage → Option ServerNo
mover (stage.Move n by) = Some n
mover s = None

same-way : (j : Job) (n m : ServerNo) (x y : Way) → stage.Move n x ≡ stage.Move m y → GoesBy j n x → GoesBy j m y
same-way j n m x y e h =
    subst (λ (k : ServerNo). GoesBy j k y) (same_Some n m (ap mover e)) (subst (λ (way : Way). GoesBy j n way) (same_Some x y (ap way_in e)) h)

-- of a stage that places none
silent : (r : Recovery) → speaks_of r.stage ≡ None → mover r.stage ≡ None → lead_of r.stage ≡ None → ((n p : ServerNo) → (info r.stage).made ≡ table.Follows n p → ⊥) → SpeaksWith r
silent r none still led off = record {
  ops = λ n e. let bad : None ≡ Some n = sym none ∙ e in cc;
  lead = λ x e. let bad : None ≡ Some x = sym led ∙ e in cc;
  waits = λ x e. let bad : None ≡ Some x = sym led ∙ e in cc;
  aims = λ n x e. let bad : None ≡ Some x = sym led ∙ ap lead_of e in cc;
  goes = λ n way e. let bad : None ≡ Some n = sym still ∙ ap mover e in cc;
  asked = λ n p e. let bad : None ≡ Some n = sym none ∙ ap speaks_of e in cc;
  looks = λ n x e. let bad : None ≡ Some x = sym led ∙ ap lead_of e in cc;
  starts = λ n p e. absurd (off n p e);
}

-- of one that does
speaking : (r : Recovery) (m : ServerNo) → speaks_of r.stage ≡ Some m → All (With m) r.core.ops → lead_of r.stage ≡ None
    → ((n : ServerNo) (way : Way) → r.stage ≡ stage.Move n way → GoesBy r.core n way) → ((n p : ServerNo) → (info r.stage).made ≡ table.Follows n p → ⊥) → SpeaksWith r
speaking r m is all led goes apart = record {
  ops = λ n e. subst (λ (x : ServerNo). All (With x) r.core.ops) (same_Some m n (sym is ∙ e)) all;
  lead = λ x e. let bad : None ≡ Some x = sym led ∙ e in cc;
  waits = λ x e. let bad : None ≡ Some x = sym led ∙ e in cc;
  aims = λ n x e. let bad : None ≡ Some x = sym led ∙ ap lead_of e in cc;
  goes = goes;
  asked = λ n p e. absurd (apart n p (ap (λ (s : Stage). (info s).made) e));
  looks = λ n x e. let bad : None ≡ Some x = sym led ∙ ap lead_of e in cc;
  starts = λ n p e. absurd (apart n p e);
}

-- the same in a recovery with the same job, stage and bridge
alike : (r r' : Recovery) → r'.core ≡ r.core → r'.stage ≡ r.stage → r'.lead ≡ r.lead → SpeaksWith r → SpeaksWith r'
alike r r' core at lead s = record {
  ops = λ n e. subst (λ (j : Job). All (With n) j.ops) (sym core) (s.ops n (sym (ap speaks_of at) ∙ e));
  lead = λ x e. lead ∙ s.lead x (sym (ap lead_of at) ∙ e);
  waits = λ x e. subst (λ (j : Job). All (Waits x) j.ops) (sym core) (s.waits x (sym (ap lead_of at) ∙ e));
  aims = λ n x e. subst (λ (j : Job). AimsAt j.seen n x) (sym core) (s.aims n x (sym at ∙ e));
  goes = λ n way e. subst (λ (j : Job). GoesBy j n way) (sym core) (s.goes n way (sym at ∙ e));
  asked = λ n p e. subst (λ (j : Job). All Asked j.ops) (sym core) (s.asked n p (sym at ∙ e));
  looks = λ n x e. subst (λ (j : Job). All Looks j.ops) (sym core) (s.looks n x (sym at ∙ e));
  starts = λ n p e. subst (λ (j : Job). (j.ops ≡ op.Start n ∷ []) ⊎ (j.ops ≡ [])) (sym core) (s.starts n p (sym (ap (λ (k : Stage). (info k).made) at) ∙ e));
}

drain-speaks : (n : ServerNo) → All (With n) (drain n)
drain-speaks n =
    All-cons (With n) (op.StopReceiver n) (op.Settle n ∷ op.Stop n ∷ op.Status n None ∷ []) refl
    (All-cons (With n) (op.Settle n) (op.Stop n ∷ op.Status n None ∷ []) refl
    (All-cons (With n) (op.Stop n) (op.Status n None ∷ []) refl (All-cons (With n) (op.Status n None) [] refl (All-nil (With n)))))

trail-speaks : (n d : ServerNo) → All (With n) (trail n d)
trail-speaks n d =
    All-cons (With n) (op.Until n _) (op.Await n _ ∷ op.Stop n ∷ op.Status n None ∷ []) refl
    (All-cons (With n) (op.Await n _) (op.Stop n ∷ op.Status n None ∷ []) refl
    (All-cons (With n) (op.Stop n) (op.Status n None ∷ []) refl (All-cons (With n) (op.Status n None) [] refl (All-nil (With n)))))

trail-waits : (n : ServerNo) (b : Bridge) → All (Waits b) (trail n b.no)
trail-waits n b =
    All-cons (Waits b) (op.Until n _) (op.Await n _ ∷ op.Stop n ∷ op.Status n None ∷ []) tt
    (All-cons (Waits b) (op.Await n _) (op.Stop n ∷ op.Status n None ∷ []) refl
    (All-cons (Waits b) (op.Stop n) (op.Status n None ∷ []) tt (All-cons (Waits b) (op.Status n None) [] tt (All-nil (Waits b)))))

-- the reading that is put in is the bridge's
bridge-seen : (xs : List Sight) (b : Bridge) → seen_of (with_bridge xs b) b.no.0 ≡ Some (sight_of b)
bridge-seen xs b =
    seen-at xs b.no (sight_of b) b.no.0 ∙ ap (λ (x : Bool). cond x (Some (sight_of b)) (seen_of xs b.no.0)) (eq-eqb b.no.0 b.no.0 refl)

bridge-aims : (xs : List Sight) (b : Bridge) → option_map (λ (s : Position). s.exec) (seen_of (with_bridge xs b) b.no.0) ≡ Some b.exec
bridge-aims xs b = ap (option_map (λ (s : Position). s.exec)) (bridge-seen xs b)

way-shows : (xs : List Sight) (by : Way) → ShowsWay (with_way xs by) by
way-shows xs (way.Down b) = bridge-seen xs b
way-shows xs (way.Up b) = bridge-seen xs b
way-shows xs (way.Auto to exec) = tt
way-shows xs (way.Match to exec every) = tt

way-speaks : (by : Way) (n m : ServerNo) → alone by n ≡ Some m → All (With m) (before by n ++ tail_of (stage.Move n by))
way-speaks (way.Down b) n m e = All-cons (With m) (op.Cross cross.Down n b.no) (op.Start n ∷ []) e (All-cons (With m) (op.Start n) [] e (All-nil (With m)))
way-speaks (way.Up b) n m e = All-cons (With m) (op.Cross cross.Up n b.no) (op.Start n ∷ []) e (All-cons (With m) (op.Start n) [] e (All-nil (With m)))
way-speaks (way.Auto to exec) n m e = All-cons (With m) (op.Auto n to) (op.Start n ∷ []) e (All-cons (With m) (op.Start n) [] e (All-nil (With m)))
way-speaks (way.Match to exec every) n m e = cc

moving-speaks : (r : Recovery) (n : ServerNo) (by : Way) → SpeaksWith (moving r n by)
moving-speaks r n by = record {
  ops = λ m e. way-speaks by n m e;
  lead = λ x e. cc;
  waits = λ x e. cc;
  aims = λ m x e. cc;
  goes = λ m to e. same-way (moving r n by).core n m by to e (inr refl, way-shows r.core.seen by);
  asked = λ m p e. cc;
  looks = λ m x e. cc;
  starts = λ m p e. cc;
}

-- ---- what is decided

module _ (w : World) (b : BookState) (now : Moment) where
  pub decides-speaks : (r : Recovery) (d : Decision) → MayDecide (ground_of w b now) r d → SpeaksWith r → SpeaksWith (decided_by (ground_of w b now) r d)
  decides-speaks r (by.Reads n ts) may s = silent _ refl refl refl (λ m p e. cc)
  decides-speaks r (by.Drains n ts) may s = speaking _ n refl (drain-speaks n) refl (λ m way e. cc) (λ m p e. cc)
  decides-speaks r (by.Sends n way ts) may s = moving-speaks (record r { queue = ts }) n way
  decides-speaks r (by.Expels n ts) may s = silent _ refl refl refl (λ m p e. cc)
  decides-speaks r (by.Releases n ts) may s = silent _ refl refl refl (λ m p e. cc)
  decides-speaks r (by.Looks n x ts) may s = record {
    ops = λ m f. subst (λ (k : ServerNo). All (With k) (op.Status n None ∷ [])) (same_Some n m f) (All-cons (With n) (op.Status n None) [] refl (All-nil (With n)));
    lead = λ y f. may.1 ∙ f;
    waits = λ y f. All-cons (Waits y) (op.Status n None) [] tt (All-nil (Waits y));
    aims = λ m y f. cc;
    goes = λ m way f. cc;
    asked = λ m p f. cc;
    looks = λ m y f. All-cons Looks (op.Status n None) [] refl (All-nil Looks);
    starts = λ m p f. cc;
  }
  decides-speaks r (by.Yields x ts) may s = silent _ refl refl refl (λ m p e. cc)
  decides-speaks r (by.Hands d ds way ts) may s = moving-speaks (record r { drained = ds }) d.no way
  decides-speaks r (by.Levels p q) may s = silent _ refl refl refl (λ m p e. cc)
  decides-speaks r (by.Crowns p) may s = silent _ refl refl refl (λ m p e. cc)
  decides-speaks r (by.Rejoins p) may s = silent _ refl refl refl (λ m p e. cc)
  decides-speaks r by.Closes may s = silent _ refl refl refl (λ m p e. cc)
  decides-speaks r d may s = alike r _ refl refl refl s

-- ---- the end of a stage

completes-speaks : (r : Recovery) (e : Ending) → MayEnd r e → SpeaksWith r → SpeaksWith (ended_by r e)
completes-speaks r (by.Trails n b) may s =
    let lead = s.lead b (ap lead_of may.0) in
    record {
      ops = λ m e. subst (λ (k : ServerNo). All (With k) (trail n b.no)) (same_Some n m e) (trail-speaks n b.no);
      lead = λ x e. lead ∙ e;
      waits = λ x e. subst (λ (y : Bridge). All (Waits y) (trail n b.no)) (same_Some b x e) (trail-waits n b);
      aims = λ m x e. subst (λ (y : Bridge). AimsAt (with_bridge r.core.seen b) m y) (same_Some b x (ap lead_of e)) (λ apart. bridge-aims r.core.seen b);
      goes = λ m way e. cc;
      asked = λ m p e. cc;
      looks = λ m x e. cc;
      starts = λ m p e. cc;
    }
completes-speaks r (by.Joins n b) may s = moving-speaks r n (way.Down b)
completes-speaks r e may s = silent _ refl refl refl (λ m p e. cc)

bears-speaks : (r : Recovery) (e : Bearing) → SpeaksWith (borne r (fate_of e))
bears-speaks r by.Drops = silent _ refl refl refl (λ m p e. cc)
bears-speaks r e = silent _ refl refl refl (λ m p e. cc)

-- what is left of a stage that places a replica, once it is ended, speaks with that one
moved-with : (s : Stage) (o : Op) (rest : List Op) (n : ServerNo) → o ∷ rest ≡ tail_of s → speaks_of (moved s) ≡ Some n → All (With n) rest
moved-with (stage.Move m by) o rest n t e =
    subst (λ (xs : List Op). All (With n) xs) (sym (same-tail o (move by m) rest (op.Start m ∷ []) t)) (All-cons (With n) (op.Start m) [] e (All-nil (With n)))
moved-with s o rest n t e = cc

pub entered-core : (r : Recovery) (s : Stage) → (entered r s).core ≡ r.core
entered-core r s = go (leaver s)
  where
    go : (o : Option ServerNo) → (follows_no_more r o).core ≡ r.core
    go None = refl
    go (Some n) = refl

pub entered-lead : (r : Recovery) (s : Stage) → (entered r s).lead ≡ r.lead
entered-lead r s = go (leaver s)
  where
    go : (o : Option ServerNo) → (follows_no_more r o).lead ≡ r.lead
    go None = refl
    go (Some n) = refl

-- only a move leads below a new source
moved-joins : (s : Stage) (o : Op) (rest : List Op) (n p : ServerNo) → o ∷ rest ≡ tail_of s → moved s ≡ stage.Join n p → All Asked rest
moved-joins (stage.Move m by) o rest n p e h =
    subst (λ (xs : List Op). All Asked xs) (sym (same-tail o (move by m) rest (op.Start m ∷ []) e)) (All-cons Asked (op.Start m) [] tt (All-nil Asked))
moved-joins (stage.Join m q) o rest n p e h = cc
moved-joins s o rest n p e h = cc

-- what leads to a follower's start leaves that
pub moved-starts : (s : Stage) (o : Op) (rest : List Op) (n p : ServerNo) → o ∷ rest ≡ tail_of s → (info (moved s)).made ≡ table.Follows n p → rest ≡ op.Start n ∷ []
moved-starts (stage.Move m by) o rest n p t h =
    let same : m ≡ n = ap follower_in h in same-tail o (move by m) rest (op.Start m ∷ []) t ∙ ap (λ (k : ServerNo). op.Start k ∷ []) same
  where
    follower_in : table.Made → ServerNo
    follower_in (table.Follows k x) = k
    follower_in _ = m
moved-starts (stage.Return q k) o rest n p t h =
    let same : k ≡ n = ap follower_in h in same-tail o (op.Cross cross.Back k q) rest (op.Start k ∷ []) t ∙ ap (λ (i : ServerNo). op.Start i ∷ []) same
  where
    follower_in : table.Made → ServerNo
    follower_in (table.Follows i x) = i
    follower_in _ = k
moved-starts (stage.Join m q) o rest n p t h = cc
moved-starts (stage.Resume q k) o rest n p t h = cc
moved-starts s o rest n p t h = cc

-- nothing leads to the position at which another stopped but a reading
moved-trails : (s : Stage) (n : ServerNo) (x : Bridge) → moved s ≡ stage.Trail n x → ⊥
moved-trails (stage.Trail m b) n x h = cc
moved-trails (stage.Look m b) n x h = cc
moved-trails s n x h = cc

-- nor to a change of source
pub moved-goes : (s : Stage) (n : ServerNo) (way : Way) → moved s ≡ stage.Move n way → ⊥
moved-goes (stage.Move m x) n way h = cc
moved-goes s n way h = cc

-- nor to that reading
moved-looks : (s : Stage) (n : ServerNo) (x : Bridge) → moved s ≡ stage.Look n x → ⊥
moved-looks (stage.Look m b) n x h = cc
moved-looks s n x h = cc

-- ---- changes of source

abbrev Unwaited : Attempt → Type 0
Unwaited (attempt.Goes o es k) = is_waiting k ≡ false
Unwaited (attempt.Stops c o) = Unit {0}
Unwaited (attempt.Ends lines) = Unit {0}

-- a change of source waits for nothing
attach-unwaited : (w : World) (j : Job) (rest : List Op) (n : ServerNo) (o : Option Exchange) → Unwaited (after_attach w j rest n o)
attach-unwaited w j rest n None = refl
attach-unwaited w j rest n (Some e) = by (can_attach w e)
  where
    go : (r : Result (Unit {0}) AttachFault) → Unwaited (after_answer j rest n e r)
    go (Ok t) = refl
    go (Err f) = tt

    by : (b : Bool) → Unwaited (cond b (after_answer j rest n e (attach_answer_of w e)) (attempt.Goes None [] (attempt.next j rest)))
    by true = go (attach_answer_of w e)
    by false = refl

move-unwaited : (w : World) (read : ℕ) (now : Moment) (j : Job) (rest : List Op) (n : ServerNo) (by : Way) → Unwaited (by_deed w read now j rest (deed_of (move by n)))
move-unwaited w read now j rest n (way.Down b) = attach-unwaited w j rest n (crossing_of j.seen cross.Down n b.no)
move-unwaited w read now j rest n (way.Up b) = attach-unwaited w j rest n (crossing_of j.seen cross.Up n b.no)
move-unwaited w read now j rest n (way.Auto to exec) = attach-unwaited w j rest n (by_set n to (seen_of j.seen to.0))
move-unwaited w read now j rest n (way.Match to exec every) = attach-unwaited w j rest n (by_match n to (match_found j.matches n to))

-- nor does a match
match-unwaited : (j : Job) (rest : List Op) (n m : ServerNo) (at : Spot) (r : Result Coord MatchFault) → Unwaited (after_match j rest n m at r)
match-unwaited j rest n m at (Ok c) = refl
match-unwaited j rest n m at (Err f) = tt

before-unwaited : (w : World) (read : ℕ) (now : Moment) (j : Job) (rest : List Op) (n : ServerNo) (by : Way) (o : Op) → before by n ≡ o ∷ [] → Unwaited (by_deed w read now j rest (deed_of o))
before-unwaited w read now j rest n (way.Match to exec every) o e =
    subst (λ (x : Op). Unwaited (by_deed w read now j rest (deed_of x))) (same-head (op.Match n to every) o [] [] e)
    (match-unwaited j rest n to (standing_at (server_at w n.0)) (match_logs w n to every))
before-unwaited w read now j rest n _ o e = cc

-- it goes by what was seen in whatever the job saw
before-shows : (by : Way) (n : ServerNo) (o : Op) (xs : List Sight) → before by n ≡ o ∷ [] → ShowsWay xs by
before-shows (way.Match to exec every) n o xs e = tt
before-shows _ n o xs e = cc

-- it ends its stage
pub move-ends : (n : ServerNo) (by : Way) → ends (stage.Move n by) (deed_of (move by n)) ≡ true
move-ends n (way.Down b) = refl
move-ends n _ = refl

-- what stops a job whose attachment is refused
record Refuses (w : World) (n : ServerNo) (c : Cause) (x : Exchange) : Type 0 where
  fault : AttachFault
  cause : c ≡ cause_by n fault
  answer : attach_answer_of w x ≡ Err fault

abbrev cause-in : Cause → Attempt → Cause
cause-in c (attempt.Goes o es k) = c
cause-in c (attempt.Stops x o) = x
cause-in c (attempt.Ends lines) = c

attach-refuses : (w : World) (j : Job) (rest : List Op) (n : ServerNo) (x : Exchange) (c : Cause) (ob : Option Observation) → after_attach w j rest n (Some x) ≡ attempt.Stops c ob → Refuses w n c x
attach-refuses w j rest n x c ob e = by (can_attach w x) e
  where
    go : (r : Result (Unit {0}) AttachFault) → attach_answer_of w x ≡ r → after_answer j rest n x r ≡ attempt.Stops c ob → Refuses w n c x
    go (Ok t) is h = cc
    go (Err f) is h = record { fault = f; cause = sym (ap (cause-in c) h); answer = is }

    by : (a : Bool) → cond a (after_answer j rest n x (attach_answer_of w x)) (attempt.Goes None [] (attempt.next j rest)) ≡ attempt.Stops c ob → Refuses w n c x
    by true h = go (attach_answer_of w x) refl h
    by false h = cc

-- a replica that is to go some way stops its job only if that attachment is refused
pub move-refused : (w : World) (read : ℕ) (now : Moment) (j : Job) (rest : List Op) (n : ServerNo) (by : Way) (c : Cause) (ob : Option Observation) → more_on by ≡ 1 → ShowsWay j.seen by
    → by_deed w read now j rest (deed_of (move by n)) ≡ attempt.Stops c ob → (f : AttachFault) × (c ≡ cause_by n f) × IsRefusedOn w j.seen n by f
move-refused w read now j rest n (way.Down b) c ob more shown e =
    let h = attach-refuses w j rest n (Attach n.0 (spot.At b.source b.exec) b.no b.own) c ob (sym (ap (λ o. after_attach w j rest n (crossed cross.Down n (bridge_at b.no o))) shown) ∙ e) in
    (h.fault, h.cause, h.answer)
move-refused w read now j rest n (way.Up b) c ob more shown e =
    let h = attach-refuses w j rest n (Attach n.0 (spot.At b.no b.own) b.source b.exec) c ob (sym (ap (λ o. after_attach w j rest n (crossed cross.Up n (bridge_at b.no o))) shown) ∙ e) in
    (h.fault, h.cause, h.answer)
move-refused w read now j rest n (way.Auto to exec) c ob more shown e = go (seen_of j.seen to.0) refl e
  where
    go : (o : Option Position) → seen_of j.seen to.0 ≡ o → after_attach w j rest n (by_set n to o) ≡ attempt.Stops c ob → (f : AttachFault) × (c ≡ cause_by n f) × IsRefusedOn w j.seen n (way.Auto to exec) f
    go None is h = cc
    go (Some s) is h = let y = attach-refuses w j rest n (AttachAuto n.0 s.set to) c ob h in (y.fault, y.cause, record { last = s; read = is; refused = y.answer })
move-refused w read now j rest n (way.Match to exec every) c ob more shown e = absurd (omega (arith, more))

-- by the match that was found
pub match-refused : (w : World) (read : ℕ) (now : Moment) (j : Job) (rest : List Op) (n to : ServerNo) (c : Cause) (ob : Option Observation) → by_deed w read now j rest (deed_of (op.CrossMatch n to)) ≡ attempt.Stops c ob
    → (x : Match) × (match_found j.matches n to ≡ Some x) × ((f : AttachFault) × (c ≡ cause_by n f) × (attach_answer_of w (Attach n.0 x.spot to x.at) ≡ Err f))
match-refused w read now j rest n to c ob e = go (match_found j.matches n to) refl e
  where
    go : (o : Option Match) → match_found j.matches n to ≡ o → after_attach w j rest n (by_match n to o) ≡ attempt.Stops c ob
        → (x : Match) × (match_found j.matches n to ≡ Some x) × ((f : AttachFault) × (c ≡ cause_by n f) × (attach_answer_of w (Attach n.0 x.spot to x.at) ≡ Err f))
    go None is h = cc
    go (Some x) is h = let y = attach-refuses w j rest n (Attach n.0 x.spot to x.at) c ob h in (x, is, (y.fault, y.cause, y.answer))

module _ (w : World) (read : ℕ) (now : Moment) (r : Recovery) (o : Op) (rest : List Op) (fits : Fits r.stage (o ∷ rest)) (s : SpeaksWith r) (is : r.core.ops ≡ o ∷ rest) where
  behind : (Q : Op → Type 0) → All Q r.core.ops → All Q rest
  behind Q all = All-tail Q o rest (subst (λ (xs : List Op). All Q xs) is all)

  pub due-speaks : (n : ServerNo) → speaks_of r.stage ≡ Some n → spoken_to (deed_of o) ≡ Some n
  due-speaks n e = All-head (With n) o rest (subst (λ (xs : List Op). All (With n) xs) is (s.ops n e))

  pub due-waits : (x : Bridge) → lead_of r.stage ≡ Some x → WaitsFor x (deed_of o)
  due-waits x e = All-head (Waits x) o rest (subst (λ (xs : List Op). All (Waits x) xs) is (s.waits x e))

  pub due-looks : (n : ServerNo) (x : Bridge) → r.stage ≡ stage.Look n x → is_look (deed_of o) ≡ true
  due-looks n x e = All-head Looks o rest (subst (λ (xs : List Op). All Looks xs) is (s.looks n x e))

  -- the operation of a stage that goes some way is its change of source, or that before it
  pub due-goes : (n : ServerNo) (by : Way) → r.stage ≡ stage.Move n by → ((o ≡ move by n) ⊎ ((before by n ≡ o ∷ []) × (rest ≡ tail_of (stage.Move n by)))) × ShowsWay r.core.seen by
  due-goes n by at = let g = s.goes n by at in (go by g.0, g.1)
    where
      go : (x : Way) → ((r.core.ops ≡ tail_of (stage.Move n x)) ⊎ (r.core.ops ≡ before x n ++ tail_of (stage.Move n x)))
          → (o ≡ move x n) ⊎ ((before x n ≡ o ∷ []) × (rest ≡ tail_of (stage.Move n x)))
      go x (inl e) = inl (same-head o (move x n) rest (op.Start n ∷ []) (sym is ∙ e))
      go (way.Down b) (inr e) = inl (same-head o (op.Cross cross.Down n b.no) rest (op.Start n ∷ []) (sym is ∙ e))
      go (way.Up b) (inr e) = inl (same-head o (op.Cross cross.Up n b.no) rest (op.Start n ∷ []) (sym is ∙ e))
      go (way.Auto to exec) (inr e) = inl (same-head o (op.Auto n to) rest (op.Start n ∷ []) (sym is ∙ e))
      go (way.Match to exec every) (inr e) = inr (
        ap (λ (x : Op). x ∷ []) (sym (same-head o (op.Match n to every) rest (op.CrossMatch n to ∷ op.Start n ∷ []) (sym is ∙ e))),
        same-tail o (op.Match n to every) rest (op.CrossMatch n to ∷ op.Start n ∷ []) (sym is ∙ e),
      )

  pub due-asked : (n p : ServerNo) → r.stage ≡ stage.Join n p → IsAsked (deed_of o)
  due-asked n p e = All-head Asked o rest (subst (λ (xs : List Op). All Asked xs) is (s.asked n p e))

  module _ (ob : Option Observation) (es : List Exchange) (k : Job) (e : by_deed w read now r.core rest (deed_of o) ≡ attempt.Goes ob es k) (went : WentOn r.core rest es k) where
    abbrev later : Recovery
    later = record r { core = k }

    -- what is waited for stays
    aims-on : (n : ServerNo) (x : Bridge) → r.stage ≡ stage.Trail n x → AimsAt k.seen n x
    aims-on n x at apart =
        ap (option_map (λ (y : Position). y.exec))
        (subst (λ (a : Attempt). SeesOnly r.core x.no.0 a) e (deed-sees w read now r.core rest (deed_of o) n x.no.0 (due-speaks n (ap speaks_of at)) (λ same. apart (sym same))))
        ∙ s.aims n x at apart

    -- a stage that goes some way waits for nothing, and ends with its change of source
    unwaited : (n : ServerNo) (by : Way) → r.stage ≡ stage.Move n by → is_waiting k ≡ false
    unwaited n by at = subst (λ (a : Attempt). Unwaited a) e (go (due-goes n by at).0)
      where
        go : (o ≡ move by n) ⊎ ((before by n ≡ o ∷ []) × (rest ≡ tail_of (stage.Move n by))) → Unwaited (by_deed w read now r.core rest (deed_of o))
        go (inl f) = subst (λ (y : Op). Unwaited (by_deed w read now r.core rest (deed_of y))) (sym f) (move-unwaited w read now r.core rest n by)
        go (inr f) = before-unwaited w read now r.core rest n by o f.0

    goes-on : k.ops ≡ rest → ends r.stage (deed_of o) ≡ false → (n : ServerNo) (by : Way) → r.stage ≡ stage.Move n by → GoesBy k n by
    goes-on left not-yet n by at = go (due-goes n by at).0
      where
        go : (o ≡ move by n) ⊎ ((before by n ≡ o ∷ []) × (rest ≡ tail_of (stage.Move n by))) → GoesBy k n by
        go (inl f) = absurd (false≢true (sym not-yet ∙ (ap (λ (x : Stage). ends x (deed_of o)) at ∙ ap (λ (y : Op). ends (stage.Move n by) (deed_of y)) f ∙ move-ends n by)))
        go (inr f) = (inl (left ∙ f.1), before-shows by n o k.seen f.0)

    same-speaks : (xs : List Op) → k.ops ≡ xs → ((n : ServerNo) (way : Way) → r.stage ≡ stage.Move n way → GoesBy k n way) → ((Q : Op → Type 0) → All Q r.core.ops → All Q xs)
        → ((n : ServerNo) → (r.core.ops ≡ op.Start n ∷ []) ⊎ (r.core.ops ≡ []) → (xs ≡ op.Start n ∷ []) ⊎ (xs ≡ [])) → SpeaksWith later
    same-speaks xs left goes on begins = record {
      ops = λ n h. subst (λ (ys : List Op). All (With n) ys) (sym left) (on (With n) (s.ops n h));
      lead = s.lead;
      waits = λ x h. subst (λ (ys : List Op). All (Waits x) ys) (sym left) (on (Waits x) (s.waits x h));
      aims = aims-on;
      goes = goes;
      asked = λ n p h. subst (λ (ys : List Op). All Asked ys) (sym left) (on Asked (s.asked n p h));
      looks = λ n x h. subst (λ (ys : List Op). All Looks ys) (sym left) (on Looks (s.looks n x h));
      starts = λ n p h. subst (λ (ys : List Op). (ys ≡ op.Start n ∷ []) ⊎ (ys ≡ [])) (sym left) (begins n (s.starts n p h));
    }

    -- once it is started nothing is left
    nothing-left : (n : ServerNo) → (r.core.ops ≡ op.Start n ∷ []) ⊎ (r.core.ops ≡ []) → (rest ≡ op.Start n ∷ []) ⊎ (rest ≡ [])
    nothing-left n (inl h) = inr (same-tail o (op.Start n) rest [] (sym is ∙ h))
    nothing-left n (inr h) = let bad : o ∷ rest ≡ [] = sym is ∙ h in cc

    pub stepped-speaks : is_waiting k ≡ false → SpeaksWith (stepped later o)
    stepped-speaks done = go (fits-step r.stage o rest fits)
      where
        on : (Q : Op → Type 0) → All Q rest → All Q (entered later (moved r.stage)).core.ops
        on Q all = subst (λ (j : Job). All Q j.ops) (sym (entered-core later (moved r.stage))) (subst (λ (xs : List Op). All Q xs) (sym (went.done done)) all)

        go : ((ends r.stage (deed_of o) ≡ false) × Fits r.stage rest) ⊎ (o ∷ rest ≡ tail_of r.stage) → SpeaksWith (stepped later o)
        go (inl p) = subst (λ (x : Bool). SpeaksWith (cond x (entered later (moved r.stage)) later)) (sym p.0) (same-speaks rest (went.done done) (goes-on (went.done done) p.0) behind nothing-left)
        go (inr t) =
            subst (λ (x : Bool). SpeaksWith (cond x (entered later (moved r.stage)) later)) (sym (moved-fits r.stage o rest t).0)
            (record {
              ops = λ n h. on (With n) (moved-with r.stage o rest n t h);
              lead = λ x h. entered-lead later (moved r.stage) ∙ s.lead x (sym (moved-leads r.stage) ∙ h);
              waits = λ x h. on (Waits x) (behind (Waits x) (s.waits x (sym (moved-leads r.stage) ∙ h)));
              aims = λ n x h. absurd (moved-trails r.stage n x h);
              goes = λ n way h. absurd (moved-goes r.stage n way h);
              asked = λ n p h. on Asked (moved-joins r.stage o rest n p t h);
              looks = λ n x h. absurd (moved-looks r.stage n x h);
              starts = λ n p h.
                  subst (λ (j : Job). (j.ops ≡ op.Start n ∷ []) ⊎ (j.ops ≡ [])) (sym (entered-core later (moved r.stage))) (inl (went.done done ∙ moved-starts r.stage o rest n p t h));
            })

module _ (w : World) (b : BookState) (read : ℕ) (now : Moment) (rings : HeldRings w b.rings) where
  fits-of : (r : Recovery) (o : Op) (rest : List Op) → r.core.ops ≡ o ∷ rest → HeldRecovery w r → Fits r.stage (o ∷ rest)
  fits-of r o rest is held = subst (λ (xs : List Op). Fits r.stage xs) is held.fits

  keeps-speaks : Keeps w b read now (λ r. HeldRecovery w r × SpeaksWith r) (λ v r. SpeaksWith r) (λ v r. SpeaksWith r)
  keeps-speaks = record {
    decides = λ r d may h. (decides-held w b now rings r d may h.0, decides-speaks w b now r d may h.1);
    waits = λ r o rest ob es j did e h.
        let on = went-of w read now r o rest ob es j did in
        same-speaks w read now r o rest (fits-of r o rest did.ops h.0) h.1 did.ops ob es j did.goes on r.core.ops (on.waits e).0 (λ n way at. absurd (false≢true (sym (unwaited w read now r o rest (fits-of r o rest did.ops h.0) h.1 did.ops ob es j did.goes on n way at) ∙ e))) (λ Q all. all) (λ n h. h);
    acts = λ r o rest ob es j did e h.
        stepped-speaks w read now r o rest (fits-of r o rest did.ops h.0) h.1 did.ops ob es j did.goes (went-of w read now r o rest ob es j did) e;
    continues = λ v r x xs is s. s;
    completes = λ v r e none may s. completes-speaks r e may s;
    bears = λ r o rest c ob e stops is may h. bears-speaks r e;
  }

pub taken-speaks : (w : World) (b : BookState) (read : ℕ) (now : Moment) (r : Recovery) → HeldRings w b.rings → HeldRecovery w r → Speaks r → is_going (taken w b read now r).step ≡ true
    → Speaks (taken w b read now r).recovery
taken-speaks w b read now r rings held s going = record {
  says = kept-along w b read now (λ x. HeldRecovery w x × SpeaksWith x) (λ v x. SpeaksWith x) (λ v x. SpeaksWith x) (keeps-speaks w b read now rings) r (held, s.says) going;
  way = taken-way w b read now r held.fits s.way going;
  knows = taken-knows w b now r held.named read rings held (inl s.way) s.listed s.knows going;
  listed = taken-listed w b read now r rings held s.listed going;
  changes = taken-its w b read now r s.changes going;
  cares = taken-cared w b now r (λ x. true) (λ d x so is. refl) read rings held s.cares;
  asks = taken-asks w b read now r rings held s.way s.cares s.asks going;
}

begun-says : (u : Purpose) (by : Means) (id wait : ℕ) (f : ServerNo) (ns order : List ServerNo) → SpeaksWith (begun_recovery u by id wait f ns order)
begun-says purpose.Regroup by id wait f ns order = silent (begun_recovery purpose.Regroup by id wait f ns order) refl refl refl (λ n p e. cc)
begun-says x by id wait f ns order = silent (begun_recovery x by id wait f ns order) refl refl refl (λ n p e. cc)

pub begun-speaks : (u : Purpose) (by : Means) (id wait : ℕ) (f : ServerNo) (ns order : List ServerNo) → Speaks (begun_recovery u by id wait f ns order)
begun-speaks u by id wait f ns order = record {
  says = begun-says u by id wait f ns order;
  way = begun-way u by id wait f ns order;
  knows = begun-knows u by id wait f ns order;
  listed = begun-listed u by id wait f ns order;
  changes = begun-changes u by id wait f ns order;
  cares = begun-cared (λ x. true) u by id wait f ns order;
  asks = begun-asks u by id wait f ns order;
}
