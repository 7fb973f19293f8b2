-- What each that might have been chosen had when it was drained is a prefix of what the promoted server has.
use Rattle.std.proofs.Common.{◌≡◌, ℕ, ◌≤◌, Bool, true, false, cond, List, ◌∷◌, ◌++◌, length, take, drop, get_or, sym, ◌∙◌, ap, subst, Option, Some, None, ◌⊎◌, inl, inr, arith, filter, not}
use Rattle.recovery_covers.proofs.Prelude.{All, All-chosen, All-contains, All-filter, All-nil, All-weaker, AllAllowed, Attached, Bearing, BookState, Coord}
use Rattle.recovery_covers.proofs.Prelude.{CoversSoFar, Decision, Detached, Ending, Exchange, Follower, Grows, Grows-run, HasSwapped, HeldRecovery, HeldRings}
use Rattle.recovery_covers.proofs.Prelude.{IsAsNamed, IsBeginning, IsSoundStop, IsStopped, IsTold, IsUnder, KeptByChosen, Line, MayDecide, Means, Moment, Op}
use Rattle.recovery_covers.proofs.Prelude.{Placed, Purpose, Recovery, Safe, Server, ServerNo, SoundRecovery, SoundRings, SourceState, Stopped, Txn, Without}
use Rattle.recovery_covers.proofs.Prelude.{World, and_parts, attached_no, begun_recovery, borne, chosen-logs, chosen_of, decided_by, decides-held}
use Rattle.recovery_covers.proofs.Prelude.{decides-sound, deed_of, ended_by, ends, entered, fate_of, filter_passes, follows_no_more, ground_of, is_at_or_before}
use Rattle.recovery_covers.proofs.Prelude.{is_barred, kept-whole, leaver, length-take, length-take-le, logs_at, logs_by, may_lead, moved, place, place-monotone}
use Rattle.recovery_covers.proofs.Prelude.{rule_at, run, same_Some, source_no, stepped, stopped_nos, take-append-drop, take-append-le, taken, taken-held, times}
use Rattle.recovery_covers.specs.Kept.{Keeps}
use Rattle.recovery_laws.specs.ServerModel.Bridges.{Stands}
use Rattle.recovery_covers.proofs.Prelude.by
use Rattle.recovery_covers.proofs.Prelude.purpose
use Rattle.recovery_covers.proofs.Prelude.walk
use Rattle.recovery_covers.proofs.Ordering.{chosen-most}

-- ---- beginnings

-- the first part of a list that goes on
take-prefix : (k : ℕ) (xs ys : List Txn) → take (length xs) ys ≡ xs → k ≤ length xs → take k ys ≡ take k xs
take-prefix k xs ys p le =
    let parts : xs ++ drop (length xs) ys ≡ ys = ap (λ front. front ++ drop (length xs) ys) (sym p) ∙ take-append-drop (length xs) ys in
    ap (take k) (sym parts) ∙ take-append-le k xs (drop (length xs) ys) le

length-prefix : (xs ys : List Txn) → take (length xs) ys ≡ xs → length xs ≤ length ys
length-prefix xs ys p = omega (arith, ap length p, length-take (length xs) ys)

-- a prefix of a prefix that two share
shared : (k m : ℕ) (xs ys : List Txn) → k ≤ m → m ≤ length xs → m ≤ length ys → take m xs ≡ take m ys → take k xs ≡ take k ys
shared k m xs ys le long_x long_y same =
    let len : length (take m ys) ≡ m = length-take-le m ys long_y in
    take-prefix k (take m ys) xs (ap (λ i. take i xs) len ∙ same) (omega (arith, le, len))
    ∙ sym (take-prefix k (take m ys) ys (ap (λ i. take i ys) len) (omega (arith, le, len)))

-- what goes on keeps what it kept
Keeps-run : (w : World) (es : List Exchange) (f : ℕ) (at : Coord) (n : ℕ) → Placed w → AllAllowed w es → Keeps w f at n → Keeps (run w es) f at n
Keeps-run w es f at n placed allowed k =
    let grows : Grows w (run w es) = Grows-run w es placed allowed in
    let s = grows f k.source k.source_at in
    let x = grows n k.server k.server_at_n in
    record {
      source = s.0;
      server = x.0;
      source_at = s.1;
      server_at_n = x.1;
      count = k.count;
      place_at = s.2.places at k.count k.place_at;
      within = omega (arith, k.within, length-prefix k.server.history.txns x.0.history.txns x.2.prefix);
      source_within = omega (arith, k.source_within, length-prefix k.source.history.txns s.0.history.txns s.2.prefix);
      alike =
          take-prefix k.count k.server.history.txns x.0.history.txns x.2.prefix k.within ∙ k.alike
          ∙ sym (take-prefix k.count k.source.history.txns s.0.history.txns s.2.prefix k.source_within);
    }

-- two that stood below one server: the one that executed more has what the other had
behind-keeps : (w : World) (p d f : ℕ) (own_p own_d at_p at_d : Coord) → is_at_or_before at_d at_p ≡ true → Stands w p f own_p at_p → Stands w d f own_d at_d → Keeps w f at_d p
behind-keeps w p d f own_p own_d at_p at_d le sp sd =
    let same : sd.source ≡ sp.source = same_Some sd.source sp.source (sym sd.source_at ∙ sp.source_at) in
    let place_d : place sp.source.log.log at_d ≡ Some sd.bridges.count = ap (λ (s : Server). place s.log.log at_d) (sym same) ∙ sd.bridges.exec_place in
    let less : sd.bridges.count ≤ sp.bridges.count = place-monotone sp.source.log.log at_d at_p sd.bridges.count sp.bridges.count le place_d sp.bridges.exec_place in
    record {
      source = sp.source;
      server = sp.replica;
      source_at = sp.source_at;
      server_at_n = sp.replica_at;
      count = sd.bridges.count;
      place_at = place_d;
      within = omega (arith, less, sp.bridges.own_within);
      source_within = omega (arith, less, sp.bridges.exec_within);
      alike = shared sd.bridges.count sp.bridges.count sp.replica.history.txns sp.source.history.txns less sp.bridges.own_within sp.bridges.exec_within sp.bridges.alike;
    }

-- ---- the choice

module _ (w : World) (b : BookState) (now : Moment) (r : Recovery) (held : HeldRecovery w r) (sound : SoundRecovery w r) where
  -- a stopped one that logs was at the position at which it was seen
  stood : (s : Stopped) → IsStopped w r.core.seen r.failed s → IsSoundStop w r.failed s → logs_at w s.no ≡ true → (own : Coord) × Stands w s.no.0 r.failed.0 own s.exec
  stood s stopped stands logs = let own = stopped.logs (sym (ap logs_by stopped.there) ∙ logs) in (own.0, stands own.0 own.1)

  may-logs : (s : Stopped) → may_lead (ground_of w b now) s ≡ true → logs_at w s.no ≡ true
  may-logs s h = (and_parts (logs_at w s.no) (not (is_barred (rule_at b s.no now))) h).0

  -- the chosen one has what each that might have been chosen had
  chosen-keeps : ((n : ℕ) → times n (stopped_nos r.drained) ≤ 1) → (p : Stopped) → chosen_of (ground_of w b now) r.failed r.drained ≡ Some p → All (λ s. Keeps w r.failed.0 s.exec p.no.0) (filter (may_lead (ground_of w b now)) r.drained)
  chosen-keeps once p is =
      go (filter (may_lead (ground_of w b now)) r.drained) (All-filter (may_lead (ground_of w b now)) (IsStopped w r.core.seen r.failed) r.drained held.drained)
      (All-filter (may_lead (ground_of w b now)) (IsSoundStop w r.failed) r.drained sound.drained) (filter_passes (may_lead (ground_of w b now)) r.drained)
      (All-filter (may_lead (ground_of w b now)) (λ (s : Stopped). may_lead (ground_of w b now) s ≡ true → is_at_or_before s.exec p.exec ≡ true) r.drained (chosen-most w b now r.failed r.drained once p is))
    where
      mine : (own : Coord) × Stands w p.no.0 r.failed.0 own p.exec
      mine =
          stood p (All-chosen w b now r.failed (IsStopped w r.core.seen r.failed) r.drained p held.drained is) (All-chosen w b now r.failed (IsSoundStop w r.failed) r.drained p sound.drained is)
          (chosen-logs w b now r.failed r.drained p is)

      go : (ys : List Stopped) → All (IsStopped w r.core.seen r.failed) ys → All (IsSoundStop w r.failed) ys → All (λ s. may_lead (ground_of w b now) s ≡ true) ys
          → All (λ s. may_lead (ground_of w b now) s ≡ true → is_at_or_before s.exec p.exec ≡ true) ys → All (λ s. Keeps w r.failed.0 s.exec p.no.0) ys
      go ys hs ss es os =
          λ i d lt. let s = get_or ys i d in
          let own = stood s (hs i d lt) (ss i d lt) (may-logs s (es i d lt)) in
          behind-keeps w p.no.0 s.no.0 r.failed.0 mine.0 own.0 p.exec s.exec (os i d lt (es i d lt)) mine.1 own.1

-- ---- a turn keeps the choice

pub kept-run : (w : World) (es : List Exchange) (r : Recovery) → Placed w → AllAllowed w es → KeptByChosen w r → KeptByChosen (run w es) r
kept-run w es r placed allowed kept p is =
    All-weaker (λ (s : Stopped). Keeps w r.failed.0 s.exec p.0) (λ (s : Stopped). Keeps (run w es) r.failed.0 s.exec p.0)
    (λ s h. Keeps-run w es r.failed.0 s.exec p.0 placed allowed h) r.eligible (kept p is)

pub begun-kept : (w : World) (u : Purpose) (by : Means) (id wait : ℕ) (f : ServerNo) (ns order : List ServerNo) → KeptByChosen w (begun_recovery u by id wait f ns order)
begun-kept w u by id wait f ns order p h = All-nil (λ (s : Stopped). Keeps w f.0 s.exec p.0)

-- nobody is drained twice
abbrev IsDrainedOnce : Recovery → Type 0
IsDrainedOnce r = (n : ℕ) → times n (stopped_nos r.drained) ≤ 1

-- `Held`, `Sound` and kept, with nobody drained twice
record KeepsChoice (w : World) (r : Recovery) : Type 0 where
  pub held : HeldRecovery w r
  pub sound : SoundRecovery w r
  pub once : IsDrainedOnce r
  pub kept : KeptByChosen w r

drained-once : (w : World) (r : Recovery) → CoversSoFar w r → IsDrainedOnce r
drained-once w r c n = let e = c.at.once n in let most = c.at.replicas.distinct n in omega (arith, e, most)

others-once : (r : Recovery) (d : Stopped) (ds : List Stopped) → r.drained ≡ d ∷ ds → IsDrainedOnce r → (n : ℕ) → times n (stopped_nos ds) ≤ 1
others-once r d ds is once n =
    let e : times n (stopped_nos r.drained) ≡ times n (stopped_nos (d ∷ ds)) = ap (λ (xs : List Stopped). times n (stopped_nos xs)) is in
    let most = once n in omega (arith, e, most)

module _ (w : World) (b : BookState) (read : ℕ) (now : Moment) (rings : HeldRings w b.rings) (stand : SoundRings w b.rings) where
  decides-once : (r : Recovery) (d : Decision) → MayDecide (ground_of w b now) r d → IsDrainedOnce r → IsDrainedOnce (decided_by (ground_of w b now) r d)
  decides-once r (by.Chooses p ts) may once n = let none : 0 ≤ 1 = omega arith in none
  decides-once r (by.ChoosesNobody ts) may once n = let none : 0 ≤ 1 = omega arith in none
  decides-once r (by.HandedOver ts) may once n = let none : 0 ≤ 1 = omega arith in none
  decides-once r (by.Hands d ds way ts) may once n = others-once r d ds may.drained once n
  decides-once r (by.Leaves d ds ts) may once n = others-once r d ds may.drained once n
  decides-once r d may once n = once n

  decides-kept : (r : Recovery) (d : Decision) → MayDecide (ground_of w b now) r d → KeepsChoice w r → KeptByChosen w (decided_by (ground_of w b now) r d)
  decides-kept r (by.Chooses x ts) may h p is =
      subst (λ (n : ServerNo). All (λ s. Keeps w r.failed.0 s.exec n.0) (filter (may_lead (ground_of w b now)) r.drained)) (same_Some x.no p is)
      (chosen-keeps w b now r h.held h.sound h.once x may.1)
  decides-kept r (by.ChoosesNobody ts) may h p is = cc
  decides-kept r (by.Sticks t ts) may h p is = cc
  decides-kept r d may h p is = h.kept p is

  decides-all : (r : Recovery) (d : Decision) → MayDecide (ground_of w b now) r d → KeepsChoice w r → KeepsChoice w (decided_by (ground_of w b now) r d)
  decides-all r d may h = record {
    held = decides-held w b now rings r d may h.held;
    sound = decides-sound w b now rings stand r d may h.held h.sound;
    once = decides-once r d may h.once;
    kept = decides-kept r d may h;
  }

  stepped-kept : (r : Recovery) (o : Op) → KeptByChosen w r → KeptByChosen w (stepped r o)
  stepped-kept r o kept = go (ends r.stage (deed_of o))
    where
      enter : (k : Option ServerNo) → KeptByChosen w (record (follows_no_more r k) { stage = moved r.stage })
      enter None p is = kept p is
      enter (Some n) p is = kept p is

      go : (c : Bool) → KeptByChosen w (cond c (entered r (moved r.stage)) r)
      go true = enter (leaver (moved r.stage))
      go false = kept

  completes-kept : (r : Recovery) (e : Ending) → KeptByChosen w r → KeptByChosen w (ended_by r e)
  completes-kept r by.Rests kept p is = kept p is
  completes-kept r e kept p is = kept p is

  bears-kept : (r : Recovery) (e : Bearing) → KeptByChosen w r → KeptByChosen w (borne r (fate_of e))
  bears-kept r by.Drops kept p is = kept p is
  bears-kept r e kept p is = kept p is

  -- of the world before the turn's exchanges
  keeps-kept : walk.Keeps w b read now (KeepsChoice w) (λ v r. KeptByChosen w r) (λ v r. KeptByChosen w r)
  keeps-kept = record {
    decides = decides-all;
    waits = λ r o rest ob es j did e h p is. h.kept p is;
    acts = λ r o rest ob es j did e h. stepped-kept (record r { core = j }) o (λ p is. h.kept p is);
    continues = λ v r x xs is kept. kept;
    completes = λ v r e none may kept. completes-kept r e kept;
    bears = λ r o rest c ob e stops is may h. bears-kept r e h.kept;
  }

pub taken-kept : (w : World) (b : BookState) (read : ℕ) (now : Moment) (r : Recovery) → Placed w → HeldRings w b.rings → SoundRings w b.rings → HeldRecovery w r → SoundRecovery w r → CoversSoFar w r
    → KeptByChosen w r → KeptByChosen (run w (taken w b read now r).exchanges) (taken w b read now r).recovery
taken-kept w b read now r placed rings stand held sound covers kept =
    kept-run w (taken w b read now r).exchanges (taken w b read now r).recovery placed (taken-held w b read now r placed rings held).allowed
    (kept-whole w b read now (KeepsChoice w) (λ v s. KeptByChosen w s) (λ v s. KeptByChosen w s) (keeps-kept w b read now rings stand)
    (record { fails = λ s c ob why h p is. h.kept p is; finishes = λ s o rest lines is e h p at. h.kept p at }) r
    (record { held = held; sound = sound; once = drained-once w r covers; kept = kept }))

-- ---- the promoted one

under-source : (x : SourceState) (m : ℕ) → attached_no x ≡ Some m → source_no x ≡ Some m
under-source Without m h = h
under-source (Attached k) m h = h
under-source (Detached k) m h = cc

-- what an attached server has executed is a prefix of what its source has
pub under-begins : (w : World) (p q : ℕ) → Safe w → IsUnder w p q → IsBeginning w p q
under-begins w p q safe u =
    let from = under-source u.server.source q u.under in
    let source = safe.logging p q u.server u.there from in
    record { first = u.server; second = source.0; first_at = u.there; second_at = source.1; prefix = (safe.well p q u.server source.0 u.there from source.1).prefix }

-- what a replica keeps its source keeps
source-keeps : (w : World) (f : ℕ) (at : Coord) (p q : ℕ) → IsBeginning w p q → Keeps w f at p → Keeps w f at q
source-keeps w f at p q x k =
    let same : x.first ≡ k.server = same_Some x.first k.server (sym x.first_at ∙ k.server_at_n) in
    let prefix : take (length k.server.history.txns) x.second.history.txns ≡ k.server.history.txns =
    subst (λ (s : Server). take (length s.history.txns) x.second.history.txns ≡ s.history.txns) same x.prefix in
    record {
      source = k.source;
      server = x.second;
      source_at = k.source_at;
      server_at_n = x.second_at;
      count = k.count;
      place_at = k.place_at;
      within = omega (arith, k.within, length-prefix k.server.history.txns x.second.history.txns prefix);
      source_within = k.source_within;
      alike = take-prefix k.count k.server.history.txns x.second.history.txns prefix k.within ∙ k.alike;
    }

-- at the end the promoted one keeps what the chosen one keeps
pub promoted-keeps : (w : World) (r : Recovery) (lines : List Line) (n : ServerNo) → Safe w → KeptByChosen w r → IsTold w r lines → r.outcome.promoted ≡ Some n
    → All (λ s. Keeps w r.failed.0 s.exec n.0) r.eligible
promoted-keeps w r lines n safe kept told is = go told.leads
  where
    go : (r.outcome.promoted ≡ r.chosen) ⊎ HasSwapped r → All (λ s. Keeps w r.failed.0 s.exec n.0) r.eligible
    go (inl e) = kept n (sym e ∙ is)
    go (inr l) =
        let under = All-contains (λ (x : Follower). IsUnder w x.no.0 x.source.0) r.outcome.followers (record { no = l.was; source = l.is }) told.covers.attached l.follows in
        All-weaker (λ (s : Stopped). Keeps w r.failed.0 s.exec l.was.0) (λ (s : Stopped). Keeps w r.failed.0 s.exec n.0)
        (λ s h. subst (λ (m : ServerNo). Keeps w r.failed.0 s.exec m.0) (same_Some l.is n (sym l.promoted ∙ is))
        (source-keeps w r.failed.0 s.exec l.was.0 l.is.0 (under-begins w l.was.0 l.is.0 safe under) h)) r.eligible (kept l.was l.chosen)

-- the old master of a takeover follows the designated one
pub old-begins : (w : World) (r : Recovery) (lines : List Line) (d : ServerNo) → Safe w → IsTold w r lines → r.purpose ≡ purpose.Takeover d → IsBeginning w r.failed.0 d.0
old-begins w r lines d safe told is = under-begins w r.failed.0 d.0 safe (go r.purpose is told.covers.named)
  where
    go : (u : Purpose) → u ≡ purpose.Takeover d → IsAsNamed u r.failed r.outcome → IsUnder w r.failed.0 d.0
    go (purpose.Takeover x) e h =
        let same : x ≡ d = ap of-takeover e in
        subst (λ (n : ServerNo). IsUnder w r.failed.0 n.0) same
        (All-contains (λ (y : Follower). IsUnder w y.no.0 y.source.0) r.outcome.followers (record { no = r.failed; source = x }) told.covers.attached h.1)
      where
        of-takeover : Purpose → ServerNo
        of-takeover purpose.Regroup = d
        of-takeover purpose.Master = d
        of-takeover (purpose.Intermediate s) = s
        of-takeover (purpose.Takeover y) = y
    go _ e h = cc
