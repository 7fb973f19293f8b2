-- Each attachment of a turn is the one by which its replica was sent, or by which two servers change places.
use Rattle.std.proofs.Common.{◌≡◌, ℕ, Bool, true, false, List, [], ◌∷◌, refl, sym, ◌∙◌, ap, subst, Option, Some, None, ◌⊎◌, inl, inr, ◌||◌, ◌&&◌, option_map}
use Rattle.recovery_reasons.proofs.Prelude.{All, All-cons, All-nil, AreSent, Ask, Attach, AttachAuto, AttachesAsSent, Attempt, Attempts, BookState}
use Rattle.recovery_reasons.proofs.Prelude.{Coord, Decisions, Deed, Does, Exchange, ExplainsTruly, Fact, Fits, HeldRecovery, HeldRings, IsMadeSo, Job}
use Rattle.recovery_reasons.proofs.Prelude.{Match, Moment, Observation, Op, Position, Recovery, Request, ServerNo, ShowsWay, SourceState, Speaks}
use Rattle.recovery_reasons.proofs.Prelude.{SpeaksWith, Stage, Taken, Turning, Way, World, attachment-is, attachment_by, attachment_of, attempts}
use Rattle.recovery_reasons.proofs.Prelude.{bridge_at, bridge_by, by_deed, by_match, by_set, crossed, decisions-keep, deed_of, ends}
use Rattle.recovery_reasons.proofs.Prelude.{false≢true, fits-step, ground_of, is_finish, is_going, is_look, match_found, move, moves, reads_last}
use Rattle.recovery_reasons.proofs.Prelude.{same-head, same_Some, seen_of, tail_of, taken, taken-walks}
use Rattle.recovery_reasons.proofs.Prelude.asking
use Rattle.recovery_reasons.proofs.Prelude.attempt
use Rattle.recovery_reasons.proofs.Prelude.by
use Rattle.recovery_reasons.proofs.Prelude.cross
use Rattle.recovery_reasons.proofs.Prelude.deed
use Rattle.recovery_reasons.proofs.Prelude.makes
use Rattle.recovery_reasons.proofs.Prelude.op
use Rattle.recovery_reasons.proofs.Prelude.source
use Rattle.recovery_reasons.proofs.Prelude.spot
use Rattle.recovery_reasons.proofs.Prelude.stage
use Rattle.recovery_reasons.proofs.Prelude.way
use Rattle.recovery_reasons.proofs.Readings.{fits-of}
use Rattle.recovery_reasons.proofs.Sending.{Before, decides-sent}
use Rattle.recovery_reasons.proofs.Prelude.doing

-- ---- the exchanges of an operation

module _ (w : World) (Q : Exchange → Type 0) (asks : (n : ℕ) (a : Ask) → Q (Request n a)) where
  abbrev Well : Attempt → Type 0
  Well (attempt.Goes o es k) = All Q es
  Well (attempt.Stops c o) = Unit {0}
  Well (attempt.Ends lines) = Unit {0}

  nothing : All Q []
  nothing = All-nil Q

  one : (e : Exchange) → Q e → All Q (e ∷ [])
  one e h = All-cons Q e [] h nothing

  module _ (j : Job) (rest : List Op) where
    makes-by : (read : ℕ) (now : Moment) (d : Deed) (a : Attempt) → Attempts w read now j rest d a → ((e : Exchange) → attachment_of j d ≡ Some e → Q e) → Well a
    makes-by read now d a (doing.Misses n from c why) h = tt
    makes-by read now d a (doing.Fails x c why) h = tt
    makes-by read now d a (doing.Asks n b) h = one (Request n.0 b) (asks n.0 b)
    makes-by read now d a (doing.Begins n to c until) h = one (Request n.0 (asking.StartUntil c)) (asks n.0 (asking.StartUntil c))
    makes-by read now d a (doing.Attaches n x e is made of can done) h = one e (h e (sym (attachment-is j n x is) ∙ made))
    makes-by read now d a (doing.Finishes lines) h = tt
    makes-by read now d a _ h = nothing

    deed-makes : (read : ℕ) (now : Moment) (d : Deed) → ((e : Exchange) → attachment_of j d ≡ Some e → Q e) → Well (by_deed w read now j rest d)
    deed-makes read now d h = makes-by read now d (by_deed w read now j rest d) (attempts w read now j rest d) h

-- ---- attachments

unattached : (x : Exchange) → None ≡ Some x → ⊥
unattached x e = cc

-- what ends no stage attaches nobody
still-attaches : (j : Job) (d : Deed) → moves d ≡ false → attachment_of j d ≡ None
still-attaches j (deed.Cross c a b) h = absurd (false≢true (sym h))
still-attaches j (deed.Same n) h = absurd (false≢true (sym h))
still-attaches j (deed.Auto n m) h = absurd (false≢true (sym h))
still-attaches j (deed.CrossMatch n m) h = absurd (false≢true (sym h))
still-attaches j (deed.Look n from) h = refl
still-attaches j d h = refl

unmoving : (d : Deed) (reads : Bool) → (moves d || ((reads && is_look d) || is_finish d)) ≡ false → moves d ≡ false
unmoving d reads h = first (moves d) h
  where
    first : (a : Bool) → (a || ((reads && is_look d) || is_finish d)) ≡ false → a ≡ false
    first true e = absurd (false≢true (sym e))
    first false e = refl

-- what a replica's change of source is, if what it goes by was seen
pub way-attachment : (r : Recovery) (n : ServerNo) (go : Way) → ShowsWay r.core.seen go → attachment_of r.core (deed_of (move go n)) ≡ attachment_by r n go
way-attachment r n (way.Down y) shown = ap (λ o. crossed cross.Down n (bridge_at y.no o)) shown
way-attachment r n (way.Up y) shown = ap (λ o. crossed cross.Up n (bridge_at y.no o)) shown
way-attachment r n (way.Auto to exec) shown = as-set (seen_of r.core.seen to.0)
  where
    as-set : (o : Option Position) → by_set n to o ≡ option_map (λ (s : Position). AttachAuto n.0 s.set to) o
    as-set None = refl
    as-set (Some s) = refl
way-attachment r n (way.Match to exec every) shown = as-match (match_found r.core.matches n to)
  where
    as-match : (o : Option Match) → by_match n to o ≡ option_map (λ (x : Match). Attach n.0 x.spot to x.at) o
    as-match None = refl
    as-match (Some x) = refl

module _ (P : Fact → Bool) (r : Recovery) where
  abbrev Each : Exchange → Type 0
  Each e = IsMadeSo P r e

  as-made : (x : Exchange) → Each x → (e : Exchange) → Some x ≡ Some e → Each e
  as-made x h e same = subst Each (same_Some x e same) h

  -- a server goes below its replica
  about-made : (p q : ServerNo) → (r.stage ≡ stage.Swap p q) ⊎ (r.stage ≡ stage.Switch p q) → (e : Exchange) → crossed cross.About p (bridge_at q (seen_of r.core.seen q.0)) ≡ Some e → Each e
  about-made p q at e h = go (seen_of r.core.seen q.0) refl h
    where
      by-end : (s : Position) → seen_of r.core.seen q.0 ≡ Some s → (o : Option Coord) → s.own_end ≡ o → (x : SourceState) → crossed cross.About p (bridge_by q o x s.exec) ≡ Some e → Each e
      by-end s is None end x g = absurd (unattached e g)
      by-end s is (Some own) end source.Without g = absurd (unattached e g)
      by-end s is (Some own) end _ g = as-made (Attach p.0 (spot.OwnEnd s.exec) q own) (makes.About p q own s at is end) e g

      go : (o : Option Position) → seen_of r.core.seen q.0 ≡ o → crossed cross.About p (bridge_at q o) ≡ Some e → Each e
      go None is g = absurd (unattached e g)
      go (Some s) is g = by-end s is s.own_end refl s.source g

  -- and the replica goes back
  back-made : (p q : ServerNo) → r.stage ≡ stage.Return p q → (e : Exchange) → crossed cross.Back q (bridge_at q (seen_of r.core.seen q.0)) ≡ Some e → Each e
  back-made p q at e h = go (seen_of r.core.seen q.0) refl h
    where
      by-end : (s : Position) → seen_of r.core.seen q.0 ≡ Some s → (o : Option Coord) → s.own_end ≡ o → (x : SourceState) → s.source ≡ x → crossed cross.Back q (bridge_by q o x s.exec) ≡ Some e → Each e
      by-end s is None end x below g = absurd (unattached e g)
      by-end s is (Some own) end source.Without below g = absurd (unattached e g)
      by-end s is (Some own) end (source.Attached m) below g = as-made (Attach q.0 (spot.OwnEnd own) m s.exec) (makes.Back p q m own s at is end (inl below)) e g
      by-end s is (Some own) end (source.Detached m) below g = as-made (Attach q.0 (spot.OwnEnd own) m s.exec) (makes.Back p q m own s at is end (inr below)) e g

      go : (o : Option Position) → seen_of r.core.seen q.0 ≡ o → crossed cross.Back q (bridge_at q o) ≡ Some e → Each e
      go None is g = absurd (unattached e g)
      go (Some s) is g = by-end s is s.own_end refl s.source refl g

  module _ (speaks : SpeaksWith r) (sent : AreSent P r) (o : Op) (rest : List Op) where
    -- what ends a stage
    tail-made : (s : Stage) → r.stage ≡ s → o ∷ rest ≡ tail_of s → (e : Exchange) → attachment_of r.core (deed_of o) ≡ Some e → Each e
    tail-made s at t e h = go s at t
      where
        like : (x : Op) (xs : List Op) → o ∷ rest ≡ x ∷ xs → attachment_of r.core (deed_of x) ≡ Some e
        like x xs same = subst (λ (y : Op). attachment_of r.core (deed_of y) ≡ Some e) (same-head o x rest xs same) h

        go : (k : Stage) → r.stage ≡ k → o ∷ rest ≡ tail_of k → Each e
        go (stage.Move n way') at' same =
            makes.Goes n way' at' (sent.going n way' at') (sym (way-attachment r n way' (speaks.goes n way' at').1) ∙ like (move way' n) (op.Start n ∷ []) same)
        go (stage.Swap p q) at' same = about-made p q (inl at') e (like (op.Cross cross.About p q) [] same)
        go (stage.Switch m d) at' same = about-made m d (inr at') e (like (op.Cross cross.About m d) [] same)
        go (stage.Return p q) at' same = back-made p q at' e (like (op.Cross cross.Back q p) (op.Start q ∷ []) same)
        go (stage.Drain n) at' same = absurd (unattached e (like (op.Status n None) [] same))
        go (stage.Look n y) at' same = absurd (unattached e (like (op.Status n None) [] same))
        go (stage.Trail n y) at' same = absurd (unattached e (like (op.Status n None) [] same))
        go (stage.Expel n) at' same = absurd (unattached e (like (op.Detach n) [] same))
        go (stage.Level p q) at' same = absurd (unattached e (like (op.Reset q) (op.Cross cross.About p q ∷ []) same))
        go (stage.Crown n) at' same = absurd (unattached e (like (op.Reset n) (op.ReadOnly n false ∷ []) same))
        go (stage.Open n) at' same = absurd (unattached e (like (op.ReadOnly n false) [] same))
        go (stage.Shut m d) at' same = absurd (unattached e (like (op.ReadOnly m true) _ same))
        go (stage.Yield m d) at' same = absurd (unattached e (like (op.Reset d) (op.Cross cross.About m d ∷ []) same))
        go (stage.Close lines) at' same = absurd (unattached e (like (op.Finish lines) [] same))
        go k at' same = cc

    op-made : Fits r.stage (o ∷ rest) → (e : Exchange) → attachment_of r.core (deed_of o) ≡ Some e → Each e
    op-made f e h = go (fits-step r.stage o rest f)
      where
        go : ((ends r.stage (deed_of o) ≡ false) × Fits r.stage rest) ⊎ (o ∷ rest ≡ tail_of r.stage) → Each e
        go (inl p) = absurd (unattached e (sym (still-attaches r.core (deed_of o) (unmoving (deed_of o) (reads_last r.stage) p.0)) ∙ h))
        go (inr t) = tail-made r.stage refl t e h

-- ---- a turn

module _ (w : World) (b : BookState) (read : ℕ) (now : Moment) (r : Recovery) (P : Fact → Bool) (rings : HeldRings w b.rings) (held : HeldRecovery w r) (speaks : Speaks r) (why : ExplainsTruly w b now r P) (sent : AreSent P r) where
  so-far : {d : Recovery} → Decisions (ground_of w b now) r d → Before w b now r P why d
  so-far so = decisions-keep w b now (Before w b now r P why) (decides-sent w b now r P why rings) so (held, speaks.says, inl speaks.way, speaks.listed, by.Still, sent)

  made-so : (d : Recovery) → Decisions (ground_of w b now) r d → (o : Op) (rest : List Op) (ob : Option Observation) (es : List Exchange) (j : Job) → Does w read now d o rest ob es j → AttachesAsSent P (ground_of w b now) r es
  made-so d so o rest ob es j did =
      let h = so-far so in record {
        decided = d;
        so = so;
        each =
            subst (λ (a : Attempt). Well w (IsMadeSo P d) (λ n a'. makes.Asks n a') a) did.goes
            (deed-makes w (IsMadeSo P d) (λ n a. makes.Asks n a) d.core rest read now (deed_of o) (op-made P d h.1 h.5 o rest (fits-of w d o rest did.ops h.0)));
      }

  pub turn-attaches : is_going (taken w b read now r).step ≡ true → AttachesAsSent P (ground_of w b now) r (taken w b read now r).exchanges
  turn-attaches = go (taken w b read now r) (taken-walks w b read now r)
    where
      go : (t : Taken) → Turning w b read now r t → is_going t.step ≡ true → AttachesAsSent P (ground_of w b now) r t.exchanges
      go t (by.Waits {d} so o rest ob es j did e) h = made-so d so o rest ob es j did
      go t (by.Acts {d} so o rest ob es j did e end) h = made-so d so o rest ob es j did
      go t (by.Bears {d} so o rest x ob e stops is may) h = record { decided = d; so = so; each = All-nil (IsMadeSo P d) }
      go t (by.Fails so x ob y) h = absurd (false≢true h)
      go t (by.Finishes so o rest ls is e) h = absurd (false≢true h)
