-- What a recovery drained, chose and promoted so far has facts that count.
use Rattle.std.proofs.Common.{◌≡◌, ℕ, Bool, true, false, cond, List, [], ◌∷◌, filter, map, refl, sym, ◌∙◌, ap, subst, Option, Some, None, ◌⊎◌, inl, inr}
use Rattle.recovery_reasons.proofs.Prelude.{All-filter, All-nil, All-push, All-tail, AllDrained, Bearing, Betters, BookState, Chooses, Decision}
use Rattle.recovery_reasons.proofs.Prelude.{Decisions, Drains, Ending, ExplainsTruly, Fact, Fits, HeldRecovery, HeldRings, IsBetter, IsChosen}
use Rattle.recovery_reasons.proofs.Prelude.{IsDrained, IsExplained, IsFit, IsGivenUp, IsOnCourse, IsOnWay, IsPromoted, IsSeenSo, IsSwapped}
use Rattle.recovery_reasons.proofs.Prelude.{IsSwapping, Keeps, Line, MayDecide, MayEnd, Means, Moment, Op, Position, Purpose, Recovery, ServerNo}
use Rattle.recovery_reasons.proofs.Prelude.{Speaks, Stopped, SwapOf, WasCrowned, WasLooked, World, begun_recovery, borne, chooses, chosen-first}
use Rattle.recovery_reasons.proofs.Prelude.{closes, decided_by, decides-held, deed_of, ended, ended_by, ends, entered, false≢true, fate_of}
use Rattle.recovery_reasons.proofs.Prelude.{follower_of, follows_no_more, ground_of, is_below, is_better, joined, kept-whole, leaver, may_lead}
use Rattle.recovery_reasons.proofs.Prelude.{moved, nearer_order, position_of, same_Some, seen_of, stepped, stepped-fits, stopped_at, taken, went-of}
use Rattle.recovery_reasons.proofs.Prelude.by
use Rattle.recovery_reasons.proofs.Prelude.purpose
use Rattle.recovery_reasons.proofs.Prelude.stage
use Rattle.recovery_reasons.proofs.Prelude.step
use Rattle.recovery_reasons.proofs.Readings.{Reading, fits-of, reader_of, stepped-reading}
use Rattle.recovery_reasons.proofs.Caring.{begun-cared, taken-cared}
use Rattle.recovery_reasons.proofs.Choosing.{best-of, chosen-comes, chosen-most}
use Rattle.recovery_reasons.proofs.Dealing.{begun-dealt, taken-dealt}
use Rattle.recovery_reasons.proofs.Looking.{Looked, borne-looked, completes-looked, decided-looked, looked-as, stepped-looked}
use Rattle.recovery_reasons.proofs.OnWay.{Fine, bears-way, completes-way, decides-fine, done-swap, still-on, stepped-course}
use Rattle.recovery_reasons.proofs.Seeing.{taken-seen}
use Rattle.recovery_reasons.proofs.Sending.{begun-sent, taken-sent}
use Rattle.recovery_reasons.proofs.Starting.{taken-up}
use Rattle.recovery_reasons.proofs.Tasks.{calm, moved-swaps, swap_in, swaps-so}
use Rattle.recovery_reasons.proofs.Reasoning.{taken-lost}

module _ (w : World) (b : BookState) (now : Moment) (r : Recovery) (P : Fact → Bool) (why : ExplainsTruly w b now r P) where
  -- all except the lost and those that change places
  record Stands (x : Recovery) : Type 0 where
    drained : AllDrained P x.drained
    among : AllDrained P x.eligible
    chosen : (n : ServerNo) → chooses x.purpose ≡ true → x.chosen ≡ Some n → P (IsChosen n x.eligible) ≡ true
    promoted : (n : ServerNo) → chooses x.purpose ≡ true → x.outcome.promoted ≡ Some n → IsPromoted P x.eligible n

  abbrev Swaps : Recovery → Type 0
  Swaps x = (p q : ServerNo) → IsSwapping x.stage p q → (P (IsChosen p x.eligible) ≡ true) × (P (IsBetter p q) ≡ true)

  abbrev Going : Recovery → Type 0
  Going x = Stands x × ((x.core.ops ≡ [] → ⊥) → Swaps x)

  -- a stage begins that changes no places
  begins : (x y : Recovery) → Stands y → swap_in y.stage ≡ None → Going y
  begins x y stands none = (stands, λ busy p q h. absurd (calm y.stage none p q h))

  -- no operation is left
  rests : (x y : Recovery) → Stands y → y.core.ops ≡ [] → Going y
  rests x y stands none = (stands, λ busy. absurd (busy none))

  -- with the same drained ones, choice and promotion
  like : (x y : Recovery) → y.drained ≡ x.drained → y.eligible ≡ x.eligible → y.purpose ≡ x.purpose → y.chosen ≡ x.chosen → y.outcome.promoted ≡ x.outcome.promoted → Stands x → Stands y
  like x y drained among aim chosen promoted s = record {
    drained = subst (AllDrained P) (sym drained) s.drained;
    among = subst (AllDrained P) (sym among) s.among;
    chosen = λ n u h. subst (λ (xs : List Stopped). P (IsChosen n xs) ≡ true) (sym among) (s.chosen n (sym (ap chooses aim) ∙ u) (sym chosen ∙ h));
    promoted = λ n u h. subst (λ (xs : List Stopped). IsPromoted P xs n) (sym among) (s.promoted n (sym (ap chooses aim) ∙ u) (sym promoted ∙ h));
  }

  nobody : (n : ServerNo) → None ≡ Some n → ⊥
  nobody n e = cc

  -- ---- what is decided

  module _ (x : Recovery) (so : Decisions (ground_of w b now) r x) where
    decided-stands : (d : Decision) → MayDecide (ground_of w b now) x d → Going x → Going (decided_by (ground_of w b now) x d)
    decided-stands (by.Chooses p ts) m h =
        let told : P (IsChosen p.no (filter (may_lead (ground_of w b now)) x.drained)) ≡ true = why x (IsChosen p.no (filter (may_lead (ground_of w b now)) x.drained)) so (Chooses p (ts, m.0) m.1 (chosen-most w b now x.failed x.drained p m.1) (chosen-comes w b now x.failed x.drained p m.1)) in
        let this : (n : ServerNo) → Some p.no ≡ Some n → P (IsChosen n (filter (may_lead (ground_of w b now)) x.drained)) ≡ true =
        λ n e. subst (λ (k : ServerNo). P (IsChosen k (filter (may_lead (ground_of w b now)) x.drained)) ≡ true) (same_Some p.no n e) told in
        rests x _ (record {
          drained = All-nil (λ (s : Stopped). P (IsDrained s) ≡ true);
          among = All-filter (may_lead (ground_of w b now)) (λ (s : Stopped). P (IsDrained s) ≡ true) x.drained h.0.drained;
          chosen = λ n u e. this n e;
          promoted = λ n u e. inl (this n e);
        }) m.0.rests
    decided-stands (by.ChoosesNobody ts) m h =
        rests x _ (record {
          drained = All-nil (λ (s : Stopped). P (IsDrained s) ≡ true);
          among = h.0.among;
          chosen = λ n u e. absurd (nobody n e);
          promoted = λ n u e. absurd (nobody n e);
        }) m.0.rests
    decided-stands (by.Sticks t ts) m h =
        rests x _ (record { drained = h.0.drained; among = h.0.among; chosen = λ n u e. absurd (nobody n e); promoted = h.0.promoted }) m.0.rests
    decided-stands (by.Hands d ds way ts) m h =
        begins x _ (record {
          drained = All-tail (λ (s : Stopped). P (IsDrained s) ≡ true) d ds (subst (AllDrained P) m.drained h.0.drained);
          among = h.0.among;
          chosen = h.0.chosen;
          promoted = h.0.promoted;
        }) refl
    decided-stands (by.Leaves d ds ts) m h =
        rests x _ (record {
          drained = All-tail (λ (s : Stopped). P (IsDrained s) ≡ true) d ds (subst (AllDrained P) m.drained h.0.drained);
          among = h.0.among;
          chosen = h.0.chosen;
          promoted = h.0.promoted;
        }) m.next.rests
    decided-stands (by.HandedOver ts) m h =
        rests x _ (record { drained = All-nil (λ (s : Stopped). P (IsDrained s) ≡ true); among = h.0.among; chosen = h.0.chosen; promoted = h.0.promoted }) m.0.rests
    decided-stands (by.Levels p q) m h = (
      like x (decided_by (ground_of w b now) x (by.Levels p q)) refl refl refl refl refl h.0,
      λ busy m' n' e.
          let same = same_Some (p, q) (m', n') (swaps-so (stage.Level p q) m' n' e) in
          subst (λ (y : ServerNo × ServerNo). (P (IsChosen y.0 x.eligible) ≡ true) × (P (IsBetter y.0 y.1) ≡ true)) same
          (h.0.chosen p (ap chooses m.0.purpose) m.2, why x (IsBetter p q) so (Betters m.2 m.3 (chosen-first (nearer_order b.names) (is_better (follower_of (ground_of w b now) x.failed p)) (map (follower_of (ground_of w b now) x.failed) (map (λ y. y.no) x.outcome.followers)) q m.3) (best-of w b now x.failed p x.outcome.followers q m.3))),
    )
    decided-stands (by.Passes ts) m h = rests x _ (like x _ refl refl refl refl refl h.0) m.0.rests
    decided-stands (by.Sorts ts) m h = rests x _ (like x _ refl refl refl refl refl h.0) m.rests
    decided-stands by.Remains m h = rests x _ (like x _ refl refl refl refl refl h.0) m.0.rests
    decided-stands d m h = begins x _ (like x _ refl refl refl refl refl h.0) refl

  -- ---- the operation

  stepped-stands : (x : Recovery) (o : Op) → Stands x → Swaps x → Stands (stepped x o) × Swaps (stepped x o)
  stepped-stands x o s swaps = by-end (ends x.stage (deed_of o))
    where
      left : (q : Option ServerNo) → Stands (record (follows_no_more x q) { stage = moved x.stage }) × Swaps (record (follows_no_more x q) { stage = moved x.stage })
      left None = (like x _ refl refl refl refl refl s, λ p q h. swaps p q (moved-swaps x.stage p q h))
      left (Some m) = (like x _ refl refl refl refl refl s, λ p q h. swaps p q (moved-swaps x.stage p q h))

      by-end : (a : Bool) → Stands (cond a (entered x (moved x.stage)) x) × Swaps (cond a (entered x (moved x.stage)) x)
      by-end true = left (leaver (moved x.stage))
      by-end false = (s, swaps)

  -- the replica is drained if it was read below the failed server
  drained-so : (z : Recovery) (n : ServerNo) (s : Position) → Reading w b now r z → reader_of z.stage ≡ Some n → seen_of z.core.seen n.0 ≡ Some s → is_below s z.failed ≡ true → P (IsDrained (stopped_at n s)) ≡ true
  drained-so z n s h on at below =
      let y = h.shows n on in
      let same : position_of y.0 ≡ s = same_Some (position_of y.0) s (sym y.2 ∙ at) in
      subst (λ (q : Position). P (IsDrained (stopped_at n q)) ≡ true) same
      (why h.first (IsDrained (stopped_at n (position_of y.0))) h.so
      (Drains y.0 (h.told n on) (h.reads n on) y.1 (ap (λ (q : Position). is_below q h.first.failed) same ∙ (ap (is_below s) (sym h.failed) ∙ below))))

  completes-stands : (z : Recovery) (e : Ending) → MayEnd z e → Reading w b now r z → Stands z → Swaps z → Going (ended_by z e)
  completes-stands z (by.Stays n s) may h stands swaps =
      begins z _ (record {
        drained = All-push (λ (y : Stopped). P (IsDrained y) ≡ true) z.drained (stopped_at n s) stands.drained (drained-so z n s h (ap reader_of may.0) may.1 may.2);
        among = stands.among;
        chosen = stands.chosen;
        promoted = stands.promoted;
      }) refl
  completes-stands z (by.Swaps p q) may h stands swaps =
      begins z _ (record {
        drained = stands.drained;
        among = stands.among;
        chosen = stands.chosen;
        promoted = λ n u e.
            let both = swaps p q (inr (inr may)) in
            subst (λ (k : ServerNo). IsPromoted P z.eligible k) (same_Some q n e) (inr (p, both.0, both.1));
      }) refl
  completes-stands z e may h stands swaps = begins z _ (like z _ refl refl refl refl refl stands) refl

  borne-stands : (x : Recovery) (e : Bearing) → Stands x → Going (borne x (fate_of e))
  borne-stands x by.Drops s = begins x _ (like x _ refl refl refl refl refl s) refl
  borne-stands x _ s = begins x _ (like x _ refl refl refl refl refl s) refl

  busy-with : (o : Op) (rest ops : List Op) → ops ≡ o ∷ rest → ops ≡ [] → ⊥
  busy-with o rest ops is none = let bad : o ∷ rest ≡ [] = sym is ∙ none in cc

  abbrev Opened : Recovery → Type 0
  Opened x = x.purpose ≡ purpose.Master → closes x.stage ≡ true → x.swaps ≡ false

  opened-on : (x : Recovery) → IsOnWay x → Opened x
  opened-on x way m h = way.course.swap.closed m (inr h)

  opened-fine : (x : Recovery) → Fine x → Opened x
  opened-fine x (inl way) = opened-on x way
  opened-fine x (inr s) = λ m h. absurd (false≢true (sym (ap closes s.stage) ∙ h))

  abbrev Whole : Recovery → Type 0
  Whole x = Going x × Looked P x

  abbrev Before : Recovery → Type 0
  Before x = HeldRecovery w x × (Fine x × (Decisions (ground_of w b now) r x × Whole x))

  keeps-stands : (read : ℕ) → HeldRings w b.rings
      → Keeps w b read now Before (λ v x. IsFit x × (IsOnCourse x × (Reading w b now r x × (Stands x × (Swaps x × Looked P x))))) (λ v x. Whole x × Opened x)
  keeps-stands read rings = record {
    decides = λ x d may h. (
      decides-held w b now rings x d may h.0,
      (
        decides-fine w b now x d may h.1.0,
        (joined w b now h.1.1.0 (by.Then d may by.Still), (decided-stands x h.1.1.0 d may h.1.1.1.0, decided-looked w b now r P why x h.1.1.0 h.1.0 d may h.1.1.1.1)),
      ),
    );
    waits = λ x o rest ob es j did e h. (
      (
        (like x (record x { core = j }) refl refl refl refl refl h.1.1.1.0.0, λ busy. h.1.1.1.0.1 (busy-with o rest x.core.ops did.ops)),
        looked-as P x (record x { core = j }) refl refl refl refl (λ p q at. at) h.1.1.1.1,
      ),
      opened-fine x h.1.0,
    );
    acts = λ x o rest ob es j did e h.
        let fits = fits-of w x o rest did.ops h.0 in
        let left = (went-of w read now x o rest ob es j did).done e in
        let two = stepped-stands (record x { core = j }) o (like x (record x { core = j }) refl refl refl refl refl h.1.1.1.0.0) (h.1.1.1.0.1 (busy-with o rest x.core.ops did.ops)) in (
          stepped-fits x o rest j fits left,
          (
            stepped-course w read now x o rest did.ops fits (still-on x o rest did.ops h.1.0).course ob es j did.goes left,
            (
              stepped-reading w b now r read x h.1.1.0 o rest fits ob es j did.goes,
              (two.0, (two.1, stepped-looked P (record x { core = j }) o (looked-as P x (record x { core = j }) refl refl refl refl (λ p q at. at) h.1.1.1.1))),
            ),
          ),
        );
    continues = λ v x y ys is whole. (((whole.1.1.1.0, λ busy. whole.1.1.1.1.0), whole.1.1.1.1.1), λ m h. whole.1.0.swap.closed m (inr h));
    completes = λ v x e none may whole. (
      (
        completes-stands x e may whole.1.1.0 whole.1.1.1.0 whole.1.1.1.1.0,
        completes-looked P x e may (subst (λ (xs : List Op). Fits x.stage xs) none whole.0) whole.1.0 (λ p q at. (whole.1.1.1.1.0 p q at).1) whole.1.1.1.1.1,
      ),
      opened-on (ended_by x e) (completes-way x none whole.1.0 whole.0 e may),
    );
    bears = λ x o rest c ob e stops is may h. (
      (borne-stands x e h.1.1.1.0.0, borne-looked w b now r P why x h.1.1.0 h.1.0 read o rest c ob stops e may h.1.1.1.1),
      opened-on (borne x (fate_of e)) (bears-way w x (still-on x o rest stops.ops h.1.0) c e is may),
    );
  }

  over-stands : (x : Recovery) → Stands x → Going (record x { core = ended x.core })
  over-stands x s = rests x _ (like x (record x { core = ended x.core }) refl refl refl refl refl s) refl

  over-whole : (x : Recovery) → Before x → Whole (record x { core = ended x.core }) × Opened (record x { core = ended x.core })
  over-whole x h = ((over-stands x h.1.1.1.0.0, looked-as P x (record x { core = ended x.core }) refl refl refl refl (λ p q at. at) h.1.1.1.1), opened-fine x h.1.0)

  taken-stands : (read : ℕ) → HeldRings w b.rings → HeldRecovery w r → IsOnWay r → Whole r → Whole (taken w b read now r).recovery × Opened (taken w b read now r).recovery
  taken-stands read rings held way whole =
      kept-whole w b read now Before (λ v x. IsFit x × (IsOnCourse x × (Reading w b now r x × (Stands x × (Swaps x × Looked P x))))) (λ v x. Whole x × Opened x) (keeps-stands read rings)
      (record { fails = λ x c ob f h. over-whole x h; finishes = λ x o rest lines is e h. over-whole x h }) r (held, (inl way, (by.Still, whole)))

pub taken-explained : (w : World) (b : BookState) (read : ℕ) (now : Moment) (r : Recovery) (P : Fact → Bool) → HeldRings w b.rings → HeldRecovery w r → Speaks r → ExplainsTruly w b now r P
    → IsExplained P r → IsExplained P (taken w b read now r).recovery
taken-explained w b read now r P rings held speaks why x =
    let after = taken-stands w b now r P why read rings held speaks.way ((record { drained = x.drained; among = x.among; chosen = x.chosen; promoted = x.promoted }, λ busy p q h. x.swaps p q h busy), x.looked) in
    let whole = after.0 in
    let y = whole.0 in
    let ups = taken-up w b now r P why read rings held speaks x.started x.below in
    record {
      lost = taken-lost w b read now r P rings held speaks why x.lost;
      drained = y.0.drained;
      among = y.0.among;
      chosen = y.0.chosen;
      promoted = y.0.promoted;
      swaps = λ p q h busy. y.1 busy p q h;
      seen = taken-seen w b now r P why read x.seen;
      started = ups.0;
      below = ups.1;
      care = taken-cared w b now r P why read rings held x.care;
      dealt = taken-dealt w b now r P why read rings held speaks x.care x.dealt;
      sent = taken-sent w b now r P why read rings held speaks x.sent;
      opened = after.1;
      looked = whole.1;
    }

-- whom a master's recovery that is at its end has promoted
pub done-crowned : (w : World) (b : BookState) (read : ℕ) (now : Moment) (r : Recovery) (P : Fact → Bool) → Speaks r → IsExplained P (taken w b read now r).recovery → (lines : List Line) → (taken w b read now r).step ≡ step.Done lines
    → closes (taken w b read now r).recovery.stage ≡ true → (p : ServerNo) → (taken w b read now r).recovery.purpose ≡ purpose.Master → (taken w b read now r).recovery.chosen ≡ Some p
    → WasCrowned P p (taken w b read now r).recovery.outcome.promoted
done-crowned w b read now r P speaks x lines done ends p m chosen = go (x.looked p m chosen (swap.closed m (inr ends)))
  where
    after : Recovery
    after = (taken w b read now r).recovery

    swap : SwapOf after.purpose after.stage after.chosen after.outcome.promoted after.swaps
    swap = done-swap w b read now r speaks.way lines done

    still : (q : ServerNo) → IsSwapping after.stage p q → ⊥
    still q (inl at) = false≢true (sym (ap closes at) ∙ ends)
    still q (inr (inl at)) = false≢true (sym (ap closes at) ∙ ends)
    still q (inr (inr at)) = false≢true (sym (ap closes at) ∙ ends)

    which : (q : ServerNo) → IsSwapped P after p q → (after.outcome.promoted ≡ Some q) ⊎ ((after.outcome.promoted ≡ Some p) × (P (IsGivenUp p q) ≡ true))
    which q (inl at) = absurd (still q at)
    which q (inr is) = is

    go : WasLooked P after p → WasCrowned P p after.outcome.promoted
    go (inl none) = inl none
    go (inr one) = inr (one.0, one.1, which one.0 one.2)

pub begun-explained : (P : Fact → Bool) (u : Purpose) (by : Means) (id wait : ℕ) (f : ServerNo) (ns order : List ServerNo) → IsExplained P (begun_recovery u by id wait f ns order)
begun-explained P u by id wait f ns order = by-purpose u
  where
    none : AllDrained P []
    none = All-nil (λ (s : Stopped). P (IsDrained s) ≡ true)

    nowhere : (n : ServerNo) → None ≡ Some n → ⊥
    nowhere n e = cc

    by-purpose : (v : Purpose) → IsExplained P (begun_recovery v by id wait f ns order)
    by-purpose purpose.Regroup = record {
      lost = All-nil _;
      drained = none;
      among = none;
      chosen = λ n u' e. absurd (nowhere n e);
      promoted = λ n u' e. absurd (nowhere n e);
      swaps = λ p q h busy. absurd (calm stage.Idle refl p q h);
      seen = All-nil (IsSeenSo P);
      started = λ sound. All-nil _;
      below = λ m d at. cc;
      care = begun-cared P purpose.Regroup by id wait f ns order;
      dealt = begun-dealt P purpose.Regroup by id wait f ns order;
      sent = begun-sent P purpose.Regroup by id wait f ns order;
      opened = λ m h. cc;
      looked = λ p m c t. cc;
    }
    by-purpose purpose.Master = record {
      lost = All-nil _;
      drained = none;
      among = none;
      chosen = λ n u' e. absurd (nowhere n e);
      promoted = λ n u' e. absurd (nowhere n e);
      swaps = λ p q h busy. absurd (calm _ refl p q h);
      seen = All-nil (IsSeenSo P);
      started = λ sound. All-nil _;
      below = λ m d at. cc;
      care = begun-cared P purpose.Master by id wait f ns order;
      dealt = begun-dealt P purpose.Master by id wait f ns order;
      sent = begun-sent P purpose.Master by id wait f ns order;
      opened = λ m h. cc;
      looked = λ p m c t. cc;
    }
    by-purpose (purpose.Intermediate s) = record {
      lost = All-nil _;
      drained = none;
      among = none;
      chosen = λ n u' e. absurd (false≢true u');
      promoted = λ n u' e. absurd (false≢true u');
      swaps = λ p q h busy. absurd (calm _ refl p q h);
      seen = All-nil (IsSeenSo P);
      started = λ sound. All-nil _;
      below = λ m d at. cc;
      care = begun-cared P (purpose.Intermediate s) by id wait f ns order;
      dealt = begun-dealt P (purpose.Intermediate s) by id wait f ns order;
      sent = begun-sent P (purpose.Intermediate s) by id wait f ns order;
      opened = λ m h. cc;
      looked = λ p m c t. cc;
    }
    by-purpose (purpose.Takeover d) = record {
      lost = All-nil _;
      drained = none;
      among = none;
      chosen = λ n u' e. absurd (false≢true u');
      promoted = λ n u' e. absurd (false≢true u');
      swaps = λ p q h busy. absurd (calm _ refl p q h);
      seen = All-nil (IsSeenSo P);
      started = λ sound. All-nil _;
      below = λ m d at. cc;
      care = begun-cared P (purpose.Takeover d) by id wait f ns order;
      dealt = begun-dealt P (purpose.Takeover d) by id wait f ns order;
      sent = begun-sent P (purpose.Takeover d) by id wait f ns order;
      opened = λ m h. cc;
      looked = λ p m c t. cc;
    }
