-- What is left at the end of a recovery in a master's place was left by a look at its servers.
use Rattle.std.proofs.Common.{◌≡◌, ◌∙◌, ℕ, Bool, true, false, cond, List, [], ◌∷◌, ◌++◌, refl, sym, ap, subst, Option, Some, None, inl, inr}
use Rattle.recovery_runs.proofs.Prelude.{AtEnd, Attempt, Bearing, BookState, Decision, Decisions, Does, Exchange, IsOnWay, Job, Line, MayDecide}
use Rattle.recovery_runs.proofs.Prelude.{Moment, Observation, Op, Purpose, ReadsLast, Recovery, ServerNo, Stage, Status, Taken, Turning, World}
use Rattle.recovery_runs.proofs.Prelude.{after_look, borne, by_deed, crowns, decided_by, decides-idle, decisions-keep, deed_of, ended_by, ends}
use Rattle.recovery_runs.proofs.Prelude.{entered, false≢true, fate_of, goes_on, ground_of, is_going, is_waiting, last_looks, moved, observed}
use Rattle.recovery_runs.proofs.Prelude.{result_lines, same-head, same-tail, seen_in, status, step, stepped, taken, taken-walks, went-of}
use Rattle.recovery_runs.proofs.Prelude.attempt
use Rattle.recovery_runs.proofs.Prelude.by
use Rattle.recovery_runs.proofs.Prelude.job_step
use Rattle.recovery_runs.proofs.Prelude.op
use Rattle.recovery_runs.proofs.Prelude.purpose
use Rattle.recovery_runs.proofs.Prelude.stage

-- a turn looked at a server and reached it
pub record LooksNow (w : World) (read : ℕ) (now : Moment) (n : ServerNo) (ob : Option Observation) : Type 0 where
  pub observes : ob ≡ Some (observed w read now n)
  pub seen : Status
  pub shows : seen_in (status w n.0) ≡ Some seen

-- at its end a recovery had one more operation before this turn, a look at a server
pub record CameBy (w : World) (read : ℕ) (now : Moment) (r : Recovery) (t : Taken) (n : ServerNo) (lines : List Line) (left : List Op) : Type 0 where
  pub at : r.stage ≡ stage.Close lines
  pub ops : r.core.ops ≡ op.Status n None ∷ left
  pub purpose : t.recovery.purpose ≡ r.purpose
  pub failed : t.recovery.failed ≡ r.failed
  pub promoted : t.recovery.outcome.promoted ≡ r.outcome.promoted
  pub looks : LooksNow w read now n t.observation

-- what is left after a turn, in a master's place, if it is only the lines, or beside them the promoted one's reading
abbrev pub LeftBy : World → ℕ → Moment → Recovery → Taken → ServerNo → List Line → Type 0
LeftBy w read now r t n lines =
    (t.recovery.core.ops ≡ op.Finish lines ∷ [] → CameBy w read now r t n lines (op.Finish lines ∷ []))
    × ((d : ServerNo) → t.recovery.purpose ≡ purpose.Takeover d → t.recovery.core.ops ≡ op.Status n None ∷ op.Finish lines ∷ [] → CameBy w read now r t r.failed lines (op.Status n None ∷ op.Finish lines ∷ []))

abbrev pub IsWholeBy : World → ℕ → Moment → Recovery → Taken → Type 0
IsWholeBy w read now r t =
    (n : ServerNo) (lines : List Line) → crowns t.recovery.purpose ≡ true → t.recovery.stage ≡ stage.Close lines → t.recovery.outcome.promoted ≡ Some n → LeftBy w read now r t n lines

-- only its lines were left before it was done
pub record WasLast (r : Recovery) (t : Taken) (lines : List Line) : Type 0 where
  pub at : r.stage ≡ stage.Close lines
  pub ops : r.core.ops ≡ op.Finish lines ∷ []
  pub purpose : t.recovery.purpose ≡ r.purpose
  pub failed : t.recovery.failed ≡ r.failed
  pub promoted : t.recovery.outcome.promoted ≡ r.outcome.promoted

look-goes : (w : World) (read : ℕ) (now : Moment) (j : Job) (rest : List Op) (n : ServerNo) (ob : Option Observation) (es : List Exchange) (k : Job)
    → by_deed w read now j rest (deed_of (op.Status n None)) ≡ attempt.Goes ob es k → LooksNow w read now n ob
look-goes w read now j rest n ob es k = go (seen_in (status w n.0)) refl
  where
    what : Attempt → Option Observation
    what (attempt.Goes o xs y) = o
    what _ = None

    go : (x : Option Status) → seen_in (status w n.0) ≡ x → after_look j rest n None (observed w read now n) x ≡ attempt.Goes ob es k → LooksNow w read now n ob
    go None is e = cc
    go (Some s) is e = record { observes = sym (ap what e); seen = s; shows = is }

-- no stage leads to the end but by what it makes
never-next : (s : Stage) (lines : List Line) → moved s ≡ stage.Close lines → ⊥
never-next stage.Idle lines e = cc
never-next s lines e = cc

-- no decision leads there in a master's place
abbrev IsNotThere : Recovery → Type 0
IsNotThere x = (lines : List Line) → x.stage ≡ stage.Close lines → crowns x.purpose ≡ true → ⊥

decides-apart : (w : World) (b : BookState) (now : Moment) (x : Recovery) (d : Decision) → MayDecide (ground_of w b now) x d → IsNotThere x → IsNotThere (decided_by (ground_of w b now) x d)
decides-apart w b now x (by.Rejoins p) may h = λ lines at c. absurd (false≢true (ap crowns (sym may.0.purpose) ∙ c))
decides-apart w b now x by.Closes may h = λ lines at c. absurd (false≢true (ap crowns (sym may.1.purpose) ∙ c))
decides-apart w b now x (by.Sticks t ts) may h = h
decides-apart w b now x (by.Chooses p ts) may h = h
decides-apart w b now x (by.ChoosesNobody ts) may h = h
decides-apart w b now x (by.Leaves d ds ts) may h = h
decides-apart w b now x (by.HandedOver ts) may h = h
decides-apart w b now x (by.Passes ts) may h = h
decides-apart w b now x (by.Sorts ts) may h = h
decides-apart w b now x by.Remains may h = h
decides-apart w b now x d may h = λ lines at c. cc

module _ (w : World) (b : BookState) (read : ℕ) (now : Moment) (r : Recovery) (way : IsOnWay r) (reads : (n : ServerNo) (lines : List Line) → crowns r.purpose ≡ true → r.stage ≡ stage.Close lines → r.outcome.promoted ≡ Some n → ReadsLast r n lines) where
  -- at the end it is as it was before it was decided
  undecided : {d : Recovery} → Decisions (ground_of w b now) r d → (lines : List Line) → d.stage ≡ stage.Close lines → crowns d.purpose ≡ true → d ≡ r
  undecided by.Still lines at c = refl
  undecided (by.Then x may rest) lines at c =
      absurd (decisions-keep w b now IsNotThere (decides-apart w b now) rest (decides-apart w b now r x may idle) lines at c)
    where
      idle : IsNotThere r
      idle k e z = let bad : stage.Idle ≡ stage.Close k = sym (way.rests (decides-idle w b now r x may)) ∙ e in cc

  -- what is left, without the first
  module _ (o : Op) (rest : List Op) (ob : Option Observation) (es : List Exchange) (j : Job) (did : Does w read now r o rest ob es j) where
    this : (y : Op) (ys : List Op) → r.core.ops ≡ y ∷ ys → (by_deed w read now r.core rest (deed_of y) ≡ attempt.Goes ob es j) × (rest ≡ ys)
    this y ys e = (
      subst (λ (z : Op). by_deed w read now r.core rest (deed_of z) ≡ attempt.Goes ob es j) (same-head o y rest ys (sym did.ops ∙ e)) did.goes,
      same-tail o y rest ys (sym did.ops ∙ e),
    )

    came : (t : Taken) (n : ServerNo) (lines : List Line) (left : List Op) → r.stage ≡ stage.Close lines → r.core.ops ≡ op.Status n None ∷ left → t.observation ≡ ob → t.recovery ≡ record r { core = j } → CameBy w read now r t n lines left
    came t n lines left at ops sees is = record {
      at = at;
      ops = ops;
      purpose = ap (λ (x : Recovery). x.purpose) is;
      failed = ap (λ (x : Recovery). x.failed) is;
      promoted = ap (λ (x : Recovery). x.outcome.promoted) is;
      looks = subst (λ (x : Option Observation). LooksNow w read now n x) (sym sees) (look-goes w read now r.core rest n ob es j (this (op.Status n None) left ops).0);
    }

    -- by what it had left
    module _ (t : Taken) (n : ServerNo) (lines : List Line) (crowned : crowns r.purpose ≡ true) (at : r.stage ≡ stage.Close lines) (promoted : r.outcome.promoted ≡ Some n) (sees : t.observation ≡ ob) (is : t.recovery ≡ record r { core = j }) where
      last-by : rest ≡ op.Finish lines ∷ [] → CameBy w read now r t n lines (op.Finish lines ∷ [])
      last-by left = go (reads n lines crowned at promoted)
        where
          go : ReadsLast r n lines → CameBy w read now r t n lines (op.Finish lines ∷ [])
          go (inl e) = let bad : op.Finish lines ∷ [] ≡ op.Status n None ∷ op.Finish lines ∷ [] = sym left ∙ (this (op.Status r.failed None) (op.Status n None ∷ op.Finish lines ∷ []) e).1 in cc
          go (inr (inl h)) = came t n lines (op.Finish lines ∷ []) at h.0 sees is
          go (inr (inr h)) = let bad : op.Finish lines ∷ [] ≡ [] = sym left ∙ (this (op.Finish lines) [] h.0).1 in cc

      old-by : rest ≡ op.Status n None ∷ op.Finish lines ∷ [] → CameBy w read now r t r.failed lines (op.Status n None ∷ op.Finish lines ∷ [])
      old-by left = go (reads n lines crowned at promoted)
        where
          go : ReadsLast r n lines → CameBy w read now r t r.failed lines (op.Status n None ∷ op.Finish lines ∷ [])
          go (inl e) = came t r.failed lines (op.Status n None ∷ op.Finish lines ∷ []) at e sees is
          go (inr (inl h)) = let bad : op.Status n None ∷ op.Finish lines ∷ [] ≡ op.Finish lines ∷ [] = sym left ∙ (this (op.Status n None) (op.Finish lines ∷ []) h.0).1 in cc
          go (inr (inr h)) = let bad : op.Status n None ∷ op.Finish lines ∷ [] ≡ [] = sym left ∙ (this (op.Finish lines) [] h.0).1 in cc

  -- ---- a turn

  -- a look waits for nothing
  look-calm : (j : Job) (rest : List Op) (n : ServerNo) (ob : Option Observation) (es : List Exchange) (k : Job) → by_deed w read now j rest (deed_of (op.Status n None)) ≡ attempt.Goes ob es k → is_waiting k ≡ false
  look-calm j rest n ob es k = go (seen_in (status w n.0))
    where
      whose : Attempt → Bool
      whose (attempt.Goes o xs y) = is_waiting y
      whose _ = false

      go : (x : Option Status) → after_look j rest n None (observed w read now n) x ≡ attempt.Goes ob es k → is_waiting k ≡ false
      go None e = cc
      go (Some s) e = ap whose (sym e)

  waits-not : (d : Recovery) (o : Op) (rest : List Op) (ob : Option Observation) (es : List Exchange) (j : Job) → Does w read now d o rest ob es j → is_waiting j ≡ true → IsWholeBy w read now r (goes_on ob es (record d { core = j }))
  waits-not d o rest ob es j did e n lines c at promoted = (λ left. absurd (finishes left), λ k aim left. absurd (looks left))
    where
      same : j.ops ≡ d.core.ops
      same = ((went-of w read now d o rest ob es j did).waits e).0

      first : (y : Op) (ys : List Op) → j.ops ≡ y ∷ ys → by_deed w read now d.core rest (deed_of y) ≡ attempt.Goes ob es j
      first y ys left = subst (λ (z : Op). by_deed w read now d.core rest (deed_of z) ≡ attempt.Goes ob es j) (same-head o y rest ys (sym did.ops ∙ (sym same ∙ left))) did.goes

      finishes : j.ops ≡ op.Finish lines ∷ [] → ⊥
      finishes left = let bad : attempt.Ends lines ≡ attempt.Goes ob es j = first (op.Finish lines) [] left in cc

      looks : j.ops ≡ op.Status n None ∷ op.Finish lines ∷ [] → ⊥
      looks left = false≢true (sym (look-calm d.core rest n ob es j (first (op.Status n None) (op.Finish lines ∷ []) left)) ∙ e)

  -- the end of a stage leaves a look
  ends-so : (z : Recovery) (e : by.Ending) (ob : Option Observation) (es : List Exchange) → IsWholeBy w read now r (goes_on ob es (ended_by z e))
  ends-so z (by.Ends m) ob es n lines c at promoted = (λ left. absurd (one z.purpose left), λ k aim left. absurd (two k (subst (λ (u : Purpose). last_looks z u m ++ op.Finish (result_lines z) ∷ [] ≡ op.Status n None ∷ op.Finish lines ∷ []) aim left)))
    where
      one : (u : Purpose) → last_looks z u m ++ op.Finish (result_lines z) ∷ [] ≡ op.Finish lines ∷ [] → ⊥
      one (purpose.Takeover k) left = cc
      one _ left = cc

      two : (k : ServerNo) → last_looks z (purpose.Takeover k) m ++ op.Finish (result_lines z) ∷ [] ≡ op.Status n None ∷ op.Finish lines ∷ [] → ⊥
      two k left = cc
  ends-so z by.Rests ob es n lines c at promoted = cc
  ends-so z e ob es n lines c at promoted = cc

  bears-so : (d : Recovery) (e : Bearing) (ob : Option Observation) → IsWholeBy w read now r (goes_on ob [] (borne d (fate_of e)))
  bears-so d by.Drops ob n lines c at promoted = cc
  bears-so d e ob n lines c at promoted = cc

  module _ (d : Recovery) (so : Decisions (ground_of w b now) r d) (o : Op) (rest : List Op) (ob : Option Observation) (es : List Exchange) (j : Job) (did : Does w read now d o rest ob es j) (e : is_waiting j ≡ false) where
    abbrev later : Recovery
    later = record d { core = j }

    stays : IsWholeBy w read now r (goes_on ob es later)
    stays n lines c at promoted =
        let same : d ≡ r = undecided so lines at c in
        let does : Does w read now r o rest ob es j = subst (λ (x : Recovery). Does w read now x o rest ob es j) same did in
        let left : j.ops ≡ rest = (went-of w read now d o rest ob es j did).done e in
        let is : later ≡ record r { core = j } = ap (λ (x : Recovery). record x { core = j }) same in
        let crowned : crowns r.purpose ≡ true = subst (λ (x : Recovery). crowns x.purpose ≡ true) same c in
        let there : r.stage ≡ stage.Close lines = subst (λ (x : Recovery). x.stage ≡ stage.Close lines) same at in
        let who : r.outcome.promoted ≡ Some n = subst (λ (x : Recovery). x.outcome.promoted ≡ Some n) same promoted in (
          λ ops. last-by o rest ob es j does (goes_on ob es later) n lines crowned there who refl is (sym left ∙ ops),
          λ k aim ops. old-by o rest ob es j does (goes_on ob es later) n lines crowned there who refl is (sym left ∙ ops),
        )

    steps : IsWholeBy w read now r (goes_on ob es (stepped later o))
    steps = go (ends d.stage (deed_of o))
      where
        go : (a : Bool) → IsWholeBy w read now r (goes_on ob es (cond a (entered later (moved d.stage)) later))
        go true n lines c at promoted = absurd (never-next d.stage lines at)
        go false n lines c at promoted = stays n lines c at promoted

    acts-so : {s : Recovery} → AtEnd (stepped later o) s → IsWholeBy w read now r (goes_on ob es s)
    acts-so (by.Continues x xs is) = steps
    acts-so (by.Completes k none may) = ends-so (stepped later o) k ob es

  pub taken-whole : is_going (taken w b read now r).step ≡ true → IsWholeBy w read now r (taken w b read now r)
  taken-whole = go (taken w b read now r) (taken-walks w b read now r)
    where
      go : (t : Taken) → Turning w b read now r t → is_going t.step ≡ true → IsWholeBy w read now r t
      go t (by.Waits {d} so o rest ob es j did e) going = waits-not d o rest ob es j did e
      go t (by.Acts {d} so o rest ob es j did e end) going = acts-so d so o rest ob es j did e end
      go t (by.Bears {d} so o rest c ob e stops is may) going = bears-so d e ob
      go t (by.Fails so c ob why) going = absurd (false≢true going)
      go t (by.Finishes so o rest lines is e) going = absurd (false≢true going)

  -- ---- the turn in which it is done

  look-ends : (j : Job) (rest : List Op) (n : ServerNo) (lines : List Line) → by_deed w read now j rest (deed_of (op.Status n None)) ≡ attempt.Ends lines → ⊥
  look-ends j rest n lines = go (seen_in (status w n.0))
    where
      go : (x : Option Status) → after_look j rest n None (observed w read now n) x ≡ attempt.Ends lines → ⊥
      go None e = cc
      go (Some s) e = cc

  pub taken-last : (said : List Line) (lines : List Line) (n : ServerNo) → (taken w b read now r).step ≡ job_step.Done said → (taken w b read now r).recovery.stage ≡ stage.Close lines
      → crowns (taken w b read now r).recovery.purpose ≡ true → (taken w b read now r).recovery.outcome.promoted ≡ Some n → WasLast r (taken w b read now r) lines
  taken-last said lines n = go (taken w b read now r) (taken-walks w b read now r)
    where
      go : (t : Taken) → Turning w b read now r t → t.step ≡ job_step.Done said → t.recovery.stage ≡ stage.Close lines → crowns t.recovery.purpose ≡ true → t.recovery.outcome.promoted ≡ Some n → WasLast r t lines
      go t (by.Waits so o rest ob es j did e) h at c promoted = cc
      go t (by.Acts so o rest ob es j did e end) h at c promoted = cc
      go t (by.Bears so o rest x ob e stops is may) h at c promoted = cc
      go t (by.Fails so x ob why) h at c promoted = cc
      go t (by.Finishes {d} so o rest ls is e) h at c promoted = record {
        at = there;
        ops = by-reads (reads n lines (subst (λ (x : Recovery). crowns x.purpose ≡ true) same c) there (subst (λ (x : Recovery). x.outcome.promoted ≡ Some n) same promoted));
        purpose = ap (λ (x : Recovery). x.purpose) same;
        failed = ap (λ (x : Recovery). x.failed) same;
        promoted = ap (λ (x : Recovery). x.outcome.promoted) same;
      }
        where
          same : d ≡ r
          same = undecided so lines at c

          there : r.stage ≡ stage.Close lines
          there = subst (λ (x : Recovery). x.stage ≡ stage.Close lines) same at

          ends-with : (y : Op) (ys : List Op) → r.core.ops ≡ y ∷ ys → by_deed w read now d.core rest (deed_of y) ≡ attempt.Ends ls
          ends-with y ys left =
              subst (λ (z : Op). by_deed w read now d.core rest (deed_of z) ≡ attempt.Ends ls)
              (same-head o y rest ys (sym is ∙ (ap (λ (x : Recovery). x.core.ops) same ∙ left))) e

          by-reads : ReadsLast r n lines → r.core.ops ≡ op.Finish lines ∷ []
          by-reads (inl a) = absurd (look-ends d.core rest r.failed ls (ends-with (op.Status r.failed None) (op.Status n None ∷ op.Finish lines ∷ []) a))
          by-reads (inr (inl h)) = absurd (look-ends d.core rest n ls (ends-with (op.Status n None) (op.Finish lines ∷ []) h.0))
          by-reads (inr (inr h)) = h.0
