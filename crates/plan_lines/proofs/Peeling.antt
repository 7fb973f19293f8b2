-- The first operation of a recovery's turns.
use Rattle.std.proofs.Common.{◌≡◌, ◌∙◌, Bool, true, false, cond, not, List, [], ◌∷◌, ◌++◌, map, Option, refl, sym, ap, subst, ◌||◌, ◌&&◌}
use Rattle.plan_lines.proofs.Prelude.{Cause, Course, Does, Done, Event, Exchange, Job, Missed, Observation, Op, Place, Recovery, Stage, Stops, Went}
use Rattle.plan_lines.proofs.Prelude.{WentOn, acted, after, and_parts, are_still, at_end, attempted, by_deed, deed-went, deed_of, ends, entered}
use Rattle.plan_lines.proofs.Prelude.{false≢true, fate, is_waiting, met, moved, not-true, on_going, progressed, reads_last, same-head, same-tail}
use Rattle.plan_lines.proofs.Prelude.{set_out}
use Rattle.plan_lines.proofs.Prelude.RecoveryPlans.{Line as Told}
use Rattle.plan_lines.proofs.Prelude.attempt
use Rattle.plan_lines.proofs.Prelude.course
use Rattle.plan_lines.proofs.Prelude.op

-- ---- a turn's recovery

pub went-after : (a : Place) (r : Recovery) (o : Op) (rest : List Op) (ob : Option Observation) (xs : List Exchange) (j : Job)
    → Does a.world a.read a.now (set_out a r) o rest ob xs j → after a r ≡ progressed (record (set_out a r) { core = j }) o (is_waiting j)
went-after a r o rest ob xs j does =
    ap (λ ops. (acted a.world a.read a.now (set_out a r) ops).recovery) does.ops
    ∙ (ap (λ t. (attempted a.world (set_out a r) o t).recovery) does.goes
    ∙ ap (λ c. (on_going a.world (set_out a r) o ob xs j c).recovery) does.free)

pub stopped-after : (a : Place) (r : Recovery) (o : Op) (rest : List Op) (c : Cause) (ob : Option Observation) → Stops a.world a.read a.now (set_out a r) o rest c ob
    → after a r ≡ (met a.world (set_out a r) c ob (fate a.world (set_out a r).purpose (set_out a r).stage c)).recovery
stopped-after a r o rest c ob stops =
    ap (λ ops. (acted a.world a.read a.now (set_out a r) ops).recovery) stops.ops ∙ ap (λ t. (attempted a.world (set_out a r) o t).recovery) stops.stops

-- ---- peeling

-- a recovery whose job has these operations left
abbrev pub left : Recovery → Job → List Op → Recovery
left x c ops = record x { core = record c { ops = ops } }

pub same-left : (x : Recovery) (j : Job) (ops : List Op) → j.ops ≡ ops → record x { core = j } ≡ left x j ops
same-left x j ops e = ap (λ (os : List Op). left x j os) e

-- the end of a job is no operation that goes on
pub goes-not : (a : Place) (s : Recovery) (p : Op) (ps : List Op) (ob : Option Observation) (xs : List Exchange) (j : Job) (told : List Told) → op.Finish told ≡ p
    → by_deed a.world a.read a.now s.core ps (deed_of p) ≡ attempt.Goes ob xs j → ⊥
goes-not a s p ps ob xs j told e goes =
    let h : attempt.Ends told ≡ attempt.Goes ob xs j = ap (λ q. by_deed a.world a.read a.now s.core ps (deed_of q)) e ∙ goes in
    cc

-- and it ends each stage
or-true : (b : Bool) → ((b && false) || true) ≡ true
or-true true = refl
or-true false = refl

pub not-finish : (s : Stage) (p : Op) (told : List Told) → ends s (deed_of p) ≡ false → p ≡ op.Finish told → ⊥
not-finish s p told on e = false≢true (sym on ∙ (ap (λ q. ends s (deed_of q)) e ∙ or-true (reads_last s)))

-- an operation that doesn't end its stage, and isn't its last one, leaves the rest
pub stays : (x : Recovery) (j : Job) (p : Op) (ops : List Op) → (ops ≡ [] → ⊥) → ends x.stage (deed_of p) ≡ false → progressed (left x j ops) p false ≡ left x j ops
stays x j p [] some on = absurd (some refl)
stays x j p (y ∷ ys) some on = ap (λ b. let s = cond b (entered (left x j (y ∷ ys)) (moved x.stage)) (left x j (y ∷ ys)) in at_end s s.core.ops) on

module _ (r : Recovery) (x : Place → Recovery) (c : Place → Job) (o : Place → Op) (rest : Place → List Op) (is : (a : Place) → set_out a r ≡ left (x a) (c a) (o a ∷ rest a)) where
  ops-at : (a : Place) (p : Op) (ps : List Op) → (set_out a r).core.ops ≡ p ∷ ps → o a ∷ rest a ≡ p ∷ ps
  ops-at a p ps due = sym (ap (λ s. s.core.ops) (is a)) ∙ due

  job-went : (a : Place) (p : Op) (ps : List Op) (ob : Option Observation) (xs : List Exchange) (j : Job)
      → Does a.world a.read a.now (set_out a r) p ps ob xs j → WentOn (set_out a r).core ps xs j
  job-went a p ps ob xs j does = subst (Went (set_out a r).core ps) does.goes (deed-went (set_out a r).core ps a.world a.read a.now (deed_of p))

  waited : (a : Place) (p : Op) (ps : List Op) (ob : Option Observation) (xs : List Exchange) (j : Job)
      → Does a.world a.read a.now (set_out a r) p ps ob xs j → is_waiting j ≡ true → after a r ≡ left (x a) j (o a ∷ rest a)
  waited a p ps ob xs j does waits =
      went-after a r p ps ob xs j does
      ∙ (ap (λ b. progressed (record (set_out a r) { core = j }) p b) waits
      ∙ (ap {A = Recovery} (λ (s : Recovery). let t : Recovery = record s { core = j } in t) (is a)
      ∙ same-left (x a) j (o a ∷ rest a) (((job-went a p ps ob xs j does).waits waits).0 ∙ ap (λ s. s.core.ops) (is a))))

  did : (a : Place) (p : Op) (ps : List Op) (ob : Option Observation) (xs : List Exchange) (j : Job)
      → Does a.world a.read a.now (set_out a r) p ps ob xs j → is_waiting j ≡ false → after a r ≡ progressed (left (x a) j (rest a)) p false
  did a p ps ob xs j does done =
      went-after a r p ps ob xs j does
      ∙ (ap (λ b. progressed (record (set_out a r) { core = j }) p b) done
      ∙ (ap (λ (s : Recovery). progressed (record s { core = j }) p false) (is a)
      ∙ ap (λ s. progressed s p false)
      (same-left (x a) j (rest a) ((job-went a p ps ob xs j does).done done ∙ sym (same-tail (o a) p (rest a) ps (ops-at a p ps does.ops))))))

module _ (G : Place → Recovery → Type 0) (Q : Recovery → Event → Recovery → Type 0) where
  -- the first operation is done, from what the first turn decided; the rest of the turns goes on after it
  pub record Peeled (r : Recovery) (x : Place → Recovery) (o : Place → Op) (rest : Place → List Op) (es : List Event) : Type 0 where
    pub at : Place
    pub sees : G at r
    pub before : Job
    pub job : Job
    pub later : List Event
    pub is : es ≡ Done (o at) ∷ later
    pub held : Q (left (x at) before (o at ∷ rest at)) (Done (o at)) (progressed (left (x at) job (rest at)) (o at) false)
    pub goes : Course G Q (progressed (left (x at) job (rest at)) (o at) false) later

  pub peel : (r : Recovery) (x : Place → Recovery) (c : Place → Job) (o : Place → Op) (rest : Place → List Op) → ((a : Place) → set_out a r ≡ left (x a) (c a) (o a ∷ rest a))
      → ((a : Place) (told : List Told) → o a ≡ op.Finish told → ⊥) → ((a : Place) (s later : Recovery) → Q s (Missed (o a)) later → ⊥)
      → (es : List Event) → Course G Q r es → Peeled r x o rest es
  peel r x c o rest is ending misses es (course.Waits a sees p ps ob xs j does waits goes) =
      let e = waited r x c o rest is a p ps ob xs j does waits in
      let more = peel (after a r) (λ b. x a) (λ b. j) (λ b. o a) (λ b. rest a) (λ b. ap (set_out b) e) (λ b. ending a) (λ b. misses a) es goes in
      record { at = a; sees = sees; before = more.before; job = more.job; later = more.later; is = more.is; held = more.held; goes = more.goes }
  peel _ x c o rest is ending misses _ (course.Does {r} {es} a sees p ps ob xs j does done held goes) =
      let e = did r x c o rest is a p ps ob xs j does done in
      let same : o a ≡ p = same-head (o a) p (rest a) ps (ops-at r x c o rest is a p ps does.ops) in
      record {
        at = a;
        sees = sees;
        before = c a;
        job = j;
        later = es;
        is = ap (λ q. Done q ∷ es) (sym same);
        held = subst (λ q. Q (left (x a) (c a) (o a ∷ rest a)) (Done q) (progressed (left (x a) j (rest a)) q false)) (sym same)
            (subst (λ s. Q (left (x a) (c a) (o a ∷ rest a)) (Done p) s) e (subst (λ s. Q s (Done p) (after a r)) (is a) held));
        goes = subst (λ q. Course G Q (progressed (left (x a) j (rest a)) q false) es) (sym same) (subst (λ s. Course G Q s es) e goes);
      }
  peel r x c o rest is ending misses _ (course.Misses a sees p ps why ob stops held goes) =
      absurd (misses a (set_out a r) (after a r)
      (subst (λ q. Q (set_out a r) (Missed q) (after a r)) (sym (same-head (o a) p (rest a) ps (ops-at r x c o rest is a p ps stops.ops))) held))
  peel r x c o rest is ending misses _ (course.Ends a sees told ps due) =
      absurd (ending a told (same-head (o a) (op.Finish told) (rest a) ps (ops-at r x c o rest is a (op.Finish told) ps due)))

  -- if nothing is decided
  pub peel-on : (x : Recovery) (c : Job) (o : Op) (rest : List Op) → ((told : List Told) → o ≡ op.Finish told → ⊥) → ((s later : Recovery) → Q s (Missed o) later → ⊥)
      → (es : List Event) → Course G Q (left x c (o ∷ rest)) es → Peeled (left x c (o ∷ rest)) (λ a. x) (λ a. o) (λ a. rest) es
  peel-on x c o rest ending misses es goes = peel (left x c (o ∷ rest)) (λ a. x) (λ a. c) (λ a. o) (λ a. rest) (λ a. refl) (λ a. ending) (λ a. misses) es goes

  -- the end
  pub last-of : (x : Recovery) (c : Job) (told : List Told) (rest : List Op) → ((s later : Recovery) → Q s (Missed (op.Finish told)) later → ⊥)
      → (es : List Event) → Course G Q (left x c (op.Finish told ∷ rest)) es → es ≡ Done (op.Finish told) ∷ []
  last-of x c told rest misses es (course.Waits a sees p ps ob xs j does waits goes) =
      absurd (goes-not a (left x c (op.Finish told ∷ rest)) p ps ob xs j told (same-head (op.Finish told) p rest ps does.ops) does.goes)
  last-of x c told rest misses _ (course.Does a sees p ps ob xs j does done held goes) =
      absurd (goes-not a (left x c (op.Finish told ∷ rest)) p ps ob xs j told (same-head (op.Finish told) p rest ps does.ops) does.goes)
  last-of x c told rest misses _ (course.Misses a sees p ps why ob stops held goes) =
      absurd (misses (left x c (op.Finish told ∷ rest)) (after a (left x c (op.Finish told ∷ rest)))
      (subst (λ q. Q (left x c (op.Finish told ∷ rest)) (Missed q) (after a (left x c (op.Finish told ∷ rest)))) (sym (same-head (op.Finish told) p rest ps stops.ops)) held))
  last-of x c told rest misses _ (course.Ends a sees more ps due) =
      ap (λ o. Done o ∷ []) (sym (same-head (op.Finish told) (op.Finish more) rest ps due))

  -- without an operation nothing goes on
  pub none-goes : (r : Recovery) → ((a : Place) → (set_out a r).core.ops ≡ []) → (es : List Event) → Course G Q r es → ⊥
  none-goes r none es (course.Waits a sees p ps ob xs j does waits goes) = let h : [] ≡ p ∷ ps = sym (none a) ∙ does.ops in cc
  none-goes r none _ (course.Does a sees p ps ob xs j does done held goes) = let h : [] ≡ p ∷ ps = sym (none a) ∙ does.ops in cc
  none-goes r none _ (course.Misses a sees p ps why ob stops held goes) = let h : [] ≡ p ∷ ps = sym (none a) ∙ stops.ops in cc
  none-goes r none _ (course.Ends a sees told ps due) = let h : [] ≡ op.Finish told ∷ ps = sym (none a) ∙ due in cc

  -- ---- several operations that don't end a stage

  abbrev pub MissNone : List Op → Type 0
  MissNone [] = Unit {0}
  MissNone (p ∷ ps) = ((s later : Recovery) → Q s (Missed p) later → ⊥) × MissNone ps

  -- they are done, and the next one is due
  pub record Walked (x : Recovery) (ops : List Op) (o : Op) (rest : List Op) (es : List Event) : Type 0 where
    pub job : Job
    pub later : List Event
    pub is : es ≡ map Done ops ++ later
    pub goes : Course G Q (left x job (o ∷ rest)) later

  pub walk : (x : Recovery) (ops : List Op) (o : Op) (rest : List Op) → are_still x.stage ops ≡ true → MissNone ops → (c : Job)
      → (es : List Event) → Course G Q (left x c (ops ++ o ∷ rest)) es → Walked x ops o rest es
  walk x [] o rest still misses c es goes = record { job = c; later = es; is = refl; goes = goes }
  walk x (p ∷ ps) o rest still misses c es goes =
      let parts = and_parts (not (ends x.stage (deed_of p))) (are_still x.stage ps) still in
      let on : ends x.stage (deed_of p) ≡ false = not-true (ends x.stage (deed_of p)) parts.0 in
      let one = peel-on x c p (ps ++ o ∷ rest) (λ told e. not-finish x.stage p told on e) misses.0 es goes in
      let more = walk x ps o rest parts.1 misses.1 one.job one.later (subst (λ s. Course G Q s one.later) (stays x one.job p (ps ++ o ∷ rest) (some ps) on) one.goes) in
      record { job = more.job; later = more.later; is = one.is ∙ ap (λ l. Done p ∷ l) more.is; goes = more.goes }
    where
      some : (qs : List Op) → qs ++ o ∷ rest ≡ [] → ⊥
      some [] h = cc
      some (q ∷ qs) h = cc
