-- The first operation of a recovery's turns: it is done, or missed.
use Rattle.std.proofs.Common.{◌≡◌, ◌∙◌, ◌⊎◌, inl, inr, true, false, not, List, [], ◌∷◌, ◌++◌, map, Option, refl, sym, ap, subst}
use Rattle.plan_laws.proofs.Prelude.{Cause, Course, Does, Done, Event, Exchange, Job, Missed, Observation, Op, Place, Recovery, Stops, Went, WentOn}
use Rattle.plan_laws.proofs.Prelude.{after, and_parts, are_still, deed-went, deed_of, ends, fate, goes-not, is_waiting, left, met, not-finish}
use Rattle.plan_laws.proofs.Prelude.{not-true, progressed, same-head, same-left, same-tail, set_out, settled, stays, stopped-after, went-after}
use Rattle.plan_laws.proofs.Prelude.RunLaws.{Line as Told}
use Rattle.plan_laws.proofs.Prelude.course
use Rattle.plan_laws.proofs.Prelude.op

-- ---- a turn's recovery

module _ (x : Recovery) (c : Job) (o : Op) (rest : List Op) (r : Recovery) (is : (a : Place) → set_out a r ≡ left x c (o ∷ rest)) where
  pub ops-at : (a : Place) (p : Op) (ps : List Op) → (set_out a r).core.ops ≡ p ∷ ps → o ∷ rest ≡ p ∷ ps
  ops-at a p ps due = sym (ap (λ s. s.core.ops) (is a)) ∙ due

  job-went : (a : Place) (p : Op) (ps : List Op) (ob : Option Observation) (xs : List Exchange) (j : Job)
      → Does a.world a.read a.now (set_out a r) p ps ob xs j → WentOn (set_out a r).core ps xs j
  job-went a p ps ob xs j does = subst (Went (set_out a r).core ps) does.goes (deed-went (set_out a r).core ps a.world a.read a.now (deed_of p))

  waited : (a : Place) (p : Op) (ps : List Op) (ob : Option Observation) (xs : List Exchange) (j : Job)
      → Does a.world a.read a.now (set_out a r) p ps ob xs j → is_waiting j ≡ true → after a r ≡ left x j (o ∷ rest)
  waited a p ps ob xs j does waits =
      went-after a r p ps ob xs j does
      ∙ (ap (λ b. progressed (record (set_out a r) { core = j }) p b) waits
      ∙ (ap {A = Recovery} (λ (s : Recovery). let t : Recovery = record s { core = j } in t) (is a)
      ∙ same-left x j (o ∷ rest) (((job-went a p ps ob xs j does).waits waits).0 ∙ ap (λ s. s.core.ops) (is a))))

  did : (a : Place) (p : Op) (ps : List Op) (ob : Option Observation) (xs : List Exchange) (j : Job)
      → Does a.world a.read a.now (set_out a r) p ps ob xs j → is_waiting j ≡ false → after a r ≡ progressed (left x j rest) p false
  did a p ps ob xs j does done =
      went-after a r p ps ob xs j does
      ∙ (ap (λ b. progressed (record (set_out a r) { core = j }) p b) done
      ∙ (ap (λ (s : Recovery). progressed (record s { core = j }) p false) (is a)
      ∙ ap (λ s. progressed s p false) (same-left x j rest ((job-went a p ps ob xs j does).done done ∙ sym (same-tail o p rest ps (ops-at a p ps does.ops))))))

module _ (G : Place → Recovery → Type 0) (Q : Recovery → Event → Recovery → Type 0) where
  -- the first operation is done, and the other turns come after it
  pub record Did (x : Recovery) (o : Op) (rest : List Op) (es : List Event) : Type 0 where
    pub before : Job
    pub job : Job
    pub later : List Event
    pub is : es ≡ Done o ∷ later
    pub held : Q (left x before (o ∷ rest)) (Done o) (progressed (left x job rest) o false)
    pub goes : Course G Q (progressed (left x job rest) o false) later

  -- it is missed, for a cause
  pub record Missing (x : Recovery) (o : Op) (rest : List Op) (es : List Event) : Type 0 where
    pub at : Place
    pub cause : Cause
    pub saw : Option Observation
    pub before : Job
    pub later : List Event
    pub is : es ≡ Missed o ∷ later
    pub held : Q (left x before (o ∷ rest)) (Missed o) (met at.world (left x before (o ∷ rest)) cause saw (fate at.world x.purpose x.stage cause)).recovery
    pub goes : Course G Q (met at.world (left x before (o ∷ rest)) cause saw (fate at.world x.purpose x.stage cause)).recovery later

  first-from : (x : Recovery) (c : Job) (o : Op) (rest : List Op) → ((told : List Told) → o ≡ op.Finish told → ⊥)
      → (r : Recovery) → ((a : Place) → set_out a r ≡ left x c (o ∷ rest)) → (es : List Event) → Course G Q r es → Did x o rest es ⊎ Missing x o rest es
  first-from x c o rest ending r is es (course.Waits a sees p ps ob xs j does waits goes) =
      first-from x j o rest ending (after a r) (λ b. ap (set_out b) (waited x c o rest r is a p ps ob xs j does waits)) es goes
  first-from x c o rest ending r is _ (course.Does {es} a sees p ps ob xs j does done held goes) =
      let e = did x c o rest r is a p ps ob xs j does done in
      let same : o ≡ p = same-head o p rest ps (ops-at x c o rest r is a p ps does.ops) in
      inl (record {
        before = c;
        job = j;
        later = es;
        is = ap (λ q. Done q ∷ es) (sym same);
        held = subst (λ q. Q (left x c (o ∷ rest)) (Done q) (progressed (left x j rest) q false)) (sym same)
            (subst (λ s. Q (left x c (o ∷ rest)) (Done p) s) e (subst (λ s. Q s (Done p) (after a r)) (is a) held));
        goes = subst (λ q. Course G Q (progressed (left x j rest) q false) es) (sym same) (subst (λ s. Course G Q s es) e goes);
      })
  first-from x c o rest ending r is _ (course.Misses {es} a sees p ps why ob stops held goes) =
      let e = stopped-after a r p ps why ob stops ∙ ap (λ (s : Recovery). (met a.world s why ob (fate a.world s.purpose s.stage why)).recovery) (is a) in
      let same : o ≡ p = same-head o p rest ps (ops-at x c o rest r is a p ps stops.ops) in
      inr (record {
        at = a;
        cause = why;
        saw = ob;
        before = c;
        later = es;
        is = ap (λ q. Missed q ∷ es) (sym same);
        held = subst (λ q. Q (left x c (o ∷ rest)) (Missed q) (met a.world (left x c (o ∷ rest)) why ob (fate a.world x.purpose x.stage why)).recovery) (sym same)
            (subst (λ s. Q (left x c (o ∷ rest)) (Missed p) s) e (subst (λ s. Q s (Missed p) (after a r)) (is a) held));
        goes = subst (λ s. Course G Q s es) e goes;
      })
  first-from x c o rest ending r is _ (course.Ends a sees told ps due) =
      absurd (ending told (same-head o (op.Finish told) rest ps (ops-at x c o rest r is a (op.Finish told) ps due)))

  pub first-of : (x : Recovery) (c : Job) (o : Op) (rest : List Op) → ((told : List Told) → o ≡ op.Finish told → ⊥) → (es : List Event)
      → Course G Q (left x c (o ∷ rest)) es → Did x o rest es ⊎ Missing x o rest es
  first-of x c o rest ending es goes = first-from x c o rest ending (left x c (o ∷ rest)) (λ a. refl) es goes

  -- one that can't be missed is done
  abbrev pub MissesNot : Recovery → Op → List Op → Type 0
  MissesNot x o rest = (c : Job) (later : Recovery) → Q (left x c (o ∷ rest)) (Missed o) later → ⊥

  pub done-first : (x : Recovery) (c : Job) (o : Op) (rest : List Op) → ((told : List Told) → o ≡ op.Finish told → ⊥) → MissesNot x o rest
      → (es : List Event) → Course G Q (left x c (o ∷ rest)) es → Did x o rest es
  done-first x c o rest ending misses es goes = go (first-of x c o rest ending es goes)
    where
      go : Did x o rest es ⊎ Missing x o rest es → Did x o rest es
      go (inl d) = d
      go (inr m) = absurd (misses m.before (met m.at.world (left x m.before (o ∷ rest)) m.cause m.saw (fate m.at.world x.purpose x.stage m.cause)).recovery m.held)

  -- ---- several operations that don't end a stage

  -- they are done, and the next one is due
  pub record Walked (x : Recovery) (ops : List Op) (o : Op) (rest : List Op) (es : List Event) : Type 0 where
    pub job : Job
    pub later : List Event
    pub is : es ≡ map Done ops ++ later
    pub goes : Course G Q (left x job (o ∷ rest)) later

  pub walk-on : (x : Recovery) (ops : List Op) (o : Op) (rest : List Op) → are_still x.stage ops ≡ true → ((p : Op) (ps : List Op) → MissesNot x p ps) → (c : Job)
      → (es : List Event) → Course G Q (left x c (ops ++ o ∷ rest)) es → Walked x ops o rest es
  walk-on x [] o rest still misses c es goes = record { job = c; later = es; is = refl; goes = goes }
  walk-on x (p ∷ ps) o rest still misses c es goes =
      let parts = and_parts (not (ends x.stage (deed_of p))) (are_still x.stage ps) still in
      let on : ends x.stage (deed_of p) ≡ false = not-true (ends x.stage (deed_of p)) parts.0 in
      let one = done-first x c p (ps ++ o ∷ rest) (λ told e. not-finish x.stage p told on e) (misses p (ps ++ o ∷ rest)) es goes in
      let more = walk-on x ps o rest parts.1 misses one.job one.later (subst (λ s. Course G Q s one.later) (stays x one.job p (ps ++ o ∷ rest) (some ps) on) one.goes) in
      record { job = more.job; later = more.later; is = one.is ∙ ap (λ l. Done p ∷ l) more.is; goes = more.goes }
    where
      some : (qs : List Op) → qs ++ o ∷ rest ≡ [] → ⊥
      some [] h = cc
      some (q ∷ qs) h = cc

-- ---- the end

module _ (G : Place → Recovery → Type 0) (Q : Recovery → Event → Recovery → Type 0) where
  pub last-of : (x : Recovery) (c : Job) (told : List Told) (rest : List Op) → ((later : Recovery) → Q (left x c (op.Finish told ∷ rest)) (Missed (op.Finish told)) later → ⊥)
      → (es : List Event) → Course G Q (left x c (op.Finish told ∷ rest)) es → es ≡ Done (op.Finish told) ∷ []
  last-of x c told rest misses es (course.Waits a sees p ps ob xs j does waits goes) =
      absurd (goes-not a (left x c (op.Finish told ∷ rest)) p ps ob xs j told (same-head (op.Finish told) p rest ps does.ops) does.goes)
  last-of x c told rest misses _ (course.Does a sees p ps ob xs j does done held goes) =
      absurd (goes-not a (left x c (op.Finish told ∷ rest)) p ps ob xs j told (same-head (op.Finish told) p rest ps does.ops) does.goes)
  last-of x c told rest misses _ (course.Misses a sees p ps why ob stops held goes) =
      absurd (misses (after a (left x c (op.Finish told ∷ rest)))
      (subst (λ q. Q (left x c (op.Finish told ∷ rest)) (Missed q) (after a (left x c (op.Finish told ∷ rest)))) (sym (same-head (op.Finish told) p rest ps stops.ops)) held))
  last-of x c told rest misses _ (course.Ends a sees more ps due) =
      ap (λ o. Done o ∷ []) (sym (same-head (op.Finish told) (op.Finish more) rest ps due))

  -- without an operation nothing goes on
  pub none-goes : (r : Recovery) → ((a : Place) → (set_out a r).core.ops ≡ []) → (es : List Event) → Course G Q r es → ⊥
  none-goes r none es (course.Waits a sees p ps ob xs j does waits goes) = let h : [] ≡ p ∷ ps = sym (none a) ∙ does.ops in cc
  none-goes r none _ (course.Does a sees p ps ob xs j does done held goes) = let h : [] ≡ p ∷ ps = sym (none a) ∙ does.ops in cc
  none-goes r none _ (course.Misses a sees p ps why ob stops held goes) = let h : [] ≡ p ∷ ps = sym (none a) ∙ stops.ops in cc
  none-goes r none _ (course.Ends a sees told ps due) = let h : [] ≡ op.Finish told ∷ ps = sym (none a) ∙ due in cc

-- ---- decisions

-- what a turn does hangs on what it decided alone
turn-on : (a : Place) (r s : Recovery) → set_out a r ≡ set_out a s → after a r ≡ after a s
turn-on a r s same = ap (λ t. (settled a.world a.read a.now t).recovery) same

module _ (G H : Place → Recovery → Type 0) (Q : Recovery → Event → Recovery → Type 0) (weaker : (a : Place) (r : Recovery) → G a r → H a r) where
  -- less holds of each turn
  weakened : (r : Recovery) (es : List Event) → Course G Q r es → Course H Q r es
  weakened r es (course.Waits a sees p ps ob xs j does waits goes) = course.Waits a (weaker a r sees) p ps ob xs j does waits (weakened (after a r) es goes)
  weakened r _ (course.Does {es} a sees p ps ob xs j does done held goes) = course.Does a (weaker a r sees) p ps ob xs j does done held (weakened (after a r) es goes)
  weakened r _ (course.Misses {es} a sees p ps why ob stops held goes) = course.Misses a (weaker a r sees) p ps why ob stops held (weakened (after a r) es goes)
  weakened r _ (course.Ends a sees told ps due) = course.Ends a (weaker a r sees) told ps due

  -- the turns are those of what the first one makes of the recovery first
  pub record Decided (s : Place → Recovery) (r : Recovery) (es : List Event) : Type 0 where
    pub at : Place
    pub sees : G at r
    pub goes : Course H Q (s at) es

  pub decides : (s : Place → Recovery) (r : Recovery) → ((a : Place) → G a r → H a (s a)) → ((a : Place) → G a r → set_out a r ≡ set_out a (s a))
      → (es : List Event) → Course G Q r es → Decided s r es
  decides s r keeps same es (course.Waits a sees p ps ob xs j does waits goes) = record {
    at = a;
    sees = sees;
    goes = course.Waits a (keeps a sees) p ps ob xs j (subst (λ t. Does a.world a.read a.now t p ps ob xs j) (same a sees) does) waits
        (subst (λ t. Course H Q t es) (turn-on a r (s a) (same a sees)) (weakened (after a r) es goes));
  }
  decides s r keeps same _ (course.Does {es} a sees p ps ob xs j does done held goes) = record {
    at = a;
    sees = sees;
    goes = course.Does a (keeps a sees) p ps ob xs j (subst (λ t. Does a.world a.read a.now t p ps ob xs j) (same a sees) does) done
        (subst (λ t. Q (set_out a (s a)) (Done p) t) (turn-on a r (s a) (same a sees)) (subst (λ t. Q t (Done p) (after a r)) (same a sees) held))
        (subst (λ t. Course H Q t es) (turn-on a r (s a) (same a sees)) (weakened (after a r) es goes));
  }
  decides s r keeps same _ (course.Misses {es} a sees p ps why ob stops held goes) = record {
    at = a;
    sees = sees;
    goes = course.Misses a (keeps a sees) p ps why ob (subst (λ t. Stops a.world a.read a.now t p ps why ob) (same a sees) stops)
        (subst (λ t. Q (set_out a (s a)) (Missed p) t) (turn-on a r (s a) (same a sees)) (subst (λ t. Q t (Missed p) (after a r)) (same a sees) held))
        (subst (λ t. Course H Q t es) (turn-on a r (s a) (same a sees)) (weakened (after a r) es goes));
  }
  decides s r keeps same _ (course.Ends a sees told ps due) =
      record { at = a; sees = sees; goes = course.Ends a (keeps a sees) told ps (ap (λ t. t.core.ops) (sym (same a sees)) ∙ due) }
