-- What others do leaves what a recovery keeps up, and one that begins keeps it up.
use Rattle.std.proofs.Common.{◌≡◌, ℕ, Bool, true, List, [], ◌∷◌, get_or, refl, sym, ◌∙◌, subst, Option, Some, None, ◌⊎◌, inl, inr, IfSome}
use Rattle.unended_laws.proofs.Prelude.{All, All-cons, All-nil, AltersOnly, AreSourcesOf, Exchange, Fact, Follower, GoesOn, IsAny, IsKeptUp, IsLeased}
use Rattle.unended_laws.proofs.Prelude.{IsOpenYet, IsShut, LeasedRecovery, Means, Op, Purpose, Recovery, ServerNo, Stage, UpSoFar, World, after, altered_by}
use Rattle.unended_laws.proofs.Prelude.{begun_recovery, deed_of, false≢true, is_outside, is_takeover, run, same_Some, server_of, unleased-run}
use Rattle.unended_laws.proofs.Prelude.op
use Rattle.unended_laws.proofs.Prelude.purpose
use Rattle.unended_laws.proofs.Prelude.stage
use Rattle.unended_laws.proofs.Applying.{StaysSo, outside-stays-so, same-stays-so}

module _ (P : Fact → Bool) (w w' : World) (r : Recovery) where
  kept : (x : Follower) → StaysSo w w' x.no.0 → IsKeptUp P w r x.no → IsKeptUp P w' r x.no
  kept x st (inl (inl h)) = inl (inl (st.applies h))
  kept x st (inl (inr h)) = inl (inr h)
  kept x st (inr h) = inr h

  rejoined : (A : Type 0) (n : ℕ) → StaysSo w w' n → A ⊎ GoesOn w n → A ⊎ GoesOn w' n
  rejoined A n st (inl h) = inl h
  rejoined A n st (inr (inl h)) = inr (inl (st.applies h))
  rejoined A n st (inr (inr h)) = inr (inr (st.loose h))

  closed : (A : Type 0) (n : ℕ) → StaysSo w w' n → A ⊎ IsShut w n → A ⊎ IsShut w' n
  closed A n st (inl h) = inl h
  closed A n st (inr h) = inr (st.shut h)

  -- if the servers stay so that a recovery keeps up
  up-on : All (λ x. StaysSo w w' x.no.0) r.outcome.followers → (is_takeover r.purpose ≡ true → StaysSo w w' r.failed.0)
      → ((p : ServerNo) → r.purpose ≡ purpose.Regroup → r.chosen ≡ Some p → StaysSo w w' p.0) → UpSoFar P w r → UpSoFar P w' r
  up-on stay old first up = record {
    alters = up.alters;
    followers = λ i d lt. kept (get_or r.outcome.followers i d) (stay i d lt) (up.followers i d lt);
    rejoins = λ p lines regroup at chosen. rejoined (r.core.ops ≡ op.Start p ∷ op.Finish lines ∷ []) p.0 (first p regroup chosen) (up.rejoins p lines regroup at chosen);
    first = up.first;
    shut = λ t. closed (IsOpenYet r.stage) r.failed.0 (old t) (up.shut t);
    reads = up.reads;
  }

pub outside-up : (P : Fact → Bool) (w : World) (e : Exchange) (r : Recovery) → is_outside e ≡ true → UpSoFar P w r → UpSoFar P (after w e) r
outside-up P w e r out up =
    up-on P w (after w e) r (λ i d lt. outside-stays-so w e out (get_or r.outcome.followers i d).no.0) (λ t. outside-stays-so w e out r.failed.0)
    (λ p regroup chosen. outside-stays-so w e out p.0) up

pub old-leased : (A B : ℕ → Type 0) (u : Purpose) (f : ServerNo) (o : Option ServerNo) → is_takeover u ≡ true → AreSourcesOf A B u f o → A f.0
old-leased A B (purpose.Takeover d) f o h s = s
old-leased A B _ f o h s = absurd (false≢true h)

pub others-up : (P : Fact → Bool) (l : ℕ → Option ℕ) (id mine : ℕ) (w : World) (es : List Exchange) (r : Recovery) → All (λ e. IsLeased l id (server_of e)) es → (id ≡ mine → ⊥) → LeasedRecovery l mine r
    → UpSoFar P w r → UpSoFar P (run w es) r
others-up P l id mine w es r all apart leased up =
    up-on P w (run w es) r (λ i d lt. stays (get_or r.outcome.followers i d).no.0 (leased.followers i d lt))
    (λ t. stays r.failed.0 (old-leased (IsLeased l mine) IsAny r.purpose r.failed r.chosen t leased.sources)) (λ p regroup chosen. stays p.0 (first p regroup chosen)) up
  where
    stays : (n : ℕ) → IsLeased l mine n → StaysSo w (run w es) n
    stays n own = same-stays-so w (run w es) n (unleased-run l id w es n all (λ h. apart (same_Some id mine (sym h ∙ own))))

    first : (p : ServerNo) → r.purpose ≡ purpose.Regroup → r.chosen ≡ Some p → IsLeased l mine p.0
    first p regroup chosen =
        subst (λ (o : Option ServerNo). IfSome o (λ n. IsLeased l mine n.0)) chosen
        (subst (λ (u : Purpose). AreSourcesOf (IsLeased l mine) IsAny u r.failed r.chosen) regroup leased.sources)

pub begun-up : (P : Fact → Bool) (w : World) (u : Purpose) (by : Means) (id wait : ℕ) (f : ServerNo) (ns order : List ServerNo) → UpSoFar P w (begun_recovery u by id wait f ns order)
begun-up P w u by id wait f ns order = by-purpose u
  where
    none : (r : Recovery) → All (λ (x : Follower). IsKeptUp P w r x.no) []
    none r = All-nil (λ (x : Follower). IsKeptUp P w r x.no)

    looks : (k : Stage) → All (λ o. AltersOnly (altered_by k) (deed_of o)) (op.Status f None ∷ [])
    looks k = All-cons (λ (o : Op). AltersOnly (altered_by k) (deed_of o)) (op.Status f None) [] tt (All-nil (λ (o : Op). AltersOnly (altered_by k) (deed_of o)))

    by-purpose : (v : Purpose) → UpSoFar P w (begun_recovery v by id wait f ns order)
    by-purpose purpose.Regroup = record {
      alters = All-nil (λ o. AltersOnly (altered_by stage.Idle) (deed_of o));
      followers = none (begun_recovery purpose.Regroup by id wait f ns order);
      rejoins = λ p lines regroup at chosen. cc;
      first = λ m d at. cc;
      shut = λ h. absurd (false≢true h);
      reads = λ n lines crowned at promoted. cc;
    }
    by-purpose purpose.Master = record {
      alters = looks stage.Check;
      followers = none (begun_recovery purpose.Master by id wait f ns order);
      rejoins = λ p lines regroup at chosen. cc;
      first = λ m d at. cc;
      shut = λ h. absurd (false≢true h);
      reads = λ n lines crowned at promoted. cc;
    }
    by-purpose (purpose.Intermediate s) = record {
      alters = looks stage.Check;
      followers = none (begun_recovery (purpose.Intermediate s) by id wait f ns order);
      rejoins = λ p lines regroup at chosen. cc;
      first = λ m d at. cc;
      shut = λ h. absurd (false≢true h);
      reads = λ n lines crowned at promoted. cc;
    }
    by-purpose (purpose.Takeover d) = record {
      alters = looks (stage.Meet f d);
      followers = none (begun_recovery (purpose.Takeover d) by id wait f ns order);
      rejoins = λ p lines regroup at chosen. cc;
      first = λ m k at. cc;
      shut = λ h. inl (f, d, inl refl);
      reads = λ n lines crowned at promoted. cc;
    }
