-- Each unended recovery began in a turn of its run.
use Rattle.std.proofs.Common.{◌≡◌, ◌∙◌, ℕ, List, [], ◌∷◌, ◌++◌, length, refl, sym, ap, subst, take, Some, ◌⊎◌, inl, inr, zero, suc, All, Contains, slice_get}
use Rattle.recovery_runs.proofs.Prelude.{All-contains, All-weaker, Began, BeganIn, BeginsOnce, ComesOf, Contains-append_cases, Docket, HasHooks}
use Rattle.recovery_runs.proofs.Prelude.{IsOfDocket, IsTurn, Purpose, Ready, Recovery, Row, SameAim, ServerNo, State, Turn, Unended, engine}
use Rattle.recovery_runs.proofs.Prelude.{jobs_begun, replicas_of, run_turns, same-aim, step, then-aim}
use Rattle.recovery_runs.proofs.Prelude.unended
use Rattle.recovery_runs.proofs.Begun.{begun-once}
use Rattle.recovery_runs.proofs.Tellings.{tells-on}
use Rattle.recovery_runs.proofs.Coming.{all-come}

-- a turn, with the rows that the row store hands back
abbrev pub Step : Type 0
Step = List Row × Turn

-- ---- places of a list of turns

pub get-longer : (xs ys : List Step) (k : ℕ) (x : Step) → slice_get xs k ≡ Some x → slice_get (xs ++ ys) k ≡ Some x
get-longer [] ys k x h = cc
get-longer (z ∷ zs) ys zero x h = h
get-longer (z ∷ zs) ys (suc k) x h = get-longer zs ys k x h

pub take-longer : (xs ys : List Step) (k : ℕ) (x : Step) → slice_get xs k ≡ Some x → take k (xs ++ ys) ≡ take k xs
take-longer [] ys k x h = cc
take-longer (z ∷ zs) ys zero x h = refl
take-longer (z ∷ zs) ys (suc k) x h = ap (λ (us : List Step). z ∷ us) (take-longer zs ys k x h)

pub get-last : (xs : List Step) (x : Step) → slice_get (xs ++ x ∷ []) (length xs) ≡ Some x
get-last [] x = refl
get-last (z ∷ zs) x = get-last zs x

pub take-all : (xs ys : List Step) → take (length xs) (xs ++ ys) ≡ xs
take-all [] ys = refl
take-all (z ∷ zs) ys = ap (λ (us : List Step). z ∷ us) (take-all zs ys)

-- ---- the turn in which each recovery began

module _ (from : State) where
  abbrev pub HasOrigin : List Step → Unended → Type 0
  HasOrigin xs (unended.Plan j) = Unit {0}
  HasOrigin xs (unended.Recovery r docket) = Began from xs r docket

  unfoldable pub longer : (xs ys : List Step) (u : Unended) → HasOrigin xs u → HasOrigin (xs ++ ys) u
  longer xs ys (unended.Plan j) h = tt
  longer xs ys (unended.Recovery r docket) h = record {
    place = h.place;
    turn = h.turn;
    taken = get-longer xs ys h.place h.turn h.taken;
    begins = subst (λ (zs : List Step). BeganIn (run_turns engine from zs) h.turn.1 r docket) (sym (take-longer xs ys h.place h.turn h.taken)) h.begins;
  }

  -- one that goes on is about the same
  unfoldable pub goes-on : (xs : List Step) (was r : Recovery) (had docket : Docket) → r.core.id ≡ was.core.id → SameAim was r → IsOfDocket had docket → Began from xs was had → Began from xs r docket
  goes-on xs was r had docket number aim same h =
      let then = h.begins in
      record {
        place = h.place;
        turn = h.turn;
        taken = h.taken;
        begins = record {
          was = then.was;
          had = then.had;
          among = then.among;
          number = number ∙ then.number;
          aim = then-aim then.was was r then.aim aim;
          replicas = aim.replicas ∙ (then.replicas ∙ ap (replicas_of (run_turns engine from (take h.place xs)).book) (sym aim.failed));
          tells = tells-on was r aim then.tells;
          same = record { entry = same.entry ∙ then.same.entry; hooks = same.hooks ∙ then.same.hooks };
          hooks =
              subst (λ (n : ServerNo). HasHooks (run_turns engine from (take h.place xs)) r.purpose n then.had.hooks) (sym aim.failed)
              (subst (λ (u : Purpose). HasHooks (run_turns engine from (take h.place xs)) u was.failed then.had.hooks) (sym aim.purpose) then.hooks);
        };
      }

  module _ (count : ℕ) (xs : List Step) (s : State) (x : Step) (here : s ≡ run_turns engine from xs) (ready : Ready count s) (is : IsTurn count x.1) where
    -- it was there before, or begins in this turn
    by-origin : (was r : Recovery) (had docket : Docket) → r.core.id ≡ was.core.id → SameAim was r → IsOfDocket had docket → All (HasOrigin xs) s.jobs
        → Contains s.jobs (unended.Recovery was had) ⊎ Contains (jobs_begun s x.1) (unended.Recovery was had) → Began from (xs ++ x ∷ []) r docket
    by-origin was r had docket number aim same all (inl there) =
        longer xs (x ∷ []) (unended.Recovery r docket) (goes-on xs was r had docket number aim same (All-contains (HasOrigin xs) s.jobs (unended.Recovery was had) all there))
    by-origin was r had docket number aim same all (inr begun) =
        let new = All-contains (BeginsOnce s) (jobs_begun s x.1) (unended.Recovery was had) (begun-once count s x.1 ready is) begun in
        record {
          place = length xs;
          turn = x;
          taken = get-last xs x;
          begins =
              subst (λ (zs : List Step). BeganIn (run_turns engine from zs) x.1 r docket) (sym (take-all xs (x ∷ [])))
              (subst (λ (z : State). BeganIn z x.1 r docket) here
              (record {
                was = was;
                had = had;
                among = begun;
                number = number;
                aim = aim;
                replicas = aim.replicas ∙ (new.replicas ∙ ap (replicas_of s.book) (sym aim.failed));
                tells = tells-on was r aim new.tells;
                same = same;
                hooks =
                    subst (λ (n : ServerNo). HasHooks s r.purpose n had.hooks) (sym aim.failed)
                    (subst (λ (u : Purpose). HasHooks s u was.failed had.hooks) (sym aim.purpose) new.hooks);
              }));
        }

    unfoldable pub began-here : (r : Recovery) (docket : Docket) → Contains (jobs_begun s x.1) (unended.Recovery r docket) → Began from (xs ++ x ∷ []) r docket
    began-here r docket begun =
        let new = All-contains (BeginsOnce s) (jobs_begun s x.1) (unended.Recovery r docket) (begun-once count s x.1 ready is) begun in
        record {
          place = length xs;
          turn = x;
          taken = get-last xs x;
          begins =
              subst (λ (zs : List Step). BeganIn (run_turns engine from zs) x.1 r docket) (sym (take-all xs (x ∷ [])))
              (subst (λ (z : State). BeganIn z x.1 r docket) here
              (record {
                was = r;
                had = docket;
                among = begun;
                number = refl;
                aim = same-aim r;
                replicas = new.replicas;
                tells = new.tells;
                same = record { entry = refl; hooks = refl };
                hooks = new.hooks;
              }));
        }

    comes-of : All (HasOrigin xs) s.jobs → (u : Unended) → ComesOf (s.jobs ++ jobs_begun s x.1) u → HasOrigin (xs ++ x ∷ []) u
    comes-of all (unended.Plan j) h = tt
    comes-of all (unended.Recovery r docket) h =
        by-origin h.was r h.had docket h.number h.aim h.same all (Contains-append_cases s.jobs (jobs_begun s x.1) (unended.Recovery h.was h.had) h.among)

    pub origins-step : All (HasOrigin xs) s.jobs → All (HasOrigin (xs ++ x ∷ [])) (step x.0 s x.1).jobs
    origins-step all =
        All-weaker (ComesOf (s.jobs ++ jobs_begun s x.1)) (HasOrigin (xs ++ x ∷ [])) (comes-of all) (step x.0 s x.1).jobs (all-come count x.0 s x.1 ready)
