-- The wait for an applier that settles ends by its last wait.
use Rattle.job_laws.proofs.Planned.{any-true as or-true}
use Rattle.std.proofs.Common.{◌≡◌, ℕ, ◌+◌, ◌<◌, ◌≤◌, Bool, true, false, cond, List, [], refl, ◌∙◌, ap, Some, None, ◌||◌, nat_lt, not}
use Rattle.job_laws.proofs.Prelude.{Goes, Job, Moment, Op, ServerNo, Settle, Status, Stops, World, after_wait, after_wait_by, by_deed, is_settled}
use Rattle.job_laws.proofs.Prelude.{le-ltb, lt-ltb, next, saw, seen_in, settles, status}
use Rattle.job_laws.proofs.Prelude.cause

pub settle-unreached : (w : World) (read : ℕ) (now : Moment) (j : Job) (rest : List Op) (n : ServerNo)
    → seen_in (status w n.0) ≡ None → by_deed w read now j rest (Settle n) ≡ Stops (cause.Unreachable n) None
settle-unreached w read now j rest n e = ap (after_wait j rest n (settles j)) e

settled-by : (j : Job) (s : Status) → is_settled s ≡ true → settles j s ≡ true
settled-by j s e = ap (λ b. b || not (nat_lt (j.waited + 1) j.wait)) e

last-by : (j : Job) (s : Status) → j.wait ≤ j.waited + 1 → settles j s ≡ true
last-by j s le = ap (λ b. is_settled s || not b) (le-ltb (j.waited + 1) j.wait le) ∙ or-true (is_settled s)

not-yet : (j : Job) (s : Status) → is_settled s ≡ false → j.waited + 1 < j.wait → settles j s ≡ false
not-yet j s e lt = ap (λ b. b || not (nat_lt (j.waited + 1) j.wait)) e ∙ ap not (lt-ltb (j.waited + 1) j.wait lt)

module _ (w : World) (read : ℕ) (now : Moment) (j : Job) (rest : List Op) (n : ServerNo) (s : Status) (seen : seen_in (status w n.0) ≡ Some s) where
  pub settle-done : settles j s ≡ true → by_deed w read now j rest (Settle n) ≡ Goes None [] (next (saw j n s) rest)
  settle-done e = ap (after_wait j rest n (settles j)) seen ∙ ap (after_wait_by j rest n s) e

  pub settle-settled : is_settled s ≡ true → by_deed w read now j rest (Settle n) ≡ Goes None [] (next (saw j n s) rest)
  settle-settled e = settle-done (settled-by j s e)

  pub settle-last : j.wait ≤ j.waited + 1 → by_deed w read now j rest (Settle n) ≡ Goes None [] (next (saw j n s) rest)
  settle-last le = settle-done (last-by j s le)

  pub settle-waits : is_settled s ≡ false → j.waited + 1 < j.wait → by_deed w read now j rest (Settle n) ≡ Goes None [] (record (saw j n s) { waited = j.waited + 1 })
  settle-waits e lt =
      ap (after_wait j rest n (settles j)) seen ∙ ap (after_wait_by j rest n s) (not-yet j s e lt) ∙ more (nat_lt (j.waited + 1) j.wait) (lt-ltb (j.waited + 1) j.wait lt)
    where
      more : (b : Bool) → b ≡ true → cond b (Goes None [] (record (saw j n s) { waited = j.waited + 1 })) (Stops (cause.WaitSpent n) None) ≡ Goes None [] (record (saw j n s) { waited = j.waited + 1 })
      more true h = refl
      more false h = cc
