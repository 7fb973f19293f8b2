-- What begins is after what is there.
use Rattle.std.proofs.Common.{◌≡◌, ◌+◌, List, [], ◌++◌, refl, sym, subst, All}
use Rattle.recovery_runs.proofs.Prelude.{All-append, Outcome, State, Unended, Update, append-nil, jobs_of, known_of, updated}
use Rattle.recovery_runs.proofs.Prelude.update

pub joined : (P : Unended → Type 0) (us vs ws : List Unended) → ws ≡ us ++ vs → All P us → All P vs → All P ws
joined P us vs ws is all new = subst (All P) (sym is) (All-append P us vs all new)

update-joins : (s : State) (u : Update) → (updated (known_of s) u).jobs ≡ s.jobs ++ (updated (record (known_of s) { jobs = [] }) u).jobs
update-joins s (update.Begins x) = refl
update-joins s (update.Recovers xs) = refl
update-joins s _ = sym (append-nil s.jobs)

pub outcome-joins : (s : State) (o : Outcome) → (updated (known_of s) o.book).jobs ≡ s.jobs ++ jobs_of s o
outcome-joins s o = update-joins s o.book
