-- That the servers that a job changes are leased to it.
use Rattle.std.specs.Prelude.{◌≡◌, ℕ, ◌==◌, ◌&&◌, Bool, true, ◌∷◌, List, Option, Some, None, IfSome, [], find, slice_index_or, All}
use Rattle.job_laws.specs.Prelude.{Job, Op, ServerNo, Turned, World, change_of, deed_of, list_any, server_of}
use Rattle.job_laws.specs.Footing.{footing, are_held}
use Rattle.job_laws.specs.Matched.{are_matched, matched_in}

-- who has the lease of each server
abbrev pub Leases : Type 0
Leases = ℕ → Option ℕ

-- as the book has them, by the servers' numbers
abbrev pub leases_of : List (Option ℕ) → Leases
leases_of xs n = slice_index_or xs n None

abbrev pub IsLeased : Leases → ℕ → ℕ → Type 0
IsLeased leases id n = leases n ≡ Some id

abbrev pub MayChange : Leases → ℕ → Op → Type 0
MayChange leases id op = IfSome (change_of (deed_of op)) (λ n. IsLeased leases id n.0)

-- each server that an operation which is left may change, and each in the job's hands, is leased to the job
pub record HasLeases (leases : Leases) (j : Job) : Type 0 where
  pub ops : All (MayChange leases j.id) j.ops
  pub hands : All (λ n. IsLeased leases j.id n.0) j.hands

-- a turn of a job changes only servers that are leased to it, and leaves it what leases it needs
pub record KeepsLeases (leases : Leases) (number : ℕ) (t : Turned) : Type 0 where
  pub id : t.job.id ≡ number
  pub ops : All (MayChange leases number) t.job.ops
  pub hands : All (λ n. IsLeased leases number n.0) t.job.hands
  pub exchanges : All (λ e. IsLeased leases number (server_of e)) t.exchanges

abbrev pub job_at : List Job → ℕ → Option Job
job_at jobs id = find (λ j. j.id == id) jobs

-- jobs have what leases they need, and each lease names one of them
pub record AreLeased (leases : Leases) (jobs : List Job) : Type 0 where
  pub each : All (HasLeases leases) jobs
  pub named : (n id : ℕ) → leases n ≡ Some id → (j : Job) × (job_at jobs id ≡ Some j)

-- a server of the list, if there is one
abbrev pub is_in : List ServerNo → Option ServerNo → Bool
is_in list None = true
is_in list (Some n) = list_any (λ k. k.0 == n.0) list

-- each server that an operation may change is of the list
abbrev pub are_listed : List ServerNo → List Op → Bool
are_listed list [] = true
are_listed list (op ∷ ops) = is_in list (change_of (deed_of op)) && are_listed list ops

-- a job begins: it saw and found nothing yet, its operations have `Held`, and the servers that they may change are of
-- its list, of which nobody has a lease
pub record Begins (w : World) (jobs : List Job) (leases : Leases) (list : List ServerNo) (j : Job) : Type 0 where
  pub seen : j.seen ≡ []
  pub hands : j.hands ≡ []
  pub left : are_held (footing w []) j.ops ≡ true
  pub found : j.matches ≡ []
  pub matched : are_matched (matched_in []) j.ops ≡ true
  pub listed : are_listed list j.ops ≡ true
  pub free : (n : ℕ) → list_any (λ k. k.0 == n) list ≡ true → leases n ≡ None
