-- What is so of each command of a kind.
use Rattle.std.proofs.Common.{◌≡◌, ◌<◌, List, [], length, refl, Option, Some, None}
use Rattle.permission.proofs.Prelude.{BookState, Command, Refusal, ServerNo, about, about_one, busy, first_about, first_busy, refused, unknown_in}
use Rattle.permission.proofs.Free.{free-list, neither}
use Rattle.permission.proofs.Within.{Within}

-- what is so of none, and of each command about a server of the book, is so of any
pub about-is : {K A : Type 0} (P : A → Type 0) (none : A) (f : K → ServerNo → Option ServerNo → A) (b : BookState) (given : Command) → P none → Within b given.i
    → ((c : K) (i : ServerNo) → i.0 < length b.names → P (f c i given.d)) → (kind : Option K) → P (about none f kind given)
about-is P none f b given at_none at_i each None = at_none
about-is P none f b given at_none at_i each (Some c) = go given.i at_i
  where
    go : (o : Option ServerNo) → Within b o → P (about_one none (f c) o given.d)
    go None at = at_none
    go (Some i) at = each c i at

-- Two things that a command has are so for none, and for each command about an instance that isn't refused. Then they
-- are so for any command that isn't refused.
pub both-permitted : {K A B : Type 0} (R : A → B → Type 0) (by : K → ServerNo → Option ServerNo → Option Refusal) (x : A) (f : K → ServerNo → Option ServerNo → A)
    (y : B) (g : K → ServerNo → Option ServerNo → B) (b : BookState) (given : Command)
    → R x y → ((c : K) (i : ServerNo) → by c i given.d ≡ None → R (f c i given.d) (g c i given.d)) → (kind : Option K)
    → refused b by kind given ≡ None → R (about x f kind given) (about y g kind given)
both-permitted R by x f y g b given at_none each None h = at_none
both-permitted R by x f y g b given at_none each (Some c) h = go given.i (neither (unknown_in b given) (about_one None (by c) given.i given.d) h).1
  where
    go : (o : Option ServerNo) → about_one None (by c) o given.d ≡ None → R (about_one x (f c) o given.d) (about_one y (g c) o given.d)
    go None h = at_none
    go (Some i) h = each c i h

-- the same, of one
pub about-permitted : {K A : Type 0} (P : A → Type 0) (by : K → ServerNo → Option ServerNo → Option Refusal) (x : A) (f : K → ServerNo → Option ServerNo → A) (b : BookState) (given : Command)
    → P x → ((c : K) (i : ServerNo) → by c i given.d ≡ None → P (f c i given.d)) → (kind : Option K) → refused b by kind given ≡ None → P (about x f kind given)
about-permitted P by x f b given at_none each kind h = both-permitted (λ a same. P a) by x f x f b given at_none each kind h

-- If what doesn't refuse a command finds its servers free, a command that isn't refused does so too.
pub about-free : {K : Type 0} (by : K → ServerNo → Option ServerNo → Option Refusal) (list : K → ServerNo → Option ServerNo → List ServerNo) (b : BookState) (given : Command)
    → ((c : K) (i : ServerNo) → by c i given.d ≡ None → first_about (busy b) (list c i given.d) ≡ None) → (kind : Option K)
    → refused b by kind given ≡ None → first_busy b.leases (about [] list kind given) ≡ None
about-free by list b given free kind h =
    about-permitted (λ (l : List ServerNo). first_busy b.leases l ≡ None) by [] list b given refl (λ c i passed. free-list b (list c i given.d) (free c i passed)) kind h
