-- A recovery changes only its replicas, and in a takeover the master.
use Rattle.std.proofs.Common.{◌≡◌, ℕ, true, List, refl, sym, subst, Option, Some, None, inl, inr}
use Rattle.recovery_reasons.proofs.Prelude.{All, All-contains_itself, All-weaker, Bearing, BookState, ChangesIts, Contains, Decision, Ending, IsAny, IsIts, IsListOf}
use Rattle.recovery_reasons.proofs.Prelude.{IsOf, KeepsAlways, Means, Moment, Purpose, Recovery, ServerNo, Stage, World, always, begun-of, begun_recovery}
use Rattle.recovery_reasons.proofs.Prelude.{borne, decided_by, ended_by, entered, fate_of, follows_no_more, ground_of, is_going, kept-along, leaver}
use Rattle.recovery_reasons.proofs.Prelude.{moved, renumbered, server_of, taken, taken-of}
use Rattle.recovery_reasons.proofs.Prelude.by
use Rattle.recovery_reasons.proofs.Prelude.purpose

-- ---- for whom it is

record IsFor (u : Purpose) (f : ServerNo) (ns : List ServerNo) (r : Recovery) : Type 0 where
  purpose : r.purpose ≡ u
  failed : r.failed ≡ f
  replicas : r.replicas ≡ ns

module _ (u : Purpose) (f : ServerNo) (ns : List ServerNo) where
  decides-for : (w : World) (b : BookState) (now : Moment) (r : Recovery) (d : Decision) → IsFor u f ns r → IsFor u f ns (decided_by (ground_of w b now) r d)
  decides-for w b now r by.Remains s = record { purpose = s.purpose; failed = s.failed; replicas = s.replicas }
  decides-for w b now r d s = record { purpose = s.purpose; failed = s.failed; replicas = s.replicas }

  enters-for : (r : Recovery) (x : Stage) → IsFor u f ns r → IsFor u f ns (entered r x)
  enters-for r x s = go (leaver x)
    where
      go : (o : Option ServerNo) → IsFor u f ns (record (follows_no_more r o) { stage = x })
      go None = record { purpose = s.purpose; failed = s.failed; replicas = s.replicas }
      go (Some n) = record { purpose = s.purpose; failed = s.failed; replicas = s.replicas }

  completes-for : (r : Recovery) (e : Ending) → IsFor u f ns r → IsFor u f ns (ended_by r e)
  completes-for r by.Rests s = record { purpose = s.purpose; failed = s.failed; replicas = s.replicas }
  completes-for r e s = record { purpose = s.purpose; failed = s.failed; replicas = s.replicas }

  bears-for : (r : Recovery) (e : Bearing) → IsFor u f ns r → IsFor u f ns (borne r (fate_of e))
  bears-for r by.Drops s = record { purpose = s.purpose; failed = s.failed; replicas = s.replicas }
  bears-for r e s = record { purpose = s.purpose; failed = s.failed; replicas = s.replicas }

  keeps-for : (w : World) (b : BookState) (read : ℕ) (now : Moment) → KeepsAlways w b read now (λ v r. IsFor u f ns r)
  keeps-for w b read now = record {
    decides = λ r d may s. decides-for w b now r d s;
    does = λ r o rest ob es j did s. record { purpose = s.purpose; failed = s.failed; replicas = s.replicas };
    enters = λ v r s. enters-for r (moved r.stage) s;
    completes = λ v r e none may s. completes-for r e s;
    bears = λ r o rest c ob e stops is may s. bears-for r e s;
  }

taken-for : (w : World) (b : BookState) (read : ℕ) (now : Moment) (r : Recovery) → is_going (taken w b read now r).step ≡ true → IsFor r.purpose r.failed r.replicas (taken w b read now r).recovery
taken-for w b read now r =
    kept-along w b read now (IsFor r.purpose r.failed r.replicas) (λ v s. IsFor r.purpose r.failed r.replicas s) (λ v s. IsFor r.purpose r.failed r.replicas s)
    (always w b read now (λ v s. IsFor r.purpose r.failed r.replicas s) (keeps-for r.purpose r.failed r.replicas w b read now)) r
    (record { purpose = refl; failed = refl; replicas = refl })

-- ---- whom it changes

-- what a turn changes
pub turn-its : (w : World) (b : BookState) (read : ℕ) (now : Moment) (r : Recovery) → ChangesIts r → All (λ e. IsIts r.purpose r.failed r.replicas (server_of e)) (taken w b read now r).exchanges
turn-its w b read now r has = (taken-of (IsIts r.purpose r.failed r.replicas) IsAny r.core.id (λ n h. tt) w b read now r has).exchanges

its-kept : (u : Purpose) (f : ServerNo) (ns : List ServerNo) (t : Recovery) → IsFor u f ns t → IsOf (IsIts u f ns) IsAny t.core.id t → ChangesIts t
its-kept u f ns t same has =
    subst (λ (v : Purpose). IsOf (IsIts v t.failed t.replicas) IsAny t.core.id t) (sym same.purpose)
    (subst (λ (k : ServerNo). IsOf (IsIts u k t.replicas) IsAny t.core.id t) (sym same.failed)
    (subst (λ (ms : List ServerNo). IsOf (IsIts u f ms) IsAny t.core.id t) (sym same.replicas) has))

pub taken-its : (w : World) (b : BookState) (read : ℕ) (now : Moment) (r : Recovery) → ChangesIts r → is_going (taken w b read now r).step ≡ true → ChangesIts (taken w b read now r).recovery
taken-its w b read now r has going =
    its-kept r.purpose r.failed r.replicas (taken w b read now r).recovery (taken-for w b read now r going)
    (renumbered (IsIts r.purpose r.failed r.replicas) IsAny r.core.id (taken w b read now r).recovery
    ((taken-of (IsIts r.purpose r.failed r.replicas) IsAny r.core.id (λ n h. tt) w b read now r has).servers going))

begun-its : (u : Purpose) (f : ServerNo) (ns : List ServerNo) → IsListOf (IsIts u f ns) IsAny u f
begun-its (purpose.Takeover d) f ns = (inr (inl refl), inr (inr refl))
begun-its _ f ns = tt

pub begun-changes : (u : Purpose) (by : Means) (id wait : ℕ) (f : ServerNo) (ns order : List ServerNo) → ChangesIts (begun_recovery u by id wait f ns order)
begun-changes u by id wait f ns order = begun-of (IsIts u f ns) IsAny u by id wait f ns order (All-weaker (Contains ns) (λ (n : ServerNo). IsIts u f ns n.0) (λ n c. inl (n, c, refl)) ns (All-contains_itself ns)) tt (begun-its u f ns)
