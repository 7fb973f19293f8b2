-- Recoveries that are done and cover their replicas, one for each purpose.
use Rattle.std.proofs.Common.{◌≡◌, ℕ, ◌+◌, ◌≤◌, Bool, true, false, cond, not, List, [], ◌∷◌, refl, sym, ◌∙◌, ap, Option, Some, None, ◌&&◌, inl, inr, arith, ◌==◌}
use Rattle.recovery_covers.proofs.Prelude.{All-cons, All-nil, Apply, Attached, Covers, Detached, Fetch, Follower, Follows, IsApart, IsRuling, IsUnder}
use Rattle.recovery_covers.proofs.Prelude.{LostReplica, Outcome, Server, ServerNo, Settings, SourceState, Taken, Without, World, and_parts, attached_no}
use Rattle.recovery_covers.proofs.Prelude.{begun_recovery, book, bridge, each_turn, end, eqb-true, false≢true, has_source, is_detached, list_all, rounds}
use Rattle.recovery_covers.proofs.Prelude.{server, server_at, server_no, times, world}
use Rattle.recovery_laws.specs.Commands.declared.line.Lost.TheVariants as lost
use Rattle.recovery_covers.proofs.Prelude.means
use Rattle.recovery_covers.proofs.Prelude.purpose
use Rattle.recovery_covers.proofs.Prelude.rule
use Rattle.recovery_covers.proofs.Prelude.why

-- ---- tests of a server

abbrev source_at : Option Server → Option ℕ
source_at None = None
source_at (Some s) = attached_no s.source

under-by : (w : World) (n m : ℕ) → source_at (server_at w n) ≡ Some m → IsUnder w n m
under-by w n m h = go (server_at w n) refl h
  where
    go : (o : Option Server) → server_at w n ≡ o → source_at o ≡ Some m → IsUnder w n m
    go None at e = cc
    go (Some s) at e = record { server = s; there = at; under = e }

abbrev apart_at : Option Server → Bool
apart_at None = false
apart_at (Some s) = is_detached s.source

apart-by : (w : World) (n : ℕ) → apart_at (server_at w n) ≡ true → IsApart w n
apart-by w n h = go (server_at w n) refl h
  where
    go : (o : Option Server) → server_at w n ≡ o → apart_at o ≡ true → IsApart w n
    go None at e = absurd (false≢true e)
    go (Some s) at e = record { server = s; there = at; apart = e }

abbrev rules_at : Option Server → Bool
rules_at None = false
rules_at (Some s) = not (has_source s.source) && not s.read_only

rules-by : (w : World) (n : ℕ) → rules_at (server_at w n) ≡ true → IsRuling w n
rules-by w n h = go (server_at w n) refl h
  where
    free : (x : SourceState) → not (has_source x) ≡ true → x ≡ Without
    free Without e = refl
    free (Attached m) e = absurd (false≢true e)
    free (Detached m) e = absurd (false≢true e)

    shut : (b : Bool) → not b ≡ true → b ≡ false
    shut true e = absurd (false≢true e)
    shut false e = refl

    go : (o : Option Server) → server_at w n ≡ o → rules_at o ≡ true → IsRuling w n
    go None at e = absurd (false≢true e)
    go (Some s) at e =
        let parts = and_parts (not (has_source s.source)) (not s.read_only) e in
        record {
          free = record { server = s; there = at; free = free s.source parts.0 };
          writable = record { server = s; there = at; writable = shut s.read_only parts.1 };
        }

-- ---- lists that have no server twice

abbrev differs : ServerNo → ServerNo → Bool
differs k m = not (m.0 == k.0)

abbrev are_distinct : List ServerNo → Bool
are_distinct [] = true
are_distinct (k ∷ ks) = list_all (differs k) ks && are_distinct ks

abbrev tick : Bool → ℕ
tick b = cond b 1 0

none-of : (n : ℕ) (k : ServerNo) (ks : List ServerNo) → list_all (differs k) ks ≡ true → k.0 ≡ n → times n ks ≡ 0
none-of n k [] h same = refl
none-of n k (m ∷ ms) h same =
    let parts = and_parts (differs k m) (list_all (differs k) ms) h in
    let rest : times n ms ≡ 0 = none-of n k ms parts.1 same in
    let here : tick (m.0 == n) ≡ 0 = ap (λ (i : ℕ). tick (m.0 == i)) (sym same) ∙ ap tick (off (m.0 == k.0) parts.0) in
    omega (arith, rest, here)
  where
    off : (b : Bool) → not b ≡ true → b ≡ false
    off true e = absurd (false≢true e)
    off false e = refl

pub distinct-by : (ks : List ServerNo) → are_distinct ks ≡ true → (n : ℕ) → times n ks ≤ 1
distinct-by [] h n = omega arith
distinct-by (k ∷ ks) h n = go (k.0 == n) refl (distinct-by ks parts.1 n)
  where
    parts : (list_all (differs k) ks ≡ true) × (are_distinct ks ≡ true)
    parts = and_parts (list_all (differs k) ks) (are_distinct ks) h

    go : (b : Bool) → (k.0 == n) ≡ b → times n ks ≤ 1 → cond b 1 0 + times n ks ≤ 1
    go true e rest = let none = none-of n k ks parts.0 (eqb-true k.0 n e) in omega (arith, none)
    go false e rest = omega (arith, rest)

module _ (st : Settings) where
  abbrev follower : ℕ → ℕ → Follower
  follower n m = record { no = server_no n; source = server_no m }

  abbrev three : List ServerNo
  three = server_no 1 ∷ server_no 2 ∷ server_no 3 ∷ []

  -- ---- a dead master whose chosen replica gives way to a better one

  abbrev mastering : Taken × ℕ × World
  mastering =
      rounds (book (109 ∷ 97 ∷ 98 ∷ 99 ∷ []) ([] ∷ (bridge 1 0 2 ∷ bridge 1 0 3 ∷ []) ∷ (bridge 2 0 2 ∷ []) ∷ (bridge 3 0 3 ∷ []) ∷ []) (rule.Neutral ∷ rule.Neutral ∷ rule.Prefer ∷ rule.Neutral ∷ []))
      (each_turn (Fetch 1 ∷ Apply 1 ∷ Fetch 2 ∷ Apply 2 ∷ Fetch 3 ∷ Apply 3 ∷ [])) 0 80
      (world st (server st 0 Without 3 false ∷ server st 1 (Attached (server_no 0)) 3 true ∷ server st 2 (Attached (server_no 0)) 2 true ∷ server st 3 (Attached (server_no 0)) 3 true ∷ []))
      (begun_recovery purpose.Master means.Bridges 1 5 (server_no 0) three three)

  abbrev mastered : Outcome
  mastered = record { promoted = Some (server_no 2); followers = follower 3 1 ∷ follower 1 2 ∷ []; lost = [] }

  masters : mastering.0.recovery.outcome ≡ mastered
  masters = refl

  masters-cover : Covers mastering.2 purpose.Master (server_no 0) three mastered
  masters-cover = record {
    promoted = server_no 2;
    is_promoted = refl;
    rules = λ h. rules-by mastering.2 2 refl;
    replicas = record { distinct = distinct-by three refl; placed = tt };
    once = λ n. omega arith;
    attached =
        All-cons (λ (x : Follower). IsUnder mastering.2 x.no.0 x.source.0) (follower 3 1) (follower 1 2 ∷ []) (under-by mastering.2 3 1 refl)
        (All-cons (λ (x : Follower). IsUnder mastering.2 x.no.0 x.source.0) (follower 1 2) [] (under-by mastering.2 1 2 refl)
        (All-nil (λ (x : Follower). IsUnder mastering.2 x.no.0 x.source.0)));
    follow =
        All-cons (Follows purpose.Master mastered) (follower 3 1) (follower 1 2 ∷ []) (inr (server_no 2, refl, refl, (1, omega arith, refl)))
        (All-cons (Follows purpose.Master mastered) (follower 1 2) [] (inl refl) (All-nil (Follows purpose.Master mastered)));
    apart = All-nil (λ (l : LostReplica). l.detached ≡ true → IsApart mastering.2 l.no.0);
    named = tt;
  }

  -- ---- a dead intermediate master, of whose replicas one goes by a kept bridge and one is detached

  abbrev two : List ServerNo
  two = server_no 2 ∷ server_no 3 ∷ []

  abbrev bridging : Taken × ℕ × World
  bridging =
      rounds (book (109 ∷ 120 ∷ 113 ∷ 114 ∷ []) ([] ∷ (bridge 1 0 3 ∷ []) ∷ (bridge 2 1 3 ∷ []) ∷ (bridge 3 1 1 ∷ []) ∷ []) (rule.Neutral ∷ rule.Neutral ∷ rule.Neutral ∷ rule.Neutral ∷ []))
      (each_turn []) 0 60
      (world st (server st 0 Without 3 true ∷ server st 1 (Attached (server_no 0)) 3 false ∷ server st 2 (Attached (server_no 1)) 3 true ∷ server st 3 (Attached (server_no 1)) 1 true ∷ []))
      (begun_recovery (purpose.Intermediate (server_no 0)) means.Bridges 1 5 (server_no 1) two two)

  abbrev left_behind : LostReplica
  left_behind = record { no = server_no 3; why = why.Lost (lost.Behind (end 1)); detached = true }

  abbrev bridged : Outcome
  bridged = record { promoted = Some (server_no 0); followers = follower 2 0 ∷ []; lost = left_behind ∷ [] }

  bridges : bridging.0.recovery.outcome ≡ bridged
  bridges = refl

  bridges-cover : Covers bridging.2 (purpose.Intermediate (server_no 0)) (server_no 1) two bridged
  bridges-cover = record {
    promoted = server_no 0;
    is_promoted = refl;
    rules = λ h. absurd (false≢true h);
    replicas = record { distinct = distinct-by two refl; placed = refl };
    once = λ n. omega arith;
    attached =
        All-cons (λ (x : Follower). IsUnder bridging.2 x.no.0 x.source.0) (follower 2 0) [] (under-by bridging.2 2 0 refl) (All-nil (λ (x : Follower). IsUnder bridging.2 x.no.0 x.source.0));
    follow =
        All-cons (Follows (purpose.Intermediate (server_no 0)) bridged) (follower 2 0) [] (inl refl) (All-nil (Follows (purpose.Intermediate (server_no 0)) bridged));
    apart =
        All-cons (λ (l : LostReplica). l.detached ≡ true → IsApart bridging.2 l.no.0) left_behind [] (λ h. apart-by bridging.2 3 refl)
        (All-nil (λ (l : LostReplica). l.detached ≡ true → IsApart bridging.2 l.no.0));
    named = refl;
  }

  -- ---- a takeover in which one replica takes too long

  abbrev taking : Taken × ℕ × World
  taking =
      rounds (book (109 ∷ 112 ∷ 114 ∷ 115 ∷ []) ([] ∷ (bridge 1 0 2 ∷ []) ∷ (bridge 2 0 2 ∷ []) ∷ [] ∷ []) (rule.Neutral ∷ rule.Neutral ∷ rule.Neutral ∷ rule.Neutral ∷ []))
      (each_turn []) 0 80
      (world st (
      record (server st 0 Without 2 true) { read_only = false } ∷ server st 1 (Attached (server_no 0)) 2 true ∷ server st 2 (Attached (server_no 0)) 2 true
      ∷ record (server st 3 (Attached (server_no 0)) 1 true) { read = end 2; feed = false } ∷ []))
      (begun_recovery (purpose.Takeover (server_no 1)) means.Bridges 1 5 (server_no 0) three (server_no 0 ∷ three))

  abbrev too_late : LostReplica
  too_late = record { no = server_no 3; why = why.Lost (lost.Behind (end 1)); detached = false }

  abbrev taken_over : Outcome
  taken_over = record { promoted = Some (server_no 1); followers = follower 2 1 ∷ follower 0 1 ∷ []; lost = too_late ∷ [] }

  takes : taking.0.recovery.outcome ≡ taken_over
  takes = refl

  takes-cover : Covers taking.2 (purpose.Takeover (server_no 1)) (server_no 0) three taken_over
  takes-cover = record {
    promoted = server_no 1;
    is_promoted = refl;
    rules = λ h. rules-by taking.2 1 refl;
    replicas = record { distinct = distinct-by (server_no 0 ∷ three) refl; placed = refl };
    once = λ n. omega arith;
    attached =
        All-cons (λ (x : Follower). IsUnder taking.2 x.no.0 x.source.0) (follower 2 1) (follower 0 1 ∷ []) (under-by taking.2 2 1 refl)
        (All-cons (λ (x : Follower). IsUnder taking.2 x.no.0 x.source.0) (follower 0 1) [] (under-by taking.2 0 1 refl) (All-nil (λ (x : Follower). IsUnder taking.2 x.no.0 x.source.0)));
    follow =
        All-cons (Follows (purpose.Takeover (server_no 1)) taken_over) (follower 2 1) (follower 0 1 ∷ []) (inl refl)
        (All-cons (Follows (purpose.Takeover (server_no 1)) taken_over) (follower 0 1) [] (inl refl) (All-nil (Follows (purpose.Takeover (server_no 1)) taken_over)));
    apart =
        All-cons (λ (l : LostReplica). l.detached ≡ true → IsApart taking.2 l.no.0) too_late [] (λ h. absurd (false≢true h))
        (All-nil (λ (l : LostReplica). l.detached ≡ true → IsApart taking.2 l.no.0));
    named = (refl, (1, omega arith, refl));
  }

  -- ---- a regroup that leaves two, one as `behind` and one as `ahead`

  abbrev five : List ServerNo
  five = server_no 1 ∷ server_no 2 ∷ server_no 3 ∷ server_no 4 ∷ server_no 5 ∷ []

  abbrev gathering : Taken × ℕ × World
  gathering =
      rounds
      (book (109 ∷ 97 ∷ 98 ∷ 99 ∷ 100 ∷ 101 ∷ [])
      ([] ∷ (bridge 1 0 2 ∷ bridge 1 0 3 ∷ []) ∷ (bridge 2 0 3 ∷ []) ∷ (bridge 3 0 2 ∷ []) ∷ (bridge 4 0 1 ∷ []) ∷ (bridge 5 0 4 ∷ []) ∷ [])
      (rule.Neutral ∷ rule.Neutral ∷ rule.Neutral ∷ rule.Neutral ∷ rule.Neutral ∷ rule.MustNot ∷ [])) (each_turn []) 0 60
      (world st (
      server st 0 Without 4 false ∷ server st 1 (Attached (server_no 0)) 3 true ∷ server st 2 (Attached (server_no 0)) 3 true
      ∷ server st 3 (Attached (server_no 0)) 2 true ∷ server st 4 (Attached (server_no 0)) 1 true ∷ server st 5 (Attached (server_no 0)) 4 true ∷ []))
      (begun_recovery purpose.Regroup means.Bridges 1 5 (server_no 0) five five)

  abbrev left : LostReplica
  left = record { no = server_no 4; why = why.Lost (lost.Behind (end 1)); detached = false }

  abbrev ahead : LostReplica
  ahead = record { no = server_no 5; why = why.Lost (lost.Ahead (end 4)); detached = false }

  abbrev gathered : Outcome
  gathered = record { promoted = Some (server_no 1); followers = follower 2 1 ∷ follower 3 1 ∷ []; lost = left ∷ ahead ∷ [] }

  gathers : gathering.0.recovery.outcome ≡ gathered
  gathers = refl

  gathers-cover : Covers gathering.2 purpose.Regroup (server_no 0) five gathered
  gathers-cover = record {
    promoted = server_no 1;
    is_promoted = refl;
    rules = λ h. absurd (false≢true h);
    replicas = record { distinct = distinct-by five refl; placed = tt };
    once = λ n. omega arith;
    attached =
        All-cons (λ (x : Follower). IsUnder gathering.2 x.no.0 x.source.0) (follower 2 1) (follower 3 1 ∷ []) (under-by gathering.2 2 1 refl)
        (All-cons (λ (x : Follower). IsUnder gathering.2 x.no.0 x.source.0) (follower 3 1) [] (under-by gathering.2 3 1 refl) (All-nil (λ (x : Follower). IsUnder gathering.2 x.no.0 x.source.0)));
    follow =
        All-cons (Follows purpose.Regroup gathered) (follower 2 1) (follower 3 1 ∷ []) (inl refl)
        (All-cons (Follows purpose.Regroup gathered) (follower 3 1) [] (inl refl) (All-nil (Follows purpose.Regroup gathered)));
    apart =
        All-cons (λ (l : LostReplica). l.detached ≡ true → IsApart gathering.2 l.no.0) left (ahead ∷ []) (λ h. absurd (false≢true h))
        (All-cons (λ (l : LostReplica). l.detached ≡ true → IsApart gathering.2 l.no.0) ahead [] (λ h. absurd (false≢true h))
        (All-nil (λ (l : LostReplica). l.detached ≡ true → IsApart gathering.2 l.no.0)));
    named = tt;
  }
