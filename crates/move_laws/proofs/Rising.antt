-- Checks by rising numbers answer the lowest refusal.
use Rattle.std.proofs.Common.{◌≡◌, ℕ, suc, ◌+◌, ◌≤◌, ◌<◌, Bool, true, false, cond, not, ◌&&◌, List, [], ◌∷◌, ◌++◌, refl, sym, ◌∙◌, ap, subst, Option, Some, None, Result, Ok, Err, arith, All, Any, is_some, nat_le, nat_lt, option_map}
use Rattle.move_laws.proofs.Prelude.{Action, All-cons, All-nil, Attempt, AuditState, BookState, Case, Check, Code, Command, CoordsCommand}
use Rattle.move_laws.proofs.Prelude.{GtidCommand, Held, IntermediateRecovery, IsAnswer, IsNoLower, MasterRecovery, MatchCommand, Moment, Nothing}
use Rattle.move_laws.proofs.Prelude.{PathCommand, Refusal, ServerNo, World, about, about_one, action_checks, action_of, and_parts, attached_of}
use Rattle.move_laws.proofs.Prelude.{check_number, code_at, code_checks, coords_checks, downtime_at, downtimed, filtered, first_of, gtid_checks}
use Rattle.move_laws.proofs.Prelude.{has_candidate, has_successor, held_back, is_given, is_instance, is_known, is_unknown, label_at, leb-true}
use Rattle.move_laws.proofs.Prelude.{ltb-true, match_checks, may_begin, no_master, no_replica, number_of, only_if, option_or, own_checks, path_checks}
use Rattle.move_laws.proofs.Prelude.{path_to, recovery_checks, refusal_by, refused, refused_as, replicas_but, rises_from, row_checks, same_Some}
use Rattle.move_laws.proofs.Prelude.{source_of, takeover_checks, unknown_in, without_candidate, without_successor}
use Rattle.move_laws.proofs.Checks.{check-number}
use Rattle.move_laws.proofs.Numbered.{gtid-rows-rise, match-last-rows-rise, match-rows-rise, rows-rise}
use Rattle.recovery_core.specs.Checks.{disabled}
use Rattle.move_laws.proofs.Prelude.Candidates.{without_candidate as no_candidate}
use Rattle.move_laws.proofs.Prelude.Checks.{held_by}
use Rattle.move_laws.proofs.Prelude.check
use Rattle.move_laws.proofs.Prelude.coords_permits as coords
use Rattle.moves_gtid.specs.Permits as gtids
use Rattle.move_laws.proofs.Prelude.held
use Rattle.move_laws.proofs.Prelude.Permits as matches
use Rattle.recovery_core.specs.Commands.declared.kinds.MatchCommand.TheVariants as matching
use Rattle.move_laws.proofs.Prelude.path
use Rattle.move_laws.proofs.Prelude.paths
use Rattle.move_laws.proofs.Prelude.recovery
use Rattle.move_laws.proofs.Prelude.refusal
use Rattle.move_laws.proofs.Prelude.takeover

-- ---- checks whose numbers rise

-- a check refuses with numbers from the first on and below the second
abbrev Has : ℕ → ℕ → Option Refusal → Type 0
Has low high x = (r : Refusal) → x ≡ Some r → (low ≤ number_of r) × (number_of r < high)

-- each refuses with numbers from above those of the ones before it on
abbrev Rising : ℕ → List (Option Refusal) → Type 0
Rising n [] = Unit {0}
Rising n (x ∷ xs) = (high : ℕ) × (n ≤ high) × Has n high x × Rising high xs

rising-from : (m n : ℕ) (xs : List (Option Refusal)) → m ≤ n → Rising n xs → Rising m xs
rising-from m n [] less h = tt
rising-from m n (x ∷ xs) less h = (h.0, omega (arith, h.1, less), λ r e. (let p = (h.2 r e).0 in omega (arith, p, less), (h.2 r e).1), h.3)

above-all : (n : ℕ) (xs : List (Option Refusal)) → Rising n xs → (r : Refusal) → number_of r < n + 1 → All (IsNoLower r) xs
above-all n [] h r less = All-nil (IsNoLower r)
above-all n (x ∷ xs) h r less =
    All-cons (IsNoLower r) x xs (λ s e. let p = (h.2 s e).0 in omega (arith, p, less)) (above-all h.0 xs h.3 r (let q = h.1 in omega (arith, q, less)))

any-first : (P : Option Refusal → Type 0) (x : Option Refusal) (xs : List (Option Refusal)) → P x → Any P (x ∷ xs)
any-first P x xs h = (0, x, omega arith, refl, h)

any-later : (P : Option Refusal → Type 0) (x : Option Refusal) (xs : List (Option Refusal)) → Any P xs → Any P (x ∷ xs)
any-later P x xs h = (suc h.0, h.1, (let p = h.2 in omega (arith, p)), h.3, h.4)

pub first-lowest : (n : ℕ) (xs : List (Option Refusal)) → Rising n xs → IsAnswer xs (first_of xs)
first-lowest n [] h = All-nil (λ x. x ≡ None)
first-lowest n (None ∷ xs) h = go (first_of xs) (first-lowest h.0 xs h.3)
  where
    go : (o : Option Refusal) → IsAnswer xs o → IsAnswer (None ∷ xs) o
    go None all = All-cons (λ x. x ≡ None) None xs refl all
    go (Some r) l = record { one = any-later (λ x. x ≡ Some r) None xs l.one; lowest = All-cons (IsNoLower r) None xs (λ s e. cc) l.lowest }
first-lowest n (Some r ∷ xs) h = record {
  one = any-first (λ x. x ≡ Some r) (Some r) xs refl;
  lowest = All-cons (IsNoLower r) (Some r) xs (λ s e. let same : number_of r ≡ number_of s = ap number_of (same_Some r s e) in omega (arith, same))
      (above-all h.0 xs h.3 r (let p = (h.2 r refl).1 in omega (arith, p)));
}

has-wide : (a b low high : ℕ) (x : Option Refusal) → low ≤ a → b ≤ high → Has a b x → Has low high x
has-wide a b low high x under over h r e = let p = (h r e).0 in let q = (h r e).1 in (omega (arith, p, under), omega (arith, q, over))

-- a test of one refusal
has-test : (n : ℕ) (b : Bool) (x : Refusal) → number_of x ≡ n → Has n (n + 1) (only_if b x)
has-test n true x is r e = let same : number_of x ≡ number_of r = ap number_of (same_Some x r e) in (omega (arith, same, is), omega (arith, same, is))
has-test n false x is r e = cc

has-some : (n : ℕ) (x : Refusal) → number_of x ≡ n → Has n (n + 1) (Some x)
has-some n x is r e = let same : number_of x ≡ number_of r = ap number_of (same_Some x r e) in (omega (arith, same, is), omega (arith, same, is))

has-check : (w : World) (b : BookState) (c : Case) (k : Check) → Has (check_number k) (check_number k + 1) (refusal_by w b c k)
has-check w b c k r e = let is = check-number w b c k r e in (omega (arith, is), omega (arith, is))

-- the numbers of a row end at one
abbrev ends_by : ℕ → List Check → Bool
ends_by top [] = true
ends_by top (k ∷ row) = nat_le (check_number k) top && ends_by top row

-- all are below 100
most : (k : Check) → nat_le (check_number k) 99 ≡ true
most check.SameInstance = refl
most _ = refl

ends-all : (row : List Check) → ends_by 99 row ≡ true
ends-all [] = refl
ends-all (k ∷ row) = ap (λ x. x && ends_by 99 row) (most k) ∙ ends-all row

row-rising : (w : World) (b : BookState) (c : Case) (n top : ℕ) (row : List Check) (xs : List (Option Refusal)) → n ≤ top → rises_from n row ≡ true → ends_by top row ≡ true
    → Rising (top + 1) xs → Rising (n + 1) (row_checks w b c row ++ xs)
row-rising w b c n top [] xs within up ends rest = rising-from (n + 1) (top + 1) xs (omega (arith, within)) rest
row-rising w b c n top (k ∷ row) xs within up ends rest =
    let parts = and_parts (nat_lt n (check_number k)) (rises_from (check_number k) row) up in
    let first : n < check_number k = ltb-true n (check_number k) parts.0 in
    let under = and_parts (nat_le (check_number k) top) (ends_by top row) ends in (
      check_number k + 1,
      omega (arith, first),
      λ r e. (let p = (has-check w b c k r e).0 in omega (arith, p, first), (has-check w b c k r e).1),
      row-rising w b c (check_number k) top row xs (leb-true (check_number k) top under.0) parts.1 under.1 rest,
    )

-- ---- what is answered first

or-assoc : (x y z : Option Refusal) → option_or (option_or x y) z ≡ option_or x (option_or y z)
or-assoc None y z = refl
or-assoc (Some r) y z = refl

first-append : (xs ys : List (Option Refusal)) → first_of (xs ++ ys) ≡ option_or (first_of xs) (first_of ys)
first-append [] ys = refl
first-append (x ∷ xs) ys = ap (option_or x) (first-append xs ys) ∙ sym (or-assoc x (first_of xs) (first_of ys))

or-none : (x : Option Refusal) → option_or x None ≡ x
or-none None = refl
or-none (Some r) = refl

about-first : {K : Type 0} (f : K → ServerNo → Option ServerNo → Option Refusal) (g : K → ServerNo → Option ServerNo → List (Option Refusal))
    → ((c : K) (i : ServerNo) (d : Option ServerNo) → first_of (g c i d) ≡ f c i d) → (kind : Option K) (given : Command) → first_of (about [] g kind given) ≡ about None f kind given
about-first f g same None given = refl
about-first f g same (Some c) given = go given.i
  where
    go : (i : Option ServerNo) → first_of (about_one [] (g c) i given.d) ≡ about_one None (f c) i given.d
    go None = refl
    go (Some i) = same c i given.d

about-rising : {K : Type 0} (n : ℕ) (g : K → ServerNo → Option ServerNo → List (Option Refusal)) → ((c : K) (i : ServerNo) (d : Option ServerNo) → Rising n (g c i d))
    → (kind : Option K) (given : Command) → Rising n (about [] g kind given)
about-rising n g all None given = tt
about-rising n g all (Some c) given = go given.i
  where
    go : (i : Option ServerNo) → Rising n (about_one [] (g c) i given.d)
    go None = tt
    go (Some i) = all c i given.d

has-unknown : (b : BookState) (given : Command) → Has 2 3 (unknown_in b given)
has-unknown b given = has-test 2 (is_unknown given (is_known b given.i) (is_known b given.d)) refusal.UnknownInstance refl

answered : (xs : List (Option Refusal)) (o : Option Refusal) (n : ℕ) → first_of xs ≡ o → Rising n xs → IsAnswer xs o
answered xs o n is h = subst (IsAnswer xs) is (first-lowest n xs h)

append-none : (xs : List (Option Refusal)) → xs ++ [] ≡ xs
append-none [] = refl
append-none (x ∷ xs) = ap (λ ys. x ∷ ys) (append-none xs)

row-alone : (w : World) (b : BookState) (c : Case) (row : List Check) → rises_from 2 row ≡ true → Rising 3 (row_checks w b c row)
row-alone w b c row up = subst (Rising 3) (append-none (row_checks w b c row)) (row-rising w b c 2 99 row [] (omega arith) up (ends-all row) tt)

pub coords-lowest : (w : World) (b : BookState) (kind : Option CoordsCommand) (given : Command) → IsAnswer (coords_checks w b kind given) (refused b (coords.refusal_about w b) kind given)
coords-lowest w b kind given =
    answered (coords_checks w b kind given) (refused b (coords.refusal_about w b) kind given) 2
    (ap (option_or (unknown_in b given)) (about-first (coords.refusal_about w b) checks (λ c i d. refl) kind given))
    (3, omega arith, has-unknown b given, about-rising 3 checks (λ c i d. row-alone w b (coords.case_of b c i d) (coords.row_of (coords.by_gtids w b i) c) (rows-rise (coords.by_gtids w b i) c)) kind given)
  where
    checks : CoordsCommand → ServerNo → Option ServerNo → List (Option Refusal)
    checks c i d = row_checks w b (coords.case_of b c i d) (coords.row_of (coords.by_gtids w b i) c)

pub gtid-lowest : (w : World) (b : BookState) (kind : Option GtidCommand) (given : Command) → IsAnswer (gtid_checks w b kind given) (refused b (gtids.refusal_about w b) kind given)
gtid-lowest w b kind given =
    answered (gtid_checks w b kind given) (refused b (gtids.refusal_about w b) kind given) 2
    (ap (option_or (unknown_in b given)) (about-first (gtids.refusal_about w b) (λ (c : GtidCommand) i d. row_checks w b (gtids.case_of b c i d) (gtids.row_of c)) (λ c i d. refl) kind given)) (
      3,
      omega arith,
      has-unknown b given,
      about-rising 3 (λ (c : GtidCommand) i d. row_checks w b (gtids.case_of b c i d) (gtids.row_of c))
          (λ c i d. row-alone w b (gtids.case_of b c i d) (gtids.row_of c) (gtid-rows-rise c)) kind given,
    )

path-rows-rise : (gtid : Bool) (c : PathCommand) → rises_from 2 (paths.row_of gtid c) ≡ true
path-rows-rise true path.Relocate = refl
path-rows-rise false path.Relocate = refl
path-rows-rise _ _ = refl

-- a command's own check is for a path, or a candidate
has-astray : (gtid : Bool) (b : BookState) (movers : List ServerNo) (d : Option ServerNo) → Has 19 27 (paths.astray gtid b movers d)
has-astray true b movers d r e = cc
has-astray false b [] d r e = cc
has-astray false b (n ∷ movers) d r e = go (paths.without_path b d n) refl e (has-astray false b movers d r)
  where
    one : (s : Refusal) → paths.without_path b d n ≡ Some s → (19 ≤ number_of s) × (number_of s < 27)
    one s is = let p = has-test 19 (not (is_some (path_to b d n))) refusal.NoPath refl s is in (p.0, let q = p.1 in omega (arith, q))

    go : (o : Option Refusal) → paths.without_path b d n ≡ o → option_or o (paths.astray false b movers d) ≡ Some r
        → (paths.astray false b movers d ≡ Some r → (19 ≤ number_of r) × (number_of r < 27)) → (19 ≤ number_of r) × (number_of r < 27)
    go None is e rest = rest e
    go (Some s) is e rest = one r (is ∙ e)

module _ (w : World) (b : BookState) where
  moving-rising : (c : Case) (row : Bool → List Check) (movers : List ServerNo) (d : Option ServerNo) → ((g : Bool) → rises_from 2 (row g) ≡ true) → ends_by 18 (row false) ≡ true
      → (g : Bool) → Rising 3 (row_checks w b c (row g) ++ paths.astray g b movers d ∷ row_checks w b c (paths.places_row g))
  moving-rising c row movers d rise ends true =
      row-rising w b c 2 99 (row true) (None ∷ []) (omega arith) (rise true) (ends-all (row true)) (100, omega arith, λ r e. cc, tt)
  moving-rising c row movers d rise ends false =
      row-rising w b c 2 18 (row false) (paths.astray false b movers d ∷ row_checks w b c (paths.places_row false)) (omega arith) (rise false) ends (
        27,
        omega arith,
        has-astray false b movers d,
        (31, omega arith, has-wide 30 31 27 31 (refusal_by w b c check.PurgedPlace) (omega arith) (omega arith) (has-check w b c check.PurgedPlace), tt),
      )

  candidate-has : (now : Moment) (i : ServerNo) → Has 19 27 (no_candidate w b now i)
  candidate-has now i = has-wide 26 27 19 27 (no_candidate w b now i) (omega arith) (omega arith) (has-test 26 (not (has_candidate w b now i)) refusal.NoCandidate refl)

  path-rising : (now : Moment) (c : PathCommand) (i : ServerNo) (d : Option ServerNo)
      → Rising 3 (row_checks w b (paths.case_of w b c i d) (paths.row_of w.gtid c) ++ paths.own_refusal w b now c i d ∷ row_checks w b (paths.case_of w b c i d) (paths.last_row_of w.gtid c))
  path-rising now path.Relocate i d =
      moving-rising (paths.case_of w b path.Relocate i d) paths.relocate_row (i ∷ []) d (λ g. path-rows-rise g path.Relocate) refl w.gtid
  path-rising now path.RelocateReplicas i d =
      moving-rising (paths.case_of w b path.RelocateReplicas i d) paths.replicas_row (replicas_but b i d) d (λ g. path-rows-rise g path.RelocateReplicas) refl w.gtid
  path-rising now path.RegroupReplicas i d =
      row-rising w b (paths.case_of w b path.RegroupReplicas i d) 2 18 (check.Busy ∷ []) (no_candidate w b now i ∷ []) (omega arith) refl refl (27, omega arith, candidate-has now i, tt)

pub path-lowest : (w : World) (b : BookState) (now : Moment) (kind : Option PathCommand) (given : Command)
    → IsAnswer (path_checks w b now kind given) (refused b (paths.refusal_about w b now) kind given)
path-lowest w b now kind given =
    answered (path_checks w b now kind given) (refused b (paths.refusal_about w b now) kind given) 2
    (ap (option_or (unknown_in b given)) (about-first (paths.refusal_about w b now) checks first kind given))
    (3, omega arith, has-unknown b given, about-rising 3 checks (λ c i d. path-rising w b now c i d) kind given)
  where
    checks : PathCommand → ServerNo → Option ServerNo → List (Option Refusal)
    checks c i d = row_checks w b (paths.case_of w b c i d) (paths.row_of w.gtid c) ++ paths.own_refusal w b now c i d ∷ row_checks w b (paths.case_of w b c i d) (paths.last_row_of w.gtid c)

    first : (c : PathCommand) (i : ServerNo) (d : Option ServerNo) → first_of (checks c i d) ≡ paths.refusal_about w b now c i d
    first c i d =
        first-append (row_checks w b (paths.case_of w b c i d) (paths.row_of w.gtid c))
        (paths.own_refusal w b now c i d ∷ row_checks w b (paths.case_of w b c i d) (paths.last_row_of w.gtid c))

-- ---- by matches

module _ (w : World) (b : BookState) (now : Moment) (every : ℕ) where
  own-has : (c : MatchCommand) (i : ServerNo) → Has 19 27 (matches.own_refusal w b now c i)
  own-has matching.RegroupReplicas i r e = candidate-has w b now i r e
  own-has _ i r e = cc

  last-rising : (k : Case) (c : MatchCommand) → Rising 27 (row_checks w b k (matches.last_row_of every c))
  last-rising k c =
      let row = matches.last_row_of every c in
      rising-from 27 31 (row_checks w b k row) (omega arith)
      (subst (Rising 31) (append-none (row_checks w b k row)) (row-rising w b k 30 99 row [] (omega arith) (match-last-rows-rise every c) (ends-all row) tt))

  row-ends : (c : MatchCommand) → ends_by 18 (matches.row_of c) ≡ true
  row-ends matching.Match = refl
  row-ends _ = refl

  abbrev match-all : MatchCommand → ServerNo → Option ServerNo → List (Option Refusal)
  match-all c i d = row_checks w b (matches.case_of b c i d) (matches.row_of c) ++ matches.own_refusal w b now c i ∷ row_checks w b (matches.case_of b c i d) (matches.last_row_of every c)

  match-rising : (c : MatchCommand) (i : ServerNo) (d : Option ServerNo) → Rising 3 (match-all c i d)
  match-rising c i d =
      row-rising w b (matches.case_of b c i d) 2 18 (matches.row_of c) (matches.own_refusal w b now c i ∷ row_checks w b (matches.case_of b c i d) (matches.last_row_of every c))
      (omega arith) (match-rows-rise c) (row-ends c) (27, omega arith, own-has c i, last-rising (matches.case_of b c i d) c)

  match-first : (c : MatchCommand) (i : ServerNo) (d : Option ServerNo) → first_of (match-all c i d) ≡ matches.refusal_about w b now every c i d
  match-first c i d =
      first-append (row_checks w b (matches.case_of b c i d) (matches.row_of c))
      (matches.own_refusal w b now c i ∷ row_checks w b (matches.case_of b c i d) (matches.last_row_of every c))

pub match-lowest : (w : World) (b : BookState) (now : Moment) (every : ℕ) (kind : Option MatchCommand) (given : Command)
    → IsAnswer (match_checks w b now every kind given) (refused b (matches.refusal_about w b now every) kind given)
match-lowest w b now every kind given =
    answered (match_checks w b now every kind given) (refused b (matches.refusal_about w b now every) kind given) 2
    (ap (option_or (unknown_in b given)) (about-first (matches.refusal_about w b now every) (match-all w b now every) (match-first w b now every) kind given))
    (3, omega arith, has-unknown b given, about-rising 3 (match-all w b now every) (match-rising w b now every) kind given)

-- ---- recoveries and takeovers

has-held : (b : BookState) (audit : AuditState) (a : Attempt) (f : ServerNo) → Has 24 26 (held_back b audit a f)
has-held b audit a f = go (may_begin audit (label_at b f) a.now.0)
  where
    by : (h : Held) (r : Refusal) → Some (refused_as h) ≡ Some r → (24 ≤ number_of r) × (number_of r < 26)
    by (held.Unended id) r e = let same : 24 ≡ number_of r = ap number_of (same_Some (refusal.OpenRecovery id) r e) in (omega (arith, same), omega (arith, same))
    by (held.Blocked id until) r e = let same : 25 ≡ number_of r = ap number_of (same_Some (refusal.Blocked id until) r e) in (omega (arith, same), omega (arith, same))

    go : (x : Result ℕ Held) (r : Refusal) → held_by x ≡ Some r → (24 ≤ number_of r) × (number_of r < 26)
    go (Ok id) r e = cc
    go (Err h) r e = by h r e

has-downtime : (b : BookState) (a : Attempt) (f : ServerNo) → Has 22 23 (downtimed b a f)
has-downtime b a f = go (downtime_at b f a.now)
  where
    go : (o : Option Moment) (r : Refusal) → option_map refusal.Downtimed o ≡ Some r → (22 ≤ number_of r) × (number_of r < 23)
    go None r e = cc
    go (Some until) r e = let same : 22 ≡ number_of r = ap number_of (same_Some (refusal.Downtimed until) r e) in (omega (arith, same), omega (arith, same))

own-rising : (b : BookState) (a : Attempt) (f : ServerNo) (passes by_hand : Bool) (xs : List (Option Refusal)) → Rising 24 xs
    → Rising 21 (cond by_hand [] (disabled a ∷ downtimed b a f ∷ filtered passes ∷ []) ++ xs)
own-rising b a f passes true xs rest = rising-from 21 24 xs (omega arith) rest
own-rising b a f passes false xs rest = (
  22,
  omega arith,
  has-test 21 (not a.enabled) refusal.GloballyDisabled refl,
  (23, omega arith, has-downtime b a f, (24, omega arith, has-test 23 (not passes) refusal.FilteredOut refl, rest)),
)

ends-rising : (b : BookState) (audit : AuditState) (a : Attempt) (f : ServerNo) (last : Bool) → Rising 24 (held_back b audit a f ∷ only_if last refusal.NoCandidate ∷ [])
ends-rising b audit a f last = (26, omega arith, has-held b audit a f, (27, omega arith, has-test 26 last refusal.NoCandidate refl, tt))

action-rising : (w : World) (b : BookState) (audit : AuditState) (a : Attempt) (f : ServerNo) (code : Code) (act : Action) → Rising 5 (action_checks w b audit a f code act)
action-rising w b audit a f code Nothing = rising-from 5 20 (Some (refusal.NotActionable code) ∷ []) (omega arith) (21, omega arith, has-some 20 (refusal.NotActionable code) refl, tt)
action-rising w b audit a f code MasterRecovery =
    rising-from 5 21 (action_checks w b audit a f code MasterRecovery) (omega arith)
    (own-rising b a f a.by_master a.by_hand (held_back b audit a f ∷ without_candidate w b a f ∷ []) (ends-rising b audit a f (not (has_candidate w b a.now f))))
action-rising w b audit a f code IntermediateRecovery =
    rising-from 5 21 (action_checks w b audit a f code IntermediateRecovery) (omega arith)
    (own-rising b a f a.by_intermediate a.by_hand (held_back b audit a f ∷ without_successor w b f ∷ []) (ends-rising b audit a f (not (has_successor w b f (source_of b f)))))

own-first : (b : BookState) (a : Attempt) (f : ServerNo) (passes by_hand : Bool)
    → first_of (cond by_hand [] (disabled a ∷ downtimed b a f ∷ filtered passes ∷ [])) ≡ cond by_hand None (first_of (disabled a ∷ downtimed b a f ∷ filtered passes ∷ []))
own-first b a f passes true = refl
own-first b a f passes false = refl

held-first : (b : BookState) (audit : AuditState) (a : Attempt) (f : ServerNo) (passes : Bool) (last : Option Refusal)
    → first_of (own_checks b a f passes ++ held_back b audit a f ∷ last ∷ []) ≡ option_or (recovery.held_off b audit a f passes) last
held-first b audit a f passes last =
    first-append (own_checks b a f passes) (held_back b audit a f ∷ last ∷ [])
    ∙ (ap (λ x. option_or x (option_or (held_back b audit a f) (option_or last None))) (own-first b a f passes a.by_hand)
    ∙ (ap (λ x. option_or (recovery.unasked b a f passes) (option_or (held_back b audit a f) x)) (or-none last)
    ∙ sym (or-assoc (recovery.unasked b a f passes) (held_back b audit a f) last)))

action-first : (w : World) (b : BookState) (audit : AuditState) (a : Attempt) (f : ServerNo) (code : Code) (act : Action) → first_of (action_checks w b audit a f code act) ≡ recovery.refusal_for w b audit a f code act
action-first w b audit a f code Nothing = refl
action-first w b audit a f code MasterRecovery = held-first b audit a f a.by_master (without_candidate w b a f)
action-first w b audit a f code IntermediateRecovery = held-first b audit a f a.by_intermediate (without_successor w b f)

code-lowest : (w : World) (b : BookState) (audit : AuditState) (a : Attempt) (f : ServerNo) (o : Option Code) → IsAnswer (code_checks w b audit a f o) (recovery.refusal_by w b audit a f o)
code-lowest w b audit a f None = first-lowest 2 (Some refusal.UnknownInstance ∷ []) (3, omega arith, has-some 2 refusal.UnknownInstance refl, tt)
code-lowest w b audit a f (Some code) =
    answered (code_checks w b audit a f (Some code)) (recovery.refusal_by w b audit a f (Some code)) 4
    (ap (option_or (refusal_by w b (recovery.case_of b f) check.Busy)) (action-first w b audit a f code (action_of code))
    ∙ ap (λ x. option_or x (recovery.refusal_for w b audit a f code (action_of code))) (sym (or-none (refusal_by w b (recovery.case_of b f) check.Busy))))
    (5, omega arith, has-check w b (recovery.case_of b f) check.Busy, action-rising w b audit a f code (action_of code))

pub recovery-lowest : (w : World) (b : BookState) (audit : AuditState) (a : Attempt) (f : ServerNo) → IsAnswer (recovery_checks w b audit a f) (recovery.recovery_refusal w b audit a f)
recovery-lowest w b audit a f = code-lowest w b audit a f (code_at b f)

pub takeover-lowest : (w : World) (b : BookState) (audit : AuditState) (a : Attempt) (i d : ServerNo) → IsAnswer (takeover_checks w b audit a i d) (takeover.takeover_refusal w b audit a i d)
takeover-lowest w b audit a i d =
    answered (takeover_checks w b audit a i d) (takeover.takeover_refusal w b audit a i d) 2
    (ap (option_or (only_if (not (is_instance b i && is_instance b d)) refusal.UnknownInstance))
    (first-append (row_checks w b (takeover.case_of b i d) takeover.row) (held_back b audit a i ∷ no_master b i ∷ no_replica b i d ∷ []))) (
      3,
      omega arith,
      has-test 2 (not (is_instance b i && is_instance b d)) refusal.UnknownInstance refl,
      row-rising w b (takeover.case_of b i d) 2 18 takeover.row (held_back b audit a i ∷ no_master b i ∷ no_replica b i d ∷ []) (omega arith) refl refl
          (rising-from 19 24 (held_back b audit a i ∷ no_master b i ∷ no_replica b i d ∷ []) (omega arith) (
            27,
            omega arith,
            has-wide 24 26 24 27 (held_back b audit a i) (omega arith) (omega arith) (has-held b audit a i),
            (
              28,
              omega arith,
              has-test 27 (is_some (source_of b i)) refusal.NotMaster refl,
              (29, omega arith, has-test 28 (not (is_given i (attached_of b d))) refusal.NotReplica refl, tt),
            ),
          )),
    )
