-- What the conditions of a plan's choice decide.
use Rattle.std.proofs.Common.{◌≡◌, ◌∙◌, ◌⊎◌, inl, inr, ℕ, Bool, true, false, cond, not, List, [], ◌∷◌, map, Option, Some, None, refl, sym, ap, subst, arith, ◌==◌, ◌&&◌, ◌||◌, All, Contains, filter, nat_lt}
use Rattle.plan_laws.proofs.Prelude.{All-cons, All-contains, All-contains_itself, All-head, All-map, All-nil, All-tail, All-weaker, AreAlike, AreMet}
use Rattle.plan_laws.proofs.Prelude.{ConditionsDecideTheChoice, Contains-append_cases, Contains-append_right, Coord, Drained, Equal, Greater, Ground}
use Rattle.plan_laws.proofs.Prelude.{HostPort, IsFirst, IsMet, Less, Line, Means, Ordering, Purpose, ServerNo, Stopped, advance_order, advance_total}
use Rattle.plan_laws.proofs.Prelude.{chosen-first, chosen-may, chosen_of, condition, coord_order, drained_of, eq-eqb, eqb-true, expected, false≢true}
use Rattle.plan_laws.proofs.Prelude.{follower_of, gathers, is_barred, is_before, is_eligible, is_lt, is_no, logs_at, most_advanced, nat_cmp}
use Rattle.plan_laws.proofs.Prelude.{nat_cmp_total, nat_tests, nearer_order, nearer_total, none-chosen, ordering_reverse, ordering_then, rank_order}
use Rattle.plan_laws.proofs.Prelude.{recovery_lines, rule_at, same-no, same_Some, server_order, stopped_in, tied_itself, wins}
use Rattle.plan_laws.proofs.Prelude.line
use Rattle.plan_laws.proofs.Conditions.{choices-have}

-- ---- orders and coordinates

-- of two coordinates of which neither is before the other, each is the other
level : (c d : Coord) → is_before c d ≡ false → is_before d c ≡ false → coord_order c d ≡ Equal
level c d not-before not-after =
    let file : c.file ≡ d.file = grind (arith, nat_tests) in
    let pos : c.pos ≡ d.pos = grind (arith, nat_tests) in
    ap (λ (n : ℕ). ordering_then (nat_cmp n d.file) (nat_cmp c.pos d.pos)) file
    ∙ (ap (λ (n : ℕ). ordering_then (nat_cmp d.file d.file) (nat_cmp n d.pos)) pos
    ∙ (ap (λ (o : Ordering). ordering_then o (nat_cmp d.pos d.pos)) (tied_itself nat_cmp_total d.file) ∙ tied_itself nat_cmp_total d.pos))

-- the earlier one comes first
ahead : (c d : Coord) → is_before c d ≡ true → coord_order c d ≡ Less
ahead c d = by (nat_lt c.file d.file) (c.file == d.file)
  where
    last : (b e : Bool) → b ≡ true → cond b Less (cond e Equal Greater) ≡ Less
    last true e h = refl
    last false e h = cc

    by : (a b : Bool) → (a || (b && nat_lt c.pos d.pos)) ≡ true → ordering_then (cond a Less (cond b Equal Greater)) (nat_cmp c.pos d.pos) ≡ Less
    by true b h = refl
    by false true h = last (nat_lt c.pos d.pos) (c.pos == d.pos) h
    by false false h = cc

no-coord : (c : Coord) → coord_order c c ≡ Equal
no-coord c = ap (λ (o : Ordering). ordering_then o (nat_cmp c.pos c.pos)) (tied_itself nat_cmp_total c.file) ∙ tied_itself nat_cmp_total c.pos

-- neither is before the other
neither : (o : Ordering) → is_lt o ≡ false → is_lt (ordering_reverse o) ≡ false → o ≡ Equal
neither Less later earlier = cc
neither Equal later earlier = refl
neither Greater later earlier = cc

then-equal : (o p : Ordering) → ordering_then o p ≡ Equal → p ≡ Equal
then-equal Less p e = cc
then-equal Equal p e = e
then-equal Greater p e = cc

-- ---- lists

only : {X : Type 0} (x y : X) → Contains (x ∷ []) y → y ≡ x
only x y there = All-contains (λ z. z ≡ x) (x ∷ []) y (All-cons (λ z. z ≡ x) x [] refl (All-nil (λ z. z ≡ x))) there

unfiltered : {X : Type 0} (p : X → Bool) (P : X → Type 0) (xs : List X) → All P (filter p xs) → All (λ x. p x ≡ true → P x) xs
unfiltered p P [] all = All-nil (λ x. p x ≡ true → P x)
unfiltered {X} p P (x ∷ xs) all = go (p x) refl all (unfiltered p P xs)
  where
    go : (b : Bool) → p x ≡ b → All P (cond b (x ∷ filter p xs) (filter p xs)) → (All P (filter p xs) → All (λ y. p y ≡ true → P y) xs) → All (λ y. p y ≡ true → P y) (x ∷ xs)
    go true is some rest = All-cons (λ y. p y ≡ true → P y) x xs (λ passes. All-head P x (filter p xs) some) (rest (All-tail P x (filter p xs) some))
    go false is some rest = All-cons (λ y. p y ≡ true → P y) x xs (λ passes. absurd (false≢true (sym is ∙ passes))) (rest some)

-- what is found has the number, and is of the list
found : (n : ServerNo) (xs : List Stopped) (s : Stopped) → stopped_in xs (Some n) ≡ Some s → Contains xs s × (s.no ≡ n)
found n [] s is = cc
found n (x ∷ xs) s is = go (x.no.0 == n.0) refl is (found n xs s)
  where
    go : (b : Bool) → (x.no.0 == n.0) ≡ b → cond b (Some x) (stopped_in xs (Some n)) ≡ Some s → (stopped_in xs (Some n) ≡ Some s → Contains xs s × (s.no ≡ n)) → Contains (x ∷ xs) s × (s.no ≡ n)
    go true same some rest =
        let here : x ≡ s = same_Some x s some in
        (subst (Contains (x ∷ xs)) here (0, omega arith, refl), ap (λ (t : Stopped). t.no) (sym here) ∙ same-no x.no n (eqb-true x.no.0 n.0 same))
    go false same some rest = let more = rest some in (Contains-append_right (x ∷ []) xs s more.0, more.1)

-- and one of this number is found, if there is one
is-found : (n : ServerNo) (xs : List Stopped) (s : Stopped) → Contains xs s → s.no ≡ n → is_no n (stopped_in xs (Some n)) ≡ true
is-found n xs s there named = All-contains (λ t. t.no ≡ n → is_no n (stopped_in xs (Some n)) ≡ true) xs s (each xs) there named
  where
    each : (ys : List Stopped) → All (λ t. t.no ≡ n → is_no n (stopped_in ys (Some n)) ≡ true) ys
    each [] = All-nil (λ t. t.no ≡ n → is_no n (stopped_in [] (Some n)) ≡ true)
    each (y ∷ ys) = go (y.no.0 == n.0) refl (each ys)
      where
        go : (b : Bool) → (y.no.0 == n.0) ≡ b → All (λ t. t.no ≡ n → is_no n (stopped_in ys (Some n)) ≡ true) ys → All (λ t. t.no ≡ n → is_no n (cond b (Some y) (stopped_in ys (Some n))) ≡ true) (y ∷ ys)
        go true same rest =
            All-cons (λ t. t.no ≡ n → is_no n (Some y) ≡ true) y ys (λ named. same) (All-weaker (λ t. t.no ≡ n → is_no n (stopped_in ys (Some n)) ≡ true) (λ t. t.no ≡ n → is_no n (Some y) ≡ true) (λ t h named. same) ys rest)
        go false same rest =
            All-cons (λ t. t.no ≡ n → is_no n (stopped_in ys (Some n)) ≡ true) y ys (λ named. absurd (false≢true (sym same ∙ eq-eqb y.no.0 n.0 (ap (λ (m : ServerNo). m.0) named)))) rest

-- ---- who comes first

module _ (g : Ground) (f : ServerNo) where
  abbrev R : Drained → Drained → Ordering
  R = advance_order g.book.names

  abbrev D : Stopped → Drained
  D = drained_of g f

  -- whether a server may be promoted hangs on its number alone
  abbrev may : ServerNo → Bool
  may n = logs_at g.world n && not (is_barred (rule_at g.book n g.moment))

  -- and so does which comes first of two that have executed as much
  abbrev lower : ServerNo → ServerNo → Ordering
  lower n m = nearer_order g.book.names (follower_of g f n) (follower_of g f m)

  record IsFirstOf (xs : List Stopped) (n : ServerNo) : Type 0 where
    one : Stopped
    among : Contains xs one
    named : one.no ≡ n
    passes : may one.no ≡ true
    first : (s : Stopped) → Contains xs s → may s.no ≡ true → is_lt (R (D s) (D one)) ≡ false

  unmapped : (P : Drained → Type 0) (xs : List Stopped) → All P (map D xs) → All (λ s. P (D s)) xs
  unmapped P [] all = All-nil (λ s. P (D s))
  unmapped P (x ∷ xs) all = All-cons (λ s. P (D s)) x xs (All-head P (D x) (map D xs) all) (unmapped P xs (All-tail P (D x) (map D xs) all))

  abbrev IsOne : List Stopped → ServerNo → Drained → Type 0
  IsOne xs n d = IsFirst R is_eligible (map D xs) n d → IsFirstOf xs n

  first-of : (xs : List Stopped) (n : ServerNo) (s : Stopped) → Contains xs s → IsOne xs n (D s)
  first-of xs n s there is = record {
    one = s;
    among = there;
    named = is.named;
    passes = is.passes;
    first = λ t among.
        All-contains (λ u. may u.no ≡ true → is_lt (R (D u) (D s)) ≡ false) xs t (unmapped (λ d. is_eligible d ≡ true → is_lt (R d (D s)) ≡ false) xs is.first) among;
  }

  firsts : (xs : List Stopped) (n : ServerNo) → most_advanced g.book.names (map D xs) ≡ Some n → IsFirstOf xs n
  firsts xs n e =
      let any = chosen-first R is_eligible (map D xs) n e in
      All-contains (IsOne xs n) (map D xs) any.1 (All-map (IsOne xs n) D xs (All-weaker (Contains xs) (λ s. IsOne xs n (D s)) (first-of xs n) xs (All-contains_itself xs))) (any.0, any.2, any.3) any.4

  -- if one of them may be promoted, one is chosen
  some-first : (xs : List Stopped) (s : Stopped) → Contains xs s → may s.no ≡ true → most_advanced g.book.names (map D xs) ≡ None → ⊥
  some-first xs s there passes none =
      let nobody = (none-chosen R is_eligible (map D xs) (advance_total g.book.names)).0 none in
      false≢true (sym (All-contains (λ t. may t.no ≡ false) xs s (unmapped (λ d. is_eligible d ≡ false) xs nobody) there) ∙ passes)

  -- one that may be promoted is chosen if it is alone
  alone : (t : Stopped) → may t.no ≡ true → wins g f t (t ∷ []) ≡ true
  alone t passes = by (most_advanced g.book.names (map D (t ∷ []))) refl
    where
      by : (o : Option ServerNo) → most_advanced g.book.names (map D (t ∷ [])) ≡ o → wins g f t (t ∷ []) ≡ true
      by None none = absurd (some-first (t ∷ []) t (0, omega arith, refl) passes none)
      by (Some n) first =
          let is = firsts (t ∷ []) n first in
          let number : n ≡ t.no = sym is.named ∙ ap (λ (s : Stopped). s.no) (only t is.one is.among) in
          ap (λ (o : Option ServerNo). is_no t.no (stopped_in (t ∷ []) o)) (first ∙ ap Some number) ∙ is-found t.no (t ∷ []) t (0, omega arith, refl) refl

  -- beside another one, as if it had executed as much
  abbrev beside : Stopped → Stopped → Stopped
  beside e t = record t { exec = e.exec }

  abbrev pair : Stopped → Stopped → List Stopped
  pair e t = e ∷ beside e t ∷ []

  tie-at : (e t : Stopped) (n : ServerNo) → may t.no ≡ true → wins g f t (pair e t) ≡ false → most_advanced g.book.names (map D (pair e t)) ≡ Some n → (is : IsFirstOf (pair e t) n)
      → Contains (e ∷ []) is.one ⊎ Contains (beside e t ∷ []) is.one → is_lt (lower t.no e.no) ≡ false
  tie-at e t n may-t loses first is (inl here) =
      let later = subst (λ (s : Stopped). is_lt (R (D (beside e t)) (D s)) ≡ false) (only e is.one here) (is.first (beside e t) (1, omega arith, refl) may-t) in
      ap (λ (o : Ordering). is_lt (ordering_then o (lower t.no e.no))) (sym (no-coord e.exec)) ∙ later
  tie-at e t n may-t loses first is (inr there) =
      let number : n ≡ t.no = sym is.named ∙ ap (λ (s : Stopped). s.no) (only (beside e t) is.one there) in
      absurd (false≢true (sym loses ∙ (ap (λ (o : Option ServerNo). is_no t.no (stopped_in (pair e t) o)) (first ∙ ap Some number) ∙ is-found t.no (pair e t) (beside e t) (1, omega arith, refl) refl)))

  -- if a server isn't chosen before another one that has executed as much, it doesn't come first
  tie : (e t : Stopped) → may e.no ≡ true → may t.no ≡ true → wins g f t (pair e t) ≡ false → is_lt (lower t.no e.no) ≡ false
  tie e t may-e may-t loses = by (most_advanced g.book.names (map D (pair e t))) refl
    where
      by : (o : Option ServerNo) → most_advanced g.book.names (map D (pair e t)) ≡ o → is_lt (lower t.no e.no) ≡ false
      by None none = absurd (some-first (pair e t) e (0, omega arith, refl) may-e none)
      by (Some n) first = let is = firsts (pair e t) n first in tie-at e t n may-t loses first is (Contains-append_cases (e ∷ []) (beside e t ∷ []) is.one is.among)

-- ---- the law

module _ (g : Ground) (u : Purpose) (by : Means) (f : ServerNo) (ns : List ServerNo) (e p : Stopped) (ds : List Stopped) (gathers-is : gathers u ≡ true)
    (plan : chosen_of g f (expected g.book ns) ≡ Some e) (same : e.no ≡ p.no) (are : AreMet g (recovery_lines g u by f ns) (expected g.book ns) ds p) where
  may-e : may g f e.no ≡ true
  may-e = chosen-may g.world g.book g.moment f (expected g.book ns) e plan

  may-p : may g f p.no ≡ true
  may-p = ap (may g f) (sym same) ∙ may-e

  abbrev lines : List Line
  lines = recovery_lines g u by f ns

  -- another one, as it was expected, and as it was noted
  module _ (s t : Stopped) (there : Contains ds s) (seen : Contains (expected g.book ns) t) (alike : t.no ≡ s.no) (may-s : may g f s.no ≡ true) (other : (s.no.0 == p.no.0) ≡ false)
      (later : is_lt (R g f (D g f p) (D g f s)) ≡ false) where
    may-t : may g f t.no ≡ true
    may-t = ap (may g f) alike ∙ may-s

    apart : not (t.no.0 == e.no.0) ≡ true
    apart = ap not (ap (λ (n : ServerNo). n.0 == e.no.0) alike ∙ (ap (λ (n : ServerNo). s.no.0 == n.0) same ∙ other))

    abbrev Told : Stopped → Type 0
    Told x = wins g f x (x ∷ []) ≡ true → Contains lines (condition g f e x)

    there-is : Contains lines (line.Chosen p.no s.no (wins g f t (pair g f e t)))
    there-is =
        let each = unfiltered (λ (x : Stopped). not (x.no.0 == e.no.0)) Told (expected g.book ns) (choices-have g u by f ns e gathers-is plan) in
        let has : Contains lines (condition g f e t) = All-contains (λ x. not (x.no.0 == e.no.0) ≡ true → Told x) (expected g.book ns) t each seen apart (alone g f t may-t) in
        subst (λ (n : ServerNo). Contains lines (line.Chosen n s.no (wins g f t (pair g f e t)))) same
        (subst (λ (n : ServerNo). Contains lines (line.Chosen e.no n (wins g f t (pair g f e t)))) alike has)

    -- it has executed less
    less-done : is_before s.exec p.exec ≡ true → ⊥
    less-done before = false≢true (sym later ∙ ap (λ (o : Ordering). is_lt (ordering_then o (lower g f p.no s.no))) (ahead s.exec p.exec before))

    -- or as much, and comes later
    as-much : is_before p.exec s.exec ≡ false → is_before s.exec p.exec ≡ false → is_lt (lower g f t.no e.no) ≡ false → ⊥
    as-much not-s-after not-before behind =
        let equal = level s.exec p.exec not-before not-s-after in
        let not-p : is_lt (lower g f p.no s.no) ≡ false = ap (λ (o : Ordering). is_lt (ordering_then o (lower g f p.no s.no))) (sym equal) ∙ later in
        let not-s : is_lt (lower g f s.no p.no) ≡ false = ap (λ (n : ServerNo). is_lt (lower g f n p.no)) (sym alike) ∙ (ap (λ (n : ServerNo). is_lt (lower g f t.no n)) (sym same) ∙ behind) in
        let turned : lower g f s.no p.no ≡ ordering_reverse (lower g f p.no s.no) = (nearer_total g.book.names).antisymm (follower_of g f s.no) (follower_of g f p.no) in
        let tied : lower g f p.no s.no ≡ Equal = neither (lower g f p.no s.no) not-p (ap is_lt (sym turned) ∙ not-s) in
        let names : server_order g.book.names p.no s.no ≡ Equal = then-equal (rank_order (follower_of g f p.no) (follower_of g f s.no)) (server_order g.book.names p.no s.no) tied in
        let one : p.no ≡ s.no = are.named p s (found p.no ds p are.noted).0 there names in
        false≢true (sym other ∙ eq-eqb s.no.0 p.no.0 (ap (λ (n : ServerNo). n.0) (sym one)))

    decided : (less ahead-of : Bool) → wins g f t (pair g f e t) ≡ less → is_before s.exec p.exec ≡ ahead-of → ⊥
    decided less true is before = less-done before
    decided true false is before = less-done (subst (λ b. IsMet b p s) is (are.met s (wins g f t (pair g f e t)) there there-is))
    decided false false is before = as-much (subst (λ b. IsMet b p s) is (are.met s (wins g f t (pair g f e t)) there there-is)) before (tie g f e t may-e may-t is)

  -- no other one that may be promoted comes first
  beaten : (s : Stopped) → Contains ds s → may g f s.no ≡ true → (s.no.0 == p.no.0) ≡ false → is_lt (R g f (D g f p) (D g f s)) ≡ false → ⊥
  beaten s there may-s other later =
      let seen = are.expected s there in
      decided s seen.0 there seen.1 seen.2 may-s other later (wins g f seen.0 (pair g f e seen.0)) (is_before s.exec p.exec) refl refl

  chosen-first-of : (n : ServerNo) → most_advanced g.book.names (map (D g f) ds) ≡ Some n → (is : IsFirstOf g f ds n) (b : Bool) → (is.one.no.0 == p.no.0) ≡ b → chosen_of g f ds ≡ Some p
  chosen-first-of n first is true at =
      let number : n ≡ p.no = sym is.named ∙ same-no is.one.no p.no (eqb-true is.one.no.0 p.no.0 at) in
      ap (stopped_in ds) (first ∙ ap Some number) ∙ are.noted
  chosen-first-of n first is false at = absurd (beaten is.one is.among is.passes at (is.first p (found p.no ds p are.noted).0 may-p))

  chosen : (o : Option ServerNo) → most_advanced g.book.names (map (D g f) ds) ≡ o → chosen_of g f ds ≡ Some p
  chosen None none = absurd (some-first g f ds p (found p.no ds p are.noted).0 may-p none)
  chosen (Some n) first = let is = firsts g f ds n first in chosen-first-of n first is (is.one.no.0 == p.no.0) refl

-- a drained server, by what is so of a server without its coordinates
abbrev with : Stopped → Drained → Drained
with s d = record { no = s.no; exec = s.exec; own_end = s.own_end; rule = d.rule; logs = d.logs; near = d.near }

-- grounds that are alike choose alike
chosen-alike : (g h : Ground) (f : ServerNo) (ds : List Stopped) → AreAlike g h f → chosen_of h f ds ≡ chosen_of g f ds
chosen-alike g h f ds alike =
    ap (λ (names : List HostPort). stopped_in ds (most_advanced names (map (drained_of h f) ds))) alike.names
    ∙ ap (λ (xs : List Drained). stopped_in ds (most_advanced g.book.names xs)) (each ds)
  where
    each : (xs : List Stopped) → map (drained_of h f) xs ≡ map (drained_of g f) xs
    each [] = refl
    each (x ∷ xs) = ap (λ (d : Drained). with x d ∷ map (drained_of h f) xs) (alike.servers x.no) ∙ ap (λ (ys : List Drained). drained_of g f x ∷ ys) (each xs)

pub conditions-decide : ConditionsDecideTheChoice
conditions-decide g h u by f ns e p ds gathers-is plan same alike are =
    chosen-alike g h f ds alike ∙ chosen g u by f ns e p ds gathers-is plan same are (most_advanced g.book.names (map (drained_of g f) ds)) refl
