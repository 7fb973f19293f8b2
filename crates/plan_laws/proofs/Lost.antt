-- Which reason a list of losses gives for each replica, if no server is named twice.
use Rattle.std.proofs.Common.{◌≡◌, ◌∙◌, ℕ, Bool, true, false, cond, List, [], ◌∷◌, ◌++◌, map, Option, Some, None, refl, sym, ap, subst, arith, ◌==◌, All, filter, filter_map, find}
use Rattle.plan_laws.proofs.Prelude.{All-cons, All-head, All-nil, All-tail, AreApart, LostReplica, ServerNo, Stopped, Why, cons_option, eq-eqb}
use Rattle.plan_laws.proofs.Prelude.{find-append, gone, option_map, option_or, same_Some, why_of}

-- a replica that was to be drained: it is, or it wasn't reached
pub data Found : Type 0 where
  There : (s : Stopped) → Found
  Gone : (n : ServerNo) → Found

abbrev pub no_of : Found → ServerNo
no_of (There s) = s.no
no_of (Gone n) = n

abbrev pub drained_in : Found → Option Stopped
drained_in (There s) = Some s
drained_in (Gone n) = None

abbrev pub gone_in : Found → Option LostReplica
gone_in (There s) = None
gone_in (Gone n) = Some (gone n)

-- ---- finding

pub differs : (a b : ℕ) → (b == a) ≡ false → (a == b) ≡ false
differs a b h = grind (arith, h)

module _ (h : Found → Option LostReplica) (named : (x : Found) (l : LostReplica) → h x ≡ Some l → l.no ≡ no_of x) where
  -- none is of a server that isn't named
  find-none : (n : ServerNo) (fs : List Found) → All (λ m. (n.0 == m.0) ≡ false) (map no_of fs) → find (λ l. l.no.0 == n.0) (filter_map h fs) ≡ None
  find-none n [] all = refl
  find-none n (x ∷ xs) all = go (h x) refl (find-none n xs (All-tail (λ (m : ServerNo). (n.0 == m.0) ≡ false) (no_of x) (map no_of xs) all))
    where
      go : (o : Option LostReplica) → h x ≡ o → find (λ l. l.no.0 == n.0) (filter_map h xs) ≡ None
          → find (λ l. l.no.0 == n.0) (cons_option o (filter_map h xs)) ≡ None
      go None is rest = rest
      go (Some l) is rest =
          ap (λ (b : Bool). cond b (Some l) (find (λ k. k.no.0 == n.0) (filter_map h xs)))
          (apart l.no (no_of x) (named x l is) (All-head (λ (m : ServerNo). (n.0 == m.0) ≡ false) (no_of x) (map no_of xs) all)) ∙ rest
        where
          apart : (k m : ServerNo) → k ≡ m → (n.0 == m.0) ≡ false → (k.0 == n.0) ≡ false
          apart k m same off = differs k.0 n.0 (subst (λ (j : ServerNo). (n.0 == j.0) ≡ false) (sym same) off)

  -- what is found of a named one is its own
  find-own : (fs : List Found) → AreApart (map no_of fs) → All (λ x. find (λ l. l.no.0 == (no_of x).0) (filter_map h fs) ≡ h x) fs
  find-own [] apart = All-nil (λ (x : Found). find (λ l. l.no.0 == (no_of x).0) (filter_map h []) ≡ h x)
  find-own (x ∷ xs) apart =
      All-cons (λ (y : Found). find (λ l. l.no.0 == (no_of y).0) (filter_map h (x ∷ xs)) ≡ h y) x xs
      (first (h x) refl) (others xs apart.0 (find-own xs apart.1))
    where
      first : (o : Option LostReplica) → h x ≡ o → find (λ l. l.no.0 == (no_of x).0) (cons_option o (filter_map h xs)) ≡ o
      first None is = find-none (no_of x) xs apart.0
      first (Some l) is = ap (λ (b : Bool). cond b (Some l) (find (λ k. k.no.0 == (no_of x).0) (filter_map h xs))) (eq-eqb l.no.0 (no_of x).0 (ap (λ (m : ServerNo). m.0) (named x l is)))

      past : (y : Found) (o : Option LostReplica) → h x ≡ o → ((no_of x).0 == (no_of y).0) ≡ false
          → find (λ l. l.no.0 == (no_of y).0) (filter_map h xs) ≡ h y → find (λ l. l.no.0 == (no_of y).0) (cons_option o (filter_map h xs)) ≡ h y
      past y None is off own = own
      past y (Some l) is off own =
          ap (λ (b : Bool). cond b (Some l) (find (λ k. k.no.0 == (no_of y).0) (filter_map h xs)))
          (subst (λ (m : ServerNo). (m.0 == (no_of y).0) ≡ false) (sym (named x l is)) off) ∙ own

      others : (ys : List Found) → All (λ m. ((no_of x).0 == m.0) ≡ false) (map no_of ys) → All (λ y. find (λ l. l.no.0 == (no_of y).0) (filter_map h xs) ≡ h y) ys
          → All (λ y. find (λ l. l.no.0 == (no_of y).0) (filter_map h (x ∷ xs)) ≡ h y) ys
      others [] off own = All-nil (λ (y : Found). find (λ l. l.no.0 == (no_of y).0) (filter_map h (x ∷ xs)) ≡ h y)
      others (y ∷ ys) off own =
          All-cons (λ (z : Found). find (λ l. l.no.0 == (no_of z).0) (filter_map h (x ∷ xs)) ≡ h z) y ys
          (past y (h x) refl (All-head (λ (m : ServerNo). ((no_of x).0 == m.0) ≡ false) (no_of y) (map no_of ys) off)
          (All-head (λ (z : Found). find (λ l. l.no.0 == (no_of z).0) (filter_map h xs) ≡ h z) y ys own))
          (others ys (All-tail (λ (m : ServerNo). ((no_of x).0 == m.0) ≡ false) (no_of y) (map no_of ys) off)
          (All-tail (λ (z : Found). find (λ l. l.no.0 == (no_of z).0) (filter_map h xs) ≡ h z) y ys own))

-- ---- the reasons

module _ (lose : Stopped → Option Why) where
  -- a drained one, lost if a reason is given
  abbrev pub lost_by : Stopped → Option LostReplica
  lost_by s = option_map (λ why. let k : LostReplica = record { no = s.no; why = why; detached = false } in k) (lose s)

  abbrev pub lost_in : Found → Option LostReplica
  lost_in (There s) = lost_by s
  lost_in (Gone n) = None

  lost-named : (x : Found) (l : LostReplica) → lost_in x ≡ Some l → l.no ≡ no_of x
  lost-named (Gone n) l h = cc
  lost-named (There s) l h = go (lose s) h
    where
      go : (o : Option Why) → option_map (λ why. let k : LostReplica = record { no = s.no; why = why; detached = false } in k) o ≡ Some l → l.no ≡ s.no
      go None h = cc
      go (Some why) h = ap (λ (k : LostReplica). k.no) (sym (same_Some _ l h))

gone-named : (x : Found) (l : LostReplica) → gone_in x ≡ Some l → l.no ≡ no_of x
gone-named (There s) l h = cc
gone-named (Gone n) l h = ap (λ (k : LostReplica). k.no) (sym (same_Some (gone n) l h))

-- some are lost as the choice is made, others later
module _ (lose late : Stopped → Option Why) where
  abbrev pub why_in : Found → Option Why
  why_in (There s) = option_or (lose s) (late s)
  why_in (Gone n) = Some (gone n).why

  -- of those that are gone, and those that are lost then
  abbrev pub losses : List Found → List LostReplica
  losses fs = filter_map gone_in fs ++ (filter_map (lost_in lose) fs ++ filter_map (lost_in late) fs)

  module _ (fs : List Found) (apart : AreApart (map no_of fs)) where
    -- what is found of a named one is its own
    abbrev IsOwn : (Found → Option LostReplica) → Found → Type 0
    IsOwn h x = find (λ l. l.no.0 == (no_of x).0) (filter_map h fs) ≡ h x

    why-own : (x : Found) → IsOwn gone_in x → IsOwn (lost_in lose) x → IsOwn (lost_in late) x → why_of (losses fs) (no_of x) ≡ why_in x
    why-own x one two three =
        ap (option_map (λ (l : LostReplica). l.why))
        (find-append (λ (l : LostReplica). l.no.0 == (no_of x).0) (filter_map gone_in fs) (filter_map (lost_in lose) fs ++ filter_map (lost_in late) fs)
        ∙ (λ i. option_or (one i) ((find-append (λ (l : LostReplica). l.no.0 == (no_of x).0) (filter_map (lost_in lose) fs) (filter_map (lost_in late) fs)
        ∙ (λ k. option_or (two k) (three k))) i)))
        ∙ go x
      where
        reason : (s : Stopped) (o v : Option Why)
            → option_map (λ (l : LostReplica). l.why)
            (option_or (option_map (λ why. let k : LostReplica = record { no = s.no; why = why; detached = false } in k) o)
            (option_map (λ why. let k : LostReplica = record { no = s.no; why = why; detached = false } in k) v)) ≡ option_or o v
        reason s None None = refl
        reason s None (Some why) = refl
        reason s (Some why) v = refl

        go : (y : Found) → option_map (λ (l : LostReplica). l.why) (option_or (gone_in y) (option_or (lost_in lose y) (lost_in late y))) ≡ why_in y
        go (There s) = reason s (lose s) (late s)
        go (Gone n) = refl

    pub all-own : All (λ x. why_of (losses fs) (no_of x) ≡ why_in x) fs
    all-own = go fs (find-own gone_in gone-named fs apart) (find-own (lost_in lose) (lost-named lose) fs apart) (find-own (lost_in late) (lost-named late) fs apart)
      where
        go : (xs : List Found) → All (IsOwn gone_in) xs → All (IsOwn (lost_in lose)) xs → All (IsOwn (lost_in late)) xs → All (λ x. why_of (losses fs) (no_of x) ≡ why_in x) xs
        go [] one two three = All-nil (λ (x : Found). why_of (losses fs) (no_of x) ≡ why_in x)
        go (x ∷ xs) one two three =
            All-cons (λ (y : Found). why_of (losses fs) (no_of y) ≡ why_in y) x xs
            (why-own x (All-head (IsOwn gone_in) x xs one) (All-head (IsOwn (lost_in lose)) x xs two) (All-head (IsOwn (lost_in late)) x xs three))
            (go xs (All-tail (IsOwn gone_in) x xs one) (All-tail (IsOwn (lost_in lose)) x xs two) (All-tail (IsOwn (lost_in late)) x xs three))

    -- those of some reason
    pub filter-own : (of : Option Why → Bool) → filter (λ n. of (why_of (losses fs) n)) (map no_of fs) ≡ filter_map (λ x. cond (of (why_in x)) (Some (no_of x)) None) fs
    filter-own of = go fs all-own
      where
        put : (n : ServerNo) (b : Bool) (ns ms : List ServerNo) → ns ≡ ms → cond b (n ∷ ns) ns ≡ cons_option (cond b (Some n) None) ms
        put n true ns ms same = ap (λ (ks : List ServerNo). n ∷ ks) same
        put n false ns ms same = same

        go : (xs : List Found) → All (λ x. why_of (losses fs) (no_of x) ≡ why_in x) xs
            → filter (λ n. of (why_of (losses fs) n)) (map no_of xs) ≡ filter_map (λ x. cond (of (why_in x)) (Some (no_of x)) None) xs
        go [] all = refl
        go (x ∷ xs) all =
            ap (λ (o : Option Why). cond (of o) (no_of x ∷ filter (λ n. of (why_of (losses fs) n)) (map no_of xs)) (filter (λ n. of (why_of (losses fs) n)) (map no_of xs)))
            (All-head (λ (y : Found). why_of (losses fs) (no_of y) ≡ why_in y) x xs all)
            ∙ put (no_of x) (of (why_in x)) (filter (λ n. of (why_of (losses fs) n)) (map no_of xs)) (filter_map (λ y. cond (of (why_in y)) (Some (no_of y)) None) xs)
            (go xs (All-tail (λ (y : Found). why_of (losses fs) (no_of y) ≡ why_in y) x xs all))
