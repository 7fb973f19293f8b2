-- How many turns and writes the listed ones mean, and that each is a turn of the servers.
use Rattle.std.proofs.Common.{◌≡◌, ℕ, ◌+◌, ◌<◌, ◌≤◌, Bool, List, [], ◌∷◌, ◌++◌, length, take, get_or, count_by, cond, nat_le, if◌then◌else◌, All, Option, Some, None, true, false, ap, sym, subst, refl, arith, IfSome}
use Rattle.scenario_turns.proofs.Prelude.{Act, All-cons, All-head, All-nil, All-tail, Apply, Fetch, IsAct, IsListedTurn, IsNumberOf, IsTurnOf}
use Rattle.scenario_turns.proofs.Prelude.{ListedTurn, One, PollRead, Polls, PollStore, Round, ServerNo, Step, Turn, done_by, expanded, expansion_of, few}
use Rattle.scenario_turns.proofs.Prelude.{flat_map, is_write, length-append, length-flat_map-take, nat_tests, polls_of, same_Some, steps_of, sum_by-append}

some_none : {ts : List Turn} → Some ts ≡ None → ⊥
some_none e = cc

-- ---- how many

-- the turns up to one that is listed, and its own, are more than there may be: those of all are too
pub too_many : (ns : List ServerNo) (listed seen : List ListedTurn) (own : ListedTurn) → length seen < length listed → seen ≡ take (length seen) listed → own ≡ get_or listed (length seen) own
    → 1000000 < length (expanded ns seen ++ expansion_of ns own) → None ≡ few (expanded ns listed)
too_many ns listed seen own lt front at over =
    let whole : length (expanded ns (take (length seen) listed)) + length (expansion_of ns (get_or listed (length seen) own)) ≤ length (expanded ns listed) = length-flat_map-take (expansion_of ns) listed (length seen) own lt in
    let begun : length (expanded ns seen) + length (expansion_of ns (get_or listed (length seen) own)) ≤ length (expanded ns listed) =
    subst (λ s. length (expanded ns s) + length (expansion_of ns (get_or listed (length seen) own)) ≤ length (expanded ns listed)) (sym front) whole in
    let within : length (expanded ns seen) + length (expansion_of ns own) ≤ length (expanded ns listed) = subst (λ t. length (expanded ns seen) + length (expansion_of ns t) ≤ length (expanded ns listed)) (sym at) begun in
    let sum = length-append (expanded ns seen) (expansion_of ns own) in
    let more : 1000000 < length (expanded ns listed) = omega (arith, sum, within, over) in
    let tested : false ≡ nat_le (length (expanded ns listed)) 1000000 = grind (arith, nat_tests, more) in
    ap (λ b. if b then Some (expanded ns listed) else None) tested

-- the turns are few, or not
few_by : (ts us : List Turn) (b : Bool) → b ≡ nat_le (length ts) 1000000 → Some us ≡ (if b then Some ts else None) → (true ≡ nat_le (length ts) 1000000) × (us ≡ ts)
few_by ts us true is some = (is, same_Some us ts some)
few_by ts us false is some = absurd (some_none some)

pub few_some : (ts us : List Turn) → Some us ≡ few ts → (true ≡ nat_le (length ts) 1000000) × (us ≡ ts)
few_some ts us some = few_by ts us (nat_le (length ts) 1000000) refl some

many_by : (ts : List Turn) (b : Bool) → b ≡ nat_le (length ts) 1000000 → None ≡ (if b then Some ts else None) → false ≡ nat_le (length ts) 1000000
many_by ts true is none = absurd (some_none (sym none))
many_by ts false is none = is

pub few_none : (ts : List Turn) → None ≡ few ts → false ≡ nat_le (length ts) 1000000
few_none ts none = many_by ts (nat_le (length ts) 1000000) refl none

pub polls_write_nothing : (node : Option ℕ) (ns : List ServerNo) → count_by is_write (polls_of node ns) ≡ 0
polls_write_nothing None [] = refl
polls_write_nothing None (n ∷ ns) = polls_write_nothing None ns
polls_write_nothing (Some by) [] = refl
polls_write_nothing (Some by) (n ∷ ns) = polls_write_nothing (Some by) ns

steps_write_nothing : (ns : List ServerNo) → count_by is_write (steps_of ns) ≡ 0
steps_write_nothing [] = refl
steps_write_nothing (n ∷ ns) = steps_write_nothing ns

pub rounds_write_nothing : (ns : List ServerNo) → count_by is_write (steps_of ns ++ polls_of None ns) ≡ 0
rounds_write_nothing ns =
    let sum : count_by is_write (steps_of ns ++ polls_of None ns) ≡ count_by is_write (steps_of ns) + count_by is_write (polls_of None ns) = sum_by-append (λ t. cond (is_write t) 1 0) (steps_of ns) (polls_of None ns) in
    omega (arith, sum, steps_write_nothing ns, polls_write_nothing None ns)

-- ---- turns of the servers

All-append : {X : Type 0} (P : X → Type 0) (xs ys : List X) → All P xs → All P ys → All P (xs ++ ys)
All-append P [] ys front back = back
All-append P (x ∷ xs) ys front back = All-cons P x (xs ++ ys) (All-head P x xs front) (All-append P xs ys (All-tail P x xs front) back)

All-flat_map : {X Y : Type 0} (P : Y → Type 0) (Q : X → Type 0) (f : X → List Y) → ((x : X) → Q x → All P (f x)) → (xs : List X) → All Q xs → All P (flat_map f xs)
All-flat_map P Q f each [] all = All-nil P
All-flat_map P Q f each (x ∷ xs) all = All-append P (f x) (flat_map f xs) (each x (All-head Q x xs all)) (All-flat_map P Q f each xs (All-tail Q x xs all))

All-two : {X : Type 0} (P : X → Type 0) (x y : X) → P x → P y → All P (x ∷ y ∷ [])
All-two P x y one two = All-cons P x (y ∷ []) one (All-cons P y [] two (All-nil P))

-- what one orchestrator, or one of so many, does
pub done_by-is : (count nodes : ℕ) (node : Option ℕ) (a : Act) → IfSome node (IsNumberOf nodes) → IsAct count a → IsTurnOf count nodes (done_by node a)
done_by-is count nodes None a of is = (is, tt)
done_by-is count nodes (Some n) a of is = (is, of)

module _ (count nodes : ℕ) (ns : List ServerNo) (within : All (λ n. n.0 < count) ns) where
  polls-are : (node : Option ℕ) → IfSome node (IsNumberOf nodes) → All (IsTurnOf count nodes) (polls_of node ns)
  polls-are by of =
      All-flat_map (IsTurnOf count nodes) (λ n. n.0 < count) (λ n. done_by by (PollRead 0 n) ∷ done_by by (PollStore 0) ∷ [])
      (λ n is. All-two (IsTurnOf count nodes) (done_by by (PollRead 0 n)) (done_by by (PollStore 0)) (done_by-is count nodes by (PollRead 0 n) of (omega arith, is)) (done_by-is count nodes by (PollStore 0) of (omega arith)))
      ns within

  steps-are : All (IsTurnOf count nodes) (steps_of ns)
  steps-are = All-flat_map (IsTurnOf count nodes) (λ n. n.0 < count) (λ n. Step (Fetch n) ∷ Step (Apply n) ∷ []) (λ n is. All-two (IsTurnOf count nodes) (Step (Fetch n)) (Step (Apply n)) (is, tt) (is, tt)) ns within

  expansion-is : (listed : ListedTurn) → IsListedTurn count nodes listed → All (IsTurnOf count nodes) (expansion_of ns listed)
  expansion-is (One turn) is = All-cons (IsTurnOf count nodes) turn [] is (All-nil (IsTurnOf count nodes))
  expansion-is (Polls by) is = polls-are by is
  expansion-is Round is = All-append (IsTurnOf count nodes) (steps_of ns) (polls_of None ns) steps-are (polls-are None tt)

  -- what listed turns mean is turns of the servers
  pub expanded-are : (listed : List ListedTurn) → All (IsListedTurn count nodes) listed → All (IsTurnOf count nodes) (expanded ns listed)
  expanded-are listed all = All-flat_map (IsTurnOf count nodes) (IsListedTurn count nodes) (expansion_of ns) expansion-is listed all
