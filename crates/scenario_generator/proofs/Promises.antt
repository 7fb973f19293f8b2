-- What is drawn, whatever the seed.
use Rattle.std.proofs.Common.{◌≡◌, ◌∙◌, ◌≢◌, ◌⊎◌, ◌<◌, ◌≤◌, ◌==◌, ℕ, zero, suc, ◌+◌, ◌%◌, ◌^◌, Bool, true, false, ◌∷◌, List, [], ◌++◌, length, sym, ap, subst, refl, arith, inl, inr, codes, decimal, drop, if◌then◌else◌, slice_get, Some}
use Rattle.scenario_generator.proofs.Prelude.{Apply, ArePlaced, AreTurnsOf, DrawnServer, Fetch, IsPlaced, IsTurnOf, PollRead, PollStore, Replica}
use Rattle.scenario_generator.proofs.Prelude.{Root, Rotate, Write, below, common_steps, count_at, count_of, decimal_is_IsNumeral, digits_value}
use Rattle.scenario_generator.proofs.Prelude.{drop-nil, eqb-true, executed_by, next, root_of, server_by, server_name, servers_from, slice_get_within}
use Rattle.scenario_generator.proofs.Prelude.{source_by, turn_from, turns_from}
use Rattle.scenario_generator.proofs.Servers.{below_small, count_at-earlier, servers_from-count, source_within}

pub next_whole : (x : ℕ) → next x < 2 ^ 64
unfolding next
next_whole x = omega arith

-- ---- a list that grew by one

-- an item of it is the last one, or was there
pub got : {A : Type 0} (xs : List A) (last x : A) (k : ℕ) → slice_get (xs ++ last ∷ []) k ≡ Some x → ((k ≡ length xs) × (x ≡ last)) ⊎ (slice_get xs k ≡ Some x)
got [] last x zero e = inl (refl, cc)
got [] last x (suc k) e = absurd (cc)
got (y ∷ ys) last x zero e = inr e
got (y ∷ ys) last x (suc k) e = elim (got ys last x k e) [ inl here ↦ inl (ap suc here.0, here.1) | inr there ↦ inr there ]

-- ---- servers

placed_by : (b : Bool) (servers : List DrawnServer) (n x : ℕ) → (n % 10 == 0) ≡ b → IsPlaced servers n (if b then Root else Replica (source_by n x) (executed_by (count_at servers) n x))
placed_by true servers n x e = eqb-true (n % 10) 0 e
placed_by false servers n x e =
    let inner : n % 10 ≢ 0 = grind (arith, common_steps) in
    let within = source_within n x inner in
    let low : root_of n ≤ source_by n x = within.0 in
    let high : source_by n x < n = within.1 in
    let few : executed_by (count_at servers) n x < count_at servers (source_by n x) + 1 = below_small (count_at servers (source_by n x) + 1) (next (next x)) (omega arith) in
    record { inner = inner; earlier = high; near = omega arith; few = omega arith }

-- a server keeps its place if more follow
placed_still : (ss more : List DrawnServer) (n : ℕ) (s : DrawnServer) → n ≤ length ss → IsPlaced ss n s → IsPlaced (ss ++ more) n s
placed_still ss more n Root h is = is
placed_still ss more n (Replica source executed) h is = record {
  inner = is.inner;
  earlier = is.earlier;
  near = is.near;
  few = let e : count_at (ss ++ more) source ≡ count_at ss source = count_at-earlier ss more source (omega (arith, is.earlier)) in omega (arith, is.few);
}

placed_more : (ss : List DrawnServer) (x : ℕ) → ArePlaced ss → ArePlaced (ss ++ server_by (count_at ss) (length ss) x ∷ [])
placed_more ss x are n s e = elim (got ss (server_by (count_at ss) (length ss) x) s n e) [
  | inl here ↦ subst (λ m. IsPlaced (ss ++ server_by (count_at ss) (length ss) x ∷ []) m s) (sym here.0)
      (subst (λ t. IsPlaced (ss ++ server_by (count_at ss) (length ss) x ∷ []) (length ss) t) (sym here.1)
      (placed_still ss _ (length ss) (server_by (count_at ss) (length ss) x) (omega arith) (placed_by (length ss % 10 == 0) ss (length ss) x refl)))
  | inr there ↦ placed_still ss _ n s (let w : n < length ss = slice_get_within ss n s there in omega arith) (are n s there)
]

pub placed : (seed n : ℕ) → ArePlaced (servers_from seed n).drawn
unfolding servers_from
placed seed zero = λ m s e. absurd (cc)
placed seed (suc n) =
    let d = servers_from seed n in
    subst (λ k. ArePlaced (d.drawn ++ server_by (count_at d.drawn) k d.number ∷ [])) (servers_from-count seed n) (placed_more d.drawn d.number (placed seed n))

-- ---- counts

count_by_few : (b : Bool) (ss : List DrawnServer) (n x : ℕ) → ((m : ℕ) → count_at ss m ≤ 20) → count_of (if b then Root else Replica (source_by n x) (executed_by (count_at ss) n x)) ≤ 20
count_by_few true ss n x few = omega arith
count_by_few false ss n x few =
    let h : executed_by (count_at ss) n x < count_at ss (source_by n x) + 1 = below_small (count_at ss (source_by n x) + 1) (next (next x)) (omega arith) in
    omega (arith, few (source_by n x))

count_more_few : (ss : List DrawnServer) (s : DrawnServer) → ((m : ℕ) → count_at ss m ≤ 20) → count_of s ≤ 20 → (m : ℕ) → count_at (ss ++ s ∷ []) m ≤ 20
count_more_few [] s few last zero = last
count_more_few [] s few last (suc m) = omega arith
count_more_few (t ∷ ss) s few last zero = few zero
count_more_few (t ∷ ss) s few last (suc m) = count_more_few ss s (λ k. few (suc k)) last m

pub counts_few : (seed n m : ℕ) → count_at (servers_from seed n).drawn m ≤ 20
unfolding servers_from
counts_few seed zero m = omega arith
counts_few seed (suc n) m =
    let d = servers_from seed n in
    count_more_few d.drawn (server_by (count_at d.drawn) n d.number) (counts_few seed n) (count_by_few (n % 10 == 0) d.drawn n d.number (counts_few seed n)) m

-- ---- turns

root_is : (n : ℕ) → (root_of n ≤ n) × (root_of n % 10 ≡ 0)
root_is n = (omega arith, omega arith)

turn_by : (a b c d e : Bool) (servers n size : ℕ) → n < servers → 1 ≤ size → size ≤ 1000
    → IsTurnOf servers (if a then Write (root_of n) size else (if b then Fetch n else (if c then Apply n else (if d then Rotate n else (if e then PollRead n else PollStore)))))
turn_by true b c d e servers n size there some small = let r = root_is n in record { there = omega (arith, r.0); top = r.1; some = some; small = small }
turn_by false true c d e servers n size there some small = there
turn_by false false true d e servers n size there some small = there
turn_by false false false true e servers n size there some small = there
turn_by false false false false true servers n size there some small = there
turn_by false false false false false servers n size there some small = tt

turn_is : (servers x : ℕ) → 0 < servers → IsTurnOf servers (turn_from servers x)
turn_is servers x some =
    let small : below 1000 (next (next (next x))) < 1000 = below_small 1000 (next (next (next x))) (omega arith) in
    turn_by _ _ _ _ _ servers (below servers (next (next x))) (below 1000 (next (next (next x))) + 1) (below_small servers (next (next x)) some) (omega arith) (omega arith)

pub turns_are : (servers x n : ℕ) → 0 < servers → AreTurnsOf servers (turns_from servers x n).drawn
unfolding turns_from
turns_are servers x zero some = λ k t e. absurd (cc)
turns_are servers x (suc n) some = λ k t e.
    let d = turns_from servers x n in
    elim (got d.drawn (turn_from servers d.number) t k e) [
      | inl here ↦ subst (IsTurnOf servers) (sym here.1) (turn_is servers d.number some)
      | inr there ↦ turns_are servers x n some k t there
    ]

-- ---- names

-- leading zeros count for nothing
value_padded : (k : ℕ) (ds : List ℕ) → digits_value 10 (drop k (codes "0000") ++ ds) ≡ digits_value 10 ds
value_padded zero ds = refl
value_padded (suc (suc (suc (suc k)))) ds = rw (drop-nil k)
value_padded _ ds = refl

-- the number in a name
value_of_name : (n : ℕ) → n + 1 < 2 ^ 64 → digits_value 10 (drop 1 (server_name n)) ≡ n + 1
unfolding server_name
value_of_name n small = value_padded (length (decimal (n + 1))) (decimal (n + 1)) ∙ (decimal_is_IsNumeral (n + 1) small).1

pub names_apart : (m n : ℕ) → m + 1 < 2 ^ 64 → n + 1 < 2 ^ 64 → server_name m ≡ server_name n → m ≡ n
names_apart m n small small' e =
    let same : m + 1 ≡ n + 1 = sym (value_of_name m small) ∙ (ap (λ (v : List ℕ). digits_value 10 (drop 1 v)) e ∙ value_of_name n small') in
    omega arith
