-- Servers as they are drawn.
use Rattle.std.proofs.Common.{◌≡◌, ◌∙◌, ◌≢◌, inl, inr, ◌<◌, ◌≤◌, ◌==◌, ℕ, zero, suc, ◌+◌, ◌-◌, ◌%◌, Bool, true, false, ◌∷◌, List, [], ◌++◌, length, sym, ap, subst, refl, arith, append_assoc, if◌then◌else◌, nat_lt, slice_index, slice_set}
use Rattle.scenario_generator.proofs.Prelude.{AreCounts, AreFew, Drawing, DrawnServer, Replica, Root, after_server, append-nil, below, comma_if}
use Rattle.scenario_generator.proofs.Prelude.{common_steps, count_at, count_of, eqb_tells, executed_by, get_or-set_other, get_or-set_same}
use Rattle.scenario_generator.proofs.Prelude.{length-append, listed, next, root_of, server_by, server_text, servers_data, servers_from, servers_text}
use Rattle.scenario_generator.proofs.Prelude.{source_by, with_server}
use Rattle.scenario_generator.proofs.Texts.{some_before}

-- ---- numbers

pub below_small : (bound x : ℕ) → 0 < bound → below bound x < bound
unfolding below
below_small bound x some = omega arith

-- ---- how many there are

pub servers_from-next : (x n : ℕ) → servers_from x (n + 1) ≡ with_server n (servers_from x n)
unfolding servers_from
servers_from-next x n = let e : n + 1 ≡ suc n = omega arith in ap (servers_from x) e

pub servers_from-count : (x n : ℕ) → length (servers_from x n).drawn ≡ n
unfolding servers_from
servers_from-count x zero = refl
servers_from-count x (suc n) = omega (arith, servers_from-count x n, length-append (servers_from x n).drawn (server_by (count_at (servers_from x n).drawn) n (servers_from x n).number ∷ []))

-- ---- counts

pub count_at-earlier : (ss more : List DrawnServer) (m : ℕ) → m < length ss → count_at (ss ++ more) m ≡ count_at ss m
count_at-earlier [] more m h = absurd (omega arith)
count_at-earlier (s ∷ ss) more zero h = refl
count_at-earlier (s ∷ ss) more (suc m) h = count_at-earlier ss more m (omega arith)

pub count_at-last : (ss : List DrawnServer) (s : DrawnServer) → count_at (ss ++ s ∷ []) (length ss) ≡ count_of s
count_at-last [] s = refl
count_at-last (t ∷ ss) s = count_at-last ss s

-- a source is earlier, and of the same ten
pub source_within : (n x : ℕ) → n % 10 ≢ 0 → (root_of n ≤ source_by n x) × (source_by n x < n)
source_within n x some =
    let small : below (n % 10) (next x) < n % 10 = below_small (n % 10) (next x) (omega arith) in
    (omega arith, omega (arith, small))

-- the counts that are kept are those of the list
server_same : (b : Bool) (count count' : ℕ → ℕ) (n x : ℕ) → (n % 10 == 0) ≡ b → (n % 10 ≢ 0 → count (source_by n x) ≡ count' (source_by n x))
    → (if b then Root else Replica (source_by n x) (executed_by count n x)) ≡ (if b then Root else Replica (source_by n x) (executed_by count' n x))
server_same true count count' n x e same = refl
server_same false count count' n x e same = ap (λ k. Replica (source_by n x) (below (k + 1) (next (next x)))) (same (grind (arith, common_steps)))

pub server_drawn : (counts : List ℕ) (ss : List DrawnServer) (n x : ℕ) → AreCounts counts ss n → server_by (λ m. slice_index counts (m % 10)) n x ≡ server_by (count_at ss) n x
server_drawn counts ss n x are = server_same (n % 10 == 0) (λ m. slice_index counts (m % 10)) (count_at ss) n x refl (λ some. let within = source_within n x some in are (source_by n x) within.0 within.1)

counts_here : (counts : List ℕ) (ss : List DrawnServer) (s : DrawnServer) (n : ℕ) → length counts ≡ 10 → length ss ≡ n → slice_index (slice_set counts (n % 10) (count_of s)) (n % 10) ≡ count_at (ss ++ s ∷ []) n
counts_here counts ss s n ten long =
    let inside : n % 10 < length counts = omega arith in
    get_or-set_same counts (n % 10) (count_of s) 0 inside ∙ sym (ap (count_at (ss ++ s ∷ [])) (sym long) ∙ count_at-last ss s)

counts_earlier : (counts : List ℕ) (ss : List DrawnServer) (s : DrawnServer) (n m : ℕ) → length ss ≡ n → AreCounts counts ss n → root_of (n + 1) ≤ m → m < n
    → slice_index (slice_set counts (n % 10) (count_of s)) (m % 10) ≡ count_at (ss ++ s ∷ []) m
counts_earlier counts ss s n m long are first before =
    let other : m % 10 ≢ n % 10 = λ e. omega arith in
    let inside : m < length ss = omega arith in
    get_or-set_other counts (n % 10) (m % 10) (count_of s) 0 other ∙ (are m (omega arith) before ∙ sym (count_at-earlier ss (s ∷ []) m inside))

pub counts_more : (counts : List ℕ) (ss : List DrawnServer) (s : DrawnServer) (n : ℕ) → length counts ≡ 10 → length ss ≡ n → AreCounts counts ss n
    → AreCounts (slice_set counts (n % 10) (count_of s)) (ss ++ s ∷ []) (n + 1)
counts_more counts ss s n ten long are m first before = elim (eqb_tells m n) [
  | inl here ↦ rw here.1 (counts_here counts ss s n ten long)
  | inr other ↦ counts_earlier counts ss s n m long are first (omega (arith, other.1))
]

-- ---- their texts

servers_data-true : (n m : ℕ) (ss : List DrawnServer) (s : DrawnServer) → n + length ss ≡ m → listed true (servers_data n (ss ++ s ∷ [])) ≡ listed true (servers_data n ss) ++ (44 ∷ server_text m s)
unfolding server_text
servers_data-true n m [] s e = let same : n ≡ m = omega arith in ap (λ (v : List ℕ). 44 ∷ v) (append-nil (server_text n s) ∙ ap (λ k. server_text k s) same)
servers_data-true n m (t ∷ ss) s e =
    ap (λ (v : List ℕ). 44 ∷ (server_text n t ++ v)) (servers_data-true (n + 1) m ss s (omega arith))
    ∙ ap (λ (v : List ℕ). 44 ∷ v) (sym (append_assoc (server_text n t) (listed true (servers_data (n + 1) ss)) (44 ∷ server_text m s)))

pub servers_text-more : (ss : List DrawnServer) (s : DrawnServer) → servers_text (ss ++ s ∷ []) ≡ servers_text ss ++ (comma_if (nat_lt 0 (length ss)) ++ server_text (length ss) s)
unfolding servers_text server_text
servers_text-more [] s = append-nil (server_text 0 s)
servers_text-more (t ∷ ss) s =
    ap (λ (v : List ℕ). server_text 0 t ++ v) (servers_data-true 1 (length (t ∷ ss)) ss s (omega arith))
    ∙ (sym (append_assoc (server_text 0 t) (listed true (servers_data 1 ss)) (44 ∷ server_text (length (t ∷ ss)) s))
    ∙ ap (λ b. servers_text (t ∷ ss) ++ (comma_if b ++ server_text (length (t ∷ ss)) s)) (sym (some_before (length ss))))

-- server n joins the text of those before it
pub servers_from-text : (x n : ℕ) → servers_text (servers_from x (n + 1)).drawn
    ≡ servers_text (servers_from x n).drawn ++ (comma_if (nat_lt 0 n) ++ server_text n (server_by (count_at (servers_from x n).drawn) n (servers_from x n).number))
servers_from-text x n =
    let ss = (servers_from x n).drawn in
    let s = server_by (count_at ss) n (servers_from x n).number in
    ap (λ (d : Drawing DrawnServer). servers_text d.drawn) (servers_from-next x n) ∙ servers_text-more ss s
    ∙ ap (λ k. servers_text ss ++ (comma_if (nat_lt 0 k) ++ server_text k s)) (servers_from-count x n)

-- the text of the first ones is a prefix of that of more
pub servers_from-front : (x n k : ℕ) → (more : List ℕ) × (servers_text (servers_from x (k + n)).drawn ≡ servers_text (servers_from x n).drawn ++ more)
servers_from-front x n zero = let same : 0 + n ≡ n = omega arith in ([], ap (λ m. servers_text (servers_from x m).drawn) same ∙ sym (append-nil (servers_text (servers_from x n).drawn)))
servers_from-front x n (suc k) =
    let before = servers_from-front x n k in
    let m = k + n in
    let last = comma_if (nat_lt 0 m) ++ server_text m (server_by (count_at (servers_from x m).drawn) m (servers_from x m).number) in
    let same : suc k + n ≡ m + 1 = omega arith in (
      before.0 ++ last,
      ap (λ i. servers_text (servers_from x i).drawn) same ∙ (servers_from-text x m
          ∙ (ap (λ (v : List ℕ). v ++ last) before.1 ∙ append_assoc (servers_text (servers_from x n).drawn) before.0 last)),
    )

pub servers_from-within : (x n count : ℕ) → n ≤ count → (more : List ℕ) × (servers_text (servers_from x count).drawn ≡ servers_text (servers_from x n).drawn ++ more)
servers_from-within x n count few =
    let front = servers_from-front x n (count - n) in
    let same : count ≡ count - n + n = omega arith in
    (front.0, ap (λ k. servers_text (servers_from x k).drawn) same ∙ front.1)

-- ---- one more server

-- this one follows the first n
pub record Follows (x n : ℕ) (s : DrawnServer) : Type 0 where
  pub is : s ≡ server_by (count_at (servers_from x n).drawn) n (servers_from x n).number

pub follows : (counts : List ℕ) (x n number : ℕ) (s : DrawnServer) → number ≡ (servers_from x n).number → AreCounts counts (servers_from x n).drawn n → s ≡ server_by (λ m. slice_index counts (m % 10)) n number → Follows x n s
follows counts x n number s same are drawn = record {
  is = drawn ∙ (server_drawn counts (servers_from x n).drawn n number are ∙ ap (server_by (count_at (servers_from x n).drawn) n) same);
}

pub number_next : (x n number number' : ℕ) → number ≡ (servers_from x n).number → number' ≡ after_server n number → number' ≡ (servers_from x (n + 1)).number
number_next x n number number' same after = after ∙ (ap (after_server n) same ∙ sym (ap (λ (d : Drawing DrawnServer). d.number) (servers_from-next x n)))

pub counts_next : (counts counts' : List ℕ) (x n : ℕ) (s : DrawnServer) → Follows x n s → AreFew counts → AreCounts counts (servers_from x n).drawn n → counts' ≡ slice_set counts (n % 10) (count_of s)
    → AreCounts counts' (servers_from x (n + 1)).drawn (n + 1)
counts_next counts counts' x n s next few are set =
    let ss = (servers_from x n).drawn in
    let drawn : (servers_from x (n + 1)).drawn ≡ ss ++ s ∷ [] = ap (λ (d : Drawing DrawnServer). d.drawn) (servers_from-next x n) ∙ ap (λ t. ss ++ t ∷ []) (sym next.is) in
    subst (λ (v : List ℕ). AreCounts v (servers_from x (n + 1)).drawn (n + 1)) (sym set)
    (subst (λ (v : List DrawnServer). AreCounts (slice_set counts (n % 10) (count_of s)) v (n + 1)) (sym drawn) (counts_more counts ss s n few.ten (servers_from-count x n) are))

pub text_next : (x n : ℕ) (s : DrawnServer) → Follows x n s → servers_text (servers_from x (n + 1)).drawn ≡ servers_text (servers_from x n).drawn ++ (comma_if (nat_lt 0 n) ++ server_text n s)
text_next x n s next = servers_from-text x n ∙ ap (λ t. servers_text (servers_from x n).drawn ++ (comma_if (nat_lt 0 n) ++ server_text n t)) (sym next.is)
