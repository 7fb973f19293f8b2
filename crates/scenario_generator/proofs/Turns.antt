-- Turns as they are drawn.
use Rattle.std.proofs.Common.{◌≡◌, ◌∙◌, ◌≤◌, ℕ, zero, suc, ◌+◌, ◌-◌, true, ◌∷◌, List, [], ◌++◌, length, sym, ap, refl, arith, append_assoc, nat_lt}
use Rattle.scenario_generator.proofs.Prelude.{Drawing, DrawnTurn, after_turn, append-nil, comma_if, length-append, listed, turn_from, turn_text}
use Rattle.scenario_generator.proofs.Prelude.{turns_data, turns_from, turns_text, with_turn}
use Rattle.scenario_generator.proofs.Texts.{some_before}

pub turns_from-next : (servers x n : ℕ) → turns_from servers x (n + 1) ≡ with_turn servers (turns_from servers x n)
unfolding turns_from
turns_from-next servers x n = let e : n + 1 ≡ suc n = omega arith in ap (turns_from servers x) e

pub turns_from-count : (servers x n : ℕ) → length (turns_from servers x n).drawn ≡ n
unfolding turns_from
turns_from-count servers x zero = refl
turns_from-count servers x (suc n) = omega (arith, turns_from-count servers x n, length-append (turns_from servers x n).drawn (turn_from servers (turns_from servers x n).number ∷ []))

-- ---- their texts

turns_data-true : (ts : List DrawnTurn) (t : DrawnTurn) → listed true (turns_data (ts ++ t ∷ [])) ≡ listed true (turns_data ts) ++ (44 ∷ turn_text t)
unfolding turn_text
turns_data-true [] t = ap (λ (v : List ℕ). 44 ∷ v) (append-nil (turn_text t))
turns_data-true (u ∷ ts) t =
    ap (λ (v : List ℕ). 44 ∷ (turn_text u ++ v)) (turns_data-true ts t) ∙ ap (λ (v : List ℕ). 44 ∷ v) (sym (append_assoc (turn_text u) (listed true (turns_data ts)) (44 ∷ turn_text t)))

turns_text-more : (ts : List DrawnTurn) (t : DrawnTurn) → turns_text (ts ++ t ∷ []) ≡ turns_text ts ++ (comma_if (nat_lt 0 (length ts)) ++ turn_text t)
unfolding turns_text turn_text
turns_text-more [] t = append-nil (turn_text t)
turns_text-more (u ∷ ts) t =
    ap (λ (v : List ℕ). turn_text u ++ v) (turns_data-true ts t)
    ∙ (sym (append_assoc (turn_text u) (listed true (turns_data ts)) (44 ∷ turn_text t)) ∙ ap (λ b. turns_text (u ∷ ts) ++ (comma_if b ++ turn_text t)) (sym (some_before (length ts))))

-- a turn joins the text of those before it
pub turns_from-text : (servers x n : ℕ) → turns_text (turns_from servers x (n + 1)).drawn
    ≡ turns_text (turns_from servers x n).drawn ++ (comma_if (nat_lt 0 n) ++ turn_text (turn_from servers (turns_from servers x n).number))
turns_from-text servers x n =
    let ts = (turns_from servers x n).drawn in
    let t = turn_from servers (turns_from servers x n).number in
    ap (λ (d : Drawing DrawnTurn). turns_text d.drawn) (turns_from-next servers x n) ∙ turns_text-more ts t
    ∙ ap (λ k. turns_text ts ++ (comma_if (nat_lt 0 k) ++ turn_text t)) (turns_from-count servers x n)

-- the text of the first ones is a prefix of that of more
pub turns_from-front : (servers x n k : ℕ) → (more : List ℕ) × (turns_text (turns_from servers x (k + n)).drawn ≡ turns_text (turns_from servers x n).drawn ++ more)
turns_from-front servers x n zero =
    let same : 0 + n ≡ n = omega arith in ([], ap (λ m. turns_text (turns_from servers x m).drawn) same ∙ sym (append-nil (turns_text (turns_from servers x n).drawn)))
turns_from-front servers x n (suc k) =
    let before = turns_from-front servers x n k in
    let m = k + n in
    let last = comma_if (nat_lt 0 m) ++ turn_text (turn_from servers (turns_from servers x m).number) in
    let same : suc k + n ≡ m + 1 = omega arith in (
      before.0 ++ last,
      ap (λ i. turns_text (turns_from servers x i).drawn) same ∙ (turns_from-text servers x m
          ∙ (ap (λ (v : List ℕ). v ++ last) before.1 ∙ append_assoc (turns_text (turns_from servers x n).drawn) before.0 last)),
    )

pub turns_from-within : (servers x n count : ℕ) → n ≤ count → (more : List ℕ) × (turns_text (turns_from servers x count).drawn ≡ turns_text (turns_from servers x n).drawn ++ more)
turns_from-within servers x n count few =
    let front = turns_from-front servers x n (count - n) in
    let same : count ≡ count - n + n = omega arith in
    (front.0, ap (λ k. turns_text (turns_from servers x k).drawn) same ∙ front.1)

-- ---- one more turn

pub number_next : (servers x n number number' : ℕ) → number ≡ (turns_from servers x n).number → number' ≡ after_turn number → number' ≡ (turns_from servers x (n + 1)).number
number_next servers x n number number' same after = after ∙ (ap after_turn same ∙ sym (ap (λ (d : Drawing DrawnTurn). d.number) (turns_from-next servers x n)))

pub text_next : (servers x n number : ℕ) (t : DrawnTurn) → number ≡ (turns_from servers x n).number → t ≡ turn_from servers number
    → turns_text (turns_from servers x (n + 1)).drawn ≡ turns_text (turns_from servers x n).drawn ++ (comma_if (nat_lt 0 n) ++ turn_text t)
text_next servers x n number t same drawn =
    turns_from-text servers x n ∙ ap (λ u. turns_text (turns_from servers x n).drawn ++ (comma_if (nat_lt 0 n) ++ turn_text u)) (sym (drawn ∙ ap (turn_from servers) same))
