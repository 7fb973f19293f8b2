-- The lines of nodes.
use Rattle.std.proofs.Common.{◌≡◌, ℕ, ◌+◌, ◌-◌, ◌<◌, ◌≤◌, Bool, true, false, cond, List, [], ◌∷◌, ◌++◌, length, get_or, map, take, drop, Bor, Option, None, Some, not, refl, sym, ap, ◌∙◌, append_assoc, append-nil, suc, zero, arith, filter, filter_map}
use Rattle.std.specs.List.{cons_option, flat_map, range_with_len}
use Rattle.std.specs.Option.{option_to_list}
use Rattle.std.proofs.lemmas.List.{take_more, take_all, drop_all, length-drop}
use Rattle.std.proofs.lemmas.List.Elements.{filter-append, filter_map-append}
use Rattle.std.proofs.lemmas.Grind.{flat_map-append}
use Rattle.std.proofs.Math.Seq.{drop-cons}
use Rattle.commands.specs.declared.line.Line.{Line}
use Rattle.commands.specs.declared.line.Line.TheVariants as line
use Rattle.asking_commands.specs.Labels.{each_once, is_again}

cons-list : (o : Option Line) → cons_option o [] ≡ option_to_list o
cons-list None = refl
cons-list (Some x) = refl

-- one more node
pub nodes-more : (f : ℕ × ℕ → Option Line) (before : List Line) (nodes : List (ℕ × ℕ)) (k : ℕ) (d : ℕ × ℕ) → k < length nodes
    → (before ++ filter_map f (take k nodes)) ++ option_to_list (f (get_or nodes k d)) ≡ before ++ filter_map f (take (k + 1) nodes)
nodes-more f before nodes k d within =
    append_assoc before (filter_map f (take k nodes)) (option_to_list (f (get_or nodes k d)))
    ∙ ap (λ (xs : List Line). before ++ (filter_map f (take k nodes) ++ xs)) (sym (cons-list (f (get_or nodes k d))))
    ∙ ap (λ (xs : List Line). before ++ xs) (sym (filter_map-append f (take k nodes) (get_or nodes k d ∷ [])) ∙ ap (filter_map f) (sym (take_more nodes k d within)))

abbrev pub seen : Bor (List ℕ) → List ℕ
seen label = label.now

-- the labels from a place on, its own first
once-next : (labels : List (Bor (List ℕ))) (k : ℕ) (label : Bor (List ℕ)) → label ≡ get_or labels k label → k < length labels
    → each_once (map seen (drop k labels)) ≡ cond (is_again label.now (map seen (drop (k + 1) labels))) (each_once (map seen (drop (k + 1) labels))) (label.now ∷ each_once (map seen (drop (k + 1) labels)))
once-next labels k label at within =
    let next : suc k ≡ k + 1 = omega arith in
    let here : drop k labels ≡ label ∷ drop (k + 1) labels =
    drop-cons labels k label within ∙ ap (λ (x : Bor (List ℕ)). x ∷ drop (suc k) labels) (sym at) ∙ ap (λ (i : ℕ). label ∷ drop i labels) next in
    ap (λ (xs : List (Bor (List ℕ))). each_once (map seen xs)) here

pub last-more : (before : List Line) (labels : List (Bor (List ℕ))) (k : ℕ) (label : Bor (List ℕ)) → label ≡ get_or labels k label → k < length labels
    → not (is_again label.now (map seen (drop (k + 1) labels))) ≡ true
    → (before ++ line.Cluster label.now ∷ []) ++ map line.Cluster (each_once (map seen (drop (k + 1) labels))) ≡ before ++ map line.Cluster (each_once (map seen (drop k labels)))
last-more before labels k label at within last =
    append_assoc before (line.Cluster label.now ∷ []) (map line.Cluster (each_once (map seen (drop (k + 1) labels)))) ∙ ap (λ (xs : List (List ℕ)). before ++ map line.Cluster xs) (sym (once-next labels k label at within ∙ by_test (is_again label.now (map seen (drop (k + 1) labels))) last))
  where
    by_test : (again : Bool) → not again ≡ true → cond again (each_once (map seen (drop (k + 1) labels))) (label.now ∷ each_once (map seen (drop (k + 1) labels))) ≡ label.now ∷ each_once (map seen (drop (k + 1) labels))
    by_test true e = cc
    by_test false e = refl

pub again-more : (before : List Line) (labels : List (Bor (List ℕ))) (k : ℕ) (label : Bor (List ℕ)) → label ≡ get_or labels k label → k < length labels
    → not (is_again label.now (map seen (drop (k + 1) labels))) ≡ false
    → before ++ map line.Cluster (each_once (map seen (drop (k + 1) labels))) ≡ before ++ map line.Cluster (each_once (map seen (drop k labels)))
again-more before labels k label at within again =
    ap (λ (xs : List (List ℕ)). before ++ map line.Cluster xs) (sym (once-next labels k label at within ∙ by_test (is_again label.now (map seen (drop (k + 1) labels))) again))
  where
    by_test : (again : Bool) → not again ≡ false → cond again (each_once (map seen (drop (k + 1) labels))) (label.now ∷ each_once (map seen (drop (k + 1) labels))) ≡ each_once (map seen (drop (k + 1) labels))
    by_test true e = refl
    by_test false e = cc

range-more : (a n : ℕ) → range_with_len a (suc n) ≡ range_with_len a n ++ (a + n) ∷ []
range-more a zero = let same : a ≡ a + 0 = omega arith in ap (λ (i : ℕ). i ∷ []) same
range-more a (suc n) =
    let same : (a + 1) + n ≡ a + suc n = omega arith in
    ap (λ (xs : List ℕ). a ∷ xs) (range-more (a + 1) n ∙ ap (λ (i : ℕ). range_with_len (a + 1) n ++ i ∷ []) same)

-- one more node: its tree if it passes
pub trees-more : (tree : ℕ → List Line) (passes : ℕ → Bool) (place : ℕ) (passed : Bool) → passed ≡ passes place
    → flat_map tree (filter passes (range_with_len 0 (place + 1))) ≡ flat_map tree (filter passes (range_with_len 0 place)) ++ cond passed (tree place) []
trees-more tree passes place passed test =
    let next : place + 1 ≡ suc place = omega arith in
    let same : 0 + place ≡ place = omega arith in
    ap (λ (n : ℕ). flat_map tree (filter passes (range_with_len 0 n))) next
    ∙ ap (λ (xs : List ℕ). flat_map tree (filter passes xs)) (range-more 0 place ∙ ap (λ (i : ℕ). range_with_len 0 place ++ i ∷ []) same)
    ∙ ap (flat_map tree) (filter-append passes (range_with_len 0 place) (place ∷ []))
    ∙ flat_map-append tree (filter passes (range_with_len 0 place)) (filter passes (place ∷ []))
    ∙ ap (λ (xs : List Line). flat_map tree (filter passes (range_with_len 0 place)) ++ xs) (one (passes place) ∙ ap (λ (b : Bool). cond b (tree place) []) (sym test))
  where
    one : (b : Bool) → flat_map tree (cond b (place ∷ []) []) ≡ cond b (tree place) []
    one true = append-nil (tree place)
    one false = refl

-- a slice from a place on
pub rest_of : {X : Type 0} (xs : List X) (k : ℕ) → take (length xs - k) (drop k xs) ≡ drop k xs
rest_of xs k = take_all (length xs - k) (drop k xs) (omega (arith, length-drop k xs))

-- after the last place
pub all-once : (lines : List Line) (labels : List (Bor (List ℕ))) (k : ℕ) → length labels ≤ k
    → lines ++ map line.Cluster (each_once (map seen (drop k labels))) ≡ map line.Cluster (each_once (map seen labels)) → lines ≡ map line.Cluster (each_once (map seen labels))
all-once lines labels k past so_far =
    sym (append-nil lines) ∙ ap (λ (xs : List (Bor (List ℕ))). lines ++ map line.Cluster (each_once (map seen xs))) (sym (drop_all k labels past)) ∙ so_far
