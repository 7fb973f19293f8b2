-- Histories as parts, and back.
use Rattle.std.proofs.Common.{◌≡◌, ◌∙◌, ◌==◌, ◌≤◌, ℕ, ◌+◌, Bool, true, false, cond, List, [], ◌∷◌, ◌++◌, length, map, take, replicate, refl, sym, ap, subst, Some, All, arith, add-one, append_assoc, slice_get}
use Rattle.read_back_laws.proofs.Prelude.{All-cons, All-head, All-nil, All-tail, IsNumbered, Part, ServerNo, Txn, and_parts, append-nil, behind, count_own}
use Rattle.read_back_laws.proofs.Prelude.{eqb-true, is_like, joined_by, length-map, length-singles, listed_history, next_txn, part_of, parts_of, singles}
use Rattle.read_back_laws.proofs.Prelude.{take_at, transactions}

-- the origin and the size of a transaction
abbrev pub single_of : Txn → ServerNo × ℕ
single_of t = (t.origin, t.size)

singles-behind : (t : Txn) (ps : List Part) → singles (behind t ps) ≡ single_of t ∷ singles ps
singles-behind t [] = refl
singles-behind t (p ∷ ps) = go (is_like t p) refl
  where
    go : (b : Bool) → is_like t p ≡ b → singles (cond b (record p { count = p.count + 1 } ∷ ps) (part_of t ∷ p ∷ ps)) ≡ single_of t ∷ singles (p ∷ ps)
    go false e = refl
    go true e =
        let parts = and_parts (t.origin.0 == p.origin.0) (t.size == p.size) e in
        let origin : p.origin.0 ≡ t.origin.0 = sym (eqb-true t.origin.0 p.origin.0 parts.0) in
        let size : p.size ≡ t.size = sym (eqb-true t.size p.size parts.1) in
        let x : ServerNo × ℕ = (p.origin, p.size) in
        let same : x ≡ single_of t = λ i. (record { 0 = origin i }, size i) in
        let more : replicate (p.count + 1) x ≡ x ∷ replicate p.count x = ap (λ k. replicate k x) (add-one p.count) in
        ap (λ xs. xs ++ singles ps) more ∙ ap (λ y. y ∷ (replicate p.count x ++ singles ps)) same

pub singles-parts : (ts : List Txn) → singles (parts_of ts) ≡ map single_of ts
unfolding parts_of
singles-parts [] = refl
singles-parts (t ∷ ts) = singles-behind t (parts_of ts) ∙ ap (λ xs. single_of t ∷ xs) (singles-parts ts)

-- as many transactions as the history has
pub transactions-parts : (ts : List Txn) → transactions (parts_of ts) ≡ length ts
transactions-parts ts = sym (length-singles (parts_of ts)) ∙ ap length (singles-parts ts) ∙ length-map ts single_of

slice_get-at : (done : List Txn) (t : Txn) (ts : List Txn) → slice_get (done ++ t ∷ ts) (length done) ≡ Some t
slice_get-at [] t ts = refl
slice_get-at (d ∷ ds) t ts = slice_get-at ds t ts

joined_by-own : (done ts : List Txn) → IsNumbered (done ++ ts) → joined_by done (map single_of ts) ≡ done ++ ts
joined_by-own done [] numbered = sym (append-nil done)
joined_by-own done (t ∷ ts) numbered =
    let front : take (length done) (done ++ t ∷ ts) ≡ done = take_at done (t ∷ ts) (length done) refl in
    let seq : t.seq ≡ count_own t.origin.0 done + 1 = numbered (length done) t (slice_get-at done t ts) ∙ ap (λ xs. count_own t.origin.0 xs + 1) front in
    let next : next_txn done (single_of t) ≡ t = λ i. record { origin = t.origin; seq = sym seq i; size = t.size } in
    let whole : (done ++ t ∷ []) ++ ts ≡ done ++ t ∷ ts = append_assoc done (t ∷ []) ts in
    ap (λ u. joined_by (done ++ u ∷ []) (map single_of ts)) next
    ∙ joined_by-own (done ++ t ∷ []) ts (subst (λ xs. IsNumbered xs) (sym whole) numbered) ∙ whole

-- a history whose transactions of each origin are numbered in order is what its parts list
pub listed_history-parts : (ts : List Txn) → IsNumbered ts → listed_history (parts_of ts) ≡ ts
listed_history-parts ts numbered = ap (joined_by []) (singles-parts ts) ∙ joined_by-own [] ts numbered

-- what holds of the origin and the size of each transaction holds of each part, and no part is empty
abbrev pub OfParts : (ServerNo → ℕ → Type 0) → Part → Type 0
OfParts Q p = Q p.origin p.size × (1 ≤ p.count)

OfParts-behind : (Q : ServerNo → ℕ → Type 0) (t : Txn) (ps : List Part) → Q t.origin t.size → All (OfParts Q) ps → All (OfParts Q) (behind t ps)
OfParts-behind Q t [] here all = All-cons (OfParts Q) (part_of t) [] (here, omega arith) all
OfParts-behind Q t (p ∷ ps) here all = go (is_like t p)
  where
    go : (b : Bool) → All (OfParts Q) (cond b (record p { count = p.count + 1 } ∷ ps) (part_of t ∷ p ∷ ps))
    go true = All-cons (OfParts Q) (record p { count = p.count + 1 }) ps ((All-head (OfParts Q) p ps all).0, omega arith) (All-tail (OfParts Q) p ps all)
    go false = All-cons (OfParts Q) (part_of t) (p ∷ ps) (here, omega arith) all

pub OfParts-all : (Q : ServerNo → ℕ → Type 0) (ts : List Txn) → All (λ t. Q t.origin t.size) ts → All (OfParts Q) (parts_of ts)
unfolding parts_of
OfParts-all Q [] all = All-nil (OfParts Q)
OfParts-all Q (t ∷ ts) all =
    OfParts-behind Q t (parts_of ts) (All-head (λ (x : Txn). Q x.origin x.size) t ts all)
    (OfParts-all Q ts (All-tail (λ (x : Txn). Q x.origin x.size) t ts all))
