-- Parts of histories, one transaction after another.
use Rattle.scenarios.proofs.OpeningsProofs.Agreements.{eqb-swap as flipped}
use Rattle.scenario_dump.proofs.Prelude.{Data, Part, Txn, and_parts as both, behind, comma_if, compact_text, drop_all, eqb-true}
use Rattle.scenario_dump.proofs.Prelude.{is_like, items_of, items_text, list_data, part_of, parts_of, slice_get-drop}
use Rattle.std.proofs.Common.{◌≡◌, ◌∙◌, ◌==◌, ◌≤◌, ℕ, ◌+◌, Bool, true, false, ◌&&◌, ◌∷◌, List, [], ◌++◌, length, drop, sym, ap, ap₂, refl, arith, append_assoc, Some, if◌then◌else◌, slice_get}

-- a part before others: the first of them joins it if it is like it
abbrev alike : Part → Part → Bool
alike p q = p.origin.0 == q.origin.0 && p.size == q.size

abbrev pub merged : Part → List Part → List Part
merged p [] = p ∷ []
merged p (q ∷ qs) = if alike p q then record p { count = p.count + q.count } ∷ qs else p ∷ q ∷ qs

alike_flipped : (a b c d : ℕ) → (a == b && c == d) ≡ (b == a && d == c)
alike_flipped a b c d = ap₂ (λ (x y : Bool). x && y) (flipped a b) (flipped c d)

-- the fields of a transaction that is like a part
fields : (t : Txn) (p : Part) → is_like t p ≡ true → (t.origin.0 ≡ p.origin.0) × (t.size ≡ p.size)
fields t p like = let e = both (t.origin.0 == p.origin.0) (t.size == p.size) like in (eqb-true _ _ e.0, eqb-true _ _ e.1)

pub merged_one : (t : Txn) (ps : List Part) → merged (part_of t) ps ≡ behind t ps
merged_one t [] = refl
merged_one t (p ∷ ps) = go (is_like t p) refl
  where
    go : (b : Bool) → is_like t p ≡ b → merged (part_of t) (p ∷ ps) ≡ behind t (p ∷ ps)
    go true e =
        let f = fields t p e in
        let n : 1 + p.count ≡ p.count + 1 = omega arith in
        rw e (rw (f.0, f.1, n) refl)
    go false e = rw e refl

pub merged_like : (run : Part) (t : Txn) (ps : List Part) → is_like t run ≡ true → merged run (behind t ps) ≡ merged (record run { count = run.count + 1 }) ps
merged_like run t [] like = rw (alike_flipped run.origin.0 t.origin.0 run.size t.size, like) refl
merged_like run t (q ∷ qs) like = go (is_like t q) refl
  where
    f : (t.origin.0 ≡ run.origin.0) × (t.size ≡ run.size)
    f = fields t run like

    same : alike run q ≡ is_like t q
    same = ap₂ (λ (a b : ℕ). a == q.origin.0 && b == q.size) (sym f.0) (sym f.1)

    go : (b : Bool) → is_like t q ≡ b → merged run (behind t (q ∷ qs)) ≡ merged (record run { count = run.count + 1 }) (q ∷ qs)
    go true e =
        let there : alike run q ≡ true = same ∙ e in
        let n : run.count + (q.count + 1) ≡ run.count + 1 + q.count = omega arith in
        rw e (rw there (rw n refl))
    go false e =
        let there : alike run q ≡ false = same ∙ e in
        rw e (rw (there, alike_flipped run.origin.0 t.origin.0 run.size t.size, like) refl)

pub merged_unlike : (run : Part) (t : Txn) (ps : List Part) → is_like t run ≡ false → merged run (behind t ps) ≡ run ∷ merged (part_of t) ps
merged_unlike run t [] unlike = rw (alike_flipped run.origin.0 t.origin.0 run.size t.size, unlike) refl
merged_unlike run t (q ∷ qs) unlike = go (is_like t q) refl
  where
    go : (b : Bool) → is_like t q ≡ b → merged run (behind t (q ∷ qs)) ≡ run ∷ merged (part_of t) (q ∷ qs)
    go true e =
        let f = fields t q e in
        let there : alike run q ≡ false = alike_flipped run.origin.0 q.origin.0 run.size q.size ∙ (ap₂ (λ (a b : ℕ). a == run.origin.0 && b == run.size) (sym f.0) (sym f.1) ∙ unlike) in
        rw (merged_one t (q ∷ qs)) (rw e (rw there refl))
    go false e = rw (merged_one t (q ∷ qs)) (rw e (rw (alike_flipped run.origin.0 t.origin.0 run.size t.size, unlike) refl))

pub parts_at : (ts : List Txn) (k : ℕ) (t : Txn) → slice_get ts k ≡ Some t → parts_of (drop k ts) ≡ behind t (parts_of (drop (k + 1) ts))
unfolding parts_of
parts_at ts k t there = ap parts_of (slice_get-drop ts k t there)

-- ---- what is still to come of a history after some transactions

pub history_begins : (f : Part → Data) (ts : List Txn) (t : Txn) (run : Part) (old new : List ℕ) → slice_get ts 0 ≡ Some t → run ≡ part_of t → new ≡ old ++ 91 ∷ []
    → new ++ items_text false (items_of f (merged run (parts_of (drop 1 ts)))) ≡ old ++ compact_text (list_data f (parts_of ts))
history_begins f ts t run old new there is e =
    let whole : merged run (parts_of (drop 1 ts)) ≡ parts_of ts = ap (λ p. merged p (parts_of (drop 1 ts))) is ∙ (merged_one t (parts_of (drop 1 ts)) ∙ sym (parts_at ts 0 t there)) in
    ap₂ (λ (v : List ℕ) ps. v ++ items_text false (items_of f ps)) e whole ∙ append_assoc old (91 ∷ []) (items_text false (items_of f (parts_of ts)))

pub history_joins : (f : Part → Data) (ts : List Txn) (k : ℕ) (t : Txn) (run run' : Part) (later : Bool) (out whole : List ℕ) → slice_get ts k ≡ Some t → is_like t run ≡ true → run' ≡ record run { count = run.count + 1 }
    → out ++ items_text later (items_of f (merged run (parts_of (drop k ts)))) ≡ whole → out ++ items_text later (items_of f (merged run' (parts_of (drop (k + 1) ts)))) ≡ whole
history_joins f ts k t run run' later out whole there like is before =
    let same : merged run' (parts_of (drop (k + 1) ts)) ≡ merged run (parts_of (drop k ts)) =
    ap (λ p. merged p (parts_of (drop (k + 1) ts))) is ∙ (sym (merged_like run t (parts_of (drop (k + 1) ts)) like) ∙ ap (merged run) (sym (parts_at ts k t there))) in
    ap (λ ps. out ++ items_text later (items_of f ps)) same ∙ before

part_printed : (f : Part → Data) (p : Part) (ps : List Part) (later : Bool) (out new : List ℕ) → new ≡ out ++ (comma_if later ++ compact_text (f p)) → new ++ items_text true (items_of f ps) ≡ out ++ items_text later (items_of f (p ∷ ps))
part_printed f p ps later out new e = simp (e, append_assoc)

pub history_turns : (f : Part → Data) (ts : List Txn) (k : ℕ) (t : Txn) (run run' : Part) (later : Bool) (out new whole : List ℕ) → slice_get ts k ≡ Some t → is_like t run ≡ false → run' ≡ part_of t → new ≡ out ++ (comma_if later ++ compact_text (f run))
    → out ++ items_text later (items_of f (merged run (parts_of (drop k ts)))) ≡ whole → new ++ items_text true (items_of f (merged run' (parts_of (drop (k + 1) ts)))) ≡ whole
history_turns f ts k t run run' later out new whole there unlike is e before =
    let more = merged run' (parts_of (drop (k + 1) ts)) in
    let same : run ∷ more ≡ merged run (parts_of (drop k ts)) =
    ap (λ p. run ∷ merged p (parts_of (drop (k + 1) ts))) is ∙ (sym (merged_unlike run t (parts_of (drop (k + 1) ts)) unlike) ∙ ap (merged run) (sym (parts_at ts k t there))) in
    part_printed f run more later out new e ∙ (ap (λ ps. out ++ items_text later (items_of f ps)) same ∙ before)

pub history_ends : (f : Part → Data) (ts : List Txn) (k : ℕ) (run : Part) (later : Bool) (out mid new whole : List ℕ) → length ts ≤ k → mid ≡ out ++ (comma_if later ++ compact_text (f run)) → new ≡ mid ++ 93 ∷ []
    → out ++ items_text later (items_of f (merged run (parts_of (drop k ts)))) ≡ whole → new ≡ whole
unfolding parts_of
history_ends f ts k run later out mid new whole all e ends before = ends ∙ (part_printed f run [] later out mid e ∙ (ap (λ us. out ++ items_text later (items_of f (merged run (parts_of us)))) (sym (drop_all k ts all)) ∙ before))

pub history_none : (f : Part → Data) (ts : List Txn) → length ts ≡ 0 → compact_text (list_data f (parts_of ts)) ≡ 91 ∷ 93 ∷ []
unfolding parts_of
history_none f [] none = refl
history_none f (t ∷ ts) none = absurd (omega (arith, none))
