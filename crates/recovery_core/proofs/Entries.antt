-- Each entry of an analysis is that of its server.
use Rattle.std.proofs.Common.{◌≡◌, ℕ, ◌<◌, Bool, false, List, [], ◌∷◌, length, map, refl, sym, ◌∙◌, ap, subst, Option, Some, None, Result, Ok, Err, Vec, Global, arith, zero-add, ◌==◌, All, Contains, IfOk, filter, filter_map, find}
use Rattle.recovery_core.proofs.Prelude.{All-cons, All-contains, All-filter, All-found, All-head, All-map, All-nil, All-tail, AllocError, BookState}
use Rattle.recovery_core.proofs.Prelude.{Contains-get_or, Contains-permutation, Entry, Instance, IsEntryIn, IsOrder-by_name, ServerNo, action_of}
use Rattle.recovery_core.proofs.Prelude.{actionable_in, analysis, by_name, by_name-within, code_at, cons_option, entry_at, eq-eqb, eqb-true}
use Rattle.recovery_core.proofs.Prelude.{false≢true, found-passes, get_or-range_with_len, instance_at, is_asked, length-by_name}
use Rattle.recovery_core.proofs.Prelude.{length-range_with_len, none-passes, option_map, range_with_len}
use Rattle.recovery_core.proofs.Prelude.Analysis.{entry_of}

module _ (b : BookState) where
  -- an entry has its server's number
  abbrev IsEntryAt : Entry → Type 0
  IsEntryAt e = entry_at b e.no ≡ Some e

  abbrev entries : List ServerNo → List Entry
  entries xs = filter_map (entry_at b) xs

  entries-at : (xs : List ServerNo) → All IsEntryAt (entries xs)
  entries-at [] = All-nil IsEntryAt
  entries-at (n ∷ ns) = go (instance_at b n) refl (entries-at ns)
    where
      go : (o : Option Instance) → instance_at b n ≡ o → All IsEntryAt (entries ns) → All IsEntryAt (cons_option (option_map (entry_of b n) o) (entries ns))
      go None e rest = rest
      go (Some i) e rest = All-cons IsEntryAt (entry_of b n i) (entries ns) (ap (option_map (entry_of b n)) e) rest

  entries-within : (xs : List ServerNo) → All (λ (n : ServerNo). n.0 < length b.names) xs → All (λ (e : Entry). e.no.0 < length b.names) (entries xs)
  entries-within [] all = All-nil (λ (e : Entry). e.no.0 < length b.names)
  entries-within (n ∷ ns) all = go (instance_at b n) (entries-within ns (All-tail (λ (m : ServerNo). m.0 < length b.names) n ns all))
    where
      go : (o : Option Instance) → All (λ (e : Entry). e.no.0 < length b.names) (entries ns)
          → All (λ (e : Entry). e.no.0 < length b.names) (cons_option (option_map (entry_of b n) o) (entries ns))
      go None rest = rest
      go (Some i) rest =
          All-cons (λ (e : Entry). e.no.0 < length b.names) (entry_of b n i) (entries ns) (All-head (λ (m : ServerNo). m.0 < length b.names) n ns all) rest

  both : (xs : List Entry) → All IsEntryAt xs → All (λ (e : Entry). e.no.0 < length b.names) xs → All (IsEntryIn b) xs
  both [] at within = All-nil (IsEntryIn b)
  both (e ∷ es) at within =
      All-cons (IsEntryIn b) e es
      (record {
        within = All-head (λ (x : Entry). x.no.0 < length b.names) e es within;
        code = ap (option_map (λ (x : Entry). x.code)) (All-head IsEntryAt e es at);
      })
      (both es (All-tail IsEntryAt e es at) (All-tail (λ (x : Entry). x.no.0 < length b.names) e es within))

  pub analysis-entries : All (IsEntryIn b) (analysis b)
  unfolding analysis
  analysis-entries = both (entries (by_name b.names)) (entries-at (by_name b.names)) (entries-within (by_name b.names) (by_name-within b.names))

  pub actionable-entries : All (IsEntryIn b) (actionable_in b)
  actionable-entries = All-filter (λ (e : Entry). is_asked (action_of e.code)) (IsEntryIn b) (analysis b) analysis-entries

  -- so are those that are left of it
  pub asked_entries : (r : Result (Vec Entry Global) AllocError) (entries : List Entry) → entries ≡ analysis b
      → IfOk r (λ v. v.items ≡ filter (λ (e : Entry). is_asked (action_of e.code)) entries) → IfOk r (λ v. All (IsEntryIn b) v.items)
  asked_entries (Ok v) entries is left =
      subst (All (IsEntryIn b)) (sym (left ∙ ap (filter (λ (e : Entry). is_asked (action_of e.code))) is)) actionable-entries
  asked_entries (Err e) entries is left = tt

  module _ (f : ServerNo) where
    abbrev is_its : Entry → Bool
    is_its e = e.no.0 == f.0

    -- of this server there is no entry
    abbrev IsWithout : ServerNo → Type 0
    IsWithout n = n.0 ≡ f.0 → entry_at b f ≡ None

    same : (n : ServerNo) → n.0 ≡ f.0 → n ≡ f
    same n e = λ j. record { 0 = e j }

    without : (xs : List ServerNo) → All (λ (e : Entry). is_its e ≡ false) (entries xs) → All IsWithout xs
    without [] all = All-nil IsWithout
    without (n ∷ ns) all = go (instance_at b n) refl all (without ns)
      where
        go : (o : Option Instance) → instance_at b n ≡ o → All (λ (e : Entry). is_its e ≡ false) (cons_option (option_map (entry_of b n) o) (entries ns))
            → (All (λ (e : Entry). is_its e ≡ false) (entries ns) → All IsWithout ns) → All IsWithout (n ∷ ns)
        go None e every rest =
            All-cons IsWithout n ns (λ is. subst (λ (m : ServerNo). entry_at b m ≡ None) (same n is) (ap (option_map (entry_of b n)) e)) (rest every)
        go (Some i) e every rest =
            All-cons IsWithout n ns
            (λ is. absurd (false≢true (sym (All-head (λ (x : Entry). is_its x ≡ false) (entry_of b n i) (entries ns) every) ∙ eq-eqb n.0 f.0 is)))
            (rest (All-tail (λ (x : Entry). is_its x ≡ false) (entry_of b n i) (entries ns) every))

    listed : f.0 < length b.names → Contains (map (λ (n : ServerNo). n.0) (by_name b.names)) f.0
    listed within =
        let order = by_name b.names in
        let short : f.0 < length order = omega (arith, within, length-by_name b.names) in
        Contains-permutation (range_with_len 0 (length order)) (map (λ (n : ServerNo). n.0) order) f.0 (IsOrder-by_name b.names)
        (subst (Contains (range_with_len 0 (length order))) (get_or-range_with_len 0 (length order) f.0 0 short ∙ zero-add f.0)
        (Contains-get_or (range_with_len 0 (length order)) f.0 0 (omega (arith, short, length-range_with_len 0 (length order)))))

    -- the code of a server is that of its entry
    pub code_found : f.0 < length b.names → option_map (λ (e : Entry). e.code) (find is_its (analysis b)) ≡ code_at b f
    unfolding analysis
    code_found within = go (find is_its (entries (by_name b.names))) refl
      where
        go : (o : Option Entry) → find is_its (entries (by_name b.names)) ≡ o → option_map (λ (e : Entry). e.code) o ≡ code_at b f
        go None e =
            let all = without (by_name b.names) (none-passes is_its (entries (by_name b.names)) e) in
            let none : entry_at b f ≡ None =
            All-contains (λ (k : ℕ). k ≡ f.0 → entry_at b f ≡ None) (map (λ (n : ServerNo). n.0) (by_name b.names)) f.0
            (All-map (λ (k : ℕ). k ≡ f.0 → entry_at b f ≡ None) (λ (n : ServerNo). n.0) (by_name b.names) all) (listed within) refl in
            sym (ap (option_map (λ (e : Entry). e.code)) none)
        go (Some x) e =
            let at = All-found is_its IsEntryAt (entries (by_name b.names)) x (entries-at (by_name b.names)) e in
            let is = eqb-true x.no.0 f.0 (found-passes is_its (entries (by_name b.names)) x e) in
            sym (ap (option_map (λ (e : Entry). e.code)) (subst (λ (m : ServerNo). entry_at b m ≡ Some x) (same x.no is) at))
