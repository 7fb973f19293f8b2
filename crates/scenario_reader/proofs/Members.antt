-- Taking a member out of an object.
use Rattle.std.proofs.Common.{◌≡◌, ℕ, List, [], ◌∷◌, Some, String, string_bytes, cond, refl, sym, ap, ◌∙◌}
use Rattle.std.specs.BTreeMap.{is_at}
use Rattle.std.specs.Ordering.{is_eq, match_ordering, nat_cmp}
use Rattle.std.specs.declared.alloc.Global.{Global}
use Rattle.std.specs.declared.cmp.Ordering.{Ordering}
use Rattle.std.specs.declared.cmp.Ordering.TheVariants.{Equal, Greater, Less}
use Rattle.scenario_reader.proofs.Prelude.{Value, bytes_eq-Decides, get_member, is_eq-slice_cmp, member_later, remove_entry, slice_cmp, view}
use Rattle.serde_json.specs.View.{members_view}

abbrev pub Entry : Type 0
Entry = String Global × Value

stays_at : (o : Ordering) (name other : List ℕ) (e : Entry) (es rest : List Entry) → slice_cmp nat_cmp name (string_bytes e.0) ≡ o → (name ≡ other → ⊥) → get_member other (members_view rest) ≡ get_member other (members_view es)
    → get_member other (members_view (cond (is_eq o) es (e ∷ rest))) ≡ get_member other (members_view (e ∷ es))
stays_at Less name other e es rest is apart later = ap (λ r. match_ordering (slice_cmp nat_cmp other (string_bytes e.0)) r (Some (view e.1)) r) later
stays_at Equal name other e es rest is apart later =
    let same : name ≡ string_bytes e.0 = (bytes_eq-Decides name (string_bytes e.0)).0 (sym (is_eq-slice_cmp name (string_bytes e.0)) ∙ ap is_eq is) in
    sym (member_later other e es (λ here. apart (same ∙ sym here)))
stays_at Greater name other e es rest is apart later = ap (λ r. match_ordering (slice_cmp nat_cmp other (string_bytes e.0)) r (Some (view e.1)) r) later

-- the members of other names stay
pub others_stay : (name other : List ℕ) (es : List Entry) → (name ≡ other → ⊥) → get_member other (members_view (remove_entry (is_at (λ k. slice_cmp nat_cmp name (string_bytes k))) es)) ≡ get_member other (members_view es)
others_stay name other [] apart = refl
others_stay name other (e ∷ es) apart = stays_at _ name other e es _ refl apart (others_stay name other es apart)
