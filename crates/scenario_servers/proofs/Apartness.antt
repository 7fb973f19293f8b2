-- Servers that differ from all before them differ from all others.
use Rattle.std.proofs.Common.{◌≡◌, ℕ, ◌<◌, ◌≤◌, inl, inr, Bool, true, List, length, sym, ◌∙◌, Some, slice_get}
use Rattle.scenario_servers.proofs.Prelude.{IsApart, IsGiven, IsServer, ServerInit, cases_order, false≢true, same_name, same_name_tells}

abbrev AllApart : List ServerInit → Type 0
AllApart servers = (m n : ℕ) (i j : ServerInit) → m < n → slice_get servers m ≡ Some i → slice_get servers n ≡ Some j → IsApart i j

one_name : (servers : List ServerInit) → AllApart servers → (m n : ℕ) (i j : ServerInit) → slice_get servers m ≡ Some i → slice_get servers n ≡ Some j → same_name i.settings.name j.settings.name ≡ true → m ≡ n
one_name servers apart m n i j mi nj same = elim (cases_order m n) [
  | inl equal ↦ equal
  | inr (inl less) ↦ absurd (false≢true (sym (apart m n i j less mi nj).names ∙ same))
  | inr (inr more) ↦ (
      let names = (same_name_tells i.settings.name j.settings.name).0 same in
      let back : same_name j.settings.name i.settings.name ≡ true = (same_name_tells j.settings.name i.settings.name).1 (sym names) in
      absurd (false≢true (sym (apart n m j i more nj mi).names ∙ back)))
]

one_uuid : (servers : List ServerInit) → AllApart servers → (m n : ℕ) (i j : ServerInit) → slice_get servers m ≡ Some i → slice_get servers n ≡ Some j → i.settings.uuid ≡ j.settings.uuid → m ≡ n
one_uuid servers apart m n i j mi nj same = elim (cases_order m n) [
  | inl equal ↦ equal
  | inr (inl less) ↦ absurd ((apart m n i j less mi nj).uuids same)
  | inr (inr more) ↦ absurd ((apart n m j i more nj mi).uuids (sym same))
]

pub given-from_apart : (gtid : Bool) (servers : List ServerInit) → 0 < length servers → length servers ≤ 1000
    → ((n : ℕ) (i : ServerInit) → slice_get servers n ≡ Some i → IsServer (length servers) gtid i) → AllApart servers → IsGiven gtid servers
given-from_apart gtid servers some few each apart = record {
  some = some;
  few = few;
  each = each;
  names = one_name servers apart;
  uuids = one_uuid servers apart;
}
