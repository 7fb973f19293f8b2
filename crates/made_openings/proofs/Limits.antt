-- The limits of an opening, from a test of each server and of each two.
use Rattle.std.proofs.Common.{◌≡◌, ℕ, ◌*◌, ◌<◌, ◌≤◌, inl, inr, Bool, true, List, length, sym, ◌∙◌, Some, slice_get, sum_by}
use Rattle.std.proofs.lemmas.Bool.{cases_order, false≢true}
use Rattle.orch_base.specs.Names.{same_name}
use Rattle.orch_base.proofs.SameNames.{same_name_tells}
use Rattle.openings.specs.declared.init.ServerInit.{ServerInit}
use Rattle.openings.specs.Listed.{transactions}
use Rattle.openings.specs.Opening.{opening, IsListed}
use Rattle.openings.specs.Servers.{parts_of}
use Rattle.made_openings.specs.Limits.{AreApart, AreServers}

one_name : (servers : List ServerInit) → AreApart servers → (m n : ℕ) (i j : ServerInit) → slice_get servers m ≡ Some i → slice_get servers n ≡ Some j → same_name i.settings.name j.settings.name ≡ true → m ≡ n
one_name servers apart m n i j mi nj same = elim (cases_order m n) [
  | inl equal ↦ equal
  | inr (inl less) ↦ absurd (false≢true (sym (apart m n i j less mi nj).names ∙ same))
  | inr (inr more) ↦ (
      let names = (same_name_tells i.settings.name j.settings.name).0 same in
      let back : same_name j.settings.name i.settings.name ≡ true = (same_name_tells j.settings.name i.settings.name).1 (sym names) in
      absurd (false≢true (sym (apart n m j i more nj mi).names ∙ back)))
]

one_uuid : (servers : List ServerInit) → AreApart servers → (m n : ℕ) (i j : ServerInit) → slice_get servers m ≡ Some i → slice_get servers n ≡ Some j → i.settings.uuid ≡ j.settings.uuid → m ≡ n
one_uuid servers apart m n i j mi nj same = elim (cases_order m n) [
  | inl equal ↦ equal
  | inr (inl less) ↦ absurd ((apart m n i j less mi nj).uuids same)
  | inr (inr more) ↦ absurd ((apart n m j i more nj mi).uuids (sym same))
]

pub listed-from_tests : (servers : List ServerInit) (gtid : Bool) → 0 < length servers → length servers ≤ 1000 → length servers * sum_by (λ i. transactions (parts_of i)) servers ≤ 4000000
    → AreServers gtid servers → AreApart servers → IsListed (opening servers gtid)
listed-from_tests servers gtid some few listed each apart = record {
  some = some;
  few = few;
  listed = listed;
  each = each;
  names = one_name servers apart;
  uuids = one_uuid servers apart;
}
