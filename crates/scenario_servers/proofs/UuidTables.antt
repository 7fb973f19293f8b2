-- The table of the first server of each UUID, as UUIDs are listed one after the other.
use Rattle.std.proofs.Common.{◌≡◌, ℕ, zero, suc, ◌+◌, ◌<◌, Bool, true, false, cond, List, [], ◌∷◌, ◌++◌, length, take, get_or, nat_lt, Option, Some, None, refl, sym, ap, ◌∙◌, add-zero, zero-add, arith, ◌==◌, ◌||◌, codes, if◌then◌else◌}
use Rattle.scenario_servers.proofs.Prelude.{AddsUuid, HashMap, IsUuidTable, Value, first_with, get as key_at, has_uuid, is_before, length_push}
use Rattle.scenario_servers.proofs.Prelude.{list_any, nat_tests, option_or, read_uuid, uuid_at, view}
use Rattle.scenario_servers.proofs.UuidLists.{IsUuidsTo, next_uuid}

-- ---- one more UUID

same : (u uuid : ℕ) → (u == uuid) ≡ true → u ≡ uuid
same u uuid e = grind (arith, nat_tests)

-- ---- the list

first_with-push : (uuid n : ℕ) (xs : List (Option ℕ)) (x : Option ℕ) → first_with uuid n (xs ++ x ∷ []) ≡ option_or (first_with uuid n xs) (if has_uuid uuid x then Some (n + length xs) else None)
first_with-push uuid n [] x = rw add-zero refl
first_with-push uuid n (y ∷ ys) x = first_at (has_uuid uuid y) (has_uuid uuid x) n (length ys) (first_with uuid (n + 1) (ys ++ x ∷ [])) (first_with uuid (n + 1) ys) (first_with-push uuid (n + 1) ys x)
  where
    first_at : (here last : Bool) (n rest : ℕ) (all front : Option ℕ) → all ≡ option_or front (cond last (Some (n + 1 + rest)) None)
        → cond here (Some n) all ≡ option_or (cond here (Some n) front) (cond last (Some (n + suc rest)) None)
    first_at true last n rest all front e = refl
    first_at false last n rest all front e =
        let more : n + 1 + rest ≡ n + suc rest = omega arith in
        rw more at e

-- the servers before `at` are listed and tabled
pub record IsTabledTo {S : Type 0} (vs : List Value) (at : ℕ) (listed : List (Option ℕ)) (numbers : HashMap ℕ ℕ S) : Type 0 where
  pub front : IsUuidsTo vs at listed
  pub count : length listed ≡ at
  pub tabled : IsUuidTable numbers listed

pub next_tabled : {S : Type 0} (vs : List Value) (at : ℕ) (v : Value) (x : Option ℕ) (listed after : List (Option ℕ)) (old new : HashMap ℕ ℕ S) → after ≡ listed ++ x ∷ [] → at < length vs → v ≡ get_or vs at v
    → x ≡ read_uuid (uuid_at at (key_at (codes "uuid") (view v))) → AddsUuid old new x at → IsTabledTo vs at listed old → IsTabledTo vs (at + 1) after new
next_tabled vs at v x listed after old new pushed lt here is adds so_far = record {
  front = rw pushed (next_uuid vs at v x listed lt here is so_far.front);
  count = let more : length after ≡ length listed + 1 = rw pushed (length_push listed x) in omega (arith, so_far.count);
  tabled = λ uuid. adds.found uuid ∙ sym (rw (pushed, first_with-push uuid 0 listed x, zero-add) (rw (so_far.tabled uuid, so_far.count) refl));
}

-- ---- whether an earlier server has a UUID

before_on : (o : Option ℕ) (m n : ℕ) → m ≡ n → is_before o m ≡ is_before o n
before_on o m n e = ap (is_before o) e

none_before : (uuid n : ℕ) (xs : List (Option ℕ)) → is_before (first_with uuid n xs) n ≡ false
none_before uuid n [] = refl
none_before uuid n (x ∷ xs) = at (has_uuid uuid x) (first_with uuid (n + 1) xs) (none_before uuid (n + 1) xs)
  where
    not_less : (n : ℕ) → nat_lt n n ≡ false
    not_less n = grind (arith, nat_tests)

    sinks : (o : Option ℕ) (n : ℕ) → is_before o (n + 1) ≡ false → is_before o n ≡ false
    sinks None n e = refl
    sinks (Some f) n e = grind (arith, nat_tests)

    at : (b : Bool) (o : Option ℕ) → is_before o (n + 1) ≡ false → is_before (cond b (Some n) o) n ≡ false
    at true o e = not_less n
    at false o e = sinks o n e

pub taken_before : (uuid n k : ℕ) (xs : List (Option ℕ)) → list_any (has_uuid uuid) (take k xs) ≡ is_before (first_with uuid n xs) (n + k)
taken_before uuid n zero [] = refl
taken_before uuid n (suc k) [] = refl
taken_before uuid n zero (x ∷ xs) = sym (before_on (first_with uuid n (x ∷ xs)) (n + zero) n (add-zero n) ∙ none_before uuid n (x ∷ xs))
taken_before uuid n (suc k) (x ∷ xs) = taken_at (has_uuid uuid x) (first_with uuid (n + 1) xs) (taken_before uuid (n + 1) k xs)
  where
    less : (n k : ℕ) → nat_lt n (n + suc k) ≡ true
    less n k = grind (arith, nat_tests)

    taken_at : (b : Bool) (o : Option ℕ) → list_any (has_uuid uuid) (take k xs) ≡ is_before o (n + 1 + k) → (b || list_any (has_uuid uuid) (take k xs)) ≡ is_before (cond b (Some n) o) (n + suc k)
    taken_at true o e = sym (less n k)
    taken_at false o e = e ∙ before_on o (n + 1 + k) (n + suc k) (omega arith)
