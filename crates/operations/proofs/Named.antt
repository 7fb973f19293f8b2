-- A turn of a job names servers that are there, and leaves its number and its bound.
use Rattle.std.proofs.Common.{◌≡◌, ℕ, ◌<◌, ◌^◌, true, subst, List, [], ◌∷◌, refl, sym, IfSome}
use Rattle.operations.proofs.Prelude.{All, All-cons, All-nil, Deed, IsInRange, IsNamed, Job, Moment, Op, World, and_parts, are_named, change_of}
use Rattle.operations.proofs.Prelude.{deed_of, is_named, ltb-true, turned}
use Rattle.operations.proofs.Prelude.deed
use Rattle.operations.proofs.Changing.{ChangesOf, StaysOf, turn-stays}
use Rattle.operations.proofs.Left.{turn-left}
use Rattle.operations.proofs.Ending.{turn-moves}

ops-after : (count : ℕ) (w : World) (read : ℕ) (now : Moment) (j : Job) → are_named count j.ops ≡ true → are_named count (turned w read now j).job.ops ≡ true
ops-after count w read now j h =
    turn-left (λ ops. are_named count ops ≡ true) refl (λ op ops all. (and_parts (is_named count (deed_of op)) (are_named count ops) all).1) w read now j h

module _ (count : ℕ) where
  abbrev IsThere : ℕ → Type 0
  IsThere n = n < count

  change-there : (d : Deed) → is_named count d ≡ true → IfSome (change_of d) (λ n. n.0 < count)
  change-there (deed.Request n a) h = ltb-true n.0 count h
  change-there (deed.Until n to) h = ltb-true n.0 count h
  change-there (deed.Cross c a b) h = ltb-true a.0 count h
  change-there (deed.Same n) h = ltb-true n.0 count h
  change-there (deed.Auto n m) h = ltb-true n.0 count h
  change-there (deed.CrossMatch n m) h = ltb-true n.0 count h
  change-there _ h = tt

  changes-there : (ops : List Op) → are_named count ops ≡ true → All (ChangesOf IsThere) ops
  changes-there [] h = All-nil (ChangesOf IsThere)
  changes-there (op ∷ ops) h =
      let parts = and_parts (is_named count (deed_of op)) (are_named count ops) h in
      All-cons (ChangesOf IsThere) op ops (change-there (deed_of op) parts.0) (changes-there ops parts.1)

module _ (count : ℕ) (w : World) (read : ℕ) (now : Moment) (j : Job) (named : IsNamed count j) where
  stays-there : StaysOf (IsThere count) j.id (turned w read now j)
  stays-there = turn-stays (IsThere count) w read now j (changes-there count j.ops named.ops) named.hands

  pub named-after : IsNamed count (turned w read now j).job
  named-after = record { ops = ops-after count w read now j named.ops; hands = stays-there.hands }

  pub id-after : (turned w read now j).job.id ≡ j.id
  id-after = stays-there.id

pub range-after : (count : ℕ) (w : World) (read : ℕ) (now : Moment) (j : Job) → IsInRange count j → IsInRange count (turned w read now j).job
range-after count w read now j is =
    let moves = turn-moves w read now j is.waited in
    record {
      id = subst (λ (n : ℕ). n < 2 ^ 64) (sym (id-after count w read now j is.named)) is.id;
      wait = subst (λ (n : ℕ). n < 2 ^ 32) (sym moves.wait) is.wait;
      waited = moves.waited;
      named = named-after count w read now j is.named;
    }
