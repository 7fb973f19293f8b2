-- Recoveries that begin in turn: how far they have begun.
use Rattle.std.proofs.Common.{◌≡◌, ◌∙◌, ℕ, ◌+◌, ◌-◌, ◌<◌, ◌≤◌, ◌^◌, List, [], ◌∷◌, ◌++◌, length, map, append_assoc, sym, ap, subst, arith}
use Rattle.std.proofs.lemmas.List.{append-nil}
use Rattle.std.proofs.lemmas.List.Elements.{All-head, All-tail}
use Rattle.command_outcomes.specs.RecoveryCore.Begun.{BeginInTurn, CanBegin}
use Rattle.command_outcomes.specs.RecoveryCore.Scans.{HasRoom}
use Rattle.command_outcomes.specs.RecoveryCore.Tries.{Begins}
use Rattle.command_outcomes.specs.UnendedJobs.declared.unended.Unended.{Unended}
use Rattle.command_outcomes.specs.declared.command.Update.TheVariants as update
use Rattle.knowledge.specs.Knowing.{Knowledge, recovery_job, updated}

-- one more, and then the others
pub joined : (jobs : List Unended) (x : Begins) (xs : List Begins) → (jobs ++ recovery_job x ∷ []) ++ map recovery_job xs ≡ jobs ++ map recovery_job (x ∷ xs)
joined jobs x xs = append_assoc jobs (recovery_job x ∷ []) (map recovery_job xs)

-- those that are left lead from here to what all lead to from the start, and there is room for them
pub record Remains (all : List Begins) (from : Knowledge) (xs : List Begins) (k : Knowledge) (spare len cap : ℕ) : Type 0 where
  pub can : BeginInTurn (length k.book.names) k.book.leases k.audit k.last_job xs
  pub ids : HasRoom xs
  pub room : len + length xs ≤ cap
  pub few : length xs ≤ spare
  pub leads : updated k (update.Recovers xs) ≡ updated from (update.Recovers all)

module _ (all : List Begins) (from : Knowledge) where
  module _ (ys : List Begins) (x : Begins) (xs : List Begins) (first : ys ≡ x ∷ xs) (k : Knowledge) (spare len cap : ℕ) (left : Remains all from ys k spare len cap) where
    here : Remains all from (x ∷ xs) k spare len cap
    here = subst (λ (zs : List Begins). Remains all from zs k spare len cap) first left

    pub next-can : CanBegin (length k.book.names) k.book.leases k.audit k.last_job x
    next-can = here.can.0

    pub next-fits : x.entry.id < 2 ^ 64 - 1
    next-fits = All-head (λ (y : Begins). y.entry.id < 18446744073709551615) x xs here.ids

    pub next-room : len < cap
    next-room = let room = here.room in omega (arith, room)

    pub next-spare : 1 ≤ spare
    next-spare = let few = here.few in omega (arith, few)

    -- one more has begun
    pub Remains-next : (now : Knowledge) (spare' len' cap' : ℕ) → now ≡ updated k (update.Recovers (x ∷ [])) → spare' + 1 ≡ spare → len' ≡ len + 1 → cap' ≡ cap → Remains all from xs now spare' len' cap'
    Remains-next now spare' len' cap' begins fewer more same =
        let one : Knowledge = updated k (update.Recovers (x ∷ [])) in
        let room = here.room in
        let few = here.few in
        let on : updated one (update.Recovers xs) ≡ updated k (update.Recovers (x ∷ xs)) = ap (λ (js : List Unended). record (updated k (update.Recovers (x ∷ xs))) { jobs = js }) (joined k.jobs x xs) in
        record {
          can = subst (λ (y : Knowledge). BeginInTurn (length y.book.names) y.book.leases y.audit y.last_job xs) (sym begins) here.can.1;
          ids = All-tail (λ (y : Begins). y.entry.id < 18446744073709551615) x xs here.ids;
          room = omega (arith, room, more, same);
          few = omega (arith, few, fewer);
          leads = ap (λ (y : Knowledge). updated y (update.Recovers xs)) begins ∙ on ∙ here.leads;
        }

  -- all have begun
  pub all-begun : (ys : List Begins) → ys ≡ [] → (k : Knowledge) (spare len cap : ℕ) → Remains all from ys k spare len cap → k ≡ updated from (update.Recovers all)
  all-begun ys none k spare len cap left =
      let past : Remains all from [] k spare len cap = subst (λ (zs : List Begins). Remains all from zs k spare len cap) none left in
      ap (λ (js : List Unended). record k { jobs = js }) (sym (append-nil k.jobs)) ∙ past.leads
