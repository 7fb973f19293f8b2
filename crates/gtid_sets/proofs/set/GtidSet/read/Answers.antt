use Rattle.std.proofs.Common.{◌≡◌, ℕ, List, Ok, rules, sym, ap, subst, ◌∙◌}
use Rattle.gtid_sets.proofs.Prelude.{HasThose, Interval, IsSet, on_line, text_at}
use Rattle.gtid_sets.proofs.Points.{gathered_holds}
use Rattle.gtid_sets.proofs.set.GtidSet.read.Goals as goal

pub returns-in_ok-set-in-Ok-clause-reads : goal.returns-in_ok-set-in-Ok-clause-reads
returns-in_ok-set-in-Ok-clause-reads c =
    let set = c.in_ok-set-in-Ok.set in
    let found = c.in-Ok.found.items in
    let is : IsSet set = search rules in
    let read : text_at c.args.text.now ≡ Ok found = ap text_at (sym c.as_bytes.ensures.value) ∙ c.in-Ok.ensures.is in
    let same : (x : ℕ) → on_line set x ≡ on_line found x =
    λ x. ap (λ (ys : List Interval). on_line ys x) c.in_ok-set-in-Ok.ensures ∙ (c.in_ok-made-in-Ok.ensures x ∙ ap (λ (ys : List Interval). on_line ys x) c.deref.ensures.value) in
    subst (HasThose set) (sym read) (gathered_holds found set c.in-Ok.ensures.each is same)
