use Rattle.std.proofs.Common.{ℕ, ◌<◌, ◌≤◌, List, sym, ◌∙◌, ap, subst, arith, All}
use Rattle.instance_keeper.specs.KeptRows.Rows.{IsRising}
use Rattle.instance_keeper.specs.KeptRows.declared.recovery.Recovery.{Recovery}
use Rattle.audit_log.specs.Audits.{longest_block, IsAudit}
use Rattle.audit_log.specs.Loading.{recoveries_in}
use Rattle.leaf_tests.proofs.audit.loaded.Goals as goal

abbrev IsInRange : ℕ → Recovery → Type 0
IsInRange next r = (1 ≤ r.id) × (r.id < next) × (r.block ≤ longest_block)

pub make-audit-requires : goal.make-audit-requires
make-audit-requires c =
    let rows = c.in_ok-rows.rows.items in
    let list = c.in_ok-list.ensures ∙ ap (recoveries_in (λ cluster. c.args.period)) c.deref.ensures.value in
    let rising = subst IsRising (sym c.in_ok-rows.ensures) (c.last_row_stands.ensures.rising c.args.rows.items) in
    let all = subst (All (IsInRange c.args.next)) (c.deref-else-next-eq0.ensures.value ∙ list) (c.are_in_range.ensures.0 c.if-not-are_in_range.false) in
    subst (λ (xs : List Recovery). IsAudit (record { recoveries = xs; next = c.args.next })) (sym list)
    (c.kept_recoveries_make_an_audit.ensures (λ cluster. c.args.period) rows c.args.next rising (omega (arith, c.if-next-eq0.false)) all)
