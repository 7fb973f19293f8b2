use Rattle.std.proofs.Common.{◌≡◌, ◌∙◌, ap, sym, subst, true, List, ◌+◌, Some, length, refl, slice_get, is_some, not}
use Rattle.opening_checks.proofs.Prelude.{IsTable, Link, not_kin, slice_get_read}
use Rattle.opening_checks.proofs.KinTables.{first_met-on, lists-after, lists-here, not_kin-kin, not_kin-skip, source-there, IsTable-skip}
use Rattle.opening_checks.proofs.kin.first_not_kin.Goals.{then-is_none+in_ok-is_kin+else-not-is_kin, else-is_none}
use Rattle.opening_checks.proofs.kin.first_not_kin.Goals as goal

pub loop-n-preserved : goal.loop-n-preserved
loop-n-preserved c =
    let servers = c.args.servers.now in
    let n = c.loop-n.n in
    let init = c.index-servers-n.result in
    let there : slice_get servers n ≡ Some init = slice_get_read servers (length servers) n init refl c.loop-n-test.true c.index-servers-n.is in
    elim c.if-is_none.branch [
      | then-is_none+in_ok-is_kin+else-not-is_kin w ↦ (
        first_met-on (not_kin servers) servers n init there (not_kin-kin servers n init (sym w.in_ok-is_kin.ensures.kin ∙ w.if-not-is_kin.false)) ∙ c.loop-n.invariant.0,
        λ more. subst (λ (rows : List (List Link)). IsTable servers (n + 1) rows) (sym w.table-is) (w.in_ok-is_kin.ensures.table w.if-not-is_kin.false (w.lists_more-more.ensures ∙ more)),
      )
      | else-is_none w ↦ (
          let some : is_some init.source ≡ true = c.is_none.ensures ∙ ap not w.if-is_none.false in
          let source = source-there init some in (
            first_met-on (not_kin servers) servers n init there (not_kin-skip servers n init source.0 source.1) ∙ c.loop-n.invariant.0,
            λ more. subst (λ (rows : List (List Link)). IsTable servers (n + 1) rows) (sym w.table-is)
                (IsTable-skip servers n c.loop-n.table init source.0 there source.1 (c.loop-n.invariant.1 (lists-after servers n init source.0 there source.1 more))),
          ))
    ]

pub take_root-requires-clause-table : goal.take_root-requires-clause-table
take_root-requires-clause-table c =
    let servers = c.args.servers.now in
    let n = c.loop-n.n in
    let init = c.index-servers-n.result in
    let there : slice_get servers n ≡ Some init = slice_get_read servers (length servers) n init refl c.loop-n-test.true c.index-servers-n.is in
    c.loop-n.invariant.1 (lists-here servers n init there (ap not (c.is_none.ensures ∙ ap not c.if-is_none.true)))
