use Rattle.std.proofs.Common.{◌≡◌, ◌∙◌, ap, sym, subst, true, false, refl, List, ◌+◌}
use Rattle.opening_checks.proofs.Prelude.{IsTable, Link, agrees_throughout, is_counted, links, list_all, listed_history, parts_of, with_links}
use Rattle.opening_checks.proofs.KinTables.{told-kin, history-of_servers, table-after}
use Rattle.opening_checks.proofs.kin.take_root.Goals.{then-not-agrees_throughout-via-then-not-agrees_throughout, then-not-agrees_throughout-via-else-not-agrees_throughout+then-not-are_counted}
use Rattle.opening_checks.proofs.kin.take_root.Goals as goal

pub agrees_throughout-requires : goal.agrees_throughout-requires
agrees_throughout-requires c =
    let is : c.as_slice-listed.result.now ≡ listed_history (parts_of c.args.init.now) = c.as_slice-listed.ensures.value ∙ c.in_ok-history.ensures ∙ ap listed_history c.parts_of.ensures in
    history-of_servers c.args.servers.now c.args.n c.args.rows.now c.args.init.now c.as_slice-listed.result.now is (c.requires.parts.each c.args.n c.args.init.now c.requires.at) c.requires.table

pub returns-then-not-agrees_throughout-clause-kin : goal.returns-then-not-agrees_throughout-clause-kin
returns-then-not-agrees_throughout-clause-kin c =
    let is : c.as_slice-listed.result.now ≡ listed_history (parts_of c.args.init.now) = c.as_slice-listed.ensures.value ∙ c.in_ok-history.ensures ∙ ap listed_history c.parts_of.ensures in
    elim c.then-not-agrees_throughout.branch [
      | then-not-agrees_throughout-via-then-not-agrees_throughout w ↦
          told-kin c.args.servers.now c.args.n c.args.rows.now c.args.own.now c.args.init.now c.as_slice-listed.result.now false (list_all (is_counted c.args.own.now) c.as_slice-listed.result.now) is (c.requires.parts.each c.args.n c.args.init.now c.requires.at) c.requires.table c.requires.own (sym w.if-not-agrees_throughout.true ∙ c.agrees_throughout.ensures) refl
      | then-not-agrees_throughout-via-else-not-agrees_throughout+then-not-are_counted w ↦
          told-kin c.args.servers.now c.args.n c.args.rows.now c.args.own.now c.args.init.now c.as_slice-listed.result.now true false is (c.requires.parts.each c.args.n c.args.init.now c.requires.at) c.requires.table c.requires.own (sym w.if-not-agrees_throughout.false ∙ c.agrees_throughout.ensures) (sym w.if-not-are_counted.true ∙ w.are_counted.ensures)
    ]

pub add_links-requires : goal.add_links-requires
add_links-requires c =
    let is : c.as_slice-listed.result.now ≡ listed_history (parts_of c.args.init.now) = c.as_slice-listed.ensures.value ∙ c.in_ok-history.ensures ∙ ap listed_history c.parts_of.ensures in
    history-of_servers c.args.servers.now c.args.n c.args.rows.now c.args.init.now c.as_slice-listed.result.now is (c.requires.parts.each c.args.n c.args.init.now c.requires.at) c.requires.table

pub returns-clause-kin : goal.returns-clause-kin
returns-clause-kin c =
    let is : c.as_slice-listed.result.now ≡ listed_history (parts_of c.args.init.now) = c.as_slice-listed.ensures.value ∙ c.in_ok-history.ensures ∙ ap listed_history c.parts_of.ensures in
    told-kin c.args.servers.now c.args.n c.args.rows.now c.args.own.now c.args.init.now c.as_slice-listed.result.now true true is (c.requires.parts.each c.args.n c.args.init.now c.requires.at) c.requires.table c.requires.own
    (sym c.if-not-agrees_throughout.false ∙ c.agrees_throughout.ensures) (sym c.if-not-are_counted.false ∙ c.are_counted.ensures)

pub returns-clause-table : goal.returns-clause-table
returns-clause-table c = λ _ _.
    let is : c.as_slice-listed.result.now ≡ listed_history (parts_of c.args.init.now) = c.as_slice-listed.ensures.value ∙ c.in_ok-history.ensures ∙ ap listed_history c.parts_of.ensures in
    let agrees : agrees_throughout c.args.rows.now (listed_history (parts_of c.args.init.now)) ≡ true = ap (agrees_throughout c.args.rows.now) (sym is) ∙ sym c.agrees_throughout.ensures ∙ c.if-not-agrees_throughout.false in
    let next = c.in_ok-add_links.ensures ∙ ap (λ ts. with_links c.args.rows.now (links ts)) is in
    subst (λ (rows : List (List Link)). IsTable c.args.servers.now (c.args.n + 1) rows) (sym next)
    (table-after c.args.servers.now c.args.n c.args.rows.now c.args.init.now c.requires.at c.requires.root (c.requires.parts.each c.args.n c.args.init.now c.requires.at) c.requires.table agrees)

pub returns-then-not-more-clause-kin : goal.returns-then-not-more-clause-kin
returns-then-not-more-clause-kin c =
    let is : c.as_slice-listed.result.now ≡ listed_history (parts_of c.args.init.now) = c.as_slice-listed.ensures.value ∙ c.in_ok-history.ensures ∙ ap listed_history c.parts_of.ensures in
    told-kin c.args.servers.now c.args.n c.args.rows.now c.args.own.now c.args.init.now c.as_slice-listed.result.now true true is (c.requires.parts.each c.args.n c.args.init.now c.requires.at) c.requires.table c.requires.own
    (sym c.if-not-agrees_throughout.false ∙ c.agrees_throughout.ensures) (sym c.if-not-are_counted.false ∙ c.are_counted.ensures)
