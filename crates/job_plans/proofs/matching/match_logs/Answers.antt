use Rattle.std.proofs.Common.{◌≡◌, false, ap, length, sym, ◌∙◌, Some}
use Rattle.job_plans.proofs.Prelude.{Server, Txn, is_mark_there, is_same_there, last-is, last_mark, logged_by, mark-there, match-behind}
use Rattle.job_plans.proofs.Prelude.{match-of-both, match-unlogged, option_copied, place_of_mark, same-there, server_at}
use Rattle.job_plans.proofs.Entries.{IsKept, kept-is, entry-kept, server-there, told-none, txn-of}
use Rattle.job_plans.proofs.matching.match_logs.Goals.{In-Some-last_mark, In-Some-place_of_mark}
use Rattle.job_plans.proofs.matching.match_logs.Goals as goal

-- the last mark of the first server
record Marked (c : In-Some-last_mark) (x : Server) : Type 0 where
  is : last_mark c.args.every x ≡ Some c.in-Some-last_mark.i
  txn : Txn
  there : logged_by x c.in-Some-last_mark.i ≡ Some txn
  kept : IsKept x c.in-Some-last_mark.i txn

marked : (c : In-Some-last_mark) (x : Server) → server_at c.args.world.now c.args.r.0 ≡ Some x → Marked c x
marked c x at =
    let is : last_mark c.args.every x ≡ Some c.in-Some-last_mark.i = sym (c.last_mark.ensures x at) ∙ c.in-Some-last_mark.is in
    let last = last-is (λ k. is_mark_there c.args.every (logged_by x k)) (length x.history.txns) c.in-Some-last_mark.i is in
    let t = mark-there c.args.every (logged_by x c.in-Some-last_mark.i) last.passes in
    record { is = is; txn = t.0; there = t.1; kept = kept-is x c.in-Some-last_mark.i t.0 t.1 }

-- and if the second keeps it
record Placed (c : In-Some-place_of_mark) (y : Server) : Type 0 where
  is : place_of_mark y (Some c.transaction.result) ≡ Some c.in-Some-place_of_mark.j
  txn : Txn
  kept : IsKept y c.in-Some-place_of_mark.j txn

placed : (c : In-Some-place_of_mark) (y : Server) → server_at c.args.world.now c.args.d.0 ≡ Some y → Placed c y
placed c y at =
    let is : place_of_mark y (Some c.transaction.result) ≡ Some c.in-Some-place_of_mark.j = sym (c.place_of_mark.ensures y at) ∙ c.in-Some-place_of_mark.is in
    let last = last-is (λ k. is_same_there c.transaction.result (logged_by y k)) (length y.history.txns) c.in-Some-place_of_mark.j is in
    let t = same-there c.transaction.result (logged_by y c.in-Some-place_of_mark.j) last.passes in
    record { is = is; txn = t.0; kept = kept-is y c.in-Some-place_of_mark.j t.0 t.1 }

pub returns-in_default : goal.returns-in_default
returns-in_default c =
    let x = server-there c.args.world.now c.args.r.0 (c.is_reached.ensures.there c.if-not-is_reached.false) in
    let y = server-there c.args.world.now c.args.d.0 (c.is_reached-2.ensures.there c.if-not-is_reached-2.false) in
    let logs : y.0.settings.logs ≡ false = told-none c.args.world.now c.args.d.0 y.0 y.1 (c.log.ensures ∙ ap (λ o. Some (option_copied o)) c.in_default.is) in
    sym (match-of-both c.args.world.now c.args.r c.args.d c.args.every x.0 y.0 x.1 y.1
    (sym c.is_reached.ensures.value ∙ c.if-not-is_reached.false) (sym c.is_reached-2.ensures.value ∙ c.if-not-is_reached-2.false)
    ∙ match-unlogged c.args.every x.0 y.0 logs)

pub transaction-requires-clause-within : goal.transaction-requires-clause-within
transaction-requires-clause-within c =
    let x = server-there c.args.world.now c.args.r.0 (c.is_reached.ensures.there c.if-not-is_reached.false) in
    let m = marked (goal.at.transaction-requires-clause-within c).In-Some-last_mark x.0 x.1 in
    rw x.1 m.kept.below

pub matched_at-requires-clause-mark : goal.matched_at-requires-clause-mark
matched_at-requires-clause-mark c = λ x at.
    let m = marked (goal.at.matched_at-requires-clause-mark c).In-Some-last_mark x at in
    (m.kept.kept, m.kept.below)

pub matched_at-requires-clause-same : goal.matched_at-requires-clause-same
matched_at-requires-clause-same c = λ y at.
    let p = placed (goal.at.matched_at-requires-clause-same c).In-Some-place_of_mark y at in
    (p.kept.kept, p.kept.below)

pub returns : goal.returns
returns c =
    let x = server-there c.args.world.now c.args.r.0 (c.is_reached.ensures.there c.if-not-is_reached.false) in
    let y = server-there c.args.world.now c.args.d.0 (c.is_reached-2.ensures.there c.if-not-is_reached-2.false) in
    let i = c.in-Some-last_mark.i in
    let m = marked (goal.at.returns c).In-Some-last_mark x.0 x.1 in
    let p = placed (goal.at.returns c).In-Some-place_of_mark y.0 y.1 in
    let is : logged_by x.0 i ≡ Some c.transaction.result = entry-kept x.0 i m.kept.kept ∙ txn-of c.args.world.now c.args.r.0 i x.0 c.transaction.result x.1 c.transaction.ensures in
    c.matched_at.ensures x.0 y.0 x.1 y.1
    ∙ sym (match-of-both c.args.world.now c.args.r c.args.d c.args.every x.0 y.0 x.1 y.1
    (sym c.is_reached.ensures.value ∙ c.if-not-is_reached.false) (sym c.is_reached-2.ensures.value ∙ c.if-not-is_reached-2.false)
    ∙ match-behind c.args.every x.0 y.0 i c.transaction.result c.in-Some-place_of_mark.j m.is is p.is)
