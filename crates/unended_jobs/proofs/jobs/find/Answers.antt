use Rattle.std.proofs.Common.{◌<◌, ◌∙◌, rules, ltb, sym, ap, length, arith}
use Rattle.unended_jobs.proofs.Prelude.{Unended, number_of}
use Rattle.std.proofs.lemmas.List.Sorted.{IsPartitionPoint-from_clause, IsPartitionedBy-ltb}
use Rattle.unended_jobs.proofs.Turning.{found-there, item-any, none-there, rises}
use Rattle.unended_jobs.proofs.jobs.find.Goals as goal

pub returns-then-id : goal.returns-then-id
returns-then-id c =
    let rise = c.requires in
    let parted = IsPartitionedBy-ltb (λ (j : Unended). number_of j) c.args.jobs.now c.args.id (rises c.args.jobs.now rise.0 rise.1) in
    let point = IsPartitionPoint-from_clause (λ (j : Unended). ltb (number_of j) c.args.id) _ _ c.partition_point-at.ensures.partitioned parted (λ a r q k. search rules) in
    let within : c.partition_point-at.result < length c.args.jobs.now = omega arith in
    found-there c.args.jobs.now rise.0 c.args.id c.partition_point-at.result rise.1 point c.index-jobs-at.result within c.index-jobs-at.is (sym c.id.ensures ∙ c.if-id.true)

pub returns-else-id : goal.returns-else-id
returns-else-id c =
    let rise = c.requires in
    let parted = IsPartitionedBy-ltb (λ (j : Unended). number_of j) c.args.jobs.now c.args.id (rises c.args.jobs.now rise.0 rise.1) in
    let point = IsPartitionPoint-from_clause (λ (j : Unended). ltb (number_of j) c.args.id) _ _ c.partition_point-at.ensures.partitioned parted (λ a r q k. search rules) in
    none-there c.args.jobs.now rise.0 c.args.id c.partition_point-at.result rise.1 point
    (λ d within same. c.if-id.false (c.id.ensures ∙ ap (λ (j : Unended). number_of j) (sym (item-any c.args.jobs.now c.partition_point-at.result c.index-jobs-at.result d within c.index-jobs-at.is)) ∙ same))

pub returns-then-at-jobs : goal.returns-then-at-jobs
returns-then-at-jobs c =
    let rise = c.requires in
    let parted = IsPartitionedBy-ltb (λ (j : Unended). number_of j) c.args.jobs.now c.args.id (rises c.args.jobs.now rise.0 rise.1) in
    let point = IsPartitionPoint-from_clause (λ (j : Unended). ltb (number_of j) c.args.id) _ _ c.partition_point-at.ensures.partitioned parted (λ a r q k. search rules) in
    none-there c.args.jobs.now rise.0 c.args.id c.partition_point-at.result rise.1 point (λ d within same. omega arith)
