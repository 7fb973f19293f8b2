use Rattle.std.proofs.Common.{ap, ◌∙◌, ◌++◌, get_or, None, false}
use Rattle.promotion_rules.proofs.Prelude.{Drained, Group, Prefer, ahead_at, behind_at, follow_at, group_of, option_to_list}
use Rattle.promotion_rules.proofs.Lists.{filter_map-more}
use Rattle.promotion_rules.proofs.groups.split.Goals as goal

abbrev none : Drained
none = record { no = record { 0 = 0 }; exec = record { file = 0; pos = 0 }; own_end = None; rule = Prefer; logs = false; near = false }

pub loop-replica-preserved : goal.loop-replica-preserved
loop-replica-preserved c =
    let xs = c.args.drained.now in
    let k = c.loop-replica.replica-index in
    let d = get_or xs k none in
    let by = group_of c.args.by.book.now.rings c.args.promoted c.args.by.own_end c.args.by.exec c.args.source in
    let old = c.loop-replica.groups in
    record {
      follow = filter_map-more (λ (x : Drained). follow_at x.no (by x.exec)) xs k none old.follow.items c.add.new.self.follow.items c.loop-replica-test.true c.loop-replica.invariant.follow
          (c.in_ok-add.ensures.follow ∙ ap (λ (g : Group). old.follow.items ++ option_to_list (follow_at d.no g)) c.group_of.ensures);
      ahead = filter_map-more (λ (x : Drained). ahead_at x.no x.exec (by x.exec)) xs k none old.ahead.items c.add.new.self.ahead.items c.loop-replica-test.true c.loop-replica.invariant.ahead
          (c.in_ok-add.ensures.ahead ∙ ap (λ (g : Group). old.ahead.items ++ option_to_list (ahead_at d.no d.exec g)) c.group_of.ensures);
      behind = filter_map-more (λ (x : Drained). behind_at x.no x.exec (by x.exec)) xs k none old.behind.items c.add.new.self.behind.items c.loop-replica-test.true c.loop-replica.invariant.behind
          (c.in_ok-add.ensures.behind ∙ ap (λ (g : Group). old.behind.items ++ option_to_list (behind_at d.no d.exec g)) c.group_of.ensures);
    }
