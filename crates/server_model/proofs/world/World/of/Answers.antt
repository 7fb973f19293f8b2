use Rattle.std.proofs.Common.{◌≤◌, List, length, ap, subst, sym, ◌∙◌, All}
use Rattle.server_model.proofs.Prelude.{IsNumbered, Server, own_counts, purged_len, slice_get-get_or}
use Rattle.server_model.proofs.PurgedFiles.{purged_len-within}
use Rattle.server_model.proofs.Standing.{IsKept-standing, AreGtids-standing}
use Rattle.server_model.proofs.world.World.of.Goals as goal

pub own_counts-requires : goal.own_counts-requires
own_counts-requires c = subst (λ (ss : List Server). length ss ≤ 1000) (sym c.deref.ensures.value) c.requires.few

pub executed_sets-requires : goal.executed_sets-requires
executed_sets-requires c =
    subst (λ (ss : List Server). All (λ (s : Server). All (IsNumbered (length ss)) s.history.txns) ss) (sym c.deref-2.ensures.value)
    (λ k d h. (c.requires.each k _ (slice_get-get_or c.args.servers.items k d h)).numbered)

pub purged_sets-requires : goal.purged_sets-requires
purged_sets-requires c = record {
  numbered =
      subst (λ (ss : List Server). All (λ (s : Server). All (IsNumbered (length ss)) s.history.txns) ss) (sym c.deref-3.ensures.value)
      (λ k d h. (c.requires.each k _ (slice_get-get_or c.args.servers.items k d h)).numbered);
  fits =
      subst (All (λ (s : Server). length s.history.txns ≤ s.history.room)) (sym c.deref-3.ensures.value)
      (λ k d h. (c.requires.each k _ (slice_get-get_or c.args.servers.items k d h)).fit.within);
  within =
      subst (All (λ (s : Server). purged_len s ≤ length s.history.txns)) (sym c.deref-3.ensures.value)
      (λ k d h. purged_len-within _ (c.requires.each k _ (slice_get-get_or c.args.servers.items k d h)).fit);
}

pub invariant_of-result : goal.invariant_of-result
invariant_of-result c = record {
  kept = IsKept-standing c.args.servers.items c.requires;
  own = c.in_ok-own.ensures ∙ ap own_counts c.deref.ensures.value;
  gtids = rw (c.in_ok-executed.ensures, c.in_ok-purged.ensures, c.deref-2.ensures.value, c.deref-3.ensures.value) (AreGtids-standing c.args.servers.items c.requires c.args.gtid);
}
