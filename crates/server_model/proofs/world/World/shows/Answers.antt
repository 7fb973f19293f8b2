use Rattle.std.proofs.Common.{◌≡◌, ◌<◌, List, length, Some, ap, arith, subst, sym, ◌∙◌, option_and_then, slice_get}
use Rattle.server_model.proofs.Prelude.{Server, World, option_copied, server_at, source_no}
use Rattle.server_model.proofs.Lists.{slice_get-index}
use Rattle.server_model.proofs.Seen.{shown-is, seen-kept, purged-kept}
use Rattle.server_model.proofs.world.World.shows.Goals as goal

pub returns : goal.returns
returns c =
    let within : c.args.no.0 < length c.self.inside.servers.items = subst (λ (w : World). c.args.no.0 < length w.servers) (sym c.self.view_is) c.requires in
    let beyond : c.args.no.0 < length c.self.inside.executed.items = let e = c.self.invariant.gtids.paired in omega arith in
    let past : c.args.no.0 < length c.self.inside.purged.items = let e = c.self.invariant.gtids.purged_paired in omega arith in
    let here = slice_get-index c.self.inside.servers.items c.args.no.0 c.index-s.result.now within c.index-s.ensures in
    let beside = slice_get-index c.self.inside.executed.items c.args.no.0 c.index.result.now beyond c.index.ensures in
    let besides = slice_get-index c.self.inside.purged.items c.args.no.0 c.index-2.result.now past c.index-2.ensures in
    shown-is c.args.self.now c.args.no.0 c.index-s.result.now (option_copied c.above.result) c.in_ok-set.set c.in_ok-purged.purged c.status_of.result
    (subst (λ (w : World). server_at w c.args.no.0 ≡ Some c.index-s.result.now) c.self.view_is here)
    (c.above.ensures ∙ ap (λ (ss : List Server). option_and_then (λ m. slice_get ss m) (source_no c.index-s.result.now.source)) c.deref.ensures.value
    ∙ ap (λ (w : World). option_and_then (λ m. server_at w m) (source_no c.index-s.result.now.source)) c.self.view_is)
    (c.in_ok-set.ensures ∙ seen-kept c.args.self.now c.self.inside.servers.items c.self.inside.gtid c.self.inside.errant c.index-s.result.now c.index.result.now c.self.view_is
    (c.self.invariant.gtids.kept c.args.no.0 c.index-s.result.now c.index.result.now here beside))
    (c.in_ok-purged.ensures ∙ purged-kept c.args.self.now c.self.inside.servers.items c.self.inside.gtid c.self.inside.errant c.index-s.result.now c.index-2.result.now c.self.view_is
    (c.self.invariant.gtids.purges c.args.no.0 c.index-s.result.now c.index-2.result.now here besides))
    c.status_of.ensures
