use Rattle.std.proofs.Common.{◌<◌, length, ◌∙◌, ap, sym, arith, is_some}
use Rattle.book_views.proofs.Reading.{place-at, places-all}
use Rattle.book_views.proofs.sources.is_instance_in.Goals as goal

pub bounds-instances-no : goal.bounds-instances-no
bounds-instances-no c =
    let all = places-all c.args.book.now c.args.instances.now c.requires.instances in
    omega (arith, c.requires.no, all, c.servers.ensures.holds.instances)

pub returns : goal.returns
returns c =
    let all = places-all c.args.book.now c.args.instances.now c.requires.instances in
    let within : c.args.no.0 < length c.args.instances.now = omega (arith, c.requires.no, all, c.servers.ensures.holds.instances) in
    c.is_some.ensures ∙ ap is_some (sym (place-at c.args.book.now c.args.instances.now c.args.no.0 c.index-instances-no.result c.requires.instances within c.index-instances-no.is))
