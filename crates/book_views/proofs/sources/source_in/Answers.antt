use Rattle.std.proofs.Common.{◌≡◌, ◌<◌, ◌∙◌, length, true, ap, subst, sym, arith}
use Rattle.book_views.proofs.Prelude.{SourceState, are_known, instance_at, seen_source, source_servers}
use Rattle.book_views.proofs.Reading.{place-at, places-all, source-known}
use Rattle.book_views.proofs.sources.source_in.Goals as goal

pub bounds-instances-no : goal.bounds-instances-no
bounds-instances-no c =
    let all = places-all c.args.book.now c.args.instances.now c.requires.instances in
    omega (arith, c.requires.no, all, c.servers.ensures.holds.instances)

pub returns : goal.returns
returns c =
    let all = places-all c.args.book.now c.args.instances.now c.requires.instances in
    let within : c.args.no.0 < length c.args.instances.now = omega (arith, c.requires.no, all, c.servers.ensures.holds.instances) in
    record {
      source =
          c.source_of.ensures ∙ ap seen_source (sym (place-at c.args.book.now c.args.instances.now c.args.no.0 c.index-instances-no.result c.requires.instances within c.index-instances-no.is));
      known =
          let source : c.source_of.result ≡ seen_source (instance_at c.args.book.now c.args.no) =
          c.source_of.ensures ∙ ap seen_source (sym (place-at c.args.book.now c.args.instances.now c.args.no.0 c.index-instances-no.result c.requires.instances within c.index-instances-no.is))
          in
          subst (λ (s : SourceState). are_known (length c.args.book.now.names) (source_servers s) ≡ true) (sym source)
          (source-known c.args.book.now c.args.no c.servers.ensures.holds c.requires.no);
    }
