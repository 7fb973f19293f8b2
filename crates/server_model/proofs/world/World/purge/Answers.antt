use Rattle.std.proofs.Common.{◌≡◌, ℕ, ◌<◌, ◌≤◌, List, Option, Some, length, arith, ap, subst, sym, ◌∙◌, IsSomeAnd}
use Rattle.server_model.proofs.Prelude.{Index, Server, World, kept_from, server_at}
use Rattle.server_model.proofs.Lists.{slice_get-index}
use Rattle.server_model.proofs.Purges.{kept_from-rises, kept_from-within, purge-answered}
use Rattle.server_model.proofs.Told.{log-logged}
use Rattle.server_model.proofs.world.World.purge.Goals as goal

pub keep_from-requires-clause-file : goal.keep_from-requires-clause-file
keep_from-requires-clause-file c =
    let servers = c.self.inside.servers.items in
    let s = c.index-s.result.now in
    let within : c.args.no.0 < length c.self.inside.servers.items = subst (λ (w : World). c.args.no.0 < length w.servers) (sym c.self.view_is) c.requires in
    let here = slice_get-index c.self.inside.servers.items c.args.no.0 c.index-s.result.now within c.index-s.ensures in
    let at = subst (λ (w : World). server_at w c.args.no.0 ≡ Some c.index-s.result.now) c.self.view_is here in
    let fit = c.self.invariant.kept.fit c.args.no.0 c.index-s.result.now here in
    let known : c.index-s.result.now.log.log.files ≡ c.s.inside.log.log.files = ap (λ (i : Index). i.log.files) (log-logged c.s.inside c.index-s.result.now c.s.view_is c.if-not-s-2.false) in
    let file : c.args.file ≤ c.index-s.result.now.log.log.files = omega (arith, known, c.files.ensures, c.if-files-file.false) in
    let is : c.kept_from-first.result ≡ kept_from c.self.inside.servers.items c.args.no.0 c.args.file c.index-s.result.now =
    c.kept_from-first.ensures ∙ ap (λ (ss : List Server). kept_from ss c.args.no.0 c.args.file c.index-s.result.now) c.deref.ensures.value in
    subst (λ (o : Option Server). IsSomeAnd o (λ x. (x.first ≤ c.kept_from-first.result) × (c.kept_from-first.result ≤ x.log.log.files))) (sym at)
    (subst (λ (k : ℕ). (s.first ≤ k) × (k ≤ s.log.log.files)) (sym is)
    (kept_from-rises servers c.args.no.0 c.args.file s, kept_from-within servers c.args.no.0 c.args.file s fit.kept.high file))

pub returns-clause-answer : goal.returns-clause-answer
returns-clause-answer c =
    let within : c.args.no.0 < length c.self.inside.servers.items = subst (λ (w : World). c.args.no.0 < length w.servers) (sym c.self.view_is) c.requires in
    let here = slice_get-index c.self.inside.servers.items c.args.no.0 c.index-s.result.now within c.index-s.ensures in
    let known : c.index-s.result.now.log.log.files ≡ c.s.inside.log.log.files = ap (λ (i : Index). i.log.files) (log-logged c.s.inside c.index-s.result.now c.s.view_is c.if-not-s-2.false) in
    let file : c.args.file ≤ c.index-s.result.now.log.log.files = omega (arith, known, c.files.ensures, c.if-files-file.false) in
    purge-answered c.args.self.now c.self.inside.servers.items c.self.inside.gtid c.self.inside.errant c.args.no.0 c.args.file c.index-s.result.now c.kept_from-first.result c.self.view_is here
    (ap (λ (x : Server). x.up) (sym c.s.view_is) ∙ c.if-not-s.false) (ap (λ (x : Server). x.settings.logs) (sym c.s.view_is) ∙ c.if-not-s-2.false) file
    (c.kept_from-first.ensures ∙ ap (λ (ss : List Server). kept_from ss c.args.no.0 c.args.file c.index-s.result.now) c.deref.ensures.value)
