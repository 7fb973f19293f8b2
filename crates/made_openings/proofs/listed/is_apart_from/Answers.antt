use Rattle.std.proofs.Common.{◌≡◌, ◌<◌, length, Some, refl, arith, slice_get}
use Rattle.std.proofs.lemmas.Option.{slice_get_read}
use Rattle.openings.specs.Apart.{IsApart}
use Rattle.openings.proofs.Members.{get-below_more}
use Rattle.made_openings.proofs.listed.is_apart_from.Goals as goal

pub loop-m-preserved : goal.loop-m-preserved
loop-m-preserved c =
    let servers = c.args.servers.now in
    let within : c.loop-m.m < length servers = omega (arith, c.loop-m-test.true, c.requires) in
    let there : slice_get servers c.loop-m.m ≡ Some c.index-servers-m.result = slice_get_read servers (length servers) c.loop-m.m c.index-servers-m.result refl within c.index-servers-m.is in
    get-below_more (λ k i. IsApart i c.args.init.now) servers c.loop-m.m c.index-servers-m.result there (λ k i less h. c.loop-m.invariant k i less h) (c.is_apart.ensures c.if-not-is_apart.false)

pub returns : goal.returns
returns c = λ _ m i less h. c.loop-m.invariant m i (omega (arith, c.loop-m-test.false)) h
