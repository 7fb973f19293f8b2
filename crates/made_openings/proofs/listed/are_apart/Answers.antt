use Rattle.std.proofs.Common.{◌≡◌, ℕ, ◌<◌, length, Some, refl, arith, slice_get}
use Rattle.std.proofs.lemmas.Option.{slice_get_read, slice_get_within}
use Rattle.openings.specs.Apart.{IsApart}
use Rattle.openings.specs.declared.init.ServerInit.{ServerInit}
use Rattle.openings.proofs.Members.{get-below_more}
use Rattle.made_openings.proofs.listed.are_apart.Goals as goal

pub loop-n-preserved : goal.loop-n-preserved
loop-n-preserved c =
    let servers = c.args.servers.now in
    let there : slice_get servers c.loop-n.n ≡ Some c.index-servers-n.result = slice_get_read servers (length servers) c.loop-n.n c.index-servers-n.result refl c.loop-n-test.true c.index-servers-n.is in
    λ m k i j less below mi kj.
    get-below_more (λ (n : ℕ) (x : ServerInit). (m : ℕ) (i : ServerInit) → m < n → slice_get servers m ≡ Some i → IsApart i x) servers c.loop-n.n c.index-servers-n.result there
    (λ n x h at m i lower mi. c.loop-n.invariant m n i x lower h mi at)
    (λ m i lower mi. c.is_apart_from.ensures c.if-not-is_apart_from.false m i lower mi)
    k j below kj m i less mi

pub returns : goal.returns
returns c = λ _ m n i j less mi nj. let within = slice_get_within c.args.servers.now n j nj in c.loop-n.invariant m n i j less (omega (arith, c.loop-n-test.false)) mi nj
