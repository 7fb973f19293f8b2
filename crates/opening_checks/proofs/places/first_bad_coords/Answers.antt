use Rattle.std.proofs.Common.{◌≡◌, ◌∙◌, length, refl, subst, Some, Option, IfSome, slice_get}
use Rattle.opening_checks.proofs.Prelude.{FlawedValue, coord_value, slice_get_read}
use Rattle.opening_checks.proofs.Purgings.{coords-blamed_at}
use Rattle.opening_checks.proofs.places.first_bad_coords.Goals as goal

pub returns-in-Some-clause-value : goal.returns-in-Some-clause-value
returns-in-Some-clause-value c =
    let servers = c.args.servers.now in
    let init = c.index-servers-n.result in
    let there : slice_get servers c.loop-n.n ≡ Some init = slice_get_read servers (length servers) c.loop-n.n init refl c.loop-n-test.true c.index-servers-n.is in
    let is : c.in-Some.value ≡ coord_value servers init =
    subst (λ (o : Option FlawedValue). IfSome o (λ v. v ≡ coord_value servers init)) c.in-Some.is c.in_ok-value.ensures.value in
    is ∙ coords-blamed_at servers c.loop-n.n init c.requires.files there
