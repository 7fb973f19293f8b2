use Rattle.std.proofs.Common.{◌≡◌, ◌≤◌, length, sym, subst, ap, ◌∙◌, List, Some, refl, arith, slice_get, All}
use Rattle.std.proofs.lemmas.Option.{slice_get_read}
use Rattle.openings.specs.Taking.{HasSize, PartsInRange}
use Rattle.openings.specs.Servers.{history_at}
use Rattle.openings.specs.declared.init.ServerInit.{ServerInit}
use Rattle.model_tests.proofs.CheckedOnes.{checked-parts, checked-few, checked-flushes}
use Rattle.model_tests.proofs.starts.log.Goals as goal

pub history_at-requires-clause-parts : goal.history_at-requires-clause-parts
history_at-requires-clause-parts c = subst PartsInRange (sym c.servers-servers.ensures.value) (checked-parts c.args.opening.now c.servers-servers.ensures.checked)

pub history_at-requires-clause-fits : goal.history_at-requires-clause-fits
history_at-requires-clause-fits c =
    subst (λ (servers : List ServerInit). length (history_at servers c.args.n) ≤ 4000000) (sym c.servers-servers.ensures.value) (checked-few c.args.opening.now c.servers-servers.ensures.checked c.args.n)

pub log_of-requires : goal.log_of-requires
log_of-requires c =
    let opening = c.args.opening.now in
    let init = c.index-servers-n.result in
    let servers = c.servers-servers.result.now in
    let at : slice_get servers c.args.n ≡ Some init = slice_get_read servers (length servers) c.args.n init refl c.if-n-servers.true c.index-servers-n.is in
    let there : slice_get opening.servers c.args.n ≡ Some init = ap (λ (ss : List ServerInit). slice_get ss c.args.n) (sym c.servers-servers.ensures.value) ∙ at in
    let listed = c.servers-servers.ensures.checked.listed.each c.args.n init there in
    let is : c.deref.result.now ≡ history_at servers c.args.n = c.deref.ensures.value ∙ c.in_ok-history.ensures.history in
    let most = subst (λ (ss : List ServerInit). length (history_at ss c.args.n) ≤ 4000000) (sym c.servers-servers.ensures.value) (checked-few opening c.servers-servers.ensures.checked c.args.n) in
    let size = ap length is in
    let flushes = ap length c.as_slice.ensures in
    record {
      limit_low = listed.limit_low;
      limit_high = listed.limit_high;
      sizes = subst (All HasSize) (sym c.deref.ensures.value) c.in_ok-history.ensures.sizes;
      fits = omega arith;
      room = omega arith;
      left = omega (arith, c.if-flushed-flushes.true);
      flushes = omega (arith, c.if-flushes-le4000000.true);
      points = checked-flushes opening c.servers-servers.ensures.checked c.args.n init there;
      counts = omega (arith, c.if-len-count_of.true, c.len.ensures, c.count_of.ensures, c.deref.ensures.len);
    }
