use Rattle.std.proofs.Common.{◌≡◌, ap, subst, ◌∙◌}
use Rattle.std.specs.Prelude.{IfSome, unwrap_or}
use Rattle.opening_checks.proofs.Prelude.{Coord, bad_coords_in, coord_value_in, exec_in, read_in}
use Rattle.opening_checks.proofs.places.bad_coord_under.Goals as goal

pub returns : goal.returns
returns c =
    let log = c.args.log.now.log in
    let init = c.args.init.now in
    let exec : c.unwrap_or-exec.result ≡ exec_in log init = c.unwrap_or-exec.ensures ∙ ap (unwrap_or init.at) c.coord_after.ensures in
    record {
      met =
          let read : c.unwrap_or-read.result ≡ read_in log init = c.unwrap_or-read.ensures ∙ ap (unwrap_or init.read) exec in
          c.bad_coord_in.ensures.met
          ∙ ap (λ x. bad_coords_in log init.executed x c.unwrap_or-read.result) exec
          ∙ ap (bad_coords_in log init.executed (exec_in log init)) read;
      value = subst (λ (x : Coord). IfSome c.bad_coord_in.result (λ v. v ≡ coord_value_in log init.executed x)) exec c.bad_coord_in.ensures.value;
    }
