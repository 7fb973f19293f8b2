use Rattle.std.proofs.Common.{◌∙◌, sym}
use Rattle.opening_checks.proofs.Prelude.{BadPlace}
use Rattle.opening_checks.proofs.Flawed.{files-good}
use Rattle.opening_checks.proofs.Told.{without-none}
use Rattle.opening_checks.proofs.check.check_places.Goals as goal

pub first_bad_coords-requires-clause-files : goal.first_bad_coords-requires-clause-files
first_bad_coords-requires-clause-files c =
    files-good c.args.servers.now
    (sym c.in_ok-first_bad_files.ensures.met ∙ without-none BadPlace c.in_ok-first_bad_files.field-0 c.in_ok-refuse.field-0 (sym c.refuse.ensures ∙ c.in_ok-refuse.was))
