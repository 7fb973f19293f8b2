use Rattle.kept_rows.proofs.SameRows.{same_rows}
use Rattle.kept_rows.proofs.laws.same_look_ups_same_rows.Goals as goal

pub returns : goal.returns
returns c = λ xs ys rising_x rising_y same. same_rows xs ys rising_x.apart rising_y.apart same
