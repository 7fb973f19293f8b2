use Rattle.std.proofs.Common.{Some, None, refl, sym}
use Rattle.binlog_coords.proofs.Parts.{coord_at-undivided, coord_at-divided}
use Rattle.binlog_coords.proofs.text.read_coord.Goals as goal

pub returns-in_default : goal.returns-in_default
returns-in_default c = coord_at-undivided c.args.text.now c.halves.result c.halves.ensures c.in_default.is

pub returns-in_default-read_file : goal.returns-in_default-read_file
returns-in_default-read_file c =
    coord_at-divided c.args.text.now c.halves.result c.in-Some.name c.in-Some.digits c.halves.ensures c.in-Some.is None _ (sym c.in_default-read_file.ensures) refl

pub returns-in_default-read_pos : goal.returns-in_default-read_pos
returns-in_default-read_pos c =
    coord_at-divided c.args.text.now c.halves.result c.in-Some.name c.in-Some.digits c.halves.ensures c.in-Some.is (Some c.in-Some-read_file.file) None (sym c.in-Some-read_file.ensures) (sym c.in_default-read_pos.ensures)

pub returns : goal.returns
returns c =
    coord_at-divided c.args.text.now c.halves.result c.in-Some.name c.in-Some.digits c.halves.ensures c.in-Some.is (Some c.in-Some-read_file.file) (Some c.in-Some-read_pos.pos) (sym c.in-Some-read_file.ensures) (sym c.in-Some-read_pos.ensures)
