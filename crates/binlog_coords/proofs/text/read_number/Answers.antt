use Rattle.std.proofs.Common.{sym, ◌∙◌, ap}
use Rattle.binlog_coords.proofs.Prelude.{is_extension}
use Rattle.binlog_coords.proofs.Numbers.{number_at-refused}
use Rattle.binlog_coords.proofs.text.read_number.Goals as goal

pub returns-in_err-file : goal.returns-in_err-file
returns-in_err-file c =
    let good = ap is_extension (sym c.as_bytes.ensures.value) ∙ sym c.if-not-is_extension.ensures in
    c.from_residual.ensures ∙ sym (number_at-refused c.args.digits.now c.parse.result c.parse.ensures.value.0 (sym c.ok.ensures.value ∙ c.in_err-file.was) good)
