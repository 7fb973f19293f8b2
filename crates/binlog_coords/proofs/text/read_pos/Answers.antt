use Rattle.std.proofs.Common.{sym, ◌∙◌, ap}
use Rattle.binlog_coords.proofs.Prelude.{is_plain}
use Rattle.binlog_coords.proofs.Numbers.{pos_at-refused}
use Rattle.binlog_coords.proofs.text.read_pos.Goals as goal

pub returns-in_err-pos : goal.returns-in_err-pos
returns-in_err-pos c =
    let plain = ap is_plain (sym c.as_bytes.ensures.value) ∙ sym c.if-not-is_plain.ensures in
    c.from_residual.ensures ∙ sym (pos_at-refused c.args.digits.now c.parse.result c.parse.ensures.value.0 (sym c.ok.ensures.value ∙ c.in_err-pos.was) plain)
