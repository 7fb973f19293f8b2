use Rattle.std.proofs.Common.{◌≡◌, length, ap, ◌∙◌, arith}
use Rattle.std.specs.Prelude.{unwrap_or}
use Rattle.gtid_sets.proofs.Prelude.{is_colon, position_or_len}
use Rattle.gtid_sets.proofs.Pieces.{position_is, length_within}
use Rattle.gtid_sets.proofs.grammar.first_colon.Goals as goal

pub returns : goal.returns
returns c =
    let is : c.unwrap_or.result ≡ position_or_len is_colon c.args.text.now = c.unwrap_or.ensures ∙ (ap (λ o. unwrap_or o (length c.args.text.now)) c.find_colon.ensures ∙ position_is is_colon c.args.text.now) in
    record { is = is; within = omega (arith, length_within is_colon c.args.text.now) }
