use Rattle.std.proofs.Common.{◌≡◌, length, ap, ◌∙◌, arith}
use Rattle.std.specs.Prelude.{unwrap_or}
use Rattle.gtid_sets.proofs.Prelude.{is_comma, position_or_len}
use Rattle.gtid_sets.proofs.Pieces.{position_is, length_within}
use Rattle.gtid_sets.proofs.grammar.first_comma.Goals as goal

pub returns : goal.returns
returns c =
    let is : c.unwrap_or.result ≡ position_or_len is_comma c.args.text.now = c.unwrap_or.ensures ∙ (ap (λ o. unwrap_or o (length c.args.text.now)) c.find_comma.ensures ∙ position_is is_comma c.args.text.now) in
    record { is = is; within = omega (arith, length_within is_comma c.args.text.now) }
