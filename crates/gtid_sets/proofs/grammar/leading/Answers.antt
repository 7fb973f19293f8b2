use Rattle.std.proofs.Common.{◌≡◌, length, not, ap, ◌∙◌, arith}
use Rattle.std.specs.Prelude.{unwrap_or}
use Rattle.gtid_sets.proofs.Prelude.{is_blank, leading}
use Rattle.gtid_sets.proofs.Pieces.{position_is, length_within}
use Rattle.gtid_sets.proofs.grammar.leading.Goals as goal

pub returns : goal.returns
returns c =
    let is : c.unwrap_or.result ≡ leading c.args.text.now = c.unwrap_or.ensures ∙ (ap (λ o. unwrap_or o (length c.args.text.now)) c.first_filled.ensures ∙ position_is (λ b. not (is_blank b)) c.args.text.now) in
    record { is = is; within = omega (arith, length_within (λ b. not (is_blank b)) c.args.text.now) }
