use Rattle.std.proofs.Common.{◌≡◌, length, reverse, not, ap, sym, ◌∙◌, arith}
use Rattle.std.specs.Prelude.{unwrap_or, position}
use Rattle.gtid_sets.proofs.Prelude.{is_blank, length-reverse, trailing}
use Rattle.gtid_sets.proofs.Pieces.{position_is, length_within}
use Rattle.gtid_sets.proofs.grammar.trailing.Goals as goal

pub returns : goal.returns
returns c =
    let is : c.unwrap_or.result ≡ trailing c.args.text.now = c.unwrap_or.ensures ∙ (ap (λ o. unwrap_or o (length c.args.text.now)) c.last_filled.ensures
    ∙ (ap (λ n. unwrap_or (position (λ b. not (is_blank b)) (reverse c.args.text.now)) n) (sym (length-reverse c.args.text.now)) ∙ position_is (λ b. not (is_blank b)) (reverse c.args.text.now))) in
    record { is = is; within = omega (arith, length_within (λ b. not (is_blank b)) (reverse c.args.text.now), length-reverse c.args.text.now) }
