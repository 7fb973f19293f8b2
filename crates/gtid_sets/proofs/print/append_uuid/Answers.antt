use Rattle.std.proofs.Common.{◌++◌, List, ℕ, ap, ◌∙◌}
use Rattle.gtid_sets.proofs.Prelude.{hyphenated_text, lower}
use Rattle.gtid_sets.proofs.print.append_uuid.Goals as goal

pub returns : goal.returns
returns c =
    c.in_ok-extend_from_slice.ensures.items ∙ ap (λ (t : List ℕ). c.args.text.now.items ++ t)
    (c.as_bytes.ensures.value ∙ (c.digits-digits.ensures ∙ ap (hyphenated_text lower) (c.hyphenated-uuid.ensures ∙ c.from_u128.ensures)))
