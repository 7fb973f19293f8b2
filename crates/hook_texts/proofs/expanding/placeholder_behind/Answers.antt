use Rattle.std.proofs.Common.{sym, ◌∙◌}
use Rattle.hook_texts.proofs.Reading.{at_unclosed, at_word, braced_back}
use Rattle.hook_texts.proofs.expanding.placeholder_behind.Goals as goal

pub returns-in_err-word : goal.returns-in_err-word
returns-in_err-word c = rw c.from_residual.ensures (at_unclosed c.args.behind.now c.in_err-word.ensures)

pub returns-in_err-placeholder : goal.returns-in_err-placeholder
returns-in_err-placeholder c =
    rw c.from_residual-in_err-placeholder.ensures
    (at_word c.args.behind.now _ _ c.in_ok-word.ensures.0 c.in_ok-word.ensures.1 ∙ sym c.in_err-placeholder.ensures)

pub returns : goal.returns
returns c =
    let named = sym c.in_ok-placeholder.ensures in (
      at_word c.args.behind.now _ _ c.in_ok-word.ensures.0 c.in_ok-word.ensures.1 ∙ named,
      braced_back c.args.behind.now _ _ _ c.in_ok-word.ensures.1 named,
    )
