use Rattle.std.proofs.Common.{refl}
use Rattle.std.specs.Fmt.{digits}
use Rattle.plan_texts.specs.Conditions.{below_at_words, chosen_words, passes_words}
use Rattle.plan_texts.specs.Letters.{letter, with_spoken}
use Rattle.plan_texts.specs.Statements.{aim_words, change_words, named_words, own_words, spot_words}
use Rattle.plan_texts.specs.Texts.{ordered_text, plan_text}
use Rattle.plan_texts.proofs.laws.plans_are_told_so.Goals as goal

pub returns-clause-up : goal.returns-clause-up
unfolding digits letter with_spoken aim_words below_at_words change_words named_words own_words spot_words ordered_text plan_text
returns-clause-up c = refl

pub returns-clause-gtids : goal.returns-clause-gtids
unfolding digits letter with_spoken aim_words below_at_words change_words named_words own_words spot_words ordered_text plan_text
returns-clause-gtids c = refl

pub returns-clause-others : goal.returns-clause-others
unfolding digits letter with_spoken aim_words below_at_words change_words named_words own_words spot_words ordered_text plan_text
returns-clause-others c = refl

pub returns-clause-letters : goal.returns-clause-letters
unfolding digits
returns-clause-letters c = refl

pub returns-clause-branch : goal.returns-clause-branch
unfolding digits letter with_spoken aim_words below_at_words change_words chosen_words named_words own_words passes_words spot_words ordered_text plan_text
returns-clause-branch c = refl
