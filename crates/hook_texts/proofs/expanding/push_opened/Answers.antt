use Rattle.std.proofs.Common.{◌∷◌, ◌∙◌, string_bytes}
use Rattle.hook_texts.proofs.Reading.{left_behind, pushed_brace, pushed_value}
use Rattle.hook_texts.proofs.expanding.push_opened.Goals as goal

pub returns-in_ok-push_str-in-Some-clause-gives : goal.returns-in_ok-push_str-in-Some-clause-gives
returns-in_ok-push_str-in-Some-clause-gives c =
    pushed_value c.args.values.now c.in-Some.placeholder (string_bytes c.args.out.now) (string_bytes c.push_str.new.self) c.deref.result.now c.in-Some.left.now (123 ∷ c.args.behind.now)
    c.in_ok-push_str-in-Some.ensures.bytes (c.deref.ensures ∙ c.in_ok-value-in-Some.ensures) c.in-Some.ensures.1

pub returns-in_ok-push_str-in-Some-clause-shorter : goal.returns-in_ok-push_str-in-Some-clause-shorter
returns-in_ok-push_str-in-Some-clause-shorter c = left_behind c.in-Some.placeholder c.args.behind.now c.in-Some.left.now c.in-Some.ensures.1

pub returns-in_ok-push_str-in-None-clause-gives : goal.returns-in_ok-push_str-in-None-clause-gives
returns-in_ok-push_str-in-None-clause-gives c =
    pushed_brace c.args.values.now (string_bytes c.args.out.now) (string_bytes c.push_str-in-None.new.self) c.args.behind.now c.in_ok-push_str-in-None.ensures.bytes c.in-None.ensures
