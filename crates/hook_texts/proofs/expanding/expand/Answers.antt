use Rattle.std.proofs.Common.{rules, string_bytes}
use Rattle.hook_texts.specs.Expanded.{expanded}
use Rattle.hook_texts.proofs.Reading.{read_on, read_out}
use Rattle.hook_texts.proofs.expanding.expand.Goals as goal

pub loop-before-preserved : goal.loop-before-preserved
loop-before-preserved c = (
  search rules,
  read_on c.args.values.now (string_bytes c.loop-before.out) (string_bytes c.push_str.new.self) (string_bytes c.push_opened.new.out)
      c.in-Some.before.now c.in-Some.behind.now c.loop-before.left.now c.in_ok-left.left.now (expanded c.args.values.now c.args.text.now)
      c.in_ok-push_str.ensures.bytes c.in_ok-left.ensures.gives c.in-Some.ensures.0 c.in-Some.ensures.1 c.loop-before.invariant.1,
)

pub returns : goal.returns
returns c =
    read_out c.args.values.now (string_bytes c.loop-before.out) (string_bytes c.push_str-2.new.self) c.loop-before.left.now (expanded c.args.values.now c.args.text.now)
    c.in_ok-push_str-2.ensures.bytes (rw c.in_default.is at c.parted.ensures) c.loop-before.invariant.1
