use Rattle.std.proofs.Common.{◌<◌, length, arith, sym, ◌∙◌, string_bytes}
use Rattle.scenarios.proofs.SameTexts.{same_at, same_more}
use Rattle.scenarios.proofs.same.same_texts.Goals as goal

pub returns-then-not-same_text : goal.returns-then-not-same_text
returns-then-not-same_text c =
    let inside : c.loop-n.n < length c.args.others.now = omega (arith, c.loop-n.invariant.1) in (
      λ h. absurd cc,
      λ e.
          let same = same_at string_bytes c.args.texts.now c.args.others.now c.loop-n.n c.index-texts-n.result c.index-others-n.result c.loop-n-test.true inside c.index-texts-n.is c.index-others-n.is e in
          let is = c.same_text.ensures.1 (c.as_str.ensures.value ∙ same ∙ sym c.as_str-in-loop-n.ensures.value) in
          absurd cc,
    )

pub loop-n-preserved : goal.loop-n-preserved
loop-n-preserved c =
    let inside : c.loop-n.n < length c.args.others.now = omega (arith, c.loop-n.invariant.1) in
    let same = sym c.as_str.ensures.value ∙ c.same_text.ensures.0 c.if-not-same_text.false ∙ c.as_str-in-loop-n.ensures.value in (
      same_more string_bytes c.args.texts.now c.args.others.now c.loop-n.n c.index-texts-n.result c.index-others-n.result c.loop-n-test.true inside c.index-texts-n.is c.index-others-n.is same c.loop-n.invariant.0,
      c.loop-n.invariant.1,
    )
