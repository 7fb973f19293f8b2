use Rattle.std.proofs.Common.{◌≡◌, ◌∙◌, get_or, ap, subst}
use Rattle.command_line.proofs.Prelude.{IsUtf8}
use Rattle.command_line.proofs.Steps.{all_texts, bad_word, no_texts, one_more_text, utf8_behind}
use Rattle.command_line.proofs.options.texts_of.Goals as goal

pub returns-in-Err : goal.returns-in-Err
returns-in-Err c =
    let word : c.deref.result.now ≡ (get_or c.args.words.now c.loop-word.word-index c.word-item.result).items = c.deref.ensures.value ∙ ap (λ w. w.items) c.word-item.is in
    no_texts _ (bad_word c.args.words.now c.loop-word.word-index c.word-item.result c.loop-word-test.true (subst (λ bs. IsUtf8 bs → ⊥) word c.in-Err.ensures.cases.0) c.loop-word.invariant.utf8)

pub loop-word-preserved : goal.loop-word-preserved
loop-word-preserved c =
    let word : c.deref.result.now ≡ (get_or c.args.words.now c.loop-word.word-index c.word-item.result).items = c.deref.ensures.value ∙ ap (λ w. w.items) c.word-item.is in
    record {
      same = one_more_text c.loop-word.texts.items c.push.new.self.items c.in-Ok.text c.args.words.now c.loop-word.word-index c.word-item.result c.loop-word-test.true
          c.in_ok-push-in-Ok.ensures.items (c.in-Ok.ensures.cases.0 ∙ word) c.loop-word.invariant.same;
      utf8 = utf8_behind c.args.words.now c.loop-word.word-index c.word-item.result c.loop-word-test.true (subst IsUtf8 word c.in-Ok.ensures.cases.1) c.loop-word.invariant.utf8;
    }

pub returns : goal.returns
returns c = all_texts c.loop-word.texts.items c.args.words.now c.loop-word.word-index c.loop-word-test.false c.loop-word.invariant.same c.loop-word.invariant.utf8
