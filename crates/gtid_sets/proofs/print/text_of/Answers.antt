use Rattle.std.proofs.Common.{◌+◌, ◌∷◌, ◌++◌, Some, List, ℕ, get_or, drop, ap, ◌∙◌}
use Rattle.gtid_sets.proofs.Prelude.{Interval, head_text, printed, range_text, texts}
use Rattle.gtid_sets.proofs.Texts.{texts_more, texts_all, texts_step, texts_end}
use Rattle.gtid_sets.proofs.print.text_of.Goals as goal

pub intervals-preserved : goal.intervals-preserved
intervals-preserved c =
    let d : Interval = record { uuid = 0; first = 0; last = 0 } in
    let xs = c.args.intervals.now in
    let i = c.intervals.interval-index in
    let s = get_or xs i d in
    texts_step (printed xs) c.intervals.text.items c.append_head.new.text.items c.append_range.new.text.items (head_text c.intervals.before s.uuid) (58 ∷ range_text s) (texts (Some s.uuid) (drop (i + 1) xs))
    (c.intervals.invariant ∙ ap (λ (t : List ℕ). c.intervals.text.items ++ t) (texts_more c.intervals.before xs i d c.intervals-test.true))
    c.in_ok-append_head.ensures c.in_ok-append_range.ensures

pub returns : goal.returns
returns c = texts_end (printed c.args.intervals.now) c.intervals.text.items _ c.intervals.invariant (texts_all c.intervals.before c.args.intervals.now c.intervals.interval-index c.intervals-test.false)
