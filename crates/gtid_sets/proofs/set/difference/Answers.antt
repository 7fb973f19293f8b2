use Rattle.std.proofs.Common.{◌≡◌, ◌+◌, ◌<◌, ◌≤◌, get_or, length, leb, max, sym, ap, ◌∙◌, arith, ◌||◌, ◌&&◌}
use Rattle.gtid_sets.proofs.Prelude.{Interval, high, low, ltb-false, ltb-true, on_line, point}
use Rattle.gtid_sets.proofs.Line.{low_high, point_behind}
use Rattle.gtid_sets.proofs.Search.{same_point, ends_before}
use Rattle.gtid_sets.proofs.Sweep.{whole_piece, gap_piece, settled, none_before, part_is, part_low, past_more}
use Rattle.gtid_sets.proofs.set.difference.Goals as goal

pub sweep-init : goal.sweep-init
sweep-init c = record {
  i_in = omega arith;
  j_in = omega arith;
  has = λ x. none_before c.empty-rest.result x _ c.empty-rest.ensures;
  these = λ k d l r. absurd (omega arith);
  those = λ k d l r. absurd (omega arith);
  order = λ k d h. absurd (omega (arith, ap length c.empty-rest.ensures));
}

pub sweep-preserved-then-ends_before : goal.sweep-preserved-then-ends_before
sweep-preserved-then-ends_before c =
    let d : Interval = record { uuid = 0; first = 0; last = 0 } in
    let s = get_or c.args.these.now c.sweep.i d in
    let less = ltb-true _ _ (sym c.ends_before.ensures ∙ c.if-ends_before.true) in
    let up = low_high s (c.requires.these.each c.sweep.i d c.sweep-test.true) in
    record {
      i_in = omega arith;
      j_in = c.sweep.invariant.j_in;
      has = c.sweep.invariant.has;
      these = ends_before c.args.these.now c.sweep.i d (point c.sweep.front.uuid c.sweep.front.n) c.requires.these c.sweep-test.true (omega (arith, c.start_from-start.ensures));
      those = c.sweep.invariant.those;
      order = c.sweep.invariant.order;
    }

pub append-requires : goal.append-requires
append-requires c =
    let d : Interval = record { uuid = 0; first = 0; last = 0 } in
    let s = get_or c.args.these.now c.sweep.i d in
    let not_less = ltb-false _ _ (sym c.ends_before.ensures ∙ c.if-ends_before.false) in
    record {
      next =
          part_is s c.start_from-start.result.uuid c.start_from-start.result.n (c.requires.these.each c.sweep.i d c.sweep-test.true) (search arith) (omega (arith, c.start_from-start.ensures)) not_less;
      order =
          let at = part_low s c.start_from-start.result.uuid c.start_from-start.result.n (c.requires.these.each c.sweep.i d c.sweep-test.true) (search arith) (omega (arith, c.start_from-start.ensures)) not_less in
          λ k e h. let o = c.sweep.invariant.order k e h in omega (arith, c.start_from-start.ensures);
    }

pub sweep-preserved-then-is_clear : goal.sweep-preserved-then-is_clear
sweep-preserved-then-is_clear c =
    let d : Interval = record { uuid = 0; first = 0; last = 0 } in
    let these = c.args.these.now in
    let s = get_or these c.sweep.i d in
    let f = point c.sweep.front.uuid c.sweep.front.n in
    let from = point c.start_from-start.result.uuid c.start_from-start.result.n in
    let g = point c.behind-front.result.uuid c.behind-front.result.n in
    let not_less : from ≤ high s = ltb-false _ _ (sym c.ends_before.ensures ∙ c.if-ends_before.false) in
    let is_from : from ≡ max f (low s) = c.start_from-start.ensures in
    let at = part_low s c.start_from-start.result.uuid c.start_from-start.result.n (c.requires.these.each c.sweep.i d c.sweep-test.true) (search arith) (omega arith) not_less in
    let is_g : g ≡ high s + 1 = same_point c.behind-front.ensures.uuid c.behind-front.ensures.n ∙ point_behind s.uuid s.last in
    record {
      i_in = omega arith;
      j_in = c.sweep.invariant.j_in;
      has = whole_piece these c.args.those.now c.sweep.rest c.append.new.self c.sweep.i c.sweep.j d f from g c.requires.these c.requires.those c.sweep-test.true
          c.sweep.invariant.these c.sweep.invariant.those (c.if-is_clear.ensures.clear d) is_from is_g not_less c.sweep.invariant.has
          (λ x. c.in_ok-append.ensures.has x ∙ ap (λ a. on_line c.sweep.rest x || (leb a x && leb x (high s))) at);
      these = ends_before these c.sweep.i d g c.requires.these c.sweep-test.true (omega arith);
      those = past_more c.args.those.now c.sweep.j f g c.sweep.invariant.those (omega arith);
      order = c.in_ok-append.ensures.order g (omega arith);
    }

pub sweep-preserved : goal.sweep-preserved
sweep-preserved c =
    let d : Interval = record { uuid = 0; first = 0; last = 0 } in
    let these = c.args.these.now in
    let those = c.args.those.now in
    let s = get_or these c.sweep.i d in
    let t = get_or those c.sweep.j d in
    let f = point c.sweep.front.uuid c.sweep.front.n in
    let from = point c.start_from-start.result.uuid c.start_from-start.result.n in
    let g = point c.later-front.result.uuid c.later-front.result.n in
    let within : c.sweep.j < length those = c.if-is_clear.ensures.some in
    let not_less : from ≤ high s = ltb-false _ _ (sym c.ends_before.ensures ∙ c.if-ends_before.false) in
    let is_from : from ≡ max f (low s) = c.start_from-start.ensures in
    let behind : point c.behind.result.uuid c.behind.result.n ≡ high t + 1 = same_point c.behind.ensures.uuid c.behind.ensures.n ∙ point_behind t.uuid t.last in
    let is_g : g ≡ max from (high t + 1) = c.later-front.ensures ∙ ap (max from) behind in
    record {
      i_in = c.sweep.invariant.i_in;
      j_in = omega arith;
      has = gap_piece these those c.sweep.rest c.append_gap.new.rest c.sweep.i c.sweep.j d f from g c.requires.these c.requires.those c.sweep-test.true within
          c.sweep.invariant.these c.sweep.invariant.those (c.if-is_clear.ensures.meets d) is_from is_g not_less c.sweep.invariant.has c.in_ok-append_gap.ensures.has;
      these = past_more these c.sweep.i f g c.sweep.invariant.these (omega arith);
      those = ends_before those c.sweep.j d g c.requires.those within (omega arith);
      order = c.in_ok-append_gap.ensures.order g (omega arith);
    }

pub returns : goal.returns
returns c = settled c.args.these.now c.args.those.now c.sweep.rest c.sweep.i _ c.sweep-test.false c.sweep.invariant.these c.sweep.invariant.has
