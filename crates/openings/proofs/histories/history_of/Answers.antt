use Rattle.std.proofs.Common.{◌≡◌, ◌<◌, ◌∙◌, ap, arith, rules, replicate, length, drop, ◌∷◌, ◌+◌, subst, get_or, ℕ, ◌-◌, min}
use Rattle.openings.proofs.Prelude.{Part, drop_more, joined_by, length-replicate}
use Rattle.openings.proofs.Joined.{Takes, Takes-none, Takes-more, Takes-all, Takes-fits, CountsOwn-none, pair_of}
use Rattle.openings.proofs.histories.history_of.Goals as goal

pub loop-part-init : goal.loop-part-init
loop-part-init c =
    let origins = c.past_origins-origins.result in
    let zeros : c.in_ok-counts.counts.items ≡ replicate origins 0 = search rules in
    let own : c.as_mut_slice-own.result.now ≡ replicate origins 0 = c.as_mut_slice-own.ensures.value ∙ zeros in
    (rw c.in_ok-history.ensures.items (Takes-none c.args.parts.now c.args.count c.as_mut_slice-own.result.now (CountsOwn-none origins _ own)), search rules, ap length own ∙ length-replicate origins 0)

pub add_part-requires : goal.add_part-requires
add_part-requires c =
    let k = c.loop-part.part-index in
    let within : k < length c.args.parts.now = c.loop-part-test.true in
    let d : Part = record { origin = record { 0 = 0 }; size = 0; count = 0 } in
    let p : Part = get_or c.args.parts.now k d in
    let here : drop k c.args.parts.now ≡ p ∷ drop (k + 1) c.args.parts.now = drop_more c.args.parts.now k d within in
    let fits = Takes-fits c.args.parts.now c.args.count k p c.loop-part.history.items c.loop-part.own here c.loop-part.invariant.0 in
    let len = c.loop-part.history.ok.0 in
    let size : c.len.result ≡ length c.loop-part.history.items = omega (arith, c.len.ensures, len) in
    let is : c.min-taken.result ≡ min p.count (c.args.count - length c.loop-part.history.items) = c.min-taken.ensures ∙ ap (λ m. min p.count (c.args.count - m)) size in
    let all = c.requires.fits in
    let room = c.requires.room in
    let capacity = c.loop-part.invariant.1 in
    let same = c.loop-part.invariant.2 in
    record {
      origin = let part = (c.past_origins-origins.ensures k d within).origin in omega arith;
      counts = c.loop-part.invariant.0.counts;
      room = omega (arith, fits, is, all, capacity, len);
      few = omega (arith, fits, is, all, room, len);
    }

pub loop-part-preserved : goal.loop-part-preserved
loop-part-preserved c =
    let k = c.loop-part.part-index in
    let within : k < length c.args.parts.now = c.loop-part-test.true in
    let d : Part = record { origin = record { 0 = 0 }; size = 0; count = 0 } in
    let p : Part = get_or c.args.parts.now k d in
    let here : drop k c.args.parts.now ≡ p ∷ drop (k + 1) c.args.parts.now = drop_more c.args.parts.now k d within in
    let size : c.len.result ≡ length c.loop-part.history.items = omega (arith, c.len.ensures, c.loop-part.history.ok.0) in
    let is : c.min-taken.result ≡ min p.count (c.args.count - length c.loop-part.history.items) = c.min-taken.ensures ∙ ap (λ m. min p.count (c.args.count - m)) size in (
      Takes-more c.args.parts.now c.args.count k p c.loop-part.history.items c.add_part.new.history.items c.loop-part.own c.add_part.new.counts here c.loop-part.invariant.0
          (c.add_part.ensures.items ∙ ap (λ (m : ℕ). joined_by c.loop-part.history.items (replicate m (pair_of p))) is)
          c.add_part.ensures.counts,
      c.add_part.ensures.capacity ∙ c.loop-part.invariant.1,
      search rules,
    )

pub returns : goal.returns
returns c = record {
  history = let end : c.loop-part.part-index ≡ length c.args.parts.now = omega (arith, c.loop-part-test.false, c.loop-part.auto.part-index-end) in
      Takes-all c.args.parts.now c.args.count c.loop-part.history.items c.loop-part.own
      (subst (λ (k : ℕ). Takes c.args.parts.now c.args.count k c.loop-part.history.items c.loop-part.own) end c.loop-part.invariant.0);
  room = omega (arith, c.loop-part.invariant.1);
}
