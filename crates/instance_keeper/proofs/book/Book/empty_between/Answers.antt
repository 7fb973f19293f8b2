use Rattle.std.proofs.Common.{◌≡◌, ◌∙◌, ℕ, suc, List, Option, None, ap, add-one, length, arith}
use Rattle.instance_keeper.proofs.Prelude.{BookState, Instance, first_set, length-set}
use Rattle.instance_keeper.proofs.Reloads.{first_emptied}
use Rattle.instance_keeper.proofs.book.Book.empty_between.Goals as goal

pub loop-no-preserved : goal.loop-no-preserved
loop-no-preserved c =
    let no = c.loop-no.no in
    let before = c.loop-no.self in
    let emptied : first_set (suc no) c.empty_place.new.self ≡ first_set no before =
    ap (first_set (suc no)) c.empty_place.ensures ∙ ap (λ (xs : List (Option Instance)). record before { instances = xs }) (first_emptied no before.instances) in
    let here = c.loop-no-test.true in
    record {
      reached = omega (arith, here);
      after = ap (λ (k : ℕ). first_set k c.empty_place.new.self) (add-one no) ∙ (emptied ∙ c.loop-no.invariant.after);
      settings = ap (λ (b : BookState). b.settings) c.empty_place.ensures ∙ c.loop-no.invariant.settings;
      names = ap (λ (b : BookState). b.names) c.empty_place.ensures ∙ c.loop-no.invariant.names;
      places = ap (λ (b : BookState). length b.instances) c.empty_place.ensures ∙ (length-set before.instances no None ∙ c.loop-no.invariant.places);
    }

pub returns-clause-after : goal.returns-clause-after
returns-clause-after c =
    let past = c.loop-no-test.false in
    let reached = c.loop-no.invariant.reached in
    let all : c.args.to ≡ c.loop-no.no = omega (arith, past, reached) in
    ap (λ (k : ℕ). first_set k c.loop-no.self) all ∙ c.loop-no.invariant.after
