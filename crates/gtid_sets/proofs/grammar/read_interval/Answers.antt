use Rattle.std.proofs.Common.{◌-◌, ◌^◌, min, List, ℕ, ap, ◌∙◌, option_map}
use Rattle.gtid_sets.proofs.Prelude.{number_at}
use Rattle.gtid_sets.proofs.Pieces.{read_both, read_no_first, read_no_last}
use Rattle.gtid_sets.proofs.grammar.read_interval.Goals as goal

pub returns-in-None-clause-is : goal.returns-in-None-clause-is
returns-in-None-clause-is c = read_no_first c.args.uuid c.args.offset c.args.text.now (c.in-None.ensures ∙ ap (λ (t : List ℕ). option_map (λ n. min n (2 ^ 64 - 1)) (number_at t)) c.ends.ensures.begin)

pub returns-in-None-number-clause-is : goal.returns-in-None-number-clause-is
returns-in-None-number-clause-is c =
    read_no_last c.args.uuid c.args.offset c.in-Some.first c.args.text.now (c.in-Some.ensures ∙ ap (λ (t : List ℕ). option_map (λ n. min n (2 ^ 64 - 1)) (number_at t)) c.ends.ensures.begin)
    (c.in-None-number.ensures ∙ ap (λ (t : List ℕ). option_map (λ n. min n (2 ^ 64 - 1)) (number_at t)) c.ends.ensures.end)

pub returns-in-Some-number-clause-is : goal.returns-in-Some-number-clause-is
returns-in-Some-number-clause-is c =
    c.interval_of.ensures.is ∙ read_both c.args.uuid c.args.offset c.args.text.now c.in-Some.first c.in-Some-number.last
    (c.in-Some.ensures ∙ ap (λ (t : List ℕ). option_map (λ n. min n (2 ^ 64 - 1)) (number_at t)) c.ends.ensures.begin)
    (c.in-Some-number.ensures ∙ ap (λ (t : List ℕ). option_map (λ n. min n (2 ^ 64 - 1)) (number_at t)) c.ends.ensures.end)
