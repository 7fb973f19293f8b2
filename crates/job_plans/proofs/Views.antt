-- How a job is seen after a step.
use Rattle.std.proofs.Common.{◌≡◌, ℕ, ◌+◌, ◌-◌, ◌*◌, List, [], ◌∷◌, length, sym, ◌∙◌, ap, drop, arith}
use Rattle.job_plans.proofs.Prelude.{Inside, Job, Match, Op, ServerNo, Sight, drop-drop, job_of, next, rest_of, turns_for, turns_left}

rest-is : (a : Inside) → drop (a.done + 1) a.ops.items ≡ rest_of (job_of a)
rest-is a = sym (drop-drop 1 a.done a.ops.items)

pub pass-view : (a : Inside) (j : Job) → j ≡ job_of a → job_of (record a { done = a.done + 1; waited = 0 }) ≡ next j (rest_of j)
pass-view a j is =
    ap (λ (xs : List Op). record (job_of a) { ops = xs; waited = 0 }) (rest-is a) ∙ ap (λ (k : Job). next k (rest_of k)) (sym is)

pub seen-view : (a : Inside) (j : Job) (xs : List Sight) → j ≡ job_of a
    → record (job_of a) { ops = drop (a.done + 1) a.ops.items; seen = xs; waited = 0 } ≡ next (record j { seen = xs }) (rest_of j)
seen-view a j xs is =
    ap (λ (ys : List Op). record (job_of a) { ops = ys; seen = xs; waited = 0 }) (rest-is a) ∙ ap (λ (k : Job). next (record k { seen = xs }) (rest_of k)) (sym is)

pub matches-view : (a : Inside) (j : Job) (ms : List Match) → j ≡ job_of a
    → record (job_of a) { ops = drop (a.done + 1) a.ops.items; matches = ms; waited = 0 } ≡ next (record j { matches = ms }) (rest_of j)
matches-view a j ms is =
    ap (λ (ys : List Op). record (job_of a) { ops = ys; matches = ms; waited = 0 }) (rest-is a) ∙ ap (λ (k : Job). next (record k { matches = ms }) (rest_of k)) (sym is)

pub hands-view : (a : Inside) (j : Job) (hs : List ServerNo) → j ≡ job_of a
    → record (job_of a) { ops = drop (a.done + 1) a.ops.items; waited = 0; hands = hs } ≡ record (next j (rest_of j)) { hands = hs }
hands-view a j hs is =
    ap (λ (ys : List Op). record (job_of a) { ops = ys; waited = 0; hands = hs }) (rest-is a) ∙ ap (λ (k : Job). record (next k (rest_of k)) { hands = hs }) (sym is)

turns-count : (wait : ℕ) (ops : List Op) → turns_for wait ops ≡ (wait + 1) * length ops
turns-count wait [] = omega arith
turns-count wait (op ∷ ops) = grind (arith, turns-count wait ops)

-- the turns that are left, by how many operations are
pub turns-view : (wait n waited : ℕ) (j : Job) → wait ≡ j.wait → n ≡ length j.ops → waited ≡ j.waited → ((wait + 1) * n) - waited ≡ turns_left j
turns-view wait n waited j each many so_far =
    ap (λ w. ((w + 1) * n) - waited) each ∙ ap (λ k. ((j.wait + 1) * k) - waited) many ∙ ap (λ m. ((j.wait + 1) * length j.ops) - m) so_far
    ∙ ap (λ k. k - j.waited) (sym (turns-count j.wait j.ops))
