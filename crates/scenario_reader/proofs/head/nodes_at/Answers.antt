use Rattle.std.proofs.Common.{◌≡◌, ℕ, ◌≤◌, ◌⊎◌, inl, inr, Ok, arith, codes}
use Rattle.scenario_reader.proofs.Prelude.{Data, number-ok, number_in, optional-ok, view}
use Rattle.scenario_reader.proofs.head.nodes_at.Goals as goal

few : (n : ℕ) → (n ≡ 1) ⊎ ((v : Data) × (number_in 1 16 v ≡ Ok n)) → n ≤ 16
few n (inl same) = omega arith
few n (inr there) = (number-ok 1 16 there.0 n there.1).1

pub overflow_cast-result : goal.overflow_cast-result
overflow_cast-result c =
    let most = few c.in_ok-nodes.nodes (optional-ok (codes "nodes") (number_in 1 16) 1 (view c.args.object.now) c.in_ok-nodes.nodes c.in_ok-nodes.ensures) in
    omega (arith, most)
