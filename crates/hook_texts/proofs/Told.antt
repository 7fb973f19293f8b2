-- What the placeholders of a server and of an outcome give.
use Rattle.std.proofs.Common.{◌≡◌, true, false, ◌∷◌, ◌++◌, cond, Some, None, ap, ◌∙◌, codes, decimal}
use Rattle.std.proofs.lemmas.List.{append-nil}
use Rattle.orch_base.specs.Names.{HostPort, printed}
use Rattle.hook_texts.specs.declared.values.Values.{Values}
use Rattle.hook_texts.specs.Expanded.{expanded, expanded_behind, host_in, placeholder_at, port_in}

pub failure_told : (v : Values) → expanded v (codes "{failureType} {failureCluster} {failureClusterAlias}") ≡ v.failure_type ++ 32 ∷ (v.cluster ++ 32 ∷ v.alias)
unfolding expanded_behind placeholder_at
failure_told v = ap (λ xs. v.failure_type ++ 32 ∷ (v.cluster ++ 32 ∷ xs)) (append-nil v.alias)

pub failed_told : (v : Values) → expanded v (codes "{failedHost}:{failedPort}") ≡ printed v.failed
unfolding expanded_behind placeholder_at
failed_told v = ap (λ xs. v.failed.host ++ 58 ∷ xs) (append-nil (decimal v.failed.port))

pub successor_told : (v : Values) (name : HostPort) → v.successor ≡ Some name → expanded v (codes "{successorHost}:{successorPort}") ≡ printed name
unfolding expanded_behind placeholder_at
successor_told v name is =
    ap (λ o. host_in o ++ 58 ∷ (port_in o ++ codes "")) is ∙ ap (λ xs. name.host ++ 58 ∷ xs) (append-nil (decimal name.port))

pub nobody_told : (v : Values) → v.successor ≡ None → expanded v (codes "{successorHost}{successorPort}") ≡ codes ""
unfolding expanded_behind placeholder_at
nobody_told v is = ap (λ o. host_in o ++ (port_in o ++ codes "")) is

pub successful_told : (v : Values) → v.successful ≡ true → expanded v (codes "{isSuccessful}") ≡ codes "true"
unfolding expanded_behind placeholder_at
successful_told v is = ap (λ b. cond b (codes "true") (codes "false") ++ codes "") is

pub unsuccessful_told : (v : Values) → v.successful ≡ false → expanded v (codes "{isSuccessful}") ≡ codes "false"
unfolding expanded_behind placeholder_at
unsuccessful_told v is = ap (λ b. cond b (codes "true") (codes "false") ++ codes "") is
