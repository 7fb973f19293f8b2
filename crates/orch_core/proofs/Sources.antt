-- Each server's source is one of the servers, by the book's definitions.
use Rattle.std.proofs.Common.{◌≡◌, ℕ, ◌<◌, true, List, length, refl, subst, Some, arith, All, IfSome, slice_get, nat_lt}
use Rattle.orch_core.proofs.Prelude.{AllAllowed, Exchange, HasKnownSource, Server, SourceState, World, are_known, get_or_from_slice_get, nat_tests}
use Rattle.orch_core.proofs.Prelude.{run, slice_get_within, source_no, source_servers}
use Rattle.orch_core.proofs.Prelude.model
use Rattle.orch_core.proofs.Prelude.source

abbrev pub KnowsSources : List Server → Type 0
KnowsSources servers = All (HasKnownSource (length servers)) servers

pub source-at : (servers : List Server) (n : ℕ) (s : Server) → KnowsSources servers → slice_get servers n ≡ Some s → HasKnownSource (length servers) s
source-at servers n s all at =
    subst (HasKnownSource (length servers)) (get_or_from_slice_get servers n s s at) (all n s (slice_get_within servers n s at))

module _ (count : ℕ) where
  below : (from : SourceState) → are_known count (source_servers from) ≡ true → IfSome (source_no from) (λ m. m < count)
  below source.Without known = tt
  below (source.Attached m) known = grind (arith, nat_tests)
  below (source.Detached m) known = grind (arith, nat_tests)

  known : (from : SourceState) → IfSome (source_no from) (λ m. m < count) → are_known count (source_servers from) ≡ true
  known source.Without h = refl
  known (source.Attached m) h = let is : nat_lt m.0 count ≡ true = grind (arith, nat_tests) in rw is
  known (source.Detached m) h = let is : nat_lt m.0 count ≡ true = grind (arith, nat_tests) in rw is

-- over some exchanges
pub sources-run : (w : World) (es : List Exchange) → AllAllowed w es → KnowsSources w.servers → KnowsSources (run w es).servers
sources-run w es allowed all k d h =
    known (length (run w es).servers) _ (model.sources-run w es allowed (λ i x j. below (length w.servers) _ (all i x j)) k d h)
