-- The operations of a plan, and the leases, are of the book's servers, if the command's instances are.
use Rattle.std.proofs.Common.{◌≡◌, ℕ, ◌<◌, true, List, [], ◌∷◌, length, refl, Option, Some, None}
use Rattle.std.specs.Prelude.{IsTrue}
use Rattle.pseudo_match.proofs.Prelude.{All-append, AllWithin, BookState, Command, Follows, IsBook, MatchCommand, ServerNo, Within, about, about-is}
use Rattle.pseudo_match.proofs.Prelude.{above-within, are_named, but-within, cons-within, finished-named, following, given-within, is_within, list_of}
use Rattle.pseudo_match.proofs.Prelude.{matching, matching-named, matchings, matchings-named, moved, ops_of, option-within, option_to_list}
use Rattle.pseudo_match.proofs.Prelude.{replicas-within, replicas_but, replicas_moved, replicas_of, source-within, source_above, source_of}
use Rattle.pseudo_match.proofs.Prelude.{sources_over}
use Rattle.pseudo_match.proofs.Prelude.command

module _ (b : BookState) (every : ℕ) where
  moved-named : (i : ServerNo) (d : Option ServerNo) → i.0 < length b.names → are_named (length b.names) (moved i every d) ≡ true
  moved-named i None at_i = refl
  moved-named i (Some d) at_i = finished-named (length b.names) (matching i d every) (Follows i d ∷ []) (matching-named (length b.names) i d every at_i)

  replicas-named : (rs : List ServerNo) (d : Option ServerNo) → AllWithin b rs → are_named (length b.names) (replicas_moved rs every d) ≡ true
  replicas-named rs None at_rs = refl
  replicas-named rs (Some d) at_rs = finished-named (length b.names) (matchings rs d every) (following rs d) (matchings-named (length b.names) rs d every at_rs)

  ops-named : (c : MatchCommand) (i : ServerNo) (d : Option ServerNo) → i.0 < length b.names → are_named (length b.names) (ops_of b every c i d) ≡ true
  ops-named command.Match i d at_i = moved-named i d at_i
  ops-named command.MatchUp i d at_i = moved-named i (source_above b i) at_i
  ops-named command.MatchReplicas i d at_i = replicas-named (replicas_but b i d) d (but-within b i d)
  ops-named command.RegroupReplicas i d at_i = refl

pub plan-named : (b : BookState) (every : ℕ) (kind : Option MatchCommand) (command : Command) → IsTrue (is_within (length b.names) command.i) → are_named (length b.names) (about [] (ops_of b every) kind command) ≡ true
plan-named b every kind command at_i =
    about-is (λ ops. are_named (length b.names) ops ≡ true) [] (ops_of b every) b command refl (given-within b command.i at_i)
    (λ c i at. ops-named b every c i command.d at) kind

-- ---- leases

over-within : (b : BookState) (i : ServerNo) → IsBook b → i.0 < length b.names → AllWithin b (sources_over b i)
over-within b i is at_i =
    All-append (λ (n : ServerNo). n.0 < length b.names) (option_to_list (source_of b i)) (option_to_list (source_above b i))
    (option-within b (source_of b i) (source-within b i is at_i)) (option-within b (source_above b i) (above-within b i is at_i))

pub list-within : (b : BookState) → IsBook b → (c : MatchCommand) (i : ServerNo) (d : Option ServerNo) → i.0 < length b.names → Within b d → AllWithin b (list_of b c i d)
list-within b is command.Match i d at_i at_d = cons-within b i (option_to_list d) at_i (option-within b d at_d)
list-within b is command.MatchUp i d at_i at_d = cons-within b i (sources_over b i) at_i (over-within b i is at_i)
list-within b is command.MatchReplicas i d at_i at_d =
    All-append (λ (n : ServerNo). n.0 < length b.names) (replicas_but b i d) (option_to_list d) (but-within b i d) (option-within b d at_d)
list-within b is command.RegroupReplicas i d at_i at_d = cons-within b i (replicas_of b i) at_i (replicas-within b i)
