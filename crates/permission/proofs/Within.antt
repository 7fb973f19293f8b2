-- Servers that the book names are its servers, if the instances of a command are.
use Rattle.std.proofs.Common.{◌≡◌, ◌<◌, true, List, [], ◌∷◌, length, Option, Some, None, arith, All, IfSome, IsTrue, not, option_and_then}
use Rattle.permission.proofs.Prelude.{All-cons, All-filter, All-nil, Attached, BookState, Detached, IsBook, ServerNo, SourceState, Without, are_known}
use Rattle.permission.proofs.Prelude.{by_name, by_name-within, instance_at, is_given, is_replica_of, is_within, known-below, nat_tests}
use Rattle.permission.proofs.Prelude.{option_or, option_to_list, replicas_but, replicas_of, seen_source, siblings_of, siblings_under}
use Rattle.permission.proofs.Prelude.{source-known, source_above, source_in, source_of, source_servers}

-- the server that is there is one of the book's
abbrev pub Within : BookState → Option ServerNo → Type 0
Within b o = IfSome o (λ n. n.0 < length b.names)

-- each of a list is one of the book's
abbrev pub AllWithin : BookState → List ServerNo → Type 0
AllWithin b list = All (λ n. n.0 < length b.names) list

known-in : (b : BookState) (s : SourceState) → are_known (length b.names) (source_servers s) ≡ true → Within b (source_in s)
known-in b Without h = tt
known-in b (Attached m) h = known-below (length b.names) m.0 h
known-in b (Detached m) h = known-below (length b.names) m.0 h

pub source-within : (b : BookState) (n : ServerNo) → IsBook b → n.0 < length b.names → Within b (source_of b n)
source-within b n is below = known-in b (seen_source (instance_at b n)) (source-known b n is below)

pub or-within : (b : BookState) (o p : Option ServerNo) → Within b o → Within b p → Within b (option_or o p)
or-within b None p at_o at_p = at_p
or-within b (Some n) p at_o at_p = at_o

-- so is its source's source
pub above-within : (b : BookState) (n : ServerNo) → IsBook b → n.0 < length b.names → Within b (source_above b n)
above-within b n is below = go (source_of b n) (source-within b n is below)
  where
    go : (o : Option ServerNo) → Within b o → Within b (option_and_then (source_of b) o)
    go None at = tt
    go (Some x) at = source-within b x is at

pub given-within : (b : BookState) (o : Option ServerNo) → IsTrue (is_within (length b.names) o) → Within b o
given-within b None h = tt
given-within b (Some n) h = grind (arith, nat_tests)

-- ---- lists

pub none-within : (b : BookState) → AllWithin b []
none-within b = All-nil (λ (n : ServerNo). n.0 < length b.names)

pub cons-within : (b : BookState) (i : ServerNo) (list : List ServerNo) → i.0 < length b.names → AllWithin b list → AllWithin b (i ∷ list)
cons-within b i list at_i at_list = All-cons (λ (n : ServerNo). n.0 < length b.names) i list at_i at_list

pub option-within : (b : BookState) (o : Option ServerNo) → Within b o → AllWithin b (option_to_list o)
option-within b None at_o = none-within b
option-within b (Some x) at_o = cons-within b x [] at_o (none-within b)

pub replicas-within : (b : BookState) (i : ServerNo) → AllWithin b (replicas_of b i)
replicas-within b i = All-filter (is_replica_of b i) (λ (n : ServerNo). n.0 < length b.names) (by_name b.names) (by_name-within b.names)

pub but-within : (b : BookState) (i : ServerNo) (one : Option ServerNo) → AllWithin b (replicas_but b i one)
but-within b i one = All-filter (λ n. not (is_given n one)) (λ (n : ServerNo). n.0 < length b.names) (replicas_of b i) (replicas-within b i)

pub siblings-within : (b : BookState) (i : ServerNo) → AllWithin b (siblings_of b i)
siblings-within b i = under (source_of b i)
  where
    under : (x : Option ServerNo) → AllWithin b (siblings_under b i x)
    under None = none-within b
    under (Some x) = but-within b x (Some i)
