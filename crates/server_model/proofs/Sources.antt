-- No exchange leaves a server under a source that isn't one of the servers.
use Rattle.std.proofs.Common.{◌≡◌, ℕ, ◌<◌, List, [], ◌∷◌, length, sym, subst, Some, All, IfSome, slice_get, slice_set}
use Rattle.server_model.proofs.Prelude.{All-set, AllAllowed, Allowed, Ask, Event, Exchange, Server, SourceState, World, after, get_or_from_slice_get}
use Rattle.server_model.proofs.Prelude.{length-set, own_txn, run, slice_get_within, source_no, took}
use Rattle.server_model.proofs.Changes as changes
use Rattle.server_model.proofs.Changes.{Becomes, Leaves, leaves, Asked, Befallen}

-- the server's source, if it has one, is one of so many servers
abbrev pub HasSourceOf : ℕ → Server → Type 0
HasSourceOf count s = IfSome (source_no s.source) (λ m. m < count)

-- each server's source is one of the servers
abbrev pub HaveSources : List Server → Type 0
HaveSources servers = All (HasSourceOf (length servers)) servers

pub source-at : (servers : List Server) (n : ℕ) (s : Server) → HaveSources servers → slice_get servers n ≡ Some s → HasSourceOf (length servers) s
source-at servers n s all at =
    subst (HasSourceOf (length servers)) (get_or_from_slice_get servers n s s at) (all n s (slice_get_within servers n s at))

-- another server whose source is known
pub sources-set : (servers : List Server) (n : ℕ) (s : Server) → HaveSources servers → HasSourceOf (length servers) s → HaveSources (slice_set servers n s)
sources-set servers n s all has =
    subst (λ (count : ℕ). All (HasSourceOf count) (slice_set servers n s)) (sym (length-set servers n s))
    (All-set (HasSourceOf (length servers)) servers n s has all)

asked-known : (count : ℕ) (s : Server) (a : Ask) (t : Server) → Asked s a t → HasSourceOf count s → HasSourceOf count t
asked-known count s a t (changes.Detaches m is) known = subst (λ (from : SourceState). IfSome (source_no from) (λ k. k < count)) is known
asked-known count s a t (changes.Reattaches m is) known = subst (λ (from : SourceState). IfSome (source_no from) (λ k. k < count)) is known
asked-known count s a t changes.Resets known = tt
asked-known count s a t _ known = known

befallen-known : (count : ℕ) (s : Server) (e : Event) (t : Server) → Befallen s e t → HasSourceOf count s → HasSourceOf count t
befallen-known count s e t changes.Unharmed known = known
befallen-known count s e t _ known = known

-- a change of one server keeps its source one of the servers
known-becomes : (w : World) (n : ℕ) (s : Server) (e : Exchange) (t : Server) → Allowed w e → Becomes w n s e t → HasSourceOf (length w.servers) s → HasSourceOf (length w.servers) t
known-becomes w n s e t allowed (changes.Asks a x does) known = asked-known (length w.servers) s a x does known
known-becomes w n s e t allowed (changes.Befalls x y does) known = befallen-known (length w.servers) s x y does known
known-becomes w n s e t allowed (changes.Attaches expect to at is) known = slice_get_within w.servers to.0 allowed.target allowed.there
known-becomes w n s e t allowed (changes.AttachesAuto observed to is) known = slice_get_within w.servers to.0 allowed.target allowed.there
known-becomes w n s e t allowed _ known = known

sources-leaves : (w : World) (e : Exchange) (w' : World) → Allowed w e → Leaves w e w' → HaveSources w.servers → HaveSources w'.servers
sources-leaves w e w' allowed changes.Still all = all
sources-leaves w e w' allowed (changes.Writes n size s seq at is) all = sources-set w.servers n (took s (own_txn n seq size)) all (source-at w.servers n s all at)
sources-leaves w e w' allowed (changes.Puts n s t at change) all = sources-set w.servers n t all (known-becomes w n s e t allowed change (source-at w.servers n s all at))

pub sources-after : (w : World) (e : Exchange) → Allowed w e → HaveSources w.servers → HaveSources (after w e).servers
sources-after w e allowed all = sources-leaves w e (after w e) allowed (leaves w e) all

-- over some exchanges
pub sources-run : (w : World) (es : List Exchange) → AllAllowed w es → HaveSources w.servers → HaveSources (run w es).servers
sources-run w [] allowed all = all
sources-run w (e ∷ es) allowed all = sources-run (after w e) es allowed.1 (sources-after w e allowed.0 all)
