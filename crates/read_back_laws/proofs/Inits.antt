-- The servers of a world as a scenario gives them: what is given of each, and which sources they have.
use Rattle.std.proofs.Common.{◌≡◌, ◌∙◌, ℕ, ◌<◌, cond, List, length, map, refl, sym, ap, subst, Option, Some, None, arith, option_map, slice_get}
use Rattle.read_back_laws.proofs.Prelude.{Attached, Detached, Grounded, IsLoopless, Safe, Server, ServerInit, ServerNo, SourceState, Txn, Without, World}
use Rattle.read_back_laws.proofs.Prelude.{count_of, init_by, init_of, laid, length-map, log_by, opened, parts_of, points_of, same_Some, server_at}
use Rattle.read_back_laws.proofs.Prelude.{slice_get-map, slice_get_within, source_in, source_no, source_of, sources}
use Rattle.scenarios.specs.Openings.Servers.{number_of}
use Rattle.read_back_laws.proofs.Prelude.Servers as listed
use Rattle.read_back_laws.proofs.Chains.{never_back}
use Rattle.read_back_laws.proofs.OpenedParts.{transactions-parts}

-- ---- one server

pub source-no : (x : SourceState) → number_of (source_in x) ≡ source_no x
source-no Without = refl
source-no (Attached m) = refl
source-no (Detached m) = refl

pub settings-by : (s : Server) (o : Option ServerNo) → (init_by s o).settings ≡ s.settings
settings-by s None = refl
settings-by s (Some m) = refl

pub init-settings : (s : Server) → (init_of s).settings ≡ s.settings
unfolding init_of
init-settings s = settings-by s (source_in s.source)

source-by : (s : Server) (o : Option ServerNo) → (init_by s o).source ≡ o
source-by s None = refl
source-by s (Some m) = refl

pub init-source : (s : Server) → (init_of s).source ≡ source_in s.source
unfolding init_of
init-source s = source-by s (source_in s.source)

-- the number of the source
pub init-number : (s : Server) → number_of (init_of s).source ≡ source_no s.source
init-number s = ap number_of (init-source s) ∙ source-no s.source

flushes-by : (s : Server) (o : Option ServerNo) → (init_by s o).flushes ≡ points_of s
flushes-by s None = refl
flushes-by s (Some m) = refl

pub init-flushes : (s : Server) → (init_of s).flushes ≡ points_of s
unfolding init_of
init-flushes s = flushes-by s (source_in s.source)

purged-by : (s : Server) (o : Option ServerNo) → (init_by s o).purged ≡ s.first
purged-by s None = refl
purged-by s (Some m) = refl

pub init-purged : (s : Server) → (init_of s).purged ≡ s.first
unfolding init_of
init-purged s = purged-by s (source_in s.source)

-- how many transactions it has executed
count-by : (s : Server) (o : Option ServerNo) → count_of (init_by s o) ≡ length s.history.txns
count-by s None = transactions-parts s.history.txns
count-by s (Some m) = refl

pub init-count : (s : Server) → count_of (init_of s) ≡ length s.history.txns
unfolding init_of
init-count s = count-by s (source_in s.source)

-- its parts, if it has no source
parts-by : (s : Server) (o : Option ServerNo) → number_of o ≡ None → listed.parts_of (init_by s o) ≡ parts_of s.history.txns
parts-by s None none = refl
parts-by s (Some m) none = cc

pub init-parts : (s : Server) → source_no s.source ≡ None → listed.parts_of (init_of s) ≡ parts_of s.history.txns
unfolding init_of
init-parts s none = parts-by s (source_in s.source) (source-no s.source ∙ none)

-- its log
log-by : (s : Server) (o : Option ServerNo) (history : List Txn) → log_by (init_by s o) history ≡ cond s.settings.logs (laid s.settings.limit (points_of s) history) (opened s.settings.limit)
log-by s None history = refl
log-by s (Some m) history = refl

pub init-log : (s : Server) (history : List Txn) → log_by (init_of s) history ≡ cond s.settings.logs (laid s.settings.limit (points_of s) history) (opened s.settings.limit)
unfolding init_of
init-log s history = log-by s (source_in s.source) history

-- ---- all of them

abbrev pub inits : World → List ServerInit
inits w = map init_of w.servers

-- the server that is given at a number
pub record IsGiven (w : World) (n : ℕ) (i : ServerInit) : Type 0 where
  pub server : Server
  pub there : server_at w n ≡ Some server
  pub is : i ≡ init_of server

module _ (w : World) where
  pub init-at : (n : ℕ) (s : Server) → server_at w n ≡ Some s → slice_get (inits w) n ≡ Some (init_of s)
  init-at n s at = slice_get-map init_of w.servers n ∙ ap (option_map init_of) at

  pub init-none : (n : ℕ) → server_at w n ≡ None → slice_get (inits w) n ≡ None
  init-none n none = slice_get-map init_of w.servers n ∙ ap (option_map init_of) none

  pub init-from : (n : ℕ) (i : ServerInit) → slice_get (inits w) n ≡ Some i → IsGiven w n i
  init-from n i at = go (server_at w n) refl
    where
      go : (o : Option Server) → server_at w n ≡ o → IsGiven w n i
      go None none = let never : None ≡ Some i = sym (init-none n none) ∙ at in cc
      go (Some s) there = record { server = s; there = there; is = same_Some i (init_of s) (sym at ∙ init-at n s there) }

  pub length-inits : length (inits w) ≡ length w.servers
  length-inits = length-map w.servers init_of

  pub source-given : (n : ℕ) → listed.sources (inits w) n ≡ sources w n
  source-given n = go (server_at w n) refl
    where
      go : (o : Option Server) → server_at w n ≡ o → listed.sources (inits w) n ≡ sources w n
      go None none = ap listed.source_of (init-none n none) ∙ sym (ap source_of none)
      go (Some s) at = ap listed.source_of (init-at n s at) ∙ init-number s ∙ sym (ap source_of at)

  module _ (safe : Safe w) where
    pub grounded-given : (n : ℕ) → Grounded (listed.sources (inits w)) n
    grounded-given n = subst (λ (up : ℕ → Option ℕ). Grounded up n) (λ i m. sym (source-given m) i) (safe.grounded n)

    source-below : (n m : ℕ) (o : Option Server) → server_at w n ≡ o → source_of o ≡ Some m → m < length w.servers
    source-below n m None at from = cc
    source-below n m (Some s) at from = let source = safe.logging n m s at from in slice_get_within w.servers m source.0 source.1

    -- no server comes back to itself
    pub loopless-given : IsLoopless (listed.sources (inits w)) (length (inits w))
    loopless-given = record {
      from = λ n m e. let below = source-below n m (server_at w n) refl (sym (source-given n) ∙ e) in omega (arith, below, length-inits);
      never = λ n. never_back (listed.sources (inits w)) (length (inits w)) n (grounded-given n);
    }
