-- What the servers of a dump have executed.
use Rattle.std.proofs.Common.{◌≡◌, ◌∙◌, ℕ, ◌<◌, ◌≤◌, List, length, take, refl, sym, ap, subst, Option, Some, None, arith, slice_get}
use Rattle.read_back_laws.proofs.Prelude.{AttachedWell, Grounded, IsNumbered, Root, Safe, Server, Txn, Under, World, count_at, histories, history_at}
use Rattle.read_back_laws.proofs.Prelude.{history_of, init_of, length-take, listed_history, parts_at, reached_from-root, root_of, same-end, server_at}
use Rattle.read_back_laws.proofs.Prelude.{slice_get_within, source_no, source_of, take-take, take_all}
use Rattle.read_back_laws.proofs.Prelude.Servers as listed
use Rattle.read_back_laws.proofs.Inits.{grounded-given, init-at, init-count, init-none, init-parts, inits, length-inits, loopless-given, source-given}
use Rattle.read_back_laws.proofs.OpenedParts.{listed_history-parts}

-- a replica has executed no more than its source
pub prefix-within : (r s : Server) → AttachedWell r s → length r.history.txns ≤ length s.history.txns
prefix-within r s well =
    let front : length (take (length r.history.txns) s.history.txns) ≡ length r.history.txns = ap length well.prefix in
    omega (arith, front, length-take (length r.history.txns) s.history.txns)

module _ (w : World) (safe : Safe w) where
  -- the transactions of each origin are numbered in order
  pub numbered-own : (n : ℕ) (s : Server) → server_at w n ≡ Some s → IsNumbered s.history.txns
  numbered-own n s at =
      subst (λ xs. IsNumbered xs) (ap history_of at) (λ k t h. safe.kin.numbered n k t h)

  -- what a server without a source lists is its history
  pub listed-own : (n : ℕ) (s : Server) → server_at w n ≡ Some s → source_no s.source ≡ None → listed_history (listed.parts_of (init_of s)) ≡ s.history.txns
  listed-own n s at none = ap listed_history (init-parts s none) ∙ listed_history-parts s.history.txns (numbered-own n s at)

  abbrev top : ℕ → List Txn
  top n = listed_history (parts_at (slice_get (inits w) (root_of (inits w) n)))

  history-front : (n : ℕ) (s : Server) → server_at w n ≡ Some s → history_at (inits w) n ≡ take (length s.history.txns) (top n)
  history-front n s at = ap (λ o. take (count_at o) (top n)) (init-at w n s at) ∙ ap (λ k. take k (top n)) (init-count s)

  history-by : (n : ℕ) (s : Server) → Grounded (listed.sources (inits w)) n → server_at w n ≡ Some s → history_at (inits w) n ≡ s.history.txns
  history-by n s (Root n' none) at =
      let root : root_of (inits w) n ≡ n = reached_from-root (listed.sources (inits w)) (length (inits w)) n none in
      let alone : source_no s.source ≡ None = sym (ap source_of at) ∙ sym (source-given w n) ∙ none in
      let own : top n ≡ s.history.txns =
      ap (λ m. listed_history (parts_at (slice_get (inits w) m))) root ∙ ap (λ o. listed_history (parts_at o)) (init-at w n s at) ∙ listed-own n s at alone in
      history-front n s at ∙ ap (take (length s.history.txns)) own ∙ take_all (length s.history.txns) s.history.txns (omega arith)
  history-by n s (Under n' m e g) at =
      let from : source_no s.source ≡ Some m = sym (ap source_of at) ∙ sym (source-given w n) ∙ e in
      let above = safe.logging n m s at from in
      let source : Server = above.0 in
      let well : AttachedWell s source = safe.well n m s source at from above.1 in
      let few : length s.history.txns ≤ length source.history.txns = prefix-within s source well in
      let within : n < length (inits w) = omega (arith, slice_get_within w.servers n s at, length-inits w) in
      let root : root_of (inits w) n ≡ root_of (inits w) m = same-end (listed.sources (inits w)) (length (inits w)) (loopless-given w safe) n m within e in
      let tops : top n ≡ top m = ap (λ k. listed_history (parts_at (slice_get (inits w) k))) root in
      history-front n s at ∙ ap (take (length s.history.txns)) tops
      ∙ sym (take-take (length s.history.txns) (length source.history.txns) (top m) few)
      ∙ ap (take (length s.history.txns)) (sym (history-front m source above.1) ∙ history-by m source g above.1)
      ∙ well.prefix

  -- each server of the dump has executed what it has executed
  pub history-own : (n : ℕ) (s : Server) → server_at w n ≡ Some s → history_at (inits w) n ≡ s.history.txns
  history-own n s at = history-by n s (grounded-given w safe n) at

  pub history-given : (n : ℕ) → history_at (inits w) n ≡ histories w n
  history-given n = go (server_at w n) refl
    where
      go : (o : Option Server) → server_at w n ≡ o → history_at (inits w) n ≡ histories w n
      go None none = ap (λ o. take (count_at o) (top n)) (init-none w n none) ∙ sym (ap history_of none)
      go (Some s) at = history-own n s at ∙ sym (ap history_of at)
