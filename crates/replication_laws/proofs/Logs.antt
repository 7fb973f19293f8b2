use Rattle.std.proofs.Common.{◌≡◌, ℕ, ◌<◌, Bool, true, false, cond, List, [], ◌∷◌, ◌++◌, ◌+◌, length, length-append, refl, sym, ◌∙◌, ap, subst, inl, inr, Some, arith, slice_get}
use Rattle.replication_laws.proofs.Prelude.{Coord, Flushed, GoesOn, Grown, LaysOut, Log, Opened, Server, Took, Txn, length-push, place, push}
use Rattle.replication_laws.proofs.Prelude.{slice_get-snoc_cases, stable_push, take-append_seam, took}
use Rattle.replication_laws.proofs.Prelude.grown

pub LaysOut-Grown : (history : List Txn) (log : Log) → LaysOut history log → Grown log
LaysOut-Grown history log (Opened limit) = grown.Opened limit
LaysOut-Grown history log (Took old before t some l) = grown.Pushed before t.size some (LaysOut-Grown old before l)
LaysOut-Grown history log (Flushed history' before l) = grown.Flushed before (LaysOut-Grown history' before l)

-- a server that takes a transaction goes on
pub GoesOn-took : (s : Server) (t : Txn) → 0 < t.size → (s.settings.logs ≡ true → LaysOut s.history.txns s.log.log) → GoesOn s (took s t)
GoesOn-took s t some laid = record {
  settings = refl;
  prefix = take-append_seam s.history.txns (t ∷ []);
  places = λ c k h. go s.settings.logs refl c k h;
  first = omega arith;
}
  where
    go : (b : Bool) → s.settings.logs ≡ b → (c : Coord) (k : ℕ) → place s.log.log c ≡ Some k → place (cond b (record s.log { log = push s.log.log t.size; txns = s.log.txns ++ t ∷ [] }) s.log).log c ≡ Some k
    go true logs c k h = stable_push s.log.log t.size c k (LaysOut-Grown s.history.txns s.log.log (laid logs)) some h
    go false logs c k h = h

pub LaysOut-took : (s : Server) (t : Txn) → 0 < t.size → (s.settings.logs ≡ true → LaysOut s.history.txns s.log.log) → s.settings.logs ≡ true → LaysOut (took s t).history.txns (took s t).log.log
LaysOut-took s t some laid logs =
    subst (λ (b : Bool). LaysOut (s.history.txns ++ t ∷ []) (cond b (record s.log { log = push s.log.log t.size; txns = s.log.txns ++ t ∷ [] }) s.log).log) (sym logs) (Took s.history.txns s.log.log t some (laid logs))

-- each transaction of a history that is laid out has a size
pub LaysOut-size : (history : List Txn) (log : Log) → LaysOut history log → (i : ℕ) (t : Txn) → slice_get history i ≡ Some t → 0 < t.size
LaysOut-size history log (Opened limit) i t h = cc
LaysOut-size history log (Took old before u some l) i t h =
    elim (slice_get-snoc_cases old u t i h) [ inl was ↦ LaysOut-size old before l i t was | inr new ↦ subst (λ (x : Txn). 0 < x.size) (sym new.1) some ]
LaysOut-size history log (Flushed history' before l) i t h = LaysOut-size history' before l i t h

-- the log of a history has its transactions
pub LaysOut-length : (history : List Txn) (log : Log) → LaysOut history log → length log.entries ≡ length history
LaysOut-length history log (Opened limit) = refl
LaysOut-length history log (Took old before t some l) =
    let more = LaysOut-length old before l in
    length-push before t.size ∙ ap (λ k. k + 1) more ∙ sym (length-append old (t ∷ []))
LaysOut-length history log (Flushed history' before l) = LaysOut-length history' before l
