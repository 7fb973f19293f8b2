-- No history of a run without errant writes gets full.
use Rattle.std.proofs.Common.{◌≡◌, ℕ, ◌+◌, ◌<◌, ◌≤◌, Bool, true, false, cond, not, List, [], ◌∷◌, length, take, refl, sym, ◌∙◌, ap, subst, inl, inr, Option, Some, None, arith, length-append, zero, suc, count_by, slice_get, nat_le}
use Rattle.replication_laws.proofs.Prelude.{AllAllowed, AllFit, AllJoinWell, Apply, ApplyStep, Coord, Exchange, Fitting, IsNotFull, IsQuiet, Safe}
use Rattle.replication_laws.proofs.Prelude.{Server, Txn, World, Write, after, apply_answer, apply_step, count_own, is_write, nat_tests, own_txn, run}
use Rattle.replication_laws.proofs.Prelude.{same_Some, server_at, slice_get_within, sum_by-cons, took, with_server, write_answer}
use Rattle.replication_laws.proofs.Prelude.answers
use Rattle.replication_laws.proofs.Prelude.wrote
use Rattle.replication_laws.proofs.Prelude.applying
use Rattle.server_model.proofs.Changes as changes
use Rattle.replication_laws.proofs.Applies.{Taking, Facing, Fills, Executes, Facing-step, after_executed}
use Rattle.replication_laws.proofs.Histories.{tick}
use Rattle.replication_laws.proofs.Keeping.{at_cases, Placed-safe}
use Rattle.replication_laws.proofs.Moves.{Same-asked, Same-befallen}
use Rattle.replication_laws.proofs.Runs.{Safe-after, quiet-run}
use Rattle.server_model.proofs.Changes.{Becomes, Leaves, leaves}

module _ (room total : ℕ) (w : World) (fit : AllFit room total w) where
  AllFit-more : (more : ℕ) → AllFit room (total + more) w
  AllFit-more more = λ n s at. let f = fit n s at in record { room_is = f.room_is; within = omega (arith, f.within) }

  AllFit-with : (more n : ℕ) (s s' : Server) → server_at w n ≡ Some s → Fitting room (total + more) s' → AllFit room (total + more) (with_server w n s')
  AllFit-with more n s s' here f = λ m t at.
      elim (at_cases w n s s' here m t at) [
        | inl new ↦ subst (Fitting room (total + more)) (sym new.1) f
        | inr old ↦ AllFit-more more m t old.1
      ]

  -- what is to be executed is in another history
  due-within : (n : ℕ) (r : Server) → server_at w n ≡ Some r → Safe w → (t : Txn) (to : Coord) → Taking w r t to → length r.history.txns < total
  due-within n r at safe t to due =
      omega (arith, (fit due.number due.source due.source_at).within, slice_get_within due.source.history.txns (length r.history.txns) t (after_executed w n r safe at t to due))

  due-by : (r : Server) (t : Txn) (to : Coord) → Facing w r (applying.Execute t to) → Taking w r t to
  due-by r t to (Executes x d due) = due

  -- a change that leaves the history fits as before
  fits-still : (n : ℕ) (s : Server) → server_at w n ≡ Some s → (more : ℕ) (t : Server) → t.history ≡ s.history → Fitting room (total + more) t
  fits-still n s at more t same = let f = fit n s at in record { room_is = ap (λ h. h.room) same ∙ f.room_is; within = rw same (omega (arith, f.within)) }

  fits-becomes : Safe w → (n : ℕ) (s : Server) → server_at w n ≡ Some s → (e : Exchange) (t : Server) → Becomes w n s e t → Fitting room (total + tick (is_write e)) t
  fits-becomes safe n s at e t (changes.Executes x to is) =
      let f = fit n s at in
      let due = due-by s x to (subst (Facing w s) is (Facing-step w n s at (Placed-safe w safe))) in
      record { room_is = f.room_is; within = omega (arith, due-within n s at safe x to due, length-append s.history.txns (x ∷ [])) }
  fits-becomes safe n s at e t (changes.Asks a x does) = fits-still n s at 0 t (Same-asked a s x does).history
  fits-becomes safe n s at e t (changes.Befalls x y does) = fits-still n s at 0 t (Same-befallen x s y does).history
  fits-becomes safe n s at e t _ = fits-still n s at 0 t refl

  AllFit-leaves : Safe w → (e : Exchange) (w' : World) → Leaves w e w' → AllFit room (total + tick (is_write e)) w'
  AllFit-leaves safe e w' changes.Still = AllFit-more (tick (is_write e))
  AllFit-leaves safe e w' (changes.Writes n size s seq at is) =
      let f = fit n s at in
      AllFit-with 1 n s (took s (own_txn n seq size)) at
      (record { room_is = f.room_is; within = omega (arith, f.within, length-append s.history.txns (own_txn n seq size ∷ [])) })
  AllFit-leaves safe e w' (changes.Puts n s t at change) = AllFit-with (tick (is_write e)) n s t at (fits-becomes safe n s at e t change)

  -- there is room
  not_full-write : (n : ℕ) (o : Option Server) → server_at w n ≡ o → total < room → write_answer n o ≡ wrote.Full → ⊥
  not_full-write n None at more h = cc
  not_full-write n (Some s) at more h = go s.up s.read_only (nat_le s.history.room (length s.history.txns)) refl h
    where
      go : (up read_only full : Bool) → nat_le s.history.room (length s.history.txns) ≡ full
          → cond (not up) wrote.Down (cond read_only wrote.ReadOnly (cond full wrote.Full (wrote.Done (count_own n s.history.txns + 1)))) ≡ wrote.Full → ⊥
      go true false true is e =
          let f = fit n s at in
          let le : s.history.room ≤ length s.history.txns = grind (arith, nat_tests) in
          absurd (omega (arith, le, f.room_is, f.within))
      go _ _ _ is e = cc

  not_full-step : (n : ℕ) (r : Server) → server_at w n ≡ Some r → total ≤ room → Safe w → (x : ApplyStep) → Facing w r x → apply_answer x ≡ answers.Full → ⊥
  not_full-step n r at more safe x (Fills t to due full) h = absurd (omega (arith, full, (fit n r at).room_is, due-within n r at safe t to due))
  not_full-step n r at more safe x _ h = cc

  not_full-apply : (n : ℕ) (o : Option Server) → server_at w n ≡ o → total ≤ room → Safe w → apply_answer (apply_step w o) ≡ answers.Full → ⊥
  not_full-apply n None at more safe h = cc
  not_full-apply n (Some r) at more safe h = not_full-step n r at more safe (apply_step w (Some r)) (Facing-step w n r at (Placed-safe w safe)) h

AllFit-after : (room total : ℕ) (w : World) → AllFit room total w → Safe w → (e : Exchange) → AllFit room (total + tick (is_write e)) (after w e)
AllFit-after room total w fit safe e = AllFit-leaves room total w fit safe e (after w e) (leaves w e)

not_full-here : (room total : ℕ) (w : World) → AllFit room total w → Safe w → (e : Exchange) → total + tick (is_write e) ≤ room → IsNotFull w e
not_full-here room total w fit safe (Write n size) more = not_full-write room total w fit n (server_at w n) refl (omega arith)
not_full-here room total w fit safe (Apply n) more = not_full-apply room total w fit n (server_at w n) refl (omega arith) safe
not_full-here room total w fit safe _ more = tt

-- so no exchange of a run finds a history full
pub not_full-run : (room : ℕ) (es : List Exchange) (k : ℕ) (e : Exchange) (total : ℕ) (w : World) → AllFit room total w → Safe w → AllAllowed w es → AllJoinWell w es
    → total + count_by is_write es ≤ room → slice_get es k ≡ Some e → IsQuiet (run w (take k es)) → IsNotFull (run w (take k es)) e
not_full-run room [] k e total w fit safe allowed joins more h q = cc
not_full-run room (x ∷ es) zero e total w fit safe allowed joins more h q =
    subst (IsNotFull w) (same_Some x e h)
    (not_full-here room total w fit safe x (omega (arith, more, sum_by-cons (λ y. tick (is_write y)) x es)))
not_full-run room (x ∷ es) (suc k) e total w fit safe allowed joins more h q =
    not_full-run room es k e (total + tick (is_write x)) (after w x) (AllFit-after room total w fit safe x)
    (Safe-after w x safe allowed.0 joins.0 (quiet-run (after w x) (take k es) q)) allowed.1 joins.1
    (omega (arith, more, sum_by-cons (λ y. tick (is_write y)) x es)) h q
