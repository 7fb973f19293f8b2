-- What an exchange leaves of the servers' states.
use Rattle.std.proofs.Common.{◌≡◌, ℕ, Bool, true, false, refl, sym, ◌∙◌, ap, Some, ◌==◌}
use Rattle.recovery_laws.proofs.Prelude.{Ask, Asked, Attach, AttachAuto, Becomes, Befallen, Event, Exchange, IsApart, IsFree, IsRuling, IsSourced}
use Rattle.recovery_laws.proofs.Prelude.{IsUnder, IsWritable, KeepsSource, Leaves, Request, Server, Stays, World, after, at_with_other, at_with_same}
use Rattle.recovery_laws.proofs.Prelude.{attached_no, eq-eqb, eqb-true, false≢true, has_source, is_detached, is_outside, leaves, moves_by, own_txn}
use Rattle.recovery_laws.proofs.Prelude.{same_Some, server_at, took, with_server}
use Rattle.recovery_laws.proofs.Prelude.changes

-- ---- what stays

pub Stays-same : (w w' : World) (n : ℕ) → server_at w' n ≡ server_at w n → Stays w w' n
Stays-same w w' n same = record { stays = λ s at. (s, same ∙ at, refl, refl) }

pub Stays-keeps : (w w' : World) (n : ℕ) → Stays w w' n → KeepsSource w w' n
Stays-keeps w w' n st = record { keeps = λ s at. let t = st.stays s at in (t.0, t.1, t.2) }

pub Under-keeps : (w w' : World) (n m : ℕ) → KeepsSource w w' n → IsUnder w n m → IsUnder w' n m
Under-keeps w w' n m st u = let t = st.keeps u.server u.there in record { server = t.0; there = t.1; under = ap attached_no t.2 ∙ u.under }

pub Sourced-keeps : (w w' : World) (n : ℕ) → KeepsSource w w' n → IsSourced w n → IsSourced w' n
Sourced-keeps w w' n st u = let t = st.keeps u.server u.there in record { server = t.0; there = t.1; sourced = ap has_source t.2 ∙ u.sourced }

pub Apart-keeps : (w w' : World) (n : ℕ) → KeepsSource w w' n → IsApart w n → IsApart w' n
Apart-keeps w w' n st u = let t = st.keeps u.server u.there in record { server = t.0; there = t.1; apart = ap is_detached t.2 ∙ u.apart }

pub Free-keeps : (w w' : World) (n : ℕ) → KeepsSource w w' n → IsFree w n → IsFree w' n
Free-keeps w w' n st u = let t = st.keeps u.server u.there in record { server = t.0; there = t.1; free = t.2 ∙ u.free }

pub Writable-stays : (w w' : World) (n : ℕ) → Stays w w' n → IsWritable w n → IsWritable w' n
Writable-stays w w' n st u = let t = st.stays u.server u.there in record { server = t.0; there = t.1; writable = t.3 ∙ u.writable }

pub Ruling-stays : (w w' : World) (n : ℕ) → Stays w w' n → IsRuling w n → IsRuling w' n
Ruling-stays w w' n st u = record { free = Free-keeps w w' n (Stays-keeps w w' n st) u.free; writable = Writable-stays w w' n st u.writable }

-- a server that keeps its source and takes writes as before
pub keep : (w : World) (n : ℕ) (s t : Server) → server_at w n ≡ Some s → t.source ≡ s.source → t.read_only ≡ s.read_only → (m : ℕ) → Stays w (with_server w n t) m
keep w n s t at source shut m = go (m == n) refl
  where
    go : (b : Bool) → (m == n) ≡ b → Stays w (with_server w n t) m
    go true e =
        let same : m ≡ n = eqb-true m n e in
        record {
          stays = λ x h. let here : s ≡ x = same_Some s x (sym at ∙ ap (server_at w) (sym same) ∙ h) in
              (t, ap (server_at (with_server w n t)) same ∙ at_with_same w n s t at, source ∙ ap (λ (y : Server). y.source) here, shut ∙ ap (λ (y : Server). y.read_only) here);
        }
    go false e = Stays-same w (with_server w n t) m (at_with_other w n s t at m (λ same. false≢true (sym e ∙ eq-eqb m n same)))

-- none of these changes a source, or whether a server takes writes
abbrev IsStill : Exchange → Type 0
IsStill (Request n a) = moves_by a ≡ false
IsStill (Attach n expect to at) = ⊥
IsStill (AttachAuto n observed to) = ⊥
IsStill _ = Unit {0}

module _ (w : World) (n m : ℕ) (s : Server) (at : server_at w n ≡ Some s) where
  abbrev Keeps : Server → Type 0
  Keeps t = (t.source ≡ s.source) × (t.read_only ≡ s.read_only)

  befallen-keeps : (e : Event) (t : Server) → Befallen s e t → Keeps t
  befallen-keeps e t changes.Unharmed = (refl, refl)
  befallen-keeps e t _ = (refl, refl)

  ask-keeps : (a : Ask) (t : Server) → Asked s a t → moves_by a ≡ false → Keeps t
  ask-keeps a t (changes.Detaches k is) h = absurd (false≢true (sym h))
  ask-keeps a t (changes.Reattaches k is) h = absurd (false≢true (sym h))
  ask-keeps a t changes.Resets h = absurd (false≢true (sym h))
  ask-keeps a t (changes.Opens on) h = absurd (false≢true (sym h))
  ask-keeps a t _ h = (refl, refl)

  becomes-stays : (e : Exchange) (t : Server) → Becomes w n s e t → IsStill e → Stays w (with_server w n t) m
  becomes-stays e t (changes.Asks a x does) h = let k = ask-keeps a x does h in keep w n s t at k.0 k.1 m
  becomes-stays e t (changes.Befalls x y does) h = let k = befallen-keeps x y does in keep w n s t at k.0 k.1 m
  becomes-stays e t (changes.Attaches expect to c is) h = absurd h
  becomes-stays e t (changes.AttachesAuto observed to is) h = absurd h
  becomes-stays e t _ h = keep w n s t at refl refl m

leaves-stays : (w : World) (e : Exchange) (w' : World) → Leaves w e w' → IsStill e → (m : ℕ) → Stays w w' m
leaves-stays w e w' changes.Still h m = Stays-same w w' m refl
leaves-stays w e w' (changes.Writes n size s seq at is) h m = let k = keep w n s (took s (own_txn n seq size)) at refl refl m in record { stays = λ x h. k.stays x h }
leaves-stays w e w' (changes.Puts n s t at change) h m = becomes-stays w n m s at e t change h

pub still-stays : (w : World) (e : Exchange) → IsStill e → (m : ℕ) → Stays w (after w e) m
still-stays w e h m = leaves-stays w e (after w e) (leaves w e) h m

outside-still : (e : Exchange) → is_outside e ≡ true → IsStill e
outside-still (Request n a) h = absurd (false≢true h)
outside-still (Attach n expect to at) h = absurd (false≢true h)
outside-still (AttachAuto n observed to) h = absurd (false≢true h)
outside-still _ h = tt

pub outside-stays : (w : World) (e : Exchange) → is_outside e ≡ true → (m : ℕ) → Stays w (after w e) m
outside-stays w e h m = still-stays w e (outside-still e h) m
