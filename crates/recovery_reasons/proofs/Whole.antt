-- A stage that waits begins with all its operations.
use Rattle.std.proofs.Common.{◌≡◌, ℕ, Bool, true, false, cond, List, [], ◌∷◌, refl, sym, subst, Option, Some, None, ◌⊎◌, inl, inr}
use Rattle.recovery_reasons.proofs.Prelude.{AreFirst, Bearing, BeginsWhole, BookState, Decision, Decisions, Ending, Fits, HeldRecovery, HeldRings, Job, Keeps}
use Rattle.recovery_reasons.proofs.Prelude.{MayDecide, Moment, Op, Recovery, ServerNo, Speaks, Stage, World, borne, decided_by, decides-held, deed_of}
use Rattle.recovery_reasons.proofs.Prelude.{ended_by, ends, entered, fate_of, fits-step, follows_no_more, gathering, ground_of, is_going, joined}
use Rattle.recovery_reasons.proofs.Prelude.{kept-along, leaver, moved, moved-fits, same-tail, stepped, tail_of, taken, went-of}
use Rattle.recovery_reasons.proofs.Prelude.by
use Rattle.recovery_reasons.proofs.Prelude.op
use Rattle.recovery_reasons.proofs.Prelude.stage
use Rattle.recovery_reasons.proofs.Readings.{fits-of}

abbrev IsFirst : Recovery → Type 0
IsFirst r = AreFirst r.stage r.core.ops

completes-first : (r : Recovery) (e : Ending) → IsFirst (ended_by r e)
completes-first r (by.Trails n x) = refl
completes-first r (by.Shuts m d) = refl
completes-first r by.Rests = tt
completes-first r e = tt

bears-first : (r : Recovery) (e : Bearing) → IsFirst (borne r (fate_of e))
bears-first r by.Drops = tt
bears-first r e = tt

-- what follows a stage by its operation alone
moved-first : (s : Stage) (o : Op) (rest : List Op) → o ∷ rest ≡ tail_of s → AreFirst (moved s) rest
moved-first (stage.Shut m d) o rest t = same-tail o (op.ReadOnly m true) rest (gathering m d) t
moved-first (stage.Drain n) o rest t = tt
moved-first (stage.Trail n x) o rest t = tt
moved-first (stage.Level p q) o rest t = tt
moved-first (stage.Gather m d) o rest t = cc
moved-first s o rest t = tt

module _ (w : World) (b : BookState) (now : Moment) (r : Recovery) where
  decides-first : (x : Recovery) (d : Decision) → MayDecide (ground_of w b now) x d → IsFirst x → IsFirst (decided_by (ground_of w b now) x d)
  decides-first x (by.Drains n ts) may h = refl
  decides-first x (by.Levels p q) may h = refl
  decides-first x (by.Reads n ts) may h = tt
  decides-first x (by.Sends n go ts) may h = tt
  decides-first x (by.Expels n ts) may h = tt
  decides-first x (by.Releases n ts) may h = tt
  decides-first x (by.Looks n y ts) may h = tt
  decides-first x (by.Yields y ts) may h = tt
  decides-first x (by.Hands d ds go ts) may h = tt
  decides-first x (by.Crowns p) may h = tt
  decides-first x (by.Rejoins p) may h = tt
  decides-first x by.Closes may h = tt
  decides-first x d may h = h

  -- as it was decided in the turn
  record Before (x : Recovery) : Type 0 where
    held : HeldRecovery w x
    so : Decisions (ground_of w b now) r x
    first : r.core.ops ≡ [] → IsFirst x

  record After (z : Recovery) : Type 0 where
    decided : Recovery
    so : Decisions (ground_of w b now) r decided
    first : r.core.ops ≡ [] → IsFirst decided
    next : (z.stage ≡ decided.stage) ⊎ IsFirst z

  whole-after : (x z : Recovery) → Before x → (z.stage ≡ x.stage) ⊎ IsFirst z → After z
  whole-after x z h n = record { decided = x; so = h.so; first = h.first; next = n }

  stepped-after : (x : Recovery) (o : Op) (rest : List Op) (j : Job) → Fits x.stage (o ∷ rest) → j.ops ≡ rest → Before x → After (stepped (record x { core = j }) o)
  stepped-after x o rest j fits left h = go (fits-step x.stage o rest fits)
    where
      later : Recovery
      later = record x { core = j }

      at : (q : Option ServerNo) → o ∷ rest ≡ tail_of x.stage → After (record (follows_no_more later q) { stage = moved x.stage })
      at None t = whole-after x _ h (inr (subst (λ (xs : List Op). AreFirst (moved x.stage) xs) (sym left) (moved-first x.stage o rest t)))
      at (Some n) t = whole-after x _ h (inr (subst (λ (xs : List Op). AreFirst (moved x.stage) xs) (sym left) (moved-first x.stage o rest t)))

      go : ((ends x.stage (deed_of o) ≡ false) × Fits x.stage rest) ⊎ (o ∷ rest ≡ tail_of x.stage) → After (stepped (record x { core = j }) o)
      go (inl p) =
          subst (λ (a : Bool). After (cond a (entered (record x { core = j }) (moved x.stage)) (record x { core = j }))) (sym p.0) (whole-after x (record x { core = j }) h (inl refl))
      go (inr t) =
          subst (λ (a : Bool). After (cond a (entered (record x { core = j }) (moved x.stage)) (record x { core = j }))) (sym (moved-fits x.stage o rest t).0) (at (leaver (moved x.stage)) t)

  ends-after : (z y : Recovery) → After z → IsFirst y → After y
  ends-after z y h first = record { decided = h.decided; so = h.so; first = h.first; next = inr first }

  keeps-whole : (read : ℕ) → HeldRings w b.rings → Keeps w b read now Before (λ v z. After z) (λ v z. After z)
  keeps-whole read rings = record {
    decides = λ x d may h. record {
      held = decides-held w b now rings x d may h.held;
      so = joined w b now h.so (by.Then d may by.Still);
      first = λ none. decides-first x d may (h.first none);
    };
    waits = λ x o rest ob es j did e h. whole-after x (record x { core = j }) h (inl refl);
    acts = λ x o rest ob es j did e h. stepped-after x o rest j (fits-of w x o rest did.ops h.held) ((went-of w read now x o rest ob es j did).done e) h;
    continues = λ v z a rest is h. h;
    completes = λ v z e none may h. ends-after z (ended_by z e) h (completes-first z e);
    bears = λ x o rest c ob e stops is may h. whole-after x (borne x (fate_of e)) h (inr (bears-first x e));
  }

  pub turn-begins : (read : ℕ) → HeldRings w b.rings → HeldRecovery w r → Speaks r → is_going (taken w b read now r).step ≡ true → BeginsWhole (ground_of w b now) r (taken w b read now r)
  turn-begins read rings held speaks going =
      let h = kept-along w b read now Before (λ v z. After z) (λ v z. After z) (keeps-whole read rings) r (record { held = held; so = by.Still; first = at-rest }) going in
      record { decided = h.decided; so = h.so; first = h.first; next = h.next }
    where
      at-rest : r.core.ops ≡ [] → IsFirst r
      at-rest none = subst (λ (s : Stage). AreFirst s r.core.ops) (sym (speaks.way.rests none)) tt
