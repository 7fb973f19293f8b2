-- A turn of a recovery with hooks passes as one without does.
use Rattle.std.proofs.Common.{◌≡◌, ℕ, Bool, true, false, refl, sym, subst}
use Rattle.unended_laws.proofs.Prelude.{All-nil, All-weaker, Flight, HeldRecovery, IsAny, IsLeased, IsOpOf, IsPlaced, JobStep, LeasedRecovery}
use Rattle.unended_laws.proofs.Prelude.{MayChange, MayTake, Meets, Recovery, SoundRecovery, Taken, TakesWell, as_turn, core_by, is_going, quiet}
use Rattle.unended_laws.proofs.Prelude.{server_of}

-- ---- whatever lines its own turn has

pub own-may : (f : Flight) (id : ℕ) (t : Taken) (s : JobStep) → is_going s ≡ is_going t.step → MayTake f id (as_turn id t) → MayTake f id (as_turn id (record t { step = s }))
own-may f id t s same may =
    subst (λ (b : Bool). MayTake f id (record (as_turn id t) { step = s; job = core_by id t.recovery b })) (sym same) (record {
      held = record { allowed = may.held.allowed; held = may.held.held };
      leases = record { id = may.leases.id; ops = may.leases.ops; hands = may.leases.hands; exchanges = may.leases.exchanges };
      shown = may.shown;
    })

pub own-well : (f : Flight) (id : ℕ) (t : Taken) (s : JobStep) → is_going s ≡ is_going t.step → TakesWell f (as_turn id t) → TakesWell f (as_turn id (record t { step = s }))
own-well f id t s same well =
    subst (λ (b : Bool). TakesWell f (record (as_turn id t) { step = s; job = core_by id t.recovery b })) (sym same) (record {
      sound = record { joins = well.sound.joins; bridged = well.sound.bridged; met = well.sound.met };
      bridged = well.bridged;
    })

-- ---- a turn in which nothing is done

pub quiet-may : (f : Flight) (id : ℕ) (r : Recovery) (s : JobStep) → HeldRecovery f.world r → LeasedRecovery f.leases id r → MayTake f id (as_turn id (quiet r s))
quiet-may f id r s mine leased = go (is_going s)
  where
    go : (b : Bool) → MayTake f id (record (as_turn id (quiet r s)) { job = core_by id r b })
    go true = record {
      held = record { allowed = tt; held = mine.core };
      leases = record {
        id = leased.number;
        ops = All-weaker (IsOpOf (IsLeased f.leases id) IsAny) (MayChange f.leases id) (λ o h. h.0) r.core.ops leased.ops;
        hands = leased.hands;
        exchanges = All-nil (λ e. IsLeased f.leases id (server_of e));
      };
      shown = tt;
    }
    go false = record {
      held = record { allowed = tt; held = record { left = refl; shown = λ n s h. cc; matched = refl; ends = All-nil (IsPlaced f.world) } };
      leases = record {
        id = refl;
        ops = All-nil (MayChange f.leases id);
        hands = All-nil (λ n. IsLeased f.leases id n.0);
        exchanges = All-nil (λ e. IsLeased f.leases id (server_of e));
      };
      shown = tt;
    }

pub quiet-well : (f : Flight) (id : ℕ) (r : Recovery) (s : JobStep) → SoundRecovery f.world r → TakesWell f (as_turn id (quiet r s))
quiet-well f id r s good = go (is_going s)
  where
    go : (b : Bool) → TakesWell f (record (as_turn id (quiet r s)) { job = core_by id r b })
    go true = record { sound = record { joins = tt; bridged = good.core; met = good.met }; bridged = tt }
    go false = record { sound = record { joins = tt; bridged = λ n s h. cc; met = All-nil (Meets f.world) }; bridged = tt }
