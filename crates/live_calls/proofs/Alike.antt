-- A scenario whose turns are a schedule begins and runs alike.
use Rattle.std.proofs.Common.{◌≡◌, ◌∙◌, ℕ, List, [], ap}
use Rattle.live_calls.proofs.Prelude.{Change, Held, Recorded, Scenario, SchedulesRunAlike, Turn, World, append-nil, changed, closed, configuration_of}
use Rattle.live_calls.proofs.Prelude.{empty_slots, flushes_of, held_run, holder_of, last_read, loaded_audit, loaded_book, loading, made, names_of}
use Rattle.live_calls.proofs.Prelude.{opened_book, opened_world, opening, opening_changes, period_of, recorder, room_of, run_answer, run_of}
use Rattle.live_calls.proofs.Prelude.{start_claim, start_moment, start_rows, with_turns, without_turns}

-- the opening is that of its servers, and of the room for its writes and rotations
opens : Scenario → ℕ → World → Held Recorded
opens s wait w =
    let changes : List Change = opening_changes w (start_moment s []) (loaded_book s []) s.known s.rules (loading (period_of s) (start_rows s []) (loaded_audit s []) (start_moment s [])) in
    record {
      rows = changed [] changes;
      state = without_turns (record {
        world = w;
        moment = (start_moment s []).0;
        book = opened_book (loaded_book s []) changes;
        audit = closed (loaded_audit s []) (start_moment s []);
        slots = empty_slots;
        reads = last_read (start_rows s []);
        jobs = [];
        last_job = 0;
        configuration = configuration_of wait s;
        claims = made s.nodes (start_claim s []);
        last_holder = holder_of (start_claim s []);
      });
    }

same_opening : (s : Scenario) (wait : ℕ) (ts : List Turn) → room_of (with_turns s ts) ≡ room_of s → flushes_of (with_turns s ts) ≡ flushes_of s → opening (with_turns s ts) wait ≡ opening s wait
unfolding opens
same_opening s wait ts room flushes =
    ap (λ (n : ℕ). opens s wait (opened_world s.opening n (flushes_of (with_turns s ts)))) room ∙ ap (λ (n : ℕ). opens s wait (opened_world s.opening (room_of s) n)) flushes

pub alike : SchedulesRunAlike
alike = λ s wait x ts room flushes.
    ap (λ (us : List Turn). run_answer (names_of s) (run_of (with_turns s ts) wait us).state) (append-nil ts)
    ∙ ap (λ (h : Held Recorded). run_answer (names_of s) (held_run recorder h ts).state) (same_opening s wait ts room flushes)
