-- Matches of logs, in the states of runs without errant writes.
use Rattle.std.proofs.Common.{◌≡◌, ℕ, List, [], ◌∷◌, map, Ok, All}
use Rattle.run_laws.proofs.Prelude.{All-cons, All-head, All-nil, All-tail, All-weaker, AllMeet, Coord, EndsAt, EndsStill, Job, Meets, Safe, ServerNo}
use Rattle.run_laws.proofs.Prelude.{Unended, World, core_of, logs-place, logs-prefix, match-well, match_logs, read-servers}

pub matches-end : (w : World) → Safe w → (r d : ServerNo) (every : ℕ) (at : Coord) → match_logs w r d every ≡ Ok at → EndsAt w r d at
matches-end w safe r d every at h =
    let two = read-servers w r d every at h in
    record {
      one = two.one;
      other = two.other;
      one_at = two.one_at;
      other_at = two.other_at;
      ends = record {
        prefix = logs-prefix w r d every at two.one two.other safe two.one_at two.other_at h;
        place = logs-place w r d every at two.one two.other safe two.one_at two.other_at h;
      };
    }

pub found-end : (w : World) → Safe w → (us : List Unended) → All (λ (j : Job). AllMeet w j.matches) (map core_of us) → All (λ u. All (EndsStill w) (core_of u).matches) us
found-end w safe [] all = All-nil (λ u. All (EndsStill w) (core_of u).matches)
found-end w safe (u ∷ us) all =
    All-cons (λ u. All (EndsStill w) (core_of u).matches) u us
    (All-weaker (Meets w) (EndsStill w) (λ m meets. match-well w m safe meets) (core_of u).matches (All-head (λ (j : Job). AllMeet w j.matches) (core_of u) (map core_of us) all))
    (found-end w safe us (All-tail (λ (j : Job). AllMeet w j.matches) (core_of u) (map core_of us) all))
