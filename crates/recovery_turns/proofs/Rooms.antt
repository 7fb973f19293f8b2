-- How long the lists of a recovery are after single changes.
use Rattle.std.proofs.Common.{◌≡◌, ◌+◌, ◌-◌, ◌<◌, ◌≤◌, Bool, true, false, List, [], ◌∷◌, ◌++◌, drop, length, length-append, length-drop, Option, Some, None, arith}
use Rattle.recovery_turns.proofs.Prelude.{Act, Decided, Fits, IsRoomy, Job, Position, Recovery, ServerNo, Sight, Work, decided_on, follows_no_more}
use Rattle.recovery_turns.proofs.Prelude.{job_after, leaver, moved, option_to_list, others, room_for, seen_after, settled_on, sights_of, stepped_by}
use Rattle.recovery_turns.proofs.Prelude.{with_seen, without_follower, working_on}
use Rattle.recovery_turns.proofs.Prelude.act
use Rattle.recovery_plans.proofs.OrchBase.Lists.{filter-shorter as filter_short}

pub seen_short : (xs : List Sight) (n : ServerNo) (s : Position) → length (with_seen xs n s) ≤ length xs + 1
seen_short xs n s =
    let short : length (others xs n) ≤ length xs = filter_short _ xs in
    let long : length (with_seen xs n s) ≡ length (others xs n) + 1 = length-append (others xs n) (record { no = n; seen = s } ∷ []) in
    omega (arith, short, long)

pub more_short : (xs ys : List Sight) → length (seen_after xs ys) ≤ length xs + length ys
more_short xs [] = omega arith
more_short xs (y ∷ ys) =
    let rest : length (seen_after (with_seen xs y.no y.seen) ys) ≤ length (with_seen xs y.no y.seen) + length ys = more_short (with_seen xs y.no y.seen) ys in
    let one : length (with_seen xs y.no y.seen) ≤ length xs + 1 = seen_short xs y.no y.seen in
    omega (arith, rest, one)

pub after_short : (j : Job) (a : Act) → length (job_after j a).seen ≤ length j.seen + 1
after_short j (act.Keep x) = seen_short j.seen x.no x.seen
after_short j (act.Wait x) = seen_short j.seen x.no x.seen
after_short j _ = omega arith

-- there is room after the decisions
pub roomy_decided : (r : Recovery) (d : Decided) → Fits r d → IsRoomy 2 (decided_on r d)
roomy_decided r d fits = go d.work fits.seen
  where
    dry : length (drop d.handed r.drained) < room_for r.replicas
    dry =
        let is : length (drop d.handed r.drained) ≡ length r.drained - d.handed = length-drop d.handed r.drained in
        let had : length r.drained < room_for r.replicas = fits.drained in
        omega (arith, is, had)

    left : length (r.outcome.lost ++ d.lost.items) < room_for r.replicas
    left =
        let is : length (r.outcome.lost ++ d.lost.items) ≡ length r.outcome.lost + length d.lost.items = length-append r.outcome.lost d.lost.items in
        let had : length r.outcome.lost + length d.lost.items < room_for r.replicas = fits.lost in
        omega (arith, is, had)

    go : (o : Option Work) → length r.core.seen + (length (sights_of o) + 2) ≤ room_for r.replicas → IsRoomy 2 (working_on (settled_on r d) o)
    go None seen = record { seen = omega (arith, seen); drained = dry; followers = fits.followers; lost = left }
    go (Some w) seen = record {
      seen =
          let short : length (seen_after r.core.seen (option_to_list w.seen)) ≤ length r.core.seen + length (option_to_list w.seen) = more_short r.core.seen (option_to_list w.seen) in
          omega (arith, seen, short);
      drained = dry;
      followers = fits.followers;
      lost = left;
    }

pub hands_decided : (r : Recovery) (d : Decided) → Fits r d → length (decided_on r d).core.hands < room_for (decided_on r d).replicas
hands_decided r d fits = go d.work
  where
    go : (o : Option Work) → length (working_on (settled_on r d) o).core.hands < room_for (working_on (settled_on r d) o).replicas
    go None = fits.hands
    go (Some w) = fits.hands

pub matches_decided : (r : Recovery) (d : Decided) → Fits r d → length (decided_on r d).core.matches < room_for (decided_on r d).replicas
matches_decided r d fits = go d.work
  where
    go : (o : Option Work) → length (working_on (settled_on r d) o).core.matches < room_for (working_on (settled_on r d) o).replicas
    go None = fits.matches
    go (Some w) = fits.matches

-- after the job's turn
pub roomy_after : (r : Recovery) (a : Act) → IsRoomy 2 r → IsRoomy 1 (record r { core = job_after r.core a })
roomy_after r a has = record {
  seen =
      let short : length (job_after r.core a).seen ≤ length r.core.seen + 1 = after_short r.core a in
      let had : length r.core.seen + 2 ≤ room_for r.replicas = has.seen in
      omega (arith, short, had);
  drained = has.drained;
  followers = has.followers;
  lost = has.lost;
}

-- and after a stage's last operation
pub roomy_stepped : (r : Recovery) (b : Bool) → IsRoomy 1 r → IsRoomy 1 (stepped_by r b)
roomy_stepped r false has = has
roomy_stepped r true has = go (leaver (moved r.stage))
  where
    go : (o : Option ServerNo) → IsRoomy 1 (record (follows_no_more r o) { stage = moved r.stage })
    go None = record { seen = has.seen; drained = has.drained; followers = has.followers; lost = has.lost }
    go (Some n) = record {
      seen = has.seen;
      drained = has.drained;
      followers =
          let short : length (without_follower r.outcome.followers n) ≤ length r.outcome.followers = filter_short _ r.outcome.followers in
          let had : length r.outcome.followers < room_for r.replicas = has.followers in
          omega (arith, short, had);
      lost = has.lost;
    }
