-- No history of a run from an opening gets full without errant writes.
use Rattle.std.proofs.Common.{◌≡◌, ℕ, ◌+◌, ◌≤◌, length, take, refl, sym, subst, Some, arith, count_by, sum_by, slice_get, List}
use Rattle.opening_laws.proofs.Prelude.{AllAllowed, AllFit, AllJoinWell, Exchange, Fits, Fitting, HasFiles, IsChecked, IsNotFull, IsQuiet}
use Rattle.opening_laws.proofs.Prelude.{LeavesFiles, Opened, Rotate, Server, ServerInit, get_or-le-sum_by, get_or_from_slice_get, given-opened}
use Rattle.opening_laws.proofs.Prelude.{is_rotate, length-history_at, not_full-files, not_full-run, opened_world, parts_of, room_for, rotate_answer}
use Rattle.opening_laws.proofs.Prelude.{run, server_at, slice_get_within, transactions}
use Rattle.opening_laws.proofs.Prelude.rotating
use Rattle.opening_laws.proofs.Openings.{Safe-opened}

-- what the opening lists
abbrev listed_in : Opened → ℕ
listed_in o = sum_by (λ i. transactions (parts_of i)) o.servers

Fits-listed : (o : Opened) → Fits o (listed_in o) (sum_by (λ i. length i.flushes) o.servers)
Fits-listed o = record {
  histories = λ k d lt. get_or-le-sum_by (λ i. transactions (parts_of i)) o.servers k d lt;
  flush_points = λ k d lt. get_or-le-sum_by (λ i. length i.flushes) o.servers k d lt;
}

AllFit-opened : (o : Opened) (room flushes : ℕ) → AllFit room (listed_in o) (opened_world o room flushes)
AllFit-opened o room flushes = λ n s at.
    let g = given-opened o room flushes n s at in
    subst (Fitting room (listed_in o)) (sym g.is_opened)
    (record { room_is = refl; within = length-history_at o (listed_in o) (sum_by (λ i. length i.flushes) o.servers) n (Fits-listed o) })

pub not_full-opened : (o : Opened) (room flushes : ℕ) (es : List Exchange) (k : ℕ) (e : Exchange) → IsChecked o → AllAllowed (opened_world o room flushes) es
    → AllJoinWell (opened_world o room flushes) es → room_for o es ≤ room
    → slice_get es k ≡ Some e → IsQuiet (run (opened_world o room flushes) (take k es)) → IsNotFull (run (opened_world o room flushes) (take k es)) e
not_full-opened o room flushes es k e checked allowed joins more h q =
    not_full-run room es k e (listed_in o) (opened_world o room flushes) (AllFit-opened o room flushes) (Safe-opened o room flushes checked) allowed joins more h q

-- the room for new files with which servers open
pub HasFiles-opened : (o : Opened) (room flushes count : ℕ) → LeavesFiles count o flushes → HasFiles count (opened_world o room flushes)
HasFiles-opened o room flushes count leaves = λ n s at.
    let g = given-opened o room flushes n s at in
    let is = get_or_from_slice_get o.servers n g.init g.init g.place in
    let left : length g.init.flushes + count ≤ flushes =
    subst (λ (i : ServerInit). length i.flushes + count ≤ flushes) is (leaves n g.init (slice_get_within o.servers n g.init g.place)) in
    subst (λ (x : Server). count ≤ x.log.flushes) (sym g.is_opened) (omega arith)

-- so no rotation of a run finds a log full
pub not_full-rotations : (o : Opened) (room flushes : ℕ) (es : List Exchange) (k n : ℕ) → LeavesFiles (count_by is_rotate es) o flushes → slice_get es k ≡ Some (Rotate n)
    → rotate_answer (server_at (run (opened_world o room flushes) (take k es)) n) ≡ rotating.Full → ⊥
not_full-rotations o room flushes es k n leaves h = not_full-files es k n (opened_world o room flushes) (HasFiles-opened o room flushes (count_by is_rotate es) leaves) h
