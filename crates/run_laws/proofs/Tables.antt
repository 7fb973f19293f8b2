-- What the tables of servers, of the book and of the analysis say, row by row.
use Rattle.run_laws.proofs.Readings.{not-below}
use Rattle.orch_core.proofs.Starts.{below}
use Rattle.std.proofs.Common.{All, Bool, List, None, Ok, Option, Result, Some, [], ap, arith, drop, false, inl, inr, length, nat_le, not, refl, subst, suc, sym, true, zero, ℕ, ◌&&◌, ◌++◌, ◌+◌, ◌-◌, ◌<◌, ◌||◌, ◌∙◌, ◌∷◌, ◌≡◌, ◌≤◌, ◌⊎◌, Contains, if◌then◌else◌, slice_get, slice_set}
use Rattle.run_laws.proofs.Prelude.{All-cons, All-contains, All-nil, All-weaker, AnswersWrites, AttachesBySet, AttachesByTable, AttachFault}
use Rattle.run_laws.proofs.Prelude.{BookState, Bridge, Contains-append_left, Contains-append_right, Contains-get_or, Coord, CountsByInstances}
use Rattle.run_laws.proofs.Prelude.{CountsReplicas, EndsInTime, GoesOn, Instance, IoState, KeepsSixteen, Moment, Replicates, RunsAllServers, Server}
use Rattle.run_laws.proofs.Prelude.{ServerNo, ServersByTable, StartsAgain, State, ThreadsByTable, Turn, World, WriteAnswer, WritesByTable}
use Rattle.run_laws.proofs.Prelude.{after_write, and_parts, attach_at, attach_auto, attached_auto, attached_set, attached_to, attached_world}
use Rattle.run_laws.proofs.Prelude.{auto_coord, by_name, changed_server, count_own, drop-append-le, end_after, false≢true, first-part as and-left}
use Rattle.run_laws.proofs.Prelude.{flat_map, healed, is_attached, is_before, is_connected, length-append, own_txn, polls, replicates}
use Rattle.run_laws.proofs.Prelude.{replicates_turns, round_of, rule_after, same_Some, server_at, slice_get_within, took, uuids, write, write_answer}
use Rattle.run_laws.proofs.Prelude.act
use Rattle.run_laws.proofs.Prelude.io
use Rattle.run_laws.proofs.Prelude.rule
use Rattle.run_laws.proofs.Prelude.turn
use Rattle.run_laws.proofs.Prelude.turns_step
use Rattle.run_laws.proofs.Prelude.wrote

slice_get-set_same : {A : Type 0} (xs : List A) (n : ℕ) (x : A) → n < length xs → slice_get (slice_set xs n x) n ≡ Some x
slice_get-set_same [] n x h = absurd (omega (arith, h))
slice_get-set_same (y ∷ xs) zero x h = refl
slice_get-set_same (y ∷ xs) (suc n) x h = slice_get-set_same xs n x (omega (arith, h))

-- ---- the analysis

and-right : (a b : Bool) → (a && b) ≡ true → b ≡ true
and-right a b h = (and_parts a b h).1

connected : (x : IoState) → is_connected x ≡ true → x ≡ io.Yes
connected io.Yes h = refl
connected io.Connecting h = cc
connected io.No h = cc

does-replicate : (i : Instance) → replicates i ≡ true → Replicates i
does-replicate i h =
    let rest = and-right i.valid (is_connected i.seen.io && i.seen.sql) h in
    record {
      valid = and-left i.valid (is_connected i.seen.io && i.seen.sql) h;
      receiver = connected i.seen.io (and-left (is_connected i.seen.io) i.seen.sql rest);
      applier = and-right (is_connected i.seen.io) i.seen.sql rest;
    }

is-replicating : (i : Instance) → Replicates i → replicates i ≡ true
is-replicating i is = λ k. is.valid k && (is_connected (is.receiver k) && is.applier k)

pub counts-replicas : (i : Instance) → CountsReplicas i
counts-replicas i = record {
  replicating = does-replicate i;
  all = is-replicating i;
  lagging = λ h. (does-replicate i (and-left (replicates i) (is_before i.seen.exec i.seen.read) h), and-right (replicates i) (is_before i.seen.exec i.seen.read) h);
  behind = λ is h k. is-replicating i is k && h k;
}

pub counts-by-instances : (b : BookState) (n : ServerNo) (i : Instance) → CountsByInstances b n i
counts-by-instances b n i = record { valid = refl; replicas = refl; valid_replicas = refl; replicating = refl; lagging = refl }

-- ---- rings

pub keeps-sixteen : (ring : List Bridge) (b : Bridge) → KeepsSixteen ring b
keeps-sixteen ring b = record { room = λ few. with-room few _; full = λ all. when-full all _ }
  where
    long : length (ring ++ b ∷ []) ≡ length ring + 1
    long = length-append ring (b ∷ [])

    with-room : length ring < 16 → (same : Bool) → ((if same then ring else drop (length (ring ++ b ∷ []) - 16) (ring ++ b ∷ [])) ≡ ring) ⊎ ((if same then ring else drop (length (ring ++ b ∷ []) - 16) (ring ++ b ∷ [])) ≡ ring ++ b ∷ [])
    with-room few true = inl refl
    with-room few false = let none : length (ring ++ b ∷ []) - 16 ≡ 0 = omega (arith, long, few) in inr (ap (λ (k : ℕ). drop k (ring ++ b ∷ [])) none)

    when-full : length ring ≡ 16 → (same : Bool) → ((if same then ring else drop (length (ring ++ b ∷ []) - 16) (ring ++ b ∷ [])) ≡ ring) ⊎ ((if same then ring else drop (length (ring ++ b ∷ []) - 16) (ring ++ b ∷ [])) ≡ drop 1 ring ++ b ∷ [])
    when-full all true = inl refl
    when-full all false =
        let one : length (ring ++ b ∷ []) - 16 ≡ 1 = omega (arith, long, all) in
        inr (ap (λ (k : ℕ). drop k (ring ++ b ∷ [])) one ∙ drop-append-le 1 ring (b ∷ []) (omega (arith, all)))

-- ---- ends

pub ends-in-time : (b : BookState) (n : ServerNo) (now : Moment) → EndsInTime b n now
ends-in-time b n now = record {
  lasts = λ d is h. ap (end_after now.0) is ∙ ap (λ (x : Bool). if x then Some d.until else None) (below now.0 d.until.0 h);
  ended = λ d is h. ap (end_after now.0) is ∙ ap (λ (x : Bool). if x then Some d.until else None) (not-below now.0 d.until.0 h);
  registered = λ c is h. ap (rule_after now.0) is ∙ ap (λ (x : Bool). if x then c.rule else rule.Neutral) (below now.0 c.until.0 h);
  neutral = λ c is h. ap (rule_after now.0) is ∙ ap (λ (x : Bool). if x then c.rule else rule.Neutral) (not-below now.0 c.until.0 h);
}

-- ---- rounds

-- what each server's turns have, all have
in-each : (f : ServerNo → List Turn) (ns : List ServerNo) (t : Turn) (n : ServerNo) → Contains ns n → Contains (f n) t → Contains (flat_map f ns) t
in-each f ns t n among has = All-contains (λ (m : ServerNo). Contains (f m) t → Contains (flat_map f ns) t) ns n (all f ns t) among has
  where
    all : (f : ServerNo → List Turn) (ns : List ServerNo) (t : Turn) → All (λ (m : ServerNo). Contains (f m) t → Contains (flat_map f ns) t) ns
    all f [] t = All-nil (λ (m : ServerNo). Contains (f m) t → Contains (flat_map f []) t)
    all f (m ∷ ms) t =
        All-cons (λ (k : ServerNo). Contains (f k) t → Contains (flat_map f (m ∷ ms)) t) m ms (λ h. Contains-append_left (f m) (flat_map f ms) t h)
        (All-weaker (λ (k : ServerNo). Contains (f k) t → Contains (flat_map f ms) t) (λ (k : ServerNo). Contains (f k) t → Contains (flat_map f (m ∷ ms)) t)
        (λ k rest h. Contains-append_right (f m) (flat_map f ms) t (rest h)) ms (all f ms t))

module _ (s : State) (job : ℕ) where
  abbrev servers : List ServerNo
  servers = by_name s.book.names

  in-steps : (t : Turn) → Contains (flat_map replicates_turns servers) t → Contains (round_of s job) t
  in-steps t there = Contains-append_right (turn.Act (act.Job job) ∷ []) (flat_map replicates_turns servers ++ flat_map polls servers) t (Contains-append_left (flat_map replicates_turns servers) (flat_map polls servers) t there)

  in-polls : (t : Turn) → Contains (flat_map polls servers) t → Contains (round_of s job) t
  in-polls t there = Contains-append_right (turn.Act (act.Job job) ∷ []) (flat_map replicates_turns servers ++ flat_map polls servers) t (Contains-append_right (flat_map replicates_turns servers) (flat_map polls servers) t there)

  pub runs-all-servers : RunsAllServers s job
  runs-all-servers = record {
    first = (_, refl);
    fetches = λ n among.
        in-steps (turn.Step (turns_step.Fetch n)) (in-each replicates_turns servers (turn.Step (turns_step.Fetch n)) n among (Contains-get_or (replicates_turns n) 0 (turn.Step (turns_step.Fetch n)) (omega arith)));
    applies = λ n among.
        in-steps (turn.Step (turns_step.Apply n)) (in-each replicates_turns servers (turn.Step (turns_step.Apply n)) n among (Contains-get_or (replicates_turns n) 1 (turn.Step (turns_step.Apply n)) (omega arith)));
    reads = λ n among. in-polls (turn.Act (act.PollRead 0 n)) (in-each polls servers (turn.Act (act.PollRead 0 n)) n among (Contains-get_or (polls n) 0 (turn.Act (act.PollRead 0 n)) (omega arith)));
  }

-- ---- servers

module _ (w : World) (n size : ℕ) (s : Server) (there : server_at w n ≡ Some s) where
  abbrev answered_so : WriteAnswer → WriteAnswer × World
  answered_so a = (a, after_write w n size (Some s) a)

  abbrev number : ℕ
  number = count_own n s.history.txns + 1

  abbrev where_open : Bool → WriteAnswer
  where_open full = if full then wrote.Full else wrote.Done number

  abbrev where_up : Bool → WriteAnswer
  where_up closed = if closed then wrote.ReadOnly else where_open (nat_le s.history.room (length s.history.txns))

  abbrev by_state : Bool → WriteAnswer
  by_state up = if not up then wrote.Down else where_up s.read_only

  here : write w n size ≡ answered_so (by_state s.up)
  here = ap (λ (o : Option Server). (write_answer n o, after_write w n size o (write_answer n o))) there

  by-up : s.up ≡ true → answered_so (by_state s.up) ≡ answered_so (where_up s.read_only)
  by-up up = ap (λ (x : Bool). answered_so (by_state x)) up

  by-open : s.read_only ≡ false → answered_so (where_up s.read_only) ≡ answered_so (where_open (nat_le s.history.room (length s.history.txns)))
  by-open is = ap (λ (x : Bool). answered_so (where_up x)) is

  at-most : s.history.room ≤ length s.history.txns → nat_le s.history.room (length s.history.txns) ≡ true
  at-most h = grind arith

  above : length s.history.txns < s.history.room → nat_le s.history.room (length s.history.txns) ≡ false
  above h = grind arith

  took-one : (t : Server) → server_at (answered_so (wrote.Done number)).1 n ≡ Some t → t.history.txns ≡ s.history.txns ++ own_txn n number size ∷ []
  took-one t at =
      let same : took s (own_txn n number size) ≡ t = same_Some (took s (own_txn n number size)) t (sym (slice_get-set_same w.servers n (took s (own_txn n number size)) (slice_get_within w.servers n s there)) ∙ at) in
      sym (ap (λ (x : Server). x.history.txns) same)

  answers-writes : AnswersWrites w n size s
  answers-writes = record {
    down = λ down. here ∙ ap (λ (x : Bool). answered_so (by_state x)) down;
    read_only = λ up closed. here ∙ (by-up up ∙ ap (λ (x : Bool). answered_so (where_up x)) closed);
    full = λ up opened all. here ∙ (by-up up ∙ (by-open opened ∙ ap (λ (x : Bool). answered_so (where_open x)) (at-most all)));
    done = λ up opened room.
        let is : write w n size ≡ answered_so (wrote.Done number) = here ∙ (by-up up ∙ (by-open opened ∙ ap (λ (x : Bool). answered_so (where_open x)) (above room))) in
        (number, ap (λ (p : WriteAnswer × World). p.0) is, λ t at. took-one t (sym (ap (λ (p : WriteAnswer × World). server_at p.1 n) is) ∙ at));
  }

pub writes-by-table : WritesByTable
writes-by-table w n size s there = answers-writes w n size s there

starts-again : (s : Server) → StartsAgain s (healed s)
starts-again s = go s.up refl
  where
    awake : Server
    awake = record s { up = true; until = None; receiver = is_attached s.source || s.receiver; applier = is_attached s.source || s.applier }

    go : (up : Bool) → s.up ≡ up → StartsAgain s (if up then s else record s { up = true; until = None; receiver = is_attached s.source || s.receiver; applier = is_attached s.source || s.applier })
    go true is = record {
      up = is;
      was = λ h. refl;
      until = λ down. absurd (false≢true (sym down ∙ is));
      replica = λ down at. absurd (false≢true (sym down ∙ is));
      other = λ down at. (refl, refl);
      stays = (refl, refl, refl);
      coordinates = (refl, refl, refl);
    }
    go false is = record {
      up = refl;
      was = λ h. absurd (false≢true (sym is ∙ h));
      until = λ down. refl;
      replica = λ down at. (ap (λ (x : Bool). x || s.receiver) at, ap (λ (x : Bool). x || s.applier) at);
      other = λ down at. (ap (λ (x : Bool). x || s.receiver) at, ap (λ (x : Bool). x || s.applier) at);
      stays = (refl, refl, refl);
      coordinates = (refl, refl, refl);
    }

pub servers-by-table : ServersByTable
servers-by-table w n s t there at =
    let healed-so : healed s ≡ t = same_Some (healed s) t (sym (slice_get-set_same w.servers n (healed s) (slice_get_within w.servers n s there)) ∙ (sym (ap (λ (o : Option Server). server_at (changed_server w n healed o) n) there) ∙ at)) in
    subst (StartsAgain s) healed-so (starts-again s)

pub attaches-by-table : AttachesByTable
attaches-by-table w n expect to at s t there ok is =
    subst (λ (x : Server). GoesOn to false s x × (x.exec ≡ at)) same
    (record { source = refl; read = refl; by_set = refl; until = refl; threads = (refl, refl); stays = (refl, refl, refl) }, refl)
  where
    answer : Result (Unit {0}) AttachFault
    answer = (attach_at w n expect to at).0

    made : server_at (attached_world w n to at (server_at w n) answer) n ≡ server_at (attached_world w n to at (Some s) (Ok tt)) n
    made =
        ap (λ (o : Option Server). server_at (attached_world w n to at o answer) n) there
        ∙ ap (λ (a : Result (Unit {0}) AttachFault). server_at (attached_world w n to at (Some s) a) n) ok

    same : attached_to to at s ≡ t
    same = same_Some (attached_to to at s) t (sym (slice_get-set_same w.servers n (attached_to to at s) (slice_get_within w.servers n s there)) ∙ (sym made ∙ is))

pub attaches-by-set : AttachesBySet
attaches-by-set w n seen to s t there ok is =
    subst (λ (x : Server). GoesOn to true s x) same (record { source = refl; read = refl; by_set = refl; until = refl; threads = (refl, refl); stays = (refl, refl, refl) })
  where
    answer : Result (Unit {0}) AttachFault
    answer = (attach_auto w n seen.set to).0

    on : Coord
    on = auto_coord (uuids w) s (server_at w to.0)

    made : server_at (attached_set w n to (server_at w n) answer) n ≡ server_at (attached_set w n to (Some s) (Ok tt)) n
    made =
        ap (λ (o : Option Server). server_at (attached_set w n to o answer) n) there
        ∙ ap (λ (a : Result (Unit {0}) AttachFault). server_at (attached_set w n to (Some s) a) n) ok

    same : attached_auto to on s ≡ t
    same = same_Some (attached_auto to on s) t (sym (slice_get-set_same w.servers n (attached_auto to on s) (slice_get_within w.servers n s there)) ∙ (sym made ∙ is))

pub threads-by-table : ThreadsByTable
threads-by-table s = record { started = λ at. go (is_attached s.source) at; stopped = (refl, refl, refl) }
  where
    go : (here : Bool) → here ≡ true → ((if here then record s { receiver = true; applier = true; until = None } else s).receiver ≡ true)
        × ((if here then record s { receiver = true; applier = true; until = None } else s).applier ≡ true) × ((if here then record s { receiver = true; applier = true; until = None } else s).until ≡ None)
    go true at = (refl, refl, refl)
    go false at = absurd (false≢true at)
