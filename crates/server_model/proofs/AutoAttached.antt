-- A change of source by a set.
use Rattle.std.proofs.Common.{◌≡◌, ℕ, ◌≤◌, Bool, true, false, cond, not, List, [], ◌∷◌, length, get_or, refl, sym, ◌∙◌, ap, subst, Some, Result, Ok, Err, arith, ◌&&◌, ◌||◌}
use Rattle.std.specs.Prelude.{slice_get, slice_set, option_map, nat_lt, MatchOption, ⊤}
use Rattle.server_model.proofs.Prelude.{AttachFault, Coord, Gives, Interval, IsAutoTarget, IsFit, IsSet, IsSetOf, Laid-Grown, Reserved, Server}
use Rattle.server_model.proofs.Prelude.{ServerNo, Txn, World, after_attach_auto, answer_by_sets, attach_auto_answer, attach_fault, attached_auto}
use Rattle.server_model.proofs.Prelude.{auto_coord, auto_decision, auto_purged, auto_readiness, chain_meets, coord_after, errant_answer, errant_set}
use Rattle.server_model.proofs.Prelude.{file_start, has_gtid, has_place, held_len, held_of, holds, kept_coord, place-coord_after, place-parts}
use Rattle.server_model.proofs.Prelude.{prefix_len-le-length, purged_answer, purged_len, same_Some, server_at, set_of, slice_get_within, sources}
use Rattle.server_model.proofs.Prelude.{spot_below, uuids, uuids_in}
use Rattle.server_model.proofs.Prelude.attaching
use Rattle.server_model.proofs.Changed.{chain-apart}
use Rattle.server_model.proofs.Errants.{errant-is}
use Rattle.server_model.proofs.Lists.{slice_get-index}
use Rattle.server_model.proofs.PurgedFiles.{has_place-file_start}

-- what a server's set holds of a source's history has an end in the source's log
pub held-within : (uuid : ℕ → ℕ) (set : List Interval) (t : Server) → length t.log.log.entries ≡ length t.history.txns → held_len uuid set t.history.txns ≤ length t.log.log.entries
held-within uuid set t logged = let few = prefix_len-le-length (λ (x : Txn). has_gtid uuid set x) t.history.txns in omega (arith, few, logged)

pub auto-placed : (uuid : ℕ → ℕ) (r t : Server) (fit : IsFit t) → length t.log.log.entries ≡ length t.history.txns → has_place t.log.log (auto_coord uuid r (Some t)) ≡ true
auto-placed uuid r t fit logged = go (nat_lt (coord_after t.log.log (held_of uuid r t)).file t.first)
  where
    go : (b : Bool) → has_place t.log.log (cond b (file_start t.first) (coord_after t.log.log (held_of uuid r t))) ≡ true
    go true = has_place-file_start t.log.log t.first fit.kept.low fit.kept.high
    go false =
        let count = held_of uuid r t in
        (place-parts t.log.log (coord_after t.log.log count) count
        (place-coord_after t.log.log (Laid-Grown t.log.log fit.grown) count (held-within uuid (set_of uuid r.history.txns) t logged))).0

-- the decision by its tests
abbrev readied : Server → Bool → Bool → Bool → Result (Unit {0}) AttachFault
readied s reached running loops =
    cond (not reached) (Err attaching.Unreachable) (cond running (Err (attaching.Running (spot_below s s.source))) (cond loops (Err attaching.Loop) (Ok tt)))

pub ready-loops : (s : Server) (loops : Bool) → auto_readiness s loops ≡ Ok tt → loops ≡ false
ready-loops s loops h = go (s.up && s.desk) (s.receiver || s.applier) loops h
  where
    go : (a b d : Bool) → readied s a b d ≡ Ok tt → d ≡ false
    go true false false h = refl
    go _ _ _ h = cc

decided-ready : (ready : Result (Unit {0}) AttachFault) (errant : List Interval) (later : Result (Unit {0}) AttachFault) → answer_by_sets ready errant later ≡ Ok tt → ready ≡ Ok tt
decided-ready (Err fault) errant later h = h
decided-ready (Ok t) errant later h = refl

-- an attachment that is allowed is not to the server itself
pub auto-apart : (w : World) (servers : List Server) (gtid : Bool) (count n : ℕ) (observed : List Interval) (to : ℕ) (s : Server) → record { servers = servers; gtid = gtid; errant = count } ≡ w
    → slice_get servers n ≡ Some s → attach_auto_answer w n observed to (server_at w n) ≡ Ok tt → to ≡ n → ⊥
auto-apart w servers gtid count n observed to s view here joined =
    let at : server_at w n ≡ Some s = subst (λ (v : World). server_at v n ≡ Some s) view here in
    let loops = chain_meets (sources w) (length w.servers) to n in
    let errant = errant_set (uuids w) observed s.history.txns in
    let later = auto_purged (uuids w) s (server_at w to) in
    let decision : auto_decision s loops errant later ≡ Ok tt = sym (ap (attach_auto_answer w n observed to) at) ∙ joined in
    chain-apart (sources w) (length w.servers) to n (ready-loops s loops (decided-ready (auto_readiness s loops) errant later decision))

-- what is answered, by what comes before the sets
pub auto-answered : (w : World) (n : ℕ) (observed : List Interval) (to : ℕ) (s : Server) (ready : Result (Unit {0}) AttachFault) (errant : List Interval) → server_at w n ≡ Some s
    → ready ≡ auto_readiness s (chain_meets (sources w) (length w.servers) to n) → errant ≡ errant_set (uuids w) observed s.history.txns
    → attach_auto_answer w n observed to (server_at w n) ≡ answer_by_sets ready errant (auto_purged (uuids w) s (server_at w to))
auto-answered w n observed to s ready errant at is set =
    let later = auto_purged (uuids w) s (server_at w to) in
    ap (attach_auto_answer w n observed to) at
    ∙ ap (λ x. answer_by_sets x (errant_set (uuids w) observed s.history.txns) later) (sym is) ∙ ap (λ xs. answer_by_sets ready xs later) (sym set)

pub auto-left : (w : World) (servers : List Server) (gtid : Bool) (errant n : ℕ) (to : ServerNo) (at : Coord) (s s' : Server) → record { servers = servers; gtid = gtid; errant = errant } ≡ w
    → slice_get servers n ≡ Some s → option_map (λ r. auto_coord (uuids w) r (server_at w to.0)) (server_at w n) ≡ Some at → s' ≡ attached_auto to at s
    → record { servers = slice_set servers n s'; gtid = gtid; errant = errant } ≡ after_attach_auto w n to (server_at w n) (Ok tt)
auto-left w servers gtid errant n to at s s' view here coord is =
    let there : server_at w n ≡ Some s = subst (λ (v : World). server_at v n ≡ Some s) view here in
    let at_is : at ≡ auto_coord (uuids w) s (server_at w to.0) = same_Some at (auto_coord (uuids w) s (server_at w to.0)) (sym coord ∙ ap (option_map (λ r. auto_coord (uuids w) r (server_at w to.0))) there) in
    let changed : s' ≡ attached_auto to (auto_coord (uuids w) s (server_at w to.0)) s = is ∙ ap (λ c. attached_auto to c s) at_is in
    ap (λ (x : Server). record { servers = slice_set servers n x; gtid = gtid; errant = errant }) changed
    ∙ ap (λ (v : World). record { servers = slice_set v.servers n (attached_auto to (auto_coord (uuids w) s (server_at w to.0)) s); gtid = v.gtid; errant = v.errant }) view
    ∙ sym (ap (λ o. after_attach_auto w n to o (Ok tt)) there)

pub auto-coord-at : (w : World) (n to : ℕ) (at : Coord) (s t : Server) → server_at w n ≡ Some s → server_at w to ≡ Some t
    → option_map (λ r. auto_coord (uuids w) r (server_at w to)) (server_at w n) ≡ Some at → at ≡ auto_coord (uuids w) s (Some t)
auto-coord-at w n to at s t here there coord =
    same_Some at (auto_coord (uuids w) s (Some t)) (sym coord ∙ ap (option_map (λ r. auto_coord (uuids w) r (server_at w to))) here ∙ ap (λ o. Some (auto_coord (uuids w) s o)) there)

-- what is answered before the sets are asked is what is answered
ready-fault : (s : Server) (loops : Bool) (fault : AttachFault) → auto_readiness s loops ≡ Err fault → attach_fault fault ≡ Some fault
ready-fault s loops fault h = go (s.up && s.desk) (s.receiver || s.applier) loops h
  where
    same : (x : AttachFault) → attach_fault x ≡ Some x → x ≡ fault → attach_fault fault ≡ Some fault
    same x e is = subst (λ y. attach_fault y ≡ Some y) is e

    go : (a b d : Bool) → readied s a b d ≡ Err fault → attach_fault fault ≡ Some fault
    go false b d h = same attaching.Unreachable refl (cc)
    go true true d h = same (attaching.Running (spot_below s s.source)) refl (cc)
    go true false true h = same attaching.Loop refl (cc)
    go true false false h = cc

-- a fault that isn't out of memory is given as it is
pub fault-given : (fault : AttachFault) (answer : Result (Unit {0}) AttachFault) → attach_fault fault ≡ Some fault → answer ≡ Err fault
    → Gives (λ (c : Coord). tt) attach_fault (Err fault) answer
fault-given fault answer told is = subst (λ o. MatchOption o ⊤ (λ f. answer ≡ Err f)) (sym told) is

pub auto-refused : (w : World) (n : ℕ) (observed : List Interval) (to : ℕ) (s : Server) (fault : AttachFault) → server_at w n ≡ Some s
    → auto_readiness s (chain_meets (sources w) (length w.servers) to n) ≡ Err fault
    → Gives (λ (c : Coord). tt) attach_fault (Err fault) (attach_auto_answer w n observed to (server_at w n))
auto-refused w n observed to s fault at is =
    fault-given fault (attach_auto_answer w n observed to (server_at w n)) (ready-fault s (chain_meets (sources w) (length w.servers) to n) fault is)
    (auto-answered w n observed to s (Err fault) (errant_set (uuids w) observed s.history.txns) at (sym is) refl)

-- errant transactions are answered
pub auto-errant : (w : World) (n : ℕ) (observed : List Interval) (to : ℕ) (s : Server) (errant : List Interval) → server_at w n ≡ Some s
    → auto_readiness s (chain_meets (sources w) (length w.servers) to n) ≡ Ok tt → errant ≡ errant_set (uuids w) observed s.history.txns → (errant ≡ [] → ⊥)
    → attach_auto_answer w n observed to (server_at w n) ≡ Err (attaching.Errant errant)
auto-errant w n observed to s errant at ready set some =
    auto-answered w n observed to s (Ok tt) errant at (sym ready) set ∙ go errant some
  where
    go : (xs : List Interval) → (xs ≡ [] → ⊥) → errant_answer xs (auto_purged (uuids w) s (server_at w to)) ≡ Err (attaching.Errant xs)
    go [] none = absurd (none refl)
    go (x ∷ xs) none = refl

-- if there are none, the source answers by what it has purged
pub auto-ends : (w : World) (n : ℕ) (observed : List Interval) (to : ℕ) (s t : Server) (errant : List Interval) (held : ℕ) → server_at w n ≡ Some s → server_at w to ≡ Some t
    → auto_readiness s (chain_meets (sources w) (length w.servers) to n) ≡ Ok tt → errant ≡ errant_set (uuids w) observed s.history.txns → errant ≡ [] → held ≡ held_of (uuids w) s t
    → attach_auto_answer w n observed to (server_at w n) ≡ purged_answer (nat_lt held (purged_len t)) t.first
auto-ends w n observed to s t errant held at there ready set none count =
    auto-answered w n observed to s (Ok tt) errant at (sym ready) set
    ∙ ap (λ xs. errant_answer xs (auto_purged (uuids w) s (server_at w to))) none
    ∙ ap (auto_purged (uuids w) s) there
    ∙ ap (λ k. purged_answer (nat_lt k (purged_len t)) t.first) (sym count)

pub purged-fault : (is_purged : Bool) (first : ℕ) (fault : AttachFault) → purged_answer is_purged first ≡ Err fault → attach_fault fault ≡ Some fault
purged-fault true first fault h = let is : attaching.Purged first ≡ fault = cc in subst (λ y. attach_fault y ≡ Some y) is refl
purged-fault false first fault h = cc

-- what is left of the kept set beyond an observed one
pub errant-kept : (servers : List Server) (gtid : Bool) (s : Server) (e : Reserved) (observed rest : List Interval) → IsSetOf gtid (uuids_in servers) s s.history.txns e → gtid ≡ true → IsSet e.intervals → IsSet rest
    → ((u n : ℕ) → holds rest u n ≡ (holds e.intervals u n && not (holds observed u n))) → rest ≡ errant_set (uuids_in servers) observed s.history.txns
errant-kept servers gtid s e observed rest kept on set it same =
    let is : e.intervals ≡ set_of (uuids_in servers) s.history.txns = kept.set ∙ ap (λ b. cond b (set_of (uuids_in servers) s.history.txns) []) on in
    errant-is (uuids_in servers) observed rest s.history.txns (subst IsSet is set) it
    (λ u n. same u n ∙ ap (λ xs. holds xs u n && not (holds observed u n)) is)

-- the position at which the target goes on
pub auto-target : (w : World) (servers : List Server) (gtid : Bool) (errant to : ℕ) (x : Server) → record { servers = servers; gtid = gtid; errant = errant } ≡ w → IsAutoTarget w to
    → (x ≡ get_or servers to x) → (slice_get servers to ≡ Some x) × (x.settings.logs ≡ true) × (gtid ≡ true)
auto-target w servers gtid errant to x view target is =
    let there : slice_get servers to ≡ Some target.target = subst (λ (v : World). server_at v to ≡ Some target.target) (sym view) target.there in
    let at : slice_get servers to ≡ Some x = slice_get-index servers to x (slice_get_within servers to target.target there) is in
    let same : target.target ≡ x = same_Some target.target x (sym there ∙ at) in
    (at, ap (λ (y : Server). y.settings.logs) (sym same) ∙ target.logs, ap (λ (v : World). v.gtid) view ∙ target.gtid)

-- how much of the source's history the kept set holds
pub auto-held : (w : World) (servers : List Server) (gtid : Bool) (errant : ℕ) (s t : Server) (e : Reserved) (held : ℕ) → record { servers = servers; gtid = gtid; errant = errant } ≡ w
    → IsSetOf gtid (uuids_in servers) s s.history.txns e → gtid ≡ true → held ≡ held_len (uuids_in servers) e.intervals t.history.txns → held ≡ held_of (uuids w) s t
auto-held w servers gtid errant s t e held view kept on count =
    let set : e.intervals ≡ set_of (uuids_in servers) s.history.txns = kept.set ∙ ap (λ b. cond b (set_of (uuids_in servers) s.history.txns) []) on in
    count ∙ ap (λ xs. held_len (uuids_in servers) xs t.history.txns) set ∙ ap (λ (v : World). held_of (uuids v) s t) view

-- the coordinate that the code finds
pub auto-found : (w : World) (n to : ℕ) (s t : Server) (held : ℕ) (at : Coord) → server_at w n ≡ Some s → server_at w to ≡ Some t → held ≡ held_of (uuids w) s t
    → at ≡ kept_coord t (coord_after t.log.log held) → option_map (λ r. auto_coord (uuids w) r (server_at w to)) (server_at w n) ≡ Some at
auto-found w n to s t held at here there count is =
    ap (option_map (λ r. auto_coord (uuids w) r (server_at w to))) here
    ∙ ap (λ o. Some (auto_coord (uuids w) s o)) there
    ∙ ap (λ k. Some (kept_coord t (coord_after t.log.log k))) (sym count) ∙ ap Some (sym is)
