-- What a world's calls answer for a server.
use Rattle.scenario_dump.proofs.Prelude.{Index, Server, Settings, Txn, World, false≢true, flush_points, flushes_of, get_or_from_slice_get, history_of}
use Rattle.scenario_dump.proofs.Prelude.{init_by, init_of, log_of, name_text, opening_of, printed, same_Some as some-inj, server_at, slice_get-map}
use Rattle.scenario_dump.proofs.Prelude.{slice_get_past as none_past, slice_get_within, source_in}
use Rattle.std.proofs.Common.{◌≡◌, ◌∙◌, ◌<◌, ◌≤◌, ℕ, Bool, true, false, List, [], length, sym, ap, ap₂, refl, subst}
use Rattle.std.specs.Prelude.{All, if◌then◌else◌, is_some, Option, Some, None, option_and_then, option_map, slice_get, unwrap_or}
use Rattle.scenario_dump.proofs.Points.{at_below}

-- the server of a number
pub there_is : (w : World) (n : ℕ) → n < length w.servers → (s : Server) × (server_at w n ≡ Some s)
there_is w n below = at_below w.servers n below

-- the answer for it
pub told : {A : Type 0} (w : World) (n : ℕ) (s : Server) (f : Server → A) (x : A) → server_at w n ≡ Some s → option_map f (server_at w n) ≡ Some x → x ≡ f s
told w n s f x there is = sym (some-inj (f s) x (sym (ap (option_map f) there) ∙ is))

-- its settings as an opening's
init_settings : (s : Server) (m : Option _) → (init_by s m).settings ≡ s.settings
init_settings s None = refl
init_settings s (Some m) = refl

pub name_at : (w : World) (n : ℕ) (s : Server) → server_at w n ≡ Some s → name_text (opening_of w).servers n ≡ printed s.settings.name
unfolding opening_of init_of
name_at w n s there =
    ap (λ o. unwrap_or (option_map (λ i. printed i.settings.name) o) []) (slice_get-map init_of w.servers n ∙ ap (option_map init_of) there) ∙ ap (λ r. printed r.name) (init_settings s (source_in s.source))

-- ---- its transactions

pub history_there : (w : World) (n : ℕ) (s : Server) → server_at w n ≡ Some s → history_of (server_at w n) ≡ s.history.txns
history_there w n s there = ap history_of there

pub txn_there : (w : World) (n k : ℕ) (s : Server) (t : Txn) → server_at w n ≡ Some s → option_and_then (λ s. slice_get s.history.txns k) (server_at w n) ≡ Some t → slice_get (history_of (server_at w n)) k ≡ Some t
txn_there w n k s t there is = ap (λ (ts : List Txn). slice_get ts k) (history_there w n s there) ∙ (sym (ap (option_and_then (λ s. slice_get s.history.txns k)) there) ∙ is)

pub All-at : {A : Type 0} (P : A → Type 0) (xs : List A) (k : ℕ) (x : A) → All P xs → slice_get xs k ≡ Some x → P x
All-at P xs k x all e = subst P (get_or_from_slice_get xs k x x e) (all k x (slice_get_within xs k x e))

-- ---- its log

-- the flush points of a server with this log, and of one without
points_by : (b : Bool) (i j : Index) (limit limit' : ℕ) → limit' ≡ limit → Some i ≡ (if b then Some j else None) → (if b then flush_points limit j.log else []) ≡ flush_points limit' i.log
points_by true i j limit limit' same e = sym (ap₂ (λ l x. flush_points l x.log) same (some-inj i j e))
points_by false i j limit limit' same e = absurd (false≢true (sym (ap is_some e)))

no_points_by : (b : Bool) (j : Index) (limit : ℕ) → None ≡ (if b then Some j else None) → (if b then flush_points limit j.log else []) ≡ []
no_points_by true j limit e = absurd (false≢true (ap is_some e))
no_points_by false j limit e = refl

pub logged_points : (w : World) (n : ℕ) (s : Server) (i : Index) (r : Settings) → server_at w n ≡ Some s → option_map log_of (server_at w n) ≡ Some (Some i) → option_map (λ s. s.settings) (server_at w n) ≡ Some r → flushes_of (server_at w n) ≡ flush_points r.limit i.log
logged_points w n s i r there log settings =
    ap flushes_of there ∙ points_by s.settings.logs i s.log s.settings.limit r.limit (ap (λ x. x.limit) (told w n s (λ s. s.settings) r there settings)) (told w n s log_of (Some i) there log)

pub unlogged_points : (w : World) (n : ℕ) (s : Server) → server_at w n ≡ Some s → option_map log_of (server_at w n) ≡ Some None → flushes_of (server_at w n) ≡ []
unlogged_points w n s there log =
    ap flushes_of there ∙ no_points_by s.settings.logs s.log s.settings.limit (told w n s log_of None there log)

-- ---- the name of a server of any number

-- if there is one
pub name_there : (w : World) (n : ℕ) (r : Settings) → n < length w.servers → option_map (λ s. s.settings) (server_at w n) ≡ Some r → printed r.name ≡ name_text (opening_of w).servers n
name_there w n r below settings =
    let s = there_is w n below in
    ap (λ x. printed x.name) (told w n s.0 (λ s. s.settings) r s.1 settings) ∙ sym (name_at w n s.0 s.1)

-- and if there is none
pub name_past : (w : World) (n : ℕ) → length w.servers ≤ n → name_text (opening_of w).servers n ≡ []
unfolding opening_of
name_past w n past =
    ap (λ o. unwrap_or (option_map (λ i. printed i.settings.name) o) []) (slice_get-map init_of w.servers n ∙ ap (option_map init_of) (none_past w.servers n past))
