-- A status reports its server as it is.
use Rattle.std.proofs.Common.{◌≡◌, ◌∙◌, ◌&&◌, ℕ, Bool, true, false, cond, not, Option, Some, None, Ok, Err, refl, sym, ap, subst, if◌then◌else◌}
use Rattle.run_laws.proofs.Prelude.{IsConnected, Server, ShowsServer, Status, StatusesByTable, World, false≢true, io_of, is_up, same_Some, seen_in}
use Rattle.run_laws.proofs.Prelude.{server_at, shown_of, source_at, status, status_in}
use Rattle.run_laws.proofs.Prelude.io
use Rattle.run_laws.proofs.Prelude.seeing

module _ (w : World) (s : Server) where
  -- its receiver, by whether it is on, its source is up, and it reaches that one
  by-bools : (on up feed : Bool) → s.receiver ≡ on → is_up (source_at w s) ≡ up → s.feed ≡ feed → io_of s (source_at w s) ≡ (if not on then io.No else if up && feed then io.Yes else io.Connecting)
  by-bools on up feed a b c =
      ap (λ (x : Bool). if not x then io.No else if is_up (source_at w s) && s.feed then io.Yes else io.Connecting) a
      ∙ (ap (λ (x : Bool). if not on then io.No else if x && s.feed then io.Yes else io.Connecting) b
      ∙ ap (λ (x : Bool). if not on then io.No else if up && x then io.Yes else io.Connecting) c)

  up-source : (o : Option Server) → source_at w s ≡ o → is_up o ≡ true → s.receiver ≡ true → s.feed ≡ true → IsConnected w s
  up-source None at up on feed = absurd (false≢true up)
  up-source (Some source) at up on feed = record { receiver = on; feed = feed; source = source; below = at; up = up }

  is-connected : (on up feed : Bool) → s.receiver ≡ on → is_up (source_at w s) ≡ up → s.feed ≡ feed → io_of s (source_at w s) ≡ io.Yes → IsConnected w s
  is-connected true true true a b c is = up-source (source_at w s) refl b a c
  is-connected true true false a b c is = let bad : io.Connecting ≡ io.Yes = sym (by-bools true true false a b c) ∙ is in cc
  is-connected true false feed a b c is = let bad : io.Connecting ≡ io.Yes = sym (by-bools true false feed a b c) ∙ is in cc
  is-connected false up feed a b c is = let bad : io.No ≡ io.Yes = sym (by-bools false up feed a b c) ∙ is in cc

  is-off : (on up feed : Bool) → s.receiver ≡ on → is_up (source_at w s) ≡ up → s.feed ≡ feed → io_of s (source_at w s) ≡ io.No → s.receiver ≡ false
  is-off true true true a b c is = let bad : io.Yes ≡ io.No = sym (by-bools true true true a b c) ∙ is in cc
  is-off true true false a b c is = let bad : io.Connecting ≡ io.No = sym (by-bools true true false a b c) ∙ is in cc
  is-off true false feed a b c is = let bad : io.Connecting ≡ io.No = sym (by-bools true false feed a b c) ∙ is in cc
  is-off false up feed a b c is = a

  shows-so : (s.up && s.desk) ≡ true → ShowsServer w s (shown_of w s)
  shows-so up = record {
    reached = up;
    source = refl;
    coordinates = (refl, refl);
    applier = refl;
    settings = (refl, refl);
    yes = λ is. is-connected s.receiver (is_up (source_at w s)) s.feed refl refl refl is;
    connected = λ c. by-bools true true true c.receiver (ap is_up c.below ∙ c.up) c.feed;
    no = λ is. is-off s.receiver (is_up (source_at w s)) s.feed refl refl refl is;
    off = λ is. by-bools false (is_up (source_at w s)) s.feed is refl refl;
  }

  status-by : (up : Bool) → (s.up && s.desk) ≡ up → seen_in (status_in w (Some s)) ≡ seen_in (cond up (Ok (shown_of w s)) (Err seeing.Unreachable))
  status-by up is = ap (λ (b : Bool). seen_in (cond b (Ok (shown_of w s)) (Err seeing.Unreachable))) is

pub statuses-by-table : (w : World) (n : ℕ) (s : Server) → StatusesByTable w n s
statuses-by-table w n s = record { shows = λ seen at is. shows (s.up && s.desk) refl seen at is; away = λ at is. away (s.up && s.desk) refl at is }
  where
    here : server_at w n ≡ Some s → seen_in (status w n) ≡ seen_in (status_in w (Some s))
    here at = ap (λ (o : Option Server). seen_in (status_in w o)) at

    shows : (up : Bool) → (s.up && s.desk) ≡ up → (seen : Status) → server_at w n ≡ Some s → seen_in (status w n) ≡ Some seen → ShowsServer w s seen
    shows true on seen at is = subst (ShowsServer w s) (same_Some (shown_of w s) seen (sym (status-by w s true on) ∙ (sym (here at) ∙ is))) (shows-so w s on)
    shows false on seen at is = let bad : None ≡ Some seen = sym (status-by w s false on) ∙ (sym (here at) ∙ is) in cc

    away : (up : Bool) → (s.up && s.desk) ≡ up → server_at w n ≡ Some s → seen_in (status w n) ≡ None → (s.up && s.desk) ≡ false
    away true on at is = let bad : Some (shown_of w s) ≡ None = sym (status-by w s true on) ∙ (sym (here at) ∙ is) in cc
    away false on at is = on
