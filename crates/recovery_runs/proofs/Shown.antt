-- What a status shows of a server that takes writes, or is below another.
use Rattle.std.proofs.Common.{◌≡◌, ◌∙◌, ℕ, Bool, true, false, cond, sym, ap, Option, Some, Ok, Err, ◌&&◌}
use Rattle.recovery_runs.proofs.Prelude.{IsBelow, IsRuling, IsUnder, Server, ServerNo, Status, TakesWrites, World, attached_no, same_Some, seen_in}
use Rattle.recovery_runs.proofs.Prelude.{server_at, shown_of, status, status_in}
use Rattle.recovery_runs.proofs.Prelude.seeing

module _ (w : World) (n : ℕ) (seen : Status) (shows : seen_in (status w n) ≡ Some seen) where
  shown-is : (server : Server) → server_at w n ≡ Some server → seen ≡ shown_of w server
  shown-is server at = go (server.up && server.desk) (sym (ap (λ (o : Option Server). seen_in (status_in w o)) at) ∙ shows)
    where
      go : (b : Bool) → seen_in (cond b (Ok (shown_of w server)) (Err seeing.Unreachable)) ≡ Some seen → seen ≡ shown_of w server
      go true h = sym (same_Some (shown_of w server) seen h)
      go false h = cc

  pub ruling-shown : IsRuling w n → TakesWrites seen
  ruling-shown h = (
    ap (λ (x : Status). x.source) (shown-is h.free.server h.free.there) ∙ h.free.free,
    ap (λ (x : Status). x.read_only) (shown-is h.writable.server h.writable.there) ∙ h.writable.writable,
  )

  pub under-shown : (d : ServerNo) → IsUnder w n d.0 → IsBelow d seen
  under-shown d h = ap (λ (x : Status). attached_no x.source) (shown-is h.server h.there) ∙ h.under
