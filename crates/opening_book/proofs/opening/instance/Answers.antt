use Rattle.std.proofs.Common.{◌≡◌, ℕ, Bool, Option, Some, None, sym, ◌∙◌, ap, IfSome, option_map}
use Rattle.opening_book.proofs.Prelude.{Instance, Moment, Server, Status, World, can_reach, opening_instance, same_Some, server_at, shown_of}
use Rattle.opening_book.proofs.opening.instance.Goals as goal

-- an instance that was never read
abbrev first_instance : Moment → ℕ → Bool → Status → Instance
first_instance at n valid seen = record { no = record { 0 = n }; read = 0; moment = at; valid = valid; seen = seen }

instance-shown : (w : World) (at : Moment) (n : ℕ) (o : Option Server) (valid : Bool) (seen : Status) → valid ≡ can_reach o → option_map (shown_of w) o ≡ Some seen
    → IfSome o (λ s. first_instance at n valid seen ≡ opening_instance w at n s)
instance-shown w at n None valid seen reached shows = tt
instance-shown w at n (Some s) valid seen reached shows =
    ap (λ b. first_instance at n b seen) reached ∙ ap (first_instance at n (can_reach (Some s))) (sym (same_Some (shown_of w s) seen shows))

pub returns : goal.returns
returns c =
    instance-shown c.args.world.now c.args.moment c.args.no.0 (server_at c.args.world.now c.args.no.0) c.is_reached-valid.result c.in_ok-seen.seen c.is_reached-valid.ensures c.in_ok-seen.ensures
