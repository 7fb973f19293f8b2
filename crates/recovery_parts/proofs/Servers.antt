-- What is asked of a server, and an attachment, add no server and take none away.
use Rattle.std.proofs.Common.{◌≡◌, ℕ, ◌-◌, ◌<◌, List, [], ◌∷◌, All, length, map, take, drop, get_or, refl, sym, ap, ◌∙◌, subst, arith, Option, Some, None, length-drop, Result, Ok, Err}
use Rattle.std.proofs.lemmas.List.{length-set, take_all}
use Rattle.std.proofs.lemmas.List.Elements.{All-nil, All-tail}
use Rattle.recovery_plans.specs.BinlogCoords.declared.Coord.{Coord}
use Rattle.recovery_plans.specs.OrchBase.declared.server.ServerNo.{ServerNo}
use Rattle.recovery_plans.specs.ServerWords.declared.answers.Unreachable.{Unreachable}
use Rattle.recovery_plans.specs.ServerWords.declared.attach.AttachFault.{AttachFault}
use Rattle.recovery_plans.specs.ServerWords.declared.changes.Ask.{Ask}
use Rattle.recovery_plans.specs.ServerModel.declared.server.Server.{Server}
use Rattle.recovery_plans.specs.ServerModel.Attach.{after_attach, attach_answer, attached_to}
use Rattle.recovery_plans.specs.ServerModel.Desk.{after_change, after_desk, asked, desk_answer}
use Rattle.recovery_plans.specs.ServerModel.Run.{AllAllowed, after}
use Rattle.recovery_plans.specs.ServerModel.Worlds.{World, server_at}
use Rattle.recovery_plans.specs.Operations.Changes.{server_of}
use Rattle.recovery_parts.specs.declared.doing.Change.{Change}
use Rattle.recovery_parts.specs.declared.doing.Change.TheVariants as change
use Rattle.recovery_parts.specs.Doings.{exchange_of}

after-asked : (w : World) (n : ℕ) (f : Server → Server) (o : Option Server) → length (after_change w n f o).servers ≡ length w.servers
after-asked w n f None = refl
after-asked w n f (Some s) = length-set w.servers n (f s)

after-ask : (w : World) (n : ℕ) (a : Ask) (answer : Result (Unit {0}) Unreachable) → length (after_desk w n a answer).servers ≡ length w.servers
after-ask w n a (Ok t) = after-asked w n (asked a) (server_at w n)
after-ask w n a (Err e) = refl

after-attached : (w : World) (n : ℕ) (to : ServerNo) (c : Coord) (o : Option Server) (answer : Result (Unit {0}) AttachFault)
    → length (after_attach w n to c o answer).servers ≡ length w.servers
after-attached w n to c None answer = refl
after-attached w n to c (Some s) (Ok t) = length-set w.servers n (attached_to to c s)
after-attached w n to c (Some s) (Err e) = refl

pub as-many : (w : World) (x : Change) → length (after w (exchange_of x)).servers ≡ length w.servers
as-many w (change.Ask n a) = after-ask w n.0 a (desk_answer (server_at w n.0))
as-many w (change.Attach n expect to at) = after-attached w n.0 to at (server_at w n.0) (attach_answer w n.0 expect to.0 at (server_at w n.0))

-- the changes after the first, as a pattern has them
rest-is : (xs : List Change) → take (length xs - 1) (drop 1 xs) ≡ drop 1 xs
rest-is xs = take_all (length xs - 1) (drop 1 xs) (omega (arith, length-drop 1 xs))

-- their servers are there after the first one was made
pub rest-there : (w v : World) (xs : List Change) (d : Change) → v ≡ after w (exchange_of (get_or xs 0 d)) → All (λ x. server_of x < length w.servers) (map exchange_of xs)
    → All (λ x. server_of x < length v.servers) (map exchange_of (take (length xs - 1) (drop 1 xs)))
rest-there w v xs d is all =
    subst (λ (ys : List Change). All (λ x. server_of x < length v.servers) (map exchange_of ys)) (sym (rest-is xs))
    (go xs (ap (λ (u : World). length u.servers) is ∙ as-many w (get_or xs 0 d)) all)
  where
    go : (ys : List Change) → length v.servers ≡ length w.servers → All (λ x. server_of x < length w.servers) (map exchange_of ys)
        → All (λ x. server_of x < length v.servers) (map exchange_of (drop 1 ys))
    go [] same h = All-nil (λ x. server_of x < length v.servers)
    go (y ∷ ys) same h =
        subst (λ (k : ℕ). All (λ x. server_of x < k) (map exchange_of ys)) (sym same)
        (All-tail (λ x. server_of x < length w.servers) (exchange_of y) (map exchange_of ys) h)

-- and they are allowed then
pub rest-allowed : (w v : World) (xs : List Change) (d : Change) → v ≡ after w (exchange_of (get_or xs 0 d)) → AllAllowed w (map exchange_of xs)
    → AllAllowed v (map exchange_of (take (length xs - 1) (drop 1 xs)))
rest-allowed w v xs d is all = subst (λ (ys : List Change). AllAllowed v (map exchange_of ys)) (sym (rest-is xs)) (go xs is all)
  where
    go : (ys : List Change) → v ≡ after w (exchange_of (get_or ys 0 d)) → AllAllowed w (map exchange_of ys) → AllAllowed v (map exchange_of (drop 1 ys))
    go [] same h = tt
    go (y ∷ ys) same h = subst (λ (u : World). AllAllowed u (map exchange_of ys)) (sym same) h.1
