-- If nothing is done nothing changes.
use Rattle.std.proofs.Common.{◌≡◌, ℕ, true, refl, Option, Some, None, Result, Ok, Err}
use Rattle.replication_laws.proofs.Prelude.{Apply, ApplyStep, Ask, Attach, AttachAuto, AttachFault, Befall, Coord, Exchange, Fetch, FetchStep, Purge}
use Rattle.replication_laws.proofs.Prelude.{PurgeAnswer, Request, Rotate, RotateAnswer, Server, ServerNo, Unreachable, World, Write, WriteAnswer}
use Rattle.replication_laws.proofs.Prelude.{after, after_apply, after_attach, after_attach_auto, after_desk, after_fetch, after_purge, after_rotate}
use Rattle.replication_laws.proofs.Prelude.{after_write, apply_answer, apply_step, attach_answer, attach_auto_answer, desk_answer, fetch_answer}
use Rattle.replication_laws.proofs.Prelude.{fetch_step, is_fault, no_new_file, nothing_applied, nothing_done, nothing_purged, nothing_read}
use Rattle.replication_laws.proofs.Prelude.{nothing_written, purge_answer, rotate_answer, server_at, write_answer}
use Rattle.replication_laws.proofs.Prelude.applying
use Rattle.replication_laws.proofs.Prelude.next
use Rattle.replication_laws.proofs.Prelude.purging
use Rattle.replication_laws.proofs.Prelude.receiving
use Rattle.replication_laws.proofs.Prelude.rotating
use Rattle.replication_laws.proofs.Prelude.wrote

same-write : (w : World) (n size : ℕ) (o : Option Server) (a : WriteAnswer) → nothing_written a ≡ true → after_write w n size o a ≡ w
same-write w n size (Some s) (wrote.Done seq) h = cc
same-write w n size _ _ h = refl

same-fetch : (w : World) (n : ℕ) (o : Option Server) (x : FetchStep) → nothing_read (fetch_answer x) ≡ true → after_fetch w n o x ≡ w
same-fetch w n (Some r) (receiving.Refuse first) h = cc
same-fetch w n (Some r) (receiving.Take (next.Entry index to)) h = cc
same-fetch w n (Some r) (receiving.Take (next.Rotate to)) h = cc
same-fetch w n _ _ h = refl

same-apply : (w : World) (n : ℕ) (o : Option Server) (x : ApplyStep) → nothing_applied (apply_answer x) ≡ true → after_apply w n o x ≡ w
same-apply w n (Some r) applying.ForgetUntil h = cc
same-apply w n (Some r) (applying.Pass to) h = cc
same-apply w n (Some r) (applying.Skip to) h = cc
same-apply w n (Some r) (applying.Execute t to) h = cc
same-apply w n _ _ h = refl

same-ask : (w : World) (n : ℕ) (a : Ask) (answer : Result (Unit {0}) Unreachable) → is_fault answer ≡ true → after_desk w n a answer ≡ w
same-ask w n a (Ok t) h = cc
same-ask w n a (Err e) h = refl

same-rotate : (w : World) (n : ℕ) (o : Option Server) (answer : RotateAnswer) → no_new_file answer ≡ true → after_rotate w n o answer ≡ w
same-rotate w n (Some s) (rotating.Done c) h = cc
same-rotate w n _ _ h = refl

same-purge : (w : World) (n : ℕ) (o : Option Server) (answer : PurgeAnswer) → nothing_purged answer ≡ true → after_purge w n o answer ≡ w
same-purge w n (Some s) (purging.Done first) h = cc
same-purge w n _ _ h = refl

same-attach : (w : World) (n : ℕ) (to : ServerNo) (c : Coord) (o : Option Server) (answer : Result (Unit {0}) AttachFault) → is_fault answer ≡ true → after_attach w n to c o answer ≡ w
same-attach w n to c None answer h = refl
same-attach w n to c (Some s) (Ok t) h = cc
same-attach w n to c (Some s) (Err e) h = refl

same-attach_auto : (w : World) (n : ℕ) (to : ServerNo) (o : Option Server) (answer : Result (Unit {0}) AttachFault) → is_fault answer ≡ true → after_attach_auto w n to o answer ≡ w
same-attach_auto w n to None answer h = refl
same-attach_auto w n to (Some s) (Ok t) h = cc
same-attach_auto w n to (Some s) (Err e) h = refl

pub nothing_done-same : (w : World) (e : Exchange) → nothing_done w e ≡ true → after w e ≡ w
nothing_done-same w (Write n size) h = same-write w n size (server_at w n) (write_answer n (server_at w n)) h
nothing_done-same w (Fetch n) h = same-fetch w n (server_at w n) (fetch_step w (server_at w n)) h
nothing_done-same w (Apply n) h = same-apply w n (server_at w n) (apply_step w (server_at w n)) h
nothing_done-same w (Request n a) h = same-ask w n a (desk_answer (server_at w n)) h
nothing_done-same w (Befall n e) h = cc
nothing_done-same w (Rotate n) h = same-rotate w n (server_at w n) (rotate_answer (server_at w n)) h
nothing_done-same w (Purge n file) h = same-purge w n (server_at w n) (purge_answer w n file (server_at w n)) h
nothing_done-same w (Attach n expect to at) h = same-attach w n to at (server_at w n) (attach_answer w n expect to.0 at (server_at w n)) h
nothing_done-same w (AttachAuto n observed to) h = same-attach_auto w n to (server_at w n) (attach_auto_answer w n observed to.0 (server_at w n)) h
