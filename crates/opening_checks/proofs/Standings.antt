-- The positions of replicas in their sources' logs.
use Rattle.std.proofs.Common.{◌≡◌, List, cond, refl, sym, ap, ◌∙◌, Some}
use Rattle.std.specs.Prelude.{slice_get, unwrap_or}
use Rattle.opening_checks.proofs.Prelude.{Coord, Log, ServerInit, ServerNo, at_server, at_source, bad_coords, bad_coords_in, bad_coords_under}
use Rattle.opening_checks.proofs.Prelude.{bad_exec, bad_exec_in, coord_after, coord_value, coord_value_under, exec_in, exec_of, exec_under, log_at}
use Rattle.opening_checks.proofs.Prelude.{number_of, read_in, read_of}
use Rattle.opening_checks.proofs.Prelude.value

-- the test by the source's log
pub bad_coords-at : (servers : List ServerInit) (i source : ServerInit) (m : ServerNo) (log : Log) (exec read : Coord) → i.source ≡ Some m → slice_get servers m.0 ≡ Some source → log ≡ log_at servers m.0
    → exec ≡ unwrap_or i.at (coord_after log i.executed) → read ≡ unwrap_or i.read exec → bad_coords_in log i.executed exec read ≡ bad_coords servers i
bad_coords-at servers i source m log exec read some there same at_exec at_read =
    let own : exec ≡ exec_of servers i = at_exec ∙ ap (λ l. unwrap_or i.at (coord_after l i.executed)) same ∙ sym (ap (exec_under servers i) some) in
    let behind : read ≡ read_of servers i = at_read ∙ ap (λ c. unwrap_or i.read c) own in
    ap (λ l. bad_coords_in l i.executed exec read) same
    ∙ ap (λ c. bad_coords_in (log_at servers m.0) i.executed c read) own
    ∙ ap (λ c. bad_coords_in (log_at servers m.0) i.executed (exec_of servers i) c) behind
    ∙ sym (ap (at_server (λ s. bad_coords_in (log_at servers m.0) i.executed (exec_of servers i) (read_of servers i))) there)
    ∙ sym (ap (at_source servers (λ k s. bad_coords_in (log_at servers k) i.executed (exec_of servers i) (read_of servers i))) (ap number_of some))

-- if its log is a server's, whether the executed coordinate of its replica is out of place
pub bad_exec-at : (servers : List ServerInit) (i source : ServerInit) (m : ServerNo) (log : Log) → i.source ≡ Some m → slice_get servers m.0 ≡ Some source → log ≡ log_at servers m.0
    → bad_exec_in log i.executed (exec_in log i) ≡ bad_exec servers i
bad_exec-at servers i source m log some there same =
    let own : exec_in log i ≡ exec_of servers i = ap (λ l. exec_in l i) same ∙ sym (ap (exec_under servers i) some) in
    ap (λ l. bad_exec_in l i.executed (exec_in log i)) same
    ∙ ap (bad_exec_in (log_at servers m.0) i.executed) own
    ∙ sym (ap (at_server (λ s. bad_exec_in (log_at servers m.0) i.executed (exec_of servers i))) there)
    ∙ sym (ap (at_source servers (λ k s. bad_exec_in (log_at servers k) i.executed (exec_of servers i))) (ap number_of some))

-- the answers under a log are those of the server
pub coords-under : (servers : List ServerInit) (i source : ServerInit) (m : ServerNo) (log : Log) → i.source ≡ Some m → slice_get servers m.0 ≡ Some source → log ≡ log_at servers m.0
    → bad_coords_under log i ≡ bad_coords servers i
coords-under servers i source m log some there same = bad_coords-at servers i source m log (exec_in log i) (read_in log i) some there same refl refl

pub value-under : (servers : List ServerInit) (i source : ServerInit) (m : ServerNo) (log : Log) → i.source ≡ Some m → slice_get servers m.0 ≡ Some source → log ≡ log_at servers m.0
    → coord_value_under log i ≡ coord_value servers i
value-under servers i source m log some there same = ap (λ b. cond b value.At value.Read) (bad_exec-at servers i source m log some there same)
