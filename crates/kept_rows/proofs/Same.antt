-- Equal instances are those that the code finds equal.
use Rattle.kept_rows.proofs.Prelude.{Coord, Instance, Interval, IoState, Moment, ServerNo, SourceState, Status as Seen, false≢true, same_bool}
use Rattle.kept_rows.proofs.Prelude.{same_coord, same_coord-refl as coord_refl, same_coord-true as coord_is, same_end, same_instance, same_interval}
use Rattle.kept_rows.proofs.Prelude.{same_io, same_log, same_place, same_seen, same_set, same_source, same_threads}
use Rattle.kept_rows.proofs.Prelude.io
use Rattle.kept_rows.proofs.Prelude.source
use Rattle.std.proofs.Common.{◌≡◌, ℕ, Bool, true, false, List, [], ◌∷◌, Option, None, Some, refl, sym, ap, subst, arith, ◌==◌, ◌&&◌}
use Rattle.kept_rows.proofs.Known.{both_true}

pub eq_refl : (n : ℕ) → (n == n) ≡ true
eq_refl n = grind arith

bool_refl : (b : Bool) → same_bool b b ≡ true
bool_refl true = refl
bool_refl false = refl

pub bool_is : (a b : Bool) → same_bool a b ≡ true → a ≡ b
bool_is true b h = sym h
bool_is false true h = absurd (false≢true h)
bool_is false false h = refl

pub eq_is : (a b : ℕ) → (a == b) ≡ true → a ≡ b
eq_is a b h = grind arith

-- records are their fields

no_of : ℕ → ServerNo
no_of n = record { 0 = n }

no_eta : (a : ServerNo) → no_of a.0 ≡ a
unfolding no_of
no_eta a = refl

pub moment_of : ℕ → Moment
moment_of n = record { 0 = n }

pub moment_eta : (a : Moment) → moment_of a.0 ≡ a
unfolding moment_of
moment_eta a = refl

interval_of : ℕ → ℕ → ℕ → Interval
interval_of uuid first last = record { uuid = uuid; first = first; last = last }

interval_eta : (a : Interval) → interval_of a.uuid a.first a.last ≡ a
unfolding interval_of
interval_eta a = refl

seen_of : Option Coord → SourceState → Coord → Coord → Bool → IoState → Bool → Bool → List Interval → ℕ → List Interval → Seen
seen_of own_end source exec read auto io sql read_only set first purged =
    record { own_end = own_end; source = source; exec = exec; read = read; auto = auto; io = io; sql = sql; read_only = read_only; set = set; first = first; purged = purged }

seen_eta : (a : Seen) → seen_of a.own_end a.source a.exec a.read a.auto a.io a.sql a.read_only a.set a.first a.purged ≡ a
unfolding seen_of
seen_eta a = refl

instance_of : ServerNo → ℕ → Moment → Bool → Seen → Instance
instance_of number read moment valid shown = record { no = number; read = read; moment = moment; valid = valid; seen = shown }

instance_eta : (a : Instance) → instance_of a.no a.read a.moment a.valid a.seen ≡ a
unfolding instance_of
instance_eta a = refl

end_refl : (a : Option Coord) → same_end a a ≡ true
end_refl None = refl
end_refl (Some a) = coord_refl a

end_is : (a b : Option Coord) → same_end a b ≡ true → a ≡ b
end_is None None h = refl
end_is (Some a) (Some b) h = ap Some (coord_is a b h)
end_is None (Some b) h = absurd (false≢true h)
end_is (Some a) None h = absurd (false≢true h)

source_refl : (a : SourceState) → same_source a a ≡ true
source_refl source.Without = refl
source_refl (source.Attached n) = eq_refl n.0
source_refl (source.Detached n) = eq_refl n.0

pub no_is : (m n : ServerNo) → (m.0 == n.0) ≡ true → m ≡ n
no_is m n h = let e = eq_is m.0 n.0 h in cc (no_eta m, no_eta n)

source_is : (a b : SourceState) → same_source a b ≡ true → a ≡ b
source_is source.Without source.Without h = refl
source_is (source.Attached m) (source.Attached n) h = ap source.Attached (no_is m n h)
source_is (source.Detached m) (source.Detached n) h = ap source.Detached (no_is m n h)
source_is _ _ h = absurd (false≢true h)

io_refl : (a : IoState) → same_io a a ≡ true
io_refl io.Yes = refl
io_refl io.Connecting = refl
io_refl io.No = refl

io_is : (a b : IoState) → same_io a b ≡ true → a ≡ b
io_is io.Yes io.Yes h = refl
io_is io.Connecting io.Connecting h = refl
io_is io.No io.No h = refl
io_is _ _ h = absurd (false≢true h)

interval_refl : (a : Interval) → same_interval a a ≡ true
interval_refl a = rw (eq_refl a.uuid, eq_refl a.first, eq_refl a.last) refl

interval_is : (a b : Interval) → same_interval a b ≡ true → a ≡ b
interval_is a b h =
    let e = both_true (a.uuid == b.uuid) ((a.first == b.first) && (a.last == b.last)) h in
    let g = both_true (a.first == b.first) (a.last == b.last) e.1 in
    let uuid = eq_is a.uuid b.uuid e.0 in
    let first = eq_is a.first b.first g.0 in
    let last = eq_is a.last b.last g.1 in
    cc (interval_eta a, interval_eta b)

set_refl : (xs : List Interval) → same_set xs xs ≡ true
set_refl [] = refl
set_refl (x ∷ xs) = rw (interval_refl x, set_refl xs) refl

set_is : (xs ys : List Interval) → same_set xs ys ≡ true → xs ≡ ys
set_is [] [] h = refl
set_is [] (y ∷ ys) h = absurd (false≢true h)
set_is (x ∷ xs) [] h = absurd (false≢true h)
set_is (x ∷ xs) (y ∷ ys) h =
    let e = both_true (same_interval x y) (same_set xs ys) h in
    let first = interval_is x y e.0 in
    let rest = set_is xs ys e.1 in
    cc

seen_refl : (a : Seen) → same_seen a a ≡ true
seen_refl a =
    rw (end_refl a.own_end, eq_refl a.first, set_refl a.purged, source_refl a.source, coord_refl a.exec, coord_refl a.read, bool_refl a.auto, io_refl a.io, bool_refl a.sql, bool_refl a.read_only, set_refl a.set) refl

seen_is : (a b : Seen) → same_seen a b ≡ true → a ≡ b
seen_is a b h =
    let e = both_true (same_log a b) (same_place a b && (same_threads a b && same_set a.set b.set)) h in
    let l = both_true (same_end a.own_end b.own_end) ((a.first == b.first) && same_set a.purged b.purged) e.0 in
    let m = both_true (a.first == b.first) (same_set a.purged b.purged) l.1 in
    let f = both_true (same_place a b) (same_threads a b && same_set a.set b.set) e.1 in
    let g = both_true (same_threads a b) (same_set a.set b.set) f.1 in
    let p = both_true (same_source a.source b.source) (same_coord a.exec b.exec && (same_coord a.read b.read && same_bool a.auto b.auto)) f.0 in
    let q = both_true (same_coord a.exec b.exec) (same_coord a.read b.read && same_bool a.auto b.auto) p.1 in
    let r = both_true (same_coord a.read b.read) (same_bool a.auto b.auto) q.1 in
    let t = both_true (same_io a.io b.io) (same_bool a.sql b.sql && same_bool a.read_only b.read_only) g.0 in
    let u = both_true (same_bool a.sql b.sql) (same_bool a.read_only b.read_only) t.1 in
    let own_end = end_is a.own_end b.own_end l.0 in
    let first = eq_is a.first b.first m.0 in
    let purged = set_is a.purged b.purged m.1 in
    let source = source_is a.source b.source p.0 in
    let exec = coord_is a.exec b.exec q.0 in
    let read = coord_is a.read b.read r.0 in
    let auto = bool_is a.auto b.auto r.1 in
    let io = io_is a.io b.io t.0 in
    let sql = bool_is a.sql b.sql u.0 in
    let read_only = bool_is a.read_only b.read_only u.1 in
    let set = set_is a.set b.set g.1 in
    cc (seen_eta a, seen_eta b)

pub instance_refl : (a b : Instance) → a ≡ b → same_instance a b ≡ true
instance_refl a b h = subst (λ c. same_instance a c ≡ true) h (rw (eq_refl a.no.0, eq_refl a.read, eq_refl a.moment.0, bool_refl a.valid, seen_refl a.seen) refl)

pub instance_is : (a b : Instance) → same_instance a b ≡ true → a ≡ b
instance_is a b h =
    let e = both_true (a.no.0 == b.no.0) ((a.read == b.read) && ((a.moment.0 == b.moment.0) && (same_bool a.valid b.valid && same_seen a.seen b.seen))) h in
    let f = both_true (a.read == b.read) ((a.moment.0 == b.moment.0) && (same_bool a.valid b.valid && same_seen a.seen b.seen)) e.1 in
    let g = both_true (a.moment.0 == b.moment.0) (same_bool a.valid b.valid && same_seen a.seen b.seen) f.1 in
    let p = both_true (same_bool a.valid b.valid) (same_seen a.seen b.seen) g.1 in
    let no = no_is a.no b.no e.0 in
    let read = eq_is a.read b.read f.0 in
    let moment = eq_is a.moment.0 b.moment.0 g.0 in
    let valid = bool_is a.valid b.valid p.0 in
    let seen = seen_is a.seen b.seen p.1 in
    cc (instance_eta a, instance_eta b, moment_eta a.moment, moment_eta b.moment)
