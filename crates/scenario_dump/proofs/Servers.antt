-- The text of a server, part by part.
use Rattle.std.proofs.Common.{◌≡◌, ◌∙◌, ℕ, Bool, true, ◌∷◌, List, [], ◌++◌, length, sym, ap, ap₂, refl, append_assoc, decimal, Option, Some, None, codes, option_map, slice_get}
use Rattle.scenario_dump.proofs.Prelude.{Coord, Members, Plain, Server, ServerNo, Settings, Without, World, boolean, compact_text, coord_data}
use Rattle.scenario_dump.proofs.Prelude.{coord_text, count_data, end_text, escape_byte, fixed_text, flag_text, flushes_text, history_text, init_of}
use Rattle.scenario_dump.proofs.Prelude.{is_detached, length-map, list_data, member, member_for, members_text, name_text, no_members, opening_of}
use Rattle.scenario_dump.proofs.Prelude.{part_data, parts_of, plain_of, points_of, printed, quoted, server_at, server_data, server_text}
use Rattle.scenario_dump.proofs.Prelude.{slice_get-map, source_in, string, until_text, uuid_text, version_text}
use Rattle.scenario_dump.proofs.Printed.{joined}
use Rattle.scenario_dump.proofs.Worlds.{told}

abbrev pub root_parts : World → ℕ → Settings → Plain → List (List ℕ)
root_parts w n r p =
    (codes "{\"cluster\":" ++ quoted r.cluster) ∷ (codes ",\"dc\":" ++ quoted r.dc) ∷ (codes ",\"desk\":" ++ flag_text p.desk) ∷ (codes ",\"feed\":" ++ flag_text p.feed) ∷ codes ",\"flushes\":" ∷ flushes_text w n
    ∷ codes ",\"history\":" ∷ history_text w n ∷ fixed_text r p.first ∷ (codes ",\"read_only\":" ++ flag_text p.read_only) ∷ (codes ",\"server_id\":" ++ decimal r.server_id) ∷ end_text r p.up ∷ []

abbrev pub replica_parts : World → ℕ → Settings → Plain → ServerNo → Bool → ℕ → List (List ℕ)
replica_parts w n r p m detached executed =
    (codes "{\"at\":" ++ quoted (coord_text p.exec)) ∷ (codes ",\"auto\":" ++ flag_text p.auto) ∷ (codes ",\"cluster\":" ++ quoted r.cluster) ∷ (codes ",\"dc\":" ++ quoted r.dc) ∷ (codes ",\"desk\":" ++ flag_text p.desk)
    ∷ (codes ",\"detached\":" ++ flag_text detached) ∷ (codes ",\"executed\":" ++ decimal executed) ∷ (codes ",\"feed\":" ++ flag_text p.feed) ∷ codes ",\"flushes\":" ∷ flushes_text w n ∷ (codes ",\"io\":" ++ flag_text p.receiver)
    ∷ fixed_text r p.first ∷ (codes ",\"read\":" ++ quoted (coord_text p.read)) ∷ (codes ",\"read_only\":" ++ flag_text p.read_only) ∷ (codes ",\"server_id\":" ++ decimal r.server_id)
    ∷ (codes ",\"source\":" ++ quoted (name_text (opening_of w).servers m.0)) ∷ (codes ",\"sql\":" ++ flag_text p.applier) ∷ until_text p.until ∷ end_text r p.up ∷ []

fixed_shape : (a b c d rest : List ℕ)
    → codes ",\"limit\":" ++ (a ++ (codes ",\"logs\":" ++ (b ++ (codes ",\"name\":" ++ (c ++ (codes ",\"purged\":" ++ d)))))) ++ rest
    ≡ codes ",\"limit\":" ++ (a ++ (codes ",\"logs\":" ++ (b ++ (codes ",\"name\":" ++ (c ++ (codes ",\"purged\":" ++ (d ++ rest)))))))
fixed_shape a b c d rest = simp append_assoc

-- the numbers and the name of a server before what follows them
abbrev fixed_flat : Settings → ℕ → List ℕ → List ℕ
fixed_flat r first rest = codes ",\"limit\":" ++ (decimal r.limit ++ (codes ",\"logs\":" ++ (flag_text r.logs ++ (codes ",\"name\":" ++ (quoted (printed r.name) ++ (codes ",\"purged\":" ++ (decimal first ++ rest)))))))

fixed_before : (r : Settings) (first : ℕ) (rest : List ℕ) → fixed_text r first ++ rest ≡ fixed_flat r first rest
fixed_before r first rest = fixed_shape (decimal r.limit) (flag_text r.logs) (quoted (printed r.name)) (decimal first) rest

-- what is printed of a server, as texts
abbrev points_text : Server → List ℕ
points_text s = compact_text (list_data count_data (points_of s))

abbrev parts_text : World → Server → List ℕ
parts_text w s = compact_text (list_data (part_data (opening_of w).servers) (parts_of s.history.txns))

abbrev end_members : Server → Members
end_members s = member (codes "up") (boolean s.up) (member (codes "uuid") (string (uuid_text s.settings.uuid)) (member (codes "version") (string (version_text s.settings.version)) no_members))

-- these parts before a text
abbrev behind_all : List (List ℕ) → List ℕ → List ℕ
behind_all [] text = text
behind_all (p ∷ ps) text = p ++ behind_all ps text

abbrev root_front : Settings → Plain → List ℕ → List ℕ → List (List ℕ)
root_front r p flushes history =
    (codes "{\"cluster\":" ++ quoted r.cluster) ∷ (codes ",\"dc\":" ++ quoted r.dc) ∷ (codes ",\"desk\":" ++ flag_text p.desk) ∷ (codes ",\"feed\":" ++ flag_text p.feed) ∷ codes ",\"flushes\":" ∷ flushes
    ∷ codes ",\"history\":" ∷ history ∷ []

abbrev root_back : Settings → Plain → List ℕ
root_back r p = codes ",\"read_only\":" ++ flag_text p.read_only ++ (codes ",\"server_id\":" ++ decimal r.server_id ++ end_text r p.up)

root_server : (w : World) (n : ℕ) (s : Server) → server_at w n ≡ Some s → s.source ≡ Without → server_text w n ≡ joined (root_parts w n s.settings (plain_of s))
unfolding server_text server_data init_of escape_byte
root_server w n s there alone = rw there (rw alone (ap (behind_all (root_front s.settings (plain_of s) (points_text s) (parts_text w s))) (sym (fixed_before s.settings s.first (root_back s.settings (plain_of s))))))

root_told : (w : World) (n : ℕ) (s : Server) (r : Settings) (p : Plain) → server_at w n ≡ Some s → s.source ≡ Without → r ≡ s.settings → p ≡ plain_of s → server_text w n ≡ joined (root_parts w n r p)
root_told w n s r p there alone settings plain =
    root_server w n s there alone ∙ ap₂ (λ r p. joined (root_parts w n r p)) (sym settings) (sym plain)

pub root_text : (w : World) (n : ℕ) (s : Server) (r : Settings) (p : Plain) → server_at w n ≡ Some s → option_map (λ s. s.settings) (server_at w n) ≡ Some r → option_map plain_of (server_at w n) ≡ Some p → option_map (λ s. s.source) (server_at w n) ≡ Some Without
    → server_text w n ≡ joined (root_parts w n r p)
root_text w n s r p there settings plain source = root_told w n s r p there (sym (told w n s (λ s. s.source) Without there source)) (told w n s (λ s. s.settings) r there settings) (told w n s plain_of p there plain)

until_member : (until : Option Coord) (rest : Members) → members_text true (member_for (codes "until") (option_map coord_data until) rest) ≡ until_text until ++ members_text true rest
unfolding escape_byte
until_member None rest = refl
until_member (Some c) rest = refl

abbrev replica_front : Settings → Plain → Bool → ℕ → List ℕ → List (List ℕ)
replica_front r p detached executed flushes =
    (codes "{\"at\":" ++ quoted (coord_text p.exec)) ∷ (codes ",\"auto\":" ++ flag_text p.auto) ∷ (codes ",\"cluster\":" ++ quoted r.cluster) ∷ (codes ",\"dc\":" ++ quoted r.dc) ∷ (codes ",\"desk\":" ++ flag_text p.desk)
    ∷ (codes ",\"detached\":" ++ flag_text detached) ∷ (codes ",\"executed\":" ++ decimal executed) ∷ (codes ",\"feed\":" ++ flag_text p.feed) ∷ codes ",\"flushes\":" ∷ flushes ∷ (codes ",\"io\":" ++ flag_text p.receiver) ∷ []

abbrev replica_middle : Settings → Plain → List ℕ → List (List ℕ)
replica_middle r p source =
    (codes ",\"read\":" ++ quoted (coord_text p.read)) ∷ (codes ",\"read_only\":" ++ flag_text p.read_only) ∷ (codes ",\"server_id\":" ++ decimal r.server_id) ∷ (codes ",\"source\":" ++ quoted source)
    ∷ (codes ",\"sql\":" ++ flag_text p.applier) ∷ []

replica_server : (w : World) (n : ℕ) (s : Server) (m : ServerNo) → server_at w n ≡ Some s → source_in s.source ≡ Some m → server_text w n ≡ joined (replica_parts w n s.settings (plain_of s) m (is_detached s.source) (length s.history.txns))
unfolding server_text server_data init_of escape_byte
replica_server w n s m there source =
    let r = s.settings in
    let p = plain_of s in
    let front = replica_front r p (is_detached s.source) (length s.history.txns) (points_text s) in
    let middle = replica_middle r p (name_text (opening_of w).servers m.0) in
    rw there (rw source (ap (λ v. behind_all front (fixed_flat r s.first (behind_all middle v))) (until_member s.until (end_members s)) ∙ ap (behind_all front) (sym (fixed_before r s.first (behind_all middle (until_text s.until ++ end_text r s.up))))))

pub replica_text : (w : World) (n : ℕ) (s : Server) (r : Settings) (p : Plain) (m : ServerNo) (detached : Bool) (executed : ℕ) → server_at w n ≡ Some s → option_map (λ s. s.settings) (server_at w n) ≡ Some r → option_map plain_of (server_at w n) ≡ Some p
    → option_map (λ s. source_in s.source) (server_at w n) ≡ Some (Some m) → option_map (λ s. is_detached s.source) (server_at w n) ≡ Some detached → option_map (λ s. length s.history.txns) (server_at w n) ≡ Some executed
    → server_text w n ≡ joined (replica_parts w n r p m detached executed)
replica_text w n s r p m detached executed there settings plain source state count =
    let same = told w n s (λ s. s.settings) r there settings in
    let same' = told w n s plain_of p there plain in
    replica_server w n s m there (sym (told w n s (λ s. source_in s.source) (Some m) there source))
    ∙ (ap₂ (λ r p. joined (replica_parts w n r p m (is_detached s.source) (length s.history.txns))) (sym same) (sym same')
    ∙ ap₂ (λ d k. joined (replica_parts w n r p m d k)) (sym (told w n s (λ s. is_detached s.source) detached there state)) (sym (told w n s (λ s. length s.history.txns) executed there count)))

-- the text of the server of a number
pub text_there : (w : World) (n : ℕ) (s : Server) → server_at w n ≡ Some s → compact_text (server_data (opening_of w).servers (init_of s)) ≡ server_text w n
unfolding server_text
text_there w n s there = rw there refl

pub init_there : (w : World) (n : ℕ) (s : Server) → server_at w n ≡ Some s → slice_get (opening_of w).servers n ≡ Some (init_of s)
unfolding opening_of
init_there w n s there = slice_get-map init_of w.servers n ∙ ap (option_map init_of) there

pub inits_count : (w : World) → length (opening_of w).servers ≡ length w.servers
unfolding opening_of
inits_count w = simp length-map
