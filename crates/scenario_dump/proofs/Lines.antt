-- The text is UTF-8 if the texts in it are.
use Rattle.std.proofs.Common.{inl, ◌≡◌, ◌==◌, ℕ, zero, suc, ◌+◌, ◌/◌, ◌%◌, Bool, true, false, cond, ◌∷◌, List, [], ◌++◌, length, drop, Option, Some, None, refl, arith, decimal}
use Rattle.std.specs.Prelude.{All, codes, is_some, nat_lt, option_map, slice_get, unwrap_or}
use Rattle.scenario_dump.proofs.Prelude.{Alias, Block, Coord, Data, HasTexts, Hook, IsName, IsUtf8, IsUtf8-append, IsUtf8-are_ascii}
use Rattle.scenario_dump.proofs.Prelude.{IsUtf8-boolean, IsUtf8-from_ascii, IsUtf8-nil, IsUtf8-quoted, Items, Members, Part, Scenario, ServerInit}
use Rattle.scenario_dump.proofs.Prelude.{ServerNo, Version, World, aliases_data, are_ascii, array, blocks_data, boolean, comma_if, common_steps}
use Rattle.scenario_dump.proofs.Prelude.{compact_text, coord_data, coord_text, count_data, digit_glyph, digits, digits_onto, drop-nil, dump_data}
use Rattle.scenario_dump.proofs.Prelude.{dump_text, float, hook_data, hyphenated_ascii, is_utf8, is_utf8-from_IsUtf8, item, items_of}
use Rattle.scenario_dump.proofs.Prelude.{items_text, list_data, lower, member, member_for, member_if, members_text, name_text, negative}
use Rattle.scenario_dump.proofs.Prelude.{no_items, no_members, null, number, object, opening_of, part_data, printed, server_data, six_digits, string}
use Rattle.scenario_dump.proofs.Prelude.{to_be_bytes, unsigned, uuid_text, version_text, w128}
use Rattle.scenario_dump.proofs.ReadBack.{both}
use Rattle.scenario_dump.proofs.Worlds.{All-at}
use Rattle.scenarios.proofs.OrchBase.Printed.{printed_is_utf8 as utf8_printed}

-- ---- decimals are ASCII, whatever their size

ascii-append : (a b : List ℕ) → are_ascii a ≡ true → are_ascii b ≡ true → are_ascii (a ++ b) ≡ true
ascii-append [] b first second = second
ascii-append (x ∷ xs) b first second = let p = both (nat_lt x 128) (are_ascii xs) first in rw p.0 (ascii-append xs b p.1 second)

ascii_glyph : (n : ℕ) (acc : List ℕ) → are_ascii acc ≡ true → are_ascii (digit_glyph false (n % 10) ∷ acc) ≡ true
ascii_glyph n acc all =
    let same : digit_glyph false (n % 10) ≡ 48 + n % 10 = grind (arith, common_steps) in
    let small : nat_lt (48 + n % 10) 128 ≡ true = grind (arith, common_steps) in
    rw same (rw small all)

ascii-either : (b : Bool) (x y : List ℕ) → are_ascii x ≡ true → are_ascii y ≡ true → are_ascii (cond b x y) ≡ true
ascii-either true x y first second = first
ascii-either false x y first second = second

ascii-onto : (k n : ℕ) (acc : List ℕ) → are_ascii acc ≡ true → are_ascii (digits_onto k 10 false n acc) ≡ true
ascii-onto zero n acc all = all
ascii-onto (suc k) n acc all =
    let last = ascii_glyph n acc all in
    ascii-either (n / 10 == 0) (digit_glyph false (n % 10) ∷ acc) (digits_onto k 10 false (n / 10) (digit_glyph false (n % 10) ∷ acc)) last (ascii-onto k (n / 10) (digit_glyph false (n % 10) ∷ acc) last)

ascii-decimal : (n : ℕ) → are_ascii (decimal n) ≡ true
unfolding digits
ascii-decimal n = ascii-onto 64 n [] refl

utf8_decimal : (n : ℕ) → IsUtf8 (decimal n)
utf8_decimal n = IsUtf8-are_ascii (decimal n) (ascii-decimal n)

-- ---- coordinates, names, UUIDs and versions

ascii-zeros : (k : ℕ) → are_ascii (drop k (codes "000000")) ≡ true
ascii-zeros zero = refl
ascii-zeros (suc (suc (suc (suc (suc (suc k)))))) = rw (drop-nil k) refl
ascii-zeros _ = refl

utf8_coord : (c : Coord) → IsUtf8 (coord_text c)
utf8_coord c =
    let file = decimal c.file in
    IsUtf8-are_ascii (coord_text c)
    (ascii-append (codes "mysql-bin." ++ six_digits c.file ++ codes ":") (decimal c.pos)
    (ascii-append (codes "mysql-bin." ++ six_digits c.file) (codes ":")
    (ascii-append (codes "mysql-bin.") (six_digits c.file) refl (ascii-append (drop (length file) (codes "000000")) file (ascii-zeros (length file)) (ascii-decimal c.file))) refl)
    (ascii-decimal c.pos))

utf8_version : (v : Version) → IsUtf8 (version_text v)
utf8_version v =
    IsUtf8-are_ascii (version_text v)
    (ascii-append (decimal v.major ++ codes "." ++ decimal v.minor ++ codes ".") (decimal v.patch)
    (ascii-append (decimal v.major ++ codes "." ++ decimal v.minor) (codes ".")
    (ascii-append (decimal v.major ++ codes ".") (decimal v.minor) (ascii-append (decimal v.major) (codes ".") (ascii-decimal v.major) refl) (ascii-decimal v.minor)) refl)
    (ascii-decimal v.patch))

utf8_uuid : (uuid : ℕ) → IsUtf8 (uuid_text uuid)
utf8_uuid uuid = IsUtf8-from_ascii (uuid_text uuid) (hyphenated_ascii lower (to_be_bytes w128 uuid) (inl refl))

-- ---- values whose texts are UTF-8

abbrev mutual
  HasUtf8 : Data → Type 0
  HasUtf8 null = Unit {0}
  HasUtf8 (boolean b) = Unit {0}
  HasUtf8 (number (unsigned n)) = Unit {0}
  HasUtf8 (number (negative z)) = ⊥
  HasUtf8 (number (float x)) = ⊥
  HasUtf8 (string s) = IsUtf8 s
  HasUtf8 (array ds) = ItemsHaveUtf8 ds
  HasUtf8 (object ms) = MembersHaveUtf8 ms

  ItemsHaveUtf8 : Items → Type 0
  ItemsHaveUtf8 no_items = Unit {0}
  ItemsHaveUtf8 (item d ds) = HasUtf8 d × ItemsHaveUtf8 ds

  MembersHaveUtf8 : Members → Type 0
  MembersHaveUtf8 no_members = Unit {0}
  MembersHaveUtf8 (member k d ms) = IsUtf8 k × (HasUtf8 d × MembersHaveUtf8 ms)

utf8_comma : (later : Bool) → IsUtf8 (comma_if later)
utf8_comma true = IsUtf8-are_ascii (44 ∷ []) refl
utf8_comma false = IsUtf8-nil

-- after an ASCII byte
utf8_behind : (b : ℕ) (text : List ℕ) → are_ascii (b ∷ []) ≡ true → IsUtf8 text → IsUtf8 (b ∷ text)
utf8_behind b text small all = IsUtf8-append (b ∷ []) text (IsUtf8-are_ascii (b ∷ []) small) all

mutual
  utf8_value : (d : Data) → HasUtf8 d → IsUtf8 (compact_text d)
  utf8_value null has = IsUtf8-are_ascii (compact_text null) refl
  utf8_value (boolean b) has = IsUtf8-boolean b
  utf8_value (number (unsigned n)) has = utf8_decimal n
  utf8_value (number (negative z)) has = absurd has
  utf8_value (number (float x)) has = absurd has
  utf8_value (string s) has = IsUtf8-quoted s has
  utf8_value (array ds) has = utf8_behind 91 (items_text false ds) refl (utf8_items false ds has)
  utf8_value (object ms) has = utf8_behind 123 (members_text false ms) refl (utf8_members false ms has)

  utf8_items : (later : Bool) (ds : Items) → ItemsHaveUtf8 ds → IsUtf8 (items_text later ds)
  utf8_items later no_items has = IsUtf8-are_ascii (93 ∷ []) refl
  utf8_items later (item d ds) has = IsUtf8-append (comma_if later) (compact_text d ++ items_text true ds) (utf8_comma later) (IsUtf8-append (compact_text d) (items_text true ds) (utf8_value d has.0) (utf8_items true ds has.1))

  utf8_members : (later : Bool) (ms : Members) → MembersHaveUtf8 ms → IsUtf8 (members_text later ms)
  utf8_members later no_members has = IsUtf8-are_ascii (125 ∷ []) refl
  utf8_members later (member k d ms) has =
      IsUtf8-append (comma_if later) (compact_text (string k) ++ 58 ∷ (compact_text d ++ members_text true ms)) (utf8_comma later)
      (IsUtf8-append (compact_text (string k)) (58 ∷ (compact_text d ++ members_text true ms)) (IsUtf8-quoted k has.0)
      (utf8_behind 58 (compact_text d ++ members_text true ms) refl (IsUtf8-append (compact_text d) (members_text true ms) (utf8_value d has.1.0) (utf8_members true ms has.1.1))))

-- ---- the value of the world

literal : (text : List ℕ) → are_ascii text ≡ true → IsUtf8 text
literal text all = IsUtf8-are_ascii text all

All-first : {A : Type 0} (P : A → Type 0) (x : A) (xs : List A) → All P (x ∷ xs) → P x
All-first P x xs all = all 0 x (omega arith)

pub All-rest : {A : Type 0} (P : A → Type 0) (x : A) (xs : List A) → All P (x ∷ xs) → All P xs
All-rest P x xs all = λ k d below. all (suc k) d (omega arith)

has_items : {A : Type 0} (f : A → Data) (P : A → Type 0) (xs : List A) → ((x : A) → P x → HasUtf8 (f x)) → All P xs → ItemsHaveUtf8 (items_of f xs)
has_items f P [] each all = tt
has_items f P (x ∷ xs) each all = (each x (All-first P x xs all), has_items f P xs each (All-rest P x xs all))

has_counts : (ns : List ℕ) → ItemsHaveUtf8 (items_of count_data ns)
has_counts [] = tt
has_counts (n ∷ ns) = (tt, has_counts ns)

has_texts : (xs : List (List ℕ)) → All IsUtf8 xs → ItemsHaveUtf8 (items_of string xs)
has_texts xs all = has_items string IsUtf8 xs (λ x is. is) all

has_if : (there : Bool) (key : List ℕ) (d : Data) (rest : Members) → IsUtf8 key → HasUtf8 d → MembersHaveUtf8 rest → MembersHaveUtf8 (member_if there key d rest)
has_if true key d rest k has more = (k, (has, more))
has_if false key d rest k has more = more

has_coord : (o : Option Coord) (key : List ℕ) (rest : Members) → IsUtf8 key → MembersHaveUtf8 rest → MembersHaveUtf8 (member_for key (option_map coord_data o) rest)
has_coord None key rest k more = more
has_coord (Some c) key rest k more = (k, (utf8_coord c, more))

-- the name of a server, if it is there
abbrev AreNamed : List ServerInit → Type 0
AreNamed servers = All (λ i. IsName i.settings.name) servers

utf8_of : (o : Option ServerInit) → ((i : ServerInit) → o ≡ Some i → IsName i.settings.name) → IsUtf8 (unwrap_or (option_map (λ i. printed i.settings.name) o) [])
utf8_of None names = IsUtf8-nil
utf8_of (Some i) names = utf8_printed i.settings.name (names i refl)

utf8_name : (servers : List ServerInit) (n : ℕ) → AreNamed servers → IsUtf8 (name_text servers n)
utf8_name servers n names = utf8_of (slice_get servers n) (λ i there. All-at (λ i. IsName i.settings.name) servers n i names there)

has_part : (servers : List ServerInit) → AreNamed servers → (p : Part) → HasUtf8 (part_data servers p)
has_part servers names p = (utf8_name servers p.origin.0 names, (tt, (tt, tt)))

has_parts : (servers : List ServerInit) → AreNamed servers → (ps : List Part) → ItemsHaveUtf8 (items_of (part_data servers) ps)
has_parts servers names [] = tt
has_parts servers names (p ∷ ps) = (has_part servers names p, has_parts servers names ps)

has_history : (servers : List ServerInit) → AreNamed servers → (o : Option (List Part)) (rest : Members) → IsUtf8 (codes "history") → MembersHaveUtf8 rest → MembersHaveUtf8 (member_for (codes "history") (option_map (list_data (part_data servers)) o) rest)
has_history servers names None rest k more = more
has_history servers names (Some ps) rest k more = (k, (has_parts servers names ps, more))

has_source : (servers : List ServerInit) → AreNamed servers → (o : Option ServerNo) (rest : Members) → IsUtf8 (codes "source") → MembersHaveUtf8 rest → MembersHaveUtf8 (member_for (codes "source") (option_map (λ m. string (name_text servers m.0)) o) rest)
has_source servers names None rest k more = more
has_source servers names (Some m) rest k more = (k, (utf8_name servers m.0 names, more))

record IsTold (i : ServerInit) : Type 0 where
  name : IsName i.settings.name
  cluster : IsUtf8 i.settings.cluster
  dc : IsUtf8 i.settings.dc

has_server : (servers : List ServerInit) → AreNamed servers → (i : ServerInit) → IsTold i → HasUtf8 (server_data servers i)
unfolding server_data
has_server servers names i is =
    (has_coord i.at _ _ (literal (codes "at") refl)
    (has_if (is_some i.source) _ _ _ (literal (codes "auto") refl) tt (
      (literal (codes "cluster") refl),
      (
        is.cluster,
        (
          (literal (codes "dc") refl),
          (
            is.dc,
            (
              (literal (codes "desk") refl),
              (
                tt,
                (has_if (is_some i.source) _ _ _ (literal (codes "detached") refl) tt
                    (has_if (is_some i.source) _ _ _ (literal (codes "executed") refl) tt (
                      (literal (codes "feed") refl),
                      (
                        tt,
                        (
                          (literal (codes "flushes") refl),
                          (
                            has_counts i.flushes,
                            (has_history servers names i.history _ (literal (codes "history") refl)
                                (has_if (is_some i.source) _ _ _ (literal (codes "io") refl) tt (
                                  (literal (codes "limit") refl),
                                  (
                                    tt,
                                    (
                                      (literal (codes "logs") refl),
                                      (
                                        tt,
                                        (
                                          (literal (codes "name") refl),
                                          (
                                            (utf8_printed i.settings.name is.name),
                                            (
                                              (literal (codes "purged") refl),
                                              (
                                                tt,
                                                (has_coord i.read _ _ (literal (codes "read") refl) (
                                                  (literal (codes "read_only") refl),
                                                  (
                                                    tt,
                                                    (
                                                      (literal (codes "server_id") refl),
                                                      (
                                                        tt,
                                                        (has_source servers names i.source _ (literal (codes "source") refl)
                                                            (has_if (is_some i.source) _ _ _ (literal (codes "sql") refl) tt
                                                            (has_coord i.until _ _ (literal (codes "until") refl) (
                                                              (literal (codes "up") refl),
                                                              (
                                                                tt,
                                                                (
                                                                  (literal (codes "uuid") refl),
                                                                  (
                                                                    (utf8_uuid i.settings.uuid),
                                                                    (
                                                                      (literal (codes "version") refl),
                                                                      (
                                                                        (utf8_version i.settings.version),
                                                                        tt,
                                                                      ),
                                                                    ),
                                                                  ),
                                                                ),
                                                              ),
                                                            )))),
                                                      ),
                                                    ),
                                                  ),
                                                )),
                                              ),
                                            ),
                                          ),
                                        ),
                                      ),
                                    ),
                                  ),
                                ))),
                          ),
                        ),
                      ),
                    ))),
              ),
            ),
          ),
        ),
      ),
    )))

has_aliases : (xs : List Alias) → All (λ a. IsUtf8 a.cluster) xs → All (λ a. IsUtf8 a.alias) xs → MembersHaveUtf8 (aliases_data xs)
has_aliases [] clusters aliases = tt
has_aliases (x ∷ xs) clusters aliases =
    (All-first (λ a. IsUtf8 a.cluster) x xs clusters, (All-first (λ a. IsUtf8 a.alias) x xs aliases, has_aliases xs (All-rest (λ a. IsUtf8 a.cluster) x xs clusters) (All-rest (λ a. IsUtf8 a.alias) x xs aliases)))

has_blocks : (xs : List Block) → All (λ b. IsUtf8 b.cluster) xs → MembersHaveUtf8 (blocks_data xs)
has_blocks [] clusters = tt
has_blocks (x ∷ xs) clusters = (All-first (λ b. IsUtf8 b.cluster) x xs clusters, (tt, has_blocks xs (All-rest (λ b. IsUtf8 b.cluster) x xs clusters)))

has_hook : (h : Hook) → IsUtf8 h.text → HasUtf8 (hook_data h)
has_hook h text = (text, (tt, tt))

has_hooks : (hs : List Hook) → All (λ h. IsUtf8 h.text) hs → HasUtf8 (list_data hook_data hs)
has_hooks hs texts = has_items hook_data (λ h. IsUtf8 h.text) hs has_hook texts

has_dump : (w : World) (s : Scenario) (now : ℕ) → HasTexts w s → HasUtf8 (dump_data w s now)
unfolding dump_data
has_dump w s now is =
    let servers = (opening_of w).servers in
    let told : All IsTold servers = λ k d below. record { name = is.names k d below; cluster = is.labels k d below; dc = is.centres k d below } in (
      literal (codes "aliases") refl,
      (
        has_aliases s.aliases is.clusters is.aliases,
        (
          literal (codes "block") refl,
          (
            tt,
            (
              literal (codes "blocks") refl,
              (
                has_blocks s.blocks is.blocked,
                (
                  literal (codes "filters") refl,
                  (
                    (literal (codes "intermediate") refl, (has_texts s.filters.intermediate.texts is.intermediate, (literal (codes "master") refl, (has_texts s.filters.master.texts is.master, tt)))),
                    (
                      literal (codes "gtid") refl,
                      (
                        tt,
                        (
                          literal (codes "hooks") refl,
                          (
                            (
                              literal (codes "post_failover") refl,
                              (
                                has_hooks s.hooks.post_failover is.post_failover,
                                (
                                  literal (codes "post_unsuccessful") refl,
                                  (has_hooks s.hooks.post_unsuccessful is.post_unsuccessful, (literal (codes "pre_failover") refl, (has_hooks s.hooks.pre_failover is.pre_failover, tt))),
                                ),
                              ),
                            ),
                            (
                              literal (codes "nodes") refl,
                              (
                                tt,
                                (
                                  literal (codes "now") refl,
                                  (
                                    tt,
                                    (
                                      literal (codes "pseudo") refl,
                                      (
                                        tt,
                                        (
                                          literal (codes "servers") refl,
                                          (
                                            has_items (server_data servers) IsTold servers (has_server servers is.names) told,
                                            (
                                              literal (codes "turns") refl,
                                              (
                                                tt,
                                                (literal (codes "version") refl, (tt, tt)),
                                              ),
                                            ),
                                          ),
                                        ),
                                      ),
                                    ),
                                  ),
                                ),
                              ),
                            ),
                          ),
                        ),
                      ),
                    ),
                  ),
                ),
              ),
            ),
          ),
        ),
      ),
    )

pub dump_utf8 : (w : World) (s : Scenario) (now : ℕ) → HasTexts w s → is_utf8 (dump_text w s now) ≡ true
unfolding dump_text
dump_utf8 w s now is = is_utf8-from_IsUtf8 _ (IsUtf8-append (compact_text (dump_data w s now)) (codes "\n") (utf8_value (dump_data w s now) (has_dump w s now is)) (literal (codes "\n") refl))
