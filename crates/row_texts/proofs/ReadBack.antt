-- What reads as a row has the value that is written for it, or an older one of it.
use Rattle.std.proofs.Common.{◌≡◌, ◌≢◌, ℕ, ◌<◌, ◌^◌, inl, inr, arith, Bool, true, false, List, [], ◌∷◌, ◌++◌, length, Option, Some, None, Result, Ok, refl, sym, ap, ◌∙◌, subst}
use Rattle.std.specs.Prelude.{◌&&◌, ⊤, IfSome, codes, nat_eq, nat_le, if◌then◌else◌}
use Rattle.row_texts.proofs.Prelude.{CanBeKept, Coord, Data, Ending, HasText, HostPort, Instance, Interval, IoState, IsSet, IsValueOf, Items, Moment}
use Rattle.row_texts.proofs.Prelude.{Outcome, RecoveryRow, Row, RowFault, ServerNo, Source, SourceState, SourceWord, Table, active_at, are_known}
use Rattle.row_texts.proofs.Prelude.{as_array, as_bool, as_str, block_at, boolean, bytes_eq, candidate_at, coord_data, coord_form, downtime_at}
use Rattle.row_texts.proofs.Prelude.{empty_form, end_at, ending_name, ending_of, ending_servers, eqb-false, eqb-true, field_at, first_block}
use Rattle.row_texts.proofs.Prelude.{get_item, instance_at, io_states, io_text, is_end, key_id, key_name, key_of, key_text, key_word}
use Rattle.row_texts.proofs.Prelude.{kind_text, kinds, leb-true, maybe_data, member, moment_data, moment_form, name_form, name_text, no_members}
use Rattle.row_texts.proofs.Prelude.{object, or_else, or_null, outcome_form, outcome_text, printed as set_text, read_row, recovery_at, row_at}
use Rattle.row_texts.proofs.Prelude.{row_data, row_in, rule_text, rules, same_text, second_block, server_of, set_form, shape_of}
use Rattle.row_texts.proofs.Prelude.{small_form, source_at, source_name, source_servers, source_text, source_word, source_words, state_of, string}
use Rattle.row_texts.proofs.Prelude.{switch_at, table_of, tail_at, value_of, version_of, whole, whole_form, word_form, wrapped}
use Rattle.row_texts.specs.Tables.{first_tail, is_version, second_tail}
use Rattle.row_texts.proofs.Prelude.Names.{printed}
use Rattle.row_texts.proofs.Prelude.ending
use Rattle.row_texts.proofs.Prelude.fault
use Rattle.row_texts.proofs.Prelude.outcome
use Rattle.row_texts.proofs.Prelude.row
use Rattle.row_texts.proofs.Prelude.source as named
use Rattle.row_texts.proofs.Prelude.sourceword as source
use Rattle.row_texts.proofs.Prelude.state
use Rattle.row_texts.proofs.Prelude.table
use Rattle.row_texts.proofs.Back.{Begins, bool_back, both, bound, cell, cond_back, empty_back, field_fact, join, list_back, moment_back, no_cell, null_back, null_fact, ok_back, or_back, shape_back, small_back, str_back, then_back, whole_back}
use Rattle.row_texts.proofs.Ids.{id_back, id_small}
use Rattle.row_texts.proofs.Sets.{set_from_is}
use Rattle.row_texts.proofs.WordsBack.{OnlyText, coord_back, coord_fact, name_back, name_form_back, outcome_ends, outcome_fact, outcome_form_back, server_back, server_known, server_small, set_back, set_fact, word_back}
use Rattle.kept_rows.specs.OrchBase.Gives.{◌>>=◌}

-- what is known of a row that was read of a list of fields
record IsRead (t : Table) (v : ℕ) (names : List HostPort) (key : List ℕ) (list : Data) (r : Row) : Type 0 where
  value : IsValueOf names r (wrapped v list)
  of_table : table_of r ≡ t
  at_key : key_text names (key_of r) ≡ key
  kept : CanBeKept names r

-- ---- keys and servers

abbrev nobody : HostPort
nobody = record { host = []; port = 0 }

named_key : (names : List HostPort) (key : List ℕ) (name : HostPort) (server : ServerNo) → key_name key ≡ Ok name → server_of names name ≡ Ok server → name_text names server ≡ key
named_key names key name server is at = ap printed (server_back names name server nobody at) ∙ sym (name_back key name (or_back _ _ name is))

word_key : (word key : List ℕ) (x : ⊤) → key_word word key ≡ Ok x → word ≡ key
word_key word key x is = sym (same_text key word (sym (cond_back (bytes_eq key word) tt x (or_back _ _ x is)).0))

one_known : (names : List HostPort) (name : HostPort) (server : ServerNo) → server_of names name ≡ Ok server → are_known (length names) (server.0 ∷ []) ≡ true
one_known names name server is = rw (server_known names name server is) refl

-- ---- ways out of a step

ending_back : (names : List HostPort) (how : Outcome) (e : Ending) → ending_of names how ≡ Ok e → (how ≡ ending_name names e) × (are_known (length names) (ending_servers e) ≡ true)
ending_back names outcome.Unended e is = let k : ending.Unended ≡ e = ok_back _ _ is in (ap (λ (x : Ending). ending_name names x) k, subst (λ (x : Ending). are_known (length names) (ending_servers x) ≡ true) k refl)
ending_back names outcome.Interrupted e is = let k : ending.Interrupted ≡ e = ok_back _ _ is in (ap (λ (x : Ending). ending_name names x) k, subst (λ (x : Ending). are_known (length names) (ending_servers x) ≡ true) k refl)
ending_back names (outcome.Failed c) e is = let k : ending.Failed c ≡ e = ok_back _ _ is in (ap (λ (x : Ending). ending_name names x) k, subst (λ (x : Ending). are_known (length names) (ending_servers x) ≡ true) k refl)
ending_back names (outcome.Promoted n) e is =
    let s = bound (server_of names n) _ e is in
    let k : ending.Promoted s.0 ≡ e = ok_back _ _ s.2 in (
      ap (λ (x : HostPort). outcome.Promoted x) (sym (server_back names n s.0 nobody s.1)) ∙ ap (λ (x : Ending). ending_name names x) k,
      subst (λ (x : Ending). are_known (length names) (ending_servers x) ≡ true) k (one_known names n s.0 s.1),
    )

-- its end is one that recoveries have
ending_fact : (names : List HostPort) (how : Outcome) (e : Ending) → ending_of names how ≡ Ok e → outcome_ends how ≡ true → is_end e ≡ true
ending_fact names outcome.Unended e is ends = let k : ending.Unended ≡ e = ok_back _ _ is in subst (λ (x : Ending). is_end x ≡ true) k refl
ending_fact names outcome.Interrupted e is ends = let k : ending.Interrupted ≡ e = ok_back _ _ is in subst (λ (x : Ending). is_end x ≡ true) k refl
ending_fact names (outcome.Failed c) e is ends = let k : ending.Failed c ≡ e = ok_back _ _ is in subst (λ (x : Ending). is_end x ≡ true) k ends
ending_fact names (outcome.Promoted n) e is ends =
    let s = bound (server_of names n) _ e is in
    let k : ending.Promoted s.0 ≡ e = ok_back _ _ s.2 in
    subst (λ (x : Ending). is_end x ≡ true) k refl

-- the word and the text of a source by its name
abbrev word_by : Source → SourceWord
word_by named.Without = source.Without
word_by (named.Attached n) = source.Attached
word_by (named.Detached n) = source.Detached

abbrev text_by : Source → List ℕ
text_by named.Without = []
text_by (named.Attached n) = printed n
text_by (named.Detached n) = printed n

record IsState (names : List HostPort) (from : Source) (s : SourceState) : Type 0 where
  word : word_by from ≡ source_word s
  text : text_by from ≡ source_name names s
  known : are_known (length names) (source_servers s) ≡ true

state_back : (names : List HostPort) (from : Source) (s : SourceState) → state_of names from ≡ Ok s → IsState names from s
state_back names named.Without s is = subst (IsState names named.Without) (ok_back state.Without s is) (record { word = refl; text = refl; known = refl })
state_back names (named.Attached n) s is =
    let b = bound (server_of names n) _ s is in
    subst (IsState names (named.Attached n)) (ok_back (state.Attached b.0) s b.2)
    (record { word = refl; text = ap printed (sym (server_back names n b.0 nobody b.1)); known = one_known names n b.0 b.1 })
state_back names (named.Detached n) s is =
    let b = bound (server_of names n) _ s is in
    subst (IsState names (named.Detached n)) (ok_back (state.Detached b.0) s b.2)
    (record { word = refl; text = ap printed (sym (server_back names n b.0 nobody b.1)); known = one_known names n b.0 b.1 })

record IsSource (word : SourceWord) (n : ℕ) (ds : Items) (from : Source) : Type 0 where
  same : word ≡ word_by from
  text : get_item n ds ≡ Some (string (text_by from))

source_back : (word : SourceWord) (n : ℕ) (list : Data) (ds : Items) (from : Source) → as_array list ≡ Some ds → source_at word n list ≡ Ok from → IsSource word n ds from
unfolding source_at
source_back source.Without n list ds from is e =
    let b = bound (field_at empty_form n list) _ from e in
    subst (IsSource source.Without n ds) (ok_back named.Without from b.2) (record { same = refl; text = cell empty_form (λ x. string []) empty_back n list ds b.0 is b.1 })
source_back source.Attached n list ds from is e =
    let b = bound (field_at name_form n list) _ from e in
    subst (IsSource source.Attached n ds) (ok_back (named.Attached b.0) from b.2) (record { same = refl; text = cell name_form (λ x. string (printed x)) name_form_back n list ds b.0 is b.1 })
source_back source.Detached n list ds from is e =
    let b = bound (field_at name_form n list) _ from e in
    subst (IsSource source.Detached n ds) (ok_back (named.Detached b.0) from b.2) (record { same = refl; text = cell name_form (λ x. string (printed x)) name_form_back n list ds b.0 is b.1 })

-- ---- versions

second : (v : ℕ) → nat_eq v 1 ≡ false → (nat_le 1 v && nat_le v 2) ≡ true → v ≡ 2
second v one is_v =
    let p = both (nat_le 1 v) (nat_le v 2) is_v in
    let other : v ≢ 1 = eqb-false v 1 one in
    omega (arith, leb-true 1 v p.0, leb-true v 2 p.1, other)

-- ---- instances

abbrev front : List HostPort → Instance → List Data
front names i =
    whole i.read ∷ moment_data i.moment ∷ boolean i.valid ∷ maybe_data coord_data i.seen.own_end ∷ string (source_text (source_word i.seen.source)) ∷ string (source_name names i.seen.source)
    ∷ coord_data i.seen.exec ∷ coord_data i.seen.read ∷ boolean i.seen.auto ∷ string (io_text i.seen.io) ∷ boolean i.seen.sql ∷ boolean i.seen.read_only ∷ string (set_text i.seen.set) ∷ []

by_tail : (names : List HostPort) (i : Instance) (v : ℕ) (list : Data) (ds : Items) (two : Bool) → as_array list ≡ Some ds → nat_eq v 1 ≡ two → (nat_le 1 v && nat_le v 2) ≡ true
    → (if two then first_tail list else second_tail list) ≡ Ok (i.seen.first, i.seen.purged) → Begins 0 (front names i) ds → IsValueOf names (row.Instance i) (wrapped v list)
unfolding first_tail second_tail
by_tail names i v list ds true is one is_v told cells =
    let s = bound (end_at 13 list) _ _ told in
    let tail : (1, []) ≡ (i.seen.first, i.seen.purged) = ok_back _ _ s.2 in
    let all = list_back list ds (front names i) is (join 0 (front names i) [] ds cells (no_cell 13 list ds s.0 is s.1)) in
    inr (sym (ap (λ (t : ℕ × List Interval). t.0) tail), sym (ap (λ (t : ℕ × List Interval). t.1) tail), ap (λ (n : ℕ). wrapped n list) (eqb-true v 1 one) ∙ ap (wrapped 1) all)
by_tail names i v list ds false is one is_v told cells =
    let s0 = bound (field_at small_form 13 list) _ _ told in
    let s1 = bound (field_at set_form 14 list) _ _ s0.2 in
    let s2 = bound (end_at 15 list) _ _ s1.2 in
    let tail : (s0.0, s1.0) ≡ (i.seen.first, i.seen.purged) = ok_back _ _ s2.2 in
    let c13 = cell small_form whole (λ d n e. (small_back d n e).0) 13 list ds s0.0 is s0.1 ∙ ap (λ (t : ℕ × List Interval). Some (whole t.0)) tail in
    let c14 = cell set_form (λ x. string (set_text x)) set_back 14 list ds s1.0 is s1.1 ∙ ap (λ (t : ℕ × List Interval). Some (string (set_text t.1))) tail in
    let all = list_back list ds (front names i ++ (whole i.seen.first ∷ string (set_text i.seen.purged) ∷ [])) is (join 0 (front names i) (whole i.seen.first ∷ string (set_text i.seen.purged) ∷ []) ds cells (c13, (c14, no_cell 15 list ds s2.0 is s2.1))) in
    inl (ap (λ (n : ℕ). wrapped n list) (second v one is_v) ∙ ap (wrapped 2) all)

tail_fact : (list : Data) (t : ℕ × List Interval) (two : Bool) → (if two then first_tail list else second_tail list) ≡ Ok t → (t.0 < 2 ^ 32) × IsSet t.1
unfolding first_tail second_tail
tail_fact list t true told =
    let s = bound (end_at 13 list) _ _ told in
    let small : 1 < 2 ^ 32 = omega arith in
    subst (λ (t : ℕ × List Interval). (t.0 < 2 ^ 32) × IsSet t.1) (ok_back (1, []) t s.2) (small, set_from_is [] refl)
tail_fact list t false told =
    let s0 = bound (field_at small_form 13 list) _ _ told in
    let s1 = bound (field_at set_form 14 list) _ _ s0.2 in
    let s2 = bound (end_at 15 list) _ _ s1.2 in
    subst (λ (t : ℕ × List Interval). (t.0 < 2 ^ 32) × IsSet t.1) (ok_back (s0.0, s1.0) t s2.2)
    (field_fact small_form (λ n. n < 2 ^ 32) (λ d n e. (small_back d n e).1) 13 list s0.0 s0.1, field_fact set_form IsSet set_fact 14 list s1.0 s1.1)

-- an instance whose fields have these values
whole_back_of : OnlyText → (v : ℕ) (names : List HostPort) (key : List ℕ) (list : Data) (ds : Items) (r : Row) (number : ℕ) (moment : Moment) (valid : Bool) (own_end : Option Coord) (from : Source) (exec : Coord)
    (read : Coord) (auto : Bool) (io : IoState) (sql read_only : Bool) (set : List Interval) (tail : ℕ × List Interval) (name : HostPort) (server : ServerNo) (source : SourceState)
    → (nat_le 1 v && nat_le v 2) ≡ true → as_array list ≡ Some ds → IfSome own_end HasText → HasText exec
    → get_item 0 ds ≡ Some (whole number) → get_item 1 ds ≡ Some (moment_data moment) → get_item 2 ds ≡ Some (boolean valid) → get_item 3 ds ≡ Some (maybe_data coord_data own_end)
    → get_item 4 ds ≡ Some (string (source_text (word_by from))) → get_item 5 ds ≡ Some (string (text_by from)) → get_item 6 ds ≡ Some (coord_data exec)
    → field_at coord_form 7 list ≡ Ok read → field_at as_bool 8 list ≡ Ok auto → field_at (word_form io_text io_states) 9 list ≡ Ok io → field_at as_bool 10 list ≡ Ok sql
    → field_at as_bool 11 list ≡ Ok read_only → field_at set_form 12 list ≡ Ok set → tail_at v list ≡ Ok tail → key_name key ≡ Ok name → server_of names name ≡ Ok server
    → state_of names from ≡ Ok source
    → ◌≡◌ {A = Result Row RowFault} (Ok (row.Instance (record {
      no = server;
      read = number;
      moment = moment;
      valid = valid;
      seen = record { own_end = own_end; source = source; exec = exec; read = read; auto = auto; io = io; sql = sql; read_only = read_only; set = set; first = tail.0; purged = tail.1 };
    }))) (Ok r)
    → IsRead table.Instance v names key list r
whole_back_of only v names key list ds r number moment valid own_end from exec read auto io sql read_only set tail name server source is_v is own_text exec_text c0 c1 c2 c3 c4 c5 c6
    e7 e8 e9 e10 e11 e12 e13 e14 e15 e16 made =
    let i : Instance = record {
      no = server;
      read = number;
      moment = moment;
      valid = valid;
      seen = record { own_end = own_end; source = source; exec = exec; read = read; auto = auto; io = io; sql = sql; read_only = read_only; set = set; first = tail.0; purged = tail.1 };
    } in
    let by = state_back names from source e16 in
    let d4 : get_item 4 ds ≡ Some (string (source_text (source_word source))) = c4 ∙ ap (λ (w : SourceWord). Some (string (source_text w))) by.word in
    let d5 : get_item 5 ds ≡ Some (string (source_name names source)) = c5 ∙ ap (λ (t : List ℕ). Some (string t)) by.text in
    let c7 = cell coord_form coord_data (coord_back only) 7 list ds read is e7 in
    let c8 = cell as_bool boolean bool_back 8 list ds auto is e8 in
    let c9 = cell (word_form io_text io_states) (λ w. string (io_text w)) (word_back io_text io_states) 9 list ds io is e9 in
    let c10 = cell as_bool boolean bool_back 10 list ds sql is e10 in
    let c11 = cell as_bool boolean bool_back 11 list ds read_only is e11 in
    let c12 = cell set_form (λ x. string (set_text x)) set_back 12 list ds set is e12 in
    let cells : Begins 0 (front names i) ds = (c0, (c1, (c2, (c3, (d4, (d5, (c6, (c7, (c8, (c9, (c10, (c11, (c12, tt))))))))))))) in
    subst (IsRead table.Instance v names key list) (ok_back (row.Instance i) r made) (record {
      value = by_tail names i v list ds (nat_eq v 1) is refl is_v e13 cells;
      of_table = refl;
      at_key = named_key names key name server e14 e15;
      kept = record {
        known = rw (server_known names name server e15) by.known;
        key = server_small names name server e15;
        form = record {
          own_end = own_text;
          exec = exec_text;
          read = field_fact coord_form HasText (coord_fact only) 7 list read e7;
          set = field_fact set_form IsSet set_fact 12 list set e12;
          first = (tail_fact list tail (nat_eq v 1) e13).0;
          purged = (tail_fact list tail (nat_eq v 1) e13).1;
        };
      };
    })

-- what is read of an instance from its read coordinate on
abbrev behind_at : ℕ → List HostPort → List ℕ → Data → ℕ → Moment → Bool → Option Coord → Source → Coord → Result Row RowFault
behind_at v names key list number moment valid own_end from exec = do
  read ← field_at coord_form 7 list
  auto ← field_at as_bool 8 list
  io ← field_at (word_form io_text io_states) 9 list
  sql ← field_at as_bool 10 list
  read_only ← field_at as_bool 11 list
  set ← field_at set_form 12 list
  tail ← tail_at v list
  name ← key_name key
  server ← server_of names name
  source ← state_of names from
  Ok (row.Instance (record {
    no = server;
    read = number;
    moment = moment;
    valid = valid;
    seen = record { own_end = own_end; source = source; exec = exec; read = read; auto = auto; io = io; sql = sql; read_only = read_only; set = set; first = tail.0; purged = tail.1 };
  }))

behind_back : OnlyText → (v : ℕ) (names : List HostPort) (key : List ℕ) (list : Data) (ds : Items) (r : Row) (number : ℕ) (moment : Moment) (valid : Bool) (own_end : Option Coord) (from : Source) (exec : Coord)
    → (nat_le 1 v && nat_le v 2) ≡ true → as_array list ≡ Some ds → IfSome own_end HasText → HasText exec
    → get_item 0 ds ≡ Some (whole number) → get_item 1 ds ≡ Some (moment_data moment) → get_item 2 ds ≡ Some (boolean valid) → get_item 3 ds ≡ Some (maybe_data coord_data own_end)
    → get_item 4 ds ≡ Some (string (source_text (word_by from))) → get_item 5 ds ≡ Some (string (text_by from)) → get_item 6 ds ≡ Some (coord_data exec)
    → behind_at v names key list number moment valid own_end from exec ≡ Ok r → IsRead table.Instance v names key list r
behind_back only v names key list ds r number moment valid own_end from exec is_v is own_text exec_text c0 c1 c2 c3 c4 c5 c6 e =
    let s7 = bound (field_at coord_form 7 list) _ r e in
    let s8 = bound (field_at as_bool 8 list) _ r s7.2 in
    let s9 = bound (field_at (word_form io_text io_states) 9 list) _ r s8.2 in
    let s10 = bound (field_at as_bool 10 list) _ r s9.2 in
    let s11 = bound (field_at as_bool 11 list) _ r s10.2 in
    let s12 = bound (field_at set_form 12 list) _ r s11.2 in
    let s13 = bound (tail_at v list) _ r s12.2 in
    let s14 = bound (key_name key) _ r s13.2 in
    let s15 = bound (server_of names s14.0) _ r s14.2 in
    let s16 = bound (state_of names from) _ r s15.2 in
    whole_back_of only v names key list ds r number moment valid own_end from exec s7.0 s8.0 s9.0 s10.0 s11.0 s12.0 s13.0 s14.0 s15.0 s16.0 is_v is own_text exec_text c0 c1 c2 c3 c4 c5 c6
    s7.1 s8.1 s9.1 s10.1 s11.1 s12.1 s13.1 s14.1 s15.1 s16.1 s16.2

instance_back : OnlyText → (v : ℕ) (names : List HostPort) (key : List ℕ) (list : Data) (ds : Items) (r : Row) → (nat_le 1 v && nat_le v 2) ≡ true → as_array list ≡ Some ds
    → instance_at v names key list ≡ Ok r → IsRead table.Instance v names key list r
unfolding instance_at
instance_back only v names key list ds r is_v is e =
    let s0 = bound (field_at whole_form 0 list) _ r e in
    let s1 = bound (field_at moment_form 1 list) _ r s0.2 in
    let s2 = bound (field_at as_bool 2 list) _ r s1.2 in
    let s3 = bound (field_at (or_null coord_form) 3 list) _ r s2.2 in
    let s4 = bound (field_at (word_form source_text source_words) 4 list) _ r s3.2 in
    let s5 = bound (source_at s4.0 5 list) _ r s4.2 in
    let s6 = bound (field_at coord_form 6 list) _ r s5.2 in
    let from = source_back s4.0 5 list ds s5.0 is s5.1 in
    let c0 = cell whole_form whole whole_back 0 list ds s0.0 is s0.1 in
    let c1 = cell moment_form moment_data moment_back 1 list ds s1.0 is s1.1 in
    let c2 = cell as_bool boolean bool_back 2 list ds s2.0 is s2.1 in
    let c3 = cell (or_null coord_form) (maybe_data coord_data) (null_back coord_form coord_data (coord_back only)) 3 list ds s3.0 is s3.1 in
    let c4 = cell (word_form source_text source_words) (λ w. string (source_text w)) (word_back source_text source_words) 4 list ds s4.0 is s4.1 ∙ ap (λ (w : SourceWord). Some (string (source_text w))) from.same in
    let c6 = cell coord_form coord_data (coord_back only) 6 list ds s6.0 is s6.1 in
    let own_text = field_fact (or_null coord_form) (λ o. IfSome o HasText) (null_fact coord_form HasText (coord_fact only)) 3 list s3.0 s3.1 in
    let exec_text = field_fact coord_form HasText (coord_fact only) 6 list s6.0 s6.1 in
    behind_back only v names key list ds r s0.0 s1.0 s2.0 s3.0 s5.0 s6.0 is_v is own_text exec_text c0 c1 c2 c3 c4 from.text c6 s6.2

-- ---- downtimes, candidates, the switch and the claim

first_version : (v : ℕ) (list : Data) (d : Data) → nat_eq v 1 ≡ true → list ≡ d → wrapped v list ≡ wrapped 1 d
first_version v list d one e = ap (λ (n : ℕ). wrapped n list) (eqb-true v 1 one) ∙ ap (wrapped 1) e

downtime_back : (v : ℕ) (names : List HostPort) (key : List ℕ) (list : Data) (ds : Items) (r : Row) → nat_eq v 1 ≡ true → as_array list ≡ Some ds
    → downtime_at names key list ≡ Ok r → IsRead table.Downtime v names key list r
unfolding downtime_at
downtime_back v names key list ds r one is e =
    let s0 = bound (field_at moment_form 0 list) _ r e in
    let s1 = bound (field_at moment_form 1 list) _ r s0.2 in
    let s2 = bound (field_at as_str 2 list) _ r s1.2 in
    let s3 = bound (field_at as_str 3 list) _ r s2.2 in
    let s4 = bound (end_at 4 list) _ r s3.2 in
    let s5 = bound (key_name key) _ r s4.2 in
    let s6 = bound (server_of names s5.0) _ r s5.2 in
    let c0 = cell moment_form moment_data moment_back 0 list ds s0.0 is s0.1 in
    let c1 = cell moment_form moment_data moment_back 1 list ds s1.0 is s1.1 in
    let c2 = cell as_str string str_back 2 list ds s2.0 is s2.1 in
    let c3 = cell as_str string str_back 3 list ds s3.0 is s3.1 in
    let all = list_back list ds (moment_data s0.0 ∷ moment_data s1.0 ∷ string s2.0 ∷ string s3.0 ∷ []) is (c0, (c1, (c2, (c3, no_cell 4 list ds s4.0 is s4.1)))) in
    subst (IsRead table.Downtime v names key list) (ok_back (row.Downtime (record { no = s6.0; begun = s0.0; until = s1.0; owner = s2.0; reason = s3.0 })) r s6.2) (record {
      value = inl (first_version v list _ one all);
      of_table = refl;
      at_key = named_key names key s5.0 s6.0 s5.1 s6.1;
      kept = record { known = one_known names s5.0 s6.0 s6.1; key = server_small names s5.0 s6.0 s6.1; form = tt };
    })

candidate_back : (v : ℕ) (names : List HostPort) (key : List ℕ) (list : Data) (ds : Items) (r : Row) → nat_eq v 1 ≡ true → as_array list ≡ Some ds
    → candidate_at names key list ≡ Ok r → IsRead table.Candidate v names key list r
unfolding candidate_at
candidate_back v names key list ds r one is e =
    let s0 = bound (field_at (word_form rule_text rules) 0 list) _ r e in
    let s1 = bound (field_at moment_form 1 list) _ r s0.2 in
    let s2 = bound (end_at 2 list) _ r s1.2 in
    let s3 = bound (key_name key) _ r s2.2 in
    let s4 = bound (server_of names s3.0) _ r s3.2 in
    let c0 = cell (word_form rule_text rules) (λ w. string (rule_text w)) (word_back rule_text rules) 0 list ds s0.0 is s0.1 in
    let c1 = cell moment_form moment_data moment_back 1 list ds s1.0 is s1.1 in
    let all = list_back list ds (string (rule_text s0.0) ∷ moment_data s1.0 ∷ []) is (c0, (c1, no_cell 2 list ds s2.0 is s2.1)) in
    subst (IsRead table.Candidate v names key list) (ok_back (row.Candidate (record { no = s4.0; rule = s0.0; until = s1.0 })) r s4.2) (record {
      value = inl (first_version v list _ one all);
      of_table = refl;
      at_key = named_key names key s3.0 s4.0 s3.1 s4.1;
      kept = record { known = one_known names s3.0 s4.0 s4.1; key = server_small names s3.0 s4.0 s4.1; form = tt };
    })

switch_back : (v : ℕ) (names : List HostPort) (key : List ℕ) (list : Data) (ds : Items) (r : Row) → nat_eq v 1 ≡ true → as_array list ≡ Some ds
    → switch_at key list ≡ Ok r → IsRead table.Switch v names key list r
unfolding switch_at
switch_back v names key list ds r one is e =
    let s0 = bound (field_at as_bool 0 list) _ r e in
    let s1 = bound (end_at 1 list) _ r s0.2 in
    let s2 = bound (key_word (codes "global") key) _ r s1.2 in
    let c0 = cell as_bool boolean bool_back 0 list ds s0.0 is s0.1 in
    let all = list_back list ds (boolean s0.0 ∷ []) is (c0, no_cell 1 list ds s1.0 is s1.1) in
    subst (IsRead table.Switch v names key list) (ok_back (row.Switch s0.0) r s2.2)
    (record { value = inl (first_version v list _ one all); of_table = refl; at_key = word_key (codes "global") key s2.0 s2.1; kept = record { known = refl; key = tt; form = tt } })

active_back : (v : ℕ) (names : List HostPort) (key : List ℕ) (list : Data) (ds : Items) (r : Row) → nat_eq v 1 ≡ true → as_array list ≡ Some ds
    → active_at key list ≡ Ok r → IsRead table.Active v names key list r
unfolding active_at
active_back v names key list ds r one is e =
    let s0 = bound (field_at small_form 0 list) _ r e in
    let s1 = bound (field_at moment_form 1 list) _ r s0.2 in
    let s2 = bound (end_at 2 list) _ r s1.2 in
    let s3 = bound (key_word (codes "active") key) _ r s2.2 in
    let c0 = cell small_form whole (λ d n e. (small_back d n e).0) 0 list ds s0.0 is s0.1 in
    let c1 = cell moment_form moment_data moment_back 1 list ds s1.0 is s1.1 in
    let all = list_back list ds (whole s0.0 ∷ moment_data s1.0 ∷ []) is (c0, (c1, no_cell 2 list ds s2.0 is s2.1)) in
    subst (IsRead table.Active v names key list) (ok_back (row.Active s0.0 s1.0) r s3.2)
    (record { value = inl (first_version v list _ one all); of_table = refl; at_key = word_key (codes "active") key s3.0 s3.1; kept = record { known = refl; key = tt; form = field_fact small_form (λ n. n < 2 ^ 32) (λ d n e. (small_back d n e).1) 0 list s0.0 s0.1 } })

-- ---- recoveries

abbrev recovery_front : List HostPort → RecoveryRow → List Data
recovery_front names r =
    string r.cluster ∷ string (kind_text r.kind) ∷ string (name_text names r.failed) ∷ moment_data r.begun ∷ maybe_data moment_data r.ended
    ∷ string (outcome_text (ending_name names r.outcome)) ∷ boolean r.acked ∷ []

by_block : (names : List HostPort) (r : RecoveryRow) (v : ℕ) (list : Data) (ds : Items) (two : Bool) → as_array list ≡ Some ds → nat_eq v 1 ≡ two → (nat_le 1 v && nat_le v 2) ≡ true
    → (if two then first_block list else second_block list) ≡ Ok r.block → Begins 0 (recovery_front names r) ds → wrapped v list ≡ row_data names (row.Recovery r)
unfolding first_block second_block
by_block names r v list ds true is one is_v told cells =
    let s = bound (end_at 7 list) _ _ told in
    let block : None ≡ r.block = ok_back _ _ s.2 in
    let all = list_back list ds (recovery_front names r) is (join 0 (recovery_front names r) [] ds cells (no_cell 7 list ds s.0 is s.1)) in
    ap (λ (n : ℕ). wrapped n list) (eqb-true v 1 one) ∙ (ap (wrapped 1) all ∙ ap (λ (b : Option ℕ). row_data names (row.Recovery (record r { block = b }))) block)
by_block names r v list ds false is one is_v told cells =
    let s0 = bound (field_at whole_form 7 list) _ _ told in
    let s1 = bound (end_at 8 list) _ _ s0.2 in
    let block : Some s0.0 ≡ r.block = ok_back _ _ s1.2 in
    let c7 = cell whole_form whole whole_back 7 list ds s0.0 is s0.1 in
    let all = list_back list ds (recovery_front names r ++ (whole s0.0 ∷ [])) is (join 0 (recovery_front names r) (whole s0.0 ∷ []) ds cells (c7, no_cell 8 list ds s1.0 is s1.1)) in
    ap (λ (n : ℕ). wrapped n list) (second v one is_v) ∙ (ap (wrapped 2) all ∙ ap (λ (b : Option ℕ). row_data names (row.Recovery (record r { block = b }))) block)

recovery_back : (v : ℕ) (names : List HostPort) (key : List ℕ) (list : Data) (ds : Items) (r : Row) → (nat_le 1 v && nat_le v 2) ≡ true → as_array list ≡ Some ds
    → recovery_at v names key list ≡ Ok r → IsRead table.Recovery v names key list r
unfolding recovery_at
recovery_back v names key list ds r is_v is e =
    let s0 = bound (field_at as_str 0 list) _ r e in
    let s1 = bound (field_at (word_form kind_text kinds) 1 list) _ r s0.2 in
    let s2 = bound (field_at name_form 2 list) _ r s1.2 in
    let s3 = bound (field_at moment_form 3 list) _ r s2.2 in
    let s4 = bound (field_at (or_null moment_form) 4 list) _ r s3.2 in
    let s5 = bound (field_at outcome_form 5 list) _ r s4.2 in
    let s6 = bound (field_at as_bool 6 list) _ r s5.2 in
    let s7 = bound (block_at v list) _ r s6.2 in
    let s8 = bound (key_id key) _ r s7.2 in
    let s9 = bound (server_of names s2.0) _ r s8.2 in
    let s10 = bound (ending_of names s5.0) _ r s9.2 in
    let k : RecoveryRow = record { id = s8.0; cluster = s0.0; kind = s1.0; failed = s9.0; begun = s3.0; ended = s4.0; outcome = s10.0; acked = s6.0; block = s7.0 } in
    let by = ending_back names s5.0 s10.0 s10.1 in
    let c0 = cell as_str string str_back 0 list ds s0.0 is s0.1 in
    let c1 = cell (word_form kind_text kinds) (λ w. string (kind_text w)) (word_back kind_text kinds) 1 list ds s1.0 is s1.1 in
    let c2 = cell name_form (λ x. string (printed x)) name_form_back 2 list ds s2.0 is s2.1 ∙ ap (λ (x : HostPort). Some (string (printed x))) (sym (server_back names s2.0 s9.0 nobody s9.1)) in
    let c3 = cell moment_form moment_data moment_back 3 list ds s3.0 is s3.1 in
    let c4 = cell (or_null moment_form) (maybe_data moment_data) (null_back moment_form moment_data moment_back) 4 list ds s4.0 is s4.1 in
    let c5 = cell outcome_form (λ x. string (outcome_text x)) outcome_form_back 5 list ds s5.0 is s5.1 ∙ ap (λ (x : Outcome). Some (string (outcome_text x))) by.0 in
    let c6 = cell as_bool boolean bool_back 6 list ds s6.0 is s6.1 in
    let cells : Begins 0 (recovery_front names k) ds = (c0, (c1, (c2, (c3, (c4, (c5, (c6, tt))))))) in
    subst (IsRead table.Recovery v names key list) (ok_back (row.Recovery k) r s10.2) (record {
      value = inl (by_block names k v list ds (nat_eq v 1) is refl is_v s7.1 cells);
      of_table = refl;
      at_key = sym (id_back key s8.0 (or_back _ _ s8.0 s8.1));
      kept = record { known = rw (server_known names s2.0 s9.0 s9.1) by.1; key = id_small key s8.0 (or_back _ _ s8.0 s8.1); form = ending_fact names s5.0 s10.0 s10.1 (field_fact outcome_form (λ (x : Outcome). outcome_ends x ≡ true) outcome_fact 5 list s5.0 s5.1) };
    })

-- ---- all tables

table_back : OnlyText → (t : Table) (v : ℕ) (names : List HostPort) (key : List ℕ) (list : Data) (ds : Items) (r : Row) → is_version t v ≡ true → as_array list ≡ Some ds
    → row_at t v names key list ≡ Ok r → IsRead t v names key list r
table_back only table.Instance v names key list ds r is_v is e = instance_back only v names key list ds r is_v is e
table_back only table.Downtime v names key list ds r is_v is e = downtime_back v names key list ds r is_v is e
table_back only table.Candidate v names key list ds r is_v is e = candidate_back v names key list ds r is_v is e
table_back only table.Recovery v names key list ds r is_v is e = recovery_back v names key list ds r is_v is e
table_back only table.Switch v names key list ds r is_v is e = switch_back v names key list ds r is_v is e
table_back only table.Active v names key list ds r is_v is e = active_back v names key list ds r is_v is e

version_back : (t : Table) (d : Data) (v : ℕ) → version_of t d ≡ Some v → (d ≡ whole v) × (is_version t v ≡ true)
unfolding version_of
version_back t d v e =
    let w = then_back (whole_form d) _ v e in
    let c = cond_back (is_version t w.0) w.0 v w.2 in
    (whole_back d w.0 w.1 ∙ ap whole c.1, subst (λ (n : ℕ). is_version t n ≡ true) c.1 c.0)

-- what is known of a row that was read of a value
pub record IsReadOf (t : Table) (names : List HostPort) (key : List ℕ) (d : Data) (r : Row) : Type 0 where
  pub value : IsValueOf names r d
  pub of_table : table_of r ≡ t
  pub at_key : key_text names (key_of r) ≡ key
  pub kept : CanBeKept names r

row_back : OnlyText → (t : Table) (names : List HostPort) (key : List ℕ) (d : Data) (r : Row) → row_in t names key d ≡ Ok r → IsReadOf t names key d r
unfolding row_in
row_back only t names key d r e =
    let p = bound (or_else fault.NotJson (shape_of d)) _ r e in
    let shape = shape_back d p.0 (or_back _ _ p.0 p.1) in
    let v = bound (or_else fault.BadVersion (version_of t p.0.1)) _ r p.2 in
    let version = version_back t p.0.1 v.0 (or_back _ _ v.0 v.1) in
    let done = table_back only t v.0 names key p.0.0 shape.1.0 r version.1 shape.1.1 v.2 in
    let same : d ≡ wrapped v.0 p.0.0 = shape.0 ∙ ap (λ (w : Data). object (member (codes "f") p.0.0 (member (codes "v") w no_members))) version.0 in
    record { value = subst (IsValueOf names r) (sym same) done.value; of_table = done.of_table; at_key = done.at_key; kept = done.kept }

pub read_back : OnlyText → (t : Table) (names : List HostPort) (key text : List ℕ) (r : Row) → read_row t names key text ≡ Ok r → (d : Data) × (value_of text ≡ Some d) × IsReadOf t names key d r
unfolding read_row
read_back only t names key text r e =
    let d = bound (or_else fault.NotJson (value_of text)) _ r e in
    (d.0, or_back _ _ d.0 d.1, row_back only t names key d.0 r d.2)
