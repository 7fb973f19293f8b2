-- What is written for a row reads as it.
use Rattle.std.proofs.Common.{◌≡◌, ℕ, ◌<◌, ◌≤◌, ◌^◌, Bool, true, inl, inr, List, [], ◌++◌, length, Option, Some, None, Ok, refl, sym, ap, ◌∙◌, arith, ◌↔◌, IfSome, codes}
use Rattle.row_texts.proofs.Prelude.{AreNames, CanBeKept, CauseName, Coord, Data, Ending, HasText, HostPort, Instance, Interval, IoState, IsName}
use Rattle.row_texts.proofs.Prelude.{IsOldValue, IsPrintable, IsSet, IsTextOf, IsValueOf, Items, Kind, Moment, RecoveryRow, Row, Rule, ServerNo}
use Rattle.row_texts.proofs.Prelude.{Source, SourceState, Table, active_at, are_known, array, at, block_at, block_items, block_version, boolean}
use Rattle.row_texts.proofs.Prelude.{candidate_at, coord_at, coord_data, coord_form, coord_printed, coord_text, downtime_at, end_at, ending_name}
use Rattle.row_texts.proofs.Prelude.{ending_of, ending_servers, ends_recoveries, field_at, first_block, instance_at, instance_items, io_states}
use Rattle.row_texts.proofs.Prelude.{io_text, is_end, item, key_of, key_text, kind_text, kinds, le-leb, lt-ltb, maybe_data, moment_data, moment_form}
use Rattle.row_texts.proofs.Prelude.{name_of, name_printed, name_text, named_among, no_items, old_instance_data, or_null, outcome_printed}
use Rattle.row_texts.proofs.Prelude.{outcome_text, position_or_len, position_or_len_is, printed as set_text, printed_reads_lem as name_printed_reads}
use Rattle.row_texts.proofs.Prelude.{read_row, recovery_at, recovery_list, row_at, row_data, row_in, rule_text, rules, same_name, same_name_tells}
use Rattle.row_texts.proofs.Prelude.{second_block, server_of, servers_of, shape_of, source_at, source_name, source_servers, source_text, source_word}
use Rattle.row_texts.proofs.Prelude.{source_words, state_of, string, switch_at, table_of, tail_at, two_of, value_of, version_of, whole, wrapped}
use Rattle.row_texts.specs.Tables.{first_tail, is_version, second_tail}
use Rattle.row_texts.proofs.Prelude.Names.{printed}
use Rattle.row_texts.proofs.Prelude.cause
use Rattle.row_texts.proofs.Prelude.ending
use Rattle.row_texts.proofs.Prelude.io
use Rattle.row_texts.proofs.Prelude.kind
use Rattle.row_texts.proofs.Prelude.outcome
use Rattle.row_texts.proofs.Prelude.row
use Rattle.row_texts.proofs.Prelude.rule
use Rattle.row_texts.proofs.Prelude.source as named
use Rattle.row_texts.proofs.Prelude.state
use Rattle.row_texts.proofs.Prelude.table
use Rattle.row_texts.proofs.Ids.{id_reads}
use Rattle.row_texts.proofs.Known.{first_known, rest_known}
use Rattle.row_texts.proofs.ReadBack.{read_back}
use Rattle.row_texts.proofs.Sets.{same_refl, set_reads}
use Rattle.row_texts.proofs.WordsBack.{OnlyText}

-- ---- names and numbers

name_reads : (n : HostPort) → IsName n → name_printed (printed n) ≡ Some n
unfolding name_printed
name_reads n h = rw (name_printed_reads n h, same_refl (printed n)) refl

abbrev nobody : HostPort
nobody = record { host = []; port = 0 }

is_name : (names : List HostPort) (n : ServerNo) → AreNames names → n.0 < length names → IsName (name_of names n)
is_name names n h known = h.each n.0 nobody known

named_reads : (names : List HostPort) (n : ServerNo) → AreNames names → n.0 < length names → name_printed (name_text names n) ≡ Some (name_of names n)
named_reads names n h known = name_reads (name_of names n) (is_name names n h known)

server_reads : (names : List HostPort) (n : ServerNo) → AreNames names → n.0 < length names → server_of names (name_of names n) ≡ Ok n
unfolding server_of
server_reads names n h known =
    let here : same_name (name_of names n) (name_of names n) ≡ true = (same_name_tells (name_of names n) (name_of names n)).1 refl in
    let place : position_or_len (λ m. same_name m (name_of names n)) names ≡ n.0 =
    position_or_len_is (λ m. same_name m (name_of names n)) names n.0 nobody (omega (arith, known)) (λ k lt. h.apart k n.0 nobody lt known) (λ l. here) in
    let small : n.0 ≤ 4294967295 = omega (arith, known, h.few) in
    rw (place, lt-ltb n.0 (length names) known, le-leb n.0 4294967295 small) refl

-- ---- fields

-- a coordinate's text reads as it
abbrev pub TextReads : Type 0
TextReads = (c : Coord) → HasText c → coord_at (coord_text c) ≡ Ok c

coord_reads : TextReads → (c : Coord) → HasText c → coord_printed (coord_text c) ≡ Some c
unfolding coord_printed
coord_reads law c h = rw (law c h) refl

own_end_reads : TextReads → (o : Option Coord) → IfSome o HasText → or_null coord_form (maybe_data coord_data o) ≡ Some o
own_end_reads law None h = refl
own_end_reads law (Some c) h = rw (coord_reads law c h) refl

ended_reads : (t : Option Moment) → or_null moment_form (maybe_data moment_data t) ≡ Some t
ended_reads None = refl
ended_reads (Some t) = refl

kind_reads : (k : Kind) → named_among kind_text kinds (kind_text k) ≡ Some k
kind_reads kind.Master = refl
kind_reads kind.Intermediate = refl
kind_reads kind.Takeover = refl

rule_reads : (r : Rule) → named_among rule_text rules (rule_text r) ≡ Some r
rule_reads rule.Prefer = refl
rule_reads _ = refl

io_reads : (s : IoState) → named_among io_text io_states (io_text s) ≡ Some s
io_reads io.Yes = refl
io_reads io.Connecting = refl
io_reads io.No = refl

word_reads : (s : SourceState) → named_among source_text source_words (source_text (source_word s)) ≡ Some (source_word s)
word_reads state.Without = refl
word_reads (state.Attached n) = refl
word_reads (state.Detached n) = refl

failed_reads : (c : CauseName) → ends_recoveries c ≡ true → outcome_printed (outcome_text (outcome.Failed c)) ≡ Some (outcome.Failed c)
unfolding outcome_printed
failed_reads cause.NoMark ends = absurd cc
failed_reads cause.Mismatch ends = absurd cc
failed_reads _ ends = refl

promoted_reads : (n : HostPort) → IsName n → outcome_printed (outcome_text (outcome.Promoted n)) ≡ Some (outcome.Promoted n)
unfolding outcome_printed
promoted_reads n h = rw (lt-ltb 8 (length (codes "promoted " ++ printed n)) (omega arith), name_reads n h) refl

unended_reads : outcome_printed (codes "unended") ≡ Some outcome.Unended
unfolding outcome_printed
unended_reads = refl

interrupted_reads : outcome_printed (codes "interrupted") ≡ Some outcome.Interrupted
unfolding outcome_printed
interrupted_reads = refl

outcome_reads : (names : List HostPort) (e : Ending) → AreNames names → are_known (length names) (ending_servers e) ≡ true → is_end e ≡ true → outcome_printed (outcome_text (ending_name names e)) ≡ Some (ending_name names e)
outcome_reads names ending.Unended h known ends = unended_reads
outcome_reads names ending.Interrupted h known ends = interrupted_reads
outcome_reads names (ending.Failed c) h known ends = failed_reads c ends
outcome_reads names (ending.Promoted n) h known ends = promoted_reads (name_of names n) (is_name names n h (first_known (length names) n.0 [] known))

ending_reads : (names : List HostPort) (e : Ending) → AreNames names → are_known (length names) (ending_servers e) ≡ true → ending_of names (ending_name names e) ≡ Ok e
ending_reads names (ending.Promoted n) h known = rw (server_reads names n h (first_known (length names) n.0 [] known)) refl
ending_reads names _ h known = refl

abbrev source_by : List HostPort → SourceState → Source
source_by names state.Without = named.Without
source_by names (state.Attached n) = named.Attached (name_of names n)
source_by names (state.Detached n) = named.Detached (name_of names n)

source_reads : (names : List HostPort) (s : SourceState) (k : ℕ) (list : Data) → AreNames names → are_known (length names) (source_servers s) ≡ true → at k list ≡ Some (string (source_name names s))
    → source_at (source_word s) k list ≡ Ok (source_by names s)
unfolding source_at field_at
source_reads names state.Without k list h known e = rw e refl
source_reads names (state.Attached n) k list h known e = rw (e, named_reads names n h (first_known (length names) n.0 [] known)) refl
source_reads names (state.Detached n) k list h known e = rw (e, named_reads names n h (first_known (length names) n.0 [] known)) refl

state_reads : (names : List HostPort) (s : SourceState) → AreNames names → are_known (length names) (source_servers s) ≡ true → state_of names (source_by names s) ≡ Ok s
state_reads names state.Without h known = refl
state_reads names (state.Attached n) h known = rw (server_reads names n h (first_known (length names) n.0 [] known)) refl
state_reads names (state.Detached n) h known = rw (server_reads names n h (first_known (length names) n.0 [] known)) refl

-- ---- tables

wrapped_reads : (t : Table) (v : ℕ) (names : List HostPort) (key : List ℕ) (ds : Items) → is_version t v ≡ true → row_in t names key (wrapped v (array ds)) ≡ row_at t v names key (array ds)
unfolding row_in shape_of two_of version_of
wrapped_reads t v names key ds is = rw is refl

first_reads : (names : List HostPort) (i : Instance) → first_tail (array (instance_items names i no_items)) ≡ Ok (1, [])
unfolding first_tail end_at
first_reads names i = refl

second_reads : (names : List HostPort) (i : Instance) (first : ℕ) (purged : List Interval) → first < 2 ^ 32 → IsSet purged
    → second_tail (array (instance_items names i (item (whole first) (item (string (set_text purged)) no_items)))) ≡ Ok (first, purged)
unfolding second_tail field_at end_at
second_reads names i first purged small set = rw (le-leb first 4294967295 (omega (arith, small)), set_reads purged set) refl

-- the row of an instance with another tail
abbrev tailed : Instance → ℕ × List Interval → Row
tailed i t = row.Instance (record i { seen = record i.seen { first = t.0; purged = t.1 } })

instance_reads : TextReads → (names : List HostPort) (i : Instance) (v : ℕ) (tail : Items) (t : ℕ × List Interval) → AreNames names → CanBeKept names (row.Instance i)
    → tail_at v (array (instance_items names i tail)) ≡ Ok t → instance_at v names (name_text names i.no) (array (instance_items names i tail)) ≡ Ok (tailed i t)
unfolding instance_at field_at
instance_reads law names i v tail t h can told =
    let own = first_known (length names) i.no.0 (source_servers i.seen.source) can.known in
    let known = rest_known (length names) i.no.0 (source_servers i.seen.source) can.known in
    let form : IsPrintable i.seen = can.form in
    rw (
      own_end_reads law i.seen.own_end form.own_end,
      word_reads i.seen.source,
      source_reads names i.seen.source 5 (array (instance_items names i tail)) h known refl,
      coord_reads law i.seen.exec form.exec,
      coord_reads law i.seen.read form.read,
      io_reads i.seen.io,
      set_reads i.seen.set form.set,
      told,
      named_reads names i.no h own,
      server_reads names i.no h own,
      state_reads names i.seen.source h known,
    ) refl

downtime_reads : (names : List HostPort) (n : ServerNo) (begun until : Moment) (owner reason : List ℕ) → AreNames names → n.0 < length names
    → downtime_at names (name_text names n) (array (item (moment_data begun) (item (moment_data until) (item (string owner) (item (string reason) no_items)))))
    ≡ Ok (row.Downtime (record { no = n; begun = begun; until = until; owner = owner; reason = reason }))
unfolding downtime_at field_at end_at
downtime_reads names n begun until owner reason h known = rw (named_reads names n h known, server_reads names n h known) refl

candidate_reads : (names : List HostPort) (n : ServerNo) (r : Rule) (until : Moment) → AreNames names → n.0 < length names
    → candidate_at names (name_text names n) (array (item (string (rule_text r)) (item (moment_data until) no_items))) ≡ Ok (row.Candidate (record { no = n; rule = r; until = until }))
unfolding candidate_at field_at end_at
candidate_reads names n r until h known = rw (rule_reads r, named_reads names n h known, server_reads names n h known) refl

switch_reads : (enabled : Bool) → switch_at (codes "global") (array (item (boolean enabled) no_items)) ≡ Ok (row.Switch enabled)
unfolding switch_at field_at end_at
switch_reads enabled = refl

active_reads : (node : ℕ) (until : Moment) → node < 2 ^ 32 → active_at (codes "active") (array (item (whole node) (item (moment_data until) no_items))) ≡ Ok (row.Active node until)
unfolding active_at field_at end_at
active_reads node until small = rw (le-leb node 4294967295 (omega (arith, small))) refl

block_reads : (b c d e f g h : Data) (block : Option ℕ)
    → block_at (block_version block) (array (item b (item c (item d (item e (item f (item g (item h (block_items block))))))))) ≡ Ok block
unfolding first_block second_block field_at end_at
block_reads b c d e f g h None = refl
block_reads b c d e f g h (Some n) = refl

has_version : (block : Option ℕ) → is_version table.Recovery (block_version block) ≡ true
has_version None = refl
has_version (Some b) = refl

recovery_reads : (names : List HostPort) (key : List ℕ) (r : RecoveryRow) → AreNames names → r.id < 2 ^ 64 → are_known (length names) (servers_of (row.Recovery r)) ≡ true → is_end r.outcome ≡ true
    → recovery_at (block_version r.block) names (key_text names (key_of (row.Recovery r))) (recovery_list names r) ≡ Ok (row.Recovery r)
unfolding recovery_at field_at
recovery_reads names key r h id can ends =
    let own = first_known (length names) r.failed.0 (ending_servers r.outcome) can in
    let known = rest_known (length names) r.failed.0 (ending_servers r.outcome) can in
    rw (
      kind_reads r.kind,
      named_reads names r.failed h own,
      ended_reads r.ended,
      outcome_reads names r.outcome h known ends,
      block_reads _ _ _ _ _ _ _ r.block,
      id_reads r.id id,
      server_reads names r.failed h own,
      ending_reads names r.outcome h known,
    ) refl

-- ---- all rows

written_in : TextReads → (names : List HostPort) (r : Row) → AreNames names → CanBeKept names r → row_in (table_of r) names (key_text names (key_of r)) (row_data names r) ≡ Ok r
written_in law names (row.Instance i) h can =
    let form : IsPrintable i.seen = can.form in
    wrapped_reads table.Instance 2 names (name_text names i.no) _ refl
    ∙ instance_reads law names i 2 (item (whole i.seen.first) (item (string (set_text i.seen.purged)) no_items)) (i.seen.first, i.seen.purged) h can (second_reads names i i.seen.first i.seen.purged form.first form.purged)
written_in law names (row.Downtime d) h can =
    wrapped_reads table.Downtime 1 names (name_text names d.no) _ refl ∙ downtime_reads names d.no d.begun d.until d.owner d.reason h (first_known (length names) d.no.0 [] can.known)
written_in law names (row.Candidate c) h can =
    wrapped_reads table.Candidate 1 names (name_text names c.no) _ refl ∙ candidate_reads names c.no c.rule c.until h (first_known (length names) c.no.0 [] can.known)
written_in law names (row.Recovery r) h can =
    wrapped_reads table.Recovery (block_version r.block) names (key_text names (key_of (row.Recovery r))) _ (has_version r.block) ∙ recovery_reads names [] r h can.key can.known can.form
written_in law names (row.Switch enabled) h can = wrapped_reads table.Switch 1 names (codes "global") _ refl ∙ switch_reads enabled
written_in law names (row.Active node until) h can = wrapped_reads table.Active 1 names (codes "active") _ refl ∙ active_reads node until can.form

written_reads_lem : TextReads → (names : List HostPort) (r : Row) (text : List ℕ) → AreNames names → CanBeKept names r → value_of text ≡ Some (row_data names r)
    → read_row (table_of r) names (key_text names (key_of r)) text ≡ Ok r
unfolding read_row
written_reads_lem law names r text h can value = rw value (written_in law names r h can)

old_in : TextReads → (names : List HostPort) (i : Instance) → AreNames names → CanBeKept names (row.Instance i) → i.seen.first ≡ 1 → i.seen.purged ≡ []
    → row_in table.Instance names (name_text names i.no) (old_instance_data names i) ≡ Ok (row.Instance i)
old_in law names i h can first purged =
    let same : tailed i (1, []) ≡ row.Instance i = rw (sym first, sym purged) refl in
    wrapped_reads table.Instance 1 names (name_text names i.no) _ refl ∙ (instance_reads law names i 1 no_items (1, []) h can (first_reads names i) ∙ ap (λ (r : Row). Ok r) same)

old_reads_lem : TextReads → (names : List HostPort) (i : Instance) (text : List ℕ) → AreNames names → CanBeKept names (row.Instance i) → i.seen.first ≡ 1 → i.seen.purged ≡ []
    → value_of text ≡ Some (old_instance_data names i) → read_row table.Instance names (name_text names i.no) text ≡ Ok (row.Instance i)
unfolding read_row
old_reads_lem law names i text h can first purged value = rw value (old_in law names i h can first purged)

-- ---- a row's texts are exactly those that read as it

by_old : TextReads → (names : List HostPort) (r : Row) (text : List ℕ) (d : Data) → AreNames names → CanBeKept names r → value_of text ≡ Some d → IsOldValue names r d
    → read_row (table_of r) names (key_text names (key_of r)) text ≡ Ok r
by_old law names (row.Instance i) text d h can value old = old_reads_lem law names i text h can old.0 old.1 (value ∙ ap Some old.2)
by_old law names _ text d h can value old = absurd old

by_value : TextReads → (names : List HostPort) (r : Row) (text : List ℕ) (d : Data) → AreNames names → CanBeKept names r → value_of text ≡ Some d → IsValueOf names r d
    → read_row (table_of r) names (key_text names (key_of r)) text ≡ Ok r
by_value law names r text d h can value (inl same) = written_reads_lem law names r text h can (value ∙ ap Some same)
by_value law names r text d h can value (inr old) = by_old law names r text d h can value old

pub texts_read : OnlyText → TextReads → (names : List HostPort) (r : Row) (text : List ℕ) → AreNames names → CanBeKept names r
    → (read_row (table_of r) names (key_text names (key_of r)) text ≡ Ok r) ↔ IsTextOf names r text
texts_read only law names r text h can =
    (λ e. let b = read_back only (table_of r) names (key_text names (key_of r)) text r e in (b.0, b.1, b.2.value), λ t. by_value law names r text t.0 h can t.1 t.2)
