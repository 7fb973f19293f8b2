-- The tables of kept rows: the list of fields of each, and its key.
use Rattle.std.specs.Prelude.{ℕ, ◌&&◌, [], Bool, List, Option, None, Some, Result, Ok, codes, nat_eq, nat_le, if◌then◌else◌}
use Rattle.row_texts.specs.Prelude.{Data, Ending, HostPort, Interval, Row, SourceState, Table, as_bool, as_str, kind_text, rule_text}
use Rattle.row_texts.specs.Prelude.ending
use Rattle.row_texts.specs.Prelude.row
use Rattle.row_texts.specs.Prelude.state
use Rattle.row_texts.specs.Prelude.table
use Rattle.kept_rows.specs.OrchBase.Gives.{◌>>=◌}
use Rattle.row_texts.specs.declared.fault.RowFault.{RowFault}
use Rattle.row_texts.specs.declared.word.Outcome.{Outcome}
use Rattle.row_texts.specs.declared.word.Outcome.TheVariants as outcome
use Rattle.row_texts.specs.declared.word.Source.{Source}
use Rattle.row_texts.specs.declared.word.Source.TheVariants as named
use Rattle.row_texts.specs.declared.word.SourceWord.{SourceWord}
use Rattle.row_texts.specs.declared.word.SourceWord.TheVariants as source
use Rattle.row_texts.specs.Fields.{coord_form, empty_form, end_at, field_at, key_id, key_name, key_word, moment_form, name_form, or_null, outcome_form, server_of, set_form, small_form, whole_form, word_form}
use Rattle.row_texts.specs.Words.{io_states, io_text, kinds, rules, source_text, source_words}

-- ---- versions

-- the versions of a table: 1, and of instances and recoveries 2 too
abbrev pub is_version : Table → ℕ → Bool
is_version table.Instance v = nat_le 1 v && nat_le v 2
is_version table.Downtime v = nat_eq v 1
is_version table.Candidate v = nat_eq v 1
is_version table.Recovery v = nat_le 1 v && nat_le v 2
is_version table.Switch v = nat_eq v 1
is_version table.Active v = nat_eq v 1

-- ---- servers by their numbers

abbrev pub ending_of : List HostPort → Outcome → Result Ending RowFault
ending_of names outcome.Unended = Ok ending.Unended
ending_of names outcome.Interrupted = Ok ending.Interrupted
ending_of names (outcome.Promoted n) = server_of names n >>= (λ server. Ok (ending.Promoted server))
ending_of names (outcome.Failed c) = Ok (ending.Failed c)

abbrev pub state_of : List HostPort → Source → Result SourceState RowFault
state_of names named.Without = Ok state.Without
state_of names (named.Attached n) = server_of names n >>= (λ server. Ok (state.Attached server))
state_of names (named.Detached n) = server_of names n >>= (λ server. Ok (state.Detached server))

-- ---- table 1: instances

-- the source's name: it is empty exactly beside `none`
unfoldable pub source_at : SourceWord → ℕ → Data → Result Source RowFault
source_at source.Without n list = field_at empty_form n list >>= (λ empty. Ok named.Without)
source_at source.Attached n list = field_at name_form n list >>= (λ name. Ok (named.Attached name))
source_at source.Detached n list = field_at name_form n list >>= (λ name. Ok (named.Detached name))

-- the first file that is kept and the purged set, which version 1 hasn't
unfoldable pub first_tail : Data → Result (ℕ × List Interval) RowFault
first_tail list = do
  ended ← end_at 13 list
  Ok (1, [])

unfoldable pub second_tail : Data → Result (ℕ × List Interval) RowFault
second_tail list = do
  first ← field_at small_form 13 list
  purged ← field_at set_form 14 list
  ended ← end_at 15 list
  Ok (first, purged)

abbrev pub tail_at : ℕ → Data → Result (ℕ × List Interval) RowFault
tail_at v list = if nat_eq v 1 then first_tail list else second_tail list

-- Read, moment, valid, own end or null, the source's state and name, executed, read, auto, receiver, applier,
-- read-only, executed set. From version 2 on also the first kept file and the purged set.
unfoldable pub instance_at : ℕ → List HostPort → List ℕ → Data → Result Row RowFault
instance_at v names key list = do
  number ← field_at whole_form 0 list
  moment ← field_at moment_form 1 list
  valid ← field_at as_bool 2 list
  own_end ← field_at (or_null coord_form) 3 list
  word ← field_at (word_form source_text source_words) 4 list
  from ← source_at word 5 list
  exec ← field_at coord_form 6 list
  read ← field_at coord_form 7 list
  auto ← field_at as_bool 8 list
  io ← field_at (word_form io_text io_states) 9 list
  sql ← field_at as_bool 10 list
  read_only ← field_at as_bool 11 list
  set ← field_at set_form 12 list
  tail ← tail_at v list
  name ← key_name key
  server ← server_of names name
  source ← state_of names from
  Ok (row.Instance (record {
    no = server;
    read = number;
    moment = moment;
    valid = valid;
    seen = record { own_end = own_end; source = source; exec = exec; read = read; auto = auto; io = io; sql = sql; read_only = read_only; set = set; first = tail.0; purged = tail.1 };
  }))

-- ---- table 2: downtimes

-- begun, until, owner, reason
unfoldable pub downtime_at : List HostPort → List ℕ → Data → Result Row RowFault
downtime_at names key list = do
  begun ← field_at moment_form 0 list
  until ← field_at moment_form 1 list
  owner ← field_at as_str 2 list
  reason ← field_at as_str 3 list
  ended ← end_at 4 list
  name ← key_name key
  server ← server_of names name
  Ok (row.Downtime (record { no = server; begun = begun; until = until; owner = owner; reason = reason }))

-- ---- table 3: candidates

-- rule, until
unfoldable pub candidate_at : List HostPort → List ℕ → Data → Result Row RowFault
candidate_at names key list = do
  rule ← field_at (word_form rule_text rules) 0 list
  until ← field_at moment_form 1 list
  ended ← end_at 2 list
  name ← key_name key
  server ← server_of names name
  Ok (row.Candidate (record { no = server; rule = rule; until = until }))

-- ---- table 4: recoveries

-- the block, which version 1 hasn't
unfoldable pub first_block : Data → Result (Option ℕ) RowFault
first_block list = do
  ended ← end_at 7 list
  Ok None

unfoldable pub second_block : Data → Result (Option ℕ) RowFault
second_block list = do
  block ← field_at whole_form 7 list
  ended ← end_at 8 list
  Ok (Some block)

abbrev pub block_at : ℕ → Data → Result (Option ℕ) RowFault
block_at v list = if nat_eq v 1 then first_block list else second_block list

-- cluster, kind, failed, begun, ended or null, outcome, acknowledged, and from version 2 on the block
unfoldable pub recovery_at : ℕ → List HostPort → List ℕ → Data → Result Row RowFault
recovery_at v names key list = do
  cluster ← field_at as_str 0 list
  kind ← field_at (word_form kind_text kinds) 1 list
  failed ← field_at name_form 2 list
  begun ← field_at moment_form 3 list
  ended ← field_at (or_null moment_form) 4 list
  how ← field_at outcome_form 5 list
  acked ← field_at as_bool 6 list
  block ← block_at v list
  id ← key_id key
  server ← server_of names failed
  outcome ← ending_of names how
  Ok (row.Recovery (record { id = id; cluster = cluster; kind = kind; failed = server; begun = begun; ended = ended; outcome = outcome; acked = acked; block = block }))

-- ---- table 5: the switch

-- enabled
unfoldable pub switch_at : List ℕ → Data → Result Row RowFault
switch_at key list = do
  enabled ← field_at as_bool 0 list
  ended ← end_at 1 list
  global ← key_word (codes "global") key
  Ok (row.Switch enabled)

-- ---- table 6: the claim of the active node

-- node, until
unfoldable pub active_at : List ℕ → Data → Result Row RowFault
active_at key list = do
  node ← field_at small_form 0 list
  until ← field_at moment_form 1 list
  ended ← end_at 2 list
  active ← key_word (codes "active") key
  Ok (row.Active node until)
