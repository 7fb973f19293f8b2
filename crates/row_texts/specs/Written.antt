-- What is written of a row: its value as JSON, and the key's text.
use Rattle.std.specs.Prelude.{ℕ, [], List, Option, None, Some, codes, decimal, slice_index_or}
use Rattle.row_texts.specs.Prelude.{Coord, Data, Downtime, Ending, HostPort, Instance, Items, Key, Moment, RecoveryRow, Row, ServerNo, SourceState}
use Rattle.row_texts.specs.Prelude.{array, boolean, compact_text, coord_text, item, kind_text, member, no_items, no_members, null, number, object}
use Rattle.row_texts.specs.Prelude.{printed as set_text, rule_text, string, unsigned}
use Rattle.row_texts.specs.Prelude.Names.{printed}
use Rattle.row_texts.specs.Prelude.ending
use Rattle.row_texts.specs.Prelude.key
use Rattle.row_texts.specs.Prelude.row
use Rattle.row_texts.specs.Prelude.state
use Rattle.row_texts.specs.declared.word.Outcome.{Outcome}
use Rattle.row_texts.specs.declared.word.Outcome.TheVariants as outcome
use Rattle.row_texts.specs.declared.word.SourceWord.{SourceWord}
use Rattle.row_texts.specs.declared.word.SourceWord.TheVariants as source
use Rattle.row_texts.specs.Words.{io_text, outcome_text, source_text}

abbrev pub whole : ℕ → Data
whole n = number (unsigned n)

-- an object of a list of fields and a version
abbrev pub wrapped : ℕ → Data → Data
wrapped v list = object (member (codes "f") list (member (codes "v") (whole v) no_members))

abbrev pub name_of : List HostPort → ServerNo → HostPort
name_of names n = slice_index_or names n.0 (record { host = []; port = 0 })

abbrev pub name_text : List HostPort → ServerNo → List ℕ
name_text names n = printed (name_of names n)

abbrev pub coord_data : Coord → Data
coord_data c = string (coord_text c)

abbrev pub moment_data : Moment → Data
moment_data t = whole t.0

-- null, or what is there
abbrev pub maybe_data : {A : Type 0} → (A → Data) → Option A → Data
maybe_data form None = null
maybe_data form (Some x) = form x

-- ---- instances

abbrev pub source_word : SourceState → SourceWord
source_word state.Without = source.Without
source_word (state.Attached n) = source.Attached
source_word (state.Detached n) = source.Detached

abbrev pub source_name : List HostPort → SourceState → List ℕ
source_name names state.Without = []
source_name names (state.Attached n) = name_text names n
source_name names (state.Detached n) = name_text names n

abbrev pub instance_items : List HostPort → Instance → Items → Items
instance_items names i tail =
    item (whole i.read) (item (whole i.moment.0) (item (boolean i.valid) (item (maybe_data coord_data i.seen.own_end)
    (item (string (source_text (source_word i.seen.source))) (item (string (source_name names i.seen.source)) (item (coord_data i.seen.exec)
    (item (coord_data i.seen.read) (item (boolean i.seen.auto) (item (string (io_text i.seen.io)) (item (boolean i.seen.sql)
    (item (boolean i.seen.read_only) (item (string (set_text i.seen.set)) tail))))))))))))

-- in version 2, which is written
abbrev pub instance_list : List HostPort → Instance → Data
instance_list names i = array (instance_items names i (item (whole i.seen.first) (item (string (set_text i.seen.purged)) no_items)))

-- in version 1, which is read alone
abbrev pub old_instance_data : List HostPort → Instance → Data
old_instance_data names i = wrapped 1 (array (instance_items names i no_items))

-- ---- downtimes

abbrev pub downtime_list : Downtime → Data
downtime_list d = array (item (moment_data d.begun) (item (moment_data d.until) (item (string d.owner) (item (string d.reason) no_items))))

-- ---- recoveries

abbrev pub ending_name : List HostPort → Ending → Outcome
ending_name names ending.Unended = outcome.Unended
ending_name names ending.Interrupted = outcome.Interrupted
ending_name names (ending.Promoted n) = outcome.Promoted (name_of names n)
ending_name names (ending.Failed c) = outcome.Failed c

abbrev pub block_items : Option ℕ → Items
block_items None = no_items
block_items (Some b) = item (whole b) no_items

abbrev pub block_version : Option ℕ → ℕ
block_version None = 1
block_version (Some b) = 2

abbrev pub recovery_list : List HostPort → RecoveryRow → Data
recovery_list names r = array
    (item (string r.cluster) (item (string (kind_text r.kind)) (item (string (name_text names r.failed)) (item (whole r.begun.0)
    (item (maybe_data moment_data r.ended) (item (string (outcome_text (ending_name names r.outcome))) (item (boolean r.acked) (block_items r.block))))))))

-- ---- rows and keys

-- the list of a row's fields, with the servers' names
abbrev pub row_list : List HostPort → Row → Data
row_list names (row.Instance i) = instance_list names i
row_list names (row.Downtime d) = downtime_list d
row_list names (row.Candidate c) = array (item (string (rule_text c.rule)) (item (moment_data c.until) no_items))
row_list names (row.Recovery r) = recovery_list names r
row_list names (row.Switch enabled) = array (item (boolean enabled) no_items)
row_list names (row.Active node until) = array (item (whole node) (item (moment_data until) no_items))

-- the version in which a row is written: 2 for an instance, and for a recovery that has a block
abbrev pub row_version : Row → ℕ
row_version (row.Instance i) = 2
row_version (row.Downtime d) = 1
row_version (row.Candidate c) = 1
row_version (row.Recovery r) = block_version r.block
row_version (row.Switch enabled) = 1
row_version (row.Active node until) = 1

-- a row as a JSON value
abbrev pub row_data : List HostPort → Row → Data
row_data names r = wrapped (row_version r) (row_list names r)

-- compact JSON
unfoldable pub row_text : List HostPort → Row → List ℕ
row_text names r = compact_text (row_data names r)

-- a printed name, an id in decimal, `global` or `active`
abbrev pub key_text : List HostPort → Key → List ℕ
key_text names (key.Server n) = name_text names n
key_text names (key.Id id) = decimal id
key_text names key.Global = codes "global"
key_text names key.Active = codes "active"
