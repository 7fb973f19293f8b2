-- The names in kept rows, and what a text means: such a name, or what is printed as this text.
use Rattle.std.specs.Prelude.{ℕ, ◌+◌, ◌^◌, ◌==◌, ◌&&◌, ◌||◌, ◌∷◌, ◌++◌, [], List, Bool, true, Option, Some, None, Result, Ok, Err, codes, find, length, nat_le, nat_lt, option_map, slice_index, if◌then◌else◌}
use Rattle.row_texts.specs.Prelude.{CauseName, Coord, GtidFault, HostPort, Interval, IoState, Kind, NameFault, Rule, after_first, all_ascii_digits}
use Rattle.row_texts.specs.Prelude.{before_first, bytes_eq, cause_name_text, coord_at, digits_value, high, largest, list_all, low, name_at, position_or_len}
use Rattle.row_texts.specs.Prelude.{printed as set_text, result_ok, text_at}
use Rattle.row_texts.specs.Prelude.Names.{printed}
use Rattle.row_texts.specs.Prelude.cause
use Rattle.row_texts.specs.Prelude.io
use Rattle.row_texts.specs.Prelude.kind
use Rattle.row_texts.specs.Prelude.rule
use Rattle.row_texts.specs.declared.word.Outcome.{Outcome}
use Rattle.row_texts.specs.declared.word.Outcome.TheVariants as outcome
use Rattle.row_texts.specs.declared.word.SourceWord.{SourceWord}
use Rattle.row_texts.specs.declared.word.SourceWord.TheVariants as source

-- ---- names

abbrev pub kinds : List Kind
kinds = kind.Master ∷ kind.Intermediate ∷ kind.Takeover ∷ []

abbrev pub rules : List Rule
rules = rule.Prefer ∷ rule.Neutral ∷ rule.PreferNot ∷ rule.MustNot ∷ []

-- a receiver's state
abbrev pub io_text : IoState → List ℕ
io_text io.Yes = codes "yes"
io_text io.Connecting = codes "connecting"
io_text io.No = codes "no"

abbrev pub io_states : List IoState
io_states = io.Yes ∷ io.Connecting ∷ io.No ∷ []

-- a server's state beside its source
abbrev pub source_text : SourceWord → List ℕ
source_text source.Without = codes "none"
source_text source.Attached = codes "attached"
source_text source.Detached = codes "detached"

abbrev pub source_words : List SourceWord
source_words = source.Without ∷ source.Attached ∷ source.Detached ∷ []

-- the causes that a recovery can end by; no recovery matches logs
abbrev pub causes : List CauseName
causes = cause.Unreachable ∷ cause.WaitSpent ∷ cause.Interfered ∷ cause.Running ∷ cause.Loop ∷ cause.Errant ∷ cause.Moved ∷ cause.Reachable
    ∷ cause.NoCandidate ∷ cause.Purged ∷ cause.HookFailed ∷ []

-- the first of these that has this word
abbrev pub named_among : {W : Type 0} → (W → List ℕ) → List W → List ℕ → Option W
named_among word all s = find (λ w. bytes_eq (word w) s) all

-- ---- what is printed as this text

abbrev pub as_printed : List ℕ → Result HostPort NameFault → Option HostPort
as_printed s (Ok n) = if bytes_eq (printed n) s then Some n else None
as_printed s (Err e) = None

-- the name
unfoldable pub name_printed : List ℕ → Option HostPort
name_printed s = as_printed s (name_at s)

-- the coordinate: each has exactly one text
unfoldable pub coord_printed : List ℕ → Option Coord
coord_printed s = result_ok (coord_at s)

abbrev pub is_interval : Interval → Bool
is_interval s = nat_lt s.uuid (2 ^ 128) && nat_le 1 s.first && nat_le s.first s.last && nat_le s.last largest

-- whether intervals are a set: in order, and no two of them overlap or touch
abbrev pub is_set : List Interval → Bool
is_set [] = true
is_set (s ∷ xs) = is_interval s && list_all (λ t. nat_lt (high s + 1) (low t)) xs && is_set xs

abbrev pub as_set : List ℕ → Result (List Interval) GtidFault → Option (List Interval)
as_set s (Ok xs) = if is_set xs && bytes_eq (set_text xs) s then Some xs else None
as_set s (Err e) = None

-- the set
unfoldable pub set_printed : List ℕ → Option (List Interval)
set_printed s = as_set s (text_at s)

-- an id: 0, or decimal digits without a zero before them, below 2^64
abbrev pub is_id : List ℕ → Bool
is_id key = (nat_le 49 (slice_index key 0) || bytes_eq key (codes "0")) && all_ascii_digits key && nat_lt (digits_value 10 key) (2 ^ 64)

unfoldable pub id_printed : List ℕ → Option ℕ
id_printed key = if is_id key then Some (digits_value 10 key) else None

-- ---- how a recovery ended: `unended`, `interrupted`, `promoted NAME` or `failed CAUSE`

abbrev pub is_space : ℕ → Bool
is_space b = b == 32

abbrev pub word_of : List ℕ → List ℕ
word_of s = before_first is_space s

-- after the first space, if there is one
abbrev pub rest_of : List ℕ → Option (List ℕ)
rest_of s = if nat_lt (position_or_len is_space s) (length s) then Some (after_first is_space s) else None

abbrev pub outcome_of : List ℕ → Option (List ℕ) → Option Outcome
outcome_of word None = if bytes_eq word (codes "unended") then Some outcome.Unended else (if bytes_eq word (codes "interrupted") then Some outcome.Interrupted else None)
outcome_of word (Some rest) = if bytes_eq word (codes "promoted") then option_map (λ n. outcome.Promoted n) (name_printed rest)
    else (if bytes_eq word (codes "failed") then option_map (λ c. outcome.Failed c) (named_among cause_name_text causes rest) else None)

unfoldable pub outcome_printed : List ℕ → Option Outcome
outcome_printed s = outcome_of (word_of s) (rest_of s)

abbrev pub outcome_text : Outcome → List ℕ
outcome_text outcome.Unended = codes "unended"
outcome_text outcome.Interrupted = codes "interrupted"
outcome_text (outcome.Promoted n) = codes "promoted " ++ printed n
outcome_text (outcome.Failed c) = codes "failed " ++ cause_name_text c
