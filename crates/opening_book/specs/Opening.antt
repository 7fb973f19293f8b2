-- What is kept at an opening beyond the rows that count. These are an instance of each known server that has none, and
-- the registrations that the scenario gives. Then the block periods of recoveries whose rows have none, and the
-- recoveries that the opening interrupts.
use Rattle.std.specs.Prelude.{ℕ, ◌+◌, ◌&&◌, Bool, true, false, if◌then◌else◌, List, [], ◌∷◌, ◌++◌, filter_map, fold, map, Option, None, Some, is_none, slice_index_or}
use Rattle.opening_book.specs.Prelude.{AuditState, BookState, Candidate, Change, Instance, Moment, Row, Rule, Server, World, after_addition}
use Rattle.opening_book.specs.Prelude.{after_put, after_removal, closing, cons_option, fits, loaded_by, put_change, put_recovery, row_fits, server_at}
use Rattle.opening_book.specs.Prelude.{shown_of}
use Rattle.opening_book.specs.Prelude.change
use Rattle.opening_book.specs.Prelude.row

-- a server as it is known at the opening: valid if orchestrator reaches it
abbrev pub opening_instance : World → Moment → ℕ → Server → Instance
opening_instance w at n s = record { no = record { 0 = n }; read = 0; moment = at; valid = s.up && s.desk; seen = shown_of w s }

abbrev pub put_instance : World → Moment → ℕ → Option Server → Option Change
put_instance w at n None = None
put_instance w at n (Some s) = Some (change.Put (row.Instance (opening_instance w at n s)))

-- what is put for server n: its instance, if it is known and the book has none
abbrev pub missing : World → Moment → BookState → ℕ → Bool → Option Change
missing w at b n known = if known && is_none (slice_index_or b.instances n None) then put_instance w at n (server_at w n) else None

-- the changes that servers bring one after the other, from number n on
abbrev pub changes_from : {A : Type 0} → (ℕ → A → Option Change) → ℕ → List A → List Change
changes_from change_of n [] = []
changes_from change_of n (x ∷ rest) = cons_option (change_of n x) (changes_from change_of (n + 1) rest)

abbrev pub missing_from : World → Moment → BookState → ℕ → List Bool → List Change
missing_from w at b n known = changes_from (missing w at b) n known

-- how long a registration of the scenario lasts, in seconds
abbrev pub registered_for : ℕ
registered_for = 3600

-- a server's registration with a rule from the opening on
abbrev pub registered : Moment → ℕ → Rule → Candidate
registered at n rule = record { no = record { 0 = n }; rule = rule; until = record { 0 = at.0 + registered_for } }

-- what is put for server n: its registration, if the scenario gives it a rule, unless it is kept already
abbrev pub registering : Moment → BookState → ℕ → Option Rule → Option Change
registering at b n None = None
registering at b n (Some rule) = put_change b (row.Candidate (registered at n rule))

abbrev pub registering_from : Moment → BookState → ℕ → List (Option Rule) → List Change
registering_from at b n rules = changes_from (registering at b) n rules

-- a recovery whose row has no block period is kept with its cluster's
abbrev pub block_given : (List ℕ → ℕ) → Row → Option Change
block_given period (row.Instance i) = None
block_given period (row.Downtime d) = None
block_given period (row.Candidate c) = None
block_given period (row.Recovery k) = if is_none k.block then Some (put_recovery (loaded_by period k)) else None
block_given period (row.Switch enabled) = None
block_given period (row.Active node until) = None

abbrev pub blocks_given : (List ℕ → ℕ) → List Row → List Change
blocks_given period rows = filter_map (block_given period) rows

-- the unended recoveries, as interrupted
abbrev pub interrupting : AuditState → Moment → List Change
interrupting a at = map put_recovery (closing a at)

-- what a load of these rows keeps of recoveries, by the audit that it makes of them
abbrev pub loading : (List ℕ → ℕ) → List Row → AuditState → Moment → List Change
loading period rows a at = blocks_given period rows ++ interrupting a at

-- the changes of the opening, by whether each server is known, its rule, and what is kept of recoveries
abbrev pub opening_changes : World → Moment → BookState → List Bool → List (Option Rule) → List Change → List Change
opening_changes w at b known rules recoveries = missing_from w at b 0 known ++ (registering_from at b 0 rules ++ recoveries)

-- a change of an opening: one that the book takes, or of a recovery, which is in the audit
abbrev pub is_opening_row : ℕ → Row → Bool
is_opening_row count (row.Instance i) = row_fits count (row.Instance i)
is_opening_row count (row.Downtime d) = row_fits count (row.Downtime d)
is_opening_row count (row.Candidate c) = row_fits count (row.Candidate c)
is_opening_row count (row.Recovery k) = true
is_opening_row count (row.Switch enabled) = row_fits count (row.Switch enabled)
is_opening_row count (row.Active node until) = false

abbrev pub is_opening_change : ℕ → Change → Bool
is_opening_change count (change.Put r) = is_opening_row count r
is_opening_change count (change.Remove t k) = fits count (change.Remove t k)

-- a row that is put at the opening: an instance is added with the bridge that it shows if it is valid
abbrev pub after_first : BookState → Row → BookState
after_first b (row.Instance i) = after_addition b i
after_first b (row.Downtime d) = after_put b (row.Downtime d)
after_first b (row.Candidate c) = after_put b (row.Candidate c)
after_first b (row.Recovery k) = after_put b (row.Recovery k)
after_first b (row.Switch enabled) = after_put b (row.Switch enabled)
after_first b (row.Active node until) = b

abbrev pub after_opening : BookState → Change → BookState
after_opening b (change.Put r) = after_first b r
after_opening b (change.Remove t k) = after_removal b t k

-- the book after the changes of an opening
abbrev pub opened_book : BookState → List Change → BookState
opened_book b changes = fold after_opening b changes
