-- What orchestrator knows, by the servers' numbers.
use Rattle.std.specs.Prelude.{◌≡◌, ℕ, ◌+◌, ◌<◌, ◌^◌, nat_lt, Bool, true, if◌then◌else◌, List, [], ◌∷◌, ◌++◌, length, map, fold, replicate, filter_map, slice_set, slice_index_or, Option, None, Some, Result, Ok, Err, option_map, unwrap_or, is_some, IfSome, ⊤}
use Rattle.instance_keeper.specs.Prelude.{All, Candidate, Change, Downtime, HostPort, Instance, Key, Moment, Observation, Row, Rule, ServerNo}
use Rattle.instance_keeper.specs.Prelude.{Settings, Status as Seen, Table, are_known, option_to_list, row_fits, same_instance, source_servers}
use Rattle.instance_keeper.specs.Prelude.change
use Rattle.instance_keeper.specs.Prelude.key
use Rattle.instance_keeper.specs.Prelude.row
use Rattle.instance_keeper.specs.Prelude.rule
use Rattle.instance_keeper.specs.Prelude.table
use Rattle.instance_keeper.specs.declared.book.StoreAnswer.{StoreAnswer}
use Rattle.instance_keeper.specs.declared.book.StoreAnswer.TheVariants as answer
use Rattle.instance_keeper.specs.declared.bridge.Bridge.{Bridge}
use Rattle.instance_keeper.specs.declared.lease.LeaseFault.{LeaseFault}
use Rattle.instance_keeper.specs.Bridges.{bridge_in, ringed}

-- each list has a place for each server, by its number; the settings and names never change; the switch is none without
-- a row
pub record BookState : Type 0 where
  pub settings : List Settings
  pub names : List HostPort
  pub instances : List (Option Instance)
  pub downtimes : List (Option Downtime)
  pub candidates : List (Option Candidate)
  pub switch : Option Bool
  pub rings : List (List Bridge)
  pub leases : List (Option ℕ)

-- the names of servers, by their settings
abbrev pub names_of : List Settings → List HostPort
names_of settings = map (λ s. s.name) settings

abbrev pub empty_book : List Settings → BookState
empty_book settings = record {
  settings = settings;
  names = names_of settings;
  instances = replicate (length settings) None;
  downtimes = replicate (length settings) None;
  candidates = replicate (length settings) None;
  switch = None;
  rings = replicate (length settings) [];
  leases = replicate (length settings) None;
}

abbrev pub after_put : BookState → Row → BookState
after_put b (row.Instance i) = record b { instances = slice_set b.instances i.no.0 (Some i) }
after_put b (row.Downtime d) = record b { downtimes = slice_set b.downtimes d.no.0 (Some d) }
after_put b (row.Candidate c) = record b { candidates = slice_set b.candidates c.no.0 (Some c) }
after_put b (row.Recovery r) = b
after_put b (row.Switch enabled) = record b { switch = Some enabled }
after_put b (row.Active node until) = b

abbrev pub after_removal : BookState → Table → Key → BookState
after_removal b table.Instance (key.Server n) = record b { instances = slice_set b.instances n.0 None; rings = slice_set b.rings n.0 [] }
after_removal b table.Instance (key.Id id) = b
after_removal b table.Instance key.Global = b
after_removal b table.Instance key.Active = b
after_removal b table.Downtime (key.Server n) = record b { downtimes = slice_set b.downtimes n.0 None }
after_removal b table.Downtime (key.Id id) = b
after_removal b table.Downtime key.Global = b
after_removal b table.Downtime key.Active = b
after_removal b table.Candidate (key.Server n) = record b { candidates = slice_set b.candidates n.0 None }
after_removal b table.Candidate (key.Id id) = b
after_removal b table.Candidate key.Global = b
after_removal b table.Candidate key.Active = b
after_removal b table.Recovery k = b
after_removal b table.Switch (key.Server n) = b
after_removal b table.Switch (key.Id id) = b
after_removal b table.Switch key.Global = record b { switch = None }
after_removal b table.Switch key.Active = b
after_removal b table.Active k = b

abbrev pub after_change : BookState → Change → BookState
after_change b (change.Put r) = after_put b r
after_change b (change.Remove t k) = after_removal b t k

-- a row of the recovery table or the claim's, and one that names an unknown server, are passed over
abbrev pub after_row : BookState → Row → BookState
after_row b r = if row_fits (length b.names) r then after_put b r else b

-- the book of these rows: of two with one table and key the last counts
abbrev pub book_made : List Settings → List Row → BookState
book_made settings rows = fold after_row (empty_book settings) rows

abbrev pub instance_at : BookState → ServerNo → Option Instance
instance_at b n = slice_index_or b.instances n.0 None

-- what is known after a reading: one that didn't reach its server keeps what was seen earlier
abbrev pub renewed : Instance → Observation → Instance
renewed kept o = record { no = o.no; read = o.read; moment = o.moment; valid = is_some o.seen; seen = unwrap_or o.seen kept.seen }

-- a reading is old if the kept one is later
abbrev pub store_answer : Option Instance → Observation → StoreAnswer
store_answer None o = answer.Unknown
store_answer (Some kept) o = if nat_lt o.read kept.read then answer.Old kept.read else answer.Stored

-- the instance, renewed by a reading, and the bridge that the reading shows
abbrev pub renewed_book : BookState → Observation → Option Instance → BookState
renewed_book b o now = record b { instances = slice_set b.instances o.no.0 now; rings = ringed b.rings o.no (bridge_in o.no o.seen) }

abbrev pub stored_over : BookState → Observation → Option Instance → BookState
stored_over b o None = b
stored_over b o (Some kept) = if nat_lt o.read kept.read then b else renewed_book b o (Some (renewed kept o))

abbrev pub after_store : BookState → Observation → BookState
after_store b o = stored_over b o (instance_at b o.no)

-- an instance as it is seen for the first time
abbrev pub first_seen : Observation → Seen → Instance
first_seen o seen = record { no = o.no; read = o.read; moment = o.moment; valid = true; seen = seen }

-- the bridge that an instance shows if it is valid
abbrev pub shown_by : Instance → Option Bridge
shown_by i = if i.valid then bridge_in i.no (Some i.seen) else None

-- with an instance in its place, and the bridge that it shows in its ring
abbrev pub after_addition : BookState → Instance → BookState
after_addition b i = record b { instances = slice_set b.instances i.no.0 (Some i); rings = ringed b.rings i.no (shown_by i) }

abbrev pub added_over : BookState → Observation → Option Seen → BookState
added_over b o None = b
added_over b o (Some seen) = after_addition b (first_seen o seen)

-- an instance that the book lacks is added if its server was reached; one that it has is stored as any reading is
abbrev pub discovered_over : BookState → Observation → Option Instance → BookState
discovered_over b o None = added_over b o o.seen
discovered_over b o (Some kept) = stored_over b o (Some kept)

abbrev pub after_discovery : BookState → Observation → BookState
after_discovery b o = discovered_over b o (instance_at b o.no)

-- the change of the kept rows: none if the instance stays equal
abbrev pub renewal : Instance → Instance → Option Change
renewal kept now = if same_instance kept now then None else Some (change.Put (row.Instance now))

abbrev pub store_change : Option Instance → Observation → Option Change
store_change None o = None
store_change (Some kept) o = if nat_lt o.read kept.read then None else renewal kept (renewed kept o)

-- an instance that the book lacks is put; for one that it has the rule of stored readings holds
abbrev pub discovery_change : Option Instance → Observation → Seen → Option Change
discovery_change None o seen = Some (change.Put (row.Instance (first_seen o seen)))
discovery_change (Some kept) o seen = store_change (Some kept) o

-- with one more bridge
abbrev pub after_bridge : BookState → Bridge → BookState
after_bridge b x = record b { rings = ringed b.rings x.no (Some x) }

-- the job that has a server's lease
abbrev pub lease_at : BookState → ServerNo → Option ℕ
lease_at b n = slice_index_or b.leases n.0 None

abbrev pub lease_result : Option LeaseFault → Result Unit LeaseFault
lease_result None = Ok tt
lease_result (Some fault) = Err fault

-- the end of a downtime that still lasts
abbrev pub end_after : ℕ → Option Downtime → Option Moment
end_after now None = None
end_after now (Some d) = if nat_lt now d.until.0 then Some d.until else None

abbrev pub downtime_at : BookState → ServerNo → Moment → Option Moment
downtime_at b n now = end_after now.0 (slice_index_or b.downtimes n.0 None)

-- the rule of a registration that still lasts
abbrev pub rule_after : ℕ → Option Candidate → Rule
rule_after now None = rule.Neutral
rule_after now (Some c) = if nat_lt now c.until.0 then c.rule else rule.Neutral

abbrev pub rule_at : BookState → ServerNo → Moment → Rule
rule_at b n now = rule_after now.0 (slice_index_or b.candidates n.0 None)

-- the kept rows of a book
abbrev pub book_rows : BookState → List Row
book_rows b = filter_map (option_map row.Instance) b.instances
    ++ (filter_map (option_map row.Downtime) b.downtimes
    ++ (filter_map (option_map row.Candidate) b.candidates
    ++ option_to_list (option_map row.Switch b.switch)))

-- what is at a place has the place's number
abbrev pub IsNumbered : {A : Type 0} → (A → ServerNo) → ℕ → List (Option A) → Type 0
IsNumbered no_of from [] = ⊤
IsNumbered no_of from (x ∷ xs) = IfSome x (λ a. (no_of a).0 ≡ from) × IsNumbered no_of (from + 1) xs

abbrev pub HasKnownSource : ℕ → Option Instance → Type 0
HasKnownSource count x = IfSome x (λ i. are_known count (source_servers i.seen.source) ≡ true)

-- the names are those of the settings, every server has its places, and every source is known
pub record IsBook (b : BookState) : Type 0 where
  pub small : length b.names < 2 ^ 32
  pub named : b.names ≡ names_of b.settings
  pub instances : length b.instances ≡ length b.names
  pub downtimes : length b.downtimes ≡ length b.names
  pub candidates : length b.candidates ≡ length b.names
  pub rings : length b.rings ≡ length b.names
  pub leases : length b.leases ≡ length b.names
  pub instance_numbers : IsNumbered (λ i. i.no) 0 b.instances
  pub downtime_numbers : IsNumbered (λ d. d.no) 0 b.downtimes
  pub candidate_numbers : IsNumbered (λ c. c.no) 0 b.candidates
  pub sources : All (HasKnownSource (length b.names)) b.instances
