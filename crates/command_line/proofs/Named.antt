-- What an accepted command line has.
use Rattle.command_line.proofs.Prelude.{AreTaken, BadWords, Counts, Dump, Generate, Instances, IsDrawn, Live, Own, Places, Row, Run, Text, Texts}
use Rattle.command_line.proofs.Prelude.{Usage, and_parts as both_true, bounded_in, command_in, counts_in, drawing_by, dump_in, duration_in, first_of, has_flag}
use Rattle.command_line.proofs.Prelude.{has_needed, instances_in, is_drawable, is_given, is_pattern, is_plan_word, is_taken_word, is_within_bound}
use Rattle.command_line.proofs.Prelude.{leb-true, maybe, may_dump, name_in, needs_at, number_and_unit, number_at, number_in, number_within}
use Rattle.command_line.proofs.Prelude.{or_bad as or_bad_value, or_default, own_at, pattern_in, places_in, places_of, plan_in, rows_of_texts, rule_in}
use Rattle.command_line.proofs.Prelude.{seconds_at, text_in, text_within, texts_in, texts_of, within}
use Rattle.command_line.proofs.Prelude.Usages.{or_bad}
use Rattle.std.proofs.Common.{◌≡◌, ◌∙◌, ℕ, ◌≤◌, arith, Bool, true, false, List, length, Option, Some, None, Result, Ok, Err, refl, sym, ap, subst, cond, ◌&&◌, ◌||◌, ◌-◌, ◌^◌, codes, is_some, nat_le, not, IfSome, option_map, ◌*◌}
use Rattle.orch_base.specs.Gives.{◌>>=◌}
use Rattle.commands.proofs.Numbers.{in_range}

abbrev Same : {A : Type 0} → Result A Usage → Result A Usage → Type 0
Same r s = r ≡ s

same_ok : {A : Type 0} (x y : A) → Same (Ok x) (Ok y) → x ≡ y
same_ok x y e = cc

bind_ok : {A B : Type 0} (r : Result A Usage) (f : A → Result B Usage) (y : B) → Same (r >>= f) (Ok y) → (x : A) × (r ≡ Ok x) × (f x ≡ Ok y)
bind_ok (Ok x) f y e = (x, refl, e)
bind_ok (Err u) f y e = cc

-- ---- one option

-- what is read if it is given has what each that is read has
has_read : {A : Type 0} (P : A → Type 0) (read : List ℕ → Result A Usage) (o : Option Text) (x : Option A) → ((text : Text) (y : A) → read text ≡ Ok y → P y) → maybe read o ≡ Ok x → IfSome x P
has_read P read None x has e = subst (λ o. IfSome o P) (same_ok None x e) tt
has_read P read (Some text) x has e =
    let y = bind_ok (read text) _ x e in
    subst (λ o. IfSome o P) (same_ok (Some y.0) x y.2) (has text y.0 y.1)

-- it is there if it is given
read_there : {A : Type 0} (read : List ℕ → Result A Usage) (o : Option Text) (x : Option A) → maybe read o ≡ Ok x → is_some x ≡ is_some o
read_there read None x e = ap is_some (sym (same_ok None x e))
read_there read (Some text) x e =
    let y = bind_ok (read text) _ x e in
    ap is_some (sym (same_ok (Some y.0) x y.2))

read_some : {A : Type 0} (o : Option A) (x : A) → or_bad_value o ≡ Ok x → o ≡ Some x
read_some None x e = cc
read_some (Some y) x e = ap Some (same_ok y x e)

duration_has : (text : Text) (n : ℕ) → duration_in text ≡ Ok n → (1 ≤ n) × (n ≤ 31536000)
duration_has text n e =
    let parts = number_and_unit text in
    in_range 1 31536000 n (option_map (λ (k : ℕ). k * parts.1) (number_at parts.0)) (read_some (seconds_at text) n e)

within_has : (most : ℕ) (text t : Text) → text_within most text ≡ Ok t → length t ≤ most
within_has most text t e = go (nat_le (length text) most) refl e
  where
    go : (b : Bool) → nat_le (length text) most ≡ b → cond {A = Result Text Usage} b (Ok text) (Err BadWords) ≡ Ok t → length t ≤ most
    go true is e = subst (λ (u : Text). length u ≤ most) (same_ok text t e) (leb-true (length text) most is)
    go false is e = cc

pattern_has : (text t : Text) → pattern_in text ≡ Ok t → is_pattern t ≡ true
pattern_has text t e = go (is_pattern text) refl e
  where
    go : (b : Bool) → is_pattern text ≡ b → cond {A = Result Text Usage} b (Ok text) (Err BadWords) ≡ Ok t → is_pattern t ≡ true
    go true is e = subst (λ (u : Text). is_pattern u ≡ true) (same_ok text t e) is
    go false is e = cc

-- ---- the command

-- the command is taken, and has what it needs
record IsGiven (rows : List Row) (command : Text) : Type 0 where
  word : is_taken_word command ≡ true
  there : has_needed (needs_at command) rows ≡ true

given : (rows : List Row) (command : Text) → command_in rows ≡ Ok command → IsGiven rows command
unfolding command_in
given rows command e =
    let text = bind_ok (or_bad (first_of (codes "c") rows)) _ command e in
    go text.0 (is_taken_word text.0 && has_needed (needs_at text.0) rows) refl text.2
  where
    go : (text : Text) (b : Bool) → (is_taken_word text && has_needed (needs_at text) rows) ≡ b → cond {A = Result Text Usage} b (Ok text) (Err BadWords) ≡ Ok command → IsGiven rows command
    go text true is e =
        let parts = both_true (is_taken_word text) (has_needed (needs_at text) rows) is in
        subst (IsGiven rows) (same_ok text command e) (record { word = parts.0; there = parts.1 })
    go text false is e = cc

-- ---- all options

-- which of them are there
record AreRead (rows : List Row) (t : Instances) : Type 0 where
  i : is_some t.i ≡ is_given (codes "i") rows
  d : is_some t.d ≡ is_given (codes "d") rows
  rule : is_some t.rule ≡ is_given (codes "promotion-rule") rows
  duration : IfSome t.duration (λ n. (1 ≤ n) × (n ≤ 31536000))

instances_have : (rows : List Row) (t : Instances) → instances_in rows ≡ Ok t → AreRead rows t
unfolding instances_in
instances_have rows t e =
    let i = bind_ok (maybe name_in (first_of (codes "i") rows)) _ t e in
    let d = bind_ok (maybe name_in (first_of (codes "d") rows)) _ t i.2 in
    let rule = bind_ok (maybe rule_in (first_of (codes "promotion-rule") rows)) _ t d.2 in
    let duration = bind_ok (maybe duration_in (first_of (codes "duration") rows)) _ t rule.2 in
    subst (AreRead rows) (same_ok (record { i = i.0; d = d.0; rule = rule.0; duration = duration.0 }) t duration.2) (record {
      i = read_there name_in (first_of (codes "i") rows) i.0 i.1;
      d = read_there name_in (first_of (codes "d") rows) d.0 d.1;
      rule = read_there rule_in (first_of (codes "promotion-rule") rows) rule.0 rule.1;
      duration = has_read (λ n. (1 ≤ n) × (n ≤ 31536000)) duration_in (first_of (codes "duration") rows) duration.0 duration_has duration.1;
    })

record AreTexts (rows : List Row) (t : Texts) : Type 0 where
  reason : IfSome t.reason (λ text. length text ≤ 255)
  owner : IfSome t.owner (λ text. length text ≤ 255)
  pattern : IfSome t.pattern (λ text. is_pattern text ≡ true)
  there : is_some t.pattern ≡ is_given (codes "pattern") rows

texts_have : (rows : List Row) (t : Texts) → texts_in rows ≡ Ok t → AreTexts rows t
unfolding texts_in
texts_have rows t e =
    let scenario = bind_ok (maybe text_in (first_of (codes "scenario") rows)) _ t e in
    let db = bind_ok (maybe text_in (first_of (codes "db") rows)) _ t scenario.2 in
    let reason = bind_ok (maybe (text_within 255) (first_of (codes "reason") rows)) _ t db.2 in
    let owner = bind_ok (maybe (text_within 255) (first_of (codes "owner") rows)) _ t reason.2 in
    let pattern = bind_ok (maybe pattern_in (first_of (codes "pattern") rows)) _ t owner.2 in
    subst (AreTexts rows) (same_ok (record { scenario = scenario.0; db = db.0; reason = reason.0; owner = owner.0; pattern = pattern.0 }) t pattern.2) (record {
      reason = has_read (λ text. length text ≤ 255) (text_within 255) (first_of (codes "reason") rows) reason.0 (within_has 255) reason.1;
      owner = has_read (λ text. length text ≤ 255) (text_within 255) (first_of (codes "owner") rows) owner.0 (within_has 255) owner.1;
      pattern = has_read (λ text. is_pattern text ≡ true) pattern_in (first_of (codes "pattern") rows) pattern.0 pattern_has pattern.1;
      there = read_there pattern_in (first_of (codes "pattern") rows) pattern.0 pattern.1;
    })

-- ---- what is to be drawn

number_has : (low high n : ℕ) (text : Text) → number_in low high text ≡ Ok n → (low ≤ n) × (n ≤ high)
number_has low high n text e = in_range low high n (number_at text) (read_some (number_within low high text) n e)

default_has : (low high default n : ℕ) (o : Option Text) → low ≤ default → default ≤ high → or_default default (number_in low high) o ≡ Ok n → (low ≤ n) × (n ≤ high)
default_has low high default n None above below e = subst (λ (k : ℕ). (low ≤ k) × (k ≤ high)) (same_ok default n e) (above, below)
default_has low high default n (Some text) above below e = number_has low high n text e

-- there is some server, some poller and some worker
record AreCounts (c : Counts) : Type 0 where
  servers : 1 ≤ c.servers
  pollers : (1 ≤ c.pollers) × (c.pollers ≤ 16)
  workers : (1 ≤ c.workers) × (c.workers ≤ 16)

counts_have : (rows : List Row) (c : Counts) → counts_in rows ≡ Ok c → AreCounts c
unfolding counts_in
counts_have rows c e =
    let pollers = bind_ok (or_default 2 (number_in 1 16) (first_of (codes "pollers") rows)) _ c e in
    let workers = bind_ok (or_default 2 (number_in 1 16) (first_of (codes "workers") rows)) _ c pollers.2 in
    let wait = bind_ok (or_default 1000 (number_in 1 10000) (first_of (codes "wait") rows)) _ c workers.2 in
    let seed = bind_ok (or_default 1 (number_in 0 (2 ^ 64 - 1)) (first_of (codes "seed") rows)) _ c wait.2 in
    let servers = bind_ok (or_default 10 (number_in 1 1000) (first_of (codes "servers") rows)) _ c seed.2 in
    let turns = bind_ok (or_default 100 (number_in 0 1000000) (first_of (codes "turns") rows)) _ c servers.2 in
    let is : AreCounts (record { pollers = pollers.0; workers = workers.0; wait = wait.0; seed = seed.0; servers = servers.0; turns = turns.0 }) =
    record {
      servers = (default_has 1 1000 10 servers.0 (first_of (codes "servers") rows) (omega arith) (omega arith) servers.1).0;
      pollers = default_has 1 16 2 pollers.0 (first_of (codes "pollers") rows) (omega arith) (omega arith) pollers.1;
      workers = default_has 1 16 2 workers.0 (first_of (codes "workers") rows) (omega arith) (omega arith) workers.1;
    } in
    subst AreCounts (same_ok (record { pollers = pollers.0; workers = workers.0; wait = wait.0; seed = seed.0; servers = servers.0; turns = turns.0 }) c turns.2) is

bounded : (command : Text) (rows : List Row) (c : Counts) → bounded_in command rows ≡ Ok c → AreCounts c × (is_within_bound (own_at command) c ≡ true)
unfolding bounded_in
bounded command rows c e =
    let counts = bind_ok (counts_in rows) _ c e in
    go counts.0 (is_within_bound (own_at command) counts.0) refl (counts_have rows counts.0 counts.1) counts.2
  where
    go : (d : Counts) (b : Bool) → is_within_bound (own_at command) d ≡ b → AreCounts d → cond {A = Result Counts Usage} b (Ok d) (Err BadWords) ≡ Ok c → AreCounts c × (is_within_bound (own_at command) c ≡ true)
    go d true is some e = subst (λ (k : Counts). AreCounts k × (is_within_bound (own_at command) k ≡ true)) (same_ok d c e) (some, is)
    go d false is some e = cc

drawing_has : (own : Option Own) (p : Places) (c : Counts) → p.servers ≡ c.servers → p.turns ≡ c.turns → 1 ≤ c.servers → is_within_bound own c ≡ true → IfSome (drawing_by own p) IsDrawn
drawing_has None p c servers turns some within = tt
drawing_has (Some Run) p c servers turns some within = tt
drawing_has (Some Dump) p c servers turns some within = tt
drawing_has (Some Live) p c servers turns some within = tt
drawing_has (Some Generate) p c servers turns some within = record { servers = subst (λ (n : ℕ). 1 ≤ n) (sym servers) some; bound = ap (λ (n : ℕ). is_drawable n p.turns) servers ∙ (ap (λ (n : ℕ). is_drawable c.servers n) turns ∙ within) }

-- ---- plans

plan_has : (word : Text) (asked plan : Bool) → plan_in word asked ≡ Ok plan → plan ≡ true → is_plan_word word ≡ true
plan_has word false plan e is = cc
plan_has word true plan e is = go (is_plan_word word) refl e
  where
    go : (b : Bool) → is_plan_word word ≡ b → cond {A = Result Bool Usage} b (Ok true) (Err BadWords) ≡ Ok plan → is_plan_word word ≡ true
    go true planned e = planned
    go false planned e = cc

-- ---- the servers after a command

dump_has : (word : Text) (plan tables asked dump : Bool) → dump_in word plan tables asked ≡ Ok dump → dump ≡ true → may_dump word plan tables ≡ true
dump_has word plan tables false dump e is = cc
dump_has word plan tables true dump e is = go (may_dump word plan tables) refl e
  where
    go : (b : Bool) → may_dump word plan tables ≡ b → cond {A = Result Bool Usage} b (Ok true) (Err BadWords) ≡ Ok dump → may_dump word plan tables ≡ true
    go true may e = may
    go false may e = cc

-- ---- all of them

places_have : (rows : List Row) (p : Places) → places_in rows ≡ Ok p → AreTaken p
unfolding places_in
places_have rows p e =
    let command = bind_ok (command_in rows) _ p e in
    let instances = bind_ok (instances_in rows) _ p command.2 in
    let texts = bind_ok (texts_in rows) _ p instances.2 in
    let counts = bind_ok (bounded_in command.0 rows) _ p texts.2 in
    let plan = bind_ok (plan_in command.0 (has_flag (codes "plan") rows)) _ p counts.2 in
    let dump = bind_ok (dump_in command.0 plan.0 (has_flag (codes "tables") rows) (has_flag (codes "dump") rows)) _ p plan.2 in
    let drawn = bounded command.0 rows counts.0 counts.1 in
    let named = given rows command.0 command.1 in
    let read = instances_have rows instances.0 instances.1 in
    let told = texts_have rows texts.0 texts.1 in
    let needs = needs_at command.0 in
    let there : ((is_some instances.0.i || not needs.i) && (is_some instances.0.d || not needs.d) && (is_some instances.0.rule || not needs.rule) && (is_some texts.0.pattern || not needs.pattern)) ≡ true =
    rw (read.i, read.d, read.rule, told.there) named.there in
    subst AreTaken (same_ok _ p dump.2) (record {
      word = named.word;
      needs = there;
      duration = read.duration;
      reason = told.reason;
      owner = told.owner;
      pattern = told.pattern;
      pollers = drawn.0.pollers;
      workers = drawn.0.workers;
      drawn = drawing_has (own_at command.0) _ counts.0 refl refl drawn.0.servers drawn.1;
      plan = plan_has command.0 (has_flag (codes "plan") rows) plan.0 plan.1;
      dump = dump_has command.0 plan.0 (has_flag (codes "tables") rows) (has_flag (codes "dump") rows) dump.0 dump.1;
    })

pub taken_have : (words : List (List ℕ)) (p : Places) → places_of words ≡ Ok p → AreTaken p
unfolding places_of
taken_have words p e =
    let texts = bind_ok (texts_of words) _ p e in
    let rows = bind_ok (rows_of_texts texts.0) _ p texts.2 in
    places_have rows.0 p rows.2
