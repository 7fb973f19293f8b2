-- What an accepted command line asks has a turn over the servers.
use Rattle.scenario_turns.proofs.Sound.{above}
use Rattle.std.proofs.Common.{◌≡◌, ◌∙◌, ℕ, ◌+◌, ◌<◌, ◌≤◌, Bool, true, false, List, [], ◌∷◌, length, Option, Some, None, Ok, Err, refl, sym, ap, subst, arith, map, cond}
use Rattle.std.specs.Prelude.{IfSome, MatchOption, ⊤, ◌&&◌, ◌||◌, not, is_some, option_map}
use Rattle.tasks.proofs.Prelude.{AreTaken, AskOfRead, BadPattern, CommandName, Fault, Found, HostPort, IsAsked, IsCommand, IsTaken, Own, Places}
use Rattle.tasks.proofs.Prelude.{ReadFault, ServerNo, are_there, asked_about, asked_at, asked_named, asked_of, asked_turn, bind-ok, drawing_by}
use Rattle.tasks.proofs.Prelude.{fault_of, found_in, found_of, holds, is_found, is_pattern, is_there, is_within, length-map, name_of}
use Rattle.tasks.proofs.Prelude.{needed-used, needs_at, needs_of, nothing, option_map_or, own_at, pattern_for, printed, same_name, same_Ok, same_Some}
use Rattle.tasks.proofs.Prelude.{server_from, server_given, server_of, taken_have, turn_for, used, uses_of}
use Rattle.tasks.proofs.Prelude.asked
use Rattle.tasks.proofs.Prelude.own
use Rattle.tasks.proofs.Prelude.reading

both_true : (a b : Bool) → (a && b) ≡ true → (a ≡ true) × (b ≡ true)
both_true true b e = (refl, e)
both_true false b e = absurd cc

or_not : (has needed : Bool) → (has || not needed) ≡ true → needed ≡ true → has ≡ true
or_not true needed e h = refl
or_not false true e h = e
or_not false false e h = h

-- ---- what a command finds in the arguments

-- a pattern of an accepted command line reads
pub pattern_reads : (p : Places) → IsTaken p → IfSome p.pattern (λ text. is_pattern text ≡ true)
pattern_reads p taken = (taken_have taken.0 p taken.1).pattern

-- what the command needs is given
record GivesNeeded (p : Places) (c : CommandName) : Type 0 where
  i : (needs_of c).i ≡ true → is_some p.i ≡ true
  d : (needs_of c).d ≡ true → is_some p.d ≡ true
  rule : (needs_of c).rule ≡ true → is_some p.rule ≡ true
  pattern : (needs_of c).pattern ≡ true → is_some p.pattern ≡ true

needed_given : (p : Places) (c : CommandName) → are_there (needs_of c) p ≡ true → GivesNeeded p c
needed_given p c all =
    let i = is_some p.i || not (needs_of c).i in
    let d = is_some p.d || not (needs_of c).d in
    let rule = is_some p.rule || not (needs_of c).rule in
    let pattern = is_some p.pattern || not (needs_of c).pattern in
    let last = both_true (i && d && rule) pattern all in
    let three = both_true (i && d) rule last.0 in
    let two = both_true i d three.0 in
    record {
      i = or_not (is_some p.i) (needs_of c).i two.0;
      d = or_not (is_some p.d) (needs_of c).d two.1;
      rule = or_not (is_some p.rule) (needs_of c).rule three.1;
      pattern = or_not (is_some p.pattern) (needs_of c).pattern last.1;
    }

-- ---- the turn

all_true : (a b c d e f : Bool) → a ≡ true → b ≡ true → c ≡ true → d ≡ true → e ≡ true → f ≡ true → ((a && b && c && d) && e && f) ≡ true
all_true a b c d e f ha hb hc hd he hf = rw (ha, hb, hc, hd, he, hf) refl

within-from : (host : HostPort) (n : ℕ) (names : List HostPort) (i : ServerNo) → server_from host n names ≡ Some i → i.0 < n + length names
within-from host n [] i e = cc
within-from host n (other ∷ others) i e = go (same_name other host) (within-from host (n + 1) others i) e
  where
    go : (same : Bool) → (server_from host (n + 1) others ≡ Some i → i.0 < n + 1 + length others) → cond same (Some (record { 0 = n })) (server_from host (n + 1) others) ≡ Some i → i.0 < n + length (other ∷ others)
    go true later e = let is : n ≡ i.0 = ap (λ (k : ServerNo). k.0) (same_Some (record { 0 = n }) i e) in omega (arith, is)
    go false later e = let less : i.0 < n + 1 + length others = later e in omega (arith, less)

server-within : (names : List HostPort) (host : HostPort) (i : ServerNo) → server_of names host ≡ Some i → is_within (length names) (Some i) ≡ true
server-within names host i e =
    let less : i.0 < 0 + length names = within-from host 0 names i e in
    above i.0 (length names) (omega (arith, less))

-- a server that is given is one of the servers
given-within : (names : List HostPort) (o : Option HostPort) (i : Option ServerNo) → server_given names o ≡ Some i → is_within (length names) i ≡ true
given-within names None i e = subst (λ (j : Option ServerNo). is_within (length names) j ≡ true) (same_Some None i e) refl
given-within names (Some host) i e = go (server_of names host) refl e
  where
    go : (found : Option ServerNo) → server_of names host ≡ found → option_map (λ (n : ServerNo). Some n) found ≡ Some i → is_within (length names) i ≡ true
    go None is e = absurd cc
    go (Some n) is e = subst (λ (j : Option ServerNo). is_within (length names) j ≡ true) (same_Some (Some n) i e) (server-within names host n is)

-- and if one is given there is one
given-there : (names : List HostPort) (o : Option HostPort) (i : Option ServerNo) → is_some o ≡ true → server_given names o ≡ Some i → is_some i ≡ true
given-there names None i there e = absurd cc
given-there names (Some host) i there e = go (server_of names host) e
  where
    go : (found : Option ServerNo) → option_map (λ (n : ServerNo). Some n) found ≡ Some i → is_some i ≡ true
    go None e = absurd cc
    go (Some n) e = subst (λ (j : Option ServerNo). is_some j ≡ true) (same_Some (Some n) i e) refl

there : {A : Type 0} (needed : Bool) (o : Option A) → (needed ≡ true → is_some o ≡ true) → is_there needed o ≡ true
there true (Some x) has = refl
there true None has = has refl
there false (Some x) has = refl
there false None has = refl

used-there : {A : Type 0} (uses : Bool) (o : Option A) → uses ≡ true → is_some o ≡ true → is_some (used uses o) ≡ true
used-there true o is has = has
used-there false o is has = absurd cc

used-has : {A : Type 0} (P : A → Type 0) (uses : Bool) (o : Option A) → IfSome o P → IfSome (used uses o) P
used-has P true o has = has
used-has P false o has = tt

pattern-there : (names : List HostPort) (o : Option (List ℕ)) → is_some o ≡ true → is_some (pattern_for names o) ≡ true
pattern-there names None has = has
pattern-there names (Some text) has = refl

answers-all : (names : List HostPort) (o : Option (List ℕ)) → IfSome (pattern_for names o) (λ f. length f.answers ≡ length names)
answers-all names None = tt
answers-all names (Some text) = length-map (map printed names) (is_found text) ∙ length-map names printed

-- each key that is needed is used
record Covers (c : CommandName) : Type 0 where
  i : (needs_of c).i ≡ true → (uses_of c).i ≡ true
  d : (needs_of c).d ≡ true → (uses_of c).d ≡ true
  rule : (needs_of c).rule ≡ true → (uses_of c).rule ≡ true
  pattern : (needs_of c).pattern ≡ true → (uses_of c).pattern ≡ true

covers-each : (c : CommandName) → Covers c
covers-each c =
    let all = needed-used c in
    let last = both_true (((uses_of c).i || not (needs_of c).i) && ((uses_of c).d || not (needs_of c).d) && ((uses_of c).rule || not (needs_of c).rule)) ((uses_of c).pattern || not (needs_of c).pattern) all in
    let three = both_true (((uses_of c).i || not (needs_of c).i) && ((uses_of c).d || not (needs_of c).d)) ((uses_of c).rule || not (needs_of c).rule) last.0 in
    let two = both_true ((uses_of c).i || not (needs_of c).i) ((uses_of c).d || not (needs_of c).d) three.0 in
    record {
      i = or_not (uses_of c).i (needs_of c).i two.0;
      d = or_not (uses_of c).d (needs_of c).d two.1;
      rule = or_not (uses_of c).rule (needs_of c).rule three.1;
      pattern = or_not (uses_of c).pattern (needs_of c).pattern last.1;
    }

module _ (p : Places) (names : List HostPort) (c : CommandName) (words : AreTaken p) (has : GivesNeeded p c) where
  is_turn : (i d : Option ServerNo) → server_given names (used (uses_of c).i p.i) ≡ Some i → server_given names (used (uses_of c).d p.d) ≡ Some d → IsCommand (length names) (turn_for p names c i d)
  is_turn i d at_i at_d =
      let covered = covers-each c in
      record {
        fits = all_true _ _ _ _ _ _
            (there (needs_of c).i i (λ needed. given-there names (used (uses_of c).i p.i) i (used-there (uses_of c).i p.i (covered.i needed) (has.i needed)) at_i))
            (there (needs_of c).d d (λ needed. given-there names (used (uses_of c).d p.d) d (used-there (uses_of c).d p.d (covered.d needed) (has.d needed)) at_d))
            (there (needs_of c).rule (used (uses_of c).rule p.rule) (λ needed. used-there (uses_of c).rule p.rule (covered.rule needed) (has.rule needed)))
            (there (needs_of c).pattern (pattern_for names (used (uses_of c).pattern p.pattern))
            (λ needed. pattern-there names (used (uses_of c).pattern p.pattern) (used-there (uses_of c).pattern p.pattern (covered.pattern needed) (has.pattern needed))))
            (given-within names (used (uses_of c).i p.i) i at_i) (given-within names (used (uses_of c).d p.d) d at_d);
        duration = used-has (λ n. (1 ≤ n) × (n ≤ 31536000)) (uses_of c).duration p.duration words.duration;
        reason = used-has (λ text. length text ≤ 255) (uses_of c).reason p.reason words.reason;
        owner = used-has (λ text. length text ≤ 255) (uses_of c).owner p.owner words.owner;
        answers = answers-all names (used (uses_of c).pattern p.pattern);
      }

  is_asked_about : (i d : Option (Option ServerNo)) → server_given names (used (uses_of c).i p.i) ≡ i → server_given names (used (uses_of c).d p.d) ≡ d → IsAsked (length names) (asked_about p names c i d)
  is_asked_about None d at_i at_d = tt
  is_asked_about (Some i) None at_i at_d = tt
  is_asked_about (Some i) (Some d) at_i at_d = go p.plan (is_turn i d at_i at_d)
    where
      go : (plan : Bool) → IsCommand (length names) (turn_for p names c i d) → IsAsked (length names) (asked_turn plan (turn_for p names c i d))
      go false is = is
      go true is = is

is_asked_named : (p : Places) (names : List HostPort) (o : Option CommandName) → AreTaken p → is_some o ≡ true → are_there (option_map_or needs_of o nothing) p ≡ true → IsAsked (length names) (asked_named p names o)
is_asked_named p names None words named there = cc
is_asked_named p names (Some c) words named there = is_asked_about p names c words (needed_given p c there) _ _ refl refl

is_asked_at : (p : Places) (names : List HostPort) (o : Option Own) → AreTaken p → (is_some o || is_some (name_of p.command)) ≡ true → drawing_by o p ≡ None → IsAsked (length names) (asked_at p names o)
unfolding needs_at
is_asked_at p names None words named read = is_asked_named p names (name_of p.command) words named words.needs
is_asked_at p names (Some own.Run) words named read = go p.summary
  where
    go : (summary : Bool) → IsAsked (length names) (cond summary asked.Summary asked.Run)
    go true = tt
    go false = tt
is_asked_at p names (Some own.Generate) words named read = absurd cc
is_asked_at p names (Some own.Dump) words named read = tt
is_asked_at p names (Some own.Live) words named read = tt

pub asked_is : (p : Places) (names : List HostPort) → IsTaken p → AskOfRead p → IsAsked (length names) (asked_of p names)
unfolding asked_of
asked_is p names taken read =
    let words = taken_have taken.0 p taken.1 in
    is_asked_at p names (own_at p.command) words words.word read

-- ---- the pattern

-- what is found is the pattern with its answers
pub pattern_told : (names : List HostPort) (uses : Bool) (given : Option (List ℕ)) (t u : List ℕ) (texts ps : List (List ℕ)) (f : Found) → uses ≡ true → given ≡ Some t → u ≡ t → ps ≡ texts → texts ≡ map printed names → found_in ps u ≡ Ok f
    → Some f ≡ pattern_for names (used uses given)
unfolding found_in
pattern_told names uses given t u texts ps f is_used there same held printed_is found =
    let good = bind-ok (holds BadPattern (is_pattern u)) _ f found in
    let is : found_of u ps ≡ f = same_Ok (found_of u ps) f good.2 in
    let at : found_of t (map printed names) ≡ f = sym (ap (λ (v : List ℕ). found_of v (map printed names)) same) ∙ (sym (ap (found_of u) (held ∙ printed_is)) ∙ is) in
    rw (is_used, there) (ap Some (sym at))

-- a pattern that reads has no fault
pub pattern_good : (given : Option (List ℕ)) (t u : List ℕ) (ps : List (List ℕ)) (e : ReadFault) (fault : Fault) → IfSome given (λ text. is_pattern text ≡ true) → given ≡ Some t → u ≡ t → e ≡ reading.Fault fault
    → MatchOption (fault_of e) ⊤ (λ f. found_in ps u ≡ Err f) → ⊥
unfolding found_in
pattern_good given t u ps e fault reads there same is told =
    let at : found_in ps u ≡ Err fault = subst (λ (x : ReadFault). MatchOption (fault_of x) ⊤ (λ f. found_in ps u ≡ Err f)) is told in
    let good : is_pattern t ≡ true = subst (λ (o : Option (List ℕ)). IfSome o (λ text. is_pattern text ≡ true)) there reads in
    let here : is_pattern u ≡ true = subst (λ (v : List ℕ). is_pattern v ≡ true) (sym same) good in
    absurd (refused (is_pattern u) here at)
  where
    refused : (b : Bool) → b ≡ true → (Rattle.orch_core.specs.OrchBase.Gives.◌>>=◌ (holds BadPattern b) (λ _. Ok (found_of u ps))) ≡ Err fault → ⊥
    refused true is e = absurd cc
    refused false is e = absurd cc
