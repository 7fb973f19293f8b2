-- Written commands read.
use Rattle.std.proofs.Common.{◌≡◌, ◌∙◌, ◌≤◌, ℕ, Bool, true, List, Option, Some, None, Ok, length, refl, sym, ap, arith, ◌&&◌, IfSome, codes, decimal, nat_le, option_map}
use Rattle.read_back_laws.proofs.Prelude.{CommandTurn, Data, Found, HostPort, IsKnown, IsTold, Members, NamesRead, Rule, ServerNo, command_in, command_keys}
use Rattle.read_back_laws.proofs.Prelude.{duration_in, found_in, get_member, given_data, given_in, given_members, has_needed, instances_in, is_there, is_within}
use Rattle.read_back_laws.proofs.Prelude.{item, le-leb, ltb-true, maybe_in, name_data, name_of-word_of, needs_of, no_items, no_members, only_keys, pattern_in}
use Rattle.read_back_laws.proofs.Prelude.{rule_at, rule_in, rule_text, server_named, short_in, string, with_given, word_of}
use Rattle.scenario_reader.specs.ScenarioTurns.Commands.{keys_in, name_in}
use Rattle.read_back_laws.proofs.Prelude.rule
use Rattle.read_back_laws.proofs.Durations.{seconds-read}
use Rattle.read_back_laws.proofs.Members.{apart, get-given, get-other, keys-given}

three : (a b c : Bool) → (a && b && c) ≡ true → (a ≡ true) × (b ≡ true) × (c ≡ true)
three true true true e = (refl, refl, refl)
three _ _ _ e = absurd cc

four : (a b c d : Bool) → (a && b && c && d) ≡ true → (a ≡ true) × (b ≡ true) × (c ≡ true) × (d ≡ true)
four true true true true e = (refl, refl, refl, refl)
four _ _ _ _ e = absurd cc

-- ---- single values

rule-reads : (r : Rule) → rule_in (string (rule_text r)) ≡ Ok r
unfolding rule_in rule_at
rule-reads rule.Prefer = refl
rule-reads _ = refl

rules-read : (o : Option Rule) → maybe_in (codes "rule") rule_in (option_map (λ r. string (rule_text r)) o) ≡ Ok o
rules-read None = refl
rules-read (Some r) = rw (rule-reads r) refl

texts-read : (key : List ℕ) (o : Option (List ℕ)) → IfSome o (λ text. length text ≤ 255) → maybe_in key short_in (option_map string o) ≡ Ok o
unfolding short_in
texts-read key None short = refl
texts-read key (Some text) short =
    let low : nat_le 0 (length text) ≡ true = le-leb 0 (length text) (omega arith) in
    let high : nat_le (length text) 255 ≡ true = le-leb (length text) 255 short in
    rw (low, high) refl

durations-read : (o : Option ℕ) → IfSome o (λ n. (1 ≤ n) × (n ≤ 31536000)) → maybe_in (codes "duration") duration_in (option_map (λ n. string (decimal n)) o) ≡ Ok o
unfolding duration_in
durations-read None range = refl
durations-read (Some n) range = rw (seconds-read n range.0 range.1) refl

patterns-read : (printed : List (List ℕ)) (o : Option Found) → IfSome o (λ f. IsKnown f.text f.answers printed) → maybe_in (codes "pattern") (pattern_in printed) (option_map (λ f. string f.text) o) ≡ Ok o
unfolding pattern_in found_in
patterns-read printed None known = refl
patterns-read printed (Some f) known = rw known.reads (ap (λ (answers : List Bool). Ok (Some (record { text = f.text; answers = answers }))) (sym known.told))

servers-read : (listed : List (Option HostPort)) (names : List HostPort) → NamesRead listed names → (key : List ℕ) (o : Option ServerNo) → is_within (length names) o ≡ true → maybe_in key (server_named listed) (option_map (name_data names) o) ≡ Ok o
servers-read listed names read key None within = refl
servers-read listed names read key (Some n) within = rw (read n (ltb-true n.0 (length names) within)) refl

-- ---- what is at each key

module _ (names : List HostPort) (t : CommandTurn) where
  abbrev o-d : Option Data
  o-d = option_map (name_data names) t.command.d

  abbrev o-duration : Option Data
  o-duration = option_map (λ n. string (decimal n)) t.keys.duration

  abbrev o-i : Option Data
  o-i = option_map (name_data names) t.command.i

  abbrev o-owner : Option Data
  o-owner = option_map string t.keys.owner

  abbrev o-pattern : Option Data
  o-pattern = option_map (λ f. string f.text) t.keys.pattern

  abbrev o-reason : Option Data
  o-reason = option_map string t.keys.reason

  abbrev o-rule : Option Data
  o-rule = option_map (λ r. string (rule_text r)) t.keys.rule

  abbrev m1 : Members
  m1 = with_given (codes "d") o-d no_members

  abbrev m2 : Members
  m2 = with_given (codes "duration") o-duration m1

  abbrev m3 : Members
  m3 = with_given (codes "i") o-i m2

  abbrev m4 : Members
  m4 = with_given (codes "owner") o-owner m3

  abbrev m5 : Members
  m5 = with_given (codes "pattern") o-pattern m4

  abbrev m6 : Members
  m6 = with_given (codes "reason") o-reason m5

  -- a key that none of the members up to here has
  in1 : (q : List ℕ) → (q ≡ codes "d" → ⊥) → get_member q m1 ≡ None
  in1 q h = get-other q (codes "d") o-d no_members h

  in2 : (q : List ℕ) → (q ≡ codes "d" → ⊥) → (q ≡ codes "duration" → ⊥) → get_member q m2 ≡ None
  in2 q h1 h2 = get-other q (codes "duration") o-duration m1 h2 ∙ in1 q h1

  in3 : (q : List ℕ) → (q ≡ codes "d" → ⊥) → (q ≡ codes "duration" → ⊥) → (q ≡ codes "i" → ⊥) → get_member q m3 ≡ None
  in3 q h1 h2 h3 = get-other q (codes "i") o-i m2 h3 ∙ in2 q h1 h2

  in4 : (q : List ℕ) → (q ≡ codes "d" → ⊥) → (q ≡ codes "duration" → ⊥) → (q ≡ codes "i" → ⊥) → (q ≡ codes "owner" → ⊥) → get_member q m4 ≡ None
  in4 q h1 h2 h3 h4 = get-other q (codes "owner") o-owner m3 h4 ∙ in3 q h1 h2 h3

  in5 : (q : List ℕ) → (q ≡ codes "d" → ⊥) → (q ≡ codes "duration" → ⊥) → (q ≡ codes "i" → ⊥) → (q ≡ codes "owner" → ⊥) → (q ≡ codes "pattern" → ⊥) → get_member q m5 ≡ None
  in5 q h1 h2 h3 h4 h5 = get-other q (codes "pattern") o-pattern m4 h5 ∙ in4 q h1 h2 h3 h4

  in6 : (q : List ℕ) → (q ≡ codes "d" → ⊥) → (q ≡ codes "duration" → ⊥) → (q ≡ codes "i" → ⊥) → (q ≡ codes "owner" → ⊥) → (q ≡ codes "pattern" → ⊥) → (q ≡ codes "reason" → ⊥) → get_member q m6 ≡ None
  in6 q h1 h2 h3 h4 h5 h6 = get-other q (codes "reason") o-reason m5 h6 ∙ in5 q h1 h2 h3 h4 h5

  pub at-rule : get_member (codes "rule") (given_members names t) ≡ o-rule
  at-rule =
      get-given (codes "rule") o-rule m6
      (in6 (codes "rule") (apart (codes "rule") (codes "d") refl refl) (apart (codes "rule") (codes "duration") refl refl) (apart (codes "rule") (codes "i") refl refl) (apart (codes "rule") (codes "owner") refl refl) (apart (codes "rule") (codes "pattern") refl refl) (apart (codes "rule") (codes "reason") refl refl))

  pub at-reason : get_member (codes "reason") (given_members names t) ≡ o-reason
  at-reason =
      get-other (codes "reason") (codes "rule") o-rule m6 (apart (codes "reason") (codes "rule") refl refl)
      ∙ get-given (codes "reason") o-reason m5
      (in5 (codes "reason") (apart (codes "reason") (codes "d") refl refl) (apart (codes "reason") (codes "duration") refl refl) (apart (codes "reason") (codes "i") refl refl) (apart (codes "reason") (codes "owner") refl refl) (apart (codes "reason") (codes "pattern") refl refl))

  past5 : (q : List ℕ) → (q ≡ codes "rule" → ⊥) → (q ≡ codes "reason" → ⊥) → get_member q (given_members names t) ≡ get_member q m5
  past5 q h7 h6 = get-other q (codes "rule") o-rule m6 h7 ∙ get-other q (codes "reason") o-reason m5 h6

  pub at-pattern : get_member (codes "pattern") (given_members names t) ≡ o-pattern
  at-pattern =
      past5 (codes "pattern") (apart (codes "pattern") (codes "rule") refl refl) (apart (codes "pattern") (codes "reason") refl refl)
      ∙ get-given (codes "pattern") o-pattern m4
      (in4 (codes "pattern") (apart (codes "pattern") (codes "d") refl refl) (apart (codes "pattern") (codes "duration") refl refl) (apart (codes "pattern") (codes "i") refl refl) (apart (codes "pattern") (codes "owner") refl refl))

  past4 : (q : List ℕ) → (q ≡ codes "rule" → ⊥) → (q ≡ codes "reason" → ⊥) → (q ≡ codes "pattern" → ⊥) → get_member q (given_members names t) ≡ get_member q m4
  past4 q h7 h6 h5 = past5 q h7 h6 ∙ get-other q (codes "pattern") o-pattern m4 h5

  pub at-owner : get_member (codes "owner") (given_members names t) ≡ o-owner
  at-owner =
      past4 (codes "owner") (apart (codes "owner") (codes "rule") refl refl) (apart (codes "owner") (codes "reason") refl refl) (apart (codes "owner") (codes "pattern") refl refl)
      ∙ get-given (codes "owner") o-owner m3
      (in3 (codes "owner") (apart (codes "owner") (codes "d") refl refl) (apart (codes "owner") (codes "duration") refl refl) (apart (codes "owner") (codes "i") refl refl))

  past3 : (q : List ℕ) → (q ≡ codes "rule" → ⊥) → (q ≡ codes "reason" → ⊥) → (q ≡ codes "pattern" → ⊥) → (q ≡ codes "owner" → ⊥) → get_member q (given_members names t) ≡ get_member q m3
  past3 q h7 h6 h5 h4 = past4 q h7 h6 h5 ∙ get-other q (codes "owner") o-owner m3 h4

  pub at-i : get_member (codes "i") (given_members names t) ≡ o-i
  at-i =
      past3 (codes "i") (apart (codes "i") (codes "rule") refl refl) (apart (codes "i") (codes "reason") refl refl) (apart (codes "i") (codes "pattern") refl refl) (apart (codes "i") (codes "owner") refl refl)
      ∙ get-given (codes "i") o-i m2
      (in2 (codes "i") (apart (codes "i") (codes "d") refl refl) (apart (codes "i") (codes "duration") refl refl))

  past2 : (q : List ℕ) → (q ≡ codes "rule" → ⊥) → (q ≡ codes "reason" → ⊥) → (q ≡ codes "pattern" → ⊥) → (q ≡ codes "owner" → ⊥) → (q ≡ codes "i" → ⊥) → get_member q (given_members names t) ≡ get_member q m2
  past2 q h7 h6 h5 h4 h3 = past3 q h7 h6 h5 h4 ∙ get-other q (codes "i") o-i m2 h3

  pub at-duration : get_member (codes "duration") (given_members names t) ≡ o-duration
  at-duration =
      past2 (codes "duration") (apart (codes "duration") (codes "rule") refl refl) (apart (codes "duration") (codes "reason") refl refl) (apart (codes "duration") (codes "pattern") refl refl) (apart (codes "duration") (codes "owner") refl refl) (apart (codes "duration") (codes "i") refl refl)
      ∙ get-given (codes "duration") o-duration m1 (in1 (codes "duration") (apart (codes "duration") (codes "d") refl refl))

  pub at-d : get_member (codes "d") (given_members names t) ≡ o-d
  at-d =
      past2 (codes "d") (apart (codes "d") (codes "rule") refl refl) (apart (codes "d") (codes "reason") refl refl) (apart (codes "d") (codes "pattern") refl refl) (apart (codes "d") (codes "owner") refl refl) (apart (codes "d") (codes "i") refl refl)
      ∙ get-other (codes "d") (codes "duration") o-duration m1 (apart (codes "d") (codes "duration") refl refl)
      ∙ get-given (codes "d") o-d no_members refl

  pub known-keys : only_keys command_keys (given_members names t) ≡ Ok tt
  known-keys =
      keys-given command_keys (codes "rule") o-rule m6 refl
      (keys-given command_keys (codes "reason") o-reason m5 refl
      (keys-given command_keys (codes "pattern") o-pattern m4 refl
      (keys-given command_keys (codes "owner") o-owner m3 refl
      (keys-given command_keys (codes "i") o-i m2 refl
      (keys-given command_keys (codes "duration") o-duration m1 refl
      (keys-given command_keys (codes "d") o-d no_members refl refl))))))

-- ---- the whole

pub command-reads : (listed : List (Option HostPort)) (names : List HostPort) (printed : List (List ℕ)) → NamesRead listed names → (c : CommandTurn) → IsTold (length names) printed c
    → command_in listed printed (item (string (word_of c.command.name)) (item (given_data names c) no_items)) ≡ Ok c
unfolding command_in name_in given_in instances_in keys_in
command-reads listed names printed read c told =
    let fits = three (has_needed c) (is_within (length names) c.command.i) (is_within (length names) c.command.d) told.command.fits in
    let needs = needs_of c.command.name in
    let has = four (is_there needs.i c.command.i) (is_there needs.d c.command.d) (is_there needs.rule c.keys.rule) (is_there needs.pattern c.keys.pattern) fits.0 in
    rw (name_of-word_of c.command.name, known-keys names c)
    (rw (at-i names c, servers-read listed names read (codes "i") c.command.i fits.1, has.0)
    (rw (at-d names c, servers-read listed names read (codes "d") c.command.d fits.2, has.1)
    (rw (at-rule names c, rules-read c.keys.rule, has.2)
    (rw (at-duration names c, durations-read c.keys.duration told.command.duration)
    (rw (at-reason names c, texts-read (codes "reason") c.keys.reason told.command.reason)
    (rw (at-owner names c, texts-read (codes "owner") c.keys.owner told.command.owner)
    (rw (at-pattern names c, patterns-read printed c.keys.pattern told.known, has.3)
    refl)))))))
