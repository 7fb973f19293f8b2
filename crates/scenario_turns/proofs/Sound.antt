-- A command turn that is read is one over the servers.
pub use Rattle.std.proofs.lemmas.Bool.{and_parts as both_true}
use Rattle.std.proofs.Common.{◌≡◌, ℕ, ◌<◌, ◌≤◌, Bool, true, false, List, length, Option, Some, None, Result, Ok, refl, sym, subst, cond, ◌⊎◌, inl, inr, arith, IfSome, ◌&&◌, ◌*◌, nat_lt, nat_le, codes, option_map}
use Rattle.scenario_turns.proofs.Prelude.{BadCommand, BadNumber, BadPattern, Command, CommandName, CommandTurn, Data, Fault, Found, HostPort}
use Rattle.scenario_turns.proofs.Prelude.{IsCommand, Items, Keys, ServerNo, bind-ok, command_in, command_keys, duration_in, fails, found_in, found_of}
use Rattle.scenario_turns.proofs.Prelude.{get, given_in, holds, holds-ok, instances_in, is_found, is_pattern, is_there, is_within, keys_in, leb-true}
use Rattle.scenario_turns.proofs.Prelude.{length-map, maybe, maybe-ok, members_in, name_in, named-ok, nat_tests, needs_of, number_and_unit, number_at}
use Rattle.scenario_turns.proofs.Prelude.{only_keys, or_fails-ok, parts_of, pattern_in, rule_in, same_Ok, seconds_at, server_named, short_in, text_in}
use Rattle.scenario_turns.proofs.Prelude.{text_within, under-ok, under_item}
use Rattle.scenarios.proofs.CommandsProofs.Numbers.{in_range}

-- what is read if it is given has what each that is read has
given_has : {A : Type 0} (P : A → Type 0) (key : List ℕ) (read : Data → Result A Fault) (d : Data) (o : Option A) → ((v : Data) (x : A) → read v ≡ Ok x → P x) → maybe key read d ≡ Ok o → IfSome o P
given_has {A} P key read d o has e = go (maybe-ok key read d o e)
  where
    go : ((get key d ≡ None) × (o ≡ None)) ⊎ ((v : Data) × (x : A) × (o ≡ Some x) × (read v ≡ Ok x)) → IfSome o P
    go (inl none) = subst (λ (p : Option A). IfSome p P) (sym none.1) tt
    go (inr there) = subst (λ (p : Option A). IfSome p P) (sym there.2) (has there.0 there.1 there.3)

-- ---- numbers and texts

seconds-have : (text : List ℕ) (n : ℕ) → seconds_at text ≡ Some n → (1 ≤ n) × (n ≤ 31536000)
seconds-have text n e =
    let parts = number_and_unit text in
    in_range 1 31536000 n (option_map (λ (k : ℕ). k * parts.1) (number_at parts.0)) e

duration-has : (d : Data) (n : ℕ) → duration_in d ≡ Ok n → (1 ≤ n) × (n ≤ 31536000)
unfolding duration_in
duration-has d n e =
    let text = bind-ok (text_in d) _ n e in
    seconds-have text.0 n (or_fails-ok BadNumber (seconds_at text.0) n text.2)

short-within : (low high : ℕ) (text t : List ℕ) → text_within low high text ≡ Ok t → length t ≤ high
short-within low high text t e = go (nat_le low (length text) && nat_le (length text) high) refl e
  where
    go : (b : Bool) → (nat_le low (length text) && nat_le (length text) high) ≡ b → cond {A = Result (List ℕ) Fault} b (Ok text) (fails BadNumber) ≡ Ok t → length t ≤ high
    go true is e =
        let parts = both_true (nat_le low (length text)) (nat_le (length text) high) is in
        subst (λ (u : List ℕ). length u ≤ high) (same_Ok text t e) (leb-true (length text) high parts.1)
    go false is e = cc

short-has : (d : Data) (t : List ℕ) → short_in d ≡ Ok t → length t ≤ 255
unfolding short_in
short-has d t e =
    let text = bind-ok (text_in d) _ t e in
    short-within 0 255 text.0 t text.2

pattern-has : (printed : List (List ℕ)) (d : Data) (f : Found) → pattern_in printed d ≡ Ok f → length f.answers ≡ length printed
unfolding pattern_in found_in
pattern-has printed d f e =
    let text = bind-ok (text_in d) _ f e in
    let good = bind-ok (holds BadPattern (is_pattern text.0)) _ f text.2 in
    subst (λ (g : Found). length g.answers ≡ length printed) (same_Ok (found_of text.0 printed) f good.2) (length-map printed (is_found text.0))

-- ---- the keys

record AreInstances (count : ℕ) (name : CommandName) (c : Command) : Type 0 where
  named : c.name ≡ name
  has_i : is_there (needs_of name).i c.i ≡ true
  has_d : is_there (needs_of name).d c.d ≡ true
  i_within : is_within count c.i ≡ true
  d_within : is_within count c.d ≡ true

pub above : (m n : ℕ) → m < n → nat_lt m n ≡ true
above m n h = grind (arith, nat_tests)

within_of : (count : ℕ) (o : Option ServerNo) → IfSome o (λ n. n.0 < count) → is_within count o ≡ true
within_of count None h = refl
within_of count (Some n) h = above n.0 count h

instances-have : (names : List (Option HostPort)) (name : CommandName) (d : Data) (c : Command) → instances_in names name d ≡ Ok c → AreInstances (length names) name c
unfolding instances_in
instances-have names name given c e =
    let i = bind-ok (maybe (codes "i") (server_named names) given) _ c e in
    let has_i = bind-ok (holds BadCommand (is_there (needs_of name).i i.0)) _ c i.2 in
    let d = bind-ok (maybe (codes "d") (server_named names) given) _ c has_i.2 in
    let has_d = bind-ok (holds BadCommand (is_there (needs_of name).d d.0)) _ c d.2 in
    subst (AreInstances (length names) name) (same_Ok (record { name = name; i = i.0; d = d.0 }) c has_d.2)
    (record {
      named = refl;
      has_i = holds-ok BadCommand _ has_i.0 has_i.1;
      has_d = holds-ok BadCommand _ has_d.0 has_d.1;
      i_within = within_of (length names) i.0 (given_has (λ n. n.0 < length names) (codes "i") (server_named names) given i.0 (named-ok names) i.1);
      d_within = within_of (length names) d.0 (given_has (λ n. n.0 < length names) (codes "d") (server_named names) given d.0 (named-ok names) d.1);
    })

record AreKeys (count : ℕ) (name : CommandName) (k : Keys) : Type 0 where
  has_rule : is_there (needs_of name).rule k.rule ≡ true
  has_pattern : is_there (needs_of name).pattern k.pattern ≡ true
  duration : IfSome k.duration (λ n. (1 ≤ n) × (n ≤ 31536000))
  reason : IfSome k.reason (λ text. length text ≤ 255)
  owner : IfSome k.owner (λ text. length text ≤ 255)
  answers : IfSome k.pattern (λ f. length f.answers ≡ count)

keys-have : (printed : List (List ℕ)) (name : CommandName) (d : Data) (k : Keys) → keys_in printed name d ≡ Ok k → AreKeys (length printed) name k
unfolding keys_in
keys-have printed name given k e =
    let rule = bind-ok (maybe (codes "rule") rule_in given) _ k e in
    let has_rule = bind-ok (holds BadCommand (is_there (needs_of name).rule rule.0)) _ k rule.2 in
    let duration = bind-ok (maybe (codes "duration") duration_in given) _ k has_rule.2 in
    let reason = bind-ok (maybe (codes "reason") short_in given) _ k duration.2 in
    let owner = bind-ok (maybe (codes "owner") short_in given) _ k reason.2 in
    let pattern = bind-ok (maybe (codes "pattern") (pattern_in printed) given) _ k owner.2 in
    let has_pattern = bind-ok (holds BadCommand (is_there (needs_of name).pattern pattern.0)) _ k pattern.2 in
    subst (AreKeys (length printed) name) (same_Ok (record { rule = rule.0; duration = duration.0; reason = reason.0; owner = owner.0; pattern = pattern.0 }) k has_pattern.2)
    (record {
      has_rule = holds-ok BadCommand _ has_rule.0 has_rule.1;
      has_pattern = holds-ok BadCommand _ has_pattern.0 has_pattern.1;
      duration = given_has (λ n. (1 ≤ n) × (n ≤ 31536000)) (codes "duration") duration_in given duration.0 duration-has duration.1;
      reason = given_has (λ t. length t ≤ 255) (codes "reason") short_in given reason.0 short-has reason.1;
      owner = given_has (λ t. length t ≤ 255) (codes "owner") short_in given owner.0 short-has owner.1;
      answers = given_has (λ f. length f.answers ≡ length printed) (codes "pattern") (pattern_in printed) given pattern.0 (pattern-has printed) pattern.1;
    })

-- ---- the turn

all_true : (a b c d : Bool) → a ≡ true → b ≡ true → c ≡ true → d ≡ true → (a && b && c && d) ≡ true
all_true a b c d ha hb hc hd = rw (ha, hb, hc, hd) refl

three_true : (a b c : Bool) → a ≡ true → b ≡ true → c ≡ true → (a && b && c) ≡ true
three_true a b c ha hb hc = rw (ha, hb, hc) refl

is_command : (count : ℕ) (name : CommandName) (c : Command) (k : Keys) → AreInstances count name c → AreKeys count name k → IsCommand count (record { command = c; keys = k })
is_command count name c k instances keys =
    let same : name ≡ c.name = sym instances.named in
    record {
      fits = three_true _ _ _
          (subst (λ (n : CommandName). (is_there (needs_of n).i c.i && is_there (needs_of n).d c.d && is_there (needs_of n).rule k.rule && is_there (needs_of n).pattern k.pattern) ≡ true) same
          (all_true _ _ _ _ instances.has_i instances.has_d keys.has_rule keys.has_pattern))
          instances.i_within instances.d_within;
      duration = keys.duration;
      reason = keys.reason;
      owner = keys.owner;
      answers = keys.answers;
    }

pub command-has : (names : List (Option HostPort)) (printed : List (List ℕ)) (rest : Items) (t : CommandTurn) → length printed ≡ length names → command_in names printed rest ≡ Ok t → IsCommand (length names) t
unfolding command_in given_in
command-has names printed rest t counts e =
    let parts = bind-ok (parts_of rest) _ t e in
    let name = bind-ok (under_item 1 (name_in parts.0.0)) _ t parts.2 in
    let given : given_in names printed name.0 parts.0.1 ≡ Ok t = under-ok _ _ t name.2 in
    let members = bind-ok (members_in parts.0.1) _ t given in
    let known = bind-ok (only_keys command_keys members.0) _ t members.2 in
    let command = bind-ok (instances_in names name.0 parts.0.1) _ t known.2 in
    let keys = bind-ok (keys_in printed name.0 parts.0.1) _ t command.2 in
    subst (IsCommand (length names)) (same_Ok (record { command = command.0; keys = keys.0 }) t keys.2)
    (is_command (length names) name.0 command.0 keys.0 (instances-have names name.0 parts.0.1 command.0 command.1)
    (subst (λ (n : ℕ). AreKeys n name.0 keys.0) counts (keys-have printed name.0 parts.0.1 keys.0 keys.1)))
