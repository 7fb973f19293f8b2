-- A table of the first server of each name, beside the list of all names.
use Rattle.std.specs.Prelude.{◌≡◌, ℕ, List, if◌then◌else◌, Option, Some, None, option_and_then, Result, Ok, String}
use Rattle.scenario_servers.specs.Prelude.{Fault, Global, HashMap, HostPort, ServerNo, bytes_eq, get_by, get_by_text, name_at}
use Rattle.scenario_servers.specs.Prelude.{name_or_fails, option_or, same_name, update}
use Rattle.server_words.specs.OrchBase.Gives.{◌>>=◌}
use Rattle.scenario_servers.specs.declared.names.NameKey.{NameKey}
use Rattle.scenario_servers.specs.Names.{is_named, first_named, number_or_fails}

-- the number that a table has at a name
abbrev pub number_at : {S : Type 0} → HashMap NameKey ℕ S → HostPort → Option ℕ
number_at table name = get_by (λ k. same_name name k.0) table

abbrev pub IsTableOf : {S : Type 0} → HashMap NameKey ℕ S → List (Option HostPort) → Type 0
IsTableOf table listed = (name : HostPort) → number_at table name ≡ first_named name 0 listed

-- the number that a table has at a name, if there is one
abbrev pub number_of_name : {S : Type 0} → HashMap NameKey ℕ S → Option HostPort → Option ℕ
number_of_name table name = option_and_then (number_at table) name

-- the number is at the name, unless another is, and nothing else changed: the first number is at the name
pub record AddsName {S : Type 0} (old new : HashMap NameKey ℕ S) (added : Option HostPort) (number : ℕ) (first : Option ℕ) : Type 0 where
  pub answer : first ≡ number_of_name new added
  pub found : (name : HostPort) → number_at new name ≡ option_or (number_at old name) (if is_named name added then Some number else None)

-- the server that a text names
abbrev pub text_named : List (Option HostPort) → List ℕ → Result ServerNo Fault
text_named names text = name_or_fails (name_at text) >>= (λ name. number_or_fails (first_named name 0 names))

-- a text is this name, and this is the first server with it
pub record IsFound (names : List (Option HostPort)) (text : List ℕ) (name : HostPort) (first : ℕ) : Type 0 where
  pub reads : name_or_fails (name_at text) ≡ Ok name
  pub named : first_named name 0 names ≡ Some first

-- the number that a table of texts has at a text, once a text of this number is added
abbrev pub text_number : Option (List ℕ) → Option ℕ → (List ℕ → Option ℕ) → List ℕ → Option ℕ
text_number None number old other = old other
text_number (Some text) None old other = old other
text_number (Some text) (Some n) old other = update bytes_eq old text (Some n) other

-- the number is at the text, if both are there, and nothing else changed
pub record AddsText {S : Type 0} (old new : HashMap (String Global) ℕ S) (added : Option (List ℕ)) (number : Option ℕ) : Type 0 where
  pub found : (other : List ℕ) → get_by_text new other ≡ text_number added number (get_by_text old) other

-- each text names the server of its number
abbrev pub AreTexts : {S : Type 0} → HashMap (String Global) ℕ S → List (Option HostPort) → Type 0
AreTexts texts listed = (text : List ℕ) (n : ℕ) → get_by_text texts text ≡ Some n → text_named listed text ≡ Ok (record { 0 = n })
