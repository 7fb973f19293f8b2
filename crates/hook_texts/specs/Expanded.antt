-- What a hook is given: its text, with the recovery's values in it (orchestrator's documentation, "Hooks").
use Rattle.std.specs.Prelude.{◌≡◌, ◌≢◌, ℕ, ◌+◌, ◌==◌, false, All, List, [], ◌∷◌, ◌++◌, Option, Some, None, codes, decimal, find, length, nat_eq, zero, suc, if◌then◌else◌}
use Rattle.std.specs.List.{starts_with}
use Rattle.std.specs.Str.{bytes_eq}
use Rattle.orch_base.specs.Names.{HostPort}
use Rattle.hook_texts.specs.declared.values.Placeholder.{Placeholder}
use Rattle.hook_texts.specs.declared.values.Placeholder.TheVariants as place
use Rattle.hook_texts.specs.declared.values.Values.{Values}

-- ---- placeholders

-- what is between the braces of each
abbrev pub word_text : Placeholder → List ℕ
word_text place.FailureType = codes "failureType"
word_text place.FailedHost = codes "failedHost"
word_text place.FailedPort = codes "failedPort"
word_text place.FailureCluster = codes "failureCluster"
word_text place.FailureClusterAlias = codes "failureClusterAlias"
word_text place.SuccessorHost = codes "successorHost"
word_text place.SuccessorPort = codes "successorPort"
word_text place.IsSuccessful = codes "isSuccessful"

abbrev pub placeholders : List Placeholder
placeholders = place.FailureType ∷ place.FailedHost ∷ place.FailedPort ∷ place.FailureCluster
    ∷ place.FailureClusterAlias ∷ place.SuccessorHost ∷ place.SuccessorPort ∷ place.IsSuccessful ∷ []

-- the one with this word between its braces
abbrev pub placeholder_named : List ℕ → Option Placeholder
placeholder_named word = find (λ p. bytes_eq (word_text p) word) placeholders

abbrev pub braced : List ℕ → List ℕ
braced word = codes "{" ++ (word ++ codes "}")

-- how it is written
abbrev pub placeholder_text : Placeholder → List ℕ
placeholder_text p = braced (word_text p)

-- ---- values

-- the host of a server, and its port; empty if there is none
abbrev pub host_in : Option HostPort → List ℕ
host_in None = []
host_in (Some name) = name.host

abbrev pub port_in : Option HostPort → List ℕ
port_in None = []
port_in (Some name) = decimal name.port

abbrev pub value_of : Values → Placeholder → List ℕ
value_of v place.FailureType = v.failure_type
value_of v place.FailedHost = v.failed.host
value_of v place.FailedPort = decimal v.failed.port
value_of v place.FailureCluster = v.cluster
value_of v place.FailureClusterAlias = v.alias
value_of v place.SuccessorHost = host_in v.successor
value_of v place.SuccessorPort = port_in v.successor
value_of v place.IsSuccessful = if v.successful then codes "true" else codes "false"

-- ---- texts

-- the placeholder with which a text begins
unfoldable pub placeholder_at : List ℕ → Option Placeholder
placeholder_at text = find (λ p. starts_with nat_eq text (placeholder_text p)) placeholders

-- what the first byte of a text gives, before what the rest gives: a placeholder its value, and then its other bytes
-- are passed over; every other byte itself
abbrev pub given_at : Values → ℕ → Option Placeholder → (ℕ → List ℕ) → List ℕ
given_at v b None rest = b ∷ rest 0
given_at v b (Some p) rest = value_of v p ++ rest (length (word_text p) + 1)

-- what a text gives, read from the left, of which so many bytes are passed over
unfoldable pub expanded_behind : Values → ℕ → List ℕ → List ℕ
expanded_behind v passed [] = []
expanded_behind v zero (b ∷ text) = given_at v b (placeholder_at (b ∷ text)) (λ passed. expanded_behind v passed text)
expanded_behind v (suc passed) (b ∷ text) = expanded_behind v passed text

-- what a text gives
abbrev pub expanded : Values → List ℕ → List ℕ
expanded v text = expanded_behind v 0 text

-- a text lacks a byte
abbrev pub Lacks : ℕ → List ℕ → Type 0
Lacks byte text = All (λ b. (b == byte) ≡ false) text

-- no byte of it opens a placeholder
abbrev pub IsPlain : List ℕ → Type 0
IsPlain text = Lacks 123 text

-- it is between braces, and is the name of no placeholder
pub record IsOtherWord (word : List ℕ) : Type 0 where
  pub unopened : Lacks 123 word
  pub unclosed : Lacks 125 word
  pub other : (p : Placeholder) → word_text p ≢ word
