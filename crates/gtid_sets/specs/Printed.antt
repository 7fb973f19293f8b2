-- The one canonical text of a set of GTIDs.
use Rattle.std.specs.Prelude.{ℕ, ◌==◌, List, [], ◌∷◌, ◌++◌, if◌then◌else◌, Option, Some, None, decimal}
use Rattle.std.specs.Int.{to_be_bytes, w128}
use Rattle.uuid.specs.Text.{hyphenated_text, lower}
use Rattle.gtid_sets.specs.declared.interval.Interval.{Interval}

-- 8-4-4-4-12 digits in lower case
abbrev pub uuid_text : ℕ → List ℕ
uuid_text uuid = hyphenated_text lower (to_be_bytes w128 uuid)

-- `n`, or `n-m`
abbrev pub range_text : Interval → List ℕ
range_text s = if s.first == s.last then decimal s.first else decimal s.first ++ 45 ∷ decimal s.last

-- the UUID, with a comma before it unless it is the first, and nothing if the interval before had it
abbrev pub head_text : Option ℕ → ℕ → List ℕ
head_text None uuid = uuid_text uuid
head_text (Some before) uuid = if uuid == before then [] else 44 ∷ uuid_text uuid

unfoldable pub texts : Option ℕ → List Interval → List ℕ
texts before [] = []
texts before (s ∷ xs) = (head_text before s.uuid ++ 58 ∷ range_text s) ++ texts (Some s.uuid) xs

abbrev pub printed : List Interval → List ℕ
printed xs = texts None xs
