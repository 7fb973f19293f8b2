-- The text of a set of GTIDs: parts with commas between, each a UUID and its intervals.
use Rattle.std.specs.Prelude.{◌≡◌, MatchOption, ⊤, ℕ, ◌+◌, ◌-◌, ◌*◌, ◌==◌, ◌&&◌, ◌||◌, not, Bool, List, [], ◌∷◌, ◌++◌, length, take, drop, reverse, nat_lt, if◌then◌else◌, Option, Some, None, Result, Ok, Err}
use Rattle.std.specs.List.{list_all, fold, position_or_len, before_first, after_first}
use Rattle.std.specs.Char.{is_ascii_digit}
use Rattle.std.specs.Int.{from_be_bytes, w128}
use Rattle.uuid.specs.Text.{parsed_hyphenated}
use Rattle.gtid_sets.specs.declared.interval.Interval.{Interval}
use Rattle.gtid_sets.specs.declared.fault.GtidFault.{GtidFault}
use Rattle.gtid_sets.specs.declared.fault.GtidFault.TheVariants.{BadUuid, BadInterval, Zero, TooLarge, Memory}
use Rattle.gtid_sets.specs.Sets.{largest, holds}
use Rattle.gtid_sets.specs.Gives.{◌>>=◌}

-- the fault that a text has, and nothing if memory runs out
abbrev pub fault_of : GtidFault → Option GtidFault
fault_of (BadUuid offset) = Some (BadUuid offset)
fault_of (BadInterval offset) = Some (BadInterval offset)
fault_of (Zero offset) = Some (Zero offset)
fault_of (TooLarge offset) = Some (TooLarge offset)
fault_of Memory = None

-- a space, a tab, a line feed or a carriage return
abbrev pub is_blank : ℕ → Bool
is_blank b = b == 32 || b == 9 || b == 10 || b == 13

abbrev pub is_colon : ℕ → Bool
is_colon b = b == 58

abbrev pub is_comma : ℕ → Bool
is_comma b = b == 44

abbrev pub is_dash : ℕ → Bool
is_dash b = b == 45

-- a byte before the first piece
abbrev pub onto_first : ℕ → List (List ℕ) → List (List ℕ)
onto_first b [] = (b ∷ []) ∷ []
onto_first b (piece ∷ pieces) = (b ∷ piece) ∷ pieces

-- a text, divided at each byte that passes
abbrev pub pieces : (ℕ → Bool) → List ℕ → List (List ℕ)
pieces divides [] = [] ∷ []
pieces divides (b ∷ bs) = if divides b then [] ∷ pieces divides bs else onto_first b (pieces divides bs)

-- how many blanks a text begins with, and how many it ends with
abbrev pub leading : List ℕ → ℕ
leading text = position_or_len (λ b. not (is_blank b)) text

abbrev pub trailing : List ℕ → ℕ
trailing text = leading (reverse text)

-- the text without the blanks at its ends
abbrev pub inner : List ℕ → List ℕ
inner text = take (length (drop (leading text) text) - trailing (drop (leading text) text)) (drop (leading text) text)

-- the number that decimal digits write
abbrev pub value_of : List ℕ → ℕ
value_of digits = fold (λ n c. n * 10 + (c - 48)) 0 digits

-- one or more decimal digits
abbrev pub number_at : List ℕ → Option ℕ
number_at digits = if nat_lt 0 (length digits) && list_all is_ascii_digit digits then Some (value_of digits) else None

abbrev pub number_or : ℕ → Option ℕ → Result ℕ GtidFault
number_or offset None = Err (BadInterval offset)
number_or offset (Some n) = Ok n

-- what the two numbers give, in the order of the tests
abbrev pub interval_of : ℕ → ℕ → ℕ → ℕ → Result Interval GtidFault
interval_of uuid offset first last =
    if first == 0 || last == 0 then Err (Zero offset)
    else if nat_lt largest first || nat_lt largest last then Err (TooLarge offset)
    else if nat_lt last first then Err (BadInterval offset)
    else Ok (record { uuid = uuid; first = first; last = last })

-- the first number of an interval's text, and the last, which is the same if there is no dash
abbrev pub begin_of : List ℕ → List ℕ
begin_of text = before_first is_dash text

abbrev pub end_of : List ℕ → List ℕ
end_of text = if nat_lt (position_or_len is_dash text) (length text) then after_first is_dash text else text

-- an interval, whose first byte is at this offset
unfoldable pub interval_at : ℕ → ℕ → List ℕ → Result Interval GtidFault
interval_at uuid offset text = do
  first ← number_or offset (number_at (begin_of text))
  last ← number_or offset (number_at (end_of text))
  interval_of uuid offset first last

unfoldable pub intervals_at : ℕ → ℕ → List (List ℕ) → Result (List Interval) GtidFault
intervals_at uuid offset [] = Ok []
intervals_at uuid offset (text ∷ texts) = do
  one ← interval_at uuid offset text
  more ← intervals_at uuid (offset + length text + 1) texts
  Ok (one ∷ more)

abbrev pub uuid_or : ℕ → Option (List ℕ) → Result ℕ GtidFault
uuid_or offset None = Err (BadUuid offset)
uuid_or offset (Some bytes) = Ok (from_be_bytes w128 bytes)

-- the intervals after the first colon
abbrev pub listed_at : ℕ → ℕ → List ℕ → Result (List Interval) GtidFault
listed_at uuid offset text =
    if nat_lt (position_or_len is_colon text) (length text)
    then intervals_at uuid (offset + position_or_len is_colon text + 1) (pieces is_colon (after_first is_colon text))
    else Err (BadInterval (offset + length text))

-- a UUID and its intervals
unfoldable pub filled_at : ℕ → List ℕ → Result (List Interval) GtidFault
filled_at offset text = do
  uuid ← uuid_or offset (parsed_hyphenated (before_first is_colon text))
  listed_at uuid offset text

-- what is between two commas
unfoldable pub part_at : ℕ → List ℕ → Result (List Interval) GtidFault
part_at offset text = if nat_lt (leading text) (length text) then filled_at (offset + leading text) (inner text) else Err (BadUuid (offset + length text))

unfoldable pub parts_at : ℕ → List (List ℕ) → Result (List Interval) GtidFault
parts_at offset [] = Ok []
parts_at offset (text ∷ texts) = do
  these ← part_at offset text
  more ← parts_at (offset + length text + 1) texts
  Ok (these ++ more)

-- the intervals of a text, in its order, or its first fault
unfoldable pub text_at : List ℕ → Result (List Interval) GtidFault
text_at text = if nat_lt (leading text) (length text) then parts_at 0 (pieces is_comma text) else Ok []

-- after those that are found already
abbrev pub behind : List Interval → Result (List Interval) GtidFault → Result (List Interval) GtidFault
behind found read = do
  more ← read
  Ok (found ++ more)

-- the pairs of the intervals, and no others
abbrev pub HasThose : List Interval → Result (List Interval) GtidFault → Type 0
HasThose set (Ok xs) = (uuid n : ℕ) → holds set uuid n ≡ holds xs uuid n
HasThose set (Err e) = ⊥

-- the set of the text's intervals, or the text's first fault, unless memory ran out
abbrev pub Reads : Result (List Interval) GtidFault → Result (List Interval) GtidFault → Type 0
Reads (Ok set) read = HasThose set read
Reads (Err e) read = MatchOption (fault_of e) ⊤ (λ f. read ≡ Err f)
