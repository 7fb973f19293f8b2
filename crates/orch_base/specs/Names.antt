-- HOST or HOST:PORT.
use Rattle.std.specs.Prelude.{◌≡◌, ◌<◌, ◌≤◌, true, ℕ, ◌^◌, ◌++◌, ◌∷◌, ◌&&◌, ◌||◌, ◌==◌, List, length, slice_index, position, Bool, not, nat_eq, nat_lt, nat_le, if◌then◌else◌, [], Option, Some, None, Result, Ok, Err, decimal}
use Rattle.std.specs.List.{list_all, position_or_len, before_first, after_first}
use Rattle.std.specs.Cmp.Lexicographic.{pointwise, slice_cmp}
use Rattle.std.specs.Ordering.{ordering_then, nat_cmp}
use Rattle.std.specs.declared.cmp.Ordering.{Ordering}
use Rattle.std.specs.Str.{all_ascii_digits}
use Rattle.std.specs.Str.Parse.{digits_value}
use Rattle.orch_base.specs.declared.name.NameFault.{NameFault}
use Rattle.orch_base.specs.declared.name.NameFault.TheVariants.{Empty, TooLong, BadPort, BadByte, Memory}
use Rattle.orch_base.specs.Gives.{◌>>=◌}

-- a server's name
pub record HostPort : Type 0 where
  pub host : List ℕ
  pub port : ℕ

-- host and port are the same, byte for byte
abbrev pub same_name : HostPort → HostPort → Bool
same_name a b = pointwise nat_eq a.host b.host && (a.port == b.port)

-- the order of names: by the host's bytes, then by the port
abbrev pub name_cmp : HostPort → HostPort → Ordering
name_cmp a b = ordering_then (slice_cmp nat_cmp a.host b.host) (nat_cmp a.port b.port)

-- the fault that a text has, and nothing if memory runs out
abbrev pub fault_of : NameFault → Option NameFault
fault_of Empty = Some Empty
fault_of TooLong = Some TooLong
fault_of (BadByte place) = Some (BadByte place)
fault_of BadPort = Some BadPort
fault_of Memory = None

abbrev pub is_colon : ℕ → Bool
is_colon b = b == 58

-- a letter, a digit, `.`, `-` or `_`
abbrev pub is_host_byte : ℕ → Bool
is_host_byte b = (nat_le 97 b && nat_le b 122) || (nat_le 65 b && nat_le b 90) || (nat_le 48 b && nat_le b 57) || b == 46 || b == 45 || b == 95

-- before the first colon
abbrev pub host_of : List ℕ → List ℕ
host_of text = before_first is_colon text

-- after the first colon, if there is one
abbrev pub port_of : List ℕ → Option (List ℕ)
port_of text = if nat_lt (position_or_len is_colon text) (length text) then Some (after_first is_colon text) else None

abbrev pub is_port : List ℕ → Bool
is_port digits = nat_le 49 (slice_index digits 0) && all_ascii_digits digits && nat_lt (digits_value 10 digits) (2 ^ 16)

abbrev pub port_value : Option (List ℕ) → Option ℕ
port_value None = Some 3306
port_value (Some digits) = if is_port digits then Some (digits_value 10 digits) else None

-- the host, if it has no bad byte
abbrev pub without_bad : List ℕ → Option ℕ → Result (List ℕ) NameFault
without_bad host None = Ok host
without_bad host (Some place) = Err (BadByte place)

abbrev pub host_at : List ℕ → Result (List ℕ) NameFault
host_at host = if length host == 0 then Err Empty else
    (if nat_lt 255 (length host) then Err TooLong else without_bad host (position (λ b. not (is_host_byte b)) host))

abbrev pub port_or_fault : Option ℕ → Result ℕ NameFault
port_or_fault None = Err BadPort
port_or_fault (Some port) = Ok port

abbrev pub port_at : Option (List ℕ) → Result ℕ NameFault
port_at text = port_or_fault (port_value text)

-- the first fault, in this order: the host's, then the port's
unfoldable pub name_at : List ℕ → Result HostPort NameFault
name_at text = do
  host ← host_at (host_of text)
  port ← port_at (port_of text)
  Ok (record { host = host; port = port })

abbrev pub printed : HostPort → List ℕ
printed name = name.host ++ 58 ∷ decimal name.port

-- what has a printed form that reads back
pub record IsName (name : HostPort) : Type 0 where
  pub some : 0 < length name.host
  pub short : length name.host ≤ 255
  pub bytes : list_all is_host_byte name.host ≡ true
  pub above_zero : 0 < name.port
  pub fits : name.port < 2 ^ 16

abbrev pub printed_at : Option HostPort → List ℕ
printed_at None = []
printed_at (Some name) = printed name
