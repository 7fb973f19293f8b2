-- The line of a server, by what the world answers for it.
use Rattle.std.proofs.Common.{◌≡◌, ℕ, ◌+◌, ◌<◌, List, [], ◌∷◌, ◌++◌, zero, suc, length, map, take, drop, Option, Some, None, refl, sym, ap, ◌∙◌, arith, append_assoc, add-one, option_map, slice_get, sum_by}
use Rattle.std.proofs.lemmas.List.Sums.{sum_by-cons}
use Rattle.server_words.specs.OrchBase.Names.{HostPort}
use Rattle.server_words.specs.OrchBase.declared.server.Settings.{Settings}
use Rattle.server_words.specs.BinlogCoords.Index.{Index}
use Rattle.server_words.specs.declared.plain.Plain.{Plain}
use Rattle.server_model.specs.declared.server.Server.{Server}
use Rattle.server_model.specs.Plains.{plain_of, log_of}
use Rattle.server_model.specs.Worlds.{World}
use Rattle.report_text.specs.Tables.{told_text, line_at, servers_text}

pub told_is_line : (w : World) (at : Option Server) (settings : Settings) (p : Plain) (executed : ℕ) (log : Option Index)
    → option_map (λ s. s.settings) at ≡ Some settings → option_map plain_of at ≡ Some p → option_map (λ s. length s.history.txns) at ≡ Some executed → option_map log_of at ≡ Some log
    → line_at w at ≡ told_text w settings.name p executed log
told_is_line w None settings p executed log named plain count logged = cc
told_is_line w (Some s) settings p executed log named plain count logged = cc

-- the lines from a server on: its line, and those after it
servers_at : (w : World) (xs : List Server) (n : ℕ) → n < length xs → servers_text w (drop n xs) ≡ line_at w (slice_get xs n) ++ servers_text w (drop (suc n) xs)
servers_at w [] n lt = absurd (omega arith)
servers_at w (x ∷ xs) zero lt = refl
servers_at w (x ∷ xs) (suc n) lt = servers_at w xs n (omega arith)

-- one more line is written
pub servers_go_on : (w : World) (xs : List Server) (n : ℕ) (before after all : List ℕ) → n < length xs → before ++ servers_text w (drop n xs) ≡ all
    → after ≡ before ++ line_at w (slice_get xs n) → after ++ servers_text w (drop (n + 1) xs) ≡ all
servers_go_on w xs n before after all lt so_far line =
    rw (line, add-one) (append_assoc before (line_at w (slice_get xs n)) (servers_text w (drop (suc n) xs)) ∙ rw (servers_at w xs n lt) at so_far)

-- ---- the servers' names

abbrev name_of : Server → HostPort
name_of s = s.settings.name

names_more : (xs : List Server) (n : ℕ) (settings : Settings) → option_map (λ s. s.settings) (slice_get xs n) ≡ Some settings
    → map name_of (take (suc n) xs) ≡ map name_of (take n xs) ++ settings.name ∷ []
names_more [] n settings at = cc
names_more (x ∷ xs) zero settings at = cc
names_more (x ∷ xs) (suc n) settings at = ap (λ (rest : List HostPort). name_of x ∷ rest) (names_more xs n settings at)

-- one more name is listed
pub names_go_on : (xs : List Server) (n : ℕ) (settings : Settings) (before after : List HostPort) → before ≡ map name_of (take n xs)
    → option_map (λ s. s.settings) (slice_get xs n) ≡ Some settings → after ≡ before ++ settings.name ∷ [] → after ≡ map name_of (take (n + 1) xs)
names_go_on xs n settings before after so_far at more =
    rw (more, add-one) (ap (λ (names : List HostPort). names ++ settings.name ∷ []) so_far ∙ sym (names_more xs n settings at))

-- ---- what the servers have executed

abbrev count_of : Server → ℕ
count_of s = length s.history.txns

executed_more : (xs : List Server) (n count : ℕ) → option_map count_of (slice_get xs n) ≡ Some count → sum_by count_of (take (suc n) xs) ≡ sum_by count_of (take n xs) + count
executed_more [] n count at = cc
executed_more (x ∷ xs) zero count at =
    let here : count_of x ≡ count = cc in
    sum_by-cons count_of x [] ∙ ap (λ (k : ℕ). k + 0) here ∙ omega arith
executed_more (x ∷ xs) (suc n) count at =
    let rest = executed_more xs n count at in
    let first = sum_by-cons count_of x (take (suc n) xs) in
    let before = sum_by-cons count_of x (take n xs) in
    omega (arith, first, rest, before)

-- one more server's transactions are counted
pub executed_go_on : (xs : List Server) (n before count : ℕ) → before ≡ sum_by count_of (take n xs) → option_map count_of (slice_get xs n) ≡ Some count → before + count ≡ sum_by count_of (take (n + 1) xs)
executed_go_on xs n before count so_far at = rw add-one (ap (λ (k : ℕ). k + count) so_far ∙ sym (executed_more xs n count at))
