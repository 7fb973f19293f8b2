-- Histories and flush points read as they were written.
use Rattle.std.proofs.Common.{◌≡◌, ◌<◌, ◌≤◌, ℕ, zero, suc, ◌+◌, true, List, [], ◌∷◌, length, All, Some, Ok, refl, arith, leb, slice_get}
use Rattle.read_back_laws.proofs.Prelude.{All-head, All-tail, Data, IsName, IsPart, Part, ServerInit, ServerNo, count_data, each_from, flushes_in, history_in}
use Rattle.read_back_laws.proofs.Prelude.{item_count, items_of, le-leb, list_data, name_text, part_data, part_in, server_named, string, whole_in}
use Rattle.read_back_laws.proofs.Found.{NamesApart, listed_names_of, server-named}
use Rattle.read_back_laws.proofs.Values.{number-reads, whole-reads}

pub items-count : {A : Type 0} (f : A → Data) (xs : List A) → item_count (items_of f xs) ≡ length xs
items-count f [] = refl
items-count f (x ∷ xs) = let more = items-count f xs in omega arith

-- each server's name has a text
abbrev pub HaveNames : List ServerInit → Type 0
HaveNames is = (n : ℕ) (i : ServerInit) → slice_get is n ≡ Some i → IsName i.settings.name

-- the server of a number is there
pub record IsThere (is : List ServerInit) (n : ℕ) : Type 0 where
  pub server : ServerInit
  pub there : slice_get is n ≡ Some server

pub there-within : (is : List ServerInit) (n : ℕ) → n < length is → IsThere is n
there-within [] n less = absurd (omega arith)
there-within (i ∷ is) zero less = record { server = i; there = refl }
there-within (i ∷ is) (suc n) less = let found = there-within is n (omega arith) in record { server = found.server; there = found.there }

module _ (is : List ServerInit) (apart : NamesApart is) (names : HaveNames is) where
  pub number-named : (n : ServerNo) → n.0 < length is → server_named (listed_names_of is) (string (name_text is n.0)) ≡ Ok n
  number-named n less =
      let found = there-within is n.0 less in
      server-named is n found.server apart found.there (names n.0 found.server found.there)

  part-reads : (p : Part) → IsPart (length is) p → part_in (listed_names_of is) (part_data is p) ≡ Ok p
  unfolding part_in
  part-reads p in_range =
      let origin = number-named p.origin in_range.origin in
      let size = number-reads 1 1000000 p.size in_range.some in_range.size in
      let count = number-reads 1 4000000 p.count in_range.count in_range.few in
      rw origin (rw size (rw count refl))

  parts-read : (n : ℕ) (ps : List Part) → All (IsPart (length is)) ps → each_from (λ k d. part_in (listed_names_of is) d) n (items_of (part_data is) ps) ≡ Ok ps
  parts-read n [] all = refl
  parts-read n (p ∷ ps) all =
      rw (part-reads p (All-head (IsPart (length is)) p ps all)) (rw (parts-read (n + 1) ps (All-tail (IsPart (length is)) p ps all)) refl)

  pub history-reads : (ps : List Part) → All (IsPart (length is)) ps → history_in (listed_names_of is) (list_data (part_data is) ps) ≡ Ok ps
  unfolding history_in
  history-reads ps all = parts-read 0 ps all

counts-read : (n : ℕ) (ks : List ℕ) → each_from (λ k d. whole_in d) n (items_of count_data ks) ≡ Ok ks
counts-read n [] = refl
counts-read n (k ∷ ks) = rw (whole-reads k) (rw (counts-read (n + 1) ks) refl)

pub flushes-read : (ks : List ℕ) → length ks ≤ 1000000 → flushes_in (list_data count_data ks) ≡ Ok ks
unfolding flushes_in
flushes-read ks few =
    let count = items-count count_data ks in
    let most : leb (item_count (items_of count_data ks)) 1000000 ≡ true = le-leb _ 1000000 (omega arith) in
    rw most (counts-read 0 ks)
