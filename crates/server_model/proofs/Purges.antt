-- How far a purge goes.
use Rattle.std.proofs.Common.{◌≡◌, ℕ, ◌≤◌, Bool, true, false, cond, List, [], ◌∷◌, map, not, refl, sym, ◌∙◌, ap, subst, Some, arith, zero, suc, slice_get, filter, fold, nat_lt}
use Rattle.server_model.proofs.Prelude.{Server, World, files_read, greater, is_reading, kept_from, least_read, lesser, nat_tests, purge_answer}
use Rattle.server_model.proofs.Prelude.{same_Some, server_at}
use Rattle.server_model.proofs.Prelude.purging

lesser-left : (a b : ℕ) → lesser a b ≤ a
lesser-left a b = grind (arith, nat_tests)

lesser-right : (a b : ℕ) → lesser a b ≤ b
lesser-right a b = grind (arith, nat_tests)

lesser-least : (k a b : ℕ) → k ≤ a → k ≤ b → k ≤ lesser a b
lesser-least k a b p q = grind (arith, nat_tests)

pub greater-left : (a b : ℕ) → a ≤ greater a b
greater-left a b = grind (arith, nat_tests)

pub greater-right : (a b : ℕ) → b ≤ greater a b
greater-right a b = grind (arith, nat_tests)

pub greater-most : (k a b : ℕ) → a ≤ k → b ≤ k → greater a b ≤ k
greater-most k a b p q = grind (arith, nat_tests)

-- the least of a number and those of a list

pub least-first : (xs : List ℕ) (a : ℕ) → fold lesser a xs ≤ a
least-first [] a = omega arith
least-first (x ∷ xs) a = let more = least-first xs (lesser a x) in let one = lesser-left a x in omega (arith, more, one)

pub least-each : (xs : List ℕ) (a i x : ℕ) → slice_get xs i ≡ Some x → fold lesser a xs ≤ x
least-each [] a i x h = cc
least-each (y ∷ xs) a zero x h =
    let is : y ≡ x = same_Some y x h in
    let more = least-first xs (lesser a y) in
    let one = lesser-right a y in
    omega (arith, more, one, is)
least-each (y ∷ xs) a (suc i) x h = least-each xs (lesser a y) i x h

pub least-least : (xs : List ℕ) (a k : ℕ) → k ≤ a → ((i x : ℕ) → slice_get xs i ≡ Some x → k ≤ x) → k ≤ fold lesser a xs
least-least [] a k le each = le
least-least (y ∷ xs) a k le each = least-least xs (lesser a y) k (lesser-least k a y le (each 0 y refl)) (λ i x h. each (suc i) x h)

-- the first kept file never falls, and is one of the log's

pub kept_from-rises : (servers : List Server) (n file : ℕ) (s : Server) → s.first ≤ kept_from servers n file s
kept_from-rises servers n file s = greater-left s.first (least_read servers n file)

pub kept_from-within : (servers : List Server) (n file : ℕ) (s : Server) → s.first ≤ s.log.log.files → file ≤ s.log.log.files → kept_from servers n file s ≤ s.log.log.files
kept_from-within servers n file s first high =
    let least = least-first (files_read servers n) file in
    greater-most s.log.log.files s.first (least_read servers n file) first (omega (arith, least, high))

-- the file of a server that reads is among those that are looked at, and each of these is a reading server's

pub read-listed : (servers : List Server) (n m : ℕ) (r : Server) → slice_get servers m ≡ Some r → is_reading n r ≡ true → (i : ℕ) × (slice_get (files_read servers n) i ≡ Some r.read.file)
read-listed [] n m r h on = cc
read-listed (s ∷ ss) n zero r h on =
    let is : s ≡ r = same_Some s r h in (
      0,
      ap (λ (b : Bool). slice_get (map (λ (x : Server). x.read.file) (cond b (s ∷ filter (is_reading n) ss) (filter (is_reading n) ss))) 0) (ap (is_reading n) is ∙ on)
          ∙ ap (λ (x : Server). Some x.read.file) is,
    )
read-listed (s ∷ ss) n (suc m) r h on = go (is_reading n s) (read-listed ss n m r h on)
  where
    go : (b : Bool) → (i : ℕ) × (slice_get (files_read ss n) i ≡ Some r.read.file)
        → (i : ℕ) × (slice_get (map (λ (x : Server). x.read.file) (cond b (s ∷ filter (is_reading n) ss) (filter (is_reading n) ss))) i ≡ Some r.read.file)
    go true more = (suc more.0, more.1)
    go false more = more

pub listed-read : (servers : List Server) (n i file : ℕ) → slice_get (files_read servers n) i ≡ Some file
    → (m : ℕ) × (r : Server) × (slice_get servers m ≡ Some r) × (is_reading n r ≡ true) × (r.read.file ≡ file)
listed-read [] n i file h = cc
listed-read (s ∷ ss) n i file h = go (is_reading n s) refl i h (λ j e. listed-read ss n j file e)
  where
    go : (b : Bool) → is_reading n s ≡ b → (j : ℕ) → slice_get (map (λ (x : Server). x.read.file) (cond b (s ∷ filter (is_reading n) ss) (filter (is_reading n) ss))) j ≡ Some file
        → ((k : ℕ) → slice_get (files_read ss n) k ≡ Some file → (m : ℕ) × (r : Server) × (slice_get ss m ≡ Some r) × (is_reading n r ≡ true) × (r.read.file ≡ file))
        → (m : ℕ) × (r : Server) × (slice_get (s ∷ ss) m ≡ Some r) × (is_reading n r ≡ true) × (r.read.file ≡ file)
    go true is zero e more = (0, s, refl, is, same_Some s.read.file file e)
    go true is (suc j) e more = let rest = more j e in (suc rest.0, rest.1, rest.2, rest.3, rest.4)
    go false is j e more = let rest = more j e in (suc rest.0, rest.1, rest.2, rest.3, rest.4)

-- what the code answers
pub purge-answered : (w : World) (servers : List Server) (gtid : Bool) (errant n file : ℕ) (s : Server) (first : ℕ) → record { servers = servers; gtid = gtid; errant = errant } ≡ w
    → slice_get servers n ≡ Some s → s.up ≡ true → s.settings.logs ≡ true → file ≤ s.log.log.files → first ≡ kept_from servers n file s
    → purging.Done first ≡ purge_answer w n file (server_at w n)
purge-answered w servers gtid errant n file s first view here up logs within is =
    subst (λ (v : World). purging.Done first ≡ purge_answer v n file (server_at v n)) view
    (ap (λ (k : ℕ). purging.Done k) is ∙ sym (ap (purge_answer (record { servers = servers; gtid = gtid; errant = errant }) n file) here ∙ tests))
  where
    past : nat_lt s.log.log.files file ≡ false
    past = grind (arith, nat_tests)

    tests : purge_answer (record { servers = servers; gtid = gtid; errant = errant }) n file (Some s) ≡ purging.Done (kept_from servers n file s)
    tests =
        ap (λ a. cond (not a) purging.Down (cond (not s.settings.logs) purging.NotLogging (cond (nat_lt s.log.log.files file) purging.NoFile (purging.Done (kept_from servers n file s))))) up
        ∙ ap (λ b. cond (not b) purging.NotLogging (cond (nat_lt s.log.log.files file) purging.NoFile (purging.Done (kept_from servers n file s)))) logs
        ∙ ap (λ c. cond c purging.NoFile (purging.Done (kept_from servers n file s))) past
