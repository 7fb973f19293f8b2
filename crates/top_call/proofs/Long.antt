-- A source with more bytes than a scenario may have.
use Rattle.std.proofs.Common.{◌≡◌, ◌∙◌, ℕ, ◌+◌, zero, suc, Bool, true, false, List, [], ◌∷◌, length, Option, Some, None, Ok, Err, refl, sym, ap, subst, cond, arith, nat_lt, nat_le, IfSome, Result}
use Rattle.top_call.proofs.Prelude.{Fault, Gives, MAX_SCENARIO_LEN, NotRead, OfRead, ReadFault, ReadsAs, Scenario, Stop, TooLong, fault_of}
use Rattle.top_call.proofs.Prelude.{length_fault, nat_tests, same_Some, scenario_in, stop_by, whole}
use Rattle.top_call.proofs.Prelude.not_read
use Rattle.top_call.proofs.Prelude.reading
use Rattle.top_call.proofs.Prelude.stops

abbrev too_long_fault : Fault
too_long_fault = record { code = TooLong; path = [] }

not_short : (n m : ℕ) → nat_lt m n ≡ true → nat_le n m ≡ false
not_short n m h = grind (arith, nat_tests)

scenario_in_too_long : (bytes : List ℕ) → nat_lt MAX_SCENARIO_LEN (length bytes) ≡ true → scenario_in bytes ≡ Err too_long_fault
unfolding scenario_in
scenario_in_too_long bytes long = rw (not_short (length bytes) MAX_SCENARIO_LEN long) refl

is_long : (b : Bool) (bytes : List ℕ) → cond {A = Result (List ℕ) NotRead} b (Err not_read.TooLong) (Ok bytes) ≡ Err not_read.TooLong → b ≡ true
is_long true bytes h = refl
is_long false bytes h = absurd cc

-- it has that fault
long_at : (bytes : List ℕ) (e : NotRead) → e ≡ not_read.TooLong → Gives {X = List ℕ} {Y = List ℕ} (λ v. v) length_fault (Err e) (whole bytes) → scenario_in bytes ≡ Err too_long_fault
long_at bytes e is h =
    let read : whole bytes ≡ Err not_read.TooLong = rw is at h in
    scenario_in_too_long bytes (is_long (nat_lt MAX_SCENARIO_LEN (length bytes)) bytes read)

stop_of_long : (fault : ReadFault) → fault_of fault ≡ Some too_long_fault → stop_by fault ≡ stops.Fault too_long_fault
stop_of_long reading.Memory h = absurd cc
stop_of_long (reading.Fault f) h = ap stops.Fault (same_Some f too_long_fault h)

-- there is such a text
text_of : (n : ℕ) → (bytes : List ℕ) × (length bytes ≡ n)
text_of zero = ([], refl)
text_of (suc n) = let rest = text_of n in (0 ∷ rest.0, ap (λ (k : ℕ). suc k) rest.1)

long_text : (bytes : List ℕ) × (nat_lt MAX_SCENARIO_LEN (length bytes) ≡ true)
long_text = go (text_of (MAX_SCENARIO_LEN + 1))
  where
    go : (bytes : List ℕ) × (length bytes ≡ MAX_SCENARIO_LEN + 1) → (bytes : List ℕ) × (nat_lt MAX_SCENARIO_LEN (length bytes) ≡ true)
    go x = (x.0, subst (λ (n : ℕ). nat_lt MAX_SCENARIO_LEN n ≡ true) (sym x.1) refl)

pub too_long_read : (left : Option (List ℕ)) (e : NotRead) (fault : ReadFault) (stop : Stop) → e ≡ not_read.TooLong → fault_of fault ≡ Some too_long_fault → stop ≡ stop_by fault
    → IfSome left (λ bytes. Gives {X = List ℕ} {Y = List ℕ} (λ v. v) length_fault (Err e) (whole bytes)) → OfRead left (λ bytes. ReadsAs (scenario_in bytes) (Err stop))
too_long_read None e fault stop is long by h = go long_text
  where
    go : (bytes : List ℕ) × (nat_lt MAX_SCENARIO_LEN (length bytes) ≡ true) → OfRead None (λ bytes. ReadsAs (scenario_in bytes) (Err stop))
    go x = (x.0, subst (λ y. ReadsAs (scenario_in x.0) (Err y)) (sym (by ∙ stop_of_long fault long)) (scenario_in_too_long x.0 x.1))
too_long_read (Some bytes) e fault stop is long by h = subst (λ x. ReadsAs (scenario_in bytes) (Err x)) (sym (by ∙ stop_of_long fault long)) (long_at bytes e is h)

-- ---- bytes that were read

is_whole : (b : Bool) (bytes v : List ℕ) → cond {A = Result (List ℕ) NotRead} b (Err not_read.TooLong) (Ok bytes) ≡ Ok v → v ≡ bytes
is_whole true bytes v h = absurd cc
is_whole false bytes v h = cc

pub of_read : (left : Option (List ℕ)) (v : List ℕ) (r : Result Scenario Stop) → IfSome left (λ bytes. whole bytes ≡ Ok v) → ReadsAs (scenario_in v) r → OfRead left (λ bytes. ReadsAs (scenario_in bytes) r)
of_read None v r told reads = (v, reads)
of_read (Some bytes) v r told reads = subst (λ (x : List ℕ). ReadsAs (scenario_in x) r) (is_whole (nat_lt MAX_SCENARIO_LEN (length bytes)) bytes v told) reads
