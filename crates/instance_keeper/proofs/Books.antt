-- What keeps a book a book.
use Rattle.std.proofs.Common.{◌≡◌, ℕ, suc, zero, ◌+◌, ◌<◌, ◌^◌, Bool, true, List, [], ◌∷◌, length, get_or, replicate, Option, None, Some, refl, sym, ap, ◌∙◌, subst, All, zero-add, add-zero, arith}
use Rattle.std.specs.Prelude.{IfSome, slice_set, option_map, unwrap_or}
use Rattle.instance_keeper.proofs.Prelude.{All-head, All-replicate, All-set, All-tail, BookState, Bridge, Candidate, Change, Downtime, HasKnownSource}
use Rattle.instance_keeper.proofs.Prelude.{Instance, IsBook, IsNumbered, Key, Observation, Row, ServerNo, Settings, Status as Seen, Table}
use Rattle.instance_keeper.proofs.Prelude.{after_change, after_put, after_removal, are_known, empty_book, fits, instance_at}
use Rattle.instance_keeper.proofs.Prelude.{length-map, length-replicate, length-set, names_of, observed_servers, renewed, rest_known, row_fits}
use Rattle.instance_keeper.proofs.Prelude.{seen_servers, source_servers}
use Rattle.instance_keeper.proofs.Prelude.change
use Rattle.instance_keeper.proofs.Prelude.key
use Rattle.instance_keeper.proofs.Prelude.row
use Rattle.instance_keeper.proofs.Prelude.table

pub numbered_set : {A : Type 0} (no_of : A → ServerNo) (from n : ℕ) (x : Option A) (xs : List (Option A)) → IsNumbered no_of from xs → IfSome x (λ a. (no_of a).0 ≡ from + n) → IsNumbered no_of from (slice_set xs n x)
numbered_set no_of from n x [] h own = h
numbered_set no_of from zero x (y ∷ ys) h own = (subst (λ k. IfSome x (λ a. (no_of a).0 ≡ k)) (add-zero from) own, h.1)
numbered_set no_of from (suc n) x (y ∷ ys) h own =
    let shift : from + suc n ≡ from + 1 + n = omega arith in
    (h.0, numbered_set no_of (from + 1) n x ys h.1 (subst (λ k. IfSome x (λ a. (no_of a).0 ≡ k)) shift own))

pub numbered_none : {A : Type 0} (no_of : A → ServerNo) (from count : ℕ) → IsNumbered no_of from (replicate count None)
numbered_none no_of from zero = tt
numbered_none no_of from (suc count) = (tt, numbered_none no_of (from + 1) count)

pub numbered_at : {A : Type 0} (no_of : A → ServerNo) (from n : ℕ) (xs : List (Option A)) → IsNumbered no_of from xs → IfSome (get_or xs n None) (λ a. (no_of a).0 ≡ from + n)
numbered_at no_of from n [] h = tt
numbered_at no_of from zero (y ∷ ys) h = subst (λ k. IfSome y (λ a. (no_of a).0 ≡ k)) (sym (add-zero from)) h.0
numbered_at no_of from (suc n) (y ∷ ys) h =
    let shift : from + 1 + n ≡ from + suc n = omega arith in
    subst (λ k. IfSome (get_or ys n None) (λ a. (no_of a).0 ≡ k)) shift (numbered_at no_of (from + 1) n ys h.1)

pub empty_is : (settings : List Settings) → length settings < 2 ^ 32 → IsBook (empty_book settings)
empty_is settings small =
    let len : length settings ≡ length (names_of settings) = sym (length-map settings (λ s. s.name)) in
    record {
      small = omega (arith, small, len);
      named = refl;
      instances = length-replicate (length settings) None ∙ len;
      downtimes = length-replicate (length settings) None ∙ len;
      candidates = length-replicate (length settings) None ∙ len;
      rings = length-replicate {A = List Bridge} (length settings) [] ∙ len;
      leases = length-replicate {A = Option ℕ} (length settings) None ∙ len;
      instance_numbers = numbered_none (λ i. i.no) 0 (length settings);
      downtime_numbers = numbered_none (λ d. d.no) 0 (length settings);
      candidate_numbers = numbered_none (λ c. c.no) 0 (length settings);
      sources = All-replicate (HasKnownSource (length (names_of settings))) (length settings) None tt;
    }

-- a book in which a server's place takes a value of its own
pub instance_set : (b : BookState) (n : ℕ) (x : Option Instance) → IsBook b → IfSome x (λ i. i.no.0 ≡ n) → HasKnownSource (length b.names) x → IsBook (record b { instances = slice_set b.instances n x })
instance_set b n x is own known = record {
  small = is.small;
  named = is.named;
  instances = length-set b.instances n x ∙ is.instances;
  downtimes = is.downtimes;
  candidates = is.candidates;
  rings = is.rings;
  leases = is.leases;
  instance_numbers = numbered_set (λ i. i.no) 0 n x b.instances is.instance_numbers (subst (λ k. IfSome x (λ i. i.no.0 ≡ k)) (sym (zero-add n)) own);
  downtime_numbers = is.downtime_numbers;
  candidate_numbers = is.candidate_numbers;
  sources = All-set (HasKnownSource (length b.names)) b.instances n x known is.sources;
}

-- the book without a row, from its parts
pub empty_from : (count : ℕ) (settings wanted : List Settings) (instances : List (Option Instance)) (downtimes : List (Option Downtime)) (candidates : List (Option Candidate)) (rings : List (List Bridge)) (leases : List (Option ℕ))
    → settings ≡ wanted → length wanted ≡ count → instances ≡ replicate count None → downtimes ≡ replicate count None → candidates ≡ replicate count None → rings ≡ replicate count [] → leases ≡ replicate count None
    → record { settings = settings; names = names_of settings; instances = instances; downtimes = downtimes; candidates = candidates; switch = None; rings = rings; leases = leases } ≡ empty_book wanted
empty_from count settings wanted instances downtimes candidates rings leases n len i d c r l =
    let i2 : instances ≡ replicate (length wanted) None = i ∙ ap (λ k. replicate k None) (sym len) in
    let d2 : downtimes ≡ replicate (length wanted) None = d ∙ ap (λ k. replicate k None) (sym len) in
    let c2 : candidates ≡ replicate (length wanted) None = c ∙ ap (λ k. replicate k None) (sym len) in
    let r2 : rings ≡ replicate (length wanted) [] = r ∙ ap (λ k. replicate k []) (sym len) in
    let l2 : leases ≡ replicate (length wanted) None = l ∙ ap (λ k. replicate k None) (sym len) in
    cc

pub empty_from_is : (count : ℕ) (settings wanted : List Settings) (instances : List (Option Instance)) (downtimes : List (Option Downtime)) (candidates : List (Option Candidate)) (rings : List (List Bridge)) (leases : List (Option ℕ))
    → settings ≡ wanted → length wanted ≡ count → count < 2 ^ 32 → instances ≡ replicate count None → downtimes ≡ replicate count None → candidates ≡ replicate count None → rings ≡ replicate count [] → leases ≡ replicate count None
    → IsBook (record { settings = settings; names = names_of settings; instances = instances; downtimes = downtimes; candidates = candidates; switch = None; rings = rings; leases = leases })
empty_from_is count settings wanted instances downtimes candidates rings leases n len small i d c r l =
    subst IsBook (sym (empty_from count settings wanted instances downtimes candidates rings leases n len i d c r l)) (empty_is wanted (omega (arith, len, small)))

pub downtime_set : (b : BookState) (n : ℕ) (x : Option Downtime) → IsBook b → IfSome x (λ d. d.no.0 ≡ n) → IsBook (record b { downtimes = slice_set b.downtimes n x })
downtime_set b n x is own = record {
  small = is.small;
  named = is.named;
  instances = is.instances;
  downtimes = length-set b.downtimes n x ∙ is.downtimes;
  candidates = is.candidates;
  rings = is.rings;
  leases = is.leases;
  instance_numbers = is.instance_numbers;
  downtime_numbers = numbered_set (λ d. d.no) 0 n x b.downtimes is.downtime_numbers (subst (λ k. IfSome x (λ d. d.no.0 ≡ k)) (sym (zero-add n)) own);
  candidate_numbers = is.candidate_numbers;
  sources = is.sources;
}

pub candidate_set : (b : BookState) (n : ℕ) (x : Option Candidate) → IsBook b → IfSome x (λ c. c.no.0 ≡ n) → IsBook (record b { candidates = slice_set b.candidates n x })
candidate_set b n x is own = record {
  small = is.small;
  named = is.named;
  instances = is.instances;
  downtimes = is.downtimes;
  candidates = length-set b.candidates n x ∙ is.candidates;
  rings = is.rings;
  leases = is.leases;
  instance_numbers = is.instance_numbers;
  downtime_numbers = is.downtime_numbers;
  candidate_numbers = numbered_set (λ c. c.no) 0 n x b.candidates is.candidate_numbers (subst (λ k. IfSome x (λ c. c.no.0 ≡ k)) (sym (zero-add n)) own);
  sources = is.sources;
}

pub switch_set : (b : BookState) (x : Option Bool) → IsBook b → IsBook (record b { switch = x })
switch_set b x is = record {
  small = is.small;
  named = is.named;
  instances = is.instances;
  downtimes = is.downtimes;
  candidates = is.candidates;
  rings = is.rings;
  leases = is.leases;
  instance_numbers = is.instance_numbers;
  downtime_numbers = is.downtime_numbers;
  candidate_numbers = is.candidate_numbers;
  sources = is.sources;
}

pub rings_set : (b : BookState) (n : ℕ) (x : List Bridge) → IsBook b → IsBook (record b { rings = slice_set b.rings n x })
rings_set b n x is = record {
  small = is.small;
  named = is.named;
  instances = is.instances;
  downtimes = is.downtimes;
  candidates = is.candidates;
  rings = length-set b.rings n x ∙ is.rings;
  leases = is.leases;
  instance_numbers = is.instance_numbers;
  downtime_numbers = is.downtime_numbers;
  candidate_numbers = is.candidate_numbers;
  sources = is.sources;
}

pub leases_set : (b : BookState) (xs : List (Option ℕ)) → IsBook b → length xs ≡ length b.leases → IsBook (record b { leases = xs })
leases_set b xs is same = record {
  small = is.small;
  named = is.named;
  instances = is.instances;
  downtimes = is.downtimes;
  candidates = is.candidates;
  rings = is.rings;
  leases = same ∙ is.leases;
  instance_numbers = is.instance_numbers;
  downtime_numbers = is.downtime_numbers;
  candidate_numbers = is.candidate_numbers;
  sources = is.sources;
}

pub put_is : (b : BookState) (r : Row) → IsBook b → row_fits (length b.names) r ≡ true → IsBook (after_put b r)
put_is b (row.Instance i) is h = instance_set b i.no.0 (Some i) is refl (rest_known (length b.names) i.no.0 (source_servers i.seen.source) h)
put_is b (row.Downtime d) is h = downtime_set b d.no.0 (Some d) is refl
put_is b (row.Candidate c) is h = candidate_set b c.no.0 (Some c) is refl
put_is b (row.Recovery r) is h = is
put_is b (row.Switch enabled) is h = switch_set b (Some enabled) is
put_is b (row.Active node until) is h = is

pub removal_is : (b : BookState) (t : Table) (k : Key) → IsBook b → IsBook (after_removal b t k)
removal_is b table.Instance (key.Server n) is = rings_set (record b { instances = slice_set b.instances n.0 None }) n.0 [] (instance_set b n.0 None is tt tt)
removal_is b table.Downtime (key.Server n) is = downtime_set b n.0 None is tt
removal_is b table.Candidate (key.Server n) is = candidate_set b n.0 None is tt
removal_is b table.Switch key.Global is = switch_set b None is
removal_is b _ _ is = is

-- the same from what the code has found
pub put_kept : (b view : BookState) (r : Row) (i : Instance) (now : List (Option Instance)) → b ≡ view → IsBook b → row_fits (length view.names) r ≡ true → r ≡ row.Instance i → now ≡ slice_set b.instances i.no.0 (Some i) → IsBook (record b { instances = now })
put_kept b view r i now same is h own e =
    let h2 : row_fits (length b.names) (row.Instance i) ≡ true = subst (λ v. row_fits (length v.names) (row.Instance i) ≡ true) (sym same) (subst (λ x. row_fits (length view.names) x ≡ true) own h) in
    subst (λ l. IsBook (record b { instances = l })) (sym e) (put_is b (row.Instance i) is h2)

pub none_kept : (b : BookState) (n : ℕ) (now : List (Option Instance)) → IsBook b → now ≡ slice_set b.instances n None → IsBook (record b { instances = now })
none_kept b n now is e = subst (λ l. IsBook (record b { instances = l })) (sym e) (instance_set b n None is tt tt)

pub none_ringed : (b : BookState) (n : ℕ) (now : List (Option Instance)) (rings : List (List Bridge)) → IsBook b → now ≡ slice_set b.instances n None → rings ≡ slice_set b.rings n []
    → IsBook (record b { instances = now; rings = rings })
none_ringed b n now rings is e r = subst (λ l. IsBook (record b { instances = now; rings = l })) (sym r) (rings_set (record b { instances = now }) n [] (none_kept b n now is e))

source_known : (count : ℕ) (s : Option Seen) (kept : Seen) → are_known count (source_servers kept.source) ≡ true → are_known count (seen_servers s) ≡ true → are_known count (source_servers (unwrap_or s kept).source) ≡ true
source_known count None kept h g = h
source_known count (Some s) kept h g = g

renewed_known : (count : ℕ) (o : Observation) (x : Option Instance) → HasKnownSource count x → are_known count (seen_servers o.seen) ≡ true → HasKnownSource count (option_map (λ i. renewed i o) x)
renewed_known count o None h g = tt
renewed_known count o (Some i) h g = source_known count o.seen i.seen h g

renewed_own : (o : Observation) (x : Option Instance) → IfSome (option_map (λ i. renewed i o) x) (λ i. i.no.0 ≡ o.no.0)
renewed_own o None = tt
renewed_own o (Some i) = refl

pub known_at : (b : BookState) (n : ℕ) → IsBook b → HasKnownSource (length b.names) (get_or b.instances n None)
known_at b n is = known_in (length b.names) n b.instances is.sources
  where
    known_in : (count n : ℕ) (xs : List (Option Instance)) → All (HasKnownSource count) xs → HasKnownSource count (get_or xs n None)
    known_in count n [] h = tt
    known_in count zero (x ∷ xs) h = All-head (HasKnownSource count) x xs h
    known_in count (suc n) (x ∷ xs) h = known_in count n xs (All-tail (HasKnownSource count) x xs h)

abbrev pub renewed_at : BookState → Observation → Option Instance
renewed_at b o = option_map (λ i. renewed i o) (instance_at b o.no)

pub renewal_kept : (b view : BookState) (o : Observation) (now : List (Option Instance)) → b ≡ view → IsBook b → are_known (length view.names) (observed_servers o) ≡ true → now ≡ slice_set b.instances o.no.0 (renewed_at b o)
    → IsBook (record b { instances = now })
renewal_kept b view o now same is h e =
    let h2 : are_known (length b.names) (observed_servers o) ≡ true = subst (λ v. are_known (length v.names) (observed_servers o) ≡ true) (sym same) h in
    let g : are_known (length b.names) (seen_servers o.seen) ≡ true = rest_known (length b.names) o.no.0 (seen_servers o.seen) h2 in
    subst (λ l. IsBook (record b { instances = l })) (sym e)
    (instance_set b o.no.0 (renewed_at b o) is (renewed_own o (instance_at b o.no)) (renewed_known (length b.names) o (instance_at b o.no) (known_at b o.no.0 is) g))

pub renewal_gives : (b view : BookState) (o : Observation) (now : List (Option Instance)) → b ≡ view → now ≡ slice_set b.instances o.no.0 (renewed_at b o)
    → record b { instances = now } ≡ record view { instances = slice_set view.instances o.no.0 (renewed_at view o) }
renewal_gives b view o now same e =
    ap (λ (l : List (Option Instance)). record b { instances = l }) e
    ∙ ap (λ (v : BookState). record v { instances = slice_set v.instances o.no.0 (renewed_at v o) }) same

pub change_is : (b : BookState) (c : Change) → IsBook b → fits (length b.names) c ≡ true → IsBook (after_change b c)
change_is b (change.Put r) is h = put_is b r is h
change_is b (change.Remove t k) is h = removal_is b t k is
