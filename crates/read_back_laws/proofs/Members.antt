-- What is in an object of given members.
use Rattle.std.proofs.Common.{◌≡◌, ◌∙◌, ℕ, Bool, true, false, List, Option, Some, None, Ok, refl, sym, ap, nat_eq}
use Rattle.read_back_laws.proofs.Prelude.{Data, Equal, Greater, Less, Members, Ordering, false≢true, get_member, get_member-put, get_member-put_other, is_key}
use Rattle.read_back_laws.proofs.Prelude.{match_ordering, member, nat_cmp, no_members, only_keys, pointwise, put, slice_cmp, with_given}

pub apart : (q k : List ℕ) → pointwise nat_eq q k ≡ false → pointwise nat_eq k k ≡ true → q ≡ k → ⊥
apart q k differs equal same = false≢true (sym differs ∙ ap (λ x. pointwise nat_eq x k) same ∙ equal)

pub get-given : (k : List ℕ) (o : Option Data) (ms : Members) → get_member k ms ≡ None → get_member k (with_given k o ms) ≡ o
get-given k None ms none = none
get-given k (Some d) ms none = get_member-put k d ms

pub get-other : (q k : List ℕ) (o : Option Data) (ms : Members) → (q ≡ k → ⊥) → get_member q (with_given k o ms) ≡ get_member q ms
get-other q k None ms other = refl
get-other q k (Some d) ms other = get_member-put_other q k d ms other

keys-put : (known : List (List ℕ)) (k : List ℕ) (d : Data) (ms : Members) → is_key known k ≡ true → only_keys known ms ≡ Ok tt → only_keys known (put k d ms) ≡ Ok tt
keys-put known k d no_members e f = rw e refl
keys-put known k d (member l x ms) e f = by (slice_cmp nat_cmp k l) (is_key known l) refl f (keys-put known k d ms e)
  where
    by : (o : Ordering) (b : Bool) → is_key known l ≡ b → only_keys known (member l x ms) ≡ Ok tt → (only_keys known ms ≡ Ok tt → only_keys known (put k d ms) ≡ Ok tt) → only_keys known (match_ordering o (member k d (member l x ms)) (member l d ms) (member l x (put k d ms))) ≡ Ok tt
    by Less b g all more = rw e all
    by Equal true g all more = let rest : only_keys known ms ≡ Ok tt = rw g at all in rw (g, rest) refl
    by Equal false g all more = absurd (let no = rw g at all in cc)
    by Greater true g all more = let rest : only_keys known ms ≡ Ok tt = rw g at all in rw g (more rest)
    by Greater false g all more = absurd (let no = rw g at all in cc)

pub keys-given : (known : List (List ℕ)) (k : List ℕ) (o : Option Data) (ms : Members) → is_key known k ≡ true → only_keys known ms ≡ Ok tt → only_keys known (with_given k o ms) ≡ Ok tt
keys-given known k None ms e f = f
keys-given known k (Some d) ms e f = keys-put known k d ms e f
