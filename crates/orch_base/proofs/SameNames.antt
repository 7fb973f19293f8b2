-- Names are the same exactly if they are equal.
use Rattle.std.proofs.lemmas.Bool.{and_parts as both, eqb-true}
use Rattle.std.proofs.Common.{◌≡◌, true, eqb, refl, sym, subst, eq-eqb, ◌↔◌, nat_eq, IsTrue}
use Rattle.std.specs.Cmp.Lexicographic.{pointwise, same_text, nat_list_eq_equiv}
use Rattle.orch_base.specs.Names.{HostPort, same_name}

equal : (a b : HostPort) → same_name a b ≡ true → a ≡ b
equal a b e =
    let parts = both (pointwise nat_eq a.host b.host) (eqb a.port b.port) e in
    let hosts = same_text a.host b.host (sym parts.0) in
    let ports = eqb-true _ _ parts.1 in
    λ i. record { host = hosts i; port = ports i }

pub same_as_itself : (a : HostPort) → same_name a a ≡ true
same_as_itself a = rw (nat_list_eq_equiv.refl a.host) (eq-eqb a.port a.port refl)

pub same_name_tells : (a b : HostPort) → IsTrue (same_name a b) ↔ (a ≡ b)
same_name_tells a b = (equal a b, λ e. subst (λ (x : HostPort). same_name a x ≡ true) e (same_as_itself a))
