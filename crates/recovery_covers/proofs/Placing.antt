-- What it means for each replica that an outcome covers them.
use Rattle.std.proofs.Common.{◌≡◌, ℕ, ◌+◌, ◌<◌, ◌≤◌, Bool, true, false, cond, zero, suc, List, refl, sym, ◌⊎◌, inl, inr, arith, ◌==◌}
use Rattle.recovery_covers.proofs.Prelude.{All-contains, Contains, Covers, Follower, HasOnePlace, IsOnceIn, Outcome, Purpose, ServerNo, World, eqb-true}
use Rattle.recovery_covers.proofs.Prelude.{follower_nos, is_takeover, leader, lost_nos, owed, times}
use Rattle.recovery_covers.proofs.Times.{self-all}
use Rattle.recovery_covers.proofs.Prelude.purpose

one-of : (a b c : ℕ) → a + (b + c) ≡ 1 → IsOnceIn a b c
one-of zero zero c h = inr (inr (refl, refl, omega (arith, h)))
one-of zero (suc b) c h = inr (inl (refl, omega (arith, h), omega (arith, h)))
one-of (suc a) b c h = inl (omega (arith, h), omega (arith, h), omega (arith, h))

-- the outcome owes the replicas a place, and an old master too
owed-more : (u : Purpose) (f : ServerNo) (ns : List ServerNo) (n : ℕ) → times n ns ≤ times n (owed u f ns)
owed-more purpose.Regroup f ns n = omega arith
owed-more _ f ns n = omega arith

owed-only : (u : Purpose) (f : ServerNo) (ns : List ServerNo) (n : ℕ) → 0 < times n (owed u f ns) → (0 < times n ns) ⊎ ((is_takeover u ≡ true) × (n ≡ f.0))
owed-only (purpose.Takeover d) f ns n h = go (f.0 == n) refl h
  where
    go : (b : Bool) → (f.0 == n) ≡ b → 0 < cond b 1 0 + times n ns → (0 < times n ns) ⊎ ((is_takeover (purpose.Takeover d) ≡ true) × (n ≡ f.0))
    go true e g = inr (refl, sym (eqb-true f.0 n e))
    go false e g = inl (omega (arith, g))
owed-only _ f ns n h = inl h

module _ (w : World) (u : Purpose) (f : ServerNo) (ns : List ServerNo) (o : Outcome) (c : Covers w u f ns o) where
  pub server-placed : (n : ℕ) → 0 < times n (owed u f ns) → HasOnePlace u o n
  server-placed n h =
      one-of (times n (leader u o.promoted)) (times n (follower_nos o.followers)) (times n (lost_nos o.lost))
      (let e = c.once n in let most = c.replicas.distinct n in omega (arith, e, most, h))

  pub replica-placed : (n : ℕ) → 0 < times n ns → HasOnePlace u o n
  replica-placed n h = server-placed n (let more = owed-more u f ns n in omega (arith, more, h))

  pub follower-owed : (x : Follower) → Contains o.followers x → (0 < times x.no.0 ns) ⊎ ((is_takeover u ≡ true) × (x.no.0 ≡ f.0))
  follower-owed x has =
      owed-only u f ns x.no.0
      (let e = c.once x.no.0 in
      let some : 0 < times x.no.0 (follower_nos o.followers) = All-contains (λ (y : Follower). 0 < times y.no.0 (follower_nos o.followers)) o.followers x (self-all (λ (y : Follower). y.no) o.followers) has in
      omega (arith, e, some))
