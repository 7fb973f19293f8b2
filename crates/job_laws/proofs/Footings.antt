-- What one may count on grows, and the operations that are left keep `Held`.
use Rattle.std.proofs.Common.{◌≡◌, ℕ, Bool, true, false, cond, List, [], ◌∷◌, refl, ◌∙◌, ap, Option, Some, None, ◌&&◌, ◌||◌, ◌==◌, is_some}
use Rattle.job_laws.proofs.Prelude.{Aim, Crossing, Deed, Footing, Op, Position, ServerNo, Sight, Within, World, and_parts, are_held, both, cond-mono}
use Rattle.job_laws.proofs.Prelude.{deed_of, false≢true, finds, finds_aim, finds_crossing, footing, is_under, learn, logging, looking, or-at, or-mono}
use Rattle.job_laws.proofs.Prelude.{or-right, reading, seen-at, seen_of, some-mono, source_no, source_shown, with_seen}
use Rattle.job_laws.proofs.Prelude.aim
use Rattle.job_laws.proofs.Prelude.cross
use Rattle.job_laws.proofs.Prelude.deed

-- both of two that are sure
two : (a b a' b' : Bool) → (a ≡ true → a' ≡ true) → (b ≡ true → b' ≡ true) → (a && b) ≡ true → (a' && b') ≡ true
two a b a' b' p q h = let parts = and_parts a b h in both a' b' (p parts.0) (q parts.1)

-- an aim rests on what was read and on who logs alone
pub aim-by : (f g : Footing) → ((n : ℕ) → f.logs n ≡ true → g.logs n ≡ true) → ((n : ℕ) → f.read n ≡ true → g.read n ≡ true) → (a : Aim) → finds_aim f a ≡ true → finds_aim g a ≡ true
aim-by f g logs read (aim.EndOf n) h = two (f.read n.0) (f.logs n.0) (g.read n.0) (g.logs n.0) (read n.0) (logs n.0) h
aim-by f g logs read (aim.ExecOf n) h = read n.0 h

module _ (f g : Footing) (le : Within f g) where
  sourced : (n : ℕ) → is_some (f.under n) ≡ true → is_some (g.under n) ≡ true
  sourced n h = some-mono (f.under n) (g.under n) (le.under n) h

  named : (n m : ℕ) → is_under (f.under n) m ≡ true → is_under (g.under n) m ≡ true
  named n m h = go (f.under n) refl h
    where
      go : (o : Option ℕ) → f.under n ≡ o → is_under o m ≡ true → is_under (g.under n) m ≡ true
      go None e h = absurd (false≢true h)
      go (Some k) e h = ap (λ o. is_under o m) (le.under n k e) ∙ h

  aim-mono : (a : Aim) → finds_aim f a ≡ true → finds_aim g a ≡ true
  aim-mono a h = aim-by f g le.logs le.read a h

  crossing-mono : (c : Crossing) (a b : ServerNo) → finds_crossing f c a b ≡ true → finds_crossing g c a b ≡ true
  crossing-mono cross.Up a b h = two (is_some (f.under b.0)) (f.logs b.0) (is_some (g.under b.0)) (g.logs b.0) (sourced b.0) (le.logs b.0) h
  crossing-mono cross.Down a b h = two (is_some (f.under b.0)) (f.logs b.0) (is_some (g.under b.0)) (g.logs b.0) (sourced b.0) (le.logs b.0) h
  crossing-mono cross.About a b h = two (is_under (f.under b.0) a.0) (f.logs b.0) (is_under (g.under b.0) a.0) (g.logs b.0) (named b.0 a.0) (le.logs b.0) h
  crossing-mono cross.Back a b h = two (is_under (f.under a.0) b.0) (f.logs a.0) (is_under (g.under a.0) b.0) (g.logs a.0) (named a.0 b.0) (le.logs a.0) h

  pub finds-mono : (d : Deed) → finds f d ≡ true → finds g d ≡ true
  finds-mono (deed.Until n to) h = two (f.read n.0) (finds_aim f to) (g.read n.0) (finds_aim g to) (le.read n.0) (aim-mono to) h
  finds-mono (deed.Await n to) h = aim-mono to h
  finds-mono (deed.AwaitSet n m) h = le.read m.0 h
  finds-mono (deed.Cross c a b) h = crossing-mono c a b h
  finds-mono (deed.Same n) h = sourced n.0 h
  finds-mono (deed.Auto n m) h =
      two f.gtid (f.read m.0 && f.logs m.0) g.gtid (g.read m.0 && g.logs m.0) le.gtid
      (two (f.read m.0) (f.logs m.0) (g.read m.0) (g.logs m.0) (le.read m.0) (le.logs m.0)) h
  finds-mono (deed.CrossMatch n m) h = le.logs m.0 h
  finds-mono _ h = refl

  pub reading-mono : (n : ServerNo) (u : Option ℕ) → Within (reading f n u) (reading g n u)
  reading-mono n u = record {
    gtid = le.gtid;
    logs = le.logs;
    read = λ k h. or-mono (n.0 == k) (f.read k) (g.read k) (le.read k) h;
    under = λ k m h. cond-mono (n.0 == k) u (f.under k) (g.under k) m (le.under k m) h;
  }

  pub logging-mono : (m : ℕ) → Within (logging f m) (logging g m)
  logging-mono m = record {
    gtid = le.gtid;
    logs = λ k h. or-mono (m == k) (f.logs k) (g.logs k) (le.logs k) h;
    read = le.read;
    under = le.under;
  }

looking-mono : (f g : Footing) → Within f g → (n : ServerNo) (from : Option ServerNo) → Within (looking f n from) (looking g n from)
looking-mono f g le n None = reading-mono f g le n None
looking-mono f g le n (Some m) = logging-mono (reading f n (Some m.0)) (reading g n (Some m.0)) (reading-mono f g le n (Some m.0)) m.0

pub learn-mono : (f g : Footing) → Within f g → (d : Deed) → Within (learn f d) (learn g d)
learn-mono f g le (deed.Look n from) = looking-mono f g le n from
learn-mono f g le (deed.Await n to) = reading-mono f g le n None
learn-mono f g le (deed.AwaitSet n m) = reading-mono f g le n None
learn-mono f g le (deed.Settle n) = reading-mono f g le n None
learn-mono f g le _ = le

-- operations with `Held` keep it if one may count on more
pub held-mono : (f g : Footing) → Within f g → (ops : List Op) → are_held f ops ≡ true → are_held g ops ≡ true
held-mono f g le [] h = refl
held-mono f g le (op ∷ ops) h =
    let parts = and_parts (finds f (deed_of op)) (are_held (learn f (deed_of op)) ops) h in
    both (finds g (deed_of op)) (are_held (learn g (deed_of op)) ops)
    (finds-mono f g le (deed_of op) parts.0)
    (held-mono (learn f (deed_of op)) (learn g (deed_of op)) (learn-mono f g le (deed_of op)) ops parts.1)

-- a reading that shows what it is sure to show is one to count on
pub Within-saw : (w : World) (xs : List Sight) (n : ServerNo) (s : Position) (u : Option ℕ) → ((m : ℕ) → u ≡ Some m → source_no s.source ≡ Some m)
    → Within (reading (footing w xs) n u) (footing w (with_seen xs n s))
Within-saw w xs n s u shows = record {
  gtid = λ h. h;
  logs = λ k h. h;
  read = λ k h. ap is_some (seen-at xs n s k) ∙ read (n.0 == k) k h;
  under = λ k m h. ap source_shown (seen-at xs n s k) ∙ under (n.0 == k) k m h;
}
  where
    read : (b : Bool) (k : ℕ) → (b || is_some (seen_of xs k)) ≡ true → is_some (cond b (Some s) (seen_of xs k)) ≡ true
    read true k h = refl
    read false k h = h

    under : (b : Bool) (k m : ℕ) → cond b u (source_shown (seen_of xs k)) ≡ Some m → source_shown (cond b (Some s) (seen_of xs k)) ≡ Some m
    under true k m h = shows m h
    under false k m h = h

-- a server that logs is one to count on
pub Within-logging : (f g : Footing) (m : ℕ) → Within f g → g.logs m ≡ true → Within (logging f m) g
Within-logging f g m le here = record {
  gtid = le.gtid;
  logs = λ k h. or-at g.logs m k here (or-mono (m == k) (f.logs k) (g.logs k) (le.logs k) h);
  read = le.read;
  under = le.under;
}

-- read again while waiting: what the wait is sure of doesn't rest on what the server showed before
pub Within-again : (w : World) (xs : List Sight) (n : ServerNo) (s : Position) → Within (reading (footing w xs) n None) (reading (footing w (with_seen xs n s)) n None)
Within-again w xs n s = record {
  gtid = λ h. h;
  logs = λ k h. h;
  read = λ k h. or-right (n.0 == k) (is_some (seen_of (with_seen xs n s) k)) ((Within-saw w xs n s None (λ m e. cc)).read k h);
  under = λ k m h. under (n.0 == k) k m refl h;
}
  where
    under : (b : Bool) (k m : ℕ) → (n.0 == k) ≡ b → cond b None (source_shown (seen_of xs k)) ≡ Some m → cond b None (source_shown (seen_of (with_seen xs n s) k)) ≡ Some m
    under true k m e h = h
    under false k m e h = ap source_shown (seen-at xs n s k) ∙ ap (λ b. source_shown (cond b (Some s) (seen_of xs k))) e ∙ h

-- whatever was read before is read still
pub read-still : (w : World) (xs : List Sight) (n : ServerNo) (s : Position) (k : ℕ) → is_some (seen_of xs k) ≡ true → is_some (seen_of (with_seen xs n s) k) ≡ true
read-still w xs n s k h = (Within-saw w xs n s None (λ m e. cc)).read k (or-right (n.0 == k) (is_some (seen_of xs k)) h)
