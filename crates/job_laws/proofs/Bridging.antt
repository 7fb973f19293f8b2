-- What bridges a reading shows, and what they let cross.
use Rattle.std.proofs.Common.{◌≡◌, ℕ, true, List, refl, sym, ◌∙◌, ap, subst, Option, Some, None, ◌&&◌, is_some}
use Rattle.job_laws.proofs.Prelude.{AllBridged, Allowed, AllShow, Attach, AttachAuto, Attached, Bridge, Coord, Crossing, Detached, Exchange}
use Rattle.job_laws.proofs.Prelude.{IsBridged, JoinsWell, Position, Safe, ServerNo, Sight, SourceState, Spans, Stands, Status, Without, World}
use Rattle.job_laws.proofs.Prelude.{and_parts, attached_anew, both, bridge_at, bridge_by, bridge_in, by_set, can-allowed, can_attach, crossed}
use Rattle.job_laws.proofs.Prelude.{eqb-true, false≢true, finds_crossing, footing, is_under, joins-about, joins-auto, joins-back, joins-down}
use Rattle.job_laws.proofs.Prelude.{joins-same, joins-up, logs_at, logs_by, position_of, read_by, same_again, same_Some, seen_of, server_at}
use Rattle.job_laws.proofs.Prelude.{source_no, source_shown, target-can}
use Rattle.job_laws.proofs.Prelude.cross
use Rattle.job_laws.proofs.Prelude.spot
use Rattle.job_laws.proofs.Spanning.{bridge-parts, seen-spans}

-- a bridge that was seen is right
pub stands-at : (w : World) (n : ServerNo) (o : Option Position) (b : Bridge) → ((s : Position) → o ≡ Some s → IsBridged w n.0 s) → bridge_at n o ≡ Some b → Stands w b.no.0 b.source.0 b.own b.exec
stands-at w n o b bridged h =
    let p = bridge-parts n o b h in
    subst (λ (k : ℕ). Stands w k b.source.0 b.own b.exec) p.no
    (subst (λ (c : Coord). Stands w n.0 b.source.0 b.own c) p.exec (bridged p.seen p.is b.source.0 b.own p.from p.end))

-- and one that a status shows
pub stands-by : (w : World) (n : ServerNo) (o : Option Status) (b : Bridge) → ((s : Status) → o ≡ Some s → IsBridged w n.0 (position_of s)) → bridge_in n o ≡ Some b
    → Stands w b.no.0 b.source.0 b.own b.exec
stands-by w n None b bridged h = cc
stands-by w n (Some s) b bridged h =
    stands-at w n (Some (position_of s)) b (λ p is. subst (λ (q : Position). IsBridged w n.0 q) (same_Some (position_of s) p is) (bridged s refl)) h

module _ (w : World) (xs : List Sight) where
  stands : AllBridged w xs → (n : ServerNo) (b : Bridge) → bridge_at n (seen_of xs n.0) ≡ Some b → Stands w b.no.0 b.source.0 b.own b.exec
  stands bridged n b h = stands-at w n (seen_of xs n.0) b (bridged n.0) h

  -- a reattachment can be made, and is allowed
  pub crossing-can : AllShow w xs → (c : Crossing) (a b : ServerNo) (e : Exchange) → crossed c a (bridge_at (read_by c a b) (seen_of xs (read_by c a b).0)) ≡ Some e → can_attach w e ≡ true
  crossing-can shown c a b e h = go c (bridge_at (read_by c a b) (seen_of xs (read_by c a b).0)) (λ x is. seen-spans w xs (read_by c a b) x shown is) h
    where
      go : (d : Crossing) (o : Option Bridge) → ((x : Bridge) → o ≡ Some x → Spans w x) → crossed d a o ≡ Some e → can_attach w e ≡ true
      go d None f h = cc
      go cross.Up (Some x) f h = subst (λ (y : Exchange). can_attach w y ≡ true) (same_Some (Attach a.0 (spot.At x.no x.own) x.source x.exec) e h) (target-can w x.source.0 x.exec (f x refl).exec)
      go cross.Down (Some x) f h = subst (λ (y : Exchange). can_attach w y ≡ true) (same_Some (Attach a.0 (spot.At x.source x.exec) x.no x.own) e h) (target-can w x.no.0 x.own (f x refl).own)
      go cross.About (Some x) f h = subst (λ (y : Exchange). can_attach w y ≡ true) (same_Some (Attach a.0 (spot.OwnEnd x.exec) x.no x.own) e h) (target-can w x.no.0 x.own (f x refl).own)
      go cross.Back (Some x) f h = subst (λ (y : Exchange). can_attach w y ≡ true) (same_Some (Attach a.0 (spot.OwnEnd x.own) x.source x.exec) e h) (target-can w x.source.0 x.exec (f x refl).exec)

  pub crossing-allowed : AllShow w xs → (c : Crossing) (a b : ServerNo) (e : Exchange) → crossed c a (bridge_at (read_by c a b) (seen_of xs (read_by c a b).0)) ≡ Some e → Allowed w e
  crossing-allowed shown c a b e h = can-allowed w e (crossing-can shown c a b e h)

  -- a server that goes about is the source that its new source showed
  about-source : (a b : ServerNo) (x : Bridge) → is_under (source_shown (seen_of xs b.0)) a.0 ≡ true → bridge_at b (seen_of xs b.0) ≡ Some x → x.source.0 ≡ a.0
  about-source a b x under h =
      let p = bridge-parts b (seen_of xs b.0) x h in
      eqb-true x.source.0 a.0 (sym (ap (λ o. is_under o a.0) (ap source_shown p.is ∙ p.from)) ∙ under)

  -- a reattachment joins well
  pub crossing-joins : Safe w → AllBridged w xs → (c : Crossing) (a b : ServerNo) (e : Exchange) → finds_crossing (footing w xs) c a b ≡ true
      → crossed c a (bridge_at (read_by c a b) (seen_of xs (read_by c a b).0)) ≡ Some e → JoinsWell w e
  crossing-joins safe bridged cross.Up a b e found h = go (bridge_at b (seen_of xs b.0)) refl h
    where
      go : (o : Option Bridge) → bridge_at b (seen_of xs b.0) ≡ o → crossed cross.Up a o ≡ Some e → JoinsWell w e
      go None is h = cc
      go (Some x) is h =
          subst (λ (y : Exchange). JoinsWell w y) (same_Some (Attach a.0 (spot.At x.no x.own) x.source x.exec) e h)
          (joins-up w a.0 x.no x.source x.own x.exec safe (stands bridged b x is))
  crossing-joins safe bridged cross.Down a b e found h = go (bridge_at b (seen_of xs b.0)) refl h
    where
      go : (o : Option Bridge) → bridge_at b (seen_of xs b.0) ≡ o → crossed cross.Down a o ≡ Some e → JoinsWell w e
      go None is h = cc
      go (Some x) is h =
          subst (λ (y : Exchange). JoinsWell w y) (same_Some (Attach a.0 (spot.At x.source x.exec) x.no x.own) e h)
          (joins-down w a.0 x.no x.source x.own x.exec safe (stands bridged b x is))
  crossing-joins safe bridged cross.About a b e found h = go (bridge_at b (seen_of xs b.0)) refl h
    where
      go : (o : Option Bridge) → bridge_at b (seen_of xs b.0) ≡ o → crossed cross.About a o ≡ Some e → JoinsWell w e
      go None is h = cc
      go (Some x) is h =
          let under = (and_parts (is_under (source_shown (seen_of xs b.0)) a.0) (logs_at w b.0) found).0 in
          subst (λ (y : Exchange). JoinsWell w y) (same_Some (Attach a.0 (spot.OwnEnd x.exec) x.no x.own) e h)
          (subst (λ (k : ℕ). JoinsWell w (Attach k (spot.OwnEnd x.exec) x.no x.own)) (about-source a b x under is)
          (joins-about w x.no x.source x.own x.exec safe (stands bridged b x is)))
  crossing-joins safe bridged cross.Back a b e found h = go (bridge_at a (seen_of xs a.0)) refl h
    where
      go : (o : Option Bridge) → bridge_at a (seen_of xs a.0) ≡ o → crossed cross.Back a o ≡ Some e → JoinsWell w e
      go None is h = cc
      go (Some x) is h =
          subst (λ (y : Exchange). JoinsWell w y) (same_Some (Attach a.0 (spot.OwnEnd x.own) x.source x.exec) e h)
          (subst (λ (k : ℕ). JoinsWell w (Attach k (spot.OwnEnd x.own) x.source x.exec)) (sym (bridge-parts a (seen_of xs a.0) x is).no)
          (joins-back w x.no x.source x.own x.exec safe (stands bridged a x is)))

  -- a server goes on under its own source
  pub same-can : AllShow w xs → (n : ServerNo) (e : Exchange) → same_again n (seen_of xs n.0) ≡ Some e → can_attach w e ≡ true
  same-can shown n e h = go (seen_of xs n.0) refl h
    where
      by : (s : Position) (m : ServerNo) → seen_of xs n.0 ≡ Some s → source_no s.source ≡ Some m.0 → Some (Attach n.0 (spot.At m s.exec) m s.exec) ≡ Some e → can_attach w e ≡ true
      by s m is from h = subst (λ (y : Exchange). can_attach w y ≡ true) (same_Some (Attach n.0 (spot.At m s.exec) m s.exec) e h) (target-can w m.0 s.exec ((shown n.0 s is).under m.0 from))

      at : (s : Position) (x : SourceState) → seen_of xs n.0 ≡ Some s → s.source ≡ x → attached_anew n s.exec x ≡ Some e → can_attach w e ≡ true
      at s Without is from h = cc
      at s (Attached m) is from h = by s m is (ap source_no from) h
      at s (Detached m) is from h = by s m is (ap source_no from) h

      go : (o : Option Position) → seen_of xs n.0 ≡ o → same_again n o ≡ Some e → can_attach w e ≡ true
      go None is h = cc
      go (Some s) is h = at s s.source is refl h

  pub same-allowed : AllShow w xs → (n : ServerNo) (e : Exchange) → same_again n (seen_of xs n.0) ≡ Some e → Allowed w e
  same-allowed shown n e h = can-allowed w e (same-can shown n e h)

  pub same-joins : Safe w → (n : ServerNo) (e : Exchange) → same_again n (seen_of xs n.0) ≡ Some e → JoinsWell w e
  same-joins safe n e h = go (seen_of xs n.0) h
    where
      by : (c : Coord) (m : ServerNo) → Some (Attach n.0 (spot.At m c) m c) ≡ Some e → JoinsWell w e
      by c m h = subst (λ (y : Exchange). JoinsWell w y) (same_Some (Attach n.0 (spot.At m c) m c) e h) (joins-same w n.0 m c safe)

      at : (c : Coord) (x : SourceState) → attached_anew n c x ≡ Some e → JoinsWell w e
      at c Without h = cc
      at c (Attached m) h = by c m h
      at c (Detached m) h = by c m h

      go : (o : Option Position) → same_again n o ≡ Some e → JoinsWell w e
      go None h = cc
      go (Some s) h = at s.exec s.source h

  -- a server goes below another by the set that was seen of it
  pub auto-can : (n m : ServerNo) (e : Exchange) → ((footing w xs).gtid && ((footing w xs).read m.0 && (footing w xs).logs m.0)) ≡ true → by_set n m (seen_of xs m.0) ≡ Some e → can_attach w e ≡ true
  auto-can n m e found h = go (seen_of xs m.0) h
    where
      sure : (w.gtid && logs_by (server_at w m.0)) ≡ true
      sure =
          let p = and_parts w.gtid ((footing w xs).read m.0 && logs_at w m.0) found in
          both w.gtid (logs_by (server_at w m.0)) p.0 (and_parts ((footing w xs).read m.0) (logs_at w m.0) p.1).1

      go : (o : Option Position) → by_set n m o ≡ Some e → can_attach w e ≡ true
      go None h = cc
      go (Some s) h = subst (λ (y : Exchange). can_attach w y ≡ true) (same_Some (AttachAuto n.0 s.set m) e h) sure

  pub auto-allowed : (n m : ServerNo) (e : Exchange) → ((footing w xs).gtid && ((footing w xs).read m.0 && (footing w xs).logs m.0)) ≡ true → by_set n m (seen_of xs m.0) ≡ Some e → Allowed w e
  auto-allowed n m e found h = can-allowed w e (auto-can n m e found h)

  pub auto-joins : AllShow w xs → (n m : ServerNo) (e : Exchange) → by_set n m (seen_of xs m.0) ≡ Some e → JoinsWell w e
  auto-joins shown n m e h = go (seen_of xs m.0) refl h
    where
      go : (o : Option Position) → seen_of xs m.0 ≡ o → by_set n m o ≡ Some e → JoinsWell w e
      go None is h = cc
      go (Some s) is h = subst (λ (y : Exchange). JoinsWell w y) (same_Some (AttachAuto n.0 s.set m) e h) (joins-auto w n.0 s.set m (shown m.0 s is).set)

  -- a reattachment that finds what it uses makes an attachment
  bridge-there : AllShow w xs → (n : ServerNo) (m : ℕ) → source_shown (seen_of xs n.0) ≡ Some m → logs_at w n.0 ≡ true → (b : Bridge) × (bridge_at n (seen_of xs n.0) ≡ Some b)
  bridge-there shown n m from logs = go (seen_of xs n.0) refl from
    where
      -- a reading of a server that logs, under a source, shows a bridge
      by : (s : Position) (own : Coord) (x : SourceState) → s.own_end ≡ Some own → s.source ≡ x → source_no x ≡ Some m → (b : Bridge) × (bridge_at n (Some s) ≡ Some b)
      by s own Without end is h = cc
      by s own (Attached k) end is h = (
        record { no = n; source = k; own = own; exec = s.exec },
        ap (λ o. bridge_by n o s.source s.exec) end ∙ ap (λ y. bridge_by n (Some own) y s.exec) is,
      )
      by s own (Detached k) end is h = (
        record { no = n; source = k; own = own; exec = s.exec },
        ap (λ o. bridge_by n o s.source s.exec) end ∙ ap (λ y. bridge_by n (Some own) y s.exec) is,
      )

      go : (o : Option Position) → seen_of xs n.0 ≡ o → source_shown o ≡ Some m → (b : Bridge) × (bridge_at n o ≡ Some b)
      go None is h = cc
      go (Some s) is h =
          let sh = shown n.0 s is in
          let own = sh.logs sh.set.server sh.set.there (sym (ap logs_by sh.set.there) ∙ logs) in
          by s own.0 s.source own.1 refl h

  some-there : (o : Option ℕ) → is_some o ≡ true → (m : ℕ) × (o ≡ Some m)
  some-there None h = absurd (false≢true h)
  some-there (Some m) h = (m, refl)

  under-there : (o : Option ℕ) (k : ℕ) → is_under o k ≡ true → (m : ℕ) × (o ≡ Some m)
  under-there None k h = absurd (false≢true h)
  under-there (Some m) k h = (m, refl)

  crossed-there : (c : Crossing) (a : ServerNo) (o : Option Bridge) (b : Bridge) → o ≡ Some b → is_some (crossed c a o) ≡ true
  crossed-there cross.Up a o b h = ap (λ x. is_some (crossed cross.Up a x)) h
  crossed-there y a o b h = ap (λ x. is_some (crossed y a x)) h

  pub crossing-found : AllShow w xs → (c : Crossing) (a b : ServerNo) → finds_crossing (footing w xs) c a b ≡ true
      → is_some (crossed c a (bridge_at (read_by c a b) (seen_of xs (read_by c a b).0))) ≡ true
  crossing-found shown cross.Up a b h =
      let p = and_parts (is_some (source_shown (seen_of xs b.0))) (logs_at w b.0) h in
      let m = some-there (source_shown (seen_of xs b.0)) p.0 in
      let x = bridge-there shown b m.0 m.1 p.1 in crossed-there cross.Up a (bridge_at b (seen_of xs b.0)) x.0 x.1
  crossing-found shown cross.Down a b h =
      let p = and_parts (is_some (source_shown (seen_of xs b.0))) (logs_at w b.0) h in
      let m = some-there (source_shown (seen_of xs b.0)) p.0 in
      let x = bridge-there shown b m.0 m.1 p.1 in crossed-there cross.Down a (bridge_at b (seen_of xs b.0)) x.0 x.1
  crossing-found shown cross.About a b h =
      let p = and_parts (is_under (source_shown (seen_of xs b.0)) a.0) (logs_at w b.0) h in
      let m = under-there (source_shown (seen_of xs b.0)) a.0 p.0 in
      let x = bridge-there shown b m.0 m.1 p.1 in crossed-there cross.About a (bridge_at b (seen_of xs b.0)) x.0 x.1
  crossing-found shown cross.Back a b h =
      let p = and_parts (is_under (source_shown (seen_of xs a.0)) b.0) (logs_at w a.0) h in
      let m = under-there (source_shown (seen_of xs a.0)) b.0 p.0 in
      let x = bridge-there shown a m.0 m.1 p.1 in crossed-there cross.Back a (bridge_at a (seen_of xs a.0)) x.0 x.1
