-- Who comes before whom if one is chosen, by the servers' settings and the book of that turn.
use Rattle.std.specs.Prelude.{◌≡◌, ◌<◌, true, false, List, ◌⊎◌, map}
use Rattle.std.specs.Ordering.{is_lt}
use Rattle.recovery_reasons.specs.Prelude.{BookState, Contains, Follower, Moment, ServerNo, Stopped, World, center_in, is_before, logs_at}
use Rattle.recovery_reasons.specs.Prelude.{precedence, rule_at, same_coord, server_at, server_order}
use Rattle.recovery_reasons.specs.Prelude.rule

-- it logs, and its rule isn't that of those that must not be promoted
pub record MayBePromoted (w : World) (b : BookState) (now : Moment) (n : ServerNo) : Type 0 where
  pub logs : logs_at w n ≡ true
  pub allowed : rule_at b n now ≡ rule.MustNot → ⊥

-- it is in the failed server's data centre
abbrev pub IsNear : World → ServerNo → ServerNo → Type 0
IsNear w f n = center_in (server_at w f.0) ≡ center_in (server_at w n.0)

-- the first server has the better rule; or as good a one, and it alone is in the failed server's data centre
abbrev pub IsPreferred : World → BookState → Moment → ServerNo → ServerNo → ServerNo → Type 0
IsPreferred w b now f n m =
    (precedence (rule_at b n now) < precedence (rule_at b m now))
    ⊎ ((precedence (rule_at b n now) ≡ precedence (rule_at b m now)) × IsNear w f n × (IsNear w f m → ⊥))

-- the second server isn't preferred to the first; if the first isn't preferred either, its name isn't the later one
pub record ComesFirst (w : World) (b : BookState) (now : Moment) (f n m : ServerNo) : Type 0 where
  pub rule : IsPreferred w b now f m n → ⊥
  pub name : (IsPreferred w b now f n m → ⊥) → is_lt (server_order b.names m n) ≡ false

-- the second one executed no more than the first; if it executed as much the first comes first
pub record ComesBefore (w : World) (b : BookState) (now : Moment) (f : ServerNo) (p s : Stopped) : Type 0 where
  pub most : is_before p.exec s.exec ≡ false
  pub level : same_coord p.exec s.exec ≡ true → ComesFirst w b now f p.no s.no

-- one of these has this number, may be promoted, and comes before each other of them that may
pub record IsFirstOf (w : World) (b : BookState) (now : Moment) (f : ServerNo) (xs : List Stopped) (n : ServerNo) : Type 0 where
  pub stopped : Stopped
  pub among : Contains xs stopped
  pub named : stopped.no ≡ n
  pub may : MayBePromoted w b now n
  pub first : (s : Stopped) → Contains xs s → MayBePromoted w b now s.no → ComesBefore w b now f stopped s

-- a follower that logs and is preferred to the chosen one
pub record IsBetterOne (w : World) (b : BookState) (now : Moment) (f p : ServerNo) (xs : List Follower) (n : ServerNo) : Type 0 where
  pub follows : Contains (map (λ x. x.no) xs) n
  pub logs : logs_at w n ≡ true
  pub preferred : IsPreferred w b now f n p

-- and it comes before each other such follower
pub record IsBestOne (w : World) (b : BookState) (now : Moment) (f p : ServerNo) (xs : List Follower) (q : ServerNo) : Type 0 where
  pub better : IsBetterOne w b now f p xs q
  pub first : (n : ServerNo) → IsBetterOne w b now f p xs n → ComesFirst w b now f q n
