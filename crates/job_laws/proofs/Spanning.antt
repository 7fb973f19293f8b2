-- What bridges a reading shows, and that their ends have places.
use Rattle.std.proofs.Common.{◌≡◌, ℕ, List, refl, ◌∙◌, ap, subst, Option, Some, None}
use Rattle.job_laws.proofs.Prelude.{AllShow, Attached, Bridge, Coord, Detached, IsTarget, Position, ServerNo, Shows, ShowsAt, Sight, SourceState}
use Rattle.job_laws.proofs.Prelude.{Spans, Status, Without, World, bridge_at, bridge_by, bridge_in, position_of, same_Some, seen_of, source_no}

-- a reading that shows a bridge
pub record ShowsBridge (n : ServerNo) (o : Option Position) (b : Bridge) : Type 0 where
  pub seen : Position
  pub is : o ≡ Some seen
  pub end : seen.own_end ≡ Some b.own
  pub from : source_no seen.source ≡ Some b.source.0
  pub exec : seen.exec ≡ b.exec
  pub no : n.0 ≡ b.no.0

pub bridge-parts : (n : ServerNo) (o : Option Position) (b : Bridge) → bridge_at n o ≡ Some b → ShowsBridge n o b
bridge-parts n None b h = cc
bridge-parts n (Some s) b h = go s.own_end s.source refl refl h
  where
    by : (own : Coord) (m : ServerNo) → s.own_end ≡ Some own → source_no s.source ≡ Some m.0
        → Some (record { no = n; source = m; own = own; exec = s.exec }) ≡ Some b → ShowsBridge n (Some s) b
    by own m end from h =
        let same = same_Some (record { no = n; source = m; own = own; exec = s.exec }) b h in
        record {
          seen = s;
          is = refl;
          end = end ∙ ap (λ (x : Bridge). Some x.own) same;
          from = from ∙ ap (λ (x : Bridge). Some x.source.0) same;
          exec = ap (λ (x : Bridge). x.exec) same;
          no = ap (λ (x : Bridge). x.no.0) same;
        }

    go : (own : Option Coord) (x : SourceState) → s.own_end ≡ own → s.source ≡ x → bridge_by n own x s.exec ≡ Some b → ShowsBridge n (Some s) b
    go None x end e h = cc
    go (Some own) Without end e h = cc
    go (Some own) (Attached m) end e h = by own m end (ap source_no e) h
    go (Some own) (Detached m) end e h = by own m end (ap source_no e) h

-- both ends of a bridge that was seen have places
pub spans-at : (w : World) (n : ServerNo) (o : Option Position) (b : Bridge) → ((s : Position) → o ≡ Some s → ShowsAt w n.0 s) → bridge_at n o ≡ Some b → Spans w b
spans-at w n o b shown h =
    let p = bridge-parts n o b h in
    let s = shown p.seen p.is in
    record {
      own = subst (λ (k : ℕ). IsTarget w k b.own) p.no (s.own b.own p.end);
      exec = subst (λ (c : Coord). IsTarget w b.source.0 c) p.exec (s.under b.source.0 p.from);
    }

pub seen-spans : (w : World) (xs : List Sight) (n : ServerNo) (b : Bridge) → AllShow w xs → bridge_at n (seen_of xs n.0) ≡ Some b → Spans w b
seen-spans w xs n b shown h = spans-at w n (seen_of xs n.0) b (shown n.0) h

-- and of one that a status shows
pub spans-by : (w : World) (n : ServerNo) (o : Option Status) (b : Bridge) → ((s : Status) → o ≡ Some s → Shows w n.0 s) → bridge_in n o ≡ Some b → Spans w b
spans-by w n None b shown h = cc
spans-by w n (Some s) b shown h =
    spans-at w n (Some (position_of s)) b (λ p is. subst (λ (q : Position). ShowsAt w n.0 q) (same_Some (position_of s) p is) (shown s refl).at) h
