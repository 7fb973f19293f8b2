-- A job with `Held` passes over no change of source.
use Rattle.std.proofs.Common.{◌≡◌, ℕ, true, List, [], refl, ◌∙◌, ap, cond, Option, Some, None, ◌&&◌, is_some}
use Rattle.job_laws.proofs.Prelude.{AllShow, ArePlaced, Attached, Auto, Cross, Crossing, CrossMatch, Detached, Exchange, Goes, IsTried, Job, Moment}
use Rattle.job_laws.proofs.Prelude.{Op, Position, Same, ServerNo, SourceState, Without, World, after_answer, after_attach, and_parts}
use Rattle.job_laws.proofs.Prelude.{attach_answer_of, attached_anew, bridge_at, by_deed, by_match, by_set, can_attach, crossed, false≢true, finds}
use Rattle.job_laws.proofs.Prelude.{footing, logs_at, match_found, matched_in, next, read_by, same_again, seen_of, source_no, source_shown}
use Rattle.job_laws.proofs.Bridging.{crossing-found, crossing-can, same-can, auto-can}
use Rattle.job_laws.proofs.Matching.{match-can, match-there}

there : (o : Option Exchange) → is_some o ≡ true → (e : Exchange) × (o ≡ Some e)
there None h = absurd (false≢true h)
there (Some e) h = (e, refl)

anew-there : (n : ServerNo) (s : Position) (x : SourceState) → is_some (source_no x) ≡ true → is_some (attached_anew n s.exec x) ≡ true
anew-there n s Without h = h
anew-there n s (Attached m) h = refl
anew-there n s (Detached m) h = refl

same-there : (n : ServerNo) (o : Option Position) → is_some (source_shown o) ≡ true → is_some (same_again n o) ≡ true
same-there n None h = h
same-there n (Some s) h = anew-there n s s.source h

set-there : (n m : ServerNo) (o : Option Position) → is_some o ≡ true → is_some (by_set n m o) ≡ true
set-there n m None h = h
set-there n m (Some s) h = refl

module _ (w : World) (j : Job) (rest : List Op) where
  tried : (n : ServerNo) (o : Option Exchange) (e : Exchange) → o ≡ Some e → can_attach w e ≡ true → IsTried w j rest n o (after_attach w j rest n o)
  tried n o e is can = record {
    exchange = e;
    found = is;
    can = can;
    attempt = ap (after_attach w j rest n) is ∙ ap (λ b. cond b (after_answer j rest n e (attach_answer_of w e)) (Goes None [] (next j rest))) can;
  }

  pub cross-tried : (read : ℕ) (now : Moment) (c : Crossing) (a b : ServerNo) → AllShow w j.seen → finds (footing w j.seen) (Cross c a b) ≡ true
      → IsTried w j rest a (crossed c a (bridge_at (read_by c a b) (seen_of j.seen (read_by c a b).0))) (by_deed w read now j rest (Cross c a b))
  cross-tried read now c a b shown h =
      let o : Option Exchange = crossed c a (bridge_at (read_by c a b) (seen_of j.seen (read_by c a b).0)) in
      let x = there o (crossing-found w j.seen shown c a b h) in
      tried a o x.0 x.1 (crossing-can w j.seen shown c a b x.0 x.1)

  pub same-tried : (read : ℕ) (now : Moment) (n : ServerNo) → AllShow w j.seen → finds (footing w j.seen) (Same n) ≡ true
      → IsTried w j rest n (same_again n (seen_of j.seen n.0)) (by_deed w read now j rest (Same n))
  same-tried read now n shown h =
      let x = there (same_again n (seen_of j.seen n.0)) (same-there n (seen_of j.seen n.0) h) in
      tried n (same_again n (seen_of j.seen n.0)) x.0 x.1 (same-can w j.seen shown n x.0 x.1)

  pub auto-tried : (read : ℕ) (now : Moment) (n m : ServerNo) → finds (footing w j.seen) (Auto n m) ≡ true
      → IsTried w j rest n (by_set n m (seen_of j.seen m.0)) (by_deed w read now j rest (Auto n m))
  auto-tried read now n m h =
      let p = and_parts w.gtid (is_some (seen_of j.seen m.0) && logs_at w m.0) h in
      let q = and_parts (is_some (seen_of j.seen m.0)) (logs_at w m.0) p.1 in
      let x = there (by_set n m (seen_of j.seen m.0)) (set-there n m (seen_of j.seen m.0) q.0) in
      tried n (by_set n m (seen_of j.seen m.0)) x.0 x.1 (auto-can w j.seen n m x.0 h x.1)

  pub match-tried : (read : ℕ) (now : Moment) (n m : ServerNo) → ArePlaced w j.matches → matched_in j.matches n m ≡ true
      → IsTried w j rest n (by_match n m (match_found j.matches n m)) (by_deed w read now j rest (CrossMatch n m))
  match-tried read now n m placed h =
      let x = there (by_match n m (match_found j.matches n m)) (match-there j.matches n m h) in
      tried n (by_match n m (match_found j.matches n m)) x.0 x.1 (match-can w j.matches n m x.0 placed x.1)
