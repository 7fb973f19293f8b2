-- A command that its first checks refuse is refused so.
use Rattle.std.proofs.Common.{◌≡◌, ◌∙◌, ◌+◌, ℕ, Bool, true, false, Option, Some, None, refl, sym, ap, subst}
use Rattle.std.specs.Prelude.{not}
use Rattle.std.specs.Option.{option_or}
use Rattle.recovery_core.specs.Permission.Checks.{first_refusal, is_given, is_known, unknown_in as unknown_of_permit}
use Rattle.recovery_core.specs.Permission.Lists.{only_if}
use Rattle.recovery_core.specs.Permission.Rows.{about, about_one}
use Rattle.recovery_core.specs.Permission.declared.case.Lead.TheVariants as lead
use Rattle.recovery_core.specs.Commands.Unknown.{unknown_of}
use Rattle.command_outcomes.proofs.Prelude.by_coords
use Rattle.command_outcomes.proofs.Prelude.by_gtids
use Rattle.command_outcomes.proofs.Prelude.by_matches
use Rattle.command_outcomes.proofs.Prelude.by_paths
use Rattle.command_outcomes.proofs.Prelude.paths
use Rattle.command_outcomes.specs.Jobs.{lead_of}
use Rattle.command_outcomes.specs.Outcomes.{busy_if, early_about, early_refusal}
use Rattle.command_outcomes.specs.Prelude.coords
use Rattle.command_outcomes.specs.Prelude.{Lead, looks_at}
use Rattle.command_outcomes.proofs.Prelude.{BookState, Command, Coordinates, Gtids, Matches, Moment, Numbers, Paths, Planner, Refusal, ServerNo}
use Rattle.command_outcomes.proofs.Prelude.{World, begun, begun_by, busy, first_of, is_known as is_asked, job_by, leases_by, refusal}
use Rattle.command_outcomes.proofs.Prelude.{refusal_about, refusal_by, unknown_in}

or-some : (o later : Option Refusal) (r : Refusal) → o ≡ Some r → option_or o later ≡ Some r
or-some o later r e = ap (λ (x : Option Refusal). option_or x later) e

-- a check that passes leaves the refusal to those after it
past : (here : Bool) (q : Refusal) (later : Option Refusal) (r : Refusal) → here ≡ false → later ≡ Some r → option_or (only_if here q) later ≡ Some r
past here q later r passes e = ap (λ (x : Bool). option_or (only_if x q) later) passes ∙ e

first-same : (u x y : Option Refusal) (r : Refusal) → (x ≡ Some r → y ≡ Some r) → first_of u x ≡ Some r → option_or u y ≡ Some r
first-same None x y r so e = so e
first-same (Some q) x y r so e = e

known-same : (b : BookState) (o : Option ServerNo) → is_asked b o ≡ is_known b o
known-same b None = refl
known-same b (Some n) = refl

unknown-same : (b : BookState) (c : Command) → unknown_in b c ≡ unknown_of_permit b c
unknown-same b c = ap (λ k. unknown_of c k (is_asked b c.d)) (known-same b c.i) ∙ ap (λ k. unknown_of c (is_known b c.i) k) (known-same b c.d)

busy-then : (b : BookState) (n : ServerNo) (looks : Bool) (r : Refusal) → busy_if b looks n ≡ Some r → (looks ≡ true) × (busy b n ≡ Some r)
busy-then b n true r e = (refl, e)
busy-then b n false r e = cc

apart-from : (here : Bool) → not here ≡ true → here ≡ false
apart-from true e = cc
apart-from false e = refl

module _ (w : World) (b : BookState) (now : Moment) (every : ℕ) (n : ServerNo) (r : Refusal) (e : busy b n ≡ Some r) where
  -- a repoint has two rows, and so has a relocate
  repoint-held : (by : Bool) (d : ServerNo) → is_given n (Some d) ≡ false → first_refusal w b (coords.case_of b by_coords.Repoint n (Some d)) (coords.repoint_row by) ≡ Some r
  repoint-held true d apart = past (is_given n (Some d)) _ _ r apart (or-some _ _ r (or-some _ _ r e))
  repoint-held false d apart = past (is_given n (Some d)) _ _ r apart (or-some _ _ r (or-some _ _ r e))

  relocate-held : (gtid : Bool) (d : ServerNo) → is_given n (Some d) ≡ false → first_refusal w b (paths.case_of w b by_paths.Relocate n (Some d)) (paths.relocate_row gtid) ≡ Some r
  relocate-held true d apart = past (is_given n (Some d)) _ _ r apart (or-some _ _ r (or-some _ _ r e))
  relocate-held false d apart = past (is_given n (Some d)) _ _ r apart (or-some _ _ r (or-some _ _ r e))

  about-held : (d : Option ServerNo) (p : Planner) → lead_of p ≡ lead.Held → refusal_about w b now every p n d ≡ Some r
  about-held d (Coordinates by_coords.MoveBelow) is = cc
  about-held d (Coordinates by_coords.Repoint) is = cc
  about-held d (Coordinates _) is = or-some _ _ r (or-some _ _ r e)
  about-held d (Gtids by_gtids.MoveGtid) is = cc
  about-held d (Gtids by_gtids.MoveReplicasGtid) is = cc
  about-held d (Gtids _) is = or-some _ _ r (or-some _ _ r e)
  about-held d (Paths by_paths.Relocate) is = cc
  about-held d (Paths by_paths.RelocateReplicas) is = cc
  about-held d (Paths by_paths.RegroupReplicas) is = or-some _ _ r (or-some _ _ r (or-some _ _ r e))
  about-held d (Matches by_matches.Match) is = cc
  about-held d (Matches by_matches.MatchReplicas) is = cc
  about-held d (Matches _) is = or-some _ _ r (or-some _ _ r (or-some _ _ r e))

  about-apart : (d : ServerNo) (p : Planner) → lead_of p ≡ lead.Apart → is_given n (Some d) ≡ false → refusal_about w b now every p n (Some d) ≡ Some r
  about-apart d (Coordinates by_coords.MoveBelow) is apart = past (is_given n (Some d)) _ _ r apart (or-some _ _ r (or-some _ _ r e))
  about-apart d (Coordinates by_coords.Repoint) is apart = repoint-held (coords.by_gtids w b n) d apart
  about-apart d (Coordinates _) is apart = cc
  about-apart d (Gtids by_gtids.MoveGtid) is apart = past (is_given n (Some d)) _ _ r apart (or-some _ _ r (or-some _ _ r e))
  about-apart d (Gtids _) is apart = cc
  about-apart d (Paths by_paths.Relocate) is apart = or-some _ _ r (relocate-held w.gtid d apart)
  about-apart d (Paths _) is apart = cc
  about-apart d (Matches by_matches.Match) is apart = or-some _ _ r (past (is_given n (Some d)) _ _ r apart (or-some _ _ r (or-some _ _ r e)))
  about-apart d (Matches _) is apart = cc

  about-by : (l : Lead) (d : Option ServerNo) (p : Planner) → lead_of p ≡ l → looks_at l n d ≡ true → refusal_about w b now every p n d ≡ Some r
  about-by lead.Held d p is looks = about-held d p is
  about-by lead.Apart None p is looks = cc
  about-by lead.Apart (Some d) p is looks = about-apart d p is (apart-from (is_given n (Some d)) looks)
  about-by lead.Other d p is looks = cc

module _ (w : World) (b : BookState) (now : Moment) (every : ℕ) (c : Command) (p : Planner) (r : Refusal) where
  given-held : (i : Option ServerNo) → early_about b (lead_of p) i c.d ≡ Some r → about_one None (refusal_about w b now every p) i c.d ≡ Some r
  given-held None e = e
  given-held (Some n) e =
      let both = busy-then b n (looks_at (lead_of p) n c.d) r e in
      about-by w b now every n r both.1 (lead_of p) c.d p refl both.0

  first-held : early_refusal b c p ≡ Some r → refusal_by w b now every c p ≡ Some r
  first-held e =
      first-same (unknown_of_permit b c) (early_about b (lead_of p) c.i c.d) (about None (refusal_about w b now every) (Some p) c) r (given-held c.i)
      (subst (λ (u : Option Refusal). first_of u (early_about b (lead_of p) c.i c.d) ≡ Some r) (unknown-same b c) e)

pub held_refused : (w : World) (b : BookState) (n : Numbers) (c : Command) (p : Planner) (r : Refusal) → early_refusal b c p ≡ Some r → refusal n.reads r ≡ begun_by w b n c p
held_refused w b n c p r e =
    ap (λ (o : Option Refusal). begun n o (leases_by w b c p) (job_by w b c p (n.last_job + 1) n.wait n.every)) (sym (first-held w b n.moment n.every c p r e))
