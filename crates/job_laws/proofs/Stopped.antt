-- A job is stopped by a purged file exactly if its attachment is answered so.
use Rattle.std.proofs.Common.{◌≡◌, ℕ, cond, List, [], refl, sym, ◌∙◌, ap, Option, Some, None, Err}
use Rattle.job_laws.proofs.Prelude.{AttachFault, Attempt, Attempts, Cause, Deed, Exchange, Goes, IsMove, IsPurged, Job, MatchFault, Moment}
use Rattle.job_laws.proofs.Prelude.{Observation, Op, ServerNo, Stops, StopsFor, World, after_answer, after_attach, attach_answer_of, attachment_in}
use Rattle.job_laws.proofs.Prelude.{attachment_of, attempts, by_deed, by_match, by_set, cause_by, cause_of_match, change_of, crossing_of, match_found}
use Rattle.job_laws.proofs.Prelude.{next, same_Some, same_again, seen_of}
use Rattle.job_laws.proofs.Prelude.attaching
use Rattle.job_laws.proofs.Prelude.cause
use Rattle.job_laws.proofs.Prelude.deed
use Rattle.job_laws.proofs.Prelude.doing
use Rattle.job_laws.proofs.Prelude.fault as matching

pub attachment-is : (j : Job) (n : ServerNo) (d : Deed) → IsMove n d → attachment_in j d ≡ attachment_of j d
attachment-is j n d (doing.Crosses c b) = refl
attachment-is j n d _ = refl

pub move-changes : (n : ServerNo) (d : Deed) → IsMove n d → change_of d ≡ Some n
move-changes n d (doing.Crosses c b) = refl
move-changes n d _ = refl

by-cause : (n m : ServerNo) (first : ℕ) (f : AttachFault) → cause_by m f ≡ cause.Purged n first → (m ≡ n) × (f ≡ attaching.Purged first)
by-cause n m first (attaching.Purged k) e = (cc, cc)
by-cause n m first _ e = cc

not-by-match : (n m : ServerNo) (first : ℕ) (f : MatchFault) → cause_of_match m f ≡ cause.Purged n first → ⊥
not-by-match n m first (matching.Unreachable k) e = cc
not-by-match n m first _ e = cc

stops-purged : (w : World) (j : Job) (d : Deed) (c : Cause) (n : ServerNo) (first : ℕ) → StopsFor w j d c → c ≡ cause.Purged n first → (change_of d ≡ Some n) × IsPurged w first (attachment_of j d)
stops-purged w j d c n first (doing.Refused m x e f is made of can answer) same =
    let both = by-cause n m first f same in
    (move-changes m x is ∙ ap Some both.0, record { exchange = e; found = sym (attachment-is j m x is) ∙ made; can = can; answer = answer ∙ ap Err both.1 })
stops-purged w j d c n first (doing.Unmatched m k every f found) same = absurd (not-by-match n m first f same)
stops-purged w j d c n first _ same = cc

does-purged : (w : World) (read : ℕ) (now : Moment) (j : Job) (rest : List Op) (d : Deed) (a : Attempt) (n : ServerNo) (first : ℕ) (o : Option Observation)
    → Attempts w read now j rest d a → a ≡ Stops (cause.Purged n first) o → (change_of d ≡ Some n) × IsPurged w first (attachment_of j d)
does-purged w read now j rest d a n first o (doing.Misses m from c why) e = stops-purged w j d c n first why cc
does-purged w read now j rest d a n first o (doing.Fails x c why) e = stops-purged w j d c n first why cc
does-purged w read now j rest d a n first o _ e = cc

pub purged-only : (w : World) (read : ℕ) (now : Moment) (j : Job) (rest : List Op) (d : Deed) (n : ServerNo) (first : ℕ) (o : Option Observation)
    → by_deed w read now j rest d ≡ Stops (cause.Purged n first) o → (change_of d ≡ Some n) × IsPurged w first (attachment_of j d)
purged-only w read now j rest d n first o e = does-purged w read now j rest d (by_deed w read now j rest d) n first o (attempts w read now j rest d) e

purged-attach : (w : World) (j : Job) (rest : List Op) (m n : ServerNo) (first : ℕ) (x : Option Exchange) → Some m ≡ Some n → IsPurged w first x
    → after_attach w j rest m x ≡ Stops (cause.Purged n first) None
purged-attach w j rest m n first x same p =
    ap (after_attach w j rest m) p.found
    ∙ ap (λ b. cond b (after_answer j rest m p.exchange (attach_answer_of w p.exchange)) (Goes None [] (next j rest))) p.can
    ∙ ap (after_answer j rest m p.exchange) p.answer
    ∙ ap (λ (k : ServerNo). Stops (cause.Purged k first) None) (same_Some m n same)

pub purged-stops : (w : World) (read : ℕ) (now : Moment) (j : Job) (rest : List Op) (d : Deed) (n : ServerNo) (first : ℕ)
    → change_of d ≡ Some n → IsPurged w first (attachment_of j d) → by_deed w read now j rest d ≡ Stops (cause.Purged n first) None
purged-stops w read now j rest (deed.Cross c a b) n first h p = purged-attach w j rest a n first (crossing_of j.seen c a b) h p
purged-stops w read now j rest (deed.Same m) n first h p = purged-attach w j rest m n first (same_again m (seen_of j.seen m.0)) h p
purged-stops w read now j rest (deed.Auto m k) n first h p = purged-attach w j rest m n first (by_set m k (seen_of j.seen k.0)) h p
purged-stops w read now j rest (deed.CrossMatch m k) n first h p = purged-attach w j rest m n first (by_match m k (match_found j.matches m k)) h p
purged-stops w read now j rest _ n first h p = let none = p.found in cc
