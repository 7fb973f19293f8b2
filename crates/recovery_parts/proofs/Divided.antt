-- Drained replicas divided by how they go, one after another.
use Rattle.std.proofs.Common.{◌≡◌, ℕ, ◌+◌, ◌<◌, List, [], ◌∷◌, ◌++◌, take, length, get_or, refl, sym, ◌∙◌, ap, None, false, Result, Ok, Err, is_ok}
use Rattle.std.proofs.lemmas.Bool.{false≢true}
use Rattle.std.proofs.lemmas.List.{take_more, append_assoc, append-nil}
use Rattle.recovery_plans.specs.Deciding.{Lot, Goes, Stays, stay_of, losses_in, move_of, moves_in}
use Rattle.recovery_plans.specs.declared.outcome.LostReplica.{LostReplica}
use Rattle.recovery_plans.specs.declared.outcome.Stopped.{Stopped}
use Rattle.recovery_plans.specs.declared.task.Task.{Task}
use Rattle.recovery_plans.specs.declared.task.Task.TheVariants as task
use Rattle.recovery_plans.specs.declared.task.Way.{Way}
use Rattle.recovery_plans.specs.declared.why.Why.{Why}
use Rattle.recovery_parts.specs.Lots.{by_lot}

abbrev pub none : Stopped
none = record { no = record { 0 = 0 }; exec = record { file = 0; pos = 0 }; own_end = None }

way_or : Way → Result Way Why → Way
way_or d (Ok way) = way
way_or d (Err why) = d

why_or : Why → Result Way Why → Why
why_or d (Ok way) = d
why_or d (Err why) = why

moves-apart : (lot : Stopped → Lot) (xs ys : List Stopped) → moves_in lot (xs ++ ys) ≡ moves_in lot xs ++ moves_in lot ys
moves-apart lot [] ys = refl
moves-apart lot (x ∷ xs) ys = ap (λ ts. move_of x (lot x) ++ ts) (moves-apart lot xs ys) ∙ sym (append_assoc (move_of x (lot x)) (moves_in lot xs) (moves_in lot ys))

losses-apart : (lot : Stopped → Lot) (xs ys : List Stopped) → losses_in lot (xs ++ ys) ≡ losses_in lot xs ++ losses_in lot ys
losses-apart lot [] ys = refl
losses-apart lot (x ∷ xs) ys = ap (λ ts. stay_of x (lot x) ++ ts) (losses-apart lot xs ys) ∙ sym (append_assoc (stay_of x (lot x)) (losses_in lot xs) (losses_in lot ys))

moves-more : (lot : Stopped → Lot) (xs : List Stopped) (k : ℕ) → k < length xs
    → moves_in lot (take (k + 1) xs) ≡ moves_in lot (take k xs) ++ move_of (get_or xs k none) (lot (get_or xs k none))
moves-more lot xs k within =
    ap (moves_in lot) (take_more xs k none within) ∙ moves-apart lot (take k xs) (get_or xs k none ∷ [])
    ∙ ap (λ ts. moves_in lot (take k xs) ++ ts) (append-nil (move_of (get_or xs k none) (lot (get_or xs k none))))

losses-more : (lot : Stopped → Lot) (xs : List Stopped) (k : ℕ) → k < length xs
    → losses_in lot (take (k + 1) xs) ≡ losses_in lot (take k xs) ++ stay_of (get_or xs k none) (lot (get_or xs k none))
losses-more lot xs k within =
    ap (losses_in lot) (take_more xs k none within) ∙ losses-apart lot (take k xs) (get_or xs k none ∷ [])
    ∙ ap (λ ts. losses_in lot (take k xs) ++ ts) (append-nil (stay_of (get_or xs k none) (lot (get_or xs k none))))

-- the moves and the losses so far
pub record Divided (lot : Stopped → Lot) (before : List LostReplica) (xs : List Stopped) (ts : List Task) (ls : List LostReplica) : Type 0 where
  pub moves : ts ≡ moves_in lot xs
  pub lost : ls ≡ before ++ losses_in lot xs

next : (lot : Stopped → Lot) (before : List LostReplica) (xs : List Stopped) (k : ℕ) (ts us : List Task) (ls ms : List LostReplica) → k < length xs
    → Divided lot before (take k xs) ts ls
    → us ≡ ts ++ move_of (get_or xs k none) (lot (get_or xs k none)) → ms ≡ ls ++ stay_of (get_or xs k none) (lot (get_or xs k none))
    → Divided lot before (take (k + 1) xs) us ms
next lot before xs k ts us ls ms within so_far moves lost = record {
  moves = moves ∙ ap (λ vs. vs ++ move_of (get_or xs k none) (lot (get_or xs k none))) so_far.moves ∙ sym (moves-more lot xs k within);
  lost =
      lost ∙ ap (λ vs. vs ++ stay_of (get_or xs k none) (lot (get_or xs k none))) so_far.lost
      ∙ append_assoc before (losses_in lot (take k xs)) (stay_of (get_or xs k none) (lot (get_or xs k none)))
      ∙ ap (λ vs. before ++ vs) (sym (losses-more lot xs k within));
}

-- one more goes some way
pub one-goes : (lot : Stopped → Lot) (before : List LostReplica) (xs : List Stopped) (k : ℕ) (ts us : List Task) (ls ms : List LostReplica) (by : Way) → k < length xs
    → Divided lot before (take k xs) ts ls → by_lot (lot (get_or xs k none)) ≡ Ok by
    → us ≡ ts ++ task.Moving (get_or xs k none).no by ∷ [] → ms ≡ ls
    → Divided lot before (take (k + 1) xs) us ms
unfolding way_or
one-goes lot before xs k ts us ls ms by within so_far goes moves lost = next lot before xs k ts us ls ms within so_far
    (moves ∙ ap (λ vs. ts ++ vs) (made (lot (get_or xs k none)) goes)) (lost ∙ sym (append-nil ls) ∙ ap (λ vs. ls ++ vs) (unmade (lot (get_or xs k none)) goes))
  where
    s : Stopped
    s = get_or xs k none

    made : (l : Lot) → by_lot l ≡ Ok by → task.Moving s.no by ∷ [] ≡ move_of s l
    made (Goes way) h = ap (λ (w : Way). task.Moving s.no w ∷ []) (sym (ap (way_or by) h))
    made (Stays why) h = absurd (false≢true (ap is_ok h))

    unmade : (l : Lot) → by_lot l ≡ Ok by → [] ≡ stay_of s l
    unmade (Goes way) h = refl
    unmade (Stays why) h = absurd (false≢true (ap is_ok h))

-- one more is lost
pub one-stays : (lot : Stopped → Lot) (before : List LostReplica) (xs : List Stopped) (k : ℕ) (ts us : List Task) (ls ms : List LostReplica) (why : Why) → k < length xs
    → Divided lot before (take k xs) ts ls → by_lot (lot (get_or xs k none)) ≡ Err why
    → us ≡ ts → ms ≡ ls ++ record { no = (get_or xs k none).no; why = why; detached = false } ∷ []
    → Divided lot before (take (k + 1) xs) us ms
unfolding why_or
one-stays lot before xs k ts us ls ms why within so_far stays moves lost = next lot before xs k ts us ls ms within so_far
    (moves ∙ sym (append-nil ts) ∙ ap (λ vs. ts ++ vs) (unmade (lot (get_or xs k none)) stays)) (lost ∙ ap (λ vs. ls ++ vs) (made (lot (get_or xs k none)) stays))
  where
    s : Stopped
    s = get_or xs k none

    made : (l : Lot) → by_lot l ≡ Err why → record { no = s.no; why = why; detached = false } ∷ [] ≡ stay_of s l
    made (Stays other) h = ap (λ (l : Why). record { no = s.no; why = l; detached = false } ∷ []) (sym (ap (why_or why) h))
    made (Goes way) h = absurd (false≢true (sym (ap is_ok h)))

    unmade : (l : Lot) → by_lot l ≡ Err why → [] ≡ move_of s l
    unmade (Stays other) h = refl
    unmade (Goes way) h = absurd (false≢true (sym (ap is_ok h)))
