-- A plan's choice has its conditions.
use Rattle.std.proofs.Common.{◌≡◌, Bool, true, cond, List, [], ◌∷◌, Option, Some, None, refl, sym, subst, arith, All, Contains, filter_map}
use Rattle.plan_laws.proofs.Prelude.{All-cons, All-nil, All-weaker, ChoicesHaveTheirConditions, Contains-append_left, Contains-append_right, Ground}
use Rattle.plan_laws.proofs.Prelude.{Line, Means, Purpose, ServerNo, Stopped, all_drained, away, choice_lines, chosen_line, chosen_of, condition}
use Rattle.plan_laws.proofs.Prelude.{cons_option, expected, false≢true, gathered, recovery_lines, wins, without_stopped}
use Rattle.plan_laws.proofs.Prelude.purpose

past : (o : Option Line) (ls : List Line) (l : Line) → Contains ls l → Contains (cons_option o ls) l
past None ls l there = there
past (Some k) ls l there = Contains-append_right (k ∷ []) ls l there

module _ (g : Ground) (f : ServerNo) (p : Stopped) where
  abbrev Has : List Line → Stopped → Type 0
  Has ls s = wins g f s (s ∷ []) ≡ true → Contains ls (condition g f p s)

  have : (ss : List Stopped) → All (Has (filter_map (chosen_line g f p) ss)) ss
  have [] = All-nil (Has [])
  have (s ∷ ss) =
      All-cons (Has (filter_map (chosen_line g f p) (s ∷ ss))) s ss
      (λ might. subst (λ (b : Bool). Contains (cons_option (cond b (Some (condition g f p s)) None) (filter_map (chosen_line g f p) ss)) (condition g f p s)) (sym might) (0, omega arith, refl))
      (All-weaker (Has (filter_map (chosen_line g f p) ss)) (Has (filter_map (chosen_line g f p) (s ∷ ss)))
      (λ t has might. past (chosen_line g f p s) (filter_map (chosen_line g f p) ss) (condition g f p t) (has might)) ss (have ss))

  module _ (u : Purpose) (by : Means) (ns : List ServerNo) (is : chosen_of g f (expected g.book ns) ≡ Some p) where
    abbrev others : List Stopped
    others = without_stopped (expected g.book ns) p.no

    gathered-has : All (Has (gathered g u by f ns)) others
    gathered-has =
        All-weaker (Has (filter_map (chosen_line g f p) others)) (Has (gathered g u by f ns))
        (λ t has might. Contains-append_right (all_drained g.book f ns) (choice_lines g u by f (expected g.book ns) (chosen_of g f (expected g.book ns))) (condition g f p t)
        (subst (λ (o : Option Stopped). Contains (choice_lines g u by f (expected g.book ns) o) (condition g f p t)) (sym is)
        (Contains-append_left (filter_map (chosen_line g f p) others) _ (condition g f p t) (has might)))) others (have others)

pub choices-have : ChoicesHaveTheirConditions
choices-have g purpose.Regroup by f ns p chooses is = gathered-has g f p purpose.Regroup by ns is
choices-have g purpose.Master by f ns p chooses is =
    All-weaker (Has g f p (gathered g purpose.Master by f ns)) (Has g f p (recovery_lines g purpose.Master by f ns))
    (λ t has might. Contains-append_right (away f ∷ []) (gathered g purpose.Master by f ns) (condition g f p t) (has might)) (without_stopped (expected g.book ns) p.no)
    (gathered-has g f p purpose.Master by ns is)
choices-have g (purpose.Intermediate s) by f ns p chooses is = absurd (false≢true chooses)
choices-have g (purpose.Takeover d) by f ns p chooses is = absurd (false≢true chooses)
