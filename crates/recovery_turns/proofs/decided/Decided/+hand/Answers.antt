use Rattle.std.proofs.Common.{◌≡◌, ◌+◌, ◌∷◌, drop, refl, sym, ap, ◌∙◌, rules, arith, slice_get}
use Rattle.recovery_turns.proofs.Prelude.{Recovery, decided_on, ground_by, hand, moving, on_ok_weaker}
use Rattle.recovery_turns.proofs.Prelude.lost
use Rattle.recovery_turns.proofs.Decisions.{first_is, hand_goes, hand_loses, hand_way, handed_on, left_fewer, left_on, left_task}
use Rattle.recovery_turns.proofs.decided.Decided.+hand.Goals as goal

pub hand-requires : goal.hand-requires
hand-requires t c =
    let r = c.args.of.now in
    let d = c.args.self.now in
    let x = c.in-Some.first in
    let more : c.in_ok-self.field-0 ≡ d.handed + 1 = grind arith in
    let head : (decided_on r d).drained ≡ x ∷ drop 1 (decided_on r d).drained =
    first_is (decided_on r d).drained x (ap (λ xs. slice_get xs 0) (sym c.drained.ensures) ∙ sym c.first.ensures.value ∙ sym c.copied.ensures ∙ c.in-Some.is) in
    let left = left_on r d (record d { handed = c.in_ok-self.field-0 }) c.lose.new.self x (lost.behind x.exec) refl more c.requires.idle c.in_ok-lose-in-None.ensures.value in
    let fewer = left_fewer r d c.lose.new.self x (lost.behind x.exec) head left in
    let queue = left_task r d c.lose.new.self x (lost.behind x.exec) c.requires.task left in
    search (rules, fewer, queue)

pub returns-in-Some-way-clause-value : goal.returns-in-Some-way-clause-value
returns-in-Some-way-clause-value t c =
    let r = c.args.of.now in
    let d = c.args.self.now in
    let x = c.in-Some.first in
    let g = ground_by c.args.by.now in
    let s = c.args.successor in
    let more : c.in_ok-self.field-0 ≡ d.handed + 1 = grind arith in
    let head : (decided_on r d).drained ≡ x ∷ drop 1 (decided_on r d).drained =
    first_is (decided_on r d).drained x (ap (λ xs. slice_get xs 0) (sym c.drained.ensures) ∙ sym c.first.ensures.value ∙ sym c.copied.ensures ∙ c.in-Some.is) in
    let way =
    hand_way g s r d (record d { handed = c.in_ok-self.field-0 }) x c.job.result c.of.inside.failed c.way_below-way.result refl more c.requires.idle c.job.ensures
    (ap (λ (y : Recovery). y.failed) c.of.view_is) c.way_below-way.ensures
    ∙ c.in-Some-way.is in
    on_ok_weaker c.go.result
    (λ h. h ∙ ap (λ (y : Recovery). moving y x.no c.in-Some-way.way) (handed_on r d (record d { handed = c.in_ok-self.field-0 }) refl more c.requires.idle)
    ∙ hand_goes g s (decided_on r d) x (drop 1 (decided_on r d).drained) c.in-Some-way.way c.requires.task head way) c.go.ensures.value

pub returns-in_ok-lose-in-None-clause-value : goal.returns-in_ok-lose-in-None-clause-value
returns-in_ok-lose-in-None-clause-value t c =
    let r = c.args.of.now in
    let d = c.args.self.now in
    let x = c.in-Some.first in
    let g = ground_by c.args.by.now in
    let s = c.args.successor in
    let more : c.in_ok-self.field-0 ≡ d.handed + 1 = grind arith in
    let head : (decided_on r d).drained ≡ x ∷ drop 1 (decided_on r d).drained =
    first_is (decided_on r d).drained x (ap (λ xs. slice_get xs 0) (sym c.drained.ensures) ∙ sym c.first.ensures.value ∙ sym c.copied.ensures ∙ c.in-Some.is) in
    let left = left_on r d (record d { handed = c.in_ok-self.field-0 }) c.lose.new.self x (lost.behind x.exec) refl more c.requires.idle c.in_ok-lose-in-None.ensures.value in
    let none =
    hand_way g s r d (record d { handed = c.in_ok-self.field-0 }) x c.job.result c.of.inside.failed c.way_below-way.result refl more c.requires.idle c.job.ensures
    (ap (λ (y : Recovery). y.failed) c.of.view_is) c.way_below-way.ensures
    ∙ c.in-None.is in
    on_ok_weaker c.hand.result
    (λ h. h ∙ ap (λ (y : Recovery). hand g s (record y { queue = drop 1 y.queue }) y.drained) left
    ∙ hand_loses g s (decided_on r d) x (drop 1 (decided_on r d).drained) head none) c.hand.ensures.value
