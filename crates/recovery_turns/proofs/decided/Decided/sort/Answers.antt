use Rattle.std.proofs.Common.{◌++◌, List, refl, ap, ◌∙◌, Some}
use Rattle.recovery_turns.proofs.Prelude.{Task}
use Rattle.recovery_turns.proofs.Decisions.{sort_from}
use Rattle.recovery_turns.proofs.decided.Decided.sort.Goals as goal

pub returns-clause-value : goal.returns-clause-value
returns-clause-value c =
    let d = c.args.self.now in
    sort_from c.args.of.now d (record d { queue = Some c.extend_from_slice.new.self; begun = 0 }) c.in_ok-queue.queue.items c.in_ok-released.released.items c.tasks.result.now
    c.extend_from_slice.new.self.items refl c.requires.idle refl
    (c.in_ok-extend_from_slice.ensures.items ∙ ap (λ (ts : List Task). ts ++ c.tasks.result.now) c.in_ok-append.ensures.items) c.in_ok-queue.ensures c.in_ok-released.ensures c.tasks.ensures
