use Rattle.std.proofs.Common.{◌≡◌, ◌<◌, ◌∙◌, None, length, sym, ap, subst, All}
use Rattle.recovery_core.proofs.Prelude.{Begins, ServerNo, Staged, entry_of, recovery_kind, recovery_list, staged_refusal}
use Rattle.recovery_core.proofs.Trying.{entry-may, list-within, none-there, on-ok, recovery-may, room-kept}
use Rattle.recovery_core.proofs.stage.Stage.try_entry.Goals as goal

pub add-requires-clause-list : goal.add-requires-clause-list
add-requires-clause-list c =
    let list : c.in_ok-begun.begun.list ≡ recovery_list c.args.book.now c.args.entry.no = ap (λ (x : Begins). x.list) c.in_ok-begun.ensures.begins in
    subst (All (λ (n : ServerNo). n.0 < length c.args.self.now.leases)) (sym list)
    (subst (λ m. All (λ (n : ServerNo). n.0 < m) (recovery_list c.args.book.now c.args.entry.no)) (sym c.requires.ready.leases)
    (list-within c.args.book.now c.args.entry.no c.requires.entry.within))

pub add-requires-clause-may : goal.add-requires-clause-may
add-requires-clause-may c =
    let b = record c.args.book.now { leases = c.args.self.now.leases } in
    let audit = c.args.self.now.audit in
    let none : staged_refusal c.args.world.now c.args.book.now c.args.attempt c.args.self.now c.args.entry.no ≡ None =
    sym c.refusal.ensures ∙ none-there c.refusal.result c.in_default.not-Some in
    entry-may b audit c.args.attempt (recovery_kind b c.args.entry.no) c.args.entry.no c.in_ok-begun.begun.entry
    (recovery-may b audit c.args.attempt c.args.entry.no c.args.world.now none) c.requires.block
    (ap (λ (x : Begins). x.entry) c.in_ok-begun.ensures.begins
    ∙ ap (λ (s : Staged). entry_of b s.audit c.args.attempt.now c.args.attempt.block (recovery_kind b c.args.entry.no) c.args.entry.no) c.self.view_is)

pub returns-clause-room : goal.returns-clause-room
returns-clause-room c =
    on-ok c.add.result (room-kept c.args.self.now c.add.new.self c.args.entry c.in_ok-begun.begun c.in_ok-begun.ensures.room) c.add.ensures
