use Rattle.std.proofs.Common.{◌≡◌, ℕ, ◌<◌, ◌∙◌, List, Option, None, length, sym, ap, subst, All, slice_index_or}
use Rattle.recovery_core.proofs.Prelude.{Refusal, ServerNo, Staged, action_of, busy_by, first_about, recovery_list, refusal_for}
use Rattle.recovery_core.proofs.Trying.{list-within, refused-busy, refused-else}
use Rattle.recovery_core.proofs.stage.Stage.refusal.Goals as goal

abbrev first_lease : List (Option ℕ) → List ServerNo → Option Refusal
first_lease leases list = first_about (λ (n : ServerNo). busy_by n (slice_index_or leases n.0 None)) list

pub busy-requires : goal.busy-requires
busy-requires c =
    let len : length c.deref.result.now ≡ length c.args.book.now.names =
    ap length (c.deref.ensures.value ∙ ap (λ (s : Staged). s.leases) c.self.view_is) ∙ c.requires.ready.leases in
    subst (All (λ (n : ServerNo). n.0 < length c.deref.result.now)) (sym c.requires.list)
    (subst (λ m. All (λ (n : ServerNo). n.0 < m) (recovery_list c.args.book.now c.args.entry.no)) (sym len) (list-within c.args.book.now c.args.entry.no c.requires.entry.within))

pub returns-in-Some : goal.returns-in-Some
returns-in-Some c =
    let leases : c.args.self.now.leases ≡ c.deref.result.now = sym (c.deref.ensures.value ∙ ap (λ (s : Staged). s.leases) c.self.view_is) in
    let first : first_lease c.args.self.now.leases (recovery_list c.args.book.now c.args.entry.no) ≡ first_lease c.deref.result.now c.args.list.now =
    λ j. first_lease (leases j) (sym c.requires.list j) in
    refused-busy c.args.world.now c.args.book.now c.args.attempt c.args.self.now.leases c.args.self.now.audit c.args.entry.no c.args.entry.code
    c.requires.entry.code c.in-Some.refusal (first ∙ sym c.busy.ensures ∙ c.in-Some.is)

pub returns-in-None : goal.returns-in-None
returns-in-None c =
    let leases : c.args.self.now.leases ≡ c.deref.result.now = sym (c.deref.ensures.value ∙ ap (λ (s : Staged). s.leases) c.self.view_is) in
    let first : first_lease c.args.self.now.leases (recovery_list c.args.book.now c.args.entry.no) ≡ first_lease c.deref.result.now c.args.list.now =
    λ j. first_lease (leases j) (sym c.requires.list j) in
    c.refusal_by_code.ensures
    ∙ ap (λ (s : Staged). refusal_for c.args.world.now c.args.book.now s.audit c.args.attempt c.args.entry.no c.args.entry.code (action_of c.args.entry.code)) c.self.view_is
    ∙ refused-else c.args.world.now c.args.book.now c.args.attempt c.args.self.now.leases c.args.self.now.audit c.args.entry.no c.args.entry.code
    c.requires.entry.code (first ∙ sym c.busy.ensures ∙ c.in-None.is)
