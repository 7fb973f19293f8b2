use Rattle.std.proofs.Common.{◌≡◌, ◌∙◌, ◌++◌, [], List, None, Some, ℕ, ap, arith, map, subst, sym, OnOk, slice_get}
use Rattle.std.proofs.lemmas.List.{append-nil}
use Rattle.std.proofs.lemmas.Grind.{common_steps}
use Rattle.std.proofs.lemmas.Option.{gets}
use Rattle.server_words.specs.OrchBase.Names.{HostPort}
use Rattle.report_text.specs.Names.{name_text}
use Rattle.report_text.proofs.NameTexts.{no_text_at, text_at}
use Rattle.report_text.proofs.names.print_name.Goals as goal

pub returns-in-Some : goal.returns-in-Some
returns-in-Some c =
    let there : slice_get c.names.inside.texts.items c.args.no.0 ≡ Some c.in-Some.text.now = grind (arith, common_steps, gets, c.in-Some.ensures.lookup, c.deref.ensures.value) in
    let name : name_text c.args.names.now c.args.no ≡ c.in-Some.text.now.items =
    ap (λ (ns : List HostPort). name_text ns c.args.no) (sym c.names.view_is) ∙ text_at c.names.inside.texts.items (λ v. v.items) (map (λ n. n.now) c.names.inside.names.items) c.args.no.0 c.in-Some.text.now c.names.invariant there
    in
    subst (λ (v : List ℕ). OnOk c.extend_from_slice.result (c.extend_from_slice.new.self.items ≡ c.args.out.now.items ++ v)) (sym name) (grind (arith, common_steps))

pub returns-in-None : goal.returns-in-None
returns-in-None c =
    let none : slice_get c.names.inside.texts.items c.args.no.0 ≡ None = grind (arith, common_steps, gets, c.in-None.ensures.lookup, c.deref.ensures.value) in
    let name : name_text c.args.names.now c.args.no ≡ [] = ap (λ (ns : List HostPort). name_text ns c.args.no) (sym c.names.view_is) ∙ no_text_at c.names.inside.texts.items (λ v. v.items) (map (λ n. n.now) c.names.inside.names.items) c.args.no.0 c.names.invariant none in
    subst (λ (v : List ℕ). c.args.out.now.items ≡ c.args.out.now.items ++ v) (sym name) (sym (append-nil c.args.out.now.items))
