use Rattle.std.proofs.Common.{◌≡◌, ◌∙◌, map, sym, ap, List, Bor}
use Rattle.command_line.proofs.Prelude.{App, Text, app_of, fault_of, is_simple, is_simple_and_free, kind_of, matches_of, orch, rows_in}
use Rattle.command_line.proofs.Matches.{is_plain, is_plain_and_free, matches_given, no_matches}
use Rattle.command_line.proofs.options.matches_of.Goals as goal

pub returns-in-Ok : goal.returns-in-Ok
returns-in-Ok c =
    let texts : List Text = map (λ (s : Bor Text). s.now) c.args.texts.now in
    let app : app_of c.in_ok-command.command ≡ orch = c.in_ok-command.ensures in
    let same = (c.in-Ok.ensures.matches (ap is_simple app ∙ is_plain)).0 ∙ ap (λ (a : App). matches_of a texts) app in
    let none = ap (λ (a : App). fault_of a texts) (sym app) ∙ c.in-Ok.ensures.kinds (ap is_simple_and_free app ∙ is_plain_and_free) in
    matches_given texts (rows_in c.in-Ok.matches) none same

pub returns : goal.returns
returns c =
    let texts : List Text = map (λ (s : Bor Text). s.now) c.args.texts.now in
    let app : app_of c.in_ok-command.command ≡ orch = c.in_ok-command.ensures in
    let kinds = c.in-Err.ensures.kinds (ap is_simple_and_free app ∙ is_plain_and_free) in
    no_matches (app_of c.in_ok-command.command) texts (kind_of c.in-Err.error) app (λ e. c.in_default.not-OutOfMemory (c.kind.ensures ∙ e)) kinds
