-- What the tables print of a server, by the list that it has.
use Rattle.std.proofs.Common.{◌≡◌, true, cond, [], sym, ap, ◌∙◌}
use Rattle.server_model.proofs.Prelude.{Inside, Server, opened, server_of}

-- the log of a server that logs is all that it has executed
pub log-logged : (a : Inside) (s : Server) → server_of a ≡ s → a.settings.logs ≡ true → s.log ≡ a.log
log-logged a s view logs =
    ap (λ (x : Server). x.log) (sym view) ∙ ap (λ b. cond b a.log (record a.log { log = opened a.settings.limit; txns = [] })) logs
