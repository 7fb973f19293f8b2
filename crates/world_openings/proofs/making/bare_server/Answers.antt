use Rattle.std.proofs.Common.{◌≡◌, ◌≤◌, List, length, ap, subst, sym, ◌∙◌, ◌-◌, arith, rules, All}
use Rattle.world_openings.proofs.Prelude.{PartsInRange, ServerInit, Txn, count_of, history_at, laid, sound_checked}
use Rattle.world_openings.proofs.Prelude.Taking.{HasSize}
use Rattle.world_openings.proofs.OpenedWorlds.{Fits-at, length-history_at}
use Rattle.world_openings.proofs.LaidLogs.{bare_server-is, index-is}
use Rattle.world_openings.proofs.making.bare_server.Goals as goal

pub history_at-requires-clause-parts : goal.history_at-requires-clause-parts
history_at-requires-clause-parts c =
    subst PartsInRange (sym c.servers.ensures.value) (record {
      each = λ n i at. (c.servers.ensures.checked.listed.each n i at).parts;
      few = λ n i at. let fit = (Fits-at c.args.from.now c.args.room c.args.flushes n i c.requires.fits at).0 in let room = c.requires.room in omega arith;
    })

pub history_at-requires-clause-fits : goal.history_at-requires-clause-fits
history_at-requires-clause-fits c =
    subst (λ (is : List ServerInit). length (history_at is c.args.no.0) ≤ c.args.room) (sym c.servers.ensures.value)
    (length-history_at c.args.from.now c.args.room c.args.flushes c.args.no.0 c.requires.fits)

pub laid_history-requires-clause-limit_low : goal.laid_history-requires-clause-limit_low
laid_history-requires-clause-limit_low c = (c.servers.ensures.checked.listed.each c.args.no.0 c.args.init.now c.requires.at).limit_low

pub laid_history-requires-clause-limit_high : goal.laid_history-requires-clause-limit_high
laid_history-requires-clause-limit_high c = (c.servers.ensures.checked.listed.each c.args.no.0 c.args.init.now c.requires.at).limit_high

pub laid_history-requires-clause-sizes : goal.laid_history-requires-clause-sizes
laid_history-requires-clause-sizes c = subst (λ (ts : List Txn). All HasSize ts) (sym c.deref.ensures.value) c.in_ok-txns.ensures.sizes

pub laid_history-requires-clause-fits : goal.laid_history-requires-clause-fits
laid_history-requires-clause-fits c =
    subst (λ (ts : List Txn). length ts ≤ c.args.room)
    (sym (c.deref.ensures.value ∙ c.in_ok-txns.ensures.history ∙ ap (λ (is : List ServerInit). history_at is c.args.no.0) c.servers.ensures.value))
    (length-history_at c.args.from.now c.args.room c.args.flushes c.args.no.0 c.requires.fits)

pub laid_history-requires-clause-left : goal.laid_history-requires-clause-left
laid_history-requires-clause-left c = (Fits-at c.args.from.now c.args.room c.args.flushes c.args.no.0 c.args.init.now c.requires.fits c.requires.at).1

pub laid_history-requires-clause-points : goal.laid_history-requires-clause-points
laid_history-requires-clause-points c = (sound_checked c.args.from.now c.servers.ensures.checked).flushes c.args.no.0 c.args.init.now c.requires.at

pub returns : goal.returns
returns c =
    let servers = c.args.from.now.servers in
    let n = c.args.no.0 in
    let i = c.args.init.now in
    let txns : c.deref.result.now ≡ history_at servers n =
    c.deref.ensures.value ∙ c.in_ok-txns.ensures.history ∙ ap (λ (is : List ServerInit). history_at is n) c.servers.ensures.value in
    let counts : count_of i ≡ length c.deref.result.now =
    sym ((sound_checked c.args.from.now c.servers.ensures.checked).counts n i c.requires.at) ∙ sym (ap (λ (ts : List Txn). length ts) txns) in
    let log = index-is c.in_ok-log.log (laid i.settings.limit i.flushes (history_at servers n)) (history_at servers n) c.args.room (c.args.flushes - length i.flushes)
    (c.in_ok-log.ensures.log ∙ ap (laid i.settings.limit i.flushes) txns) (c.in_ok-log.ensures.txns ∙ txns) c.in_ok-log.ensures.room (c.in_ok-log.ensures.flushes counts) in
    bare_server-is servers c.args.room c.args.flushes n i c.in_ok-settings.settings c.in_ok-log.log c.source_state.result c.if-is_replica.result c.if-is_replica-2.result
    c.in_ok-settings.ensures log c.source_state.ensures (search rules) (search rules)
