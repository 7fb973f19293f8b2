use Rattle.std.proofs.Common.{◌≡◌, map, take}
use Rattle.server_words.specs.OrchBase.Names.{printed}
use Rattle.report_text.proofs.names.printed_each.Given as goal

abbrev pub invariant-loop-name : goal.invariant-loop-name
invariant-loop-name l = map (λ t. t.items) l.texts.items ≡ map printed (map (λ n. n.now) (take l.name-index l.names))
