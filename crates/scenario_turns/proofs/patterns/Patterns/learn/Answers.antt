use Rattle.std.proofs.Common.{◌≡◌, Ok, string_bytes}
use Rattle.scenario_turns.proofs.Prelude.{btree_map_updates_text, found_in}
use Rattle.scenario_turns.proofs.KnownPatterns.{known-more}
use Rattle.scenario_turns.proofs.patterns.Patterns.learn.Goals as goal

pub invariant_of-self-in-Ok : goal.invariant_of-self-in-Ok
invariant_of-self-in-Ok c = λ text answers at.
    let found : found_in c.self.inside.printed.items (string_bytes c.in_ok-key.key) ≡ Ok c.in-Ok.found = rw (c.in_ok-key.ensures.ok, ← c.deref.ensures.value) c.in-Ok.ensures in
    known-more c.self.inside.known c.insert.new.self c.self.inside.printed.items (string_bytes c.in_ok-key.key) c.in-Ok.found
    (btree_map_updates_text (string_bytes c.in_ok-key.key) c.self.inside.known c.insert.new.self _ c.in_ok-insert.ensures.updates)
    found c.self.invariant text answers at
