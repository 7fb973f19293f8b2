use Rattle.std.proofs.Common.{map}
use Rattle.top_call.proofs.Ends.{parse_taken}
use Rattle.top_call.proofs.parsed.Parsed.read.Goals as goal

pub invariant_of-result : goal.invariant_of-result
invariant_of-result c = parse_taken (map (λ w. w.items) c.args.words.now) c.places.result c.places.ensures
