use Rattle.std.proofs.Common.{◌≡◌, take, length, map, string_bytes}
use Rattle.scenarios.proofs.same.same_texts.Given as goal

abbrev pub invariant-loop-n : goal.invariant-loop-n
invariant-loop-n l = (map string_bytes (take l.n l.texts) ≡ map string_bytes (take l.n l.others)) × (length l.texts ≡ length l.others)
