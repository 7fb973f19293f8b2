use Rattle.std.proofs.Common.{◌≡◌, ◌++◌, length, string_bytes}
use denote.Text.{Utf8}
use denote.Shadow.{shadow}
use Rattle.hook_texts.specs.Expanded.{expanded}
use Rattle.hook_texts.proofs.expanding.expand.Given as goal

-- what is written and what is left to be read give what the whole text gives
abbrev pub invariant-loop-before : goal.invariant-loop-before
invariant-loop-before l = shadow (Utf8 l.left) × (string_bytes l.out ++ expanded l.values l.left ≡ expanded l.values l.text)

abbrev pub decreases-loop-before : goal.decreases-loop-before
decreases-loop-before l = length l.left
