use Rattle.std.proofs.Common.{◌≡◌, ◌++◌, map, drop}
use Rattle.command_line.proofs.Prelude.{is_utf8, list_all}
use Rattle.command_line.proofs.options.texts_of.Given as goal

abbrev pub invariant-loop-word : goal.invariant-loop-word
invariant-loop-word l = record {
  same : map (λ s. s.now) l.texts.items ++ map (λ w. w.items) (drop l.word-index l.words) ≡ map (λ w. w.items) l.words;
  utf8 : list_all is_utf8 (map (λ w. w.items) (drop l.word-index l.words)) ≡ list_all is_utf8 (map (λ w. w.items) l.words);
}
