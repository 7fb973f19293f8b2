use Rattle.std.proofs.Common.{◌≡◌, ◌≤◌, drop, fold, length, take}
use Rattle.instance_keeper.proofs.Prelude.{after_row, first_set}
use Rattle.instance_keeper.proofs.book.Book.set_all.Given as goal

abbrev pub invariant-loop-row : goal.invariant-loop-row
invariant-loop-row l = record {
  made : first_set l.next l.self ≡ fold after_row (first_set 0 l.fn.self) (take l.row-index l.initial.row-items);
  rest : drop l.row-index l.row-items ≡ drop l.row-index l.initial.row-items;
  within : l.next ≤ length l.self.names;
  settings : l.self.settings ≡ l.fn.self.settings;
  names : l.self.names ≡ l.fn.self.names;
}
