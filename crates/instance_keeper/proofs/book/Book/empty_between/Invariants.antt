use Rattle.std.proofs.Common.{◌≡◌, ◌≤◌, length}
use Rattle.instance_keeper.proofs.Prelude.{first_set}
use Rattle.instance_keeper.proofs.book.Book.empty_between.Given as goal

abbrev pub invariant-loop-no : goal.invariant-loop-no
invariant-loop-no l = record {
  reached : l.no ≤ l.to;
  after : first_set l.no l.self ≡ first_set l.from l.fn.self;
  settings : l.self.settings ≡ l.fn.self.settings;
  names : l.self.names ≡ l.fn.self.names;
  places : length l.self.instances ≡ length l.fn.self.instances;
}
