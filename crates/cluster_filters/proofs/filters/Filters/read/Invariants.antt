use Rattle.std.proofs.Common.{◌≡◌, None, map, take}
use Rattle.cluster_filters.specs.Forms.{texts_of, forms_of, form_seen, first_bad}
use Rattle.cluster_filters.proofs.filters.Filters.read.Given as goal

abbrev pub invariant-loop-index : goal.invariant-loop-index
invariant-loop-index l = record {
  read : map form_seen l.filters.items ≡ forms_of (texts_of (take l.index l.forms));
  taken : first_bad (forms_of (texts_of (take l.index l.forms))) ≡ None;
}
