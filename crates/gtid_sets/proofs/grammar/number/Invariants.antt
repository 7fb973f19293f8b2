use Rattle.std.proofs.Common.{◌≡◌, ◌-◌, ◌^◌, min, take, true}
use Rattle.gtid_sets.proofs.Prelude.{is_ascii_digit, list_all, value_of}
use Rattle.gtid_sets.proofs.grammar.number.Given as goal

abbrev pub invariant-digits : goal.invariant-digits
invariant-digits l = record {
  all : list_all is_ascii_digit (take l.b-index l.digits) ≡ true;
  value : l.value ≡ min (value_of (take l.b-index l.digits)) (2 ^ 64 - 1);
}
