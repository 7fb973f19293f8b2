-- The limits of an opening, if the servers aren't too many for what they list.
use Rattle.std.proofs.Common.{◌≡◌, ◌*◌, Bool, List, true, length}
use Rattle.scenario_reader.proofs.Prelude.{IsGiven, IsListed, ServerInit, is_small, leb-true, listed_count, opening}

pub small-listed : (gtid : Bool) (servers : List ServerInit) → IsGiven gtid servers → is_small (length servers) (listed_count servers) ≡ true → IsListed (opening servers gtid)
small-listed gtid servers given small = record {
  some = given.some;
  few = given.few;
  listed = leb-true (length servers * listed_count servers) 4000000 small;
  each = given.each;
  names = given.names;
  uuids = given.uuids;
}
