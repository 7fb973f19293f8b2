-- What a slot of a log index holds.
use Rattle.std.specs.Prelude.{◌+◌}
use Rattle.binlog_coords.specs.declared.Entry.{Entry}
use Rattle.binlog_coords.specs.declared.index.Slot.{Slot}
use Rattle.orch_base.specs.declared.server.Txn.{Txn}

-- the coordinates of its transaction
abbrev pub entry_of : Slot → Entry
entry_of s = record { file = s.file; start = s.start; end = s.start + s.size }

-- its transaction
abbrev pub txn_of : Slot → Txn
txn_of s = record { origin = record { 0 = s.origin }; seq = s.seq; size = s.size }
