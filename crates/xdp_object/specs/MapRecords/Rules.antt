-- The numbers by which the rules on maps are told.
use Rattle.std.specs.Prelude.{ℕ}
use Rattle.xdp_object.specs.declared.map_records.fault.MapRule.{MapRule}
use Rattle.xdp_object.specs.declared.map_records.fault.MapRule.TheVariants.{Record, Kind, Key, Value, Entries, Flags, Tail, Many, Name, Absent}

abbrev pub number_of : MapRule → ℕ
number_of Record = 1
number_of Kind = 2
number_of Key = 3
number_of Value = 4
number_of Entries = 5
number_of Flags = 6
number_of Tail = 7
number_of Many = 8
number_of Name = 9
number_of Absent = 10
