-- When a packet was captured, in nanoseconds.
use Rattle.std.specs.Prelude.{ℕ, ◌+◌, ◌*◌, ◌==◌, if◌then◌else◌}
use Rattle.beat_core.specs.declared.frame.Timed.{Timed}
use Rattle.pcap_core.specs.Format.{Packet}

-- how many nanoseconds the unit of fractions has: they are nanoseconds, or microseconds
abbrev pub unit_of : ℕ → ℕ
unit_of magic = if magic == 0xa1b23c4d then 1 else 1000

abbrev pub time_of : ℕ → Packet → ℕ
time_of magic p = p.seconds * 1000000000 + p.fraction * unit_of magic

-- the packet as a frame with its time
abbrev pub timed_of : ℕ → Packet → Timed
timed_of magic p = record { frame = p.bytes; time = time_of magic p }
