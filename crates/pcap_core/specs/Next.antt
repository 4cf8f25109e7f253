-- What the readers give: a record in front of the rest, and the next packet of what is left.
use Rattle.std.specs.Prelude.{◌≡◌, ℕ, ◌+◌, List, [], ◌∷◌, length, drop, Option, Some, None, Result, Ok, Err}
use Rattle.pcap_core.specs.declared.record.Rec.{Rec}
use Rattle.pcap_core.specs.declared.error.PcapError.{PcapError}
use Rattle.pcap_core.specs.Format.{Packet, Content, IsLength}

-- a record that was given, as a packet
abbrev pub seen : Rec → Packet
seen r = record { seconds = r.seconds; fraction = r.fraction; bytes = r.bytes.now }

-- the record in front of the rest is what was read there, and what follows it begins after its bytes
abbrev pub GivesRecord : Result (Option Rec) PcapError → List ℕ → Result (Option (Packet × List ℕ)) PcapError → Type 0
GivesRecord (Ok (Some r)) rest read = read ≡ Ok (Some (seen r, drop (16 + length r.bytes.now) rest))
GivesRecord (Ok None) rest read = read ≡ Ok None
GivesRecord (Err fault) rest read = read ≡ Err fault

-- The packets come in order. After them comes the end, or the fault, at each further call.
abbrev pub GivesNext : Result (Option Rec) PcapError → Content → Content → Type 0
GivesNext (Ok (Some r)) old new = (old.packets ≡ seen r ∷ new.packets) × (new.fault ≡ old.fault) × (new.magic ≡ old.magic)
GivesNext (Ok None) old new = (old.packets ≡ []) × (old.fault ≡ None) × (new ≡ old)
GivesNext (Err fault) old new = (old.packets ≡ []) × (old.fault ≡ Some fault) × (new ≡ old)

-- a packet that is given has the bytes of a frame
abbrev pub GivesFrame : Result (Option Rec) PcapError → Type 0
GivesFrame (Ok (Some r)) = IsLength (length r.bytes.now)
GivesFrame (Ok None) = Unit {0}
GivesFrame (Err fault) = Unit {0}
