-- A capture that a name holds, read record by record.
use Rattle.std.specs.Prelude.{◌≡◌, ◌⊎◌, ℕ, ◌≤◌, List, [], ◌∷◌, length, drop, Option, Some, None, Result, Ok, Err}
use Rattle.shelf_core.specs.Shelf.{IsLonger}
use Rattle.shelf_core.specs.Feeding.{Feeding, IsAheadOf}
use Rattle.list_laws.specs.Bytes.{IsBytes}
use Rattle.pcap_core.specs.declared.error.PcapError.{PcapError}
use Rattle.pcap_core.specs.Format.{Packet, Content, IsContent, IsHeaderFault}
use Rattle.pcap_core.specs.Reading.{records_at}
use Rattle.pcap_core.specs.Streaming.{Opened}
use Rattle.capture_run.specs.declared.records.TheConstants.{CAPTURE_LIMIT}
use Rattle.capture_run.specs.declared.records.CaptureError.{CaptureError}
use Rattle.capture_run.specs.declared.records.CaptureError.TheVariants.{Failed, TooLong, Fault}
use Rattle.capture_run.specs.declared.records.Stamp.{Stamp}
use Rattle.capture_run.specs.declared.records.Survey.{Survey}

-- ---- what the bytes are
-- The bytes are a capture of these packets and nothing else. Its magic number says what fractions of a second are.
abbrev pub IsCaptured : List ℕ → ℕ → List Packet → Type 0
IsCaptured bytes magic packets = IsContent bytes (record { magic = magic; packets = packets; fault = None })

-- The bytes are no capture, and this is the first fault: that of the header, or that of the first record which is not whole.
pub record IsCaptureFault (bytes : List ℕ) (fault : PcapError) : Type 0 where
  pub are_bytes : IsBytes bytes
  pub first : IsHeaderFault bytes fault ⊎ ((c : Content) × IsContent bytes c × (c.fault ≡ Some fault))

-- ---- what a name holds
-- a capture of these packets: so its header says, and the records after it
pub record HoldsCapture (opened : Opened) (held : Option (List ℕ)) (packets : List Packet) : Type 0 where
  pub content : List ℕ
  pub there : held ≡ Some content
  pub within : length content ≤ CAPTURE_LIMIT
  pub is : IsCaptured content opened.magic packets
  pub header : 24 ≤ length content
  pub records : records_at opened.order 0 24 (drop 24 content) ≡ (packets, None)

-- bytes that are no capture, with this first fault
pub record HoldsFault (held : Option (List ℕ)) (fault : PcapError) : Type 0 where
  pub content : List ℕ
  pub there : held ≡ Some content
  pub within : length content ≤ CAPTURE_LIMIT
  pub is : IsCaptureFault content fault

-- the capture that is held was read through once: so many packets, or its first fault, or too many bytes
abbrev pub IsSurveyed : Result Survey CaptureError → Option (List ℕ) → Type 0
IsSurveyed (Ok survey) held = (packets : List Packet) × HoldsCapture survey.stream held packets × (survey.count ≡ length packets)
IsSurveyed (Err Failed) held = Unit {0}
IsSurveyed (Err TooLong) held = IsLonger CAPTURE_LIMIT held
IsSurveyed (Err (Fault fault)) held = HoldsFault held fault

-- ---- where a reader stands
-- which record comes next, and what was read so far
pub record Reading : Type 0 where
  pub index : ℕ
  pub feed : Feeding

-- These packets come next, and nothing after them.
pub record StandsBefore (opened : Opened) (held : Option (List ℕ)) (r : Reading) (packets : List Packet) : Type 0 where
  pub content : List ℕ
  pub there : held ≡ Some content
  pub within : length content ≤ CAPTURE_LIMIT
  pub ahead : IsAheadOf held r.feed
  pub records : records_at opened.order r.index r.feed.at (drop r.feed.at content) ≡ (packets, None)

-- the reader stands before all of them, unless a read failed
abbrev pub Begins : Result (Unit {0}) CaptureError → Opened → Option (List ℕ) → Reading → List Packet → Type 0
Begins (Ok u) opened held new packets = StandsBefore opened held new packets
Begins (Err e) opened held new packets = e ≡ Failed

abbrev pub packet_with : Stamp → List ℕ → Packet
packet_with stamp bytes = record { seconds = stamp.seconds; fraction = stamp.fraction; bytes = bytes }

-- where there is a packet in front, it was given, unless a read failed
abbrev pub GivesPacket : Result Stamp CaptureError → Opened → Option (List ℕ) → Reading → List Packet → Type 0
GivesPacket result opened held new [] = Unit {0}
GivesPacket (Ok stamp) opened held new (p ∷ rest) = (p ≡ packet_with stamp new.feed.given) × StandsBefore opened held new rest
GivesPacket (Err e) opened held new (p ∷ rest) = e ≡ Failed
