-- How a reader goes on from record to record, where a shelf tells what a name holds.
use Rattle.std.specs.Prelude.{◌≡◌, ℕ, ◌+◌, ◌<◌, ◌≤◌, IsTrue, List, [], ◌∷◌, length, take, drop, Option, Some, None, Result, Ok, Err}
use Rattle.shelf_core.specs.Feeding.{Feeding, IsAheadOf}
use Rattle.beat_core.specs.list_laws.Bytes.{IsBytes}
use Rattle.pcap_core.specs.declared.order.Order.{Order}
use Rattle.pcap_core.specs.declared.head.RecHead.{RecHead}
use Rattle.pcap_core.specs.declared.error.PcapError.{PcapError}
use Rattle.pcap_core.specs.declared.error.PcapError.TheVariants.{Short}
use Rattle.pcap_core.specs.Format.{Packet, IsLength}
use Rattle.pcap_core.specs.Reading.{packet_of_head, Coming, records_at}
use Rattle.pcap_core.specs.Streaming.{Opened, Opens, ComesWith}
use Rattle.capture_run.specs.States.{ShelfState}
use Rattle.capture_run.specs.Captures.{packet_with}
use Rattle.capture_run.specs.declared.records.TheConstants.{CAPTURE_LIMIT}
use Rattle.capture_run.specs.declared.records.CaptureError.{CaptureError}
use Rattle.capture_run.specs.declared.records.CaptureError.TheVariants.{Failed, TooLong, Fault}
use Rattle.capture_run.specs.declared.records.Stamp.{Stamp}

-- a shelf that tells holds these bytes under a name
pub record Tells (s : ShelfState) (name content : List ℕ) : Type 0 where
  pub tells : IsTrue s.tells
  pub there : s.held name ≡ Some content

-- so many bytes were given, at most those that were asked for
pub record IsGiven (n need : ℕ) (old new : Feeding) : Type 0 where
  pub count : length new.given ≡ n
  pub most : n ≤ need
  pub at : new.at ≡ old.at + n

-- What is read ahead are still the bytes that are held. Where those up to the old place are bytes, so are those up to the new one.
pub record GoesOn (content : List ℕ) (old new : Feeding) : Type 0 where
  pub ahead : IsAheadOf (Some content) new
  pub bytes : IsBytes (take old.at content) → IsBytes (take new.at content)

-- what an error means that is no fault of the capture
abbrev pub Stops : CaptureError → List ℕ → (PcapError → Type 0) → Type 0
Stops Failed content IsFault = Unit {0}
Stops TooLong content IsFault = CAPTURE_LIMIT < length content
Stops (Fault fault) content IsFault = IsFault fault

-- the next bytes of what is held, or all that are left
abbrev pub GivesBytes : Result ℕ CaptureError → List ℕ → ℕ → Feeding → Feeding → Type 0
GivesBytes (Ok n) content need old new = new.given ≡ take need (drop old.at content)
GivesBytes (Err e) content need old new = Stops e content (λ fault. ⊥)

-- what comes from a place on
abbrev pub coming_from : Order → ℕ → List ℕ → Feeding → Coming
coming_from order index content f = records_at order index f.at (drop f.at content)

-- the numbers in front of a record, or the end
abbrev pub GivesHead : Result (Option RecHead) CaptureError → Order → ℕ → List ℕ → Feeding → Feeding → Type 0
GivesHead (Ok (Some h)) order index content old new = (new.at ≡ old.at + 16) × ComesWith order index old.at h (drop old.at content)
GivesHead (Ok None) order index content old new = length content ≤ old.at
GivesHead (Err e) order index content old new = Stops e content (λ fault. coming_from order index content old ≡ ([], Some fault))

-- the packet that follows its numbers, or the fault where it is cut off
abbrev pub GivesBody : Result Stamp CaptureError → RecHead → ℕ → List ℕ → Feeding → Feeding → Type 0
GivesBody (Ok stamp) h at content old new = (new.given ≡ take h.length (drop old.at content)) × (packet_with stamp new.given ≡ packet_of_head h new.given)
GivesBody (Err e) h at content old new = Stops e content (λ fault. (fault ≡ Short at) × (length (take h.length (drop old.at content)) < h.length))

-- the next record, the end, or the fault there
abbrev pub GivesRecord : Result (Option Stamp) CaptureError → Order → ℕ → List ℕ → Feeding → Feeding → Type 0
GivesRecord (Ok (Some stamp)) order index content old new =
    coming_from order index content old ≡ (packet_with stamp new.given ∷ (coming_from order (index + 1) content new).0, (coming_from order (index + 1) content new).1)
GivesRecord (Ok None) order index content old new = length content ≤ old.at
GivesRecord (Err e) order index content old new = Stops e content (λ fault. coming_from order index content old ≡ ([], Some fault))

-- a record has bytes, and no more than a frame
abbrev pub HasLength : Result (Option Stamp) CaptureError → Feeding → Feeding → Type 0
HasLength (Ok (Some stamp)) old new = IsLength (length new.given) × (old.at < new.at)
HasLength (Ok None) old new = Unit {0}
HasLength (Err e) old new = Unit {0}

-- the rest was read: it is not too long, and all are bytes
pub record IsReadOut (content : List ℕ) : Type 0 where
  pub within : length content ≤ CAPTURE_LIMIT
  pub are_bytes : IsBytes content

-- the fault stands, unless a read failed or there are too many bytes
abbrev pub ReadsOut : CaptureError → PcapError → List ℕ → Type 0
ReadsOut e fault content = Stops e content (λ (f : PcapError). (f ≡ fault) × IsReadOut content)

-- the header was read, and the feed stands behind it
pub record IsBehindHeader (opened : Opened) (content : List ℕ) (f : Feeding) : Type 0 where
  pub opens : Opens (Ok opened) content
  pub at : f.at ≡ 24
  pub ahead : IsAheadOf (Some content) f
  pub passed : IsBytes (take f.at content)
