-- A capture that is read record by record: by its header, by the numbers of a record, and by the bytes after them.
use Rattle.std.specs.Prelude.{◌≡◌, ℕ, ◌+◌, ◌<◌, ◌≤◌, List, [], ◌∷◌, length, take, drop, Some, Result, Ok, Err}
use Rattle.pcap_core.specs.declared.order.Order.{Order}
use Rattle.pcap_core.specs.declared.head.RecHead.{RecHead}
use Rattle.pcap_core.specs.declared.record.Rec.{Rec}
use Rattle.pcap_core.specs.declared.error.PcapError.{PcapError}
use Rattle.pcap_core.specs.declared.error.PcapError.TheVariants.{Short}
use Rattle.pcap_core.specs.Reading.{packet_of_head, Coming, records_at, content_from, content_of}
use Rattle.pcap_core.specs.Next.{seen}

-- what is known by a header: the order of bytes in a capture's numbers, and its magic number
pub record Opened : Type 0 where
  pub order : Order
  pub magic : ℕ

-- what the capture holds: the records after the header, or nothing but the header's fault
abbrev pub Opens : Result Opened PcapError → List ℕ → Type 0
Opens (Ok s) bytes = (24 ≤ length bytes) × (content_of bytes ≡ Ok (content_from s.magic (records_at s.order 0 24 (drop 24 bytes))))
Opens (Err fault) bytes = content_of bytes ≡ Err fault

-- what comes after a record whose numbers say this
abbrev pub coming_after : Order → ℕ → ℕ → RecHead → List ℕ → Coming
coming_after order index at h rest = records_at order (index + 1) (at + 16 + h.length) (drop (16 + h.length) rest)

-- What comes where a record is in front: its packet and what comes after it, or the fault where its bytes are cut
-- off. Where its numbers are none, nothing comes but their fault.
pub record ComesWith (order : Order) (index at : ℕ) (h : RecHead) (rest : List ℕ) : Type 0 where
  pub whole : 16 + h.length ≤ length rest → records_at order index at rest ≡ (packet_of_head h (take h.length (drop 16 rest)) ∷ (coming_after order index at h rest).0, (coming_after order index at h rest).1)
  pub cut : length rest < 16 + h.length → records_at order index at rest ≡ ([], Some (Short at))

abbrev pub Begins : Result RecHead PcapError → Order → ℕ → ℕ → List ℕ → Type 0
Begins (Ok h) order index at rest = ComesWith order index at h rest
Begins (Err fault) order index at rest = records_at order index at rest ≡ ([], Some fault)

-- the record of these numbers and these bytes, or the fault where they are fewer
abbrev pub Completes : Result Rec PcapError → RecHead → ℕ → List ℕ → Type 0
Completes (Ok r) h at bytes = (length bytes ≡ h.length) × (seen r ≡ packet_of_head h bytes)
Completes (Err fault) h at bytes = (length bytes < h.length) × (fault ≡ Short at)
