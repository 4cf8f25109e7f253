-- Reading is of the format: each list of bytes has one content, or one fault of its header.
use Rattle.std.specs.Prelude.{◌≡◌, ℕ, List, None, Ok, Err}
use Rattle.std.specs.List.{AllByRecursion}
use Rattle.pcap_core.specs.declared.error.PcapError.{PcapError}
use Rattle.pcap_core.specs.Format.{Header, IsHeader, Record, IsRecord, packets_of, capture_bytes, Content, IsContent, IsHeaderFault}
use Rattle.pcap_core.specs.Reading.{content_of}
use Rattle.list_laws.specs.Bytes.{IsBytes}

pub record IsOneReading : Type 0 where
  -- What is read is so, and what is so is read.
  pub found : (bytes : List ℕ) (c : Content) → IsBytes bytes → content_of bytes ≡ Ok c → IsContent bytes c
  pub only : (bytes : List ℕ) (c : Content) → IsContent bytes c → content_of bytes ≡ Ok c
  -- The same of the first fault of a header.
  pub fault : (bytes : List ℕ) (e : PcapError) → content_of bytes ≡ Err e → IsHeaderFault bytes e
  pub only_fault : (bytes : List ℕ) (e : PcapError) → IsBytes bytes → IsHeaderFault bytes e → content_of bytes ≡ Err e
  -- A capture that is written is read back.
  pub written : (h : Header) (rs : List Record) → IsHeader h → AllByRecursion IsRecord rs → content_of (capture_bytes h rs) ≡ Ok (record { magic = h.magic; packets = packets_of rs; fault = None })
