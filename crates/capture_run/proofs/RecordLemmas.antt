-- A reader that stands before packets.
use Rattle.std.proofs.Common.{◌≤◌, ℕ, List, [], ◌∷◌, length, Option, None, Err}
use Rattle.pcap_core.specs.Format.{Packet}
use Rattle.pcap_core.specs.Streaming.{Opened}
use Rattle.capture_run.specs.Captures.{Reading, StandsBefore, GivesPacket}
use Rattle.capture_run.specs.declared.records.CaptureError.{CaptureError}
use Rattle.capture_run.proofs.PassingLemmas.{none_from, no_end}

-- it does not stand at the end
pub gives_none : (opened : Opened) (held : Option (List ℕ)) (packets : List Packet) (e : CaptureError) (old new : Reading) → (s : StandsBefore opened held old packets) → length s.content ≤ old.feed.at → GivesPacket (Err e) opened held new packets
gives_none opened held [] e old new s all = tt
gives_none opened held (p ∷ rest) e old new s all = absurd (no_end _ p rest None s.records (none_from opened.order old.index s.content old.feed all))
