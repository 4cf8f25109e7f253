-- A capture that is read through once: what was counted so far, and how it ends.
use Rattle.std.proofs.Common.{◌≡◌, ℕ, ◌+◌, ◌<◌, ◌≤◌, List, [], ◌∷◌, ◌++◌, length, take, drop, Option, Some, None, Result, Ok, Err, refl, sym, ap, ◌∙◌, subst, arith, inl, inr, append_assoc, length-append, length-drop}
use Rattle.std.proofs.lemmas.List.{append-nil, take_all, length-take}
use Rattle.shelf_core.specs.Feeding.{Feeding, IsAheadOf}
use Rattle.beat_core.specs.list_laws.Bytes.{IsBytes}
use Rattle.pcap_core.specs.declared.error.PcapError.{PcapError}
use Rattle.pcap_core.specs.Format.{Packet, IsContent}
use Rattle.pcap_core.specs.Reading.{Coming, records_at, content_from, content_of}
use Rattle.pcap_core.specs.Streaming.{Opened, Opens}
use Rattle.pcap_core.proofs.ContentLaws.{content_of-is, content_of-fault}
use Rattle.capture_run.specs.Captures.{HoldsCapture, HoldsFault, IsSurveyed}
use Rattle.capture_run.specs.Passing.{GoesOn, coming_from, IsReadOut, ReadsOut, IsBehindHeader}
use Rattle.capture_run.proofs.PassingLemmas.{none_from}
use Rattle.capture_run.specs.declared.records.TheConstants.{CAPTURE_LIMIT}
use Rattle.capture_run.specs.declared.records.CaptureError.{CaptureError}
use Rattle.capture_run.specs.declared.records.CaptureError.TheVariants.{Failed, TooLong, Fault}
use Rattle.capture_run.specs.declared.records.Survey.{Survey}

-- ---- so many records were passed
-- these packets, and what comes from where the feed stands
pub record Follows (opened : Opened) (content : List ℕ) (index : ℕ) (f : Feeding) : Type 0 where
  pub ahead : IsAheadOf (Some content) f
  pub passed : IsBytes (take f.at content)
  pub packets : List Packet
  pub count : length packets ≡ index
  pub coming : records_at opened.order 0 24 (drop 24 content) ≡ (packets ++ (coming_from opened.order index content f).0, (coming_from opened.order index content f).1)

pub follows_more : (opened : Opened) (content : List ℕ) (index : ℕ) (p : Packet) (old new : Feeding) → Follows opened content index old → GoesOn content old new → coming_from opened.order index content old ≡ (p ∷ (coming_from opened.order (index + 1) content new).0, (coming_from opened.order (index + 1) content new).1) → Follows opened content (index + 1) new
follows_more opened content index p old new f on gives =
    let later = coming_from opened.order (index + 1) content new in
    record {
      ahead = on.ahead;
      passed = on.bytes f.passed;
      packets = f.packets ++ p ∷ [];
      count = length-append f.packets (p ∷ []) ∙ ap (λ (k : ℕ). k + 1) f.count;
      coming = f.coming ∙ ap (λ (m : Coming). (f.packets ++ m.0, m.1)) gives ∙ ap (λ (ps : List Packet). (ps, later.1)) (sym (append_assoc f.packets (p ∷ []) later.0));
    }

-- ---- how it ends
-- where nothing is left, the records are these packets
pub ends_whole : (opened : Opened) (content : List ℕ) (count : ℕ) (f : Feeding) → length content ≤ f.at → (h : Follows opened content count f) → records_at opened.order 0 24 (drop 24 content) ≡ (h.packets, None)
ends_whole opened content count f all h =
    let none = none_from opened.order count content f all in
    h.coming ∙ ap (λ (m : Coming). (h.packets ++ m.0, m.1)) none ∙ ap (λ (ps : List Packet). (ps, None)) (append-nil h.packets)

-- all bytes were passed
pub all_passed : (content : List ℕ) (at : ℕ) → length content ≤ at → IsBytes (take at content) → IsBytes content
all_passed content at all passed = let P : List ℕ → Type 0 = IsBytes in subst P (take_all at content all) passed

content_with : (bytes : List ℕ) (magic : ℕ) (coming : Coming) (packets : List Packet) (fault : Option PcapError) → IsBytes bytes → content_of bytes ≡ Ok (content_from magic coming) → coming ≡ (packets, fault) → IsContent bytes (record { magic = magic; packets = packets; fault = fault })
content_with bytes magic coming packets fault h is e = content_of-is bytes _ h (is ∙ ap (λ (m : Coming). Ok (content_from magic m)) e)

pub surveyed : (opened : Opened) (content : List ℕ) (count : ℕ) (first last : Feeding) → IsBehindHeader opened content first → length content ≤ last.at → last.at ≤ CAPTURE_LIMIT → Follows opened content count last → (packets : List Packet) × HoldsCapture opened (Some content) packets × (count ≡ length packets)
surveyed opened content count first last b all within f =
    let records = ends_whole opened content count last all f in
    let bytes = all_passed content last.at all f.passed in (
      f.packets,
      record {
        content = content;
        there = refl;
        within = omega (arith, all, within);
        is = content_with content opened.magic _ f.packets None bytes b.opens.1 records;
        header = b.opens.0;
        records = records;
      },
      sym f.count,
    )

-- ---- how it ends with a fault
pub record_fault : (opened : Opened) (content : List ℕ) (count : ℕ) (first last : Feeding) (fault : PcapError) → IsBehindHeader opened content first → Follows opened content count last → coming_from opened.order count content last ≡ ([], Some fault) → IsReadOut content → HoldsFault (Some content) fault
record_fault opened content count first last fault b f is out =
    let records : records_at opened.order 0 24 (drop 24 content) ≡ (f.packets ++ [], Some fault) = f.coming ∙ ap (λ (m : Coming). (f.packets ++ m.0, m.1)) is in
    record {
      content = content;
      there = refl;
      within = out.within;
      is = record {
        are_bytes = out.are_bytes;
        first = inr (record { magic = opened.magic; packets = f.packets ++ []; fault = Some fault }, content_with content opened.magic _ (f.packets ++ []) (Some fault) out.are_bytes b.opens.1 records, refl);
      };
    }

pub header_fault : (content : List ℕ) (fault : PcapError) → content_of content ≡ Err fault → IsReadOut content → HoldsFault (Some content) fault
header_fault content fault is out = record {
  content = content;
  there = refl;
  within = out.within;
  is = record { are_bytes = out.are_bytes; first = inl (content_of-fault content fault is) };
}

-- the rest was read out behind a fault
pub fault_out : (error : CaptureError) (fault : PcapError) (content : List ℕ) → ReadsOut error fault content → (IsReadOut content → HoldsFault (Some content) fault) → IsSurveyed (Err error) (Some content)
fault_out Failed fault content out holds = tt
fault_out TooLong fault content out holds = out
fault_out (Fault f) fault content out holds = let P : PcapError → Type 0 = HoldsFault (Some content) in subst P (sym out.0) (holds out.1)

-- ---- what is known of a name that is there, or is not
pub by_name : (result : Result Survey CaptureError) (held : Option (List ℕ)) → (held ≡ None → IsSurveyed result None) → ((content : List ℕ) → held ≡ Some content → IsSurveyed result (Some content)) → IsSurveyed result held
by_name result None none some = none refl
by_name result (Some content) none some = some content refl

-- ---- the first read
pub nothing_ahead : (content : List ℕ) (f : Feeding) → f.at ≡ 0 → f.ahead ≡ [] → IsAheadOf (Some content) f
nothing_ahead content f at none = (omega (arith, at, ap length none), none ∙ sym (ap (λ (l : List ℕ). take (length l) (drop f.at content)) none))

pub nothing_passed : (content : List ℕ) (f : Feeding) → f.at ≡ 0 → IsBytes (take f.at content)
nothing_passed content f at = let P : ℕ → Type 0 = λ k. IsBytes (take k content) in subst P (sym at) (λ i. omega arith)

-- a name that is not there is not read
pub not_there : (result : Result ℕ CaptureError) (n : ℕ) → result ≡ Ok n → result ≡ Err Failed → ⊥
not_there result n e f = absurd (cc)

pub behind_header : (opened : Opened) (content : List ℕ) (old new : Feeding) → old.at ≡ 0 → new.given ≡ take 24 (drop old.at content) → new.at ≡ old.at + length new.given → GoesOn content old new → Opens (Ok opened) content → IsBehindHeader opened content new
behind_header opened content old new first given at on opens =
    let whole : drop old.at content ≡ content = ap (λ (k : ℕ). drop k content) first in
    record {
      opens = opens;
      at = omega (arith, at, first, ap length given, ap (λ (l : List ℕ). length (take 24 l)) whole, length-take 24 content, opens.0);
      ahead = on.ahead;
      passed = on.bytes (nothing_passed content old first);
    }

-- ---- the last read
pub read_to_end : (content : List ℕ) (need : ℕ) (old new : Feeding) → new.given ≡ take need (drop old.at content) → length new.given < need → new.at ≡ old.at + length new.given → new.at ≤ CAPTURE_LIMIT → IsBytes (take new.at content) → IsReadOut content
read_to_end content need old new given few at within passed =
    let all : length content ≤ new.at = omega (arith, at, few, ap length given, length-take need (drop old.at content), length-drop old.at content) in
    record { within = omega (arith, all, within); are_bytes = all_passed content new.at all passed }
