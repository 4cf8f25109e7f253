-- The frames that well-formed beats make, under numbers that fit their ports, are packets.
use Rattle.std.specs.Prelude.{◌≡◌, ℕ, zero, suc, ◌*◌, ◌^◌, ◌<◌, min, if◌then◌else◌, Bool, true, false, Option, Some, None, List, [], ◌∷◌, length}
use Rattle.std.specs.List.{AllByRecursion}
use Rattle.std.proofs.Common.{refl, arith, length-append}
use Rattle.beat_core.proofs.list_laws_laws.ByteLaws.{IsBytes-append}
use Rattle.beat_core.specs.declared.beat.Beat.{Beat}
use Rattle.beat_core.specs.declared.frame.TheConstants.{BEAT_LIMIT}
use Rattle.beat_core.specs.Beats.{bytes_of_beat, IsOffer}
use Rattle.beat_core.specs.Clocks.{AreOffers}
use Rattle.beat_core.specs.Ports.{offered, Arrival, arrived, arrivals_among}
use Rattle.beat_core.proofs.BeatLaws.{IsOffer-count, IsOffer-eight}
use Rattle.beat_core.proofs.WordLaws.{length-low_bytes, IsBytes-low_bytes}
use Rattle.beat_core.specs.list_laws.Bytes.{IsBytes}
use Rattle.net_core.specs.declared.ports.Inputs.{Inputs}
use Rattle.net_core.specs.Nets.{Netlist}
use Rattle.net_core.specs.Clock.{Stored, after}
use Rattle.net_core.specs.Ports.{words_of}
use Rattle.net_core.specs.Trace.{Cycle, cycle_of, trace, IsInput}
use Rattle.realization.specs.History.{goes_in, offered_beat, beats_in, offers_in}
use Rattle.realization.specs.Realizes.{IsPacket}
use Rattle.realization.specs.Laws.{PatternsBringPackets}

-- So many beats of a frame have come, each with eight bytes.
pub record HasBegun (n : ℕ) (a : Arrival) : Type 0 where
  pub len : length a.frame ≡ 8 * n
  pub bytes : IsBytes a.frame
  pub ifindex : a.ifindex < 2 ^ 32
  pub time : a.time < 2 ^ 64

abbrev IsBegun : ℕ → Option Arrival → Type 0
IsBegun n None = n ≡ 0
IsBegun n (Some a) = HasBegun n a

module _ (n : ℕ) (b : Beat) (offer : IsOffer b) (room : n < BEAT_LIMIT) (ifindex time : ℕ) (ifindex_fits : ifindex < 2 ^ 32) (time_fits : time < 2 ^ 64) where
  count : length (bytes_of_beat b) ≡ b.bytes
  count = omega (arith, IsOffer-count b offer, length-low_bytes (min b.bytes 8) b.word)

  -- with a last beat a frame is whole
  ends : (part : Option Arrival) → IsBegun n part → IsPacket (arrived part (offered ifindex time b))
  ends None begun = record {
    frame = record { bytes = IsBytes-low_bytes (min b.bytes 8) b.word; some = omega (arith, count, IsOffer-count b offer); room = omega (arith, count, IsOffer-count b offer) };
    ifindex = ifindex_fits;
    time = time_fits;
  }
  ends (Some a) begun = record {
    frame = record {
      bytes = IsBytes-append a.frame (bytes_of_beat b) begun.bytes (IsBytes-low_bytes (min b.bytes 8) b.word);
      some = omega (arith, count, IsOffer-count b offer, length-append a.frame (bytes_of_beat b));
      room = omega (arith, count, IsOffer-count b offer, length-append a.frame (bytes_of_beat b), begun.len, room);
    };
    ifindex = begun.ifindex;
    time = begun.time;
  }

  -- with another beat more of it has come
  goes_on : (part : Option Arrival) → IsBegun n part → b.last ≡ false → HasBegun (suc n) (arrived part (offered ifindex time b))
  goes_on None begun on = record { len = omega (arith, count, IsOffer-eight b offer on, begun); bytes = IsBytes-low_bytes (min b.bytes 8) b.word; ifindex = ifindex_fits; time = time_fits }
  goes_on (Some a) begun on = record {
    len = omega (arith, count, IsOffer-eight b offer on, length-append a.frame (bytes_of_beat b), begun.len);
    bytes = IsBytes-append a.frame (bytes_of_beat b) begun.bytes (IsBytes-low_bytes (min b.bytes 8) b.word);
    ifindex = begun.ifindex;
    time = begun.time;
  }

-- clocks after which packets come, whatever has come before them
abbrev ComesOn : List Cycle → Type 0
ComesOn ms = (n : ℕ) (part : Option Arrival) → IsBegun n part → AreOffers n (beats_in ms) → AllByRecursion IsPacket (arrivals_among part (offers_in ms))

-- a beat that goes over before them
one_beat : (ms : List Cycle) (i : Inputs) (b : Beat) (n : ℕ) (part : Option Arrival) (last : Bool) → ComesOn ms → IsInput i → b.last ≡ last → IsBegun n part
    → IsOffer b × (n < BEAT_LIMIT) × AreOffers (if last then zero else suc n) (beats_in ms)
    → AllByRecursion IsPacket (if last then arrived part (offered i.in_ifindex i.in_time b) ∷ arrivals_among None (offers_in ms) else arrivals_among (Some (arrived part (offered i.in_ifindex i.in_time b))) (offers_in ms))
one_beat ms i b n part true more fits e begun h =
    (ends n b h.0 h.1 i.in_ifindex i.in_time fits.in_ifindex fits.in_time part begun, more 0 None refl h.2)
one_beat ms i b n part false more fits e begun h =
    more (suc n) (Some (arrived part (offered i.in_ifindex i.in_time b))) (goes_on n b h.0 h.1 i.in_ifindex i.in_time fits.in_ifindex fits.in_time part begun e) h.2

one_clock : (ms : List Cycle) (i : Inputs) (b : Beat) (n : ℕ) (part : Option Arrival) (goes : Bool) → ComesOn ms → IsInput i → IsBegun n part
    → AreOffers n (if goes then b ∷ beats_in ms else beats_in ms)
    → AllByRecursion IsPacket (arrivals_among part (if goes then offered i.in_ifindex i.in_time b ∷ offers_in ms else offers_in ms))
one_clock ms i b n part true more fits begun h = one_beat ms i b n part b.last more fits refl begun h
one_clock ms i b n part false more fits begun h = more n part begun h

comes_on : (d : Netlist) (s : Stored) (is : List Inputs) → AllByRecursion IsInput is → ComesOn (trace d s is)
comes_on d s [] fit n part begun h = tt
comes_on d s (i ∷ is) fit n part begun h = let m : Cycle = cycle_of d s i in
    one_clock (trace d (after d (words_of i) s) is) i (offered_beat m) n part (goes_in m) (comes_on d (after d (words_of i) s) is fit.1) fit.0 begun h

pub patterns_bring_packets : PatternsBringPackets
patterns_bring_packets d s is pattern = comes_on d s is pattern.inputs 0 None refl pattern.offers
