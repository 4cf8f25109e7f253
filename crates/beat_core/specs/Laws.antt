-- The laws of beats, which hold of every list.
use Rattle.std.specs.Prelude.{◌≡◌, ℕ, ◌*◌, ◌<◌, ◌≤◌, ◌++◌, List, [], length, map, None}
use Rattle.std.specs.List.{flat_map, AllByRecursion}
use Rattle.beat_core.specs.declared.beat.Beat.{Beat}
use Rattle.beat_core.specs.declared.frame.TheConstants.{FRAME_LIMIT, BEAT_LIMIT}
use Rattle.beat_core.specs.Beats.{bytes_of_beat, IsOffer, IsWhole, IsFilledUp, beats_of, frame_of, beat_count}
use Rattle.beat_core.specs.Clocks.{frames_among, AreOffers}
use Rattle.beat_core.specs.Ports.{Arrival, offers_of, arrivals_among, given, answers_among}
use Rattle.beat_core.specs.declared.frame.Timed.{Timed}
use Rattle.beat_core.specs.declared.answer.Answer.{Answer}
use Rattle.list_laws.specs.Bytes.{IsBytes}

-- the bytes of a frame
pub record IsFrame (xs : List ℕ) : Type 0 where
  pub bytes : IsBytes xs
  pub some : 1 ≤ length xs
  pub room : length xs ≤ FRAME_LIMIT

-- Frames and the beats of whole frames, whose words are filled up with zeros, are each other's inverse.
pub record AreInverse : Type 0 where
  pub frame : (xs : List ℕ) → IsBytes xs → frame_of (beats_of xs) ≡ xs
  pub beats : (bs : List Beat) → IsWhole bs → AllByRecursion IsFilledUp bs → beats_of (frame_of bs) ≡ bs
  pub whole : (xs : List ℕ) → 1 ≤ length xs → IsWhole (beats_of xs)
  pub filled : (xs : List ℕ) → IsBytes xs → AllByRecursion IsFilledUp (beats_of xs)
  pub count : (xs : List ℕ) → length (beats_of xs) ≡ beat_count (length xs)

-- Frames that are offered one after the other are well-formed offers, and just these frames in their order.
-- Well-formed offers have room: before each beat but the first whole words have come.
pub record ComeInOrder : Type 0 where
  pub room : (so_far : List ℕ) (n : ℕ) (b : Beat) → length so_far ≡ 8 * n → n < BEAT_LIMIT → IsOffer b → length (so_far ++ bytes_of_beat b) ≤ FRAME_LIMIT
  pub offers : (frames : List (List ℕ)) → AllByRecursion IsFrame frames → AreOffers 0 (flat_map beats_of frames)
  pub frames : (frames : List (List ℕ)) → AllByRecursion IsFrame frames → frames_among [] (flat_map beats_of frames) ≡ frames

abbrev pub arrival_of : ℕ → Timed → Arrival
arrival_of ifindex p = record { ifindex = ifindex; time = p.time; frame = p.frame }

-- a packet with the bytes of a frame
abbrev pub IsPacket : Timed → Type 0
IsPacket p = IsFrame p.frame

-- an answer with the bytes of a frame
abbrev pub HasFrame : Answer → Type 0
HasFrame r = IsFrame r.frame

-- At the ports each frame that is offered under a number arrives under it with its time, and each answer whose
-- beats are given beside its verdict and target is given.
pub record PassThePorts : Type 0 where
  pub arrivals : (ifindex : ℕ) (packets : List Timed) → AllByRecursion IsPacket packets → arrivals_among None (flat_map (offers_of ifindex) packets) ≡ map (arrival_of ifindex) packets
  pub answers : (answers : List Answer) → AllByRecursion HasFrame answers → answers_among [] (flat_map (λ r. map (given r.verdict r.target) (beats_of r.frame)) answers) ≡ answers
