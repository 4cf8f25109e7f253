-- A design that answers frames as is wanted, whatever is offered and taken, and in the stated clocks, and then shows the host the
-- wanted maps.
--
-- What is wanted is a relation of packets that came, in their order, their answers, and the maps after the last of them.
use Rattle.std.specs.Prelude.{◌≡◌, ℕ, ◌+◌, ◌-◌, ◌*◌, ◌^◌, ◌<◌, ◌≤◌, None, List, [], ◌∷◌, ◌++◌, length, map as map_list}
use Rattle.std.specs.List.{flat_map, AllByRecursion}
use Rattle.beat_core.specs.declared.beat.Beat.{Beat}
use Rattle.beat_core.specs.Beats.{beat_count, beats_of}
use Rattle.beat_core.specs.Filling.{filled_up}
use Rattle.beat_core.specs.Clocks.{AreOffers}
use Rattle.beat_core.specs.Laws.{IsFrame}
use Rattle.beat_core.specs.Ports.{Offered, offered, arrivals_among}
use Rattle.xdp_machine.specs.xdp_maps.State.{MapState}
use Rattle.xdp_machine.specs.Touched.{Touched}
use Rattle.net_core.specs.declared.ports.Inputs.{Inputs}
use Rattle.net_core.specs.Nets.{Netlist}
use Rattle.net_core.specs.Clock.{Stored}
use Rattle.net_core.specs.Trace.{Cycle, trace, stored_after, NeverStops, IsInput, IsSilent}
use Rattle.beat_core.specs.declared.answer.Answer.{Answer}
use Rattle.realization.specs.History.{beats_in, offers_in, Arrival, arrivals, answers_given, open_beats, reload_clocks, Drive, Answered, Stopped, drive}
use Rattle.realization.specs.HostHistory.Host.{ShowsMaps}
use Rattle.realization.specs.Bounds.{clock_bound, clock_bound_apart, most_beats, beats_before, FollowWithin, line_clocks, wait_clocks, all_writing}

-- Clocks with the host silent and offers well formed: each beat that goes over has 8 bytes unless it is a last one with 1 to 8,
-- and a frame has at least one beat and no more than the bound.
pub record IsPattern (d : Netlist) (s : Stored) (is : List Inputs) : Type 0 where
  pub inputs : AllByRecursion IsInput is
  pub silent : AllByRecursion IsSilent is
  pub offers : AreOffers 0 (beats_in (trace d s is))

-- beats that begin the next answer's, where one is to come; none where none is
abbrev pub BeginNext : List Beat → List Answer → Type 0
BeginNext begun [] = begun ≡ []
BeginNext begun (r ∷ rest) = (later : List Beat) × (begun ++ later ≡ beats_of r.frame)

-- No clock stops, the answers are a prefix of the wanted ones, and the beats after the last whole answer begin the next one.
pub record IsPrefix (d : Netlist) (s : Stored) (is : List Inputs) (wanted : List Arrival → List Answer → MapState → Type 0) : Type 0 where
  pub never : NeverStops d s is
  pub later : List Answer
  pub maps : MapState
  pub prefix : wanted (arrivals None (trace d s is)) (answers_given [] (trace d s is) ++ later) maps
  pub next : BeginNext (open_beats [] (trace d s is)) later

-- a packet with the bytes of a frame, whose numbers fit their ports
pub record IsPacket (a : Arrival) : Type 0 where
  pub frame : IsFrame a.frame
  pub ifindex : a.ifindex < 2 ^ 32
  pub time : a.time < 2 ^ 64

abbrev pub frames_in : List Arrival → List (List ℕ)
frames_in packets = map_list (λ a. a.frame) packets

-- the beats of packets as they are offered, each beside its packet's interface number and time
abbrev pub offers_from : Arrival → List Offered
offers_from a = map_list (offered a.ifindex a.time) (beats_of a.frame)

abbrev pub all_offers : List Arrival → List Offered
all_offers packets = flat_map offers_from packets

abbrev pub beats_offered : List Offered → List Beat
beats_offered os = map_list (λ o. o.beat) os

-- what stood at the inputs
abbrev pub inputs_in : List Cycle → List Inputs
inputs_in ms = map_list (λ m. m.given) ms

-- After these clocks a drive ended with its last answer. Together with those that came before it all answers are the wanted ones,
-- and the host is shown the wanted maps.
pub record IsWhole (d : Netlist) (s : Stored) (is : List Inputs) (r : Drive) (packets : List Arrival) (wanted : List Arrival → List Answer → MapState → Type 0) : Type 0 where
  pub ended : r.ended ≡ Answered
  pub maps : MapState
  pub all : wanted packets (answers_given [] (trace d s is ++ r.trace)) maps
  pub shown : ShowsMaps d (stored_after d (stored_after d s is) (inputs_in r.trace)) maps

-- what stands beside an offered beat fits its ports
pub record IsBeside (o : Offered) : Type 0 where
  pub ifindex : o.ifindex < 2 ^ 32
  pub time : o.time < 2 ^ 64

-- A pattern by which some of these packets' beats went over, and the beats that are left. Bytes that do not count are not asked, nor which numbers stand beside a beat that is no first one.
pub record IsAmid (d : Netlist) (s : Stored) (is : List Inputs) (packets : List Arrival) (left : List Offered) : Type 0 where
  pub pattern : IsPattern d s is
  pub are : AllByRecursion IsPacket packets
  pub beside : AllByRecursion IsBeside left
  pub beats : map_list filled_up (beats_in (trace d s is)) ++ beats_offered left ≡ flat_map beats_of (frames_in packets)
  pub frames : arrivals_among None (offers_in (trace d s is) ++ left) ≡ packets

-- the drive of what is left, in at most so many clocks
abbrev pub drive_on : Netlist → Stored → List Inputs → List Arrival → List Offered → ℕ → Drive
drive_on d s is packets left limit = drive d (stored_after d s is) left (length packets - length (answers_given [] (trace d s is))) limit

-- Offered and taken at every clock, packets are answered at line rate: a clock for each beat and for each operation of their runs, which touch this, that writes.
pub record AtLineRate (d : Netlist) (s : Stored) (wanted : List Arrival → List Answer → MapState → Type 0) (touch apart : List Arrival → List Touched → Type 0) (stages : ℕ) : Type 0 where
  -- the last place that a packet passes, and the one at which operations are committed
  pub last : ℕ
  pub within : last ≤ stages
  pub commit : ℕ
  pub before : commit ≤ last
  -- no drive stops at a divisor
  pub goes_on : (is : List Inputs) (packets : List Arrival) (left : List Offered) (limit w : ℕ) → IsAmid d s is packets left → (drive_on d s is packets left limit).ended ≡ Stopped w → ⊥
  -- from every state that a pattern leads to, and whatever conflicts: each clock in which packets are sent back costs the way to the commit place once more
  pub drives : (is : List Inputs) (packets : List Arrival) (left : List Offered) (limit late : ℕ) (ts : List Touched) → IsAmid d s is packets left → touch packets ts → FollowWithin last (frames_in packets) late →
      line_clocks last (frames_in packets) late + all_writing ts + reload_clocks (drive_on d s is packets left limit).trace * (commit + 2) ≤ limit →
      IsWhole d s is (drive_on d s is packets left limit) packets wanted
  -- So long a packet waits at most: the first k answers are given, once these clocks have gone beside those of the beats whose answers were given before.
  pub waits : (is : List Inputs) (packets : List Arrival) (left : List Offered) (limit late k : ℕ) (ts : List Touched) → IsAmid d s is packets left → touch packets ts → FollowWithin last (frames_in packets) late → k ≤ length packets →
      wait_clocks last (frames_in packets) late k + all_writing ts + reload_clocks (drive_on d s is packets left limit).trace * (commit + 2) ≤ limit + beats_before (length (answers_given [] (trace d s is))) (frames_in packets) →
      k ≤ length (answers_given [] (trace d s is ++ (drive_on d s is packets left limit).trace))
  -- from the first clock on, of packets that are apart
  pub follow : (packets : List Arrival) (limit late : ℕ) (ts : List Touched) → AllByRecursion IsPacket packets → apart packets ts →
      FollowWithin last (frames_in packets) late → line_clocks last (frames_in packets) late + all_writing ts ≤ limit →
      IsWhole d s [] (drive d s (all_offers packets) (length packets) limit) packets wanted
  -- frames of one length, of so many beats, come late by none
  pub equal : (packets : List Arrival) (limit beats : ℕ) (ts : List Touched) → AllByRecursion IsPacket packets → apart packets ts →
      AllByRecursion (λ f. beat_count (length f) ≡ beats) (frames_in packets) → length packets * beats + all_writing ts + beats + stages + 2 ≤ limit →
      IsWhole d s [] (drive d s (all_offers packets) (length packets) limit) packets wanted

-- A design that holds these values answers as is wanted, with so many stages and record sites. Runs of packets touch this; they are apart where these do not conflict.
pub record Meets (d : Netlist) (s : Stored) (wanted : List Arrival → List Answer → MapState → Type 0) (touch apart : List Arrival → List Touched → Type 0) (stages records : ℕ) : Type 0 where
  -- under every pattern of offered and taken beats
  pub safe : (is : List Inputs) → IsPattern d s is → IsPrefix d s is wanted
  -- offered and taken at every clock
  pub complete : (packets : List Arrival) (limit : ℕ) → AllByRecursion IsPacket packets →
      clock_bound (length packets) stages (most_beats (frames_in packets)) records ≤ limit →
      IsWhole d s [] (drive d s (all_offers packets) (length packets) limit) packets wanted
  -- the same, with the stages counted once, of packets that do not conflict
  pub complete_apart : (packets : List Arrival) (limit : ℕ) (ts : List Touched) → AllByRecursion IsPacket packets →
      apart packets ts → clock_bound_apart stages (frames_in packets) ts ≤ limit →
      IsWhole d s [] (drive d s (all_offers packets) (length packets) limit) packets wanted
  -- and at line rate
  pub at_line_rate : AtLineRate d s wanted touch apart stages
  -- The same from every state that a pattern leads to, by which some of these packets' beats went over. Bytes that do not count are
  -- not asked, nor which numbers stand beside a beat that is no first one.
  pub late : (is : List Inputs) (packets : List Arrival) (left : List Offered) (limit : ℕ) → IsPattern d s is → AllByRecursion IsPacket packets → AllByRecursion IsBeside left →
      map_list filled_up (beats_in (trace d s is)) ++ beats_offered left ≡ flat_map beats_of (frames_in packets) →
      arrivals_among None (offers_in (trace d s is) ++ left) ≡ packets →
      clock_bound (length packets + 1) stages (most_beats (frames_in packets)) records ≤ limit →
      IsWhole d s is (drive d (stored_after d s is) left (length packets - length (answers_given [] (trace d s is))) limit) packets wanted
