-- Lists of clocks one after the other, and what goes over in them.
use Rattle.std.specs.Prelude.{◌≡◌, ℕ, ◌≤◌, if◌then◌else◌, Bool, true, false, not, Option, Some, None, List, [], ◌∷◌, ◌++◌, length, map}
use Rattle.std.specs.List.{AllByRecursion, flat_map}
use Rattle.std.proofs.Common.{refl, sym, ap, ◌∙◌, arith, append-nil, length-append}
use Rattle.cell_core.specs.beat_core.declared.beat.Beat.{Beat}
use Rattle.cell_core.specs.beat_core.Beats.{beats_of, IsWhole}
use Rattle.cell_core.specs.beat_core.Filling.{filled_up}
use Rattle.cell_core.specs.beat_core.Laws.{IsFrame}
use Rattle.cell_core.specs.beat_core.Ports.{Arrival, arrived, Offered, offered, arrivals_among}
use Rattle.cell_core.specs.beat_core.declared.frame.Timed.{Timed}
use Rattle.cell_core.proofs.beat_core_laws.BeatLaws.{IsWhole-beats_of}
use Rattle.cell_core.proofs.beat_core_laws.PortLaws.{frames-arrive}
use Rattle.pipe_core.specs.net_core.declared.ports.Inputs.{Inputs}
use Rattle.pipe_core.specs.net_core.Nets.{Netlist}
use Rattle.pipe_core.specs.net_core.Clock.{Stored, after}
use Rattle.pipe_core.specs.net_core.Ports.{words_of}
use Rattle.pipe_core.specs.net_core.Trace.{Cycle, cycle_of, trace, stored_after}
use Rattle.pipe_core.specs.realization.History.{goes_in, offered_beat, beats_in, offers_in}
use Rattle.pipe_core.specs.realization.Realizes.{IsPacket, frames_in, offers_from, all_offers, beats_offered}

pub trace_append : (d : Netlist) (s : Stored) (is js : List Inputs) → trace d s (is ++ js) ≡ trace d s is ++ trace d (stored_after d s is) js
trace_append d s [] js = refl
trace_append d s (i ∷ is) js = ap (λ ms. cycle_of d s i ∷ ms) (trace_append d (after d (words_of i) s) is js)

pub stored_append : (d : Netlist) (s : Stored) (is js : List Inputs) → stored_after d s (is ++ js) ≡ stored_after d (stored_after d s is) js
stored_append d s [] js = refl
stored_append d s (i ∷ is) js = stored_append d (after d (words_of i) s) is js

pub all_append : {A : Type 0} (P : A → Type 0) (xs ys : List A) → AllByRecursion P xs → AllByRecursion P ys → AllByRecursion P (xs ++ ys)
all_append P [] ys h k = k
all_append P (x ∷ xs) ys h k = (h.0, all_append P xs ys h.1 k)

by_test : {A : Type 0} (t : Bool) (x : A) (xs ys : List A) → (if t then x ∷ xs ++ ys else xs ++ ys) ≡ (if t then x ∷ xs else xs) ++ ys
by_test true x xs ys = refl
by_test false x xs ys = refl

pub offers_append : (ms ns : List Cycle) → offers_in (ms ++ ns) ≡ offers_in ms ++ offers_in ns
offers_append [] ns = refl
offers_append (m ∷ ms) ns =
    let o = offered m.given.in_ifindex m.given.in_time (offered_beat m) in
    ap (λ os. if goes_in m then o ∷ os else os) (offers_append ms ns) ∙ by_test (goes_in m) o (offers_in ms) (offers_in ns)

-- the beats that go over are those of the offers
offer_test : (t : Bool) (o : Offered) (os : List Offered) → beats_offered (if t then o ∷ os else os) ≡ (if t then o.beat ∷ beats_offered os else beats_offered os)
offer_test true o os = refl
offer_test false o os = refl

pub beats_of_offers : (ms : List Cycle) → beats_offered (offers_in ms) ≡ beats_in ms
beats_of_offers [] = refl
beats_of_offers (m ∷ ms) =
    offer_test (goes_in m) (offered m.given.in_ifindex m.given.in_time (offered_beat m)) (offers_in ms)
    ∙ ap (λ bs. if goes_in m then offered_beat m ∷ bs else bs) (beats_of_offers ms)

pub offered_append : (os ps : List Offered) → beats_offered (os ++ ps) ≡ beats_offered os ++ beats_offered ps
offered_append [] ps = refl
offered_append (o ∷ os) ps = ap (λ bs. o.beat ∷ bs) (offered_append os ps)

-- what has come of a frame after these offers
abbrev part_after : Option Arrival → List Offered → Option Arrival
part_after part [] = part
part_after part (o ∷ os) = if o.beat.last then part_after None os else part_after (Some (arrived part o)) os

-- the frames among more offers are more
more_arrive : (part : Option Arrival) (os ps : List Offered) → arrivals_among part (os ++ ps) ≡ arrivals_among part os ++ arrivals_among (part_after part os) ps
more_arrive part [] ps = refl
more_arrive part (o ∷ os) ps = by o.beat.last (more_arrive None os ps) (more_arrive (Some (arrived part o)) os ps)
  where
    a : Arrival
    a = arrived part o

    by : (last : Bool) → arrivals_among None (os ++ ps) ≡ arrivals_among None os ++ arrivals_among (part_after None os) ps
        → arrivals_among (Some a) (os ++ ps) ≡ arrivals_among (Some a) os ++ arrivals_among (part_after (Some a) os) ps
        → (if last then a ∷ arrivals_among None (os ++ ps) else arrivals_among (Some a) (os ++ ps))
        ≡ (if last then a ∷ arrivals_among None os else arrivals_among (Some a) os) ++ arrivals_among (if last then part_after None os else part_after (Some a) os) ps
    by true none some = ap (λ cs. a ∷ cs) none
    by false none some = some

-- no more frames have come than are to come
pub arrive_few : (os ps : List Offered) (packets : List Arrival) → arrivals_among None (os ++ ps) ≡ packets → length (arrivals_among None os) ≤ length packets
arrive_few os ps packets e =
    let more = arrivals_among (part_after None os) ps in omega (arith, ap length (sym e ∙ more_arrive None os ps), length-append (arrivals_among None os) more)

-- as many frames as there are whole ones are all
pub same_arrive : (os ps : List Offered) (packets : List Arrival) → arrivals_among None (os ++ ps) ≡ packets → length packets ≤ length (arrivals_among None os) → arrivals_among None os ≡ packets
same_arrive os ps packets e l =
    let more = arrivals_among (part_after None os) ps in
    let all = more_arrive None os ps in
    by more all (omega (arith, l, ap length (sym e ∙ all), length-append (arrivals_among None os) more))
  where
    by : (more : List Arrival) → arrivals_among None (os ++ ps) ≡ arrivals_among None os ++ more → length more ≡ 0 → arrivals_among None os ≡ packets
    by [] q z = sym (append-nil (arrivals_among None os)) ∙ sym q ∙ e
    by (c ∷ cs) q z = absurd (omega (arith, z))

-- ---- whether a frame has begun, after these beats
abbrev pub is_open : Bool → List Beat → Bool
is_open begun [] = begun
is_open begun (b ∷ bs) = is_open (not b.last) bs

pub open_append : (begun : Bool) (xs ys : List Beat) → is_open begun (xs ++ ys) ≡ is_open (is_open begun xs) ys
open_append begun [] ys = refl
open_append begun (x ∷ xs) ys = open_append (not x.last) xs ys

pub open_filled : (begun : Bool) (xs ys : List Beat) → is_open begun (map filled_up xs ++ ys) ≡ is_open begun (xs ++ ys)
open_filled begun [] ys = refl
open_filled begun (x ∷ xs) ys = open_filled (not x.last) xs ys

open_whole : (begun : Bool) (bs : List Beat) → IsWhole bs → is_open begun bs ≡ false
open_whole begun [] w = absurd w
open_whole begun (b ∷ []) w = ap not w.1
open_whole begun (b ∷ c ∷ bs) w = open_whole (not b.last) (c ∷ bs) w.2

pub open_frames : (frames : List (List ℕ)) → AllByRecursion IsFrame frames → is_open false (flat_map beats_of frames) ≡ false
open_frames [] h = refl
open_frames (f ∷ fs) h =
    open_append false (beats_of f) (flat_map beats_of fs) ∙ ap (λ c. is_open c (flat_map beats_of fs)) (open_whole false (beats_of f) (IsWhole-beats_of f h.0.some)) ∙ open_frames fs h.1

-- offers with which no frame arrives end none
stays_open : (part : Option Arrival) (os : List Offered) (begun : Bool) → arrivals_among part os ≡ [] → is_open begun (beats_offered os) ≡ false → begun ≡ false
stays_open part [] begun e h = h
stays_open part (o ∷ os) begun e h = by o.beat.last (stays_open (Some (arrived part o)) os true) e h
  where
    by : (last : Bool) → (arrivals_among (Some (arrived part o)) os ≡ [] → is_open true (beats_offered os) ≡ false → true ≡ false)
        → (if last then arrived part o ∷ arrivals_among None os else arrivals_among (Some (arrived part o)) os) ≡ [] → is_open (not last) (beats_offered os) ≡ false → begun ≡ false
    by true later f k = absurd cc
    by false later f k = absurd (let never = later f k in cc)

-- where all frames have arrived, and after all offers none has begun, none has begun
pub all_closed : (os ps : List Offered) (packets : List Arrival) (begun : Bool) → arrivals_among None (os ++ ps) ≡ packets → arrivals_among None os ≡ packets → is_open begun (beats_offered ps) ≡ false → begun ≡ false
all_closed os ps packets begun all few h = stays_open (part_after None os) ps begun (nothing (arrivals_among (part_after None os) ps) (omega (arith, length-append (arrivals_among None os) (arrivals_among (part_after None os) ps), ap length (sym all ∙ more_arrive None os ps), ap length few))) h
  where
    nothing : (cs : List Arrival) → length cs ≡ 0 → cs ≡ []
    nothing [] z = refl
    nothing (c ∷ cs) z = absurd (omega (arith, z))

-- ---- the beats of packets
beats_from : (ifindex time : ℕ) (bs : List Beat) → beats_offered (map (offered ifindex time) bs) ≡ bs
beats_from ifindex time [] = refl
beats_from ifindex time (b ∷ bs) = ap (λ t. b ∷ t) (beats_from ifindex time bs)

pub beats_of_all : (packets : List Arrival) → beats_offered (all_offers packets) ≡ flat_map beats_of (frames_in packets)
beats_of_all [] = refl
beats_of_all (a ∷ rest) =
    offered_append (offers_from a) (all_offers rest) ∙ ap (λ bs. bs ++ beats_offered (all_offers rest)) (beats_from a.ifindex a.time (beats_of a.frame)) ∙ ap (λ bs. beats_of a.frame ++ bs) (beats_of_all rest)

pub frames_of_packets : (packets : List Arrival) → AllByRecursion IsPacket packets → AllByRecursion IsFrame (frames_in packets)
frames_of_packets [] h = tt
frames_of_packets (a ∷ rest) h = (h.0.frame, frames_of_packets rest h.1)

ends_closed : (ifindex time : ℕ) (part : Option Arrival) (bs : List Beat) → IsWhole bs → part_after part (map (offered ifindex time) bs) ≡ None
ends_closed ifindex time part [] w = absurd w
ends_closed ifindex time part (b ∷ []) w = ap (λ last. if last then None else Some (arrived part (offered ifindex time b))) w.1
ends_closed ifindex time part (b ∷ c ∷ bs) w =
    ap (λ last. if last then part_after None (map (offered ifindex time) (c ∷ bs)) else part_after (Some (arrived part (offered ifindex time b))) (map (offered ifindex time) (c ∷ bs))) w.1
    ∙ ends_closed ifindex time (Some (arrived part (offered ifindex time b))) (c ∷ bs) w.2

pub packets_arrive : (packets : List Arrival) → AllByRecursion IsPacket packets → arrivals_among None (all_offers packets) ≡ packets
packets_arrive [] h = refl
packets_arrive (a ∷ rest) h =
    let one : Timed = record { time = a.time; frame = a.frame } in
    let first : arrivals_among None (offers_from a) ≡ a ∷ [] = ap (arrivals_among None) (sym (append-nil (offers_from a))) ∙ frames-arrive a.ifindex (one ∷ []) (h.0.frame, tt) in
    more_arrive None (offers_from a) (all_offers rest)
    ∙ ap (λ cs. cs ++ arrivals_among (part_after None (offers_from a)) (all_offers rest)) first
    ∙ ap (λ part. a ∷ arrivals_among part (all_offers rest)) (ends_closed a.ifindex a.time None (beats_of a.frame) (IsWhole-beats_of a.frame h.0.frame.some))
    ∙ ap (λ cs. a ∷ cs) (packets_arrive rest h.1)
