-- What a pipeline that was built of a program gives over a capture.
use Rattle.std.specs.Prelude.{◌≡◌, ◌≢◌, ℕ, ◌^◌, ◌<◌, ◌≤◌, List, [], ◌∷◌, ◌++◌, length, map, Result, Ok, Err, IfOk, IfErr, All}
use Rattle.std.specs.List.{flat_map, AllByRecursion}
use Rattle.std.proofs.lemmas.List.{length-map}
use Rattle.std.proofs.lemmas.List.Elements.{All-from_recursion}
use Rattle.std.proofs.Common.{refl, sym, ap, subst, ◌∙◌, arith}
use Rattle.beat_core.specs.declared.frame.TheConstants.{FRAME_LIMIT}
use Rattle.beat_core.specs.declared.frame.Timed.{Timed}
use Rattle.beat_core.specs.declared.answer.Answer.{Answer}
use Rattle.beat_core.specs.Ports.{Offered, Arrival, offers_of}
use Rattle.beat_core.specs.Laws.{arrival_of}
use Rattle.net_core.specs.declared.ports.Inputs.{Inputs}
use Rattle.net_core.specs.Nets.{Netlist}
use Rattle.net_core.specs.Clock.{Stored, first_stored}
use Rattle.net_core.specs.Trace.{NeverStops, stored_after}
use Rattle.port_drive.specs.Hosting.{ClocksOrNone}
use Rattle.port_drive.proofs.HostLaws.{never_stops}
use Rattle.port_drive.specs.Reports.{full_drive, given_in}
use Rattle.port_drive.specs.declared.report.DriveError.{DriveError}
use Rattle.port_drive.specs.declared.report.DriveError.TheVariants.{X, Late, NoMemory}
use Rattle.clock_sim.specs.Running.{Running}
use Rattle.xdp_maps.specs.Contents.{IsWithinLimits}
use Rattle.xdp_maps.specs.State.{MapState, IsSound}
use Rattle.xdp_maps.specs.declared.decl.MapDecl.{MapDecl}
use Rattle.xdp_object.specs.xdp_machine.Program.{XdpProgram}
use Rattle.xdp_object.specs.xdp_machine.Program.{IsProgram}
use Rattle.xdp_object.specs.xdp_machine.State.{Code, PacketIn, start}
use Rattle.xdp_object.specs.xdp_machine.Runs.{Leaves, Progress, IsRun, AreRuns}
use Rattle.xdp_object.specs.xdp_machine.MachineLaws.{KeepsSizes}
use Rattle.kind_core.proofs.xdp_machine_laws.RunLaws.{runs_keep_sizes}
use Rattle.port_drive.specs.realization.History.{Answered, answers_given, drive}
use Rattle.port_drive.specs.realization.HostHistory.Host.{load, ShowsMaps}
use Rattle.ehdl_build.specs.declared.built.Built.{Built}
use Rattle.port_drive.specs.realization.Bounds.{clock_bound, most_beats}
use Rattle.port_drive.specs.realization.Realizes.{Meets, IsWhole, IsPacket, frames_in, all_offers}
use Rattle.ehdl_build.specs.Compiled.{PipelineSize, IsSequential, Touch, DoNotConflict, answer_of, code_of, packets_in, size_of}
use Rattle.capture_run.specs.Results.{came_by}
use Rattle.capture_run.specs.Runs.{IsLegal}
use Rattle.ehdl_top.specs.Steps.{IsRealized, DrivesAsRuns, IsPipelineOf, AreDeclared}

-- ---- the maps that a capture run leaves
run_decls : (code : Code) (packet : PacketIn) (maps : MapState) (e : Leaves) → IsRun code packet maps e → e.maps.decls ≡ maps.decls
run_decls code packet maps e (n, ran) = let P : Progress → Type 0 = KeepsSizes (start packet maps) in (subst P ran (runs_keep_sizes code n (start packet maps) refl)).decls

runs_decls : (code : Code) (maps : MapState) (packets : List PacketIn) (es : List Leaves) (last : MapState) → AreRuns code maps packets es last → last.decls ≡ maps.decls
runs_decls code maps [] [] last runs = ap (λ (m : MapState). m.decls) runs
runs_decls code maps [] (e ∷ es) last runs = absurd runs
runs_decls code maps (packet ∷ packets) [] last runs = absurd runs
runs_decls code maps (packet ∷ packets) (e ∷ es) last runs = runs_decls code e.maps packets es last runs.1 ∙ run_decls code packet maps e runs.0

pub sequential_decls : (p : XdpProgram) (maps : MapState) (packets : List Arrival) (answers : List Answer) (after : MapState) → IsSequential p maps packets answers after → after.decls ≡ maps.decls
sequential_decls p maps packets answers after s = runs_decls (code_of p) maps (packets_in packets) s.leaves after s.runs

-- ---- answers are as long as their packets
frame_kept : (code : Code) (packet : PacketIn) (maps : MapState) (e : Leaves) → IsRun code packet maps e → length e.frame ≡ length packet.frame
frame_kept code packet maps e (n, ran) = let P : Progress → Type 0 = KeepsSizes (start packet maps) in (subst P ran (runs_keep_sizes code n (start packet maps) refl)).frame

short_answers : (code : Code) (maps : MapState) (packets : List PacketIn) (es : List Leaves) (last : MapState) → AreRuns code maps packets es last → AllByRecursion (λ p. length p.frame ≤ FRAME_LIMIT) packets
    → AllByRecursion (λ (a : Answer). length a.frame ≤ FRAME_LIMIT) (map answer_of es)
short_answers code maps [] [] last runs short = tt
short_answers code maps [] (e ∷ es) last runs short = absurd runs
short_answers code maps (packet ∷ packets) [] last runs short = absurd runs
short_answers code maps (packet ∷ packets) (e ∷ es) last runs short =
    let kept : length e.frame ≡ length packet.frame = frame_kept code packet maps e runs.0 in
    let few : length packet.frame ≤ FRAME_LIMIT = short.0 in
    (omega (arith, kept, few), short_answers code e.maps packets es last runs.1 short.1)

short_packets : (ifindex : ℕ) (timed : List Timed) → AllByRecursion IsLegal timed → AllByRecursion (λ p. length p.frame ≤ FRAME_LIMIT) (packets_in (came_by ifindex timed))
short_packets ifindex [] legal = tt
short_packets ifindex (p ∷ rest) legal = (legal.0.0.room, short_packets ifindex rest legal.1)

pub answers_fit : (p : XdpProgram) (maps last : MapState) (ifindex : ℕ) (timed : List Timed) (answers : List Answer) → IsSequential p maps (came_by ifindex timed) answers last → AllByRecursion IsLegal timed → All (λ (a : Answer). length a.frame ≤ FRAME_LIMIT) answers
answers_fit p maps last ifindex timed answers is legal =
    let P : List Answer → Type 0 = λ rs. All (λ (a : Answer). length a.frame ≤ FRAME_LIMIT) rs in
    subst P (sym is.answers_are) (All-from_recursion (λ (a : Answer). length a.frame ≤ FRAME_LIMIT) (map answer_of is.leaves) (short_answers (code_of p) maps (packets_in (came_by ifindex timed)) is.leaves last is.runs (short_packets ifindex timed legal)))

-- ---- a call that has the host go on for clocks of which none stops
pub goes_whole : {A : Type 0} (d : Netlist) (s t : Stored) (clocks : List Inputs) (r : Result A DriveError) (e : DriveError) → r ≡ Err e → ClocksOrNone d s clocks r t → IfErr r (λ f. f ≢ NoMemory) → NeverStops d s clocks → ⊥
goes_whole d s t clocks (Ok a) e is went memory never = cc
goes_whole d s t clocks (Err (X x)) e is went memory never = never_stops d s t clocks went.0 never went.1
goes_whole d s t clocks (Err (Late answers frames limit)) e is went memory never = absurd went
goes_whole d s t clocks (Err NoMemory) e is went memory never = memory refl

-- a design that holds these values shows the same maps
pub shows_as : (d e : Netlist) (s t : Stored) (maps : MapState) → e ≡ d → t ≡ s → ShowsMaps d s maps → ShowsMaps e t maps
shows_as d e s t maps same stored shows = subst (λ (x : Netlist). ShowsMaps x t maps) (sym same) (subst (λ (y : Stored). ShowsMaps d y maps) (sym stored) shows)

-- ---- packets that come by one interface
offers-came_by : (ifindex : ℕ) (packets : List Timed) → all_offers (came_by ifindex packets) ≡ flat_map (offers_of ifindex) packets
offers-came_by ifindex [] = refl
offers-came_by ifindex (p ∷ rest) = ap (λ os. offers_of ifindex p ++ os) (offers-came_by ifindex rest)

frames-came_by : (ifindex : ℕ) (packets : List Timed) → frames_in (came_by ifindex packets) ≡ map (λ p. p.frame) packets
frames-came_by ifindex [] = refl
frames-came_by ifindex (p ∷ rest) = ap (λ fs. p.frame ∷ fs) (frames-came_by ifindex rest)

legal-came_by : (ifindex : ℕ) (packets : List Timed) → ifindex < 2 ^ 32 → AllByRecursion IsLegal packets → AllByRecursion IsPacket (came_by ifindex packets)
legal-came_by ifindex [] fits h = tt
legal-came_by ifindex (p ∷ rest) fits h = (record { frame = h.0.0; ifindex = fits; time = h.0.1 }, legal-came_by ifindex rest fits h.1)

-- what is stored when the host has loaded maps
abbrev pub loaded : Netlist → MapState → Stored
loaded d maps = stored_after d (first_stored d) (load maps)

whole : (p : XdpProgram) (first : MapState) (d : Netlist) (s : Stored) (z : PipelineSize) (ifindex limit : ℕ) (packets : List Timed)
    → Meets d s (IsSequential p first) (Touch p first) (DoNotConflict p first z.stages) z.stages z.records
    → AllByRecursion IsLegal packets → ifindex < 2 ^ 32 → clock_bound (length packets) z.stages (most_beats (map (λ p. p.frame) packets)) z.records ≤ limit → DrivesAsRuns p first d s ifindex limit packets
whole p first d s z ifindex limit packets meets are fits enough =
    let came : List Arrival = came_by ifindex packets in
    let many : length came ≡ length packets = length-map packets (arrival_of ifindex) in
    let wanted : List Arrival → List Answer → MapState → Type 0 = IsSequential p first in
    let bound : clock_bound (length came) z.stages (most_beats (frames_in came)) z.records ≤ limit =
    subst (λ n. clock_bound n z.stages (most_beats (frames_in came)) z.records ≤ limit) (sym many)
    (subst (λ fs. clock_bound (length packets) z.stages (most_beats fs) z.records ≤ limit) (sym (frames-came_by ifindex packets)) enough) in
    let W : List Offered → ℕ → Type 0 = λ os n. IsWhole d s [] (drive d s os n limit) came wanted in
    let w : W (flat_map (offers_of ifindex) packets) (length packets) =
    subst (λ n. W (flat_map (offers_of ifindex) packets) n) many
    (subst (λ os. W os (length came)) (offers-came_by ifindex packets) (meets.complete came limit (legal-came_by ifindex packets fits are) bound)) in
    record { ended = w.ended; last = w.maps; all = w.all; shown = w.shown }

-- The design of the text, in which the host has loaded maps of the program, answers in the stated clocks as sequential execution on these
-- maps does, and shows the maps that this leaves.
runs : (b : Built) (p : XdpProgram) (r : IsRealized b p) (first : MapState) (d e : Netlist) (s : Stored) (ifindex limit : ℕ) (packets : List Timed) → first.decls ≡ b.decls.items → IsSound first
    → r.realizes.design ≡ d → e ≡ d → s ≡ loaded d first → AllByRecursion IsLegal packets → ifindex < 2 ^ 32
    → clock_bound (length packets) b.rows (most_beats (map (λ p. p.frame) packets)) b.records ≤ limit → DrivesAsRuns p first e s ifindex limit packets
runs b p r first d e s ifindex limit packets declared sound same netlist stored are fits enough =
    let z : PipelineSize = size_of b in
    let there : DrivesAsRuns p first r.realizes.design (loaded r.realizes.design first) ifindex limit packets =
    whole p first r.realizes.design (loaded r.realizes.design first) z ifindex limit packets (r.realizes.meets first (record { declared = declared ∙ r.decls; sound = sound })) are fits enough in
    subst (λ (t : Stored). DrivesAsRuns p first e t ifindex limit packets) (sym stored)
    (subst (λ (x : Netlist). DrivesAsRuns p first x (loaded d first) ifindex limit packets) (sym netlist) (subst (λ (x : Netlist). DrivesAsRuns p first x (loaded x first) ifindex limit packets) same there))

-- so does a simulator of it
pub opened : {E : Type 0} (b : Built) (first : MapState) (d : Netlist) (r : Result Running E) → first.decls ≡ b.decls.items → IsSound first → ((p : XdpProgram) (realized : IsRealized b p) → realized.realizes.design ≡ d)
    → IfOk r (λ sim. sim.netlist ≡ d) → IfOk r (λ sim. sim.stored ≡ loaded d first) → IfOk r (λ sim. (p : XdpProgram) → IsRealized b p → IsPipelineOf p b first sim.netlist sim.stored)
opened b first d (Ok sim) declared sound only netlist stored =
    λ p realized ifindex limit packets fits legal enough. runs b p realized first d sim.netlist sim.stored ifindex limit packets declared sound (only p realized) netlist stored legal fits enough
opened b first d (Err e) declared sound only netlist stored = tt

pub at_most : (n limit : ℕ) → limit ≡ n → n ≤ limit
at_most n limit is = omega (arith, is)

-- sequential execution of packets
pub sequential_of : (b : Built) (p : XdpProgram) (r : IsRealized b p) (first : MapState) (ifindex : ℕ) (packets : List Timed) → first.decls ≡ b.decls.items → IsSound first → AllByRecursion IsLegal packets → ifindex < 2 ^ 32
    → (answers : List Answer) × (last : MapState) × IsSequential p first (came_by ifindex packets) answers last
sequential_of b p r first ifindex packets declared sound legal fits =
    let d : Netlist = r.realizes.design in
    let limit : ℕ = clock_bound (length packets) b.rows (most_beats (map (λ q. q.frame) packets)) b.records in
    let run : DrivesAsRuns p first d (loaded d first) ifindex limit packets = runs b p r first d d (loaded d first) ifindex limit packets declared sound refl refl refl legal fits (at_most limit limit refl) in
    (answers_given [] (full_drive d ifindex (loaded d first) packets limit).trace, run.last, run.all)

-- the declarations of a program are within their limits
pub limits_of : (p : XdpProgram) (decls : List MapDecl) → IsProgram p → decls ≡ p.decls → All IsWithinLimits decls
limits_of p decls program same = subst (λ (ds : List MapDecl). All IsWithinLimits ds) (sym same) (λ k d lt. (program.decls k d lt).limits)

-- they are declarations as programs have them
pub declared_of : (p : XdpProgram) (decls : List MapDecl) → IsProgram p → decls ≡ p.decls → AreDeclared decls
declared_of p decls program same = record {
  limits = limits_of p decls program same;
  few = omega (arith, ap (λ (ds : List MapDecl). length ds) same, program.maps);
}
