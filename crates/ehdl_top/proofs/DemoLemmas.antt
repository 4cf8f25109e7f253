-- A demo: its object and its capture are read, nothing is given up for, and what is counted.
use Rattle.std.specs.Prelude.{◌≡◌, ℕ, ◌*◌, ◌<◌, ◌≤◌, ◌^◌, List, [], ◌∷◌, length, map, None, Result, Ok, Err, IfOk, IfErr}
use Rattle.std.specs.declared.vec.Vec.{Vec}
use Rattle.std.specs.declared.alloc.Global.{Global}
use Rattle.std.specs.List.{AllByRecursion}
use Rattle.std.proofs.Common.{get_or, IsErrAnd, refl, sym, ap, subst, ◌∙◌, inl, inr, arith}
use Rattle.std.proofs.lemmas.List.{length-map}
use Rattle.std.proofs.lemmas.List.FromFn.{length-map-range_with_len}
use Rattle.std.proofs.lemmas.List.Sums.{sum_by-le}
use Rattle.beat_core.specs.declared.frame.TheConstants.{FRAME_LIMIT}
use Rattle.beat_core.specs.declared.frame.Timed.{Timed}
use Rattle.beat_core.specs.declared.answer.Answer.{Answer}
use Rattle.pcap_core.specs.Format.{Packet, Content}
use Rattle.pcap_core.specs.Reading.{content_of}
use Rattle.pcap_core.proofs.ContentLaws.{is-content_of, fault-content_of}
use Rattle.xdp_maps.specs.declared.decl.MapDecl.{MapDecl}
use Rattle.xdp_maps.specs.declared.decl.MapKind.TheVariants.{Hash}
use Rattle.xdp_maps.specs.State.{MapState, opened_state, decl_at, no_decl}
use Rattle.xdp_object.specs.xdp_machine.Program.{XdpProgram}
use Rattle.xdp_object.specs.Choice.{chosen}
use Rattle.xdp_object.specs.Object.{IsObject}
use Rattle.xdp_object.proofs.OutcomeLaws.{one_outcome}
use Rattle.xdp_state.specs.declared.refusal.Refusal.{Refusal}
use Rattle.kind_core.specs.declared.kind.Offsets.TheVariants.{Fixed}
use Rattle.row_rules.specs.NodeRows.Acceptance.{IsFirstRefusal}
use Rattle.row_rules.proofs.NodeRows.OneOutcomeLaws.{has_one_outcome}
use Rattle.port_drive.specs.realization.Bounds.{clock_bound, most_beats}
use Rattle.ehdl_build.specs.declared.built.Built.{Built}
use Rattle.ehdl_build.specs.Compiled.{HasSize, IsSequential, size_of}
use Rattle.flow_demo.specs.Program.{IsDemoObject, demo_program, flow}
use Rattle.flow_demo.specs.Packets.{demo_content, demo_packets, packet_from, state_before}
use Rattle.flow_demo.specs.DemoGraph.Size.{DemoIsAccepted}
use Rattle.port_drive.specs.AnswerCounts.Counts.{byte_count, entry_count}
use Rattle.command_line.specs.Request.{AskDemo}
use Rattle.ehdl_top.specs.declared.error.CommandError.{CommandError}
use Rattle.ehdl_top.specs.declared.error.CommandError.TheVariants as error
use Rattle.ehdl_top.specs.declared.packets.Captured.{Captured}
use Rattle.capture_run.specs.States.{ShelfState}
use Rattle.capture_run.specs.Captures.{IsCaptured}
use Rattle.ehdl_top.specs.Forms.{ProgramFaults, CaptureFaults, built, program_form, capture_form}
use Rattle.capture_run.specs.Results.{timed_packets, came_by}
use Rattle.ehdl_top.specs.Demo.{demo_lines}
use Rattle.ehdl_top.specs.Outcome.{IsDemo}
use Rattle.capture_run.specs.Runs.{IsLegal}
use Rattle.ehdl_top.specs.Steps.{IsGivenUp, IsRealized, IsCaptureOf, EndsIn}
use Rattle.capture_run.proofs.StateLaws.{changes_none}
use Rattle.ehdl_top.proofs.FormLemmas.{one_result, no_result, no_fault}
use Rattle.ehdl_top.proofs.OutcomeLemmas.{demo_makes, answers_count}
use Rattle.ehdl_top.proofs.RealizedLemmas.{sequential_decls, answers_fit}
use Rattle.ehdl_top.proofs.EndLemmas.{out_of_memory, ends_as, ends_done}

-- ---- the object
pub object_of : (bytes : List ℕ) → IsDemoObject bytes → IsObject (chosen None 256) bytes demo_program
object_of bytes is = (is 256 (omega arith)).by_section

pub program_is : (bytes : List ℕ) (program : XdpProgram) → IsDemoObject bytes → IsObject (chosen None 256) bytes program → program ≡ demo_program
program_is bytes program is object = (one_outcome (chosen None 256) bytes).program program demo_program object (object_of bytes is)

-- it has one map, a hash
decls_of : (program : XdpProgram) → program ≡ demo_program → program.decls ≡ flow ∷ []
unfolding demo_program
decls_of program same = ap (λ (p : XdpProgram). p.decls) same

module _ (b : Built) (program : XdpProgram) (first last : MapState) (timed : List Timed) (answers : List Answer) (realized : IsRealized b program) (same : program ≡ demo_program) (opened : first ≡ opened_state b.decls.items)
    (runs : IsSequential program first (came_by 1 timed) answers last) where
  left_is : last.decls ≡ flow ∷ []
  left_is = sequential_decls program first (came_by 1 timed) answers last runs ∙ ap (λ (m : MapState). m.decls) opened ∙ realized.decls ∙ decls_of program same

  pub has_map : 0 < length last.decls
  has_map = omega (arith, ap (λ (ds : List MapDecl). length ds) left_is)

  pub is_hash : (decl_at last 0).kind ≡ Hash
  is_hash = ap (λ (ds : List MapDecl). (get_or ds 0 no_decl).kind) left_is

refused_none : DemoIsAccepted → (r : Refusal) → ¬ IsFirstRefusal Fixed demo_program r
refused_none demo r first = (has_one_outcome Fixed demo_program).never_both r first demo.accepted

object_faultless : DemoIsAccepted → (bytes : List ℕ) (e : CommandError) → IsDemoObject bytes → ¬ ProgramFaults (chosen None 256) built bytes e
object_faultless demo bytes (error.Object fault) is u = (one_outcome (chosen None 256) bytes).apart demo_program fault (object_of bytes is) u
object_faultless demo bytes (error.Refused r) is u =
    let same : u.program ≡ demo_program = (one_outcome (chosen None 256) bytes).program u.program demo_program u.object (object_of bytes is) in
    refused_none demo r (subst (λ (p : XdpProgram). IsFirstRefusal Fixed p r) same u.refuses)
object_faultless demo bytes e is u = u

pub object_given_up : DemoIsAccepted → (bytes : List ℕ) (e : CommandError) → IsDemoObject bytes → IsGivenUp (program_form (chosen None 256) built) bytes e → e ≡ error.NoMemory
object_given_up demo bytes e is (inl memory) = memory
object_given_up demo bytes e is (inr faults) = absurd (object_faultless demo bytes e is faults.1)

-- ---- the capture
capture_faultless : (seed n : ℕ) (bytes : List ℕ) (e : CommandError) → content_of bytes ≡ Ok (demo_content seed n) → ¬ CaptureFaults bytes e
capture_faultless seed n bytes (error.Capture fault) is u = elim u.first [
  | inl h ↦ no_result (content_of bytes) (demo_content seed n) fault is (fault-content_of bytes fault u.are_bytes h)
  | inr d ↦ no_fault fault d.0.fault (ap (λ (c : Content). c.fault) (one_result (content_of bytes) d.0 (demo_content seed n) (is-content_of bytes d.0 d.1) is)) d.2
]
capture_faultless seed n bytes e is u = u

pub capture_given_up : (seed n : ℕ) (bytes : List ℕ) (e : CommandError) → content_of bytes ≡ Ok (demo_content seed n) → IsGivenUp capture_form bytes e → e ≡ error.NoMemory
capture_given_up seed n bytes e is (inl memory) = memory
capture_given_up seed n bytes e is (inr faults) = absurd (capture_faultless seed n bytes e is faults.1)

abbrev magic_of : Content → ℕ
magic_of c = c.magic

abbrev packets_of : Content → List Packet
packets_of c = c.packets

same_content : (seed n : ℕ) (bytes : List ℕ) (magic : ℕ) (packets : List Packet) → content_of bytes ≡ Ok (demo_content seed n) → IsCaptured bytes magic packets → record { magic = magic; packets = packets; fault = None } ≡ demo_content seed n
same_content seed n bytes magic packets is captured = one_result (content_of bytes) _ (demo_content seed n) (is-content_of bytes _ captured) is

frames_are : (magic : ℕ) (packets : List Packet) → map (λ p. p.frame) (timed_packets magic packets) ≡ map (λ p. p.bytes) packets
frames_are magic [] = refl
frames_are magic (p ∷ rest) = ap (λ fs. p.bytes ∷ fs) (frames_are magic rest)

-- ---- the bytes that are answered
pub bytes_fit : (p : XdpProgram) (maps last : MapState) (ifindex : ℕ) (timed : List Timed) (answers : List Answer) → IsSequential p maps (came_by ifindex timed) answers last → AllByRecursion IsLegal timed → length timed < 2 ^ 32 → byte_count answers < 2 ^ 64
bytes_fit p maps last ifindex timed answers is legal few =
    let most : byte_count answers ≤ length answers * FRAME_LIMIT = sum_by-le (λ (a : Answer). length a.frame) FRAME_LIMIT answers (answers_fit p maps last ifindex timed answers is legal) in
    let count : length answers ≡ length timed = answers_count p maps last ifindex timed answers is in
    omega (arith, most, count, few)

-- ---- what is counted
pub demo_of : (seed n : ℕ) (b : Built) (program : XdpProgram) (captured : Captured) (packets : List Packet) (bytes : List ℕ) (timed : List Timed) (first last : MapState) (answers : List Answer) (limit : ℕ) (lines : List (List ℕ))
    → IsRealized b program → program ≡ demo_program → content_of bytes ≡ Ok (demo_content seed n) → IsCaptured bytes captured.magic packets → IsCaptureOf captured packets → timed ≡ captured.packets.items
    → first ≡ opened_state b.decls.items → IsSequential program first (came_by 1 timed) answers last
    → limit ≡ clock_bound (length timed) b.rows (most_beats (map (λ p. p.frame) timed)) b.records
    → lines ≡ demo_lines n answers (entry_count last 0) (size_of b) limit → IsDemo seed n lines
demo_of seed n b program captured packets bytes timed first last answers limit lines realized same content is of seen opened runs clocks are =
    let whole = same_content seed n bytes captured.magic packets content is in
    let drawn : List Packet = demo_packets seed n in
    let timed_is : timed ≡ timed_packets 0xa1b2c3d4 drawn = seen ∙ of.timed ∙ ap (λ (c : Content). timed_packets (magic_of c) (packets_of c)) whole in
    let first_is : first ≡ opened_state demo_program.decls = opened ∙ ap opened_state (realized.decls ∙ ap (λ (p : XdpProgram). p.decls) same) in
    let frames : map (λ p. p.frame) timed ≡ map (λ p. p.bytes) drawn = ap (λ (ts : List Timed). map (λ p. p.frame) ts) timed_is ∙ frames_are 0xa1b2c3d4 drawn in
    let count : length timed ≡ n = ap (λ (ts : List Timed). length ts) timed_is ∙ length-map drawn _ ∙ length-map-range_with_len (λ i. packet_from (state_before seed i) i) 0 n in
    record {
      size = size_of b;
      has_size = subst (λ (p : XdpProgram). HasSize p (size_of b)) same realized.has_size;
      answers = answers;
      final = last;
      runs =
          subst (λ (p : XdpProgram). IsSequential p (opened_state demo_program.decls) (came_by 1 (timed_packets 0xa1b2c3d4 drawn)) answers last) same
          (subst (λ (m : MapState). IsSequential program m (came_by 1 (timed_packets 0xa1b2c3d4 drawn)) answers last) first_is
          (subst (λ (ts : List Timed). IsSequential program first (came_by 1 ts) answers last) timed_is runs));
      lines_are =
          are ∙ ap (demo_lines n answers (entry_count last 0) (size_of b))
          (clocks ∙ ap (λ k. clock_bound k b.rows (most_beats (map (λ p. p.frame) timed)) b.records) count ∙ ap (λ fs. clock_bound n b.rows (most_beats fs) b.records) frames);
    }

-- ---- how it ends
pub stops_at : {T : Type 0} (r : Result T CommandError) (e : CommandError) → IsErrAnd r (λ f. f ≡ e) → e ≡ error.NoMemory → IfErr r (λ f. f ≡ error.NoMemory)
stops_at (Ok x) e is memory = absurd is
stops_at (Err f) e is memory = is ∙ memory

pub demo_ends : (seed n : ℕ) (s : ShelfState) (r : Result (Vec (List ℕ) Global) CommandError) → IfOk r (λ lines. IsDemo seed n lines.items) → IfErr r (λ e. e ≡ error.NoMemory) → EndsIn (AskDemo seed n) s s r
demo_ends seed n s (Ok lines) is memory =
    ends_as (AskDemo seed n) s s (Ok tt) (Ok lines) tt
    (ends_done (AskDemo seed n) s s s [] refl tt (changes_none s) (λ told. demo_makes seed n s.held lines.items is) (changes_none s))
demo_ends seed n s (Err e) is memory =
    subst (λ (x : CommandError). EndsIn {T = Vec (List ℕ) Global} (AskDemo seed n) s s (Err x)) (sym memory) (out_of_memory (AskDemo seed n) s)
