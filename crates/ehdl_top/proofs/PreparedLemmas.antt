-- What runs alike is realized by one text.
use Rattle.std.proofs.Common.{◌≡◌, ℕ, List, [], ◌∷◌, refl, sym, ap, subst, ◌∙◌, arith}
use Rattle.std.specs.List.{AllByRecursion}
use Rattle.beat_core.specs.declared.answer.Answer.{Answer}
use Rattle.beat_core.specs.Ports.{Arrival}
use Rattle.beat_core.proofs.list_laws_laws.ByteLaws.{all_bytes}
use Rattle.xdp_maps.specs.State.{MapState, IsSound}
use Rattle.xdp_object.specs.Choice.{Chosen}
use Rattle.xdp_object.specs.xdp_machine.Program.{XdpProgram, IsProgram}
use Rattle.xdp_object.specs.xdp_machine.State.{PacketIn, start}
use Rattle.xdp_object.specs.xdp_machine.Runs.{Leaves, Progress, IsRun, AreRuns}
use Rattle.xdp_object.specs.xdp_machine.Touched.{Touched, Touches, AllTouch}
use Rattle.xdp_object.specs.xdp_machine.MachineLaws.{maps_so_far}
use Rattle.xdp_object.proofs.OutcomeLaws.{one_outcome}
use Rattle.kind_core.specs.declared.kind.Offsets.TheVariants.{Fixed}
use Rattle.kind_core.proofs.xdp_machine_laws.RangeLaws.{starts_in_range, runs_leave_in_range}
use Rattle.kind_core.proofs.xdp_machine_laws.RunLaws.{has_one_answer, runs_keep_sizes}
use Rattle.kind_core.proofs.xdp_machine_laws.TouchLaws.{touches_one}
use Rattle.row_rules.specs.NodeRows.Acceptance.{IsFirstRefusal}
use Rattle.row_rules.proofs.NodeRows.OneOutcomeLaws.{has_one_outcome}
use Rattle.net_core.specs.Nets.{Netlist}
use Rattle.net_core.specs.Clock.{Stored, first_stored}
use Rattle.net_core.specs.Trace.{stored_after}
use Rattle.realization.specs.HostHistory.Host.{load}
use Rattle.realization.specs.Realizes.{IsPacket, Meets}
use Rattle.realization.proofs.MeetsLaws.{meets_more}
use Rattle.ehdl_build.specs.Compiled.{PipelineSize, IsSequential, Touch, DoNotConflict, AreMapsOf, Realizes, code_of, packets_in, size_of}
use Rattle.prepare_core.specs.cover_core.Laws.{HasSameRun, HaveSameRuns}
use Rattle.ehdl_top.specs.PreparedLaws.{PreparedObjectsCompile}

abbrev packet_of : Arrival → PacketIn
packet_of p = record { frame = p.frame; ifindex = p.ifindex; time = p.time }

module _ (a b : XdpProgram) (program : IsProgram b) (decls : b.decls ≡ a.decls) (same : HaveSameRuns a b) where
  -- ---- packets one after another

  -- the run of one packet, and the maps that it leaves
  record OneRun (maps : MapState) (p : Arrival) : Type 0 where
    both : HasSameRun a b (packet_of p) maps
    sound : IsSound both.left.maps
    declared : both.left.maps.decls ≡ a.decls

  one_run : (maps : MapState) (p : Arrival) → IsSound maps → maps.decls ≡ a.decls → IsPacket p → OneRun maps p
  one_run maps p sound declared is =
      let room = is.frame.room in
      let range = starts_in_range (packet_of p) maps (all_bytes p.frame is.frame.bytes) (omega (arith, room)) is.ifindex is.time sound in
      let both = same (packet_of p) maps declared range in
      let left = runs_leave_in_range (code_of b) (packet_of p) maps both.left program.legal range (both.of_b.0, both.of_b.1) in
      record {
        both = both;
        sound = left.maps;
        declared = ap (λ (x : Progress). (maps_so_far x).decls) (sym both.of_b.1) ∙ (runs_keep_sizes (code_of b) both.of_b.0 (start (packet_of p) maps) refl).decls ∙ declared;
      }

  same_runs : (maps : MapState) (packets : List Arrival) (es : List Leaves) (last : MapState) → IsSound maps → maps.decls ≡ a.decls → AllByRecursion IsPacket packets → AreRuns (code_of b) maps (packets_in packets) es last → AreRuns (code_of a) maps (packets_in packets) es last
  same_runs maps [] [] last sound declared are runs = runs
  same_runs maps [] (e ∷ es) last sound declared are runs = absurd runs
  same_runs maps (p ∷ rest) [] last sound declared are runs = absurd runs
  same_runs maps (p ∷ rest) (e ∷ es) last sound declared are runs =
      let one = one_run maps p sound declared are.0 in
      let both = one.both in
      let is : both.left ≡ e = has_one_answer (code_of b) (packet_of p) maps both.left e (both.of_b.0, both.of_b.1) runs.0 in
      let more = same_runs both.left.maps rest es last one.sound one.declared are.1 (subst (λ (l : Leaves). AreRuns (code_of b) l.maps (packets_in rest) es last) (sym is) runs.1) in
      (subst (λ (l : Leaves). IsRun (code_of a) (packet_of p) maps l) is (both.of_a.0, both.of_a.1), subst (λ (l : Leaves). AreRuns (code_of a) l.maps (packets_in rest) es last) is more)

  same_touches : (maps : MapState) (packets : List Arrival) (ts : List Touched) → IsSound maps → maps.decls ≡ a.decls → AllByRecursion IsPacket packets → AllTouch (code_of a) maps (packets_in packets) ts → AllTouch (code_of b) maps (packets_in packets) ts
  same_touches maps [] [] sound declared are touch = touch
  same_touches maps [] (t ∷ ts) sound declared are touch = absurd touch
  same_touches maps (p ∷ rest) [] sound declared are touch = absurd touch
  same_touches maps (p ∷ rest) (t ∷ ts) sound declared are touch =
      let one = one_run maps p sound declared are.0 in
      let both = one.both in
      let is : both.left ≡ touch.0 = has_one_answer (code_of a) (packet_of p) maps both.left touch.0 (both.of_a.0, both.of_a.1) (touch.1.0, touch.1.1) in
      let first : both.touched ≡ t = touches_one (code_of a) (packet_of p) maps both.left touch.0 both.touched t both.of_a touch.1 in
      let more = same_touches both.left.maps rest ts one.sound one.declared are.1 (subst (λ (l : Leaves). AllTouch (code_of a) l.maps (packets_in rest) ts) (sym is) touch.2) in
      (both.left, subst (λ (x : Touched). Touches (code_of b) (packet_of p) maps both.left x) first both.of_b, more)

  -- ---- what is met

  maps_of_b : (maps : MapState) → AreMapsOf a maps → AreMapsOf b maps
  maps_of_b maps are = record { declared = are.declared ∙ sym decls; sound = are.sound }

  same_sequence : (maps : MapState) → AreMapsOf a maps → (packets : List Arrival) (answers : List Answer) (last : MapState) → AllByRecursion IsPacket packets → IsSequential b maps packets answers last → IsSequential a maps packets answers last
  same_sequence maps are packets answers last come is = record { leaves = is.leaves; runs = same_runs maps packets is.leaves last are.sound are.declared come is.runs; answers_are = is.answers_are }

  -- packets that do not conflict by a
  abbrev AreApart : MapState → ℕ → List Arrival → List Touched → Type 0
  AreApart maps stages packets ts = AllByRecursion IsPacket packets × DoNotConflict a maps stages packets ts

  same_apart : (maps : MapState) (stages : ℕ) → AreMapsOf a maps → (packets : List Arrival) (ts : List Touched) → AreApart maps stages packets ts → DoNotConflict b maps stages packets ts
  same_apart maps stages are packets ts h = record { touch = same_touches maps packets ts are.sound are.declared h.0 h.1.touch; apart = h.1.apart }

  -- what packets touch by a
  abbrev AreTouched : MapState → List Arrival → List Touched → Type 0
  AreTouched maps packets ts = AllByRecursion IsPacket packets × Touch a maps packets ts

  same_touched : (maps : MapState) → AreMapsOf a maps → (packets : List Arrival) (ts : List Touched) → AreTouched maps packets ts → Touch b maps packets ts
  same_touched maps are packets ts h = same_touches maps packets ts are.sound are.declared h.0 h.1

  met : (d : Netlist) (s : Stored) (maps : MapState) (z : PipelineSize) → AreMapsOf a maps → Meets d s (IsSequential b maps) (Touch b maps) (DoNotConflict b maps z.stages) z.stages z.records → Meets d s (IsSequential a maps) (Touch a maps) (DoNotConflict a maps z.stages) z.stages z.records
  met d s maps z are m =
      let more = meets_more d s (IsSequential b maps) (IsSequential a maps) (Touch b maps) (AreTouched maps) (DoNotConflict b maps z.stages) (AreApart maps z.stages) z.stages z.stages z.records z.records
      (same_sequence maps are) (same_touched maps are) (same_apart maps z.stages are) (omega arith) (omega arith) m in
      let line = more.at_line_rate in
      record {
        safe = more.safe;
        complete = more.complete;
        complete_apart = λ packets limit ts come apart enough. more.complete_apart packets limit ts come (come, apart) enough;
        at_line_rate = record {
          last = line.last;
          within = line.within;
          commit = line.commit;
          before = line.before;
          goes_on = line.goes_on;
          drives = λ is packets left limit late ts amid touch follow enough. line.drives is packets left limit late ts amid (amid.are, touch) follow enough;
          waits = λ is packets left limit late k ts amid touch follow few enough. line.waits is packets left limit late k ts amid (amid.are, touch) follow few enough;
          follow = λ packets limit late ts come apart follow enough. line.follow packets limit late ts come (come, apart) follow enough;
          equal = λ packets limit beats ts come apart alike enough. line.equal packets limit beats ts come (come, apart) alike enough;
        };
        late = more.late;
      }

  realizes_too : (text : List ℕ) (z : PipelineSize) → Realizes text b z → Realizes text a z
  realizes_too text z r = record {
    design = r.design;
    spells = r.spells;
    products = r.products;
    loads = λ maps are. r.loads maps (maps_of_b maps are);
    meets = λ maps are. met r.design (stored_after r.design (first_stored r.design) (load maps)) maps z are (r.meets maps (maps_of_b maps are));
  }

pub prepared_objects_compile : PreparedObjectsCompile
prepared_objects_compile choice a b bytes is = record {
  no_fault = λ e fault. (one_outcome choice bytes).apart b e is.object fault;
  not_refused = λ r refused.
      (has_one_outcome Fixed b).never_both r (subst (λ (p : XdpProgram). IsFirstRefusal Fixed p r) ((one_outcome choice bytes).program refused.program b refused.object is.object) refused.refusal) is.accepted;
  realizes = λ built compiles.
      let text : List ℕ = built.text.items in
      realizes_too a b is.is_program is.decls is.runs text (size_of built)
      (subst (λ (p : XdpProgram). Realizes text p (size_of built)) ((one_outcome choice bytes).program compiles.program b compiles.object is.object) compiles.realizes);
}
