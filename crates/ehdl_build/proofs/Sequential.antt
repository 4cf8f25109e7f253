-- What the cells of a program answer is what sequential execution answers.
use Rattle.std.specs.Prelude.{◌≡◌, ℕ, ◌<◌, All, List, [], ◌∷◌}
use Rattle.std.specs.List.{AllByRecursion}
use Rattle.std.proofs.Common.{refl, sym, ap, ap₂, ◌∙◌, arith}
use Rattle.beat_core.specs.declared.answer.Answer.{Answer}
use Rattle.beat_core.specs.Ports.{Arrival}
use Rattle.beat_core.proofs.list_laws_laws.ByteLaws.{all_bytes}
use Rattle.xdp_object.specs.xdp_maps.State.{MapState, IsSound}
use Rattle.xdp_object.specs.xdp_machine.Program.{XdpProgram, IsProgram}
use Rattle.xdp_object.specs.xdp_machine.State.{start}
use Rattle.xdp_object.specs.xdp_machine.Runs.{Leaves, Progress, IsRun}
use Rattle.xdp_object.specs.xdp_machine.MachineLaws.{LeavesInRange, maps_so_far}
use Rattle.kind_core.proofs.xdp_machine_laws.RangeLaws.{starts_in_range, runs_leave_in_range}
use Rattle.kind_core.proofs.xdp_machine_laws.RunLaws.{runs_keep_sizes}
use Rattle.unfold_core.specs.declared.unfolding.Unfolded.{Unfolded}
use Rattle.predicate_core.specs.ProgramGraph.Graphs.{graph_of}
use Rattle.hazard_core.specs.cell_core.Sites.{ProgramView, IsCellRun, leaves}
use Rattle.operator_cells.specs.HeldCells.Law as cell
use Rattle.operator_cells.specs.HeldCells.Law.{IsLaw}
use Rattle.pipe_runs.specs.pipe_core.Machine.{packet_of}
use Rattle.pipe_runs.specs.realization.Realizes.{IsPacket}
use Rattle.pipe_runs.specs.PipePorts.Answered.{AreAnswered}
use Rattle.ehdl_build.specs.Compiled.{code_of, IsSequential}

pub is_packet : (a : Arrival) → IsPacket a → cell.IsPacket (packet_of a)
is_packet a h = record { some = h.frame.some; short = h.frame.room; bytes = all_bytes a.frame h.frame.bytes; ifindex = h.ifindex; time = h.time }

module _ (p : XdpProgram) (u : Unfolded) (cells : ProgramView) (program : IsProgram p) (law : IsLaw (graph_of p u) cells) where
  -- the run of one packet, and the maps that it leaves
  pub record OneRun (maps : MapState) (a : Arrival) (e : Leaves) : Type 0 where
    pub is : IsRun (code_of p) (packet_of a) maps e
    pub sound : IsSound e.maps
    pub declared : e.maps.decls ≡ p.decls

  pub run_leaves : (maps : MapState) (a : Arrival) (v : ℕ → ℕ) → IsSound maps → maps.decls ≡ p.decls → IsPacket a → IsCellRun (packet_of a) maps cells v → OneRun maps a (leaves v (packet_of a) maps cells)
  run_leaves maps a v sound declared packet runs =
      let came = is_packet a packet in
      let e = leaves v (packet_of a) maps cells in
      let t = law.computes.ends (packet_of a) maps v came sound declared runs in
      let range : LeavesInRange e = runs_leave_in_range (code_of p) (packet_of a) maps e program.legal (starts_in_range (packet_of a) maps came.bytes (omega (arith, came.short)) came.ifindex came.time sound) (t.0, t.1) in
      record {
        is = (t.0, t.1);
        sound = range.maps;
        declared = ap (λ (x : Progress). (maps_so_far x).decls) (sym t.1) ∙ (runs_keep_sizes (code_of p) t.0 (start (packet_of a) maps) refl).decls ∙ declared;
      }

  pub in_sequence : (maps : MapState) (packets : List Arrival) (answers : List Answer) (last : MapState) → IsSound maps → maps.decls ≡ p.decls → AllByRecursion IsPacket packets → AreAnswered cells maps packets answers last → IsSequential p maps packets answers last
  in_sequence maps [] [] last sound declared are h = record { leaves = []; runs = h; answers_are = refl }
  in_sequence maps [] (r ∷ rs) last sound declared are h = absurd h
  in_sequence maps (a ∷ rest) [] last sound declared are h = absurd h
  in_sequence maps (a ∷ rest) (r ∷ rs) last sound declared are h =
      let one = run_leaves maps a h.0.values sound declared are.0 h.0.run in
      let e = leaves h.0.values (packet_of a) maps cells in
      let more = in_sequence e.maps rest rs last one.sound one.declared are.1 h.1 in
      record { leaves = e ∷ more.leaves; runs = (one.is, more.runs); answers_are = ap₂ (λ x xs. x ∷ xs) h.0.is more.answers_are }
