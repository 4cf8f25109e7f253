-- What the runs of packets touch is what their cells say, and packets that are apart by more are so by less.
use Rattle.std.specs.Prelude.{◌≡◌, ℕ, zero, suc, ◌+◌, ◌≤◌, List, [], ◌∷◌}
use Rattle.std.specs.List.{AllByRecursion}
use Rattle.std.proofs.Common.{refl, sym, ap₂, subst, ◌∙◌, arith}
use Rattle.beat_core.specs.Ports.{Arrival}
use Rattle.xdp_object.specs.xdp_maps.State.{MapState, IsSound}
use Rattle.xdp_object.specs.xdp_maps.Touched.{Resource}
use Rattle.xdp_object.specs.xdp_machine.Program.{XdpProgram, IsProgram}
use Rattle.xdp_object.specs.xdp_machine.Runs.{Leaves}
use Rattle.xdp_object.specs.xdp_machine.Touched.{Touched, AllTouch}
use Rattle.kind_core.proofs.xdp_machine_laws.RunLaws.{has_one_answer}
use Rattle.kind_core.proofs.xdp_machine_laws.TouchLaws.{touches_one}
use Rattle.unfold_core.specs.declared.unfolding.Unfolded.{Unfolded}
use Rattle.predicate_core.specs.ProgramGraph.Graphs.{graph_of}
use Rattle.hazard_core.specs.cell_core.Sites.{ProgramView, leaves, touched}
use Rattle.operator_cells.specs.HeldCells.Law.{IsLaw}
use Rattle.pipe_runs.specs.pipe_core.Machine.{packet_of}
use Rattle.pipe_runs.specs.pipe_core.Apart.{AllRun}
use Rattle.pipe_runs.specs.realization.Bounds.{ReadOthers, ConflictFree}
use Rattle.pipe_runs.specs.realization.Realizes.{IsPacket}
use Rattle.ehdl_build.specs.Compiled.{code_of, packets_in}
use Rattle.ehdl_build.proofs.Sequential.{OneRun, is_packet, run_leaves}

module _ (p : XdpProgram) (u : Unfolded) (cells : ProgramView) (program : IsProgram p) (law : IsLaw (graph_of p u) cells) where
  pub runs_touch : (maps : MapState) (packets : List Arrival) (ts us : List Touched) → IsSound maps → maps.decls ≡ p.decls → AllByRecursion IsPacket packets
      → AllTouch (code_of p) maps (packets_in packets) ts → AllRun cells maps packets us → us ≡ ts
  runs_touch maps [] [] [] sound declared are h run = refl
  runs_touch maps [] (t ∷ ts) us sound declared are h run = absurd h
  runs_touch maps [] [] (x ∷ us) sound declared are h run = absurd run
  runs_touch maps (a ∷ rest) [] us sound declared are h run = absurd h
  runs_touch maps (a ∷ rest) (t ∷ ts) [] sound declared are h run = absurd run
  runs_touch maps (a ∷ rest) (t ∷ ts) (x ∷ us) sound declared are h run =
      let e : Leaves = leaves run.0 (packet_of a) maps cells in
      let own = law.computes.ends (packet_of a) maps run.0 (is_packet a are.0) sound declared run.1 in
      let one = run_leaves p u cells program law maps a run.0 sound declared are.0 run.1 in
      let same : e ≡ h.0 = has_one_answer (code_of p) (packet_of a) maps e h.0 one.is (h.1.0, h.1.1) in
      let first : x ≡ t = sym run.2 ∙ touches_one (code_of p) (packet_of a) maps e h.0 (touched run.0 maps cells.sites) t own h.1 in
      let more = runs_touch e.maps rest ts us one.sound one.declared are.1 (subst (λ (l : Leaves). AllTouch (code_of p) l.maps (packets_in rest) ts) (sym same) h.2) run.3 in
      ap₂ (λ y ys. y ∷ ys) first more

-- ---- fewer packets
read_fewer : (n m : ℕ) (writes : List Resource) (ts : List Touched) → n ≤ m → ReadOthers m writes ts → ReadOthers n writes ts
read_fewer zero m writes ts low h = tt
read_fewer (suc n) zero writes ts low h = absurd (omega (arith, low))
read_fewer (suc n) (suc m) writes [] low h = tt
read_fewer (suc n) (suc m) writes (t ∷ ts) low h = (h.0, read_fewer n m writes ts (omega (arith, low)) h.1)

pub apart_by_less : (n m : ℕ) (ts : List Touched) → n ≤ m → ConflictFree m ts → ConflictFree n ts
apart_by_less n m [] low h = tt
apart_by_less n m (t ∷ ts) low h = (read_fewer n m t.writes ts low h.0, apart_by_less n m ts low h.1)
