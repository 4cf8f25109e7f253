-- From what a node adds to what its code does.
use Rattle.std.proofs.Common.{◌≡◌, ℕ, ◌+◌, ◌<◌, ◌≤◌, ◌==◌, true, Option, List, ◌++◌, length, refl, sym, ◌∙◌, ap, subst, arith}
use Rattle.std.specs.Prelude.{All, slice_index}
use Rattle.std.proofs.lemmas.List.Elements.{All-append}
use Rattle.std.proofs.lemmas.Bool.Decides.{nat_tests}
use Rattle.xdp_machine.specs.bpf_isa.declared.instruction.Insn.{Insn}
use Rattle.xdp_machine.specs.xdp_maps.State.{MapState}
use Rattle.xdp_machine.specs.State.{Machine, PacketIn}
use Rattle.xdp_machine.specs.Values.{◌>>=◌}
use Rattle.xdp_machine.specs.Step.{step}
use Rattle.xdp_machine.specs.Touched.{operation_as, operation_at}
use Rattle.xdp_machine.specs.bpf_isa.Text.{insn_at}
use Rattle.kind_core.specs.declared.kind.Kinds.{Kinds}
use Rattle.cell_core.specs.Cells.{CellView, IsRun, bit}
use Rattle.cell_core.specs.Sites.{SiteView, after}
use Rattle.cell_core.specs.Formed.{FitsMap, IsBelow}
use Rattle.operator_cells.specs.Making.{GrowsWith}
use Rattle.operator_cells.specs.declared.held_cells.machine_cells.RegisterCells.{RegisterCells}
use Rattle.operator_cells.specs.declared.held_cells.way.Way.{Way}
use Rattle.operator_cells.specs.declared.held_cells.way.Exit.{Exit}
use Rattle.operator_cells.specs.HeldCells.Paths.{GraphView, Stage, At, node_at, stepped, maps_in}
use Rattle.operator_cells.specs.HeldCells.RegisterCells.{PointerView, AreInside, IsThere}
use Rattle.operator_cells.specs.HeldCells.Carrying.{IsKnown}
use Rattle.operator_cells.specs.HeldCells.Steps.{IsGood, IsHere, AreMade, AreRead, ReadsOwn, DoAs, Steps}
use Rattle.operator_cells.proofs.HeldCells.PointerLaws.{there_later}
use Rattle.edge_cells.specs.Meeting.{Extends}
use Rattle.edge_cells.proofs.ExtendingLaws.{inside_later}
use Rattle.edge_cells.specs.NodeCells.Ends.{IsNode}
use Rattle.edge_cells.proofs.NodeCells.Behind.{AreOff, good_behind}

-- what is asked of an edge that is made, and of an end
abbrev pub WayMade : GraphView → List CellView → List PointerView → Way → Type 0
WayMade g cells ps e = (e.bit < length cells) × AreInside g.decls (length cells) ps e.held e.kinds

abbrev pub ExitMade : List CellView → Exit → Type 0
ExitMade cells x = (x.guard < length cells) × (x.held.target < length cells) × IsThere (length cells) x.verdict (slice_index x.held.registers 0) × ((i : ℕ) → i < 256 → slice_index x.held.window i < length cells)

-- edges and ends stay, and more are made
made_more : (g : GraphView) (old new : List CellView) (ps qs : List PointerView) (ways more : List Way) (exits more_exits : List Exit) → length old ≤ length new → Extends ps qs
    → AreMade g old ps ways exits → AreMade g new qs more more_exits → AreMade g new qs (ways ++ more) (exits ++ more_exits)
made_more g old new ps qs ways more exits more_exits longer extends made also = record {
  each_way = All-append (WayMade g new qs) ways more
      (λ i d l. let w = made.each_way i d l in (omega (arith, w.0, longer), inside_later g.decls (length old) (length new) ps qs _ _ longer extends w.1)) also.each_way;
  each_exit = All-append (ExitMade new) exits more_exits
      (λ i d l. let x = made.each_exit i d l in
      (omega (arith, x.0, longer), omega (arith, x.1, longer), there_later (length old) (length new) _ _ longer x.2, λ j s. omega (arith, x.3 j s, longer))) also.each_exit;
}

-- What a node adds, and what is asked of it: in every run of the cells the edges and ends are off where the guard is, and where the run stands
-- at the node they do what the step does.
pub record IsAdded (g : GraphView) (i : Insn) (k guard : ℕ) (kinds : Kinds) (h : RegisterCells) (old new : List CellView) (ps qs : List PointerView) (sites more_sites : List SiteView) (more : List Way) (more_exits : List Exit) : Type 0 where
  pub grows : GrowsWith (ReadsOwn sites (sites ++ more_sites)) old new
  pub extends : Extends ps qs
  pub own : All (λ r. (r.node ≡ k) × (r.guard ≡ guard)) more_sites
  pub fits : All (FitsMap g.decls) more_sites
  pub below : All (IsBelow (length new)) more_sites
  pub made : AreMade g new qs more more_exits
  pub offs : (packet : PacketIn) (v : ℕ → ℕ) → IsRun packet new v → v guard ≡ 0 → AreOff v more more_exits
  pub goes : (packet : PacketIn) (maps : MapState) (v : ℕ → ℕ) (m : Machine) → IsRun packet new v → AreRead maps new (sites ++ more_sites) v → v guard ≡ 1 → after v maps sites ≡ m.maps
      → IsKnown g.decls packet v ps k kinds h m → m.place ≡ (node_at g.nodes k).place
      → IsGood g packet v qs (k + 1) more more_exits (stepped g k m (step g.code m)) × (after v maps (sites ++ more_sites) ≡ maps_in maps (stepped g k m (step g.code m)))
      × DoAs v m.maps more_sites (operation_as m i i.op)

at_own : (k : ℕ) → (k == k) ≡ true
at_own k = grind (arith, nat_tests)

-- the operation of a step is that of the node's instruction
operation_is : (g : GraphView) (k : ℕ) (i : Insn) (kinds : Kinds) (m : Machine) → IsNode g k i kinds → m.place ≡ (node_at g.nodes k).place → operation_at g.code m ≡ operation_as m i i.op
operation_is g k i kinds m is place = ap (λ (o : Option Insn). o >>= λ j. operation_as m j j.op) (ap (insn_at g.code.insns) place ∙ is.insn)

steps_added : (g : GraphView) (i : Insn) (k guard : ℕ) (kinds : Kinds) (h : RegisterCells) (old new : List CellView) (ps qs : List PointerView) (sites more_sites : List SiteView) (ways more : List Way) (exits more_exits : List Exit)
    → IsNode g k i kinds → AreMade g old ps ways exits → IsAdded g i k guard kinds h old new ps qs sites more_sites more more_exits
    → Steps g k guard h old new ps qs sites (sites ++ more_sites) ways (ways ++ more) exits (exits ++ more_exits)
steps_added g i k guard kinds h old new ps qs sites more_sites ways more exits more_exits is made added = record {
  grows = added.grows;
  more_pointers = added.extends.more;
  pointers_are = added.extends.is;
  more = more_sites;
  sites_are = refl;
  own = added.own;
  fits = added.fits;
  below = added.below;
  made = made_more g old new ps qs ways more exits more_exits added.grows.longer added.extends made added.made;
  step = λ packet maps v s run read maps_are here good.
      good_behind g packet maps v ps qs k guard h old sites more_sites ways more exits more_exits s added.extends made added.own maps_are here
      (record {
        offs = added.offs packet v run;
        goes = λ m at one.
            let all = goes packet maps v s m run read maps_are here at one in (all.0, all.1);
      }) good;
  does = λ packet maps v m run read maps_are here.
      let one : v guard ≡ 1 = here.guard_is ∙ ap bit (at_own k) in
      let all = goes packet maps v (At k m) m run read maps_are here refl one in
      subst (DoAs v m.maps more_sites) (sym (operation_is g k i kinds m is (here.placed m refl))) all.2;
}
  where
    goes : (packet : PacketIn) (maps : MapState) (v : ℕ → ℕ) (s : Stage) (m : Machine) → IsRun packet new v → AreRead maps new (sites ++ more_sites) v → after v maps sites ≡ maps_in maps s
        → IsHere g packet v ps k guard h s → s ≡ At k m → v guard ≡ 1
        → IsGood g packet v qs (k + 1) more more_exits (stepped g k m (step g.code m)) × (after v maps (sites ++ more_sites) ≡ maps_in maps (stepped g k m (step g.code m)))
        × DoAs v m.maps more_sites (operation_as m i i.op)
    goes packet maps v s m run read maps_are here at one =
        added.goes packet maps v m run read one (maps_are ∙ ap (maps_in maps) at)
        (subst (λ (j : Kinds). IsKnown g.decls packet v ps k j h m) is.kinds_are (here.known m at)) (here.placed m at)

-- the same where lists are known to be these
pub steps_of : (g : GraphView) (i : Insn) (k guard : ℕ) (kinds : Kinds) (h : RegisterCells) (old new : List CellView) (ps qs : List PointerView) (sites more_sites sites2 : List SiteView) (ways more ways2 : List Way) (exits more_exits exits2 : List Exit)
    → sites2 ≡ sites ++ more_sites → ways2 ≡ ways ++ more → exits2 ≡ exits ++ more_exits
    → IsNode g k i kinds → AreMade g old ps ways exits → IsAdded g i k guard kinds h old new ps qs sites more_sites more more_exits
    → Steps g k guard h old new ps qs sites sites2 ways ways2 exits exits2
steps_of g i k guard kinds h old new ps qs sites more_sites sites2 ways more ways2 exits more_exits exits2 s w x is made added =
    rw (s, w, x) (steps_added g i k guard kinds h old new ps qs sites more_sites ways more exits more_exits is made added)
