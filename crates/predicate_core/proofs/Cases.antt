-- Values of more cells are values of those before.
use Rattle.std.proofs.Common.{◌≡◌, ℕ, ◌<◌, ◌≤◌, List, ◌++◌, length, length-append, ◌∙◌, ap, arith}
use Rattle.std.specs.Prelude.{take, All}
use Rattle.std.proofs.Math.ListN.{get_or-append}
use Rattle.std.proofs.lemmas.List.{take-append-le}
use Rattle.xdp_machine.specs.xdp_maps.State.{MapState}
use Rattle.xdp_machine.specs.State.{PacketIn}
use Rattle.cell_core.specs.Cells.{CellView, cell_at, site_in, bits_from, on}
use Rattle.cell_core.specs.Sites.{SiteView, no_site, site_at, after, read_on}
use Rattle.operator_cells.specs.Making.{GrowsWith}
use Rattle.operator_cells.specs.HeldCells.Paths.{GraphView}
use Rattle.operator_cells.specs.HeldCells.Steps.{AreRead}
use Rattle.predicate_core.specs.Making.{Making, AreReadBelow, IsCase}

-- what a read answers
abbrev answer : (ℕ → ℕ) → MapState → List SiteView → SiteView → CellView → ℕ
answer v maps before s c = bits_from (read_on v (after v maps before) s c.op) c.from c.width

pub read_older : (R : ℕ → ℕ → Type 0) (maps : MapState) (old new : List CellView) (sites sites2 more : List SiteView) (v : ℕ → ℕ) (j k : ℕ)
    → GrowsWith R old new → sites2 ≡ sites ++ more → j ≤ k → AreReadBelow maps new sites2 v k → AreReadBelow maps old sites v j
read_older R maps old new sites sites2 more v j k grows is l read c i in_cells in_sites reads low o =
    let same = grows.kept c in_cells in
    let at : site_at sites2 i ≡ site_at sites i = ap (λ (ss : List SiteView). site_at ss i) is ∙ get_or-append sites more no_site i in_sites in
    let first : take i sites2 ≡ take i sites = ap (λ (ss : List SiteView). take i ss) is ∙ take-append-le i sites more (omega (arith, in_sites)) in
    read c i (omega (arith, in_cells, grows.longer)) (omega (arith, in_sites, ap length is, length-append sites more)) (ap (λ (x : CellView). site_in x.op) same ∙ reads)
    (omega (arith, low, l, ap (λ (s : SiteView). s.node) at)) (ap (λ (s : SiteView). on (v s.guard)) at ∙ o)
    ∙ ap (λ (before : List SiteView). answer v maps before (site_at sites2 i) (cell_at new c)) first
    ∙ ap (λ (s : SiteView). answer v maps (take i sites) s (cell_at new c)) at
    ∙ ap (λ (x : CellView). answer v maps (take i sites) (site_at sites i) x) same

pub case_older : (R : ℕ → ℕ → Type 0) (g : GraphView) (t u : Making) (packet : PacketIn) (maps : MapState) (v : ℕ → ℕ) (more : List SiteView) (j k : ℕ)
    → GrowsWith R t.cells u.cells → u.sites ≡ t.sites ++ more → j ≤ k → IsCase g u packet maps v k → IsCase g t packet maps v j
case_older R g t u packet maps v more j k grows is l case = record {
  is_packet = case.is_packet;
  sound = case.sound;
  decls = case.decls;
  run = grows.run packet v case.run;
  read = read_older R maps t.cells u.cells t.sites u.sites more v j k grows is l case.read;
}

pub case_fewer : (g : GraphView) (t : Making) (packet : PacketIn) (maps : MapState) (v : ℕ → ℕ) (j k : ℕ) → j ≤ k → IsCase g t packet maps v k → IsCase g t packet maps v j
case_fewer g t packet maps v j k l case = record {
  is_packet = case.is_packet;
  sound = case.sound;
  decls = case.decls;
  run = case.run;
  read = λ c i in_cells in_sites reads low o. case.read c i in_cells in_sites reads (omega (arith, low, l)) o;
}

pub all_read : (g : GraphView) (t : Making) (packet : PacketIn) (maps : MapState) (v : ℕ → ℕ) (k : ℕ) → All (λ s. s.node < k) t.sites → IsCase g t packet maps v k → AreRead maps t.cells t.sites v
all_read g t packet maps v k low case c i in_cells in_sites reads o = case.read c i in_cells in_sites reads (low i no_site in_sites) o
