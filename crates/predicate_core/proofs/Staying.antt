-- Cells that read no site, after an arrival and after the code of a node.
use Rattle.std.proofs.Common.{◌≡◌, ℕ, ◌≤◌, List, length, take, ◌∙◌, ap, subst, arith}
use Rattle.std.proofs.lemmas.List.Elements.{All-weaker}
use Rattle.xdp_machine.specs.xdp_maps.State.{MapState}
use Rattle.cell_core.specs.Cells.{CellView, site_in, bits_from}
use Rattle.cell_core.specs.Sites.{SiteView, site_at, after, read_on}
use Rattle.cell_core.specs.Formed.{IsBelow}
use Rattle.operator_cells.specs.Making.{Grows}
use Rattle.operator_cells.proofs.MakingLaws.{grown, grown_with, reads_none}
use Rattle.operator_cells.proofs.HeldCells.PointerLaws.{there_later}
use Rattle.operator_cells.specs.declared.held_cells.way.Way.{Way}
use Rattle.operator_cells.specs.declared.held_cells.way.Exit.{Exit}
use Rattle.operator_cells.specs.HeldCells.Paths.{GraphView, node_at}
use Rattle.operator_cells.specs.HeldCells.RegisterCells.{PointerView}
use Rattle.operator_cells.specs.HeldCells.Steps.{AreMade, AreRead, ReadsOwn}
use Rattle.edge_cells.proofs.ExtendingLaws.{extends_none, inside_later}
use Rattle.predicate_core.specs.Laws.{ArrivalsStay, StepsStay}
use Rattle.predicate_core.proofs.Sited.{below_later}

pub arrivals_stay : ArrivalsStay
arrivals_stay g k t cells cells2 ps guard h a more = record {
  grows = grown a.grows more;
  extends = a.extends;
  own = (a.own.0, omega (arith, a.own.1, more.longer));
  inside = inside_later g.decls (length cells) (length cells2) ps ps h (node_at g.nodes k).kinds more.longer (extends_none ps) a.inside;
  here = λ packet v s run good. a.here packet v s (more.run packet v run) good;
}

-- values that answer the reads of more cells answer those of fewer
reads_fewer : (maps : MapState) (a b : List CellView) (sites : List SiteView) (v : ℕ → ℕ) → Grows a b → AreRead maps b sites v → AreRead maps a sites v
reads_fewer maps a b sites v more read c j l in_sites is on_guard =
    subst (λ (x : CellView). v c ≡ bits_from (read_on v (after v maps (take j sites)) (site_at sites j) x.op) x.from x.width) (more.kept c l)
    (read c j (omega (arith, l, more.longer)) in_sites (ap (λ (x : CellView). site_in x.op) (more.kept c l) ∙ is) on_guard)

pub made_later : (g : GraphView) (a b : List CellView) (ps : List PointerView) (ways : List Way) (exits : List Exit) → length a ≤ length b → AreMade g a ps ways exits → AreMade g b ps ways exits
made_later g a b ps ways exits longer made = record {
  each_way = λ i d l. let w = made.each_way i d l in (omega (arith, w.0, longer), inside_later g.decls (length a) (length b) ps ps _ _ longer (extends_none ps) w.1);
  each_exit = λ i d l. let x = made.each_exit i d l in
      (omega (arith, x.0, longer), omega (arith, x.1, longer), there_later (length a) (length b) _ _ longer x.2, λ j s. omega (arith, x.3 j s, longer));
}

pub steps_stay : StepsStay
steps_stay g k guard h cells cells2 cells3 ps ps2 sites sites2 ways ways2 exits exits2 s more = record {
  grows = grown_with (ReadsOwn sites sites2) cells cells2 cells3 s.grows (reads_none (ReadsOwn sites sites2) cells2 cells3 more);
  more_pointers = s.more_pointers;
  pointers_are = s.pointers_are;
  more = s.more;
  sites_are = s.sites_are;
  own = s.own;
  fits = s.fits;
  below = All-weaker (IsBelow (length cells2)) (IsBelow (length cells3)) (λ x b. below_later (length cells2) (length cells3) x more.longer b) s.more s.below;
  made = made_later g cells2 cells3 ps2 ways2 exits2 more.longer s.made;
  step = λ packet maps v at run read. s.step packet maps v at (more.run packet v run) (reads_fewer maps cells2 cells3 sites2 v more read);
  does = λ packet maps v m run read. s.does packet maps v m (more.run packet v run) (reads_fewer maps cells2 cells3 sites2 v more read);
}
