-- What is known among more cells and pointers.
use Rattle.std.proofs.Common.{ℕ, List, length, get_or}
use Rattle.std.specs.Prelude.{slice_index}
use Rattle.xdp_machine.specs.xdp_maps.declared.decl.MapDecl.{MapDecl}
use Rattle.xdp_machine.specs.Values as is
use Rattle.xdp_machine.specs.State.{Machine, PacketIn}
use Rattle.xdp_machine.specs.State as machine
use Rattle.kind_core.specs.declared.kind.Kind.TheVariants.{Unset}
use Rattle.kind_core.specs.declared.kind.Kinds.{Kinds}
use Rattle.cell_core.specs.Cells.{CellView}
use Rattle.operator_cells.specs.declared.held_cells.machine_cells.RegisterCells.{RegisterCells}
use Rattle.operator_cells.specs.declared.held_cells.way.Way.{Way}
use Rattle.operator_cells.specs.declared.held_cells.way.Exit.{Exit}
use Rattle.operator_cells.specs.HeldCells.Paths.{GraphView, Stage}
use Rattle.operator_cells.specs.HeldCells.RegisterCells.{PointerView, AreInside, AreHeld}
use Rattle.operator_cells.specs.HeldCells.Carrying.{IsKnown}
use Rattle.operator_cells.specs.HeldCells.Steps.{IsGood, AreMade}
use Rattle.edge_cells.specs.Meeting.{Extends}
use Rattle.edge_cells.proofs.ExtendingLaws.{holds_later}

pub held_later : (decls : List MapDecl) (packet : PacketIn) (v : ℕ → ℕ) (n : ℕ) (ps qs : List PointerView) (h : RegisterCells) (k : Kinds) (m : Machine)
    → Extends ps qs → AreInside decls n ps h k → AreHeld decls packet v ps h k m → AreHeld decls packet v qs h k m
held_later decls packet v n ps qs h k m e inside held = record {
  registers = λ r l. holds_later decls n v ps qs (get_or k.registers r Unset) (slice_index h.registers r) (machine.register m.registers r) e (inside.registers r l) (held.registers r l);
  slots = λ s l. holds_later decls n v ps qs (get_or k.slots s Unset) (slice_index h.slots s) (get_or m.stack s is.Unset) e (inside.slots s l) (held.slots s l);
  length_is = held.length_is;
  window = held.window;
  rest = held.rest;
  target = held.target;
  ifindex = held.ifindex;
  time = held.time;
}

known_later : (decls : List MapDecl) (packet : PacketIn) (v : ℕ → ℕ) (n : ℕ) (ps qs : List PointerView) (node : ℕ) (k : Kinds) (h : RegisterCells) (m : Machine)
    → Extends ps qs → AreInside decls n ps h k → IsKnown decls packet v ps node k h m → IsKnown decls packet v qs node k h m
known_later decls packet v n ps qs node k h m e inside known = record {
  world = known.world;
  node_is = known.node_is;
  stands = known.stands;
  in_range = known.in_range;
  decls_are = known.decls_are;
  filled = known.filled;
  held = held_later decls packet v n ps qs h k m e inside known.held;
}

pub good_later : (g : GraphView) (packet : PacketIn) (v : ℕ → ℕ) (cells : List CellView) (ps qs : List PointerView) (k : ℕ) (ways : List Way) (exits : List Exit) (s : Stage)
    → Extends ps qs → AreMade g cells ps ways exits → IsGood g packet v ps k ways exits s → IsGood g packet v qs k ways exits s
good_later g packet v cells ps qs k ways exits s e made good = record {
  bits = good.bits;
  ahead = good.ahead;
  placed = good.placed;
  each = λ i d l low o. let x = good.each i d l low o in
      (x.0, x.1, known_later g.decls packet v (length cells) ps qs (get_or ways i d).to (get_or ways i d).kinds (get_or ways i d).held x.0 e (made.each_way i d l).1 x.2);
  some = good.some;
  ends = good.ends;
  ended = good.ended;
  somewhere = good.somewhere;
}
