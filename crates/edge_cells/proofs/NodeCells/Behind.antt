-- Between nodes, after a node: what its edges and ends are to do where the run stands there, and nothing where it does not.
use Rattle.std.proofs.Common.{◌≡◌, ◌≢◌, ℕ, ◌+◌, ◌<◌, ◌≤◌, ◌==◌, Bool, true, false, if◌then◌else◌, List, ◌++◌, length, get_or, refl, ◌∙◌, ap, subst, arith}
use Rattle.std.specs.Prelude.{All, slice_index}
use Rattle.std.proofs.lemmas.Bool.Decides.{nat_tests}
use Rattle.std.proofs.lemmas.List.Elements.{All-append, Contains-append_left, Contains-append_right}
use Rattle.xdp_machine.specs.xdp_maps.declared.decl.MapDecl.{MapDecl}
use Rattle.xdp_machine.specs.xdp_maps.State.{MapState}
use Rattle.xdp_machine.specs.State.{Machine, PacketIn}
use Rattle.xdp_machine.specs.Step.{step}
use Rattle.kind_core.specs.declared.kind.Kinds.{Kinds}
use Rattle.cell_core.specs.Cells.{CellView, on, bit}
use Rattle.cell_core.specs.Sites.{SiteView, after}
use Rattle.operator_cells.specs.declared.held_cells.machine_cells.RegisterCells.{RegisterCells}
use Rattle.operator_cells.specs.declared.held_cells.way.Way.{Way}
use Rattle.operator_cells.specs.declared.held_cells.way.Exit.{Exit}
use Rattle.operator_cells.specs.HeldCells.Paths.{GraphView, Stage, At, Over, Nowhere, stepped, visit, maps_in}
use Rattle.operator_cells.specs.HeldCells.RegisterCells.{PointerView, AreInside}
use Rattle.operator_cells.specs.HeldCells.Carrying.{IsKnown}
use Rattle.operator_cells.specs.HeldCells.Steps.{Leads, Closes, IsGood, IsHere, AreMade}
use Rattle.edge_cells.specs.Meeting.{Extends}
use Rattle.edge_cells.proofs.ExtendingLaws.{holds_later}
use Rattle.edge_cells.proofs.NodeCells.Following.{after_off}

-- what is known of a machine is known among more pointers
pub known_more : (decls : List MapDecl) (packet : PacketIn) (n : ℕ) (v : ℕ → ℕ) (ps qs : List PointerView) (node : ℕ) (k : Kinds) (h : RegisterCells) (m : Machine) → Extends ps qs → AreInside decls n ps h k
    → IsKnown decls packet v ps node k h m → IsKnown decls packet v qs node k h m
known_more decls packet n v ps qs node k h m more inside known = record {
  world = known.world;
  node_is = known.node_is;
  stands = known.stands;
  in_range = known.in_range;
  decls_are = known.decls_are;
  filled = known.filled;
  held = record {
    registers = λ r l. holds_later decls n v ps qs _ (slice_index h.registers r) _ more (inside.registers r l) (known.held.registers r l);
    slots = λ s l. holds_later decls n v ps qs _ (slice_index h.slots s) _ more (inside.slots s l) (known.held.slots s l);
    length_is = known.held.length_is;
    window = known.held.window;
    rest = known.held.rest;
    target = known.held.target;
    ifindex = known.held.ifindex;
    time = known.held.time;
  };
}

pub off : (n : ℕ) → n ≡ 0 → on n ≡ true → ⊥
off n e h = let f : on n ≡ false = ap on e in absurd (cc)

-- edges and ends that a node adds, off where its guard is
pub record AreOff (v : ℕ → ℕ) (ways : List Way) (exits : List Exit) : Type 0 where
  pub edges : All (λ e. v e.bit ≡ 0) ways
  pub ends : All (λ x. v x.guard ≡ 0) exits

-- the run is past the node, or passes it
good_kept : (g : GraphView) (packet : PacketIn) (v : ℕ → ℕ) (ps qs : List PointerView) (k : ℕ) (cells : List CellView) (ways more : List Way) (exits more_exits : List Exit) (s : Stage)
    → Extends ps qs → AreMade g cells ps ways exits → ((n : ℕ) (m : Machine) → s ≡ At n m → n ≢ k) → AreOff v more more_exits
    → IsGood g packet v ps k ways exits s → IsGood g packet v qs (k + 1) (ways ++ more) (exits ++ more_exits) s
good_kept g packet v ps qs k cells ways more exits more_exits s extends made other offs good = record {
  bits = All-append (λ e. v e.bit < 2) ways more good.bits (λ i d l. omega (arith, offs.edges i d l));
  ahead = λ n m at. let a = good.ahead n m at in let ne = other n m at in (grind (arith, a.0, ne), a.1);
  placed = good.placed;
  each = All-append (λ e. k + 1 ≤ e.to → Leads g packet v qs s e) ways more
      (λ i d l up h. let x = good.each i d l (omega (arith, up)) h in
      (x.0, x.1, known_more g.decls packet (length cells) v ps qs (get_or ways i d).to (get_or ways i d).kinds (get_or ways i d).held x.0 extends (made.each_way i d l).1 x.2))
      (λ i d l up h. absurd (off _ (offs.edges i d l) h));
  some = λ n m at. let x = good.some n m at in (x.0, Contains-append_left ways more x.0 x.1, x.2, x.3);
  ends = All-append (Closes packet v s) exits more_exits good.ends (λ i d l h. absurd (off _ (offs.ends i d l) h));
  ended = λ e at. let x = good.ended e at in (x.0, Contains-append_left exits more_exits x.0 x.1, x.2);
  somewhere = good.somewhere;
}

-- the run stands at the node: no earlier edge is on that leads further, and no end
good_stepped : (g : GraphView) (packet : PacketIn) (v : ℕ → ℕ) (ps qs : List PointerView) (k : ℕ) (ways more : List Way) (exits more_exits : List Exit) (m : Machine) (t : Stage)
    → IsGood g packet v ps k ways exits (At k m) → IsGood g packet v qs (k + 1) more more_exits t → IsGood g packet v qs (k + 1) (ways ++ more) (exits ++ more_exits) t
good_stepped g packet v ps qs k ways more exits more_exits m t old new = record {
  bits = All-append (λ e. v e.bit < 2) ways more old.bits new.bits;
  ahead = new.ahead;
  placed = new.placed;
  each = All-append (λ e. k + 1 ≤ e.to → Leads g packet v qs t e) ways more
      (λ i d l up h. let x = old.each i d l (omega (arith, up)) h in let same : k ≡ (get_or ways i d).to = cc (x.1) in absurd (omega (arith, up, same)))
      new.each;
  some = λ n b at. let x = new.some n b at in (x.0, Contains-append_right ways more x.0 x.1, x.2, x.3);
  ends = All-append (Closes packet v t) exits more_exits (λ i d l h. let x = old.ends i d l h in absurd (cc (x.1))) new.ends;
  ended = λ e at. let x = new.ended e at in (x.0, Contains-append_right exits more_exits x.0 x.1, x.2);
  somewhere = new.somewhere;
}

-- what is asked of what a node adds, in one run of its cells
pub record IsTurn (g : GraphView) (packet : PacketIn) (maps : MapState) (v : ℕ → ℕ) (ps qs : List PointerView) (k guard : ℕ) (h : RegisterCells) (sites more_sites : List SiteView) (more : List Way) (more_exits : List Exit) (s : Stage) : Type 0 where
  pub offs : v guard ≡ 0 → AreOff v more more_exits
  pub goes : (m : Machine) → s ≡ At k m → v guard ≡ 1 → IsGood g packet v qs (k + 1) more more_exits (stepped g k m (step g.code m))
      × (after v maps (sites ++ more_sites) ≡ maps_in maps (stepped g k m (step g.code m)))

pub good_behind : (g : GraphView) (packet : PacketIn) (maps : MapState) (v : ℕ → ℕ) (ps qs : List PointerView) (k guard : ℕ) (h : RegisterCells) (cells : List CellView) (sites more_sites : List SiteView) (ways more : List Way) (exits more_exits : List Exit) (s : Stage)
    → Extends ps qs → AreMade g cells ps ways exits → All (λ r. (r.node ≡ k) × (r.guard ≡ guard)) more_sites → after v maps sites ≡ maps_in maps s → IsHere g packet v ps k guard h s
    → IsTurn g packet maps v ps qs k guard h sites more_sites more more_exits s → IsGood g packet v ps k ways exits s
    → IsGood g packet v qs (k + 1) (ways ++ more) (exits ++ more_exits) (visit g k s) × (after v maps (sites ++ more_sites) ≡ maps_in maps (visit g k s))
good_behind g packet maps v ps qs k guard h cells sites more_sites ways more exits more_exits Nowhere extends made own maps_are here turn good = absurd (good.somewhere refl)
good_behind g packet maps v ps qs k guard h cells sites more_sites ways more exits more_exits (Over e) extends made own maps_are here turn good = (
  good_kept g packet v ps qs k cells ways more exits more_exits (Over e) extends made (λ n m at. absurd (cc)) (turn.offs here.guard_is) good,
  after_off v maps sites more_sites k guard own here.guard_is ∙ maps_are,
)
good_behind g packet maps v ps qs k guard h cells sites more_sites ways more exits more_exits (At n m) extends made own maps_are here turn good = by (n == k) refl
  where
    by : (t : Bool) → (n == k) ≡ t
        → IsGood g packet v qs (k + 1) (ways ++ more) (exits ++ more_exits) (if t then stepped g k m (step g.code m) else At n m) × (after v maps (sites ++ more_sites) ≡ maps_in maps (if t then stepped g k m (step g.code m) else At n m))
    by true e =
        let same : n ≡ k = grind (arith, nat_tests) in
        let at : At n m ≡ At k m = ap (λ (j : ℕ). At j m) same in
        let one : v guard ≡ 1 = here.guard_is ∙ ap bit e in
        let there = turn.goes m at one in
        (good_stepped g packet v ps qs k ways more exits more_exits m (stepped g k m (step g.code m)) (subst (λ (t : Stage). IsGood g packet v ps k ways exits t) at good) there.0, there.1)
    by false e =
        let zero : v guard ≡ 0 = here.guard_is ∙ ap bit e in
        let ne : n ≢ k = grind (arith, nat_tests) in (
          good_kept g packet v ps qs k cells ways more exits more_exits (At n m) extends made (λ j b at. let same : n ≡ j = cc in subst (λ (i : ℕ). i ≢ k) same ne) (turn.offs zero) good,
          after_off v maps sites more_sites k guard own zero ∙ maps_are,
        )
