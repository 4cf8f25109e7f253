-- The rows of the edges that leave a node.
use Rattle.std.proofs.Common.{◌≡◌, ◌∙◌, ℕ, ◌+◌, ◌≤◌, max, Bool, Option, Some, None, List, [], ◌∷◌, ◌++◌, ap, arith}
use Rattle.std.proofs.lemmas.List.Elements.{All-nil, All-cons}
use Rattle.xdp_machine.specs.bpf_isa.declared.operation.Width.{Width}
use Rattle.xdp_machine.specs.bpf_isa.declared.operation.JumpCode.{JumpCode}
use Rattle.xdp_machine.specs.bpf_isa.declared.operation.Src.{Src}
use Rattle.xdp_machine.specs.bpf_isa.declared.operation.Op.{Op}
use Rattle.xdp_machine.specs.bpf_isa.declared.operation.Op.TheVariants.{Jump}
use Rattle.xdp_machine.specs.bpf_isa.declared.instruction.Insn.{Insn}
use Rattle.kind_core.specs.declared.kind.Kinds.{Kinds}
use Rattle.kind_core.specs.Edges.{decided}
use Rattle.cell_core.specs.Cells.{CellView}
use Rattle.operator_cells.specs.Rising.{Rises}
use Rattle.operator_cells.proofs.RisingLaws.{Stand, stand_none, stand_more}
use Rattle.operator_cells.specs.row_rules.PlaceRows.Spans.{one, span_row}
use Rattle.operator_cells.specs.row_rules.PlaceRows.Reading.{right_of}
use Rattle.operator_cells.specs.declared.held_cells.machine_cells.RegisterCells.{RegisterCells}
use Rattle.operator_cells.specs.declared.held_cells.way.Way.{Way}
use Rattle.operator_cells.specs.HeldCells.Rows.{undecided_row, leaving_row, LeaveTo}
use Rattle.operator_cells.proofs.HeldCells.RowLaws.{grows_by}

-- one edge
pub one_leaves : {old new : List CellView} {ways ways2 : List Way} {h : RegisterCells} {f last : (ℕ → ℕ) → ℕ} (e : Way) → Rises old new e.bit f → e.held ≡ h → ways2 ≡ ways ++ e ∷ [] → ((row : ℕ → ℕ) → f row ≤ last row)
    → LeaveTo old new ways ways2 h last
one_leaves {h = h} {last = last} e r held pushed below = record {
  grows = grows_by r.grows below;
  more = e ∷ [];
  ways_are = pushed;
  held = All-cons (λ (x : Way). x.held ≡ h) e [] held (All-nil (λ (x : Way). x.held ≡ h));
  bits = λ row rows. All-cons (λ (x : Way). row x.bit ≤ last row) e [] (omega (arith, r.result row rows, below row)) (All-nil (λ (x : Way). row x.bit ≤ last row));
}

-- two, by a condition
pub two_leave : {old mid mid2 new : List CellView} {ways ways2 : List Way} {h : RegisterCells} {c : ℕ} {test last : (ℕ → ℕ) → ℕ} (guard : ℕ) (e f : Way) → Rises old mid c test → Rises mid mid2 e.bit (λ row. max (row guard) (row c))
    → Rises mid2 new f.bit (λ row. max (row guard) (row c)) → e.held ≡ h → f.held ≡ h → ways2 ≡ ways ++ e ∷ f ∷ [] → ((row : ℕ → ℕ) → max (row guard) (test row) ≤ last row) → LeaveTo old new ways ways2 h last
two_leave {old = old} {new = new} {h = h} {c = c} {test = test} {last = last} guard e f tests along aside held held2 pushed below = record {
  grows = stood.grows;
  more = e ∷ f ∷ [];
  ways_are = pushed;
  held = All-cons (λ (x : Way). x.held ≡ h) e (f ∷ []) held (All-cons (λ (x : Way). x.held ≡ h) f [] held2 (All-nil (λ (x : Way). x.held ≡ h)));
  bits = λ row rows. let p = stood.known row rows in
      All-cons (λ (x : Way). row x.bit ≤ last row) e (f ∷ []) (omega (arith, p.0.0.1, p.0.1, below row))
      (All-cons (λ (x : Way). row x.bit ≤ last row) f [] (omega (arith, p.0.0.1, p.1, below row)) (All-nil (λ (x : Way). row x.bit ≤ last row)));
}
  where
    stood : Stand old new (λ row. ((Unit {0} × (row c ≤ test row)) × (row e.bit ≤ max (row guard) (row c))) × (row f.bit ≤ max (row guard) (row c))) last
    stood = stand_more (stand_more (stand_more stand_none tests (λ row p. omega (arith, below row))) along (λ row p. omega (arith, p.1, below row))) aside (λ row p. omega (arith, p.0.1, below row))

-- the row of the edges of a jump, by whether it is decided
pub undecided_leaving : (row : ℕ → ℕ) (k : Kinds) (i : Insn) (guard : ℕ) (w : Width) (code : JumpCode) (s : Src) → i.op ≡ Jump w code s → decided k i ≡ None
    → leaving_row row k i guard ≡ max guard (1 + max (span_row row (one i.dst)) (span_row row (right_of i s)))
undecided_leaving row k i guard w code s op undecided =
    ap (λ (o : Op). undecided_row row i o guard (decided k i)) op ∙ ap (λ (d : Option Bool). undecided_row row i (Jump w code s) guard d) undecided

pub decided_leaving : (row : ℕ → ℕ) (k : Kinds) (i : Insn) (guard : ℕ) (w : Width) (code : JumpCode) (s : Src) (taken : Bool) → i.op ≡ Jump w code s → decided k i ≡ Some taken → leaving_row row k i guard ≡ guard
decided_leaving row k i guard w code s taken op decision =
    ap (λ (o : Op). undecided_row row i o guard (decided k i)) op ∙ ap (λ (d : Option Bool). undecided_row row i (Jump w code s) guard d) decision
