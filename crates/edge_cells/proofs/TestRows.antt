-- The rows of what conditions compare.
use Rattle.std.proofs.Common.{◌≡◌, ℕ, ◌+◌, ◌≤◌, List, max, refl, sym, ◌∙◌, ap, arith}
use Rattle.std.specs.Prelude.{Some, slice_index}
use Rattle.xdp_machine.specs.bpf_isa.declared.operation.Src.{Src}
use Rattle.xdp_machine.specs.bpf_isa.declared.operation.Src.TheVariants.{K, X}
use Rattle.xdp_machine.specs.bpf_isa.declared.instruction.Insn.{Insn}
use Rattle.kind_core.specs.declared.kind.Kind.{Kind}
use Rattle.kind_core.specs.declared.kind.Kind.TheVariants.{Num, Maybe}
use Rattle.kind_core.specs.declared.kind.Kinds.{Kinds}
use Rattle.kind_core.specs.Kinds.{register}
use Rattle.kind_core.specs.Effects.{operand}
use Rattle.operator_cells.specs.row_rules.PlaceRows.Spans.{one, span_row}
use Rattle.operator_cells.specs.row_rules.PlaceRows.Reading.{right_of}
use Rattle.operator_cells.proofs.row_rules_laws.PlaceRows.SpanLaws.{one_row}
use Rattle.operator_cells.specs.declared.held_cells.machine_cells.RegisterCells.{RegisterCells}
use Rattle.operator_cells.specs.HeldCells.RegisterCells.{PointerView, pointer_at}
use Rattle.operator_cells.specs.HeldCells.Rows.{number_row, value_row, held_row}
use Rattle.operator_cells.proofs.HeldCells.RowLaws.{register_row}
use Rattle.edge_cells.specs.Meeting.{number_in}
use Rattle.edge_cells.specs.Testing.{found_of}
use Rattle.edge_cells.specs.Leaving.{operand_held}

pub found_row : (row : ℕ → ℕ) (ps : List PointerView) (a : Kind) (p f : ℕ) → found_of ps a p ≡ Some f → row f ≤ value_row row ps a p
found_row row ps (Maybe r n) p f e = let is : f ≡ (pointer_at ps p).found = cc in omega (arith, ap row is)
found_row row ps a p f e = absurd (cc)

pub number_row_is : (row : ℕ → ℕ) (ps : List PointerView) (a : Kind) (p : ℕ) → a ≡ Num (number_in a) → number_row row (number_in a) p ≡ value_row row ps a p
number_row_is row ps a p e = ap (λ (k : Kind). value_row row ps k p) (sym e)

-- what a jump compares
pub left_row : (row : ℕ → ℕ) (ps : List PointerView) (h : RegisterCells) (k : Kinds) (r : ℕ) → r ≤ 10 → value_row row ps (register k r) (slice_index h.registers r) ≡ span_row (held_row row ps h k) (one r)
left_row row ps h k r l = sym (one_row (held_row row ps h k) r ∙ register_row row ps h k r (omega (arith, l)))

pub right_row : (row : ℕ → ℕ) (ps : List PointerView) (h : RegisterCells) (k : Kinds) (i : Insn) (s : Src) → i.src ≤ 10 → value_row row ps (operand k i s) (operand_held h i s) ≡ span_row (held_row row ps h k) (right_of i s)
right_row row ps h k i K l = refl
right_row row ps h k i X l = left_row row ps h k i.src l

pub jump_row : (row : ℕ → ℕ) (ps : List PointerView) (h : RegisterCells) (k : Kinds) (i : Insn) (s : Src) (a b : Kind) (p q : ℕ) → i.dst ≤ 10 → i.src ≤ 10 → a ≡ register k i.dst → p ≡ slice_index h.registers i.dst
    → b ≡ operand k i s → q ≡ operand_held h i s → 1 + max (value_row row ps a p) (value_row row ps b q) ≤ 1 + max (span_row (held_row row ps h k) (one i.dst)) (span_row (held_row row ps h k) (right_of i s))
jump_row row ps h k i s a b p q dst src a_is p_is b_is q_is = both _ _ _ _
    (ap (λ (x : Kind). value_row row ps x p) a_is ∙ ap (value_row row ps (register k i.dst)) p_is ∙ left_row row ps h k i.dst dst)
    (ap (λ (x : Kind). value_row row ps x q) b_is ∙ ap (value_row row ps (operand k i s)) q_is ∙ right_row row ps h k i s src)
  where
    both : (x y u v : ℕ) → x ≡ u → y ≡ v → 1 + max x y ≤ 1 + max u v
    both x y u v e f = omega (arith, e, f)
