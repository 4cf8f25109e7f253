-- What is known of the values that an instruction reads.
use Rattle.std.proofs.Common.{◌≡◌, ◌⊎◌, inl, inr, ℕ, zero, suc, ◌^◌, ◌<◌, ◌≤◌, ℤ, pos, ◌≢◌, Bool, true, false, Option, IfOk, List, [], ◌∷◌, length, get_or, slice_index, refl, sym, ◌∙◌, ap, subst, arith}
use Rattle.std.proofs.lemmas.Bool.{cases_lt}
use Rattle.std.specs.Int.{w64, cast_unsigned}
use Rattle.cell_core.specs.bpf_isa.declared.operation.Src.{Src}
use Rattle.cell_core.specs.bpf_isa.declared.operation.Src.TheVariants.{K, X}
use Rattle.cell_core.specs.bpf_isa.declared.instruction.Insn.{Insn}
use Rattle.cell_core.specs.xdp_maps.declared.decl.MapDecl.{MapDecl}
use Rattle.cell_core.specs.xdp_maps.State.{MapState}
use Rattle.cell_core.specs.xdp_machine.Values.{Value}
use Rattle.cell_core.specs.xdp_machine.Values as is
use Rattle.cell_core.specs.xdp_machine.State.{Machine, PacketIn, register}
use Rattle.cell_core.specs.xdp_machine.Step as machine
use Rattle.cell_core.specs.xdp_machine.Ranges.{InRange}
use Rattle.kind_core.specs.declared.number.Number.TheVariants.{Known, Between}
use Rattle.kind_core.specs.declared.kind.Kind.{Kind}
use Rattle.kind_core.specs.declared.kind.Kind.TheVariants.{Unset, Num, Packet, End, Maybe, Entry}
use Rattle.kind_core.specs.declared.kind.Kinds.{Kinds}
use Rattle.kind_core.specs.Kinds as kinds
use Rattle.kind_core.specs.Effects as effects
use Rattle.kind_core.specs.Describes.{World, Describes}
use Rattle.cell_core.specs.Cells.{CellView}
use Rattle.operator_cells.specs.declared.held_cells.machine_cells.RegisterCells.{RegisterCells}
use Rattle.operator_cells.specs.HeldCells.RegisterCells.{PointerView, Holds, Counts, AreInside}
use Rattle.operator_cells.specs.HeldCells.Carrying.{IsKnown, Gives}
use Rattle.register_cells.specs.Reading.{IsRead, Yields}
use Rattle.cell_core.specs.bpf_isa.declared.operation.Width.{Width}
use Rattle.cell_core.specs.bpf_isa.declared.operation.AluCode.{AluCode}
use Rattle.cell_core.specs.bpf_isa.declared.operation.Op.TheVariants.{Alu, Neg, Swap, Load, LoadSigned, LoadImm}
use Rattle.cell_core.specs.bpf_isa.declared.operation.Op.TheVariants as ops
use Rattle.cell_core.specs.bpf_isa.declared.operation.Size.{Size}
use Rattle.kind_core.specs.Edges as edges
use Rattle.register_cells.specs.Giving.{given_kind}
use Rattle.cell_core.specs.bpf_isa.declared.operation.Op.{Op}
use Rattle.cell_core.specs.bpf_isa.Spelling.{FitsOp}
use Rattle.kind_core.proofs.xdp_machine_laws.NumberLaws.{word_of}
use Rattle.cell_core.specs.xdp_machine.Pointers as pointers
use Rattle.kind_core.specs.Pointers as kind
use Rattle.register_cells.specs.Giving.{given}
use Rattle.register_cells.proofs.Growing.{ok_map}
use Rattle.operator_cells.proofs.MakingLaws.{grown_none}

pub imm_fits : (op : Op) (z : ℤ) → FitsOp op z → cast_unsigned w64 z < 2 ^ 64
imm_fits LoadImm z h = word_of z (omega (arith, h.sfits))
imm_fits op z h = word_of z (omega (arith, h.sfits))

read_of : (decls : List MapDecl) (packet : PacketIn) (v : ℕ → ℕ) (ps : List PointerView) (w : World) (maps : MapState) (ds : List MapDecl) (x : Kind) (c : ℕ) (t : Value)
    → Describes w maps x t → Holds decls v ps x c t → InRange ds t → w.frame ≡ length packet.frame → IsRead decls packet v ps x c t
read_of decls packet v ps w maps ds (Num (Known n)) c t d h r e = (d, rw d at r)
read_of decls packet v ps w maps ds (Num (Between lo hi)) c t d h r e = (h, rw h at r)
read_of decls packet v ps w maps ds (Packet o) c t d h r e = d
read_of decls packet v ps w maps ds End c t d h r e = d ∙ ap (λ (n : ℕ). is.Packet (pos n)) e
read_of decls packet v ps w maps ds (Maybe q n) c t d h r e = h
read_of decls packet v ps w maps ds (Entry q o) c t d h r e = h
read_of decls packet v ps w maps ds x c t d h r e = tt

-- a value of a list whose values are in their ranges
in_range_at : (ds : List MapDecl) (xs : List Value) (i : ℕ) → ((j : ℕ) (d : Value) → j < length xs → InRange ds (get_or xs j d)) → InRange ds (get_or xs i is.Unset)
in_range_at ds xs i all = by (cases_lt i (length xs))
  where
    past : (ys : List Value) (j : ℕ) → length ys ≤ j → get_or ys j is.Unset ≡ is.Unset
    past [] j l = refl
    past (y ∷ ys) zero l = absurd (omega (arith, l))
    past (y ∷ ys) (suc j) l = past ys j (omega (arith, l))

    by : (i < length xs) ⊎ (length xs ≤ i) → InRange ds (get_or xs i is.Unset)
    by (inl l) = all i is.Unset l
    by (inr l) = rw (past xs i l) tt

pub register_read : (decls : List MapDecl) (packet : PacketIn) (v : ℕ → ℕ) (ps : List PointerView) (node : ℕ) (k : Kinds) (h : RegisterCells) (m : Machine) (r : ℕ)
    → IsKnown decls packet v ps node k h m → r ≤ 10 → IsRead decls packet v ps (kinds.register k r) (slice_index h.registers r) (register m.registers r)
register_read decls packet v ps node k h m r known l =
    read_of decls packet v ps known.world m.maps m.maps.decls (kinds.register k r) (slice_index h.registers r) (register m.registers r)
    (known.stands.described.registers r) (known.held.registers r l) (in_range_at m.maps.decls m.registers r known.in_range.registers)
    (sym known.stands.described.frame ∙ known.held.length_is)

pub slot_read : (decls : List MapDecl) (packet : PacketIn) (v : ℕ → ℕ) (ps : List PointerView) (node : ℕ) (k : Kinds) (h : RegisterCells) (m : Machine) (s : ℕ)
    → IsKnown decls packet v ps node k h m → s < 64 → IsRead decls packet v ps (get_or k.slots s Unset) (slice_index h.slots s) (get_or m.stack s is.Unset)
slot_read decls packet v ps node k h m s known l =
    read_of decls packet v ps known.world m.maps m.maps.decls (get_or k.slots s Unset) (slice_index h.slots s) (get_or m.stack s is.Unset)
    (known.stands.described.slots s) (known.held.slots s l) (in_range_at m.maps.decls m.stack s known.in_range.stack)
    (sym known.stands.described.frame ∙ known.held.length_is)

-- the second operand: an immediate number has no cell
pub operand_read : (decls : List MapDecl) (packet : PacketIn) (v : ℕ → ℕ) (ps : List PointerView) (node : ℕ) (k : Kinds) (h : RegisterCells) (m : Machine) (i : Insn) (s : Src)
    → cast_unsigned w64 i.imm < 2 ^ 64 → IsKnown decls packet v ps node k h m → i.src ≤ 10
    → IsRead decls packet v ps (effects.operand k i s) (slice_index h.registers i.src) (machine.operand m.registers i s)
operand_read decls packet v ps node k h m i K fits known l = (refl, fits)
operand_read decls packet v ps node k h m i X fits known l = register_read decls packet v ps node k h m i.src known l

pub frame_short : (decls : List MapDecl) (packet : PacketIn) (v : ℕ → ℕ) (ps : List PointerView) (node : ℕ) (k : Kinds) (h : RegisterCells) (m : Machine) → IsKnown decls packet v ps node k h m → length packet.frame < 2 ^ 63
frame_short decls packet v ps node k h m known = omega (arith, known.held.length_is, known.in_range.frame_short)

-- values that are known of a machine yield what the instruction makes of it
pub gives_yielded : (decls : List MapDecl) (ps : List PointerView) (node : ℕ) (k : Kinds) (h : RegisterCells) (a : Kind) (p : ℕ) (b : Kind) (q : ℕ) (old new : List CellView) (x : Kind) (c : ℕ)
    (f : Value → Value → Option Value) (s t : Machine → Value)
    → ((packet : PacketIn) (v : ℕ → ℕ) (m : Machine) → IsKnown decls packet v ps node k h m → IsRead decls packet v ps a p (s m) × IsRead decls packet v ps b q (t m))
    → Yields decls ps a p b q old new x c f → Gives decls ps node k h old new x c (λ m. f (s m) (t m))
gives_yielded decls ps node k h a p b q old new x c f s t read yields = record {
  grows = yields.grows;
  counts = yields.counts;
  holds = λ packet v m y run known e. let r = read packet v m known in yields.holds packet v (s m) (t m) y run (frame_short decls packet v ps node k h m known) r.0 r.1 e;
}

pub operand_counts : (decls : List MapDecl) (n : ℕ) (ps : List PointerView) (h : RegisterCells) (k : Kinds) (i : Insn) (s : Src) → i.src ≤ 10 → AreInside decls n ps h k → Counts decls n ps (effects.operand k i s) (slice_index h.registers i.src)
operand_counts decls n ps h k i K l inside = tt
operand_counts decls n ps h k i X l inside = inside.registers i.src l

-- arithmetic with two operands
pub combine_gives : (decls : List MapDecl) (ps : List PointerView) (refs : List ℕ) (node : ℕ) (k : Kinds) (h : RegisterCells) (i : Insn) (w : Width) (code : AluCode) (s : Src) (old new : List CellView) (c : ℕ) (z : ℤ) (b : Kind)
    → i.dst ≤ 10 → i.src ≤ 10 → cast_unsigned w64 i.imm < 2 ^ 64 → z ≡ i.offset → b ≡ effects.operand k i s
    → IfOk (kind.combined decls w code z s (kinds.register k i.dst) b) (λ x. Yields decls ps (kinds.register k i.dst) (slice_index h.registers i.dst) b (slice_index h.registers i.src) old new x c (λ x y. pointers.combined w code z x y))
    → IfOk (kind.combined decls w code i.offset s (kinds.register k i.dst) (effects.operand k i s)) (λ x. Gives decls ps node k h old new x c (λ m. given refs m i (Alu w code s)))
combine_gives decls ps refs node k h i w code s old new c z b dst src fits at is yields =
    let a : Kind = kinds.register k i.dst in let p : ℕ = slice_index h.registers i.dst in let q : ℕ = slice_index h.registers i.src in
    let same = subst (λ (y : ℤ). IfOk (kind.combined decls w code y s a (effects.operand k i s)) (λ x. Yields decls ps a p (effects.operand k i s) q old new x c (λ x t. pointers.combined w code y x t))) at
    (subst (λ (y : Kind). IfOk (kind.combined decls w code z s a y) (λ x. Yields decls ps a p y q old new x c (λ x t. pointers.combined w code z x t))) is yields) in
    ok_map (kind.combined decls w code i.offset s a (effects.operand k i s)) (λ x. Yields decls ps a p (effects.operand k i s) q old new x c (λ x t. pointers.combined w code i.offset x t))
    (λ x. Gives decls ps node k h old new x c (λ m. given refs m i (Alu w code s)))
    (λ x y. gives_yielded decls ps node k h a p (effects.operand k i s) q old new x c (λ x t. pointers.combined w code i.offset x t) (λ m. register m.registers i.dst) (λ m. machine.operand m.registers i s)
    (λ packet v m known. (register_read decls packet v ps node k h m i.dst known dst, operand_read decls packet v ps node k h m i s fits known src)) y)
    same

-- the same of an operation that is known
pub give_as : (decls : List MapDecl) (ps : List PointerView) (refs : List ℕ) (node : ℕ) (is_ref : Bool) (k : Kinds) (h : RegisterCells) (i : Insn) (old new : List CellView) (c : ℕ) (op known : Op) → op ≡ known
    → IfOk (given_kind is_ref decls k i known) (λ x. Gives decls ps node k h old new x c (λ m. given refs m i known))
    → IfOk (given_kind is_ref decls k i op) (λ x. Gives decls ps node k h old new x c (λ m. given refs m i op))
give_as decls ps refs node is_ref k h i old new c op known e gives =
    subst (λ (o : Op). IfOk (given_kind is_ref decls k i o) (λ x. Gives decls ps node k h old new x c (λ m. given refs m i o))) (sym e) gives

-- a constant is known
pub gives_constant : (decls : List MapDecl) (ps : List PointerView) (node : ℕ) (is_ref : Bool) (k : Kinds) (h : RegisterCells) (old : List CellView) (z : ℤ) (c : ℕ) (made : Machine → Option Value)
    → Gives decls ps node k h old old (edges.constant is_ref z) c made
gives_constant decls ps node true k h old z c made = record { grows = grown_none; counts = tt; holds = λ packet v m y run known e. tt }
gives_constant decls ps node false k h old z c made = record { grows = grown_none; counts = tt; holds = λ packet v m y run known e. tt }

-- of what is given by no cells a constant alone is a value
pub only_constant : (decls : List MapDecl) (is_ref : Bool) (k : Kinds) (i : Insn) (P : Op → Kind → Type 0) (op : Op)
    → ((w : Width) (code : AluCode) (s : Src) → op ≢ Alu w code s) → ((w : Width) → op ≢ Neg w) → ((s : Src) → op ≢ ops.End s) → op ≢ Swap → ((size : Size) → (op ≢ Load size) × (op ≢ LoadSigned size))
    → P LoadImm (edges.constant is_ref i.imm) → IfOk (given_kind is_ref decls k i op) (P op)
only_constant decls is_ref k i P (Alu w code s) a b d e f h = absurd (a w code s refl)
only_constant decls is_ref k i P (Neg w) a b d e f h = absurd (b w refl)
only_constant decls is_ref k i P (ops.End s) a b d e f h = absurd (d s refl)
only_constant decls is_ref k i P Swap a b d e f h = absurd (e refl)
only_constant decls is_ref k i P (Load size) a b d e f h = absurd ((f size).0 refl)
only_constant decls is_ref k i P (LoadSigned size) a b d e f h = absurd ((f size).1 refl)
only_constant decls is_ref k i P LoadImm a b d e f h = h
only_constant decls is_ref k i P op a b d e f h = tt

pub gives_nothing : (decls : List MapDecl) (ps : List PointerView) (refs : List ℕ) (node : ℕ) (is_ref : Bool) (k : Kinds) (h : RegisterCells) (i : Insn) (old : List CellView) (c : ℕ) (op : Op)
    → ((w : Width) (code : AluCode) (s : Src) → op ≢ Alu w code s) → ((w : Width) → op ≢ Neg w) → ((s : Src) → op ≢ ops.End s) → op ≢ Swap → ((size : Size) → (op ≢ Load size) × (op ≢ LoadSigned size))
    → IfOk (given_kind is_ref decls k i op) (λ x. Gives decls ps node k h old old x c (λ m. given refs m i op))
gives_nothing decls ps refs node is_ref k h i old c op a b d e f =
    only_constant decls is_ref k i (λ o x. Gives decls ps node k h old old x c (λ m. given refs m i o)) op a b d e f (gives_constant decls ps node is_ref k h old i.imm c (λ m. given refs m i LoadImm))
