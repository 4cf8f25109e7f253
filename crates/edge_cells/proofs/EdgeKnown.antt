-- What is known and held along the edges of a jump, and at ends.
use Rattle.std.proofs.Common.{◌≡◌, ℕ, pos, ◌^◌, ◌<◌, ◌≤◌, ◌⊎◌, inl, inr, List, length, refl, sym, ◌∙◌, ap, subst, arith}
use Rattle.std.specs.Prelude.{All, slice_index}
use Rattle.std.proofs.lemmas.Int.{ints}
use Rattle.std.proofs.lemmas.Bool.{cases_lt}
use Rattle.std.proofs.lemmas.List.{get_or_past}
use Rattle.xdp_machine.specs.bpf_isa.declared.operation.Src.{Src}
use Rattle.xdp_machine.specs.bpf_isa.declared.operation.Src.TheVariants.{K, X}
use Rattle.xdp_machine.specs.bpf_isa.declared.instruction.Insn.{Insn}
use Rattle.xdp_machine.specs.xdp_maps.declared.decl.MapDecl.{MapDecl}
use Rattle.xdp_machine.specs.xdp_maps.State.{MapState}
use Rattle.xdp_machine.specs.Arithmetic.{low}
use Rattle.xdp_machine.specs.Values.{Value}
use Rattle.xdp_machine.specs.Values as is
use Rattle.xdp_machine.specs.State.{Machine, PacketIn}
use Rattle.xdp_machine.specs.State as machine
use Rattle.xdp_machine.specs.Ranges.{InRange}
use Rattle.xdp_machine.specs.Step as step
use Rattle.xdp_machine.specs.Step.{exits, Ends}
use Rattle.kind_core.specs.declared.number.Number.TheVariants.{Known, Between}
use Rattle.kind_core.specs.declared.kind.Kind.{Kind}
use Rattle.kind_core.specs.declared.kind.Kind.TheVariants.{Num, Packet, End, Maybe, Entry}
use Rattle.kind_core.specs.declared.kind.Kinds.{Kinds}
use Rattle.kind_core.specs.Kinds.{register}
use Rattle.kind_core.specs.Effects.{operand}
use Rattle.kind_core.specs.Describes.{World, Describes}
use Rattle.operator_cells.specs.declared.held_cells.machine_cells.RegisterCells.{RegisterCells}
use Rattle.operator_cells.specs.HeldCells.RegisterCells.{PointerView, Holds, number_of}
use Rattle.operator_cells.specs.HeldCells.Carrying.{IsKnown}
use Rattle.edge_cells.specs.Testing.{IsRead}
use Rattle.edge_cells.specs.Leaving.{operand_held, JumpsAreTested, EndsAreLeft}

-- ---- what is read

in-range : (decls : List MapDecl) (xs : List Value) (r : ℕ) → All (InRange decls) xs → InRange decls (machine.register xs r)
in-range decls xs r all = by (cases_lt r (length xs))
  where
    by : (r < length xs) ⊎ (length xs ≤ r) → InRange decls (machine.register xs r)
    by (inl l) = all r is.Unset l
    by (inr l) = subst (InRange decls) (sym (get_or_past xs r is.Unset l)) tt

place-short : (decls : List MapDecl) (o : ℕ) (x : Value) → x ≡ is.Packet (pos o) → InRange decls x → o < 2 ^ 63
place-short decls o x e h = let f = subst (InRange decls) e h in omega (arith, ints, f)

read : (w : World) (maps : MapState) (decls : List MapDecl) (packet : PacketIn) (v : ℕ → ℕ) (ps : List PointerView) (k : Kind) (c : ℕ) (x : Value) → w.frame ≡ length packet.frame → InRange decls x
    → Describes w maps k x → Holds decls v ps k c x → IsRead decls packet v ps k c x
read w maps decls packet v ps (Num (Known n)) c x f r d h = d
read w maps decls packet v ps (Num (Between lo hi)) c x f r d h = h
read w maps decls packet v ps (Packet o) c x f r d h = (d, place-short decls o x d r)
read w maps decls packet v ps End c x f r d h = let e : x ≡ is.Packet (pos (length packet.frame)) = d ∙ ap (λ (n : ℕ). is.Packet (pos n)) f in (e, place-short decls (length packet.frame) x e r)
read w maps decls packet v ps (Maybe q n) c x f r d h = h
read w maps decls packet v ps (Entry q o) c x f r d h = h
read w maps decls packet v ps k c x f r d h = tt

pub register_read : (decls : List MapDecl) (packet : PacketIn) (v : ℕ → ℕ) (ps : List PointerView) (node : ℕ) (k : Kinds) (h : RegisterCells) (m : Machine) (r : ℕ) → r ≤ 10 → IsKnown decls packet v ps node k h m
    → IsRead decls packet v ps (register k r) (slice_index h.registers r) (machine.register m.registers r)
register_read decls packet v ps node k h m r l known =
    read known.world m.maps decls packet v ps (register k r) (slice_index h.registers r) (machine.register m.registers r) (sym known.stands.described.frame ∙ known.held.length_is)
    (subst (λ (ds : List MapDecl). InRange ds (machine.register m.registers r)) known.decls_are (in-range m.maps.decls m.registers r known.in_range.registers))
    (known.stands.described.registers r) (known.held.registers r l)

operand-read : (decls : List MapDecl) (packet : PacketIn) (v : ℕ → ℕ) (ps : List PointerView) (node : ℕ) (k : Kinds) (h : RegisterCells) (m : Machine) (i : Insn) (s : Src) → i.src ≤ 10 → IsKnown decls packet v ps node k h m
    → IsRead decls packet v ps (operand k i s) (operand_held h i s) (step.operand m.registers i s)
operand-read decls packet v ps node k h m i K l known = refl
operand-read decls packet v ps node k h m i X l known = register_read decls packet v ps node k h m i.src l known

pub jumps_are_tested : JumpsAreTested
jumps_are_tested decls packet v ps node k h m i w c s old new condition taken tests run known dst src cmp =
    tests.value decls packet v (machine.register m.registers i.dst) (step.operand m.registers i s) taken run
    (register_read decls packet v ps node k h m i.dst dst known) (operand-read decls packet v ps node k h m i s src known) cmp

-- ---- ends

pub ends_are_left : EndsAreLeft
ends_are_left decls packet v ps node k x m verdict known kind h = record {
  verdict = verdict-is;
  target = known.held.target;
  length_is = known.held.length_is;
  window = known.held.window;
  rest = known.held.rest;
}
  where
    number : machine.register m.registers 0 ≡ is.Number (number_of v x.verdict (slice_index x.held.registers 0))
    number = subst (λ (y : Kind). IsRead decls packet v ps y (slice_index x.held.registers 0) (machine.register m.registers 0)) kind (register_read decls packet v ps node k x.held m 0 (omega arith) known)

    verdict-is : verdict ≡ low 32 (number_of v x.verdict (slice_index x.held.registers 0))
    verdict-is =
        let all : Ends (low 32 (number_of v x.verdict (slice_index x.held.registers 0))) ≡ Ends verdict = ap (λ (y : Value). exits (is.number_in y)) (sym number) ∙ h in
        cc all
