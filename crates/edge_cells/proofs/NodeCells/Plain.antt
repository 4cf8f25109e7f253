-- The cells of an instruction that does nothing to a map operate with no site.
use Rattle.std.proofs.Common.{◌≡◌, ℕ, ℤ, inl, inr, false, Some, None, List, [], refl, sym, ◌∙◌, subst, Option}
use Rattle.std.specs.Int.{w64, cast_unsigned}
use Rattle.std.proofs.lemmas.List.{append-nil}
use Rattle.std.proofs.lemmas.List.Elements.{All-nil}
use Rattle.xdp_machine.specs.bpf_isa.declared.operation.Op.{Op}
use Rattle.xdp_machine.specs.bpf_isa.declared.operation.Op.TheVariants.{Call, LoadImm, Load, LoadSigned, Abs, Ind, StoreImm, Store, Atomic}
use Rattle.xdp_machine.specs.bpf_isa.declared.operation.Size.{Size}
use Rattle.xdp_machine.specs.bpf_isa.declared.instruction.Insn.{Insn}
use Rattle.xdp_machine.specs.bpf_isa.declared.helper.Helper.{Helper}
use Rattle.xdp_machine.specs.bpf_isa.declared.helper.Helper.TheVariants.{Lookup, Update, Delete, Time, Redirect}
use Rattle.xdp_machine.specs.bpf_isa.Helpers.{helper_of}
use Rattle.xdp_machine.specs.xdp_maps.declared.decl.MapDecl.{MapDecl}
use Rattle.xdp_machine.specs.xdp_maps.State.{MapState}
use Rattle.xdp_machine.specs.Values.{Value, Number}
use Rattle.xdp_machine.specs.State.{Machine}
use Rattle.xdp_machine.specs.State as machine
use Rattle.xdp_machine.specs.Step.{effect}
use Rattle.xdp_machine.specs.Step as step
use Rattle.kind_core.specs.declared.kind.Kind.{Kind}
use Rattle.kind_core.specs.declared.kind.Kind.TheVariants.{Packet, Var, Stack, Ctx, Entry}
use Rattle.kind_core.specs.declared.kind.Kinds.{Kinds}
use Rattle.kind_core.specs.Kinds.{register}
use Rattle.kind_core.specs.Tests.{◌>>=◌, passed}
use Rattle.kind_core.specs.Describes.{World, Describes, DescribesMachine}
use Rattle.kind_core.specs.Access.{loaded, loaded_plain, loaded_signed, stored}
use Rattle.kind_core.specs.Calls.{called}
use Rattle.kind_core.specs.Effects.{effect_as, verdict, immediate}
use Rattle.kind_core.proofs.AllowedLaws.{not_allowed, allowed_as}
use Rattle.operator_cells.proofs.MakingLaws.{reads_none}
use Rattle.operator_cells.specs.HeldCells.Steps.{ReadsOwn}
use Rattle.edge_cells.specs.NodeCells.Carrying.{is_entry, is_map_helper, touches_map, CarriesOperate}
use Rattle.edge_cells.proofs.NodeCells.Unmapped.{Stays, AsksNone, IsBase, registers_keep, no_access, no_store, store_keeps, call_stays}

-- kinds of pointers through which an access may be
abbrev IsWay : Kind → Type 0
IsWay (Packet o) = Unit {0}
IsWay (Var b f) = Unit {0}
IsWay (Stack o) = Unit {0}
IsWay (Entry q o) = Unit {0}
IsWay Ctx = Unit {0}
IsWay x = ⊥

load_way : (decls : List MapDecl) (k : Kinds) (x : Kind) (offset : ℤ) (size : Size) (f : Kind → _) → verdict (loaded_plain decls k x offset size >>= f) ≡ passed → IsWay x
unfolding loaded_plain loaded
load_way decls k (Packet o) offset size f e = tt
load_way decls k (Var b z) offset size f e = tt
load_way decls k (Stack o) offset size f e = tt
load_way decls k (Entry q o) offset size f e = tt
load_way decls k Ctx offset size f e = tt
load_way decls k x offset size f e = not_allowed ⊥ _ e

signed_way : (decls : List MapDecl) (k : Kinds) (x : Kind) (offset : ℤ) (size : Size) (f : Kind → _) → verdict (loaded_signed decls k x offset size >>= f) ≡ passed → IsWay x
unfolding loaded_signed loaded
signed_way decls k (Packet o) offset size f e = tt
signed_way decls k (Var b z) offset size f e = tt
signed_way decls k (Stack o) offset size f e = tt
signed_way decls k (Entry q o) offset size f e = tt
signed_way decls k Ctx offset size f e = tt
signed_way decls k x offset size f e = not_allowed ⊥ _ e

store_way : (decls : List MapDecl) (k : Kinds) (x : Kind) (offset : ℤ) (size : Size) (y : Kind) → verdict (stored decls k x offset size y) ≡ passed → IsWay x
unfolding stored
store_way decls k (Packet o) offset size y e = tt
store_way decls k (Var b z) offset size y e = tt
store_way decls k (Stack o) offset size y e = tt
store_way decls k (Entry q o) offset size y e = tt
store_way decls k Ctx offset size y e = tt
store_way decls k x offset size y e = not_allowed ⊥ _ e

-- what such a kind describes
based : (w : World) (maps : MapState) (x : Kind) (v : Value) → is_entry x ≡ false → IsWay x → Describes w maps x v → IsBase v
based w maps (Packet o) v t way d = subst IsBase (sym d) tt
based w maps (Var b z) v t way d = subst IsBase (sym d.value) tt
based w maps (Stack o) v t way d = subst IsBase (sym d) tt
based w maps Ctx v t way d = subst IsBase (sym d) tt
based w maps (Entry q o) v t way d = absurd (cc t)
based w maps x v t way d = absurd way

-- a call that is allowed and asks no map
asks_one : (decls : List MapDecl) (k : Kinds) (id : ℤ) (h : Option Helper) → is_map_helper h ≡ false → verdict (called decls k id h) ≡ passed → AsksNone h
asks_one decls k id (Some Lookup) t v = absurd (cc t)
asks_one decls k id (Some Update) t v = absurd (cc t)
asks_one decls k id (Some Delete) t v = absurd (cc t)
asks_one decls k id (Some Time) t v = inl refl
asks_one decls k id (Some Redirect) t v = inr refl
asks_one decls k id None t v = not_allowed (AsksNone None) _ v

-- by the operation
stays_as : (decls : List MapDecl) (w : World) (refs : List ℕ) (k : Kinds) (m n : Machine) (i : Insn) (op : Op) → DescribesMachine w k m → touches_map k i op ≡ false → verdict (effect_as decls k i op) ≡ passed → effect refs m i op ≡ Some n
    → Stays m n i op
stays_as decls w refs k m n i (Load size) d t v e =
    let base : IsBase (machine.register m.registers i.src) = based w m.maps (register k i.src) (machine.register m.registers i.src) t (load_way decls k (register k i.src) i.offset size _ v) (d.registers i.src) in
    record { maps = registers_keep m n _ e; none = no_access m.maps (machine.register m.registers i.src) i.offset size _ base }
stays_as decls w refs k m n i (LoadSigned size) d t v e =
    let base : IsBase (machine.register m.registers i.src) = based w m.maps (register k i.src) (machine.register m.registers i.src) t (signed_way decls k (register k i.src) i.offset size _ v) (d.registers i.src) in
    record { maps = registers_keep m n _ e; none = no_access m.maps (machine.register m.registers i.src) i.offset size _ base }
stays_as decls w refs k m n i (StoreImm size) d t v e =
    let base : IsBase (machine.register m.registers i.dst) = based w m.maps (register k i.dst) (machine.register m.registers i.dst) t (store_way decls k (register k i.dst) i.offset size (immediate i) v) (d.registers i.dst) in
    record { maps = store_keeps m n (machine.register m.registers i.dst) i.offset size (Number (cast_unsigned w64 i.imm)) base e; none = no_store m (machine.register m.registers i.dst) i.offset size (Number (cast_unsigned w64 i.imm)) base }
stays_as decls w refs k m n i (Store size) d t v e =
    let base : IsBase (machine.register m.registers i.dst) = based w m.maps (register k i.dst) (machine.register m.registers i.dst) t (store_way decls k (register k i.dst) i.offset size (register k i.src) v) (d.registers i.dst) in
    record { maps = store_keeps m n (machine.register m.registers i.dst) i.offset size (machine.register m.registers i.src) base e; none = no_store m (machine.register m.registers i.dst) i.offset size (machine.register m.registers i.src) base }
stays_as decls w refs k m n i Call d t v e = call_stays m n i (asks_one decls k i.imm (helper_of i.imm) t v) e
stays_as decls w refs k m n i LoadImm d t v e = record { maps = registers_keep m n (step.assigned m.registers i (step.constant refs m.place i)) e; none = refl }
stays_as decls w refs k m n i (Atomic size) d t v e = absurd (cc t)
stays_as decls w refs k m n i (Abs size) d t v e = absurd (cc e)
stays_as decls w refs k m n i (Ind size) d t v e = absurd (cc e)
stays_as decls w refs k m n i op d t v e = record { maps = registers_keep m n (step.alu m.registers i op) e; none = refl }

pub carries_operate : CarriesOperate
carries_operate decls ps i node guard is_ref taken k h next old new sites plain allowed c = record {
  grows = reads_none (ReadsOwn sites sites) old new c.grows;
  more_pointers = [];
  pointers_are = sym (append-nil ps);
  more = [];
  sites_are = sym (append-nil sites);
  own = All-nil _;
  fits = All-nil _;
  below = All-nil _;
  inside = c.inside;
  holds = λ packet maps v m n refs run read on is known at e.
      let stays = stays_as decls known.world refs k m n i i.op known.stands.described plain (allowed_as decls k i allowed) e in
      (c.holds packet v m n refs run known at e, is ∙ sym stays.maps, stays.none);
}
