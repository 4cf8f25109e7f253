-- Which instruction an allowed one is.
use Rattle.std.proofs.Common.{◌≡◌, ℕ, pos, ◌+◌, ◌+ℤ◌, Bool, true, false, not, if◌then◌else◌, None, Result, Ok, Err, List, refl, subst, Option, Some}
use Rattle.std.specs.Prelude.{nat_le, int_le, is_some}
use Rattle.xdp_machine.specs.bpf_isa.declared.operation.Op.{Op}
use Rattle.xdp_machine.specs.bpf_isa.declared.operation.Op.TheVariants.{Alu, Neg, End, Swap, Ja, Jump, Call, Exit, LoadImm, Load, LoadSigned, Abs, Ind, StoreImm, Store, Atomic}
use Rattle.xdp_machine.specs.bpf_isa.declared.operation.Size.{Size}
use Rattle.xdp_machine.specs.bpf_isa.declared.instruction.Insn.{Insn}
use Rattle.xdp_machine.specs.bpf_isa.declared.helper.Helper.{Helper}
use Rattle.xdp_machine.specs.bpf_isa.declared.helper.Helper.TheVariants.{Lookup, Update, Delete, Time, Redirect}
use Rattle.xdp_machine.specs.bpf_isa.Helpers.{helper_of}
use Rattle.xdp_machine.specs.xdp_maps.declared.decl.MapDecl.{MapDecl}
use Rattle.kind_core.specs.declared.kind.Kind.{Kind}
use Rattle.kind_core.specs.declared.kind.Kind.TheVariants.{Packet, Var, Stack, Entry}
use Rattle.kind_core.specs.declared.kind.Kinds.{Kinds}
use Rattle.xdp_state.specs.declared.refusal.Why.{Why}
use Rattle.kind_core.specs.Kinds.{register}
use Rattle.kind_core.specs.Tests.{◌>>=◌, passed, within, aligned}
use Rattle.kind_core.specs.Places.{accessed}
use Rattle.xdp_machine.specs.Memory.{bytes_in}
use Rattle.kind_core.specs.Access.{changed_at}
use Rattle.kind_core.specs.Calls.{called}
use Rattle.kind_core.specs.Effects.{effect_of, effect_as, verdict}
use Rattle.kind_core.proofs.AllowedLaws.{not_allowed, allowed_as}
use Rattle.register_cells.specs.Plain.{asks_no_map, is_plain_as}
use Rattle.register_cells.specs.Plain as plain
use Rattle.edge_cells.specs.NodeCells.Carrying.{is_entry, is_map_helper, touches_map}
use Rattle.edge_cells.specs.NodeCells.Ends.{leads_on}

-- ---- instructions that ask no map

not_entry : (x : Kind) → not (plain.is_entry x) ≡ true → is_entry x ≡ false
not_entry (Entry q o) t = absurd (cc t)
not_entry x t = refl

asks_none : (h : Option Helper) → asks_no_map h ≡ true → is_map_helper h ≡ false
asks_none (Some Lookup) t = absurd (cc t)
asks_none (Some Update) t = absurd (cc t)
asks_none (Some Delete) t = absurd (cc t)
asks_none (Some Time) t = refl
asks_none (Some Redirect) t = refl
asks_none None t = absurd (cc t)

pub plain_untouched : (k : Kinds) (i : Insn) (op : Op) → is_plain_as k i op ≡ true → touches_map k i op ≡ false
plain_untouched k i (Load size) t = not_entry (register k i.src) t
plain_untouched k i (LoadSigned size) t = not_entry (register k i.src) t
plain_untouched k i (StoreImm size) t = not_entry (register k i.dst) t
plain_untouched k i (Store size) t = not_entry (register k i.dst) t
plain_untouched k i Call t = asks_none (helper_of i.imm) t
plain_untouched k i (Atomic size) t = absurd (cc t)
plain_untouched k i op t = refl

-- ---- instructions that ask one

-- an allowed call is one of a helper that the machine has
pub allowed_known : (decls : List MapDecl) (k : Kinds) (i : Insn) → i.op ≡ Call → verdict (effect_of decls k i) ≡ passed → is_some (helper_of i.imm) ≡ true
allowed_known decls k i op allowed = by (helper_of i.imm) (subst (λ (o : Op). verdict (effect_as decls k i o) ≡ passed) op (allowed_as decls k i allowed))
  where
    by : (h : Option Helper) → verdict (called decls k i.imm h) ≡ passed → is_some h ≡ true
    by (Some h) w = refl
    by None w = absurd (not_allowed ⊥ _ w)

-- a helper that asks a map, and neither looks up nor updates
pub delete_alone : (h : Helper) → asks_no_map (Some h) ≡ false → (h ≡ Lookup → ⊥) → (h ≡ Update → ⊥) → h ≡ Delete
delete_alone Lookup asks one two = absurd (one refl)
delete_alone Update asks one two = absurd (two refl)
delete_alone Delete asks one two = refl
delete_alone Time asks one two = absurd (cc asks)
delete_alone Redirect asks one two = absurd (cc asks)

-- what follows two tests is refused, whatever the first finds
refused_behind : {A B : Type 0} (r : Result A Why) (h : A → Result B Why) (f : B → _) → ((a : A) → verdict (h a >>= f) ≡ passed → ⊥) → verdict ((r >>= h) >>= f) ≡ passed → ⊥
refused_behind (Ok a) h f bad e = bad a e
refused_behind (Err y) h f bad e = not_allowed ⊥ y e

refused_either : {B : Type 0} (b : Bool) (x y : Result B Why) (f : B → _) → (verdict (x >>= f) ≡ passed → ⊥) → (verdict (y >>= f) ≡ passed → ⊥) → verdict ((if b then x else y) >>= f) ≡ passed → ⊥
refused_either true x y f first second e = first e
refused_either false x y f first second e = second e

-- an atomic change that is allowed is one of an entry
pub entry_changed : (decls : List MapDecl) (k : Kinds) (i : Insn) (size : Size) → i.op ≡ Atomic size → verdict (effect_of decls k i) ≡ passed → (q : ℕ) × (o : ℕ) × (register k i.dst ≡ Entry q o)
entry_changed decls k i size op allowed = by (register k i.dst) (subst (λ (o : Op). verdict (effect_as decls k i o) ≡ passed) op (allowed_as decls k i allowed))
  where
    by : (x : Kind) → verdict (accessed decls k.checked x i.offset size >>= λ place. changed_at k i place) ≡ passed → (q : ℕ) × (o : ℕ) × (x ≡ Entry q o)
    by (Entry q o) e = (q, o, refl)
    by (Packet o) e = absurd (refused_behind (within (pos o +ℤ i.offset) (bytes_in size) 256) _ _ (λ a. refused_either (nat_le (a + bytes_in size) k.checked) _ _ _ (not_allowed ⊥ _) (not_allowed ⊥ _)) e)
    by (Var b f) e = absurd (refused_behind (within (pos b.bounds.low +ℤ (f +ℤ i.offset)) 0 256) _ _ (λ u. refused_behind (within (pos b.bounds.high +ℤ (f +ℤ i.offset)) (bytes_in size) 256) _ _ (λ a.
        refused_either (int_le ((f +ℤ i.offset) +ℤ pos (bytes_in size)) b.checked) _ _ _ (not_allowed ⊥ _) (not_allowed ⊥ _))) e)
    by (Stack o) e = absurd (refused_behind (aligned ((o +ℤ i.offset) +ℤ pos 512) (bytes_in size) 512) _ _ (λ a. not_allowed ⊥ _) e)
    by x e = absurd (not_allowed ⊥ _ e)

-- an operation that is none of these
pub record IsOther (op : Op) : Type 0 where
  pub call : op ≡ Call → ⊥
  pub load : (size : Size) → op ≡ Load size → ⊥
  pub load_signed : (size : Size) → op ≡ LoadSigned size → ⊥
  pub store_imm : (size : Size) → op ≡ StoreImm size → ⊥
  pub store : (size : Size) → op ≡ Store size → ⊥
  pub atomic : (size : Size) → op ≡ Atomic size → ⊥

-- an allowed instruction that leads on is plain, a call, or one of the accesses
pub none_other : (decls : List MapDecl) (k : Kinds) (i : Insn) → leads_on i.op ≡ true → IsOther i.op → is_plain_as k i i.op ≡ false → verdict (effect_of decls k i) ≡ passed → ⊥
none_other decls k i leads other plain allowed = by i.op leads other plain (allowed_as decls k i allowed)
  where
    by : (op : Op) → leads_on op ≡ true → IsOther op → is_plain_as k i op ≡ false → verdict (effect_as decls k i op) ≡ passed → ⊥
    by (Alu w c s) l o p e = absurd (cc p)
    by (Neg w) l o p e = absurd (cc p)
    by (End s) l o p e = absurd (cc p)
    by Swap l o p e = absurd (cc p)
    by LoadImm l o p e = absurd (cc p)
    by (Ja w) l o p e = absurd (cc l)
    by (Jump w c s) l o p e = absurd (cc l)
    by Exit l o p e = absurd (cc l)
    by Call l o p e = o.call refl
    by (Load size) l o p e = o.load size refl
    by (LoadSigned size) l o p e = o.load_signed size refl
    by (StoreImm size) l o p e = o.store_imm size refl
    by (Store size) l o p e = o.store size refl
    by (Atomic size) l o p e = o.atomic size refl
    by (Abs size) l o p e = not_allowed ⊥ _ e
    by (Ind size) l o p e = not_allowed ⊥ _ e
