-- Kinds of the registers and of the slots of the stack.
use Rattle.std.specs.Prelude.{ℕ, pos, List, [], ◌∷◌, get_or, slice_get, slice_set, replicate, drop, Bool, true, false, Option, Some, None}
use Rattle.xdp_machine.specs.xdp_maps.declared.decl.MapDecl.{MapDecl}
use Rattle.xdp_machine.specs.xdp_maps.declared.decl.MapKind.{MapKind}
use Rattle.xdp_machine.specs.xdp_maps.declared.decl.MapKind.TheVariants.{Hash, Array}
use Rattle.kind_core.specs.declared.number.Number.TheVariants.{Known}
use Rattle.kind_core.specs.declared.kind.Kind.{Kind}
use Rattle.kind_core.specs.declared.kind.Kind.TheVariants.{Unset, Num, Stack, Ctx}
use Rattle.kind_core.specs.declared.kind.Kinds.{Kinds}
use Rattle.kind_core.specs.declared.kind.Offsets.{Offsets}

abbrev pub register : Kinds → ℕ → Kind
register k r = get_or k.registers r Unset

abbrev pub with_register : Kinds → ℕ → Kind → Kinds
with_register k r x = record k { registers = slice_set k.registers r x }

abbrev pub with_slot : Kinds → ℕ → Kind → Kinds
with_slot k s x = record k { slots = slice_set k.slots s x }

-- an answer is in R0, and R1 to R5 hold nothing any more
abbrev pub answering : Kind → Kinds → Kinds
answering x k = record k { registers = x ∷ Unset ∷ Unset ∷ Unset ∷ Unset ∷ Unset ∷ drop 6 k.registers }

-- At the start R1 is the context and R10 the end of the stack, which holds zeros.
abbrev pub first_registers : List Kind
first_registers = Unset ∷ Ctx ∷ Unset ∷ Unset ∷ Unset ∷ Unset ∷ Unset ∷ Unset ∷ Unset ∷ Unset ∷ Stack (pos 0) ∷ []

abbrev pub start : Offsets → Kinds
start offsets = record { registers = first_registers; slots = replicate 64 (Num (Known 0)); checked = 0; offsets = offsets }

-- the bytes of a map's keys and values, and whether it is a hash; a map that is not declared has neither
abbrev pub key_in : Option MapDecl → ℕ
key_in (Some d) = d.key
key_in None = 0

abbrev pub value_in : Option MapDecl → ℕ
value_in (Some d) = d.value
value_in None = 0

abbrev pub is_hash_kind : MapKind → Bool
is_hash_kind Hash = true
is_hash_kind Array = false

abbrev pub hash_in : Option MapDecl → Bool
hash_in (Some d) = is_hash_kind d.kind
hash_in None = false

abbrev pub key_bytes : List MapDecl → ℕ → ℕ
key_bytes decls q = key_in (slice_get decls q)

abbrev pub value_bytes : List MapDecl → ℕ → ℕ
value_bytes decls q = value_in (slice_get decls q)

abbrev pub is_hash : List MapDecl → ℕ → Bool
is_hash decls q = hash_in (slice_get decls q)
