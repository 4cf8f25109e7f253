-- Which conditions of allowed jumps are undecided.
use Rattle.std.proofs.Common.{◌≡◌, ℕ, ℤ, zero, suc, true, List, [], refl, sym, ◌∙◌, ap, subst}
use Rattle.std.specs.Prelude.{Bool, Ok, Err, Some, None}
use Rattle.xdp_machine.specs.bpf_isa.declared.operation.Width.{Width}
use Rattle.xdp_machine.specs.bpf_isa.declared.operation.Width.TheVariants.{Bits64}
use Rattle.xdp_machine.specs.bpf_isa.declared.operation.JumpCode.{JumpCode}
use Rattle.xdp_machine.specs.bpf_isa.declared.operation.JumpCode.TheVariants.{Jeq, Jne, Jgt, Jge, Jlt, Jle}
use Rattle.xdp_machine.specs.bpf_isa.declared.operation.Src.{Src}
use Rattle.xdp_machine.specs.bpf_isa.declared.operation.Src.TheVariants.{X}
use Rattle.xdp_machine.specs.bpf_isa.declared.operation.Op.{Op}
use Rattle.xdp_machine.specs.bpf_isa.declared.operation.Op.TheVariants.{Jump}
use Rattle.xdp_machine.specs.bpf_isa.declared.instruction.Insn.{Insn}
use Rattle.xdp_machine.specs.xdp_maps.declared.decl.MapDecl.{MapDecl}
use Rattle.kind_core.specs.declared.number.Number.{Number}
use Rattle.kind_core.specs.declared.number.Number.TheVariants.{Known, Between}
use Rattle.kind_core.specs.declared.kind.Kind.{Kind}
use Rattle.kind_core.specs.declared.kind.Kind.TheVariants.{Num, Packet, Var, End, Maybe, Entry}
use Rattle.kind_core.specs.declared.kind.Kinds.{Kinds}
use Rattle.kind_core.specs.declared.base.Base.{Base}
use Rattle.xdp_state.specs.declared.refusal.Why.{Why}
use Rattle.kind_core.specs.Kinds.{register}
use Rattle.kind_core.specs.Tests.{◌>>=◌, Test, passed}
use Rattle.kind_core.specs.Profile.{profiled}
use Rattle.kind_core.specs.Effects.{effect_of, effect_as, verdict, operand}
use Rattle.kind_core.specs.Edges.{decided_as}
use Rattle.edge_cells.specs.Testing.{is_open}
use Rattle.edge_cells.specs.Leaving.{UndecidedAreOpen}
use Rattle.edge_cells.proofs.JumpKindLaws.{two, on_two}

-- a jump that is refused is not allowed, and one that is decided not undecided
refused : {A : Type 0} {y : Why} → verdict (Err y) ≡ passed → A
refused h = absurd (cc h)

settled : {A : Type 0} {b : Bool} → Some b ≡ None → A
settled h = absurd (cc h)

abbrev IsOpen : Width → JumpCode → Kind → Kind → Type 0
IsOpen w c a b = verdict (effect_as [] (two a b) on_two (Jump w c X)) ≡ passed → decided_as (two a b) on_two (Jump w c X) ≡ None → is_open w c a b ≡ true

open-null : (c : JumpCode) (q n : ℕ) (y : Number) → IsOpen Bits64 c (Maybe q n) (Num y)
open-null Jeq q n (Known zero) v d = refl
open-null Jne q n (Known zero) v d = refl
open-null c q n (Known (suc a)) v d = refused v
open-null c q n (Between lo hi) v d = refused v
open-null c q n y v d = refused v

open-null-right : (c : JumpCode) (q n : ℕ) (y : Number) → IsOpen Bits64 c (Num y) (Maybe q n)
open-null-right Jeq q n (Known zero) v d = refl
open-null-right Jne q n (Known zero) v d = refl
open-null-right c q n (Known (suc a)) v d = refused v
open-null-right c q n (Between lo hi) v d = refused v
open-null-right c q n y v d = refused v

open-place : (c : JumpCode) (o : ℕ) → IsOpen Bits64 c (Packet o) End
open-place Jgt o v d = refl
open-place Jge o v d = refl
open-place Jlt o v d = refl
open-place Jle o v d = refl
open-place c o v d = refused v

open-end : (c : JumpCode) (o : ℕ) → IsOpen Bits64 c End (Packet o)
open-end Jgt o v d = refl
open-end Jge o v d = refl
open-end Jlt o v d = refl
open-end Jle o v d = refl
open-end c o v d = refused v

-- the same of a place at a distance from a base
open-base : (c : JumpCode) (b : Base) (f : ℤ) → IsOpen Bits64 c (Var b f) End
open-base Jgt b f v d = refl
open-base Jge b f v d = refl
open-base Jlt b f v d = refl
open-base Jle b f v d = refl
open-base c b f v d = refused v

open-from-end : (c : JumpCode) (b : Base) (f : ℤ) → IsOpen Bits64 c End (Var b f)
open-from-end Jgt b f v d = refl
open-from-end Jge b f v d = refl
open-from-end Jlt b f v d = refl
open-from-end Jle b f v d = refl
open-from-end c b f v d = refused v

-- any kind against a number: an entry is not null, and that is decided
open-left : (c : JumpCode) (a : Kind) (y : Number) → IsOpen Bits64 c a (Num y)
open-left c (Num x) y v d = refl
open-left c (Maybe q n) y v d = open-null c q n y v d
open-left Jeq (Entry q o) (Known zero) v d = settled d
open-left Jne (Entry q o) (Known zero) v d = settled d
open-left Jeq a (Known zero) v d = refused v
open-left Jne a (Known zero) v d = refused v
open-left c a (Known (suc n)) v d = refused v
open-left c a y v d = refused v

open-right : (c : JumpCode) (x : Number) (b : Kind) → IsOpen Bits64 c (Num x) b
open-right c x (Num y) v d = refl
open-right c x (Maybe q n) v d = open-null-right c q n x v d
open-right Jeq (Known zero) (Entry q o) v d = settled d
open-right Jne (Known zero) (Entry q o) v d = settled d
open-right Jeq (Known zero) b v d = refused v
open-right Jne (Known zero) b v d = refused v
open-right c (Known (suc n)) b v d = refused v
open-right c x b v d = refused v

open-on : (w : Width) (c : JumpCode) (a b : Kind) → IsOpen w c a b
open-on w c (Num x) (Num y) v d = refl
open-on Bits64 c a (Num y) v d = open-left c a y v d
open-on Bits64 c (Num x) b v d = open-right c x b v d
open-on Bits64 c (Packet o) End v d = open-place c o v d
open-on Bits64 c End (Packet o) v d = open-end c o v d
open-on Bits64 c (Var b f) End v d = open-base c b f v d
open-on Bits64 c End (Var b f) v d = open-from-end c b f v d
open-on w c a b v d = refused v

open-if : (decls : List MapDecl) (k : Kinds) (i : Insn) (w : Width) (c : JumpCode) (s : Src) (t : Test) → verdict (t >>= λ _. effect_as decls k i (Jump w c s)) ≡ passed
    → decided_as k i (Jump w c s) ≡ None → is_open w c (register k i.dst) (operand k i s) ≡ true
open-if decls k i w c s (Ok u) v d = open-on w c (register k i.dst) (operand k i s) v d
open-if decls k i w c s (Err y) v d = refused v

pub undecided_are_open : UndecidedAreOpen
unfolding effect_of
undecided_are_open decls k i w c s is ok d =
    open-if decls k i w c s (profiled i k)
    (subst (λ (op : Op). verdict (profiled i k >>= λ _. effect_as decls k i op) ≡ passed) is ok)
    (ap (decided_as k i) (sym is) ∙ d)
