-- What leaves a node, by the instruction at its place.
use Rattle.std.proofs.Common.{◌≡◌, ℕ, List, get_or, Option, Some, None, Result, Ok, Err, sym, ◌∙◌, ap, subst}
use Rattle.std.specs.declared.vec.Vec.{Vec}
use Rattle.std.specs.declared.alloc.Global.{Global}
use Rattle.xdp_machine.specs.bpf_isa.declared.instruction.Insn.{Insn}
use Rattle.xdp_machine.specs.xdp_maps.declared.decl.MapDecl.{MapDecl}
use Rattle.xdp_machine.specs.Program.{XdpProgram}
use Rattle.xdp_state.specs.declared.refusal.Why.{Why}
use Rattle.xdp_state.specs.declared.refusal.Why.TheVariants as why
use Rattle.xdp_state.specs.declared.refusal.BuildError.{BuildError}
use Rattle.xdp_state.specs.declared.refusal.BuildError.TheVariants.{Refused}
use Rattle.kind_core.specs.Effects.{effect_of, verdict}
use Rattle.unfold_core.specs.declared.nesting.Loop.{Loop}
use Rattle.unfold_core.specs.declared.edges.Point.{Point}
use Rattle.unfold_core.specs.Units.{AreUnits}
use Rattle.unfold_core.specs.Edges.{edges_of, if_allowed, leaving_by, leaving, Leaves}

leaving_is : (p : XdpProgram) (ls : List Loop) (number : ℕ) (at : Point) (units : List (Option Insn)) (place : ℕ) (o : Option Insn) → AreUnits p.insns units → place ≡ at.node.place → o ≡ get_or units place None
    → leaving p ls number at ≡ leaving_by p ls number at o
unfolding leaving
leaving_is p ls number at units place o u e f = ap (leaving_by p ls number at) (sym (u.same at.node.place) ∙ ap (λ x. get_or units x None) (sym e) ∙ sym f)

pub leaves_edges : (p : XdpProgram) (ls : List Loop) (number : ℕ) (at : Point) (units : List (Option Insn)) (place : ℕ) (i : Insn) (ds : List MapDecl) (u : Unit {0}) (r : Result (Vec Point Global) BuildError)
    → AreUnits p.insns units → place ≡ at.node.place → Some i ≡ get_or units place None → ds ≡ p.decls → Ok u ≡ verdict (effect_of ds at.kinds i) → Leaves at.node.place (edges_of p ls number at i) r
    → Leaves at.node.place (leaving p ls number at) r
leaves_edges p ls number at units place i ds u r are e f g h k =
    subst (λ w. Leaves at.node.place w r)
    (sym (leaving_is p ls number at units place (Some i) are e f ∙ ap (λ t. if_allowed t (edges_of p ls number at i)) (ap (λ d. verdict (effect_of d at.kinds i)) (sym g) ∙ sym h))) k

pub leaves_refused : (p : XdpProgram) (ls : List Loop) (number : ℕ) (at : Point) (units : List (Option Insn)) (place : ℕ) (i : Insn) (ds : List MapDecl) (w : Why) (e : BuildError)
    → AreUnits p.insns units → place ≡ at.node.place → Some i ≡ get_or units place None → ds ≡ p.decls → Err w ≡ verdict (effect_of ds at.kinds i) → e ≡ Refused (record { at = place; why = w })
    → Leaves at.node.place (leaving p ls number at) (Err e)
leaves_refused p ls number at units place i ds w e are same f g h k =
    subst (λ x. Leaves at.node.place (leaving p ls number at) (Err x)) (sym k)
    (leaving_is p ls number at units place (Some i) are same f ∙ ap (λ t. if_allowed t (edges_of p ls number at i)) (ap (λ d. verdict (effect_of d at.kinds i)) (sym g) ∙ sym h), same)

pub leaves_nothing : (p : XdpProgram) (ls : List Loop) (number : ℕ) (at : Point) (units : List (Option Insn)) (place : ℕ) (e : BuildError)
    → AreUnits p.insns units → place ≡ at.node.place → None ≡ get_or units place None → e ≡ Refused (record { at = place; why = why.Jump })
    → Leaves at.node.place (leaving p ls number at) (Err e)
leaves_nothing p ls number at units place e are same f k =
    subst (λ x. Leaves at.node.place (leaving p ls number at) (Err x)) (sym k) (leaving_is p ls number at units place None are same f, same)
