-- No slot is unset on an edge where none is at the node that it leaves.
use Rattle.std.proofs.Common.{◌≡◌, ℕ, Bool, true, false, List, Option, Ok, Err, refl, sym, ◌∙◌, ap, subst}
use Rattle.std.specs.Prelude.{if◌then◌else◌}
use Rattle.std.proofs.lemmas.List.{get_or-replicate}
use Rattle.xdp_machine.specs.bpf_isa.declared.operation.Width.{Width}
use Rattle.xdp_machine.specs.bpf_isa.declared.operation.Op.{Op}
use Rattle.xdp_machine.specs.bpf_isa.declared.operation.Op.TheVariants.{Ja, Jump, Exit, LoadImm}
use Rattle.xdp_machine.specs.bpf_isa.declared.instruction.Insn.{Insn}
use Rattle.xdp_machine.specs.xdp_maps.declared.decl.MapDecl.{MapDecl}
use Rattle.kind_core.specs.declared.number.Number.TheVariants.{Known}
use Rattle.kind_core.specs.declared.kind.Kind.TheVariants.{Unset, Num}
use Rattle.kind_core.specs.declared.kind.Kinds.{Kinds}
use Rattle.kind_core.specs.declared.kind.Offsets.{Offsets}
use Rattle.kind_core.specs.Kinds as kinds
use Rattle.kind_core.specs.Tests.{◌>>=◌, Test}
use Rattle.kind_core.specs.Profile.{profiled}
use Rattle.kind_core.specs.Effects.{effect_as, effect_of}
use Rattle.kind_core.specs.Edges.{changed_if, transferred}
use Rattle.unfold_core.specs.Edges.{goes_next, goes_jump}
use Rattle.edge_cells.specs.Widening.{AreFilled}
use Rattle.edge_cells.specs.NodeCells.Ends.{leads_on}
use Rattle.edge_cells.specs.NodeCells.Filling.{EdgesAreFilled, JumpsAreFilled}

pub start_filled : (offsets : Offsets) → AreFilled (kinds.start offsets)
start_filled offsets s lt e =
    let zero : Num (Known 0) ≡ Unset = sym (get_or-replicate 64 s (Num (Known 0)) Unset lt) ∙ e in
    absurd (cc zero)

-- a jump that is always taken changes nothing
ja_same : (decls : List MapDecl) (k : Kinds) (i : Insn) (node : ℕ) (is_ref taken : Bool) (w : Width) → i.op ≡ Ja w → transferred decls k i node is_ref taken ≡ k
unfolding effect_of
ja_same decls k i node is_ref taken w e = by (profiled i k)
  where
    by : (t : Test) → changed_if node is_ref taken k (t >>= λ u. effect_as decls k i i.op) ≡ k
    by (Ok u) = ap (λ o. changed_if node is_ref taken k (effect_as decls k i o)) e
    by (Err w) = refl

pub side_filled : EdgesAreFilled → JumpsAreFilled → (decls : List MapDecl) (k : Kinds) (i : Insn) (node : ℕ) (is_ref taken : Bool) (o : Option Bool) (op : Op) → i.op ≡ op → (is_ref ≡ true → i.op ≡ LoadImm)
    → (if taken then goes_jump op o else goes_next op o) ≡ true → AreFilled k → AreFilled (transferred decls k i node is_ref taken)
side_filled edges jumps decls k i node true taken o (Jump w c s) e refers t h = absurd (cc (e, refers refl))
side_filled edges jumps decls k i node false taken o (Jump w c s) e refers t h = jumps decls k i node w c s taken e h
side_filled edges jumps decls k i node is_ref taken o (Ja w) e refers t h = subst AreFilled (sym (ja_same decls k i node is_ref taken w e)) h
side_filled edges jumps decls k i node is_ref true o Exit e refers t h = absurd (cc t)
side_filled edges jumps decls k i node is_ref false o Exit e refers t h = absurd (cc t)
side_filled edges jumps decls k i node is_ref true o op e refers t h = absurd (cc t)
side_filled edges jumps decls k i node is_ref false o op e refers t h = edges decls k i node is_ref (ap leads_on e) h
