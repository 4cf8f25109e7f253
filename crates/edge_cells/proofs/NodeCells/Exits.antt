-- Nodes where the run ends.
use Rattle.std.proofs.Common.{◌≡◌, ℕ, ◌+◌, ◌<◌, Option, Ok, Err, List, [], ◌∷◌, ◌++◌, length, refl, sym, ◌∙◌, ap, subst, arith}
use Rattle.std.specs.Prelude.{IfSome, slice_index}
use Rattle.std.proofs.lemmas.List.{append-nil}
use Rattle.std.proofs.lemmas.List.Elements.{All-nil, All-cons}
use Rattle.xdp_machine.specs.bpf_isa.Spelling.{IsInsn}
use Rattle.xdp_machine.specs.bpf_isa.Text.{insn_at}
use Rattle.xdp_machine.proofs.bpf_isa_laws.LaidLaws.{legal_at}
use Rattle.xdp_machine.specs.bpf_isa.declared.operation.Op.{Op}
use Rattle.xdp_machine.specs.bpf_isa.declared.operation.Op.TheVariants.{Exit}
use Rattle.xdp_machine.specs.bpf_isa.declared.instruction.Insn.{Insn}
use Rattle.xdp_machine.specs.xdp_maps.declared.decl.MapDecl.{MapDecl}
use Rattle.xdp_machine.specs.Values.{number_in}
use Rattle.xdp_machine.specs.State.{Machine, PacketIn, register}
use Rattle.xdp_machine.specs.Step.{step, outcome, Ends, exits}
use Rattle.xdp_machine.specs.Runs.{leaves}
use Rattle.xdp_machine.specs.Touched.{operation_as}
use Rattle.kind_core.specs.declared.number.Number.{Number}
use Rattle.kind_core.specs.declared.number.Number.TheVariants.{Known, Between}
use Rattle.kind_core.specs.declared.kind.Kind.{Kind}
use Rattle.kind_core.specs.declared.kind.Kind.TheVariants.{Num}
use Rattle.kind_core.specs.declared.kind.Kinds.{Kinds}
use Rattle.kind_core.specs.declared.kind.Offsets.TheVariants.{Fixed}
use Rattle.kind_core.specs.Kinds as kinds
use Rattle.kind_core.specs.Tests.{◌>>=◌, Test, passed}
use Rattle.kind_core.specs.Profile.{profiled}
use Rattle.kind_core.specs.Effects.{effect_of, effect_as, verdict}
use Rattle.kind_core.specs.Soundness.{StepsAreSound, GoesOn}
use Rattle.cell_core.specs.Cells.{CellView, on}
use Rattle.cell_core.specs.Sites.{SiteView, after}
use Rattle.operator_cells.proofs.MakingLaws.{grown_none, reads_none}
use Rattle.operator_cells.specs.declared.held_cells.machine_cells.RegisterCells.{RegisterCells}
use Rattle.operator_cells.specs.declared.held_cells.way.Exit.{Exit as End}
use Rattle.operator_cells.specs.HeldCells.Paths.{GraphView, Stage, At, Over, Nowhere, node_at, stepped, maps_in}
use Rattle.operator_cells.specs.HeldCells.RegisterCells.{PointerView, Counts, AreInside, IsThere}
use Rattle.operator_cells.specs.HeldCells.Carrying.{IsKnown}
use Rattle.operator_cells.specs.HeldCells.Steps.{ReadsOwn, Closes, IsGood}
use Rattle.edge_cells.specs.Meeting as kind
use Rattle.edge_cells.specs.Leaving.{EndsAreLeft}
use Rattle.edge_cells.proofs.ExtendingLaws.{extends_none}
use Rattle.edge_cells.specs.NodeCells.Ends.{IsNode}
use Rattle.edge_cells.proofs.NodeCells.Branching.{step_is}
use Rattle.edge_cells.proofs.NodeCells.Turning.{IsAdded, ExitMade}

-- what holds of the instruction of a node that is allowed: it is one of the table, and its machine has a step
pub legal_insn : (g : GraphView) (k : ℕ) (i : Insn) (ks : Kinds) → IsNode g k i ks → IsInsn i
legal_insn g k i ks is = subst (λ (o : Option Insn). IfSome o IsInsn) is.insn (legal_at g.code.insns (node_at g.nodes k).place is.legal)

-- ---- the verdict is the number in R0

abbrev only : Kind → Kinds
only a = record { registers = a ∷ []; slots = []; checked = 0; offsets = Fixed }

number_only : (i : Insn) (a : Kind) → verdict (effect_as [] (only a) i Exit) ≡ passed → a ≡ Num (kind.number_in a)
number_only i (Num n) h = refl
number_only i a h = absurd (cc h)

number_if : (decls : List MapDecl) (ks : Kinds) (i : Insn) (t : Test) → verdict (t >>= λ _. effect_as decls ks i Exit) ≡ passed → kinds.register ks 0 ≡ Num (kind.number_in (kinds.register ks 0))
number_if decls ks i (Ok u) h = number_only i (kinds.register ks 0) h
number_if decls ks i (Err y) h = absurd (cc h)

pub verdict_number : (decls : List MapDecl) (ks : Kinds) (i : Insn) → i.op ≡ Exit → verdict (effect_of decls ks i) ≡ passed → kinds.register ks 0 ≡ Num (kind.number_in (kinds.register ks 0))
unfolding effect_of
verdict_number decls ks i op ok = number_if decls ks i (profiled i ks) (subst (λ (o : Op). verdict (profiled i ks >>= λ _. effect_as decls ks i o) ≡ passed) op ok)

there_of : (decls : List MapDecl) (n : ℕ) (ps : List PointerView) (y : Number) (c : ℕ) → Counts decls n ps (Num y) c → IsThere n y c
there_of decls n ps (Known a) c h = tt
there_of decls n ps (Between lo hi) c h = h

-- ---- the end

abbrev IsEnding : GraphView → Machine → Type 0
IsEnding g m = (verdict : ℕ) × (step g.code m ≡ Ends verdict) × (exits (number_in (register m.registers 0)) ≡ Ends verdict)

ending : StepsAreSound → (g : GraphView) (packet : PacketIn) (v : ℕ → ℕ) (ps : List PointerView) (k : ℕ) (i : Insn) (ks : Kinds) (h : RegisterCells) (m : Machine) → i.op ≡ Exit → IsNode g k i ks
    → IsKnown g.decls packet v ps k ks h m → m.place ≡ (node_at g.nodes k).place → IsEnding g m
ending sound g packet v ps k i ks h m op is known place =
    let ends = subst (λ (o : Op). GoesOn g.code known.world ks m i o) op
    (sound g.code known.world ks m i known.stands (legal_insn g k i ks is) (ap (insn_at g.code.insns) place ∙ is.insn) (ap (λ (ds : List MapDecl). verdict (effect_of ds ks i)) known.decls_are ∙ is.allowed)) in
    (ends.0, ends.1, sym (step_is g k i ks m is place ∙ ap (outcome g.code m i) op) ∙ ends.1)

-- what is asked of the end of a node
pub record IsEndOf (x : End) (guard : ℕ) (ks : Kinds) (h : RegisterCells) : Type 0 where
  pub guard_is : x.guard ≡ guard
  pub verdict_is : x.verdict ≡ kind.number_in (kinds.register ks 0)
  pub held_is : x.held ≡ h

pub end_added : StepsAreSound → EndsAreLeft → (g : GraphView) (i : Insn) (k guard : ℕ) (ks : Kinds) (h : RegisterCells) (cells : List CellView) (ps : List PointerView) (sites : List SiteView) (x : End)
    → i.op ≡ Exit → IsNode g k i ks → IsEndOf x guard ks h → guard < length cells → AreInside g.decls (length cells) ps h ks → IsAdded g i k guard ks h cells cells ps ps sites [] [] (x ∷ [])
end_added sound left g i k guard ks h cells ps sites x op is has there inside = record {
  grows = reads_none (ReadsOwn sites (sites ++ [])) cells cells grown_none;
  extends = extends_none ps;
  own = All-nil _;
  fits = All-nil _;
  below = All-nil _;
  made = record {
    each_way = All-nil _;
    each_exit = All-cons (ExitMade cells) x [] (
      subst (λ (n : ℕ). n < length cells) (sym has.guard_is) there,
      subst (λ (j : RegisterCells). j.target < length cells) (sym has.held_is) inside.target,
      subst (λ (n : Number). IsThere (length cells) n (slice_index x.held.registers 0)) (sym has.verdict_is)
          (subst (λ (j : RegisterCells). IsThere (length cells) (kind.number_in (kinds.register ks 0)) (slice_index j.registers 0)) (sym has.held_is)
          (there_of g.decls (length cells) ps (kind.number_in (kinds.register ks 0)) (slice_index h.registers 0)
          (subst (λ (a : Kind). Counts g.decls (length cells) ps a (slice_index h.registers 0)) number (inside.registers 0 (omega arith))))),
      subst (λ (j : RegisterCells). (i : ℕ) → i < 256 → slice_index j.window i < length cells) (sym has.held_is) inside.window,
    ) (All-nil (ExitMade cells));
  };
  offs = λ packet v run zero. record { edges = All-nil _; ends = All-cons (λ (y : End). v y.guard ≡ 0) x [] (ap v has.guard_is ∙ zero) (All-nil (λ (y : End). v y.guard ≡ 0)) };
  goes = λ packet maps v m run read one maps_are known place.
      let e = ending sound g packet v ps k i ks h m op is known place in
      let at : stepped g k m (step g.code m) ≡ Over (leaves e.0 m) = ap (stepped g k m) e.1 in (
        ends_good packet v m e.0 (stepped g k m (step g.code m)) at one known e.2,
        ap (after v maps) (append-nil sites) ∙ maps_are ∙ ap (maps_in maps) (sym at),
        ap (operation_as m i) op,
      );
}
  where
    number : kinds.register ks 0 ≡ Num (kind.number_in (kinds.register ks 0))
    number = verdict_number g.decls ks i op is.allowed

    ends_good : (packet : PacketIn) (v : ℕ → ℕ) (m : Machine) (code : ℕ) (t : Stage) → t ≡ Over (leaves code m) → v guard ≡ 1 → IsKnown g.decls packet v ps k ks h m
        → exits (number_in (register m.registers 0)) ≡ Ends code → IsGood g packet v ps (k + 1) [] (x ∷ []) t
    ends_good packet v m code t at one known ends = record {
      bits = All-nil _;
      ahead = λ n b is. let bad : Over (leaves code m) ≡ At n b = sym at ∙ is in absurd (cc bad);
      placed = λ n b is. let bad : Over (leaves code m) ≡ At n b = sym at ∙ is in absurd (cc bad);
      each = All-nil _;
      some = λ n b is. let bad : Over (leaves code m) ≡ At n b = sym at ∙ is in absurd (cc bad);
      ends = All-cons (Closes packet v t) x [] (λ is_on.
          (leaves code m, at, left g.decls packet v ps k ks x m code (subst (λ (j : RegisterCells). IsKnown g.decls packet v ps k ks j m) (sym has.held_is) known) (number ∙ ap Num (sym has.verdict_is)) ends)) (All-nil _);
      ended = λ e is. (x, (0, omega arith, refl), ap on (ap v has.guard_is ∙ one));
      somewhere = λ is. let bad : Over (leaves code m) ≡ Nowhere = sym at ∙ is in absurd (cc bad);
    }
