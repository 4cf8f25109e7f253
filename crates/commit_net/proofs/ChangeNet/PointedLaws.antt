-- Wires of a part over what comes from outside, and an operand after them.
use Rattle.std.specs.List.{list_all}
use Rattle.std.proofs.Common.{◌≡◌, ℕ, Bool, true, List, [], ◌∷◌, ◌++◌, refl, sym, subst}
use Rattle.std.proofs.lemmas.Bool.{and_parts}
use Rattle.net_core.specs.Value.{Env}
use Rattle.block_core.specs.ProductBlocks.Alone.{wire_flat}
use Rattle.block_core.specs.declared.name.Name.{Name}
use Rattle.block_core.specs.Blocks.{BlockWireTree}
use Rattle.block_core.specs.Parts.{Solve}
use Rattle.block_core.proofs.list_laws_laws.BoolLaws.{and_is}
use Rattle.overlay_net.specs.cell_nets.declared.operand.Operand.{Operand}
use Rattle.overlay_net.specs.cell_nets.Operands.{number_in, AreFit, IsAvailable}
use Rattle.overlay_net.specs.cell_nets.Wires.{behind, Gives, always}
use Rattle.overlay_net.proofs.cell_nets_laws.StepNets.StepLaws.{all_each}
use Rattle.overlay_net.proofs.cell_nets_laws.OperandBlocks.WiringLaws.{no_wires, all_outside}
use Rattle.commit_net.specs.ChangeNet.Pointed.{IsOver}

pub all_both : {X : Type 0} (f : X → Bool) (xs ys : List X) → list_all f xs ≡ true → list_all f ys ≡ true → list_all f (xs ++ ys) ≡ true
all_both f [] ys e g = g
all_both f (x ∷ xs) ys e g = let q = and_parts (f x) (list_all f xs) e in and_is _ _ q.0 (all_both f xs ys q.1 g)

-- what is given from no wires on
pub over_given : {P : Type 0} {part : P} {outside : List (Operand (Name P))} {ws : List (BlockWireTree (Name P))} {needs : Env (Name P) → Type 0} {f : Env (Name P) → ℕ} {w : ℕ} {o : Operand (Name P)} → Gives part [] ws outside needs f w o → IsOver part outside ws o
over_given {part = part} {outside = outside} x =
    let g = x.given outside (no_wires part outside) (all_outside part outside) in
    record { wires = g.wires; there = g.there; operand = x.operand; free = λ made. subst (λ l. list_all (wire_flat made) l ≡ true) (sym x.apart.added) (x.apart.free refl made) }

-- ---- one operand more after wires
pub over_next : {P : Type 0} {part : P} {outside : List (Operand (Name P))} {ws new : List (BlockWireTree (Name P))} {a o : Operand (Name P)} {f : Env (Name P) → ℕ} {w : ℕ} → IsOver part outside ws a → Gives part ws new (a ∷ []) always f w o → IsOver part outside new o
over_next {part = part} {outside = outside} {ws = ws} {a = a} x y =
    let g = y.given outside x.wires (all_each (IsAvailable (behind part outside ws)) (a ∷ []) (x.there, tt)) in
    record {
      wires = g.wires;
      there = g.there;
      operand = y.operand;
      free = λ made. subst (λ l. list_all (wire_flat made) l ≡ true) (sym y.apart.added) (all_both (wire_flat made) ws y.apart.more (x.free made) (y.apart.free refl made));
    }

pub over_number : {P : Type 0} {part : P} {outside : List (Operand (Name P))} {ws new : List (BlockWireTree (Name P))} {a o : Operand (Name P)} {f : Env (Name P) → ℕ} {w : ℕ} → IsOver part outside ws a → Gives part ws new (a ∷ []) always f w o
    → (v : Env (Name P)) → AreFit v outside → Solve v part 0 new → number_in v o ≡ f v
over_number {part = part} {outside = outside} {ws = ws} {a = a} x y v fit s = (y.given outside x.wires (all_each (IsAvailable (behind part outside ws)) (a ∷ []) (x.there, tt))).value v fit s tt
