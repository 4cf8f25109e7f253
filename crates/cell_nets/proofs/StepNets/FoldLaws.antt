-- What is known without a wire.
use Rattle.std.specs.Prelude.{if◌then◌else◌}
use Rattle.std.proofs.Common.{◌≡◌, ◌⊎◌, inl, inr, ℕ, Bool, List, [], ◌∷◌, sym, subst, arith}
use Rattle.net_core.specs.Value.{Env}
use Rattle.block_core.specs.declared.name.Name.{Name}
use Rattle.block_core.specs.Blocks.{BlockWireTree}
use Rattle.block_core.proofs.list_laws_laws.AllLaws.{all_one}
use Rattle.cell_core.specs.Cells.{bit, on, bits_from}
use Rattle.cell_nets.specs.declared.operand.Operand.{Operand}
use Rattle.cell_nets.specs.declared.operand.Operand.TheVariants.{Known}
use Rattle.cell_nets.specs.Operands.{number_in, IsAvailable}
use Rattle.cell_nets.specs.Wires.{always, Gives}
use Rattle.cell_nets.proofs.GiveLaws.{gives_as, known_gives}
use Rattle.cell_nets.specs.StepNets.Folding.{IsSettled, IsTruth}
use Rattle.cell_nets.proofs.StepNets.StepLaws.{bit_small}

pub of_either : {X : Type 0} (Q : X → Type 0) (x a b : X) → (x ≡ a) ⊎ (x ≡ b) → Q a → Q b → Q x
of_either Q x a b (inl e) h k = subst Q (sym e) h
of_either Q x a b (inr e) h k = subst Q (sym e) k

-- a truth, as a number
pub fact_gives : {P : Type 0} (p : P) (ws : List (BlockWireTree (Name P))) (args : List (Operand (Name P))) (f : Env (Name P) → ℕ) (t : Bool) (o : Operand (Name P)) → o ≡ Known (bit t) → ((v : Env (Name P)) → bit t ≡ f v) → Gives p ws ws args always f 1 o
fact_gives p ws args f t o e same = subst (λ o. Gives p ws ws args always f 1 o) (sym e) (known_gives p ws args always f 1 (bit t) (bit_small t) (omega arith) (λ v fit n. same v))

-- a choice, where it is known what it gives
pub settled_gives :
    {P : Type 0} (p : P) (old new : List (BlockWireTree (Name P))) (c a b x out : Operand (Name P)) (w : ℕ) → IsSettled c a b w x → Gives p old new (x ∷ []) always (λ v. bits_from (number_in v x) 0 w) w out
    → Gives p old new (c ∷ a ∷ b ∷ []) always (λ v. bits_from (if on (number_in v c) then number_in v a else number_in v b) 0 w) w out
settled_gives p old new c a b x out w s g =
    gives_as p old new (x ∷ []) (c ∷ a ∷ b ∷ []) always always _ _ w out g (λ ins h. all_one (IsAvailable ins) x (of_either (IsAvailable ins) x a b s.either (h 1 a (omega arith)) (h 2 b (omega arith)))) (λ v f n. (tt, sym (s.same v)))

pub truth_gives :
    {P : Type 0} (p : P) (old new : List (BlockWireTree (Name P))) (c a b out : Operand (Name P)) (w : ℕ) → IsTruth a b w → Gives p old new (c ∷ []) always (λ v. bit (on (number_in v c))) 1 out
    → Gives p old new (c ∷ a ∷ b ∷ []) always (λ v. bits_from (if on (number_in v c) then number_in v a else number_in v b) 0 w) w out
truth_gives p old new c a b out w s g =
    subst (λ k. Gives p old new (c ∷ a ∷ b ∷ []) always (λ v. bits_from (if on (number_in v c) then number_in v a else number_in v b) 0 k) k out) (sym s.one)
    (gives_as p old new (c ∷ []) (c ∷ a ∷ b ∷ []) always always _ _ 1 out g (λ ins h. all_one (IsAvailable ins) c (h 0 c (omega arith))) (λ v f n. (tt, sym (s.same v (on (number_in v c))))))
