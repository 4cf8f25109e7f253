-- Choices, pair by pair.
use Rattle.std.specs.Prelude.{if◌then◌else◌}
use Rattle.std.proofs.Common.{◌≡◌, ℕ, ◌+◌, ◌-◌, ◌<◌, ◌≤◌, Bool, true, false, All, List, [], ◌∷◌, length, length-drop, drop, get_or, map, refl, sym, ◌∙◌, ap, subst, arith}
use Rattle.std.proofs.lemmas.List.{length-map}
use Rattle.net_core.specs.Nets.{Tree}
use Rattle.net_core.specs.Value.{Env}
use Rattle.cell_core.specs.xdp_machine.State.{PacketIn}
use Rattle.block_core.specs.declared.name.Name.{Name}
use Rattle.block_core.specs.Blocks.{BlockWireTree}
use Rattle.block_core.proofs.list_laws_laws.AllLaws.{all_three}
use Rattle.cell_core.specs.declared.operator.Operator.TheVariants.{Select, Phi}
use Rattle.cell_core.specs.Cells.{on, bits_from, phi}
use Rattle.cell_nets.specs.declared.operand.Operand.{Operand}
use Rattle.cell_nets.specs.Listing.{IsChosen}
use Rattle.cell_nets.specs.Operands.{number_in, IsAvailable}
use Rattle.cell_nets.specs.Parts.{Computes, worth}
use Rattle.cell_nets.specs.Wires.{Gives, always}
use Rattle.cell_nets.proofs.ExpressionPartLaws.{part_computes}
use Rattle.cell_nets.proofs.ShiftLaws.{cut_low}
use Rattle.cell_nets.proofs.ListLemmas.{available_at, phi_step, two_more}
use Rattle.cell_nets.proofs.GiveLaws.{gives_then}

-- the choice among the pairs from a place on
abbrev pub chosen : {N : Type 0} → List (Operand N) → ℕ → ℕ → Env N → ℕ
chosen args w at v = bits_from (phi (map (number_in v) (drop at args))) 0 w

choice_low : (b : Bool) (y z w : ℕ) → bits_from (if b then y else bits_from z 0 w) 0 w ≡ bits_from (if b then y else z) 0 w
choice_low true y z w = refl
choice_low false y z w = cut_low z w w (omega arith)

-- the last pair
pub last_computes : {N : Type 0} (args : List (Operand N)) (w at : ℕ) (t : Tree N) → length args ≤ at + 2 → IsChosen args w at t → (ins : List (Operand N)) → All (IsAvailable ins) args → Computes ins w (chosen args w at) t
last_computes args w at t near c ins h = part_computes ins (3 + (length args - at)) w _ t (omega arith) (c.part ins h)

-- one more pair before others
pub pair_chosen :
    {P : Type 0} (p : P) (old mid new : List (BlockWireTree (Name P))) (args : List (Operand (Name P))) (packet : PacketIn) (w at : ℕ) (x y rest out : Operand (Name P)) → 2 ≤ at → at < length args → x ≡ get_or args (at - 2) x
    → y ≡ get_or args (at - 2 + 1) y → Gives p old mid args always (chosen args w at) w rest → Gives p mid new (x ∷ y ∷ rest ∷ []) always (worth packet Select (x ∷ y ∷ rest ∷ []) w) w out
    → Gives p old new args always (chosen args w (at - 2)) w out
pair_chosen p old mid new args packet w at x y rest out two inside is also a b =
    gives_then p old mid new args (x ∷ y ∷ rest ∷ []) always (chosen args w at) (worth packet Select (x ∷ y ∷ rest ∷ []) w) (chosen args w (at - 2)) w w rest out a b
    (λ ins all there. all_three (IsAvailable ins) x y rest (available_at ins args (at - 2) x (omega arith) is all) (available_at ins args (at - 2 + 1) y (omega arith) also all) there)
    (λ v f e.
    let back : at - 2 + 2 ≡ at = omega arith in
    let step : drop (at - 2) args ≡ x ∷ y ∷ drop at args = two_more args (at - 2) x y (omega arith) is also ∙ ap (λ k. x ∷ y ∷ drop k args) back in
    let some : 0 < length (map (number_in v) (drop at args)) = omega (arith, length-map (drop at args) (number_in v), length-drop at args) in
    ap (λ k. bits_from (if on (number_in v x) then number_in v y else k) 0 w) e
    ∙ choice_low (on (number_in v x)) (number_in v y) (phi (map (number_in v) (drop at args))) w
    ∙ ap (λ n. bits_from n 0 w) (sym (ap (λ l. phi (map (number_in v) l)) step ∙ phi_step _ _ (map (number_in v) (drop at args)) some)))

-- all pairs
pub all_chosen : {P : Type 0} (p : P) (old new : List (BlockWireTree (Name P))) (args : List (Operand (Name P))) (packet : PacketIn) (w at : ℕ) (out : Operand (Name P)) → at ≡ 0 → Gives p old new args always (chosen args w at) w out
    → Gives p old new args always (worth packet Phi args w) w out
all_chosen p old new args packet w at out none a = subst (λ k. Gives p old new args always (chosen args w k) w out) none a
