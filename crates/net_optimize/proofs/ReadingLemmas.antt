-- Designs that read what is there: well-formed ones do, and their wires have one solution.
use Rattle.std.specs.Prelude.{◌≡◌, ℕ, zero, suc, ◌+◌, ◌<◌, true, List, [], ◌∷◌, length, map as map_list}
use Rattle.std.proofs.Common.{get_or, refl, sym, ap, ◌∙◌, arith, subst}
use Rattle.std.proofs.lemmas.Bool.{and_parts}
use Rattle.net_core.specs.Nets.{WireTree, Netlist}
use Rattle.design_rules.specs.Formed.{IsWellFormed, targets_known}
use Rattle.design_rules.specs.FormedScope.{sorts, right_known}
use Rattle.design_rules.proofs.FormedItemLaws.{wire_kept, assign_kept, block_kept}
use Rattle.design_rules.proofs.SolvedWires.SolvingLaws.{AreKnownRights, known_from}
use Rattle.net_optimize.specs.Reading.{ReadsWhatIsThere}

pub formed_reads : (d : Netlist) → IsWellFormed d → ReadsWhatIsThere d
formed_reads d f = record {
  wires = λ i w l e. (wire_kept d f i w l e).known;
  assigns = λ i a l e. (assign_kept d f i a l e).known;
  always = λ i a l e. (and_parts (targets_known d a) _ (block_kept d f i a l e).known).1;
}

pub known_rights : (d : Netlist) → ReadsWhatIsThere d → AreKnownRights d 0 d.wires
known_rights d f = known_from d 0 d.wires (λ i w l e. subst (λ n. right_known (sorts d n) w.right ≡ true) (omega arith) (f.wires i w l e))

-- what stands at a place of a list stands for what stands there of another one
pub at_map : {A B : Type 0} (f : A → B) (xs : List A) (i : ℕ) (x : A) (y : B) → i < length xs → x ≡ get_or xs i x → y ≡ get_or (map_list f xs) i y → f x ≡ y
at_map f [] i x y l e g = absurd (omega arith)
at_map f (z ∷ xs) zero x y l e g = ap f e ∙ sym g
at_map f (z ∷ xs) (suc i) x y l e g = at_map f xs i x y (omega arith) e g
