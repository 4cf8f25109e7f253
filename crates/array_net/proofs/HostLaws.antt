-- What the host names.
use Rattle.std.specs.Prelude.{◌≡◌, ℕ, ◌-◌, ◌<◌, ◌≤◌, ◌==◌, nat_lt, nat_le, ◌&&◌, Bool, true, false}
use Rattle.std.proofs.Common.{refl, ap, ◌∙◌, arith}
use Rattle.std.proofs.lemmas.Bool.{le-leb}
use Rattle.std.proofs.lemmas.Bool.Decides.{nat_tests}
use Rattle.net_core.specs.declared.tree.Op.TheVariants.{And, LessEqual}
use Rattle.net_core.specs.Value.{word, bit, Env, value, apply}
use Rattle.net_core.proofs.BitLaws.{and_bits}
use Rattle.block_core.specs.declared.name.Name.{Name}
use Rattle.hazard_core.specs.declared.access.Access.{Access}
use Rattle.array_net.specs.Hosts.{SeesHost}
use Rattle.array_net.specs.ArrayNets.{names_slot}

below_cap : (n cap : ℕ) → 1 ≤ cap → nat_le n (cap - 1) ≡ nat_lt n cap
below_cap n cap some = by_test (nat_lt n cap) refl
  where
    by_test : (t : Bool) → nat_lt n cap ≡ t → nat_le n (cap - 1) ≡ t
    by_test true e = let l : n < cap = grind (arith, nat_tests) in let m : n ≤ cap - 1 = omega arith in le-leb n (cap - 1) m
    by_test false e = let l : cap ≤ n = grind (arith, nat_tests) in grind (arith, nat_tests)

pub slot_named : {P : Type 0} (v : Env (Name P)) (map cap : ℕ) (a : Access) (number : ℕ) → 1 ≤ cap → SeesHost v a number → value v (names_slot {P = P} map cap) ≡ bit (a.map == map && nat_lt a.index cap)
slot_named v map cap a number some sees =
    (λ i. apply And (bit ((sees.map i).value == map)) (apply LessEqual (sees.index i) (word 16 (cap - 1)))) ∙ and_bits (a.map == map) (nat_le a.index (cap - 1)) ∙ ap (λ t. bit (a.map == map && t)) (below_cap a.index cap some)
