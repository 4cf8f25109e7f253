-- The map of a name is the first one that has it.
use Rattle.std.proofs.Common.{◌≡◌, ◌≢◌, ℕ, zero, suc, ◌<◌, true, false, List, [], ◌∷◌, length, get_or, Some, None, refl, ap, subst, arith}
use Rattle.std.specs.Option.{option_map}
use Rattle.xdp_maps.specs.declared.decl.MapDecl.{MapDecl}
use Rattle.xdp_maps.specs.State.{no_decl}
use Rattle.maps_text.specs.Reading.{same, map_named}
use Rattle.maps_text.proofs.Marking.{same_itself, differ_false}

pub map_named-found : (name : List ℕ) (ds : List MapDecl) (i : ℕ) → i < length ds → name ≡ (get_or ds i no_decl).name → ((k : ℕ) (d : MapDecl) → k < i → name ≢ (get_or ds k d).name) → map_named name ds ≡ Some i
unfolding map_named
map_named-found name [] i lt is before = absurd (omega arith)
map_named-found name (d ∷ ds) zero lt is before = let yes : same name d.name ≡ true = subst (λ n. same name n ≡ true) is (same_itself name) in rw yes refl
map_named-found name (d ∷ ds) (suc i) lt is before =
    let no : same name d.name ≡ false = differ_false name d.name (before 0 no_decl (omega arith)) in
    let later = map_named-found name ds i (omega arith) is (λ k e below. before (suc k) e (omega arith)) in
    rw no (ap (option_map suc) later)

pub map_named-none : (name : List ℕ) (ds : List MapDecl) → ((k : ℕ) (d : MapDecl) → k < length ds → name ≢ (get_or ds k d).name) → map_named name ds ≡ None
unfolding map_named
map_named-none name [] before = refl
map_named-none name (d ∷ ds) before =
    let no : same name d.name ≡ false = differ_false name d.name (before 0 no_decl (omega arith)) in
    let later = map_named-none name ds (λ k e below. before (suc k) e (omega arith)) in
    rw no (ap (option_map suc) later)
