-- The graph of a program, walked node by node.
use Rattle.std.proofs.Common.{◌≡◌, ℕ, zero, suc, ◌≤◌, true, is_some, List, [], ◌∷◌, ◌++◌, length, Option, Some, None, Result, Ok, Err, refl, subst}
use Rattle.xdp_object.specs.xdp_machine.Program.{XdpProgram}
use Rattle.xdp_state.specs.declared.refusal.Why.{Why}
use Rattle.row_rules.specs.kind_core.declared.kind.Offsets.TheVariants.{Fixed}
use Rattle.row_rules.specs.unfold_core.declared.nesting.Loop.{Loop}
use Rattle.row_rules.specs.unfold_core.declared.edges.Point.{Point}
use Rattle.row_rules.specs.unfold_core.Loops.{AreLoops}
use Rattle.row_rules.specs.unfold_core.Edges.{leaving}
use Rattle.row_rules.specs.unfold_core.Graphs.{first_point, IsGraph}
use Rattle.row_rules.specs.unfold_core.Pending.{with_ends}
use Rattle.row_rules.proofs.unfold_core_laws.WalkingLaws.{IsWalk, walk_begins, walk_more, walk_ended}

-- at most so many nodes more, after those that are done; others are pending
abbrev pub walked : XdpProgram → List Loop → ℕ → List Point → List Point → Option (List Point)
walked p ls n g [] = Some g
walked p ls zero g (q ∷ w) = None
walked p ls (suc n) g (q ∷ w) = elim (leaving p ls (length g) q) [
  | Ok es ↦ walked p ls n (g ++ q ∷ []) (with_ends ls w es)
  | Err e ↦ None
]

walked_on : (p : XdpProgram) (ls : List Loop) (n : ℕ) (g w h : List Point) → AreLoops p.insns ls → IsWalk Fixed p ls g w → walked p ls n g w ≡ Some h → IsWalk Fixed p ls h []
walked_on p ls n g [] h loops walk e = let same : g ≡ h = cc in subst (λ xs. IsWalk Fixed p ls xs []) same walk
walked_on p ls zero g (q ∷ w) h loops walk e = absurd cc
walked_on p ls (suc n) g (q ∷ w) h loops walk e =
    by (λ es. walked_on p ls n (g ++ q ∷ []) (with_ends ls w es) h loops) (leaving p ls (length g) q) refl e
  where
    by : ((es : List Point) → IsWalk Fixed p ls (g ++ q ∷ []) (with_ends ls w es) → walked p ls n (g ++ q ∷ []) (with_ends ls w es) ≡ Some h → IsWalk Fixed p ls h [])
        → (r : Result (List Point) Why) → leaving p ls (length g) q ≡ r → elim r [ Ok es ↦ walked p ls n (g ++ q ∷ []) (with_ends ls w es) | Err x ↦ None ] ≡ Some h → IsWalk Fixed p ls h []
    by rest (Ok es) f k = rest es (walk_more Fixed p ls g w es q loops walk f) k
    by rest (Err x) f k = absurd cc

-- the graph of a program, with fixed offsets, that has at most so many nodes
abbrev pub graph_within : XdpProgram → List Loop → ℕ → Option (List Point)
graph_within p ls n = walked p ls n [] (first_point Fixed ls ∷ [])

pub graph_is : (p : XdpProgram) (ls : List Loop) (n : ℕ) (g : List Point) → AreLoops p.insns ls → graph_within p ls n ≡ Some g → length g ≤ 16384 → IsGraph Fixed p ls g
graph_is p ls n g loops e few =
    walk_ended Fixed p ls g [] (walked_on p ls n [] (first_point Fixed ls ∷ []) g loops (walk_begins Fixed p ls [] (first_point Fixed ls ∷ []) loops.nested refl refl) e) refl few

-- the nodes, where there are any
abbrev pub nodes_in : Option (List Point) → List Point
nodes_in (Some g) = g
nodes_in None = []

pub there : (o : Option (List Point)) → is_some o ≡ true → o ≡ Some (nodes_in o)
there (Some g) e = refl
there None e = absurd cc
