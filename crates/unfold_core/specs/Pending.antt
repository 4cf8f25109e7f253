-- Nodes that an edge leads to and whose turn is to come, in unfolded order.
use Rattle.std.specs.Prelude.{ℕ, suc, zero, if◌then◌else◌, List, [], ◌∷◌}
use Rattle.kind_core.specs.Joins.{joined}
use Rattle.unfold_core.specs.declared.nesting.Loop.{Loop}
use Rattle.unfold_core.specs.declared.edges.Point.{Point}
use Rattle.unfold_core.specs.Nodes.{GraphNode, comes_before}

-- how many of these nodes, which are in unfolded order, come before a node: its number among them
abbrev pub number_of : List Loop → GraphNode → List Point → ℕ
number_of ls n [] = zero
number_of ls n (p ∷ ps) = if comes_before ls p.node n then suc (number_of ls n ps) else zero

-- what is known at a node, joined with what an edge brings
abbrev pub meets : Point → Point → Point
meets p e = record p { kinds = joined p.kinds e.kinds }

-- the end of an edge before the nodes that come later, or joined with the first of them
abbrev pub put : List Loop → Point → List Point → List Point
put ls e [] = e ∷ []
put ls e (p ∷ ps) = if comes_before ls e.node p.node then e ∷ p ∷ ps else meets p e ∷ ps

-- the end of one more edge
abbrev pub with_end : List Loop → List Point → Point → List Point
with_end ls [] e = e ∷ []
with_end ls (p ∷ ps) e = if comes_before ls p.node e.node then p ∷ with_end ls ps e else put ls e (p ∷ ps)

abbrev pub with_ends : List Loop → List Point → List Point → List Point
with_ends ls ps [] = ps
with_ends ls ps (e ∷ es) = with_ends ls (with_end ls ps e) es
