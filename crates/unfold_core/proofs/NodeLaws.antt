-- The laws of nodes.
use Rattle.std.proofs.Common.{◌≡◌, ℕ, zero, suc, ◌+◌, ◌≤◌, ◌<◌, ◌⊎◌, inl, inr, Bool, true, false, List, [], ◌∷◌, length, replicate, Option, Some, None, refl, sym, ◌∙◌, ap, subst, arith}
use Rattle.std.specs.Prelude.{if◌then◌else◌, unwrap_or}
use Rattle.std.specs.List.{list_all}
use Rattle.std.proofs.lemmas.Bool.{cases_lt, cases_eq}
use Rattle.xdp_machine.specs.bpf_isa.declared.instruction.Insn.{Insn}
use Rattle.xdp_machine.specs.bpf_isa.Text.{unit_count}
use Rattle.xdp_machine.proofs.bpf_isa_laws.Laws.{units_of-positive}
use Rattle.unfold_core.specs.declared.nesting.Loop.{Loop}
use Rattle.unfold_core.specs.Jumps.{target_of, target, Leads}
use Rattle.unfold_core.specs.Loops.{AreLoops}
use Rattle.unfold_core.specs.Tables.{IsLast, loop}
use Rattle.unfold_core.specs.Nodes.{GraphNode, IsNode, AreCopies, comes_before, next_copies, fits, reached}
use Rattle.unfold_core.specs.Laws.{NodesAreOrdered, StartIsNode, EdgesReachNodes, EdgesGoUp}
use Rattle.unfold_core.proofs.Found.{last_more, last_here}
use Rattle.unfold_core.proofs.FoundLoops.{inside}
use Rattle.unfold_core.proofs.Order.{key, key_before, before_by_key, key_irreflexive, key_transitive, key_total, next_are_copies, forward_up, HasLoop, has_loop, back_up}

abbrev node_of : ℕ → List ℕ → GraphNode
node_of p cs = record { place = p; copies = cs }

same_node : (a b : GraphNode) → a.place ≡ b.place → a.copies ≡ b.copies → a ≡ b
same_node a b e f = ap (λ p. node_of p a.copies) e ∙ ap (λ cs. node_of b.place cs) f

pub nodes_are_ordered : NodesAreOrdered
nodes_are_ordered ls n = record {
  irreflexive = λ a s. before_by_key ls a a n s s ∙ key_irreflexive (key ls a.place a.copies);
  transitive = λ a b c s t u h k.
      before_by_key ls a c n s u
      ∙ key_transitive (key ls a.place a.copies) (key ls b.place b.copies) (key ls c.place c.copies) (sym (before_by_key ls a b n s t) ∙ h) (sym (before_by_key ls b c n t u) ∙ k);
  total = λ a b s t h k.
      let x = key_total ls a.place b.place a.copies b.copies s t (sym (before_by_key ls a b n s t) ∙ h) (sym (before_by_key ls b a n t s) ∙ k) in
      same_node a b x.0 x.1;
}

zeros_are_copies : (ls : List Loop) (place : ℕ) → AreCopies ls place (replicate (length ls) 0)
zeros_are_copies [] place = tt
zeros_are_copies (l ∷ ls) place = ((omega arith, λ out. refl), zeros_are_copies ls place)

pub start_is_node : StartIsNode
start_is_node ls = zeros_are_copies ls 0

-- what is reached has its copies
reached_is : (ls : List Loop) (n m : GraphNode) (to : ℕ) → reached ls n to ≡ Some m → (list_all fits (next_copies ls n.place to n.copies) ≡ true) × (node_of to (next_copies ls n.place to n.copies) ≡ m)
reached_is ls n m to e = by_test (list_all fits (next_copies ls n.place to n.copies)) refl e
  where
    by_test : (b : Bool) → list_all fits (next_copies ls n.place to n.copies) ≡ b → (if b then Some (node_of to (next_copies ls n.place to n.copies)) else None) ≡ Some m
        → (list_all fits (next_copies ls n.place to n.copies) ≡ true) × (node_of to (next_copies ls n.place to n.copies) ≡ m)
    by_test true f g =
        let there : Some (node_of to (next_copies ls n.place to n.copies)) ≡ Some m = g in
        (f, ap (λ o. unwrap_or o m) there)
    by_test false f g = let bad : None ≡ Some m = g in absurd (cc)

pub edges_reach_nodes : EdgesReachNodes
edges_reach_nodes ls n m to e = let x = reached_is ls n m to e in subst (IsNode ls) x.1 (next_are_copies ls n.place to n.copies x.0)

is_some_head : (o : Option ℕ) (head : ℕ) → (o ≡ Some head) ⊎ (o ≡ Some head → ⊥)
is_some_head None head = inr (λ e. cc)
is_some_head (Some x) head = elim (cases_eq x head) [ inl e ↦ inl (ap Some e) | inr e ↦ inr (λ f. let same : x ≡ head = cc in e same) ]

-- one more place leads there, or does not
last_step : (leads : ℕ → Option ℕ) (n head : ℕ) (o : Option ℕ) → IsLast leads n head o → (leads n ≡ Some head) ⊎ (leads n ≡ Some head → ⊥) → (n < head) ⊎ (head ≤ n)
    → (p : Option ℕ) × IsLast leads (n + 1) head p
last_step leads n head o h (inl e) (inl lt) = (o, last_more leads n head o h (λ from q. absurd (omega arith)))
last_step leads n head o h (inl e) (inr ge) = (Some n, last_here leads n head ge e)
last_step leads n head o h (inr never) place = (o, last_more leads n head o h (λ from q. never q))

-- there is a last place that leads somewhere, or none
last_of : (leads : ℕ → Option ℕ) (n head : ℕ) → (o : Option ℕ) × IsLast leads n head o
last_of leads zero head = (None, λ place from below e. absurd (omega arith))
last_of leads (suc n) head =
    let before = last_of leads n head in
    let next : n + 1 ≡ suc n = omega arith in
    subst (λ k. (p : Option ℕ) × IsLast leads k head p) next (last_step leads n head before.0 before.1 (is_some_head (leads n) head) (cases_lt n head))

-- a jump back is in a loop whose head is its target
loop_of : (insns : List Insn) (ls : List Loop) (p q : ℕ) → AreLoops insns ls → target insns p ≡ Some q → q ≤ p → HasLoop ls q p
loop_of insns ls p q loops jump back = found (last_of (target insns) (unit_count insns) q)
  where
    found : (o : Option ℕ) × IsLast (target insns) (unit_count insns) q o → HasLoop ls q p
    found (None, h) = absurd (h p back (inside insns p q jump) jump)
    found (Some e, h) =
        has_loop ls (loop q e) p
        (loops.all (loop q e) (record { back = h.0; jump = h.2; greatest = λ place f. h.3 place (inside insns place q f) f }))
        (h.3 p (inside insns p q jump) jump)

pub edges_go_up : EdgesGoUp
edges_go_up insns ls n m to loops s leads e =
    let x = reached_is ls n m to e in
    let copies = next_are_copies ls n.place to n.copies x.0 in
    subst (λ k. comes_before ls n k ≡ true) x.1 (before_by_key ls n (node_of to (next_copies ls n.place to n.copies)) loops.nested s copies ∙ up leads)
  where
    up : Leads insns n.place to → key_before (key ls n.place n.copies) (key ls to (next_copies ls n.place to n.copies)) ≡ true
    up (i, begins, inl next) = forward_up ls n.place to n.copies (omega (arith, next.1, units_of-positive i.op)) s
    up (i, begins, inr jump) = elim (cases_lt n.place to) [
      | inl forward ↦ forward_up ls n.place to n.copies forward s
      | inr back ↦ back_up ls n.place to n.copies loops.nested back (loop_of insns ls n.place to loops (ap (target_of n.place) begins ∙ jump) back)
    ]
