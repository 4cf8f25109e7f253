-- All edges that leave a node lead to nodes that come later.
use Rattle.std.proofs.Common.{◌≡◌, ℕ, ◌+◌, inl, inr, Bool, true, false, List, [], ◌∷◌, ◌++◌, Option, Some, None, Result, Ok, Err, refl, ◌∙◌, ap, subst}
use Rattle.std.specs.Prelude.{All, if◌then◌else◌}
use Rattle.std.proofs.lemmas.List.Elements.{All-nil, All-cons, All-append}
use Rattle.xdp_machine.specs.bpf_isa.declared.operation.Op.{Op}
use Rattle.xdp_machine.specs.bpf_isa.declared.operation.Op.TheVariants.{Ja, Exit}
use Rattle.xdp_machine.specs.bpf_isa.declared.instruction.Insn.{Insn}
use Rattle.xdp_machine.specs.bpf_isa.Spelling.{units_of}
use Rattle.xdp_machine.specs.bpf_isa.Text.{insn_at}
use Rattle.xdp_machine.specs.State.{begins}
use Rattle.xdp_machine.specs.Program.{XdpProgram}
use Rattle.kind_core.specs.declared.kind.Kinds.{Kinds}
use Rattle.xdp_state.specs.declared.refusal.Why.{Why}
use Rattle.xdp_state.specs.declared.refusal.Why.TheVariants as why
use Rattle.kind_core.specs.Tests.{Test}
use Rattle.kind_core.specs.Effects.{effect_of, verdict}
use Rattle.kind_core.specs.Edges.{decided}
use Rattle.unfold_core.specs.declared.nesting.Loop.{Loop}
use Rattle.unfold_core.specs.declared.edges.Point.{Point}
use Rattle.unfold_core.specs.Jumps.{goes_on, target_of, Leads}
use Rattle.unfold_core.specs.Loops.{AreLoops}
use Rattle.unfold_core.specs.Nodes.{GraphNode, IsNode, reached}
use Rattle.unfold_core.specs.Edges.{goes_next, goes_jump, at_copy, edge_to, if_present, in_turn, next_edge, jump_edge, edges_of, if_allowed, leaving_by, leaving}
use Rattle.unfold_core.specs.EdgeLaws.{LeadsUp, LeavingGoesUp}
use Rattle.unfold_core.proofs.NodeLaws.{edges_reach_nodes, edges_go_up}

pub edge_reaches : (insns : List Insn) (ls : List Loop) (n : GraphNode) (k : Kinds) (o : Option ℕ) (p : Point) → edge_to insns ls n k o ≡ Ok p → (to : ℕ) × (o ≡ Some to) × (reached ls n to ≡ Some p.node)
edge_reaches insns ls n k None p e = let bad : Err why.Jump ≡ Ok p = e in absurd (cc)
edge_reaches insns ls n k (Some to) p e = by_begin (begins insns to) e
  where
    by_node : (o : Option GraphNode) → reached ls n to ≡ o → at_copy k o ≡ Ok p → (t : ℕ) × (Some to ≡ Some t) × (reached ls n t ≡ Some p.node)
    by_node None g f = let bad : Err why.Loop ≡ Ok p = f in absurd (cc)
    by_node (Some m) g f =
        let made : Point = record { node = m; kinds = k } in
        let there : Ok made ≡ Ok p = f in
        let same : made ≡ p = cc in
        (to, refl, g ∙ ap (λ x. Some x.node) same)

    by_begin : (b : Bool) → (if b then at_copy k (reached ls n to) else Err why.Jump) ≡ Ok p → (t : ℕ) × (Some to ≡ Some t) × (reached ls n t ≡ Some p.node)
    by_begin true f = by_node (reached ls n to) refl f
    by_begin false f = let bad : Err why.Jump ≡ Ok p = f in absurd (cc)

pub present_all : (P : Point → Type 0) (b : Bool) (e : Result Point Why) (xs : List Point) → if_present b e ≡ Ok xs → ((p : Point) → b ≡ true → e ≡ Ok p → P p) → All P xs
present_all P true (Ok p) xs h f = let there : Ok (p ∷ []) ≡ Ok xs = h in let same : p ∷ [] ≡ xs = cc in subst (All P) same (All-cons P p [] (f p refl refl) (All-nil P))
present_all P true (Err w) xs h f = let bad : Err w ≡ Ok xs = h in absurd (cc)
present_all P false e xs h f = let there : Ok [] ≡ Ok xs = h in let same : [] ≡ xs = cc in subst (All P) same (All-nil P)

pub turn_all : (P : Point → Type 0) (a b : Result (List Point) Why) (xs : List Point) → in_turn a b ≡ Ok xs → ((ys : List Point) → a ≡ Ok ys → All P ys) → ((ys : List Point) → b ≡ Ok ys → All P ys) → All P xs
turn_all P (Ok ys) (Ok zs) xs h f g = let there : Ok (ys ++ zs) ≡ Ok xs = h in let same : ys ++ zs ≡ xs = cc in subst (All P) same (All-append P ys zs (f ys refl) (g zs refl))
turn_all P (Ok ys) (Err w) xs h f g = let bad : Err w ≡ Ok xs = h in absurd (cc)
turn_all P (Err w) r xs h f g = let bad : Err w ≡ Ok xs = h in absurd (cc)

goes_on_of : (op : Op) (d : Option Bool) → goes_next op d ≡ true → goes_on op ≡ true
goes_on_of Exit d h = let bad : false ≡ true = h in absurd (cc)
goes_on_of (Ja w) d h = let bad : false ≡ true = h in absurd (cc)
goes_on_of op d h = refl

-- an edge that leads somewhere leads up
up_to : (p : XdpProgram) (ls : List Loop) (at e : Point) (to : ℕ) → AreLoops p.insns ls → IsNode ls at.node → Leads p.insns at.node.place to → reached ls at.node to ≡ Some e.node → LeadsUp ls at e
up_to p ls at e to loops node leads there = (edges_reach_nodes ls at.node e.node to there, edges_go_up p.insns ls at.node e.node to loops node leads there)

edges_up : (p : XdpProgram) (ls : List Loop) (number : ℕ) (at : Point) (i : Insn) (es : List Point) → AreLoops p.insns ls → IsNode ls at.node → insn_at p.insns at.node.place ≡ Some i → edges_of p ls number at i ≡ Ok es
    → All (LeadsUp ls at) es
edges_up p ls number at i es loops node here e =
    turn_all (LeadsUp ls at) (if_present (goes_next i.op (decided at.kinds i)) (next_edge p ls number at i)) (if_present (goes_jump i.op (decided at.kinds i)) (jump_edge p ls number at i)) es e
    (λ ys f. present_all (LeadsUp ls at) (goes_next i.op (decided at.kinds i)) (next_edge p ls number at i) ys f next)
    (λ ys f. present_all (LeadsUp ls at) (goes_jump i.op (decided at.kinds i)) (jump_edge p ls number at i) ys f jump)
  where
    next : (q : Point) → goes_next i.op (decided at.kinds i) ≡ true → next_edge p ls number at i ≡ Ok q → LeadsUp ls at q
    next q b f =
        let x = edge_reaches p.insns ls at.node _ (Some (at.node.place + units_of i.op)) q f in
        let same : x.0 ≡ at.node.place + units_of i.op = cc (x.1) in
        up_to p ls at q x.0 loops node (i, here, inl (goes_on_of i.op (decided at.kinds i) b, same)) x.2

    jump : (q : Point) → goes_jump i.op (decided at.kinds i) ≡ true → jump_edge p ls number at i ≡ Ok q → LeadsUp ls at q
    jump q b f =
        let x = edge_reaches p.insns ls at.node _ (target_of at.node.place (Some i)) q f in
        up_to p ls at q x.0 loops node (i, here, inr x.1) x.2

pub leaving_goes_up : LeavingGoesUp
unfolding leaving
leaving_goes_up p ls number at es loops node e = by_insn (insn_at p.insns at.node.place) refl e
  where
    by_test : (i : Insn) → insn_at p.insns at.node.place ≡ Some i → (t : Test) → if_allowed t (edges_of p ls number at i) ≡ Ok es → All (LeadsUp ls at) es
    by_test i here (Ok u) f = edges_up p ls number at i es loops node here f
    by_test i here (Err w) f = let bad : Err w ≡ Ok es = f in absurd (cc)

    by_insn : (o : Option Insn) → insn_at p.insns at.node.place ≡ o → leaving_by p ls number at o ≡ Ok es → All (LeadsUp ls at) es
    by_insn None here f = let bad : Err why.Jump ≡ Ok es = f in absurd (cc)
    by_insn (Some i) here f = by_test i here (verdict (effect_of p.decls at.kinds i)) f
