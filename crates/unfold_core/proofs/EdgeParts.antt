-- The parts of what leaves a node: its instruction, its test, and its edges one by one.
use Rattle.std.proofs.Common.{◌≡◌, ℕ, ◌+◌, inl, inr, not, Bool, true, false, List, [], ◌∷◌, ◌++◌, Option, Some, None, Result, Ok, Err, refl, sym, ◌∙◌, ap, subst, arith}
use Rattle.std.specs.Prelude.{All, if◌then◌else◌}
use Rattle.std.specs.List.{Contains, list_all}
use Rattle.xdp_machine.specs.bpf_isa.declared.instruction.Insn.{Insn}
use Rattle.xdp_machine.specs.bpf_isa.Spelling.{units_of}
use Rattle.xdp_machine.specs.bpf_isa.Text.{insn_at}
use Rattle.xdp_machine.specs.State.{begins}
use Rattle.xdp_machine.specs.Program.{XdpProgram}
use Rattle.kind_core.specs.declared.kind.Kinds.{Kinds}
use Rattle.xdp_state.specs.declared.refusal.Why.{Why}
use Rattle.xdp_state.specs.declared.refusal.Why.TheVariants as why
use Rattle.kind_core.specs.Tests.{Test, passed}
use Rattle.kind_core.specs.Effects.{effect_of, verdict}
use Rattle.kind_core.specs.Edges.{decided}
use Rattle.unfold_core.specs.declared.nesting.Loop.{Loop}
use Rattle.unfold_core.specs.declared.edges.Point.{Point}
use Rattle.unfold_core.specs.Jumps.{target_of}
use Rattle.unfold_core.specs.Nodes.{GraphNode, next_copies, fits, reached}
use Rattle.unfold_core.specs.Edges.{goes_next, goes_jump, at_copy, edge_to, if_present, in_turn, is_reference, next_edge, jump_edge, edges_of, if_allowed, leaving_by, leaving}
use Rattle.unfold_core.specs.Pending.{number_of}
use Rattle.unfold_core.specs.Unfolding.{numbered}
use Rattle.unfold_core.specs.RunLaws.{edge}
use Rattle.unfold_core.proofs.EdgesUp.{present_all, turn_all}
use Rattle.unfold_core.proofs.Reaching.{In}
use Rattle.kind_core.proofs.TransferLaws.{IsSized, transferred_sized}

pub leaving_parts : (p : XdpProgram) (ls : List Loop) (number : ℕ) (at : Point) (es : List Point) → leaving p ls number at ≡ Ok es
    → (i : Insn) × (insn_at p.insns at.node.place ≡ Some i) × (verdict (effect_of p.decls at.kinds i) ≡ passed) × (edges_of p ls number at i ≡ Ok es)
unfolding leaving
leaving_parts p ls number at es e = by_insn (insn_at p.insns at.node.place) refl e
  where
    by_test : (i : Insn) → insn_at p.insns at.node.place ≡ Some i → (t : Test) → verdict (effect_of p.decls at.kinds i) ≡ t → if_allowed t (edges_of p ls number at i) ≡ Ok es
        → (j : Insn) × (insn_at p.insns at.node.place ≡ Some j) × (verdict (effect_of p.decls at.kinds j) ≡ passed) × (edges_of p ls number at j ≡ Ok es)
    by_test i here (Ok u) g f = (i, here, g, f)
    by_test i here (Err w) g f = let bad : Err w ≡ Ok es = f in absurd (cc)

    by_insn : (o : Option Insn) → insn_at p.insns at.node.place ≡ o → leaving_by p ls number at o ≡ Ok es
        → (j : Insn) × (insn_at p.insns at.node.place ≡ Some j) × (verdict (effect_of p.decls at.kinds j) ≡ passed) × (edges_of p ls number at j ≡ Ok es)
    by_insn None here f = let bad : Err why.Jump ≡ Ok es = f in absurd (cc)
    by_insn (Some i) here f = by_test i here (verdict (effect_of p.decls at.kinds i)) refl f

pub turn_parts : (a b : Result (List Point) Why) (es : List Point) → in_turn a b ≡ Ok es → (xs : List Point) × (ys : List Point) × (a ≡ Ok xs) × (b ≡ Ok ys) × (es ≡ xs ++ ys)
turn_parts (Ok xs) (Ok ys) es h = let there : Ok (xs ++ ys) ≡ Ok es = h in let same : xs ++ ys ≡ es = cc in (xs, ys, refl, refl, sym same)
turn_parts (Ok xs) (Err w) es h = let bad : Err w ≡ Ok es = h in absurd (cc)
turn_parts (Err w) r es h = let bad : Err w ≡ Ok es = h in absurd (cc)

pub present_some : (b : Bool) (e : Result Point Why) (xs : List Point) → b ≡ true → if_present b e ≡ Ok xs → (q : Point) × (e ≡ Ok q) × (xs ≡ q ∷ [])
present_some true (Ok q) xs t h = let there : Ok (q ∷ []) ≡ Ok xs = h in let same : q ∷ [] ≡ xs = cc in (q, refl, sym same)
present_some true (Err w) xs t h = let bad : Err w ≡ Ok xs = h in absurd (cc)
present_some false e xs t h = let bad : false ≡ true = t in absurd (cc)

pub present_none : (b : Bool) (e : Result Point Why) (xs : List Point) → b ≡ false → if_present b e ≡ Ok xs → xs ≡ []
present_none true e xs t h = let bad : true ≡ false = t in absurd (cc)
present_none false e xs t h = let there : Ok [] ≡ Ok xs = h in let same : [] ≡ xs = cc in sym same

-- ---- an edge that is present is among them

-- where it stands: among the ends, and with its number and its side among the edges of the graph
pub record IsOne (ls : List Loop) (g es : List Point) (k : ℕ) (first taken : Bool) (q : Point) : Type 0 where
  pub among : In q es
  pub numbered : Contains (numbered ls g k first es) (edge k taken (number_of ls q.node g))

pub next_there : (p : XdpProgram) (ls : List Loop) (g es : List Point) (k : ℕ) (at : Point) (i : Insn) → edges_of p ls k at i ≡ Ok es → goes_next i.op (decided at.kinds i) ≡ true
    → (q : Point) × (next_edge p ls k at i ≡ Ok q) × IsOne ls g es k (not (goes_next i.op (decided at.kinds i))) false q
next_there p ls g es k at i e goes =
    let parts = turn_parts (if_present (goes_next i.op (decided at.kinds i)) (next_edge p ls k at i)) (if_present (goes_jump i.op (decided at.kinds i)) (jump_edge p ls k at i)) es e in
    let one = present_some (goes_next i.op (decided at.kinds i)) (next_edge p ls k at i) parts.0 goes parts.2 in
    let whole : one.0 ∷ parts.1 ≡ es = sym (parts.4 ∙ ap (λ xs. xs ++ parts.1) one.2) in (
      one.0,
      one.1,
      record {
        among = subst (In one.0) whole (inl refl);
        numbered = subst (λ b. Contains (numbered ls g k (not b) es) (edge k false (number_of ls one.0.node g))) (sym goes)
            (subst (λ xs. Contains (numbered ls g k false xs) (edge k false (number_of ls one.0.node g))) whole (0, omega arith, refl));
      },
    )

pub jump_there : (p : XdpProgram) (ls : List Loop) (g es : List Point) (k : ℕ) (at : Point) (i : Insn) → edges_of p ls k at i ≡ Ok es → goes_jump i.op (decided at.kinds i) ≡ true
    → (q : Point) × (jump_edge p ls k at i ≡ Ok q) × IsOne ls g es k (not (goes_next i.op (decided at.kinds i))) true q
jump_there p ls g es k at i e goes =
    let parts = turn_parts (if_present (goes_next i.op (decided at.kinds i)) (next_edge p ls k at i)) (if_present (goes_jump i.op (decided at.kinds i)) (jump_edge p ls k at i)) es e in
    let one = present_some (goes_jump i.op (decided at.kinds i)) (jump_edge p ls k at i) parts.1 goes parts.3 in
    (one.0, one.1, by_next one.0 parts.0 (parts.4 ∙ ap (λ ys. parts.0 ++ ys) one.2) (goes_next i.op (decided at.kinds i)) parts.2)
  where
    by_next : (q : Point) (xs : List Point) → es ≡ xs ++ q ∷ [] → (b : Bool) → if_present b (next_edge p ls k at i) ≡ Ok xs → IsOne ls g es k (not b) true q
    by_next q xs whole true h =
        let other = present_some true (next_edge p ls k at i) xs refl h in
        let two : other.0 ∷ q ∷ [] ≡ es = sym (whole ∙ ap (λ ys. ys ++ q ∷ []) other.2) in
        record {
          among = subst (In q) two (inr (inl refl));
          numbered = subst (λ ys. Contains (numbered ls g k false ys) (edge k true (number_of ls q.node g))) two (1, omega arith, refl);
        }
    by_next q xs whole false h =
        let lone : q ∷ [] ≡ es = sym (whole ∙ ap (λ ys. ys ++ q ∷ []) (present_none false (next_edge p ls k at i) xs refl h)) in
        record {
          among = subst (In q) lone (inl refl);
          numbered = subst (λ ys. Contains (numbered ls g k true ys) (edge k true (number_of ls q.node g))) lone (0, omega arith, refl);
        }

-- ---- what an edge leads to

pub reached_place : (ls : List Loop) (n m : GraphNode) (to : ℕ) → reached ls n to ≡ Some m → m.place ≡ to
reached_place ls n m to e = by_test (list_all fits (next_copies ls n.place to n.copies)) e
  where
    by_test : (b : Bool) → (if b then Some (record { place = to; copies = next_copies ls n.place to n.copies }) else None) ≡ Some m → m.place ≡ to
    by_test true f =
        let made : GraphNode = record { place = to; copies = next_copies ls n.place to n.copies } in
        let there : Some made ≡ Some m = f in
        let same : made ≡ m = cc in
        sym (ap (λ x. x.place) same)
    by_test false f = let bad : None ≡ Some m = f in absurd (cc)

pub record LeadsTo (insns : List Insn) (k : Kinds) (o : Option ℕ) (q : Point) : Type 0 where
  pub to : ℕ
  pub is : o ≡ Some to
  pub begins : begins insns to ≡ true
  pub place : q.node.place ≡ to
  pub kinds : q.kinds ≡ k

pub edge_gives : (insns : List Insn) (ls : List Loop) (n : GraphNode) (k : Kinds) (o : Option ℕ) (q : Point) → edge_to insns ls n k o ≡ Ok q → LeadsTo insns k o q
edge_gives insns ls n k None q e = let bad : Err why.Jump ≡ Ok q = e in absurd (cc)
edge_gives insns ls n k (Some to) q e = by_begin (begins insns to) refl e
  where
    by_node : begins insns to ≡ true → (m : Option GraphNode) → reached ls n to ≡ m → at_copy k m ≡ Ok q → LeadsTo insns k (Some to) q
    by_node b None g f = let bad : Err why.Loop ≡ Ok q = f in absurd (cc)
    by_node b (Some m) g f =
        let made : Point = record { node = m; kinds = k } in
        let there : Ok made ≡ Ok q = f in
        let same : made ≡ q = cc in
        record { to = to; is = refl; begins = b; place = ap (λ x. x.node.place) (sym same) ∙ reached_place ls n m to g; kinds = ap (λ x. x.kinds) (sym same) }

    by_begin : (b : Bool) → begins insns to ≡ b → (if b then at_copy k (reached ls n to) else Err why.Jump) ≡ Ok q → LeadsTo insns k (Some to) q
    by_begin true g f = by_node g (reached ls n to) refl f
    by_begin false g f = let bad : Err why.Jump ≡ Ok q = f in absurd (cc)

-- what is known on all edges has its sizes
pub leaving_sized : (p : XdpProgram) (ls : List Loop) (number : ℕ) (at : Point) (es : List Point) → IsSized at.kinds → leaving p ls number at ≡ Ok es → All (λ e. IsSized e.kinds) es
leaving_sized p ls number at es h e =
    let parts = leaving_parts p ls number at es e in
    let i = parts.0 in
    turn_all (λ x. IsSized x.kinds) (if_present (goes_next i.op (decided at.kinds i)) (next_edge p ls number at i)) (if_present (goes_jump i.op (decided at.kinds i)) (jump_edge p ls number at i)) es parts.3
    (λ ys f. present_all (λ x. IsSized x.kinds) (goes_next i.op (decided at.kinds i)) (next_edge p ls number at i) ys f
    (λ q b g. subst IsSized (sym (edge_gives p.insns ls at.node _ (Some (at.node.place + units_of i.op)) q g).kinds) (transferred_sized p.decls at.kinds i number (is_reference p at.node.place) false h)))
    (λ ys f. present_all (λ x. IsSized x.kinds) (goes_jump i.op (decided at.kinds i)) (jump_edge p ls number at i) ys f
    (λ q b g. subst IsSized (sym (edge_gives p.insns ls at.node _ (target_of at.node.place (Some i)) q g).kinds) (transferred_sized p.decls at.kinds i number (is_reference p at.node.place) true h)))
