-- Steps that stand in groups.
use Rattle.std.specs.Prelude.{replicate}
use Rattle.std.proofs.Common.{◌≡◌, ℕ, zero, suc, ◌+◌, ◌≤◌, List, [], ◌∷◌, ◌++◌, length, take, drop, refl, sym, ap, ◌∙◌, arith, append_assoc}
use Rattle.std.proofs.lemmas.List.{append-nil}
use Rattle.clock_sim.specs.declared.step.Step.{Step}
use Rattle.clock_sim.specs.declared.step.Opcode.{Opcode}
use Rattle.clock_sim.specs.declared.step.Group.{Group}
use Rattle.clock_sim.specs.Steps.{run}
use Rattle.clock_sim.specs.Flat.{AreReading}
use Rattle.clock_sim.specs.Orders.{AreOf, opcodes_in, opcodes_of}

-- ---- making groups
opcodes_push : (gs : List Group) (g : Group) → opcodes_of (gs ++ g ∷ []) ≡ opcodes_of gs ++ replicate g.count g.opcode
opcodes_push [] g = append-nil (replicate g.count g.opcode)
opcodes_push (h ∷ gs) g = ap (λ l. replicate h.count h.opcode ++ l) (opcodes_push gs g) ∙ sym (append_assoc (replicate h.count h.opcode) (opcodes_of gs) (replicate g.count g.opcode))

replicate_more : (n : ℕ) (w : Opcode) (rest : List Opcode) → replicate n w ++ w ∷ rest ≡ replicate (n + 1) w ++ rest
replicate_more zero w rest = refl
replicate_more (suc n) w rest = let e : suc (n + 1) ≡ suc n + 1 = omega arith in ap (λ l. w ∷ l) (replicate_more n w rest) ∙ ap (λ k. replicate k w ++ rest) e

-- one more step of the last group's kind
pub longer : (gs : List Group) (n : ℕ) (w : Opcode) (s : Step) (rest : List Step) (all : List Opcode) → s.opcode ≡ w → opcodes_of gs ++ (replicate n w ++ opcodes_in (s ∷ rest)) ≡ all → opcodes_of gs ++ (replicate (n + 1) w ++ opcodes_in rest) ≡ all
longer gs n w s rest all same h = ap (λ l. opcodes_of gs ++ l) (sym (replicate_more n w (opcodes_in rest)) ∙ ap (λ v. replicate n w ++ v ∷ opcodes_in rest) (sym same)) ∙ h

-- a step of another kind begins a group
pub begun : (gs : List Group) (g : Group) (s : Step) (rest : List Step) (all : List Opcode) → opcodes_of gs ++ (replicate g.count g.opcode ++ opcodes_in (s ∷ rest)) ≡ all → opcodes_of (gs ++ g ∷ []) ++ (replicate 1 s.opcode ++ opcodes_in rest) ≡ all
begun gs g s rest all h = ap (λ l. l ++ s.opcode ∷ opcodes_in rest) (opcodes_push gs g) ∙ append_assoc (opcodes_of gs) (replicate g.count g.opcode) (s.opcode ∷ opcodes_in rest) ∙ h

-- what is known of groups and a last one, of those that a branch leaves
pub grown : (gs : List Group) (g : Group) (rest : List Step) (all : List Opcode) (hs : List Group) (h : Group) → gs ≡ hs → g ≡ h → opcodes_of hs ++ (replicate h.count h.opcode ++ opcodes_in rest) ≡ all → opcodes_of gs ++ (replicate g.count g.opcode ++ opcodes_in rest) ≡ all
grown gs g rest all hs h e f is = ap (λ l. opcodes_of l ++ (replicate g.count g.opcode ++ opcodes_in rest)) e ∙ ap (λ x. opcodes_of hs ++ (replicate x.count x.opcode ++ opcodes_in rest)) f ∙ is

pub ended : (gs : List Group) (g : Group) (all : List Opcode) → opcodes_of gs ++ (replicate g.count g.opcode ++ []) ≡ all → opcodes_of (gs ++ g ∷ []) ≡ all
ended gs g all h = opcodes_push gs g ∙ ap (λ l. opcodes_of gs ++ l) (sym (append-nil (replicate g.count g.opcode))) ∙ h

-- ---- walking them
cons_head : {X : Type 0} (x y : X) (xs ys : List X) → x ∷ xs ≡ y ∷ ys → x ≡ y
cons_head x y xs ys e = cc

cons_tail : {X : Type 0} (x y : X) (xs ys : List X) → x ∷ xs ≡ y ∷ ys → xs ≡ ys
cons_tail x y xs ys e = cc

cons_nil : {X : Type 0} (x : X) (xs : List X) → x ∷ xs ≡ [] → ⊥
cons_nil x xs e = cc

-- so many steps of a kind in front of the others
pub record Prefixes (n : ℕ) (w : Opcode) (ws : List Opcode) (steps : List Step) : Type 0 where
  pub count : n ≤ length steps
  pub are : AreOf w (take n steps)
  pub rest : ws ≡ opcodes_in (drop n steps)

pub prefix_of : (n : ℕ) (w : Opcode) (ws : List Opcode) (steps : List Step) → replicate n w ++ ws ≡ opcodes_in steps → Prefixes n w ws steps
prefix_of zero w ws steps h = record { count = omega arith; are = tt; rest = h }
prefix_of (suc n) w ws [] h = absurd (cons_nil w (replicate n w ++ ws) h)
prefix_of (suc n) w ws (s ∷ steps) h =
    let f = prefix_of n w ws steps (cons_tail w s.opcode (replicate n w ++ ws) (opcodes_in steps) h) in
    let le = f.count in
    record { count = omega arith; are = (sym (cons_head w s.opcode (replicate n w ++ ws) (opcodes_in steps) h), f.are); rest = f.rest }

pub none_left : (steps : List Step) → [] ≡ opcodes_in steps → steps ≡ []
none_left [] h = refl
none_left (s ∷ steps) h = absurd (cons_nil s.opcode (opcodes_in steps) (sym h))

pub reading_prefix : (count n : ℕ) (steps : List Step) → AreReading count steps → AreReading count (take n steps)
reading_prefix count zero steps h = tt
reading_prefix count (suc n) [] h = tt
reading_prefix count (suc n) (s ∷ steps) h = (h.0, reading_prefix count n steps h.1)

pub reading_rest : (count n : ℕ) (steps : List Step) → AreReading count steps → AreReading count (drop n steps)
reading_rest count zero steps h = h
reading_rest count (suc n) [] h = tt
reading_rest count (suc n) (s ∷ steps) h = reading_rest count n steps h.1

pub run_parts : (contents : List (List ℕ)) (n : ℕ) (steps : List Step) (slots : List ℕ) → run contents (drop n steps) (run contents (take n steps) slots) ≡ run contents steps slots
run_parts contents zero steps slots = refl
run_parts contents (suc n) [] slots = refl
run_parts contents (suc n) (s ∷ steps) slots = run_parts contents n steps _
