-- A program is accepted, or has one first refusal.
use Rattle.std.proofs.Common.{◌≡◌, ◌⊎◌, inl, inr, ◌∙◌, zero, suc, ◌<◌, List, [], ◌∷◌, Result, Ok, Err, refl, sym, ap, ap₂, subst, arith}
use Rattle.std.specs.List.{AllPairs, Contains}
use Rattle.std.specs.Prelude.{IfErr, IsErrOf}
use Rattle.xdp_machine.specs.bpf_isa.declared.instruction.Insn.{Insn}
use Rattle.xdp_machine.specs.Program.{XdpProgram}
use Rattle.xdp_state.specs.declared.refusal.Refusal.{Refusal}
use Rattle.xdp_state.specs.declared.refusal.BuildError.{BuildError}
use Rattle.xdp_state.specs.declared.refusal.BuildError.TheVariants.{Refused, NoMemory}
use Rattle.kind_core.specs.declared.kind.Offsets.{Offsets}
use Rattle.unfold_core.specs.declared.nesting.Loop.{Loop}
use Rattle.unfold_core.specs.declared.unfolding.Unfolded.{Unfolded}
use Rattle.unfold_core.specs.Loops.{IsLoop, AreLoops, IsFirstPlace, Precedes}
use Rattle.unfold_core.specs.Graphs.{IsFirstNode, IsGraph}
use Rattle.unfold_core.specs.Unfolding.{Unfolds, IsUnfolded}
use Rattle.unfold_core.specs.Acceptance.{IsAccepted, IsFirstRefusal, HasOneOutcome}
use Rattle.unfold_core.proofs.OneGraphLaws.{same_refusal, has_one_refusal, has_not_both}

-- ---- loops with ascending heads are one list
abbrev Rising : List Loop → Type 0
Rising xs = AllPairs (λ a b. a.head < b.head) xs

contains_cases : (y : Loop) (ys : List Loop) (x : Loop) → Contains (y ∷ ys) x → (y ≡ x) ⊎ Contains ys x
contains_cases y ys x (zero, below, at) = inl at
contains_cases y ys x (suc k, below, at) = inr (k, omega (arith, below), at)

contains_later : (y : Loop) (ys : List Loop) (x : Loop) → Contains ys x → Contains (y ∷ ys) x
contains_later y ys x (k, below, at) = (suc k, omega (arith, below), at)

rises : (x : Loop) (xs : List Loop) (z : Loop) → Rising (x ∷ xs) → Contains xs z → x.head < z.head
rises x xs z rising (k, below, at) = let P : Loop → Type 0 = λ y. x.head < y.head in subst P at (rising 0 (suc k) z (omega arith) (omega (arith, below)))

rising_tail : (x : Loop) (xs : List Loop) → Rising (x ∷ xs) → Rising xs
rising_tail x xs rising i j d l below = rising (suc i) (suc j) d (omega (arith, l)) (omega (arith, below))

head_same : (x y : Loop) (xs ys : List Loop) → Rising (x ∷ xs) → Rising (y ∷ ys) → (y ≡ x) ⊎ Contains ys x → (x ≡ y) ⊎ Contains xs y → x ≡ y
head_same x y xs ys a b (inl e) g = sym e
head_same x y xs ys a b (inr f) (inl e) = e
head_same x y xs ys a b (inr f) (inr g) = absurd (omega (arith, rises x xs y a g, rises y ys x b f))

-- what is after one head is after the other
tail_in : (x y : Loop) (xs ys : List Loop) → Rising (x ∷ xs) → x ≡ y → (z : Loop) → Contains xs z → (y ≡ z) ⊎ Contains ys z → Contains ys z
tail_in x y xs ys a same z there (inl e) = absurd (omega (arith, rises x xs z a there, ap (λ (l : Loop). l.head) (same ∙ e)))
tail_in x y xs ys a same z there (inr f) = f

same_loops : (xs ys : List Loop) → Rising xs → Rising ys → ((z : Loop) → Contains xs z → Contains ys z) → ((z : Loop) → Contains ys z → Contains xs z) → xs ≡ ys
same_loops [] [] a b f g = refl
same_loops [] (y ∷ ys) a b f g = none (g y (0, omega arith, refl))
  where
    none : Contains [] y → [] ≡ y ∷ ys
    none (k, below, at) = absurd (omega (arith, below))
same_loops (x ∷ xs) [] a b f g = none (f x (0, omega arith, refl))
  where
    none : Contains [] x → x ∷ xs ≡ []
    none (k, below, at) = absurd (omega (arith, below))
same_loops (x ∷ xs) (y ∷ ys) a b f g =
    let head : x ≡ y = head_same x y xs ys a b (contains_cases y ys x (f x (0, omega arith, refl))) (contains_cases x xs y (g y (0, omega arith, refl))) in
    ap₂ (λ l ls. l ∷ ls) head (same_loops xs ys (rising_tail x xs a) (rising_tail y ys b)
    (λ z there. tail_in x y xs ys a head z there (contains_cases y ys z (f z (contains_later x xs z there))))
    (λ z there. tail_in y x ys xs b (sym head) z there (contains_cases x xs z (g z (contains_later y ys z there)))))

rising_of : (insns : List Insn) (ls : List Loop) → AreLoops insns ls → Rising ls
rising_of insns ls loops i j d l below = (loops.nested i j d l below).0

pub one_loops : (insns : List Insn) (ls ms : List Loop) → AreLoops insns ls → AreLoops insns ms → ls ≡ ms
one_loops insns ls ms a b = same_loops ls ms (rising_of insns ls a) (rising_of insns ms b) (λ z there. b.all z (is_loop ls a z there)) (λ z there. a.all z (is_loop ms b z there))
  where
    is_loop : (xs : List Loop) → AreLoops insns xs → (z : Loop) → Contains xs z → IsLoop insns z
    is_loop xs loops z (k, below, at) = subst (IsLoop insns) at (loops.are k z below)

-- ---- one first place
one_at : (r s : Refusal) → Precedes r s → Precedes s r → r.at ≡ s.at
one_at r s (inl a) (inl b) = absurd (omega (arith, a, b))
one_at r s (inl a) (inr b) = absurd (omega (arith, a, b.0))
one_at r s (inr a) b = a.0

one_why : (r s : Refusal) → Precedes r s → Precedes s r → r.why ≡ s.why
one_why r s (inl a) (inl b) = absurd (omega (arith, a, b))
one_why r s (inl a) (inr b) = absurd (omega (arith, a, b.0))
one_why r s (inr a) (inl b) = absurd (omega (arith, a.0, b))
one_why r s (inr (e, inl a)) (inr b) = a
one_why r s (inr (e, inr a)) (inr (f, inl b)) = sym b
one_why r s (inr (e, inr a)) (inr (f, inr b)) = a ∙ sym b

one_place : (insns : List Insn) (r s : Refusal) → IsFirstPlace insns r → IsFirstPlace insns s → r ≡ s
one_place insns r s a b = same_refusal r s (one_at r s (a.first s b.refused) (b.first r a.refused)) (one_why r s (a.first s b.refused) (b.first r a.refused))

-- ---- one outcome
refusal_one : (offsets : Offsets) (p : XdpProgram) (r s : Refusal) → IsFirstRefusal offsets p r → IsFirstRefusal offsets p s → r ≡ s
refusal_one offsets p r s (inl a) (inl b) = one_place p.insns r s a b
refusal_one offsets p r s (inl a) (inr (ls, has, b)) = absurd (has.passed r a.refused)
refusal_one offsets p r s (inr (ls, has, a)) (inl b) = absurd (has.passed s b.refused)
refusal_one offsets p r s (inr (ls, has, a)) (inr (ms, had, b)) =
    let same : ms ≡ ls = one_loops p.insns ms ls had.loops has.loops in
    has_one_refusal offsets p ls r s has.loops a (subst (λ (l : List Loop). IsFirstNode offsets p l s) same b)

refusal_alone : (offsets : Offsets) (p : XdpProgram) (r : Refusal) → IsFirstRefusal offsets p r → ¬ IsAccepted offsets p
refusal_alone offsets p r (inl a) accepted = accepted.has_loops.passed r a.refused
refusal_alone offsets p r (inr (ls, has, a)) accepted =
    let same : accepted.loops ≡ ls = one_loops p.insns accepted.loops ls accepted.has_loops.loops has.loops in
    has_not_both offsets p ls accepted.graph r has.loops (subst (λ (l : List Loop). IsGraph offsets p l accepted.graph) same accepted.is_graph) a

pub has_one_outcome : (offsets : Offsets) (p : XdpProgram) → HasOneOutcome offsets p
has_one_outcome offsets p = record { refusal = refusal_one offsets p; never_both = refusal_alone offsets p }

-- ---- what is answered
pub accepted_of : (p : XdpProgram) (u : Unfolded) → IsUnfolded p u → IsAccepted u.offsets p
accepted_of p u is = record { loops = u.loops.items; graph = u.nodes.items; has_loops = is.loops; is_graph = is.graph }

pub exactly : (offsets : Offsets) (p : XdpProgram) (result : Result Unfolded BuildError) → Unfolds offsets p result → (r : Refusal) → IsFirstRefusal offsets p r → IsErrOf result (Refused r) ⊎ IsErrOf result NoMemory
exactly offsets p (Ok u) is r refused = absurd (refusal_alone offsets p r refused (subst (λ o. IsAccepted o p) is.1 (accepted_of p u is.0)))
exactly offsets p (Err (Refused q)) is r refused = inl (ap (λ x. Err (Refused x)) (refusal_one offsets p q r is refused))
exactly offsets p (Err NoMemory) is r refused = inr refl

pub accepted : (offsets : Offsets) (p : XdpProgram) (result : Result Unfolded BuildError) → Unfolds offsets p result → IsAccepted offsets p → IfErr result (λ e. e ≡ NoMemory)
accepted offsets p (Ok u) is a = tt
accepted offsets p (Err (Refused q)) is a = absurd (refusal_alone offsets p q is a)
accepted offsets p (Err NoMemory) is a = refl
