-- A program whose jumps all go on has no loops.
use Rattle.std.proofs.Common.{◌≡◌, ℕ, zero, suc, ◌+◌, ◌-◌, ◌≤◌, ◌&&◌, inl, inr, Bool, true, false, List, [], ◌∷◌, Option, Some, None, refl, sym, ◌∙◌, ap, subst, arith}
use Rattle.std.specs.Prelude.{nat_lt, if◌then◌else◌}
use Rattle.std.proofs.lemmas.Bool.{and_parts, ltb-true, ltb-false}
use Rattle.std.proofs.lemmas.List.Elements.{All-nil}
use Rattle.bpf_isa.specs.declared.instruction.Insn.{Insn}
use Rattle.bpf_isa.specs.Spelling.{units_of}
use Rattle.bpf_isa.specs.Text.{insn_at, unit_count}
use Rattle.xdp_state.specs.declared.refusal.Refusal.{Refusal}
use Rattle.row_rules.specs.unfold_core.declared.nesting.Loop.{Loop}
use Rattle.row_rules.specs.unfold_core.Jumps.{target_of}
use Rattle.row_rules.specs.unfold_core.Loops.{IsLoop, RefusesPlace, HasLoops}

-- a jump from this place, if it is one, leads to a later one
abbrev leads_on : ℕ → Option ℕ → Bool
leads_on place (Some to) = nat_lt place to
leads_on place None = true

-- so do those of these instructions, the first of which has this place
abbrev pub all_lead_on : List Insn → ℕ → Bool
all_lead_on [] at = true
all_lead_on (i ∷ is) at = leads_on at (target_of at (Some i)) && all_lead_on is (at + units_of i.op)

each_leads_on : (is : List Insn) (at place : ℕ) (i : Insn) → all_lead_on is at ≡ true → insn_at is place ≡ Some i → leads_on (at + place) (target_of (at + place) (Some i)) ≡ true
each_leads_on [] at place i all here = absurd cc
each_leads_on (j ∷ is) at zero i all here =
    let first : leads_on at (target_of at (Some j)) ≡ true = (and_parts (leads_on at (target_of at (Some j))) (all_lead_on is (at + units_of j.op)) all).0 in
    let same : j ≡ i = cc in
    let at_is : at ≡ at + 0 = omega arith in
    subst (λ (k : ℕ). leads_on k (target_of k (Some i)) ≡ true) at_is (subst (λ (x : Insn). leads_on at (target_of at (Some x)) ≡ true) same first)
each_leads_on (j ∷ is) at (suc n) i all here =
    let rest : all_lead_on is (at + units_of j.op) ≡ true = (and_parts (leads_on at (target_of at (Some j))) (all_lead_on is (at + units_of j.op)) all).1 in
    by (each_leads_on is (at + units_of j.op) (suc n - units_of j.op) i rest) (nat_lt (suc n) (units_of j.op)) refl here
  where
    by : (insn_at is (suc n - units_of j.op) ≡ Some i → leads_on ((at + units_of j.op) + (suc n - units_of j.op)) (target_of ((at + units_of j.op) + (suc n - units_of j.op)) (Some i)) ≡ true)
        → (b : Bool) → nat_lt (suc n) (units_of j.op) ≡ b → (if b then None else insn_at is (suc n - units_of j.op)) ≡ Some i → leads_on (at + suc n) (target_of (at + suc n) (Some i)) ≡ true
    by later true e h = absurd cc
    by later false e h =
        let past : units_of j.op ≤ suc n = ltb-false (suc n) (units_of j.op) e in
        let place : (at + units_of j.op) + (suc n - units_of j.op) ≡ at + suc n = omega (arith, past) in
        subst (λ (k : ℕ). leads_on k (target_of k (Some i)) ≡ true) place (later h)

pub no_loop : (is : List Insn) (l : Loop) → all_lead_on is 0 ≡ true → ¬ IsLoop is l
no_loop is l all loop = by (insn_at is l.last) refl loop.jump
  where
    by : (o : Option Insn) → insn_at is l.last ≡ o → target_of l.last o ≡ Some l.head → ⊥
    by None e jump = absurd cc
    by (Some i) e jump =
        let at : 0 + l.last ≡ l.last = omega arith in
        let on : leads_on l.last (target_of l.last (Some i)) ≡ true = subst (λ (k : ℕ). leads_on k (target_of k (Some i)) ≡ true) at (each_leads_on is 0 l.last i all e) in
        let later : nat_lt l.last l.head ≡ true = sym (ap (leads_on l.last) jump) ∙ on in
        omega (arith, ltb-true l.last l.head later, loop.back)

refuses_none : (is : List Insn) (r : Refusal) → all_lead_on is 0 ≡ true → unit_count is ≤ 4096 → ¬ RefusesPlace is r
refuses_none is r all few (inl long) = omega (arith, few, long.long)
refuses_none is r all few (inr crossing) = no_loop is crossing.outer all crossing.is_outer

pub has_none : (is : List Insn) → all_lead_on is 0 ≡ true → unit_count is ≤ 4096 → HasLoops is []
has_none is all few = record {
  loops = record {
    are = All-nil (IsLoop is);
    all = λ l loop. absurd (no_loop is l all loop);
    nested = λ i j d low below. absurd (omega (arith, below));
  };
  passed = λ r. refuses_none is r all few;
}
