-- The units of instructions: how many there are, and which instruction begins at a place.
use Rattle.std.proofs.Common.{◌≡◌, ℕ, zero, suc, ◌+◌, ◌-◌, ◌<◌, ◌⊎◌, inl, inr, List, [], ◌∷◌, ◌++◌, length, take, replicate, get_or, Some, None, Bool, true, false, refl, sym, ◌∙◌, ap, subst, arith, sub-one}
use Rattle.std.proofs.lemmas.Bool.{le-ltb}
use Rattle.std.proofs.lemmas.List.{append_assoc, take_more, append-nil}
use Rattle.std.specs.Prelude.{Option, IfSome, All, if◌then◌else◌, nat_lt}
use Rattle.bpf_isa.specs.declared.operation.Op.{Op}
use Rattle.bpf_isa.specs.declared.operation.Op.TheVariants.{LoadImm}
use Rattle.bpf_isa.specs.declared.instruction.Insn.{Insn}
use Rattle.bpf_isa.specs.Spelling.{units_of, IsInsn}
use Rattle.bpf_isa.specs.Text.{insn_at, unit_count}
use Rattle.bpf_isa.specs.Laid.{laid}

-- an instruction has one unit or two
pub one_or_two : (op : Op) → (units_of op ≡ 1) ⊎ (units_of op ≡ 2)
one_or_two LoadImm = inr refl
one_or_two op = inl refl

after_first : (is : List Insn) (n k : ℕ) → (k ≡ 1) ⊎ (k ≡ 2) → ((p : ℕ) → insn_at is p ≡ get_or (laid is) p None)
    → (if nat_lt (suc n) k then None else insn_at is (suc n - k)) ≡ get_or (replicate (k - 1) None ++ laid is) n None
after_first is n k (inl e) same =
    let P : ℕ → Type 0 = λ u. (if nat_lt (suc n) u then None else insn_at is (suc n - u)) ≡ get_or (replicate (u - 1) None ++ laid is) n None in
    subst P (sym e) (rw (le-ltb (suc n) 1 (omega arith), sub-one) (same n))
after_first is zero k (inr e) same =
    let P : ℕ → Type 0 = λ u. (if nat_lt 1 u then None else insn_at is (1 - u)) ≡ get_or (replicate (u - 1) None ++ laid is) zero None in
    subst P (sym e) refl
after_first is (suc m) k (inr e) same =
    let P : ℕ → Type 0 = λ u. (if nat_lt (suc (suc m)) u then None else insn_at is (suc (suc m) - u)) ≡ get_or (replicate (u - 1) None ++ laid is) (suc m) None in
    let less : suc (suc m) - 2 ≡ m = omega arith in
    subst P (sym e) (rw (le-ltb (suc (suc m)) 2 (omega arith), less) (same m))

-- which instruction begins at a place
pub insn_at-laid : (is : List Insn) (place : ℕ) → insn_at is place ≡ get_or (laid is) place None
insn_at-laid [] place = refl
insn_at-laid (i ∷ is) zero = refl
insn_at-laid (i ∷ is) (suc n) = after_first is n (units_of i.op) (one_or_two i.op) (insn_at-laid is)

-- what begins at a place is one of the instructions
pub legal_at : (is : List Insn) (place : ℕ) → All IsInsn is → IfSome (insn_at is place) IsInsn
legal_at [] place all = tt
legal_at (i ∷ is) zero all = all 0 i (omega arith)
legal_at (i ∷ is) (suc n) all = later (nat_lt (suc n) (units_of i.op)) (legal_at is (suc n - units_of i.op) (λ k d h. all (suc k) d (omega (arith, h))))
  where
    later : (b : Bool) → IfSome (insn_at is (suc n - units_of i.op)) IsInsn → IfSome (if b then None else insn_at is (suc n - units_of i.op)) IsInsn
    later true h = tt
    later false h = h

pub length-laid : (is : List Insn) → length (laid is) ≡ unit_count is
length-laid [] = refl
length-laid (i ∷ is) = counted (units_of i.op) (one_or_two i.op) (length-laid is)
  where
    counted : (u : ℕ) → (u ≡ 1) ⊎ (u ≡ 2) → length (laid is) ≡ unit_count is → suc (length (replicate (u - 1) None ++ laid is)) ≡ u + unit_count is
    counted u (inl e) same = let P : ℕ → Type 0 = λ v. suc (length (replicate (v - 1) None ++ laid is)) ≡ v + unit_count is in subst P (sym e) (omega (arith, same))
    counted u (inr e) same = let P : ℕ → Type 0 = λ v. suc (length (replicate (v - 1) None ++ laid is)) ≡ v + unit_count is in subst P (sym e) (omega (arith, same))

laid-push : (is : List Insn) (i : Insn) → laid (is ++ i ∷ []) ≡ laid is ++ (Some i ∷ replicate (units_of i.op - 1) None)
laid-push [] i = ap (λ us. Some i ∷ us) (append-nil (replicate (units_of i.op - 1) None))
laid-push (j ∷ is) i =
    ap (λ us. Some j ∷ (replicate (units_of j.op - 1) None ++ us)) (laid-push is i)
    ∙ ap (λ us. Some j ∷ us) (sym (append_assoc (replicate (units_of j.op - 1) None) (laid is) (Some i ∷ replicate (units_of i.op - 1) None)))

-- the units of one more instruction
pub laid_more : (is : List Insn) (n : ℕ) (d : Insn) (old new : List (Option Insn)) → n < length is → old ≡ laid (take n is)
    → new ≡ old ++ (Some (get_or is n d) ∷ replicate (units_of (get_or is n d).op - 1) None) → new ≡ laid (take (n + 1) is)
laid_more is n d old new below so_far e =
    e ∙ ap (λ us. us ++ (Some (get_or is n d) ∷ replicate (units_of (get_or is n d).op - 1) None)) so_far
    ∙ sym (ap laid (take_more is n d below) ∙ laid-push (take n is) (get_or is n d))
