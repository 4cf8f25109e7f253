-- Nets of the part among all nets.
use Rattle.std.specs.Prelude.{Contains}
use Rattle.std.proofs.Common.{◌≡◌, inl, inr, ℕ, zero, suc, ◌+◌, ◌<◌, All, List, ◌++◌, subst, arith}
use Rattle.std.proofs.lemmas.List.Elements.{All-nil, All-cons, All-contains, Contains-append_cases}
use Rattle.block_core.specs.declared.name.Name.{Name}
use Rattle.block_core.specs.declared.name.Name.TheVariants as name
use Rattle.cell_nets.specs.declared.operand.Operand.{Operand}
use Rattle.cell_nets.specs.declared.operand.Operand.TheVariants.{Known, Net, Part}
use Rattle.cell_nets.specs.Operands.{IsNetOf}
use Rattle.turn_net.specs.Nets.{slot_operands}

-- ---- what holds of each register
pub slots_all : {P : Type 0} (p : P) (bits : ℕ) (Q : Operand (Name P) → Type 0) (at n : ℕ) → ((i : ℕ) → i < n → Q (Net (name.Register p (at + i)) bits)) → All Q (slot_operands p bits at n)
slots_all p bits Q at zero h = All-nil Q
slots_all p bits Q at (suc n) h =
    let z : at + 0 ≡ at = omega arith in
    All-cons Q (Net (name.Register p at) bits) (slot_operands p bits (suc at) n) (subst (λ k. Q (Net (name.Register p k) bits)) z (h 0 (omega arith)))
    (slots_all p bits Q (suc at) n (λ i l. let f : at + suc i ≡ suc at + i = omega arith in subst (λ k. Q (Net (name.Register p k) bits)) f (h (suc i) (omega arith))))

-- of two lists of operands each
pub beside_all : {N : Type 0} (Q : Operand N → Type 0) (xs ys : List (Operand N)) → All Q xs → ((a : Operand N) → Contains ys a → Q a) → (a : Operand N) → Contains (xs ++ ys) a → Q a
beside_all Q xs ys h k a c = elim (Contains-append_cases xs ys a c) [
  | inl x ↦ All-contains Q xs a h x
  | inr x ↦ k a x
]

-- ---- nets of operands
abbrev pub NetIs : {N : Type 0} → (N → Type 0) → Operand N → Type 0
NetIs q (Known n) = Unit {0}
NetIs q (Net n w) = q n
NetIs q (Part n of from w) = q n

pub nets_of : {N : Type 0} (q : N → Type 0) (xs : List (Operand N)) → ((a : Operand N) → Contains xs a → NetIs q a) → (n : N) → IsNetOf xs n → q n
nets_of q xs h n (w, inl c) = h (Net n w) c
nets_of q xs h n (w, inr (from, u, c)) = h (Part n w from u) c

pub net_is : {N : Type 0} (q : N → Type 0) (xs : List (Operand N)) → ((n : N) → IsNetOf xs n → q n) → (a : Operand N) → Contains xs a → NetIs q a
net_is q xs h (Known n) c = tt
net_is q xs h (Net n w) c = h n (w, inl c)
net_is q xs h (Part n of from w) c = h n (of, inr (from, w, c))
