-- Parts of wires alone, by what stands after their wires.
use Rattle.std.specs.Prelude.{Contains}
use Rattle.std.specs.List.{list_all}
use Rattle.std.proofs.Common.{◌≡◌, ◌⊎◌, inl, inr, ◌∙◌, ℕ, zero, suc, ◌+◌, ◌<◌, Bool, true, All, List, [], ◌∷◌, length, map as map_list, get_or, append-nil, refl, sym, ap, subst, arith}
use Rattle.std.proofs.lemmas.List.Elements.{All-contains, Contains-append_cases}
use Rattle.net_core.specs.Ports.{port_list}
use Rattle.net_core.specs.Value.{word, Env}
use Rattle.net_core.specs.Width.{Scope}
use Rattle.block_core.specs.ProductBlocks.Alone.{wire_flat}
use Rattle.block_core.specs.declared.name.Name.{Name}
use Rattle.block_core.specs.declared.name.Name.TheVariants as name
use Rattle.block_core.specs.Blocks.{BlockTree, BlockWireTree, Whole, Among}
use Rattle.block_core.specs.Parts.{Solve}
use Rattle.block_core.specs.Order.{IsBefore}
use Rattle.block_core.specs.Formed.{names_scope, block_wire_width, block_wires, IsThere}
use Rattle.cell_nets.specs.declared.operand.Operand.{Operand}
use Rattle.cell_nets.specs.declared.operand.Operand.TheVariants.{Known, Net, Part}
use Rattle.cell_nets.specs.Operands.{IsOperand, HasWidth, AreFit, IsDeclared, AreDeclared, IsAvailable, HasNet, IsNetOf}
use Rattle.cell_nets.specs.Wires.{own, behind, AreWires}
use Rattle.cell_nets.proofs.ApartLaws.{all_self}
use Rattle.cell_nets.proofs.ChoiceLaws.{fit_of}
use Rattle.cell_nets.specs.StepNets.Standing.{Stands}
use Rattle.cell_nets.specs.OperandBlocks.Wiring.{wires_block, IsWiring, Offers}

-- ---- no wires
pub no_wires : {P : Type 0} (p : P) (outside : List (Operand (Name P))) → AreWires p outside []
no_wires p outside = record { fits = λ v f s. subst (λ l. AreFit v l) (sym (append-nil outside)) f; goes = λ v f s. tt; typed = λ s h. refl; ordered = λ d before h. tt; spelled = refl }

pub all_outside : {P : Type 0} (p : P) (outside : List (Operand (Name P))) → All (IsAvailable (behind p outside [])) outside
all_outside p outside = subst (λ l. All (IsAvailable l) outside) (sym (append-nil outside)) (all_self outside)

-- ---- what holds of each wire of a part holds of each that is among them
pub own_all : {P : Type 0} (p : P) (Q : Operand (Name P) → Type 0) (ws : List (BlockWireTree (Name P))) (at : ℕ) → ((i : ℕ) → i < length ws → Q (Net (name.Wire p (at + i)) (get_or (map_list block_wire_width ws) i 0))) → (a : Operand (Name P)) → Contains (own p at ws) a → Q a
own_all p Q [] at h a (k, l, e) = absurd (omega arith)
own_all p Q (w ∷ ws) at h a (zero, l, e) = let z : at + 0 ≡ at = omega arith in subst Q e (subst (λ n. Q (Net (name.Wire p n) w.width)) z (h 0 (omega arith)))
own_all p Q (w ∷ ws) at h a (suc k, l, e) =
    own_all p Q ws (suc at) (λ i lt. let f : at + suc i ≡ suc at + i = omega arith in subst (λ n. Q (Net (name.Wire p n) (get_or (map_list block_wire_width ws) i 0))) f (h (suc i) (omega arith))) a (k, omega arith, e)

pub behind_declared : {P : Type 0} (p : P) (d : Whole P) (b : BlockTree (Name P)) (outside : List (Operand (Name P))) → d.block p ≡ b → AreDeclared (names_scope d port_list) outside → AreDeclared (names_scope d port_list) (behind p outside b.wires)
behind_declared {P = P} p d b outside here declared a c = by_case (Contains-append_cases outside (own p 0 b.wires) a c)
  where
    by_case : Contains outside a ⊎ Contains (own p 0 b.wires) a → IsDeclared (names_scope d port_list) a
    by_case (inl x) = declared a x
    by_case (inr x) =
        own_all p (IsDeclared (names_scope d port_list)) b.wires 0
        (λ i l. let z : 0 + i ≡ i = omega arith in ap (λ (c : BlockTree (Name P)). get_or (block_wires c) (0 + i) 0) here ∙ ap (λ k. get_or (block_wires b) k 0) z) a x

-- the net of an operand is such a one
abbrev OfNet : {P : Type 0} → (Name P → Type 0) → Operand (Name P) → Type 0
OfNet q (Known n) = Unit {0}
OfNet q (Net n w) = q n
OfNet q (Part n of from w) = q n

net_of : {P : Type 0} (q : Name P → Type 0) (ins : List (Operand (Name P))) → ((n : Name P) → IsNetOf ins n → q n) → (a : Operand (Name P)) → Contains ins a → OfNet q a
net_of q ins h (Known n) c = tt
net_of q ins h (Net n w) c = h n (w, inl c)
net_of q ins h (Part n of from w) c = h n (of, inr (from, w, c))

-- what holds of each net from outside and of each wire of the part holds of all that stand after its wires
from_each :
    {P : Type 0} (part : P) (outside : List (Operand (Name P))) (ws : List (BlockWireTree (Name P))) (q : Name P → Type 0) → ((n : Name P) → IsNetOf outside n → q n) → ((i : ℕ) → i < length ws → q (name.Wire part (0 + i))) → (a : Operand (Name P))
    → Contains (behind part outside ws) a → OfNet q a
from_each part outside ws q given mine a c = by_case (Contains-append_cases outside (own part 0 ws) a c)
  where
    by_case : Contains outside a ⊎ Contains (own part 0 ws) a → OfNet q a
    by_case (inl y) = net_of q outside given a y
    by_case (inr y) = own_all part (OfNet q) ws 0 mine a y

-- so are those of operands that are there
net_among : {P : Type 0} (q : Name P → Type 0) (ins outs : List (Operand (Name P))) → ((a : Operand (Name P)) → Contains ins a → OfNet q a) → All (IsAvailable ins) outs → (n : Name P) → IsNetOf outs n → q n
net_among q ins outs each there n (w, inl c) = each (Net n w) (All-contains (IsAvailable ins) outs (Net n w) there c)
net_among q ins outs each there n (w, inr (from, u, c)) = by_case (All-contains (IsAvailable ins) outs (Part n w from u) there c)
  where
    by_case : HasNet ins n w → q n
    by_case (inl x) = each (Net n w) x
    by_case (inr (at, bits, x)) = each (Part n w at bits) x

pub behind_nets :
    {P : Type 0} (part : P) (outside : List (Operand (Name P))) (ws : List (BlockWireTree (Name P))) (q : Name P → Type 0) → ((n : Name P) → IsNetOf outside n → q n) → ((i : ℕ) → i < length ws → q (name.Wire part (0 + i))) → (n : Name P)
    → IsNetOf (behind part outside ws) n → q n
behind_nets part outside ws q given mine n h = net_among q (behind part outside ws) (behind part outside ws) (from_each part outside ws q given mine) (all_self (behind part outside ws)) n h

declared_of : {N : Type 0} (s : Scope N) (ins : List (Operand N)) (a : Operand N) → IsAvailable ins a → AreDeclared s ins → IsDeclared s a
declared_of s ins (Known n) h d = tt
declared_of s ins (Net n w) h d = d (Net n w) h
declared_of s ins (Part n of from w) (inl c) d = d (Net n of) c
declared_of s ins (Part n of from w) (inr (at, bits, c)) d = d (Part n of at bits) c

-- ---- the part
module _ {P : Type 0} (part : P) (ws : List (BlockWireTree (Name P))) (outside outs : List (Operand (Name P))) (needs knows : Env (Name P) → Type 0) (x : Stands part [] ws outside needs outs knows) where
  pub all_wires : AreWires part outside ws
  all_wires = x.wires outside (no_wires part outside) (all_outside part outside)

  pub all_there : All (IsAvailable (behind part outside ws)) outs
  all_there = x.there outside (no_wires part outside) (all_outside part outside)

  pub all_known : (v : Env (Name P)) → AreFit v outside → Solve v part 0 ws → needs v → knows v
  all_known v f s n = x.known outside v (no_wires part outside) (all_outside part outside) f s n

  -- no product stands in them
  pub wires_flat : (made : Name P → Bool) → list_all (wire_flat made) ws ≡ true
  wires_flat made = subst (λ l. list_all (wire_flat made) l ≡ true) (sym x.apart.added) (x.apart.free refl made)

  pub is_wiring : IsWiring part outside (wires_block ws)
  is_wiring = record {
    registers = refl;
    memories = refl;
    typed = λ w here declared. record { registers = refl; memories = refl; wires = all_wires.typed (names_scope w port_list) (behind_declared part w (wires_block ws) outside here declared); statement = refl };
    ordered = λ w before h. all_wires.ordered w before h;
    reads = λ w. tt;
    within = tt;
    wires_spelled = all_wires.spelled;
    spelled = refl;
    free = record { wires = wires_flat; statement = λ made. refl };
    goes = λ v f s. all_wires.goes v f s;
    stays = λ v s. refl;
  }

  -- of a net that it gives the width, and the word where its number is known
  pub declared_there : (w : Whole P) → w.block part ≡ wires_block ws → AreDeclared (names_scope w port_list) outside → AreDeclared (names_scope w port_list) (behind part outside ws)
  declared_there w here declared = behind_declared part w (wires_block ws) outside here declared

  pub word_is : (v : Env (Name P)) → AreFit v outside → Solve v part 0 ws → (n : Name P) (u x : ℕ) → Contains (behind part outside ws) (Net n u) → (v.net n).value ≡ x → v.net n ≡ word u x
  word_is v f s n u x c e =
      let fit : HasWidth v n u = all_wires.fits v f s (Net n u) c in
      ap (λ k. word k (v.net n).value) fit.width ∙ ap (word u) e

  -- it is from outside or a wire of the part
  from_net : (q : Name P → Type 0) → ((n : Name P) → IsNetOf outside n → q n) → ((i : ℕ) → i < length ws → q (name.Wire part (0 + i))) → (n : Name P) (u : ℕ) → Contains (behind part outside ws) (Net n u) → q n
  from_net q given mine n u c = from_each part outside ws q given mine (Net n u) c

  pub before_later :
      (w : Whole P) (earlier : List P) (later : P) → w.block part ≡ wires_block ws → Among part earlier → ((n : Name P) → IsNetOf outside n → IsBefore w earlier later 0 n) → (n : Name P) (u : ℕ) → Contains (behind part outside ws) (Net n u) → IsBefore w earlier later 0 n
  before_later w earlier later here among given n u c = from_net (IsBefore w earlier later 0) given (λ i l. inr (among, subst (λ (b : BlockTree (Name P)). 0 + i < length b.wires) (sym here) (omega (arith, l)))) n u c

  pub there_in : (w : Whole P) → Among part w.parts → ((n : Name P) → IsNetOf outside n → IsThere w n) → (n : Name P) (u : ℕ) → Contains (behind part outside ws) (Net n u) → IsThere w n
  there_in w among given n u c = from_net (IsThere w) given (λ i l. among) n u c

  -- what stands after them is offered to others
  pub offers : All IsOperand outs → Offers part outside (wires_block ws) outs
  offers operands = record {
    operands = operands;
    declared = λ w here declared a c. declared_of (names_scope w port_list) (behind part outside ws) a (All-contains (IsAvailable (behind part outside ws)) outs a all_there c) (declared_there w here declared);
    before = λ w earlier later here among given.
        net_among (IsBefore w earlier later 0) (behind part outside ws) outs (from_each part outside ws (IsBefore w earlier later 0) given (λ i l. inr (among, subst (λ (b : BlockTree (Name P)). 0 + i < length b.wires) (sym here) (omega (arith, l))))) all_there;
    there = λ w among given. net_among (IsThere w) (behind part outside ws) outs (from_each part outside ws (IsThere w) given (λ i l. among)) all_there;
    fit = λ v f s a c. fit_of (behind part outside ws) v a (All-contains (IsAvailable (behind part outside ws)) outs a all_there c) (all_wires.fits v f s);
  }
