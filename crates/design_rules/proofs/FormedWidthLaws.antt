-- A well-formed design is well typed.
use Rattle.std.specs.Prelude.{◌≡◌, ℕ, zero, suc, ◌<◌, ◌==◌, nat_lt, nat_le, Bool, true, false, ◌&&◌, List, [], ◌∷◌, ◌++◌, length, take, drop}
use Rattle.std.specs.Cmp.Lexicographic.{pointwise}
use Rattle.std.proofs.Common.{get_or, refl, sym, subst, ap, ◌∙◌, add-one, arith}
use Rattle.std.proofs.lemmas.Bool.{and_parts, and_from, eqb-true, ltb-true}
use Rattle.std.proofs.lemmas.List.{take_more}
use Rattle.net_core.specs.declared.design.Port.{Port}
use Rattle.net_core.specs.declared.design.Declared.{Declared}
use Rattle.net_core.specs.declared.design.Declared.TheVariants.{Integer, Register, Memory}
use Rattle.net_core.specs.declared.tree.Net.{Net}
use Rattle.net_core.specs.Nets.{StatementTree, WireTree, AssignTree, Netlist}
use Rattle.net_core.specs.Ports.{port_list}
use Rattle.net_core.specs.Width.{IsTyped, same, declared_typed, wires_typed, wire_widths, assigns_typed, statements_all_typed, word_fits}
use Rattle.net_core.proofs.WireLaws.{width_at, length_widths}
use Rattle.design_rules.specs.Formed.{IsWellFormed, same_bool, same_port, declared_fits, wire_fits, assign_fits, block_fits}
use Rattle.design_rules.proofs.FormedItemLaws.{declared_kept, wire_kept, assign_kept, block_kept, last_kept}

same_bool_true : (a b : Bool) → same_bool a b ≡ true → a ≡ b
same_bool_true true b h = sym h
same_bool_true false true h = cc
same_bool_true false false h = refl

same_port_true : (a b : Port) → same_port a b ≡ true → a ≡ b
same_port_true a b h =
    let s = and_parts (same_bool a.output b.output) (a.width == b.width) h in
    ap (λ o. record { output = o; width = a.width }) (same_bool_true a.output b.output s.0) ∙ ap (λ w. record { output = b.output; width = w }) (eqb-true a.width b.width s.1)

-- lists that agree place by place
pub pointwise_true : {A : Type 0} (E : A → A → Bool) → ((a b : A) → E a b ≡ true → a ≡ b) → (xs ys : List A) → pointwise E xs ys ≡ true → xs ≡ ys
pointwise_true E p [] [] h = refl
pointwise_true E p [] (y ∷ ys) h = cc
pointwise_true E p (x ∷ xs) [] h = cc
pointwise_true E p (x ∷ xs) (y ∷ ys) h =
    let s = and_parts (E x y) (pointwise E xs ys) h in
    ap (λ z. z ∷ xs) (p x y s.0) ∙ ap (λ zs. y ∷ zs) (pointwise_true E p xs ys s.1)

declared_all : (xs : List Declared) → ((i : ℕ) (x : Declared) → i < length xs → x ≡ get_or xs i x → declared_fits x ≡ true) → declared_typed xs ≡ true
declared_all [] f = refl
declared_all (Integer ∷ xs) f = declared_all xs (λ i x l e. f (suc i) x (omega arith) e)
declared_all (Register w ∷ xs) f =
    and_from (word_fits w) (declared_typed xs) (f 0 (Register w) (omega arith) refl) (declared_all xs (λ i x l e. f (suc i) x (omega arith) e))
declared_all (Memory i w n ∷ xs) f =
    let s = and_parts (nat_le 1 i && nat_le i 16) (word_fits w) (f 0 (Memory i w n) (omega arith) refl) in
    and_from (nat_le 1 i && nat_le i 16) (word_fits w && declared_typed xs) s.0
    (and_from (word_fits w) (declared_typed xs) s.1 (declared_all xs (λ i x l e. f (suc i) x (omega arith) e)))

-- what is left from a place on
left_in : {A : Type 0} (xs : List A) (k : ℕ) (x : A) (rest : List A) → drop k xs ≡ x ∷ rest → (k < length xs) × (x ≡ get_or xs k x) × (rest ≡ drop (suc k) xs)
left_in [] zero x rest h = cc
left_in [] (suc k) x rest h = cc
left_in (y ∷ xs) zero x rest h = (omega arith, cc, cc)
left_in (y ∷ xs) (suc k) x rest h = let f = left_in xs k x rest h in (omega arith, f.1, f.2)

wires_from : (d : Netlist) (rest : List WireTree) (k : ℕ) → drop k d.wires ≡ rest
    → ((i : ℕ) (w : WireTree) → i < length d.wires → w ≡ get_or d.wires i w → wire_fits d i w ≡ true)
    → wires_typed d (take k (wire_widths d.wires)) rest ≡ true
wires_from d [] k h f = refl
wires_from d (w ∷ rest) k h f =
    let l = left_in d.wires k w rest h in
    let n : k < length (wire_widths d.wires) = omega (arith, l.0, length_widths d.wires) in
    let e : take (suc k) (wire_widths d.wires) ≡ take k (wire_widths d.wires) ++ w.width ∷ [] =
    ap (λ m. take m (wire_widths d.wires)) (sym (add-one k)) ∙ take_more (wire_widths d.wires) k 0 n
    ∙ ap (λ v. take k (wire_widths d.wires) ++ v ∷ []) (width_at d.wires k w l.0 ∙ ap (λ x. x.width) (sym l.1)) in
    and_from (wire_fits d k w) (wires_typed d (take k (wire_widths d.wires) ++ w.width ∷ []) rest) (f k w l.0 l.1)
    (subst (λ ws. wires_typed d ws rest ≡ true) e (wires_from d rest (suc k) (sym l.2) f))

assigns_all : (d : Netlist) (xs : List AssignTree) → ((i : ℕ) (x : AssignTree) → i < length xs → x ≡ get_or xs i x → assign_fits d x ≡ true) → assigns_typed d xs ≡ true
assigns_all d [] f = refl
assigns_all d (a ∷ xs) f = and_from (assign_fits d a) (assigns_typed d xs) (f 0 a (omega arith) refl) (assigns_all d xs (λ i x l e. f (suc i) x (omega arith) e))

blocks_all : (d : Netlist) (xs : List (StatementTree Net)) → ((i : ℕ) (x : StatementTree Net) → i < length xs → x ≡ get_or xs i x → block_fits d x ≡ true) → statements_all_typed d xs ≡ true
blocks_all d [] f = refl
blocks_all d (a ∷ xs) f = and_from (block_fits d a) (statements_all_typed d xs) (f 0 a (omega arith) refl) (blocks_all d xs (λ i x l e. f (suc i) x (omega arith) e))

pub ports_listed : (d : Netlist) → IsWellFormed d → d.ports ≡ port_list
ports_listed d h = pointwise_true same_port same_port_true d.ports port_list (last_kept d h).ports

pub typed : (d : Netlist) → IsWellFormed d → IsTyped d
typed d h = record {
  ports = ports_listed d h;
  declared = declared_all d.declared (λ i x l e. (declared_kept d h i x l e).fits);
  wires = wires_from d d.wires 0 refl (λ i w l e. (wire_kept d h i w l e).fits);
  assigns = assigns_all d d.assigns (λ i a l e. (assign_kept d h i a l e).fits);
  outputs = (last_kept d h).assigned;
  always = blocks_all d d.always (λ i a l e. (block_kept d h i a l e).fits);
}

-- both sides of an assignment have a width
pub same_some : (a b : ℕ) → same a b ≡ true → (0 < a) × (0 < b)
same_some a b h =
    let s = and_parts (nat_lt 0 a) (a == b) h in
    let l : 0 < a = ltb-true 0 a s.0 in
    let e : a ≡ b = eqb-true a b s.1 in
    (l, omega arith)
