-- What walks over the lists of a design find.
use Rattle.std.specs.Prelude.{◌==◌, if◌then◌else◌, Contains, IsPermutation}
use Rattle.std.specs.List.{range_with_len}
use Rattle.std.proofs.Common.{◌≡◌, ℕ, zero, suc, ◌+◌, ◌<◌, true, false, Some, None, List, [], ◌∷◌, ◌++◌, length, map, drop, get_or, refl, sym, ap, ◌∙◌, subst, arith, add-one}
use Rattle.std.proofs.lemmas.Bool.{cond-true, cond-false, eq-eqb, ne_eqb}
use Rattle.std.proofs.lemmas.List.{drop_more, drop_all, get_or-map, length-map, map-id}
use Rattle.std.proofs.lemmas.List.FromFn.{length-range_with_len, get_or-range_with_len, map-range_with_len_more}
use Rattle.std.proofs.lemmas.List.Sorted.{length_permutation, Contains-permutation}
use Rattle.net_core.specs.declared.design.Design.{Design}
use Rattle.net_core.specs.declared.design.Wire.{Wire}
use Rattle.net_core.specs.declared.design.Assign.{Assign}
use Rattle.net_core.specs.declared.design.Port.{Port}
use Rattle.net_core.specs.declared.ports.Inputs.{Inputs}
use Rattle.net_core.specs.declared.ports.TheConstants.{PORT_COUNT}
use Rattle.net_core.specs.declared.tree.Word.{Word}
use Rattle.net_core.specs.declared.tree.Net.{Net}
use Rattle.net_core.specs.Nets.{RightTree, AssignTree, WireTree}
use Rattle.net_core.specs.Value.{Env, word, nothing, value, stops}
use Rattle.net_core.specs.Clock.{rights, stopped_at, assigned}
use Rattle.net_core.specs.Ports.{input_width, words_by, numbers_of}
use Rattle.net_core.specs.View.{netlist_of, right_of, wire_of, assign_of}
use Rattle.net_core.proofs.WireLaws.{length_rights}
use Rattle.event_sim.specs.Showing.{stored_for}
use Rattle.event_sim.specs.Orders.{IsOrder}
use Rattle.event_sim.proofs.Settling.{right_in}

-- ---- wires
pub drop_right : (ws : List Wire) (i : ℕ) (x : Wire) → i < length ws → x ≡ get_or ws i x → drop i (rights (map wire_of ws)) ≡ right_of x.right ∷ drop (i + 1) (rights (map wire_of ws))
drop_right ws i x l e =
    let count = length-map ws wire_of in
    let r = right_of x.right in
    drop_more (rights (map wire_of ws)) i r (omega (arith, l, count, length_rights (map wire_of ws)))
    ∙ ap (λ y. y ∷ drop (i + 1) (rights (map wire_of ws))) (right_in (map wire_of ws) i (wire_of x) r (omega (arith, l, count)) ∙ ap (λ (w : WireTree). w.right) (get_or-map wire_of ws i x (wire_of x) l ∙ ap wire_of (sym e)))

pub stop_here : (v : Env Net) (i : ℕ) (r : RightTree Net) (left rest : List (RightTree Net)) → left ≡ r ∷ rest → stops v r ≡ true → stopped_at v i left ≡ Some i
stop_here v i r left rest e h = ap (stopped_at v i) e ∙ cond-true (stops v r) (Some i) (stopped_at v (suc i) rest) h

pub stop_later : (v : Env Net) (i : ℕ) (r : RightTree Net) (left rest : List (RightTree Net)) → left ≡ r ∷ rest → stops v r ≡ false → stopped_at v i left ≡ stopped_at v (i + 1) rest
stop_later v i r left rest e h = ap (stopped_at v i) e ∙ cond-false (stops v r) (Some i) (stopped_at v (suc i) rest) h ∙ ap (λ n. stopped_at v n rest) (sym (add-one i))

pub stop_none : (v : Env Net) (i : ℕ) (ws : List Wire) → length ws < i + 1 → stopped_at v i (drop i (rights (map wire_of ws))) ≡ None
stop_none v i ws l = ap (stopped_at v i) (drop_all i (rights (map wire_of ws)) (omega (arith, l, length-map ws wire_of, length_rights (map wire_of ws))))

-- ---- ports
pub word_by : (ps : List Port) (ns : List ℕ) (k : ℕ) (p : Port) → k < length ps → k < length ns → get_or (words_by ps ns) k nothing ≡ word (input_width (get_or ps k p)) (get_or ns k 0)
word_by [] ns k p l m = absurd (omega arith)
word_by (q ∷ ps) [] k p l m = absurd (omega arith)
word_by (q ∷ ps) (n ∷ ns) zero p l m = refl
word_by (q ∷ ps) (n ∷ ns) (suc k) p l m = word_by ps ns k p (omega arith) (omega arith)

-- ---- assigns
module _ (port : ℕ) (a : AssignTree) (w : Word) (as_ rest : List AssignTree) (words more : List Word) (e : as_ ≡ a ∷ rest) (f : words ≡ w ∷ more) where
  first_is : stored_for as_ words port ≡ (if a.port == port then w else stored_for rest more port)
  first_is = ap (λ l. stored_for l words port) e ∙ ap (λ l. stored_for (a ∷ rest) l port) f

  pub stored_here : a.port ≡ port → stored_for as_ words port ≡ w
  stored_here h = first_is ∙ cond-true (a.port == port) w (stored_for rest more port) (eq-eqb a.port port h)

  pub stored_later : (a.port ≡ port → ⊥) → stored_for as_ words port ≡ stored_for rest more port
  stored_later h = first_is ∙ cond-false (a.port == port) w (stored_for rest more port) (ne_eqb a.port port h)

pub stored_none : (as_ : List Assign) (words : List Word) (i port : ℕ) → length as_ < i + 1 → stored_for (drop i (map assign_of as_)) (drop i words) port ≡ nothing
stored_none as_ words i port l = ap (λ k. stored_for k (drop i words) port) (drop_all i (map assign_of as_) (omega (arith, l, length-map as_ assign_of)))

-- what is stored for a port is what is assigned to it, where each assign stores its value
pub stored_is : (v : Env Net) (as_ : List AssignTree) (port : ℕ) → stored_for as_ (map (λ a. value v a.value) as_) port ≡ assigned v as_ port
stored_is v [] port = refl
stored_is v (a ∷ rest) port = ap (λ x. if a.port == port then value v a.value else x) (stored_is v rest port)

-- ---- elements
found : {X Y : Type 0} (f : X → Y) (xs ys : List X) (i : ℕ) (x : X) → ys ≡ xs → i < length ys → x ≡ get_or ys i x → (i < length (map f xs)) × (f x ≡ get_or (map f xs) i (f x))
found f xs ys i x same l e =
    let inside : i < length xs = omega (arith, l, ap length same) in
    (omega (arith, inside, length-map xs f), ap f (e ∙ ap (λ zs. get_or zs i x) same) ∙ sym (get_or-map f xs i x (f x) inside))

pub wire_found : (d : Design) (ws : List Wire) (i : ℕ) (x : Wire) → ws ≡ d.wires.items → i < length ws → x ≡ get_or ws i x → (i < length (netlist_of d).wires) × (wire_of x ≡ get_or (netlist_of d).wires i (wire_of x))
wire_found d ws i x same l e = found wire_of d.wires.items ws i x same l e

pub assign_found : (d : Design) (as_ : List Assign) (i : ℕ) (x : Assign) → as_ ≡ d.assigns.items → i < length as_ → x ≡ get_or as_ i x → (i < length (netlist_of d).assigns) × (assign_of x ≡ get_or (netlist_of d).assigns i (assign_of x))
assign_found d as_ i x same l e = found assign_of d.assigns.items as_ i x same l e

-- ---- orders
range_contains : (n k : ℕ) → k < n → Contains (range_with_len 0 n) k
range_contains n k l = (k, omega (arith, l, length-range_with_len 0 n), get_or-range_with_len 0 n k k l ∙ omega arith)

-- the numbers below n in another order
pub sorted_order : (n : ℕ) (xs ys : List ℕ) → xs ≡ range_with_len 0 n → IsPermutation xs ys → IsOrder n ys
sorted_order n xs ys e p = record {
  count = length_permutation xs ys p ∙ ap length e ∙ length-range_with_len 0 n;
  each = λ k l. Contains-permutation xs ys k p (subst (λ zs. Contains zs k) (sym e) (range_contains n k l));
}

pub range_more : (n : ℕ) → range_with_len 0 (n + 1) ≡ range_with_len 0 n ++ n ∷ []
range_more n = sym (map-id (range_with_len 0 (n + 1))) ∙ map-range_with_len_more (λ k. k) 0 n n (omega arith) ∙ ap (λ l. l ++ n ∷ []) (map-id (range_with_len 0 n))

-- ---- inputs
pub numbers_counted : (i : Inputs) → length (numbers_of i) ≡ PORT_COUNT
numbers_counted i = refl
