-- The words of wires fit sizes, one wire longer.
use Rattle.std.specs.Prelude.{◌≡◌, ℕ, zero, suc, ◌+◌, ◌<◌, List, [], ◌∷◌, ◌++◌, length, map, take}
use Rattle.std.proofs.Common.{get_or, sym, ap, ◌∙◌, arith, subst, inl, inr, length-append}
use Rattle.std.proofs.lemmas.Bool.{cases_lt, cases_eq}
use Rattle.std.proofs.lemmas.List.{get_or_past, get_or_append_left, get_or_push}
use Rattle.net_core.specs.declared.tree.Word.{Word}
use Rattle.net_core.specs.declared.tree.Net.{Net}
use Rattle.net_core.specs.declared.tree.Net.TheVariants as net
use Rattle.net_core.specs.declared.design.Wire.{Wire}
use Rattle.net_core.specs.declared.ports.Inputs.{Inputs}
use Rattle.net_core.specs.View.{right_of, wire_of}
use Rattle.net_core.specs.Value.{nothing, Env, right_value}
use Rattle.net_core.specs.Clock.{Stored, env, with_wires}
use Rattle.net_core.specs.Ports.{words_of}
use Rattle.net_rules.specs.NetSizes.Fitting.{Fits, NetSizes, AreFitting}
use Rattle.net_rules.specs.NetSizes.Staying.{HaveSizes}
use Rattle.net_rules.specs.NetSizes.Keeping.{WiresFit}
use Rattle.net_rules.proofs.NetSizes.PortLaws.{ports_have_sizes}

-- the values of one wire more
module _ (ins : List Word) (s : Stored) where
  wires_more : (ws : List Word) (xs : List Wire) (i : ℕ) (x : Wire) → i < length xs → x ≡ get_or xs i x
      → with_wires ins s ws (map wire_of (take (suc i) xs)) ≡ with_wires ins s ws (map wire_of (take i xs)) ++ right_value (env ins s (with_wires ins s ws (map wire_of (take i xs)))) (right_of x.right) ∷ []
  wires_more ws [] i x l e = absurd (omega arith)
  wires_more ws (y ∷ ys) zero x l e = ap (λ (z : Wire). ws ++ right_value (env ins s ws) (right_of z.right) ∷ []) (sym e)
  wires_more ws (y ∷ ys) (suc i) x l e = wires_more (ws ++ right_value (env ins s ws) (right_of y.right) ∷ []) ys i x (omega arith) e

  wires_counted : (ws : List Word) (xs : List Wire) (i : ℕ) → i < length xs → length (with_wires ins s ws (map wire_of (take i xs))) ≡ length ws + i
  wires_counted ws xs zero l = omega arith
  wires_counted ws [] (suc i) l = absurd (omega arith)
  wires_counted ws (y ∷ ys) (suc i) l =
      let x = right_value (env ins s ws) (right_of y.right) in
      wires_counted (ws ++ x ∷ []) ys i (omega arith) ∙ omega (arith, length-append ws (x ∷ []))

-- one word more
words_pushed : (zs : List ℕ) (ws : List Word) (z : ℕ) (w : Word) → length zs ≡ length ws → ((k : ℕ) → Fits (get_or zs k 0) (get_or ws k nothing)) → Fits z w
    → (k : ℕ) → Fits (get_or (zs ++ z ∷ []) k 0) (get_or (ws ++ w ∷ []) k nothing)
words_pushed zs ws z w long h f k = elim (cases_lt k (length ws)) [
  | inl lt ↦ rw (get_or_append_left zs (z ∷ []) 0 k (omega arith), get_or_append_left ws (w ∷ []) nothing k lt) (h k)
  | inr past ↦ elim (cases_eq k (length ws)) [
    | inl here ↦ rw (get_or_push zs z 0 k (long ∙ sym here), get_or_push ws w nothing k (sym here)) f
    | inr other ↦ rw (get_or_past (zs ++ z ∷ []) k 0 (omega (arith, length-append zs (z ∷ []), long))) (λ some. absurd (omega arith))
  ]
]

-- nets where wires have such words
nets_fit : (sizes : NetSizes) (i : Inputs) (s : Stored) (ws : List Word) → HaveSizes sizes.registers s → ((k : ℕ) → Fits (get_or sizes.wires k 0) (get_or ws k nothing)) → AreFitting sizes (env (words_of i) s ws)
nets_fit sizes i s ws h f (net.Port p) = ports_have_sizes i p
nets_fit sizes i s ws h f (net.Register k) = h k
nets_fit sizes i s ws h f (net.Memory k) = λ some. absurd (omega arith)
nets_fit sizes i s ws h f (net.Wire k) = f k

-- one wire more
pub wires_fit_more : (registers zs : List ℕ) (z : ℕ) (xs : List Wire) (i : ℕ) (x : Wire) → i < length xs → x ≡ get_or xs i x → length zs ≡ i
    → ((v : Env Net) → AreFitting (record { registers = registers; wires = zs }) v → Fits z (right_value v (right_of x.right)))
    → WiresFit (record { registers = registers; wires = zs }) (map wire_of (take i xs)) → WiresFit (record { registers = registers; wires = zs ++ z ∷ [] }) (map wire_of (take (suc i) xs))
wires_fit_more registers zs z xs i x l e count right fit ports s h =
    let ins = words_of ports in
    let ws = with_wires ins s [] (map wire_of (take i xs)) in
    let known = fit ports s h in
    nets_fit (record { registers = registers; wires = zs ++ z ∷ [] }) ports s (with_wires ins s [] (map wire_of (take (suc i) xs))) h
    (subst (λ all. (k : ℕ) → Fits (get_or (zs ++ z ∷ []) k 0) (get_or all k nothing)) (sym (wires_more ins s [] xs i x l e))
    (words_pushed zs ws z (right_value (env ins s ws) (right_of x.right)) (count ∙ sym (wires_counted ins s [] xs i l ∙ omega arith)) (λ k. known (net.Wire k)) (right (env ins s ws) known)))
