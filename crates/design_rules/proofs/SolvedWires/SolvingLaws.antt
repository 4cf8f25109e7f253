-- Wires that read earlier ones alone have one solution, which is their values in text order.
use Rattle.std.specs.Prelude.{◌≡◌, ℕ, zero, suc, ◌+◌, ◌<◌, true, List, [], ◌∷◌, ◌++◌, length, take}
use Rattle.std.proofs.Common.{get_or, refl, sym, ap, ◌∙◌, arith, subst, append_assoc, length-append}
use Rattle.std.proofs.lemmas.Bool.{and_parts, ltb-true}
use Rattle.std.proofs.lemmas.List.{get_or_append_left, get_or_at, append-nil}
use Rattle.net_core.specs.declared.tree.Word.{Word}
use Rattle.net_core.specs.declared.tree.Net.{Net}
use Rattle.net_core.specs.declared.tree.Net.TheVariants as net
use Rattle.net_core.specs.Nets.{Tree, TConst, TRead, TBit, TPartSelect, TMemoryWord, TUnary, TBinary, TConditional, TConcatenation, Trees, TLast, TMore, RightTree, RPlain, RQuotient, RRemainder, WireTree, Netlist}
use Rattle.net_core.specs.Value.{nothing, Env, part_select, apply_unary, value, concatenated_parts, right_value}
use Rattle.net_core.specs.Clock.{Stored, net_value, memory_word_value, env, with_wires}
use Rattle.design_rules.specs.FormedScope.{sorts, is_value, reads_known, parts_known, right_known}
use Rattle.design_rules.specs.Formed.{IsWellFormed}
use Rattle.design_rules.proofs.FormedItemLaws.{wire_kept}
use Rattle.design_rules.specs.SolvedWires.Solving.{Solves}
use Rattle.design_rules.specs.SolvedWires.Laws.{ClocksSolveWires, WiresHaveOneSolution}

-- each of these wires, from one on, reads what stands before it
abbrev pub AreKnownRights : Netlist → ℕ → List WireTree → Type 0
AreKnownRights d at [] = Unit {0}
AreKnownRights d at (w ∷ ws) = (right_known (sorts d at) w.right ≡ true) × AreKnownRights d (suc at) ws

pub known_from : (d : Netlist) (at : ℕ) (ws : List WireTree) → ((i : ℕ) (w : WireTree) → i < length ws → w ≡ get_or ws i w → right_known (sorts d (at + i)) w.right ≡ true) → AreKnownRights d at ws
known_from d at [] h = tt
known_from d at (w ∷ ws) h = (
  subst (λ n. right_known (sorts d n) w.right ≡ true) (omega arith) (h 0 w (omega arith) refl),
  known_from d (suc at) ws (λ i x l e. subst (λ n. right_known (sorts d n) x.right ≡ true) (omega arith) (h (suc i) x (omega arith) e)),
)

pub rights_known : (d : Netlist) → IsWellFormed d → AreKnownRights d 0 d.wires
rights_known d f = known_from d 0 d.wires (λ i w l e. subst (λ n. right_known (sorts d n) w.right ≡ true) (omega arith) (wire_kept d f i w l e).known)

module _ (d : Netlist) (ins : List Word) (s : Stored) where
  module _ (ws more : List Word) (k : ℕ) (len : length ws ≡ k) where
    net_later : (n : Net) → is_value d k n ≡ true → net_value ins s (ws ++ more) n ≡ net_value ins s ws n
    net_later (net.Wire i) h = get_or_append_left ws more nothing i (omega (arith, len, ltb-true i k h))
    net_later (net.Port i) h = refl
    net_later (net.Register i) h = refl
    net_later (net.Memory i) h = refl

    mutual
      later : (e : Tree Net) → reads_known (sorts d k) e ≡ true → value (env ins s (ws ++ more)) e ≡ value (env ins s ws) e
      later (TConst w) h = refl
      later (TRead n) h = net_later n h
      later (TBit n i) h = ap (λ w. part_select w i i) (net_later n h)
      later (TPartSelect n hi lo) h = ap (λ w. part_select w hi lo) (net_later n h)
      later (TMemoryWord m i) h = ap (λ (w : Word). memory_word_value s m w.value) (later i (and_parts _ _ h).1)
      later (TUnary p a) h = ap (apply_unary p) (later a h)
      later (TBinary op a b) h = let g = and_parts _ _ h in let x = later a g.0 in let y = later b g.1 in rw (x, y)
      later (TConditional c a b) h = let g = and_parts _ _ h in let f = and_parts _ _ g.1 in let x = later c g.0 in let y = later a f.0 in let z = later b f.1 in rw (x, y, z)
      later (TConcatenation ps) h = parts_later ps h

      parts_later : (ps : Trees Net) → parts_known (sorts d k) ps ≡ true → concatenated_parts (env ins s (ws ++ more)) ps ≡ concatenated_parts (env ins s ws) ps
      parts_later (TLast a) h = later a h
      parts_later (TMore a ps) h = let g = and_parts _ _ h in let x = later a g.0 in let y = parts_later ps g.1 in rw (x, y)

    right_later : (r : RightTree Net) → right_known (sorts d k) r ≡ true → right_value (env ins s (ws ++ more)) r ≡ right_value (env ins s ws) r
    right_later (RPlain e) h = later e h
    right_later (RQuotient a b) h = let g = and_parts _ _ h in let x = net_later a g.0 in let y = net_later b g.1 in rw (x, y)
    right_later (RRemainder a b) h = let g = and_parts _ _ h in let x = net_later a g.0 in let y = net_later b g.1 in rw (x, y)

  -- the values in text order are the only solution
  pub unique : (at : ℕ) (ws rest : List Word) (rs : List WireTree) → length ws ≡ at → AreKnownRights d at rs → Solves (env ins s (ws ++ rest)) at rs → length rest ≡ length rs → with_wires ins s ws rs ≡ ws ++ rest
  unique at ws [] [] c k v l = sym (append-nil ws)
  unique at ws [] (r ∷ rs) c k v l = absurd (omega (arith, l))
  unique at ws (x ∷ rest) [] c k v l = absurd (omega (arith, l))
  unique at ws (x ∷ rest) (r ∷ rs) c k v l =
      let is : right_value (env ins s ws) r.right ≡ x = sym (right_later ws (x ∷ rest) at c r.right k.0) ∙ v.0 ∙ get_or_at ws x rest nothing at c in
      let whole : ws ++ x ∷ rest ≡ (ws ++ x ∷ []) ++ rest = sym (append_assoc ws (x ∷ []) rest) in
      ap (λ y. with_wires ins s (ws ++ y ∷ []) rs) is
      ∙ unique (suc at) (ws ++ x ∷ []) rest rs (length-append ws (x ∷ []) ∙ omega (arith, c)) k.1 (subst (λ all. Solves (env ins s all) (suc at) rs) whole v.1) (omega (arith, l))
      ∙ sym whole

  record Extends (ws all : List Word) (n : ℕ) : Type 0 where
    more : List Word
    is : all ≡ ws ++ more
    count : length more ≡ n

  extends : (ws : List Word) (rs : List WireTree) → Extends ws (with_wires ins s ws rs) (length rs)
  extends ws [] = record { more = []; is = sym (append-nil ws); count = refl }
  extends ws (r ∷ rs) =
      let x = right_value (env ins s ws) r.right in
      let t = extends (ws ++ x ∷ []) rs in
      record { more = x ∷ t.more; is = t.is ∙ append_assoc ws (x ∷ []) t.more; count = ap suc t.count }

  pub wires_counted : (rs : List WireTree) → length (with_wires ins s [] rs) ≡ length rs
  wires_counted rs = let t = extends [] rs in ap length t.is ∙ t.count

  -- the values in text order are a solution
  pub solved : (at : ℕ) (ws : List Word) (rs : List WireTree) → length ws ≡ at → AreKnownRights d at rs → Solves (env ins s (with_wires ins s ws rs)) at rs
  solved at ws [] c k = tt
  solved at ws (r ∷ rs) c k =
      let x = right_value (env ins s ws) r.right in
      let t = extends (ws ++ x ∷ []) rs in
      let is : with_wires ins s ws (r ∷ rs) ≡ ws ++ x ∷ t.more = t.is ∙ append_assoc ws (x ∷ []) t.more in (
        rw is (right_later ws (x ∷ t.more) at c r.right k.0 ∙ sym (get_or_at ws x t.more nothing at c)),
        solved (suc at) (ws ++ x ∷ []) rs (length-append ws (x ∷ []) ∙ omega (arith, c)) k.1,
      )

pub clocks_solve_wires : ClocksSolveWires
clocks_solve_wires d f ins s = solved d ins s 0 [] d.wires refl (rights_known d f)

pub wires_have_one_solution : WiresHaveOneSolution
wires_have_one_solution d f ins s ws l v = unique d ins s 0 [] ws d.wires refl (rights_known d f) v l

-- ---- some of the wires
module _ (v : Env Net) where
  pub solves_take : (at n : ℕ) (a : List WireTree) → Solves v at a → Solves v at (take n a)
  solves_take at zero a s = tt
  solves_take at (suc n) [] s = tt
  solves_take at (suc n) (x ∷ rest) s = (s.0, solves_take (suc at) n rest s.1)

  pub solved_at : (at n : ℕ) (a : List WireTree) (d : WireTree) → Solves v at a → n < length a → right_value v (get_or a n d).right ≡ v.net (net.Wire (at + n))
  solved_at at n [] d s l = absurd (omega arith)
  solved_at at zero (x ∷ rest) d s l = s.0 ∙ ap (λ k. v.net (net.Wire k)) (omega arith)
  solved_at at (suc n) (x ∷ rest) d s l = solved_at (suc at) n rest d s.1 (omega arith) ∙ ap (λ k. v.net (net.Wire k)) (omega arith)

  -- one of these wires has this right side
  pub found : (all : List WireTree) (j : ℕ) (w : WireTree) (a b : Tree Net) → Solves v 0 all → j < length all → w ≡ get_or all j w → w.right ≡ RPlain a → a ≡ b → v.net (net.Wire j) ≡ value v b
  found all j w a b s l e r same =
      sym (ap (value v) (sym same) ∙ ap (right_value v) (sym r) ∙ ap (λ (z : WireTree). right_value v z.right) e ∙ solved_at 0 j all w s l ∙ ap (λ k. v.net (net.Wire k)) (omega arith))
