-- Wires that read earlier ones have the values of their right sides, once all are valued in text order.
use Rattle.std.specs.Prelude.{◌≡◌, ℕ, suc, ◌<◌, List, [], ◌∷◌, ◌++◌, length}
use Rattle.std.proofs.Common.{refl, sym, ap, ◌∙◌, arith, append_assoc, length-append, subst}
use Rattle.std.proofs.lemmas.List.{get_or_append_left, get_or_at, append-nil}
use Rattle.net_core.specs.declared.tree.Word.{Word}
use Rattle.net_core.specs.declared.tree.Net.{Net}
use Rattle.net_core.specs.declared.tree.Net.TheVariants as net
use Rattle.net_core.specs.Nets.{Tree, TConst, TRead, TBit, TPartSelect, TMemoryWord, TUnary, TBinary, TConditional, TConcatenation, Trees, TLast, TMore, RightTree, RPlain, RQuotient, RRemainder, WireTree}
use Rattle.net_core.specs.Value.{nothing, part_select, apply_unary, value, concatenated_parts, right_value, Env}
use Rattle.net_core.specs.Clock.{Stored, net_value, memory_word_value, env, with_wires}
use Rattle.block_core.specs.Order.{Reads, AllRead, RightReads}

abbrev pub IsEarly : ℕ → Net → Type 0
IsEarly n (net.Port i) = Unit {0}
IsEarly n (net.Register i) = Unit {0}
IsEarly n (net.Memory i) = Unit {0}
IsEarly n (net.Wire i) = i < n

-- each wire, from one on, reads earlier ones
abbrev pub Ordered : ℕ → List WireTree → Type 0
Ordered at [] = Unit {0}
Ordered at (w ∷ ws) = RightReads (IsEarly at) w.right × Ordered (suc at) ws

abbrev pub Solved : Env Net → ℕ → List WireTree → Type 0
Solved v at [] = Unit {0}
Solved v at (w ∷ ws) = (v.net (net.Wire at) ≡ right_value v w.right) × Solved v (suc at) ws

module _ (ins : List Word) (s : Stored) where
  net_later : (ws more : List Word) (n : Net) → IsEarly (length ws) n → net_value ins s (ws ++ more) n ≡ net_value ins s ws n
  net_later ws more (net.Wire i) h = get_or_append_left ws more nothing i h
  net_later ws more (net.Port i) h = refl
  net_later ws more (net.Register i) h = refl
  net_later ws more (net.Memory i) h = refl

  mutual
    later : (ws more : List Word) (e : Tree Net) → Reads (IsEarly (length ws)) e → value (env ins s (ws ++ more)) e ≡ value (env ins s ws) e
    later ws more (TConst w) h = refl
    later ws more (TRead n) h = net_later ws more n h
    later ws more (TBit n i) h = ap (λ w. part_select w i i) (net_later ws more n h)
    later ws more (TPartSelect n hi lo) h = ap (λ w. part_select w hi lo) (net_later ws more n h)
    later ws more (TMemoryWord m i) h = ap (λ (w : Word). memory_word_value s m w.value) (later ws more i h.1)
    later ws more (TUnary p a) h = ap (apply_unary p) (later ws more a h)
    later ws more (TBinary op a b) h = let x = later ws more a h.0 in let y = later ws more b h.1 in rw (x, y)
    later ws more (TConditional c a b) h = let x = later ws more c h.0 in let y = later ws more a h.1 in let z = later ws more b h.2 in rw (x, y, z)
    later ws more (TConcatenation ps) h = parts_later ws more ps h

    parts_later : (ws more : List Word) (ps : Trees Net) → AllRead (IsEarly (length ws)) ps → concatenated_parts (env ins s (ws ++ more)) ps ≡ concatenated_parts (env ins s ws) ps
    parts_later ws more (TLast a) h = later ws more a h
    parts_later ws more (TMore a ps) h = let x = later ws more a h.0 in let y = parts_later ws more ps h.1 in rw (x, y)

  right_later : (ws more : List Word) (r : RightTree Net) → RightReads (IsEarly (length ws)) r → right_value (env ins s (ws ++ more)) r ≡ right_value (env ins s ws) r
  right_later ws more (RPlain e) h = later ws more e h
  right_later ws more (RQuotient a b) h = let x = net_later ws more a h.0 in let y = net_later ws more b h.1 in rw (x, y)
  right_later ws more (RRemainder a b) h = let x = net_later ws more a h.0 in let y = net_later ws more b h.1 in rw (x, y)

  record Extends (ws all : List Word) : Type 0 where
    more : List Word
    is : all ≡ ws ++ more

  extends : (ws : List Word) (rs : List WireTree) → Extends ws (with_wires ins s ws rs)
  extends ws [] = record { more = []; is = sym (append-nil ws) }
  extends ws (r ∷ rs) = let x = right_value (env ins s ws) r.right in let t = extends (ws ++ x ∷ []) rs in record { more = x ∷ t.more; is = t.is ∙ append_assoc ws (x ∷ []) t.more }

  pub solved : (ws : List Word) (at : ℕ) (rs : List WireTree) → length ws ≡ at → Ordered at rs → Solved (env ins s (with_wires ins s ws rs)) at rs
  solved ws at [] c h = tt
  solved ws at (r ∷ rs) c h =
      let x = right_value (env ins s ws) r.right in
      let t = extends (ws ++ x ∷ []) rs in
      let is : with_wires ins s ws (r ∷ rs) ≡ ws ++ x ∷ t.more = t.is ∙ append_assoc ws (x ∷ []) t.more in
      let early : RightReads (IsEarly (length ws)) r.right = subst (λ n. RightReads (IsEarly n) r.right) (sym c) h.0 in (
        rw is (get_or_at ws x t.more nothing at c ∙ sym (right_later ws (x ∷ t.more) r.right early)),
        solved (ws ++ x ∷ []) (suc at) rs (length-append ws (x ∷ []) ∙ omega arith) h.1,
      )
