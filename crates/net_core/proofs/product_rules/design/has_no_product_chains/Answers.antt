use Rattle.std.proofs.Common.{◌≡◌, ℕ, ◌+◌, ◌<◌, Bool, true, ◌&&◌, List, [], ◌∷◌, ◌++◌, length, get_or, sym, ap, ◌∙◌, drop, map}
use Rattle.std.proofs.lemmas.List.{drop_more}
use Rattle.net_core.specs.declared.design.Wire.{Wire}
use Rattle.net_core.specs.View.{right_of, wire_of}
use Rattle.net_core.specs.ProductRules.Products.{made_by_product, right_product, right_flat, wires_flat, wire_products}
use Rattle.net_core.proofs.product_rules.design.has_no_product_chains.Goals as goal

-- one wire on
module _ (marks more : List Bool) (ws : List Wire) (k : ℕ) (w : Wire) (inside : k < length ws) (is : w ≡ get_or ws k w) (grown : more ≡ marks ++ right_product (made_by_product marks) (right_of w.right) ∷ []) where
  here : drop k ws ≡ w ∷ drop (k + 1) ws
  here = drop_more ws k w inside ∙ ap (λ x. x ∷ drop (k + 1) ws) (sym is)

  flat_on : right_flat (made_by_product marks) (right_of w.right) ≡ true → wires_flat more (map wire_of (drop (k + 1) ws)) ≡ wires_flat marks (map wire_of (drop k ws))
  flat_on h = sym (ap (λ l. wires_flat marks (map wire_of l)) here ∙ (λ i. h i && wires_flat (sym grown i) (map wire_of (drop (k + 1) ws))))

  marks_on : wire_products more (map wire_of (drop (k + 1) ws)) ≡ wire_products marks (map wire_of (drop k ws))
  marks_on = sym (ap (λ l. wire_products marks (map wire_of l)) here ∙ ap (λ l. wire_products l (map wire_of (drop (k + 1) ws))) (sym grown))

pub loop-wire-preserved : goal.loop-wire-preserved
loop-wire-preserved c =
    let marks = c.loop-wire.marks.items in
    let ws = c.deref-wire-items.result.now in
    let k = c.loop-wire.wire-index in
    let w = c.wire-item.result in
    let found = c.in_right-found.ensures in
    let same = c.deref.ensures.value in
    let grown = c.in_ok-push.ensures.items ∙ ap (λ b. marks ++ b ∷ []) (found.product ∙ ap (λ l. right_product (made_by_product l) (right_of w.right)) same) in
    let flat = sym (ap (λ l. right_flat (made_by_product l) (right_of w.right)) same) ∙ sym found.apart ∙ c.if-not-found.false in
    record {
      flat = flat_on marks c.push.new.self.items ws k w c.loop-wire-test.true c.wire-item.is grown flat ∙ c.loop-wire.invariant.flat;
      marks = marks_on marks c.push.new.self.items ws k w c.loop-wire-test.true c.wire-item.is grown ∙ c.loop-wire.invariant.marks;
    }
