use Rattle.std.proofs.Common.{◌≡◌, ℕ, List, ◌∙◌, sym, ap, subst, map, take, arith, ◌++◌, [], ◌∷◌}
use Rattle.std.proofs.lemmas.List.{map_more, map-append}
use Rattle.net_core.specs.declared.design.Wire.{Wire}
use Rattle.net_core.specs.Nets.{WireTree}
use Rattle.net_core.specs.View.{wire_of}
use Rattle.register_rules.specs.declared.narrow_registers.codes.Code.{Code}
use Rattle.register_rules.specs.NarrowRegisters.Narrow.{IsNarrowedRight, AreNarrowedWires}
use Rattle.register_rules.proofs.NarrowRegisters.DesignLemmas.{wires_append}
use Rattle.register_rules.proofs.narrow_registers.storing.narrow_wires.Goals as goal

wires_pushed : (registers now : List Code) (zs made : List ℕ) (z : ℕ) (xs old new : List Wire) (x y : Wire) (whole : List WireTree) → now ≡ registers → made ≡ zs ++ z ∷ [] → whole ≡ map wire_of xs ++ wire_of x ∷ [] → new ≡ old ++ y ∷ []
    → AreNarrowedWires registers [] zs (map wire_of xs) (map wire_of old) → IsNarrowedRight (record { registers = now; wires = zs }) z (wire_of x).right (wire_of y).right → AreNarrowedWires registers [] made whole (map wire_of new)
wires_pushed registers now zs made z xs old new x y whole p q r t h e =
    subst (λ l. AreNarrowedWires registers [] l whole (map wire_of new)) (sym q)
    (subst (λ l. AreNarrowedWires registers [] (zs ++ z ∷ []) l (map wire_of new)) (sym r)
    (subst (λ l. AreNarrowedWires registers [] (zs ++ z ∷ []) (map wire_of xs ++ wire_of x ∷ []) l) (sym (ap (map wire_of) t ∙ map-append wire_of old (y ∷ [])))
    (wires_append registers [] zs (map wire_of xs) (map wire_of old) z (wire_of x) (wire_of y) h
    (subst (λ l. IsNarrowedRight (record { registers = l; wires = zs }) z (wire_of x).right (wire_of y).right) p e))))

pub loop-wire-preserved : goal.loop-wire-preserved
loop-wire-preserved c =
    let l = c.loop-wire in
    let before = take l.wire-index c.args.wires.now in
    let whole = map_more wire_of c.args.wires.now l.wire-index c.wire-item.result (omega arith) ∙ ap (λ x. map wire_of before ++ wire_of x ∷ []) (sym c.wire-item.is) in
    record {
      registers = l.invariant.registers;
      wires = wires_pushed c.args.registers.items l.codes.registers.items l.codes.wires.items _ _ before l.all.items _ c.wire-item.result _ _ l.invariant.registers c.in_ok-push-2.ensures.items whole
          c.in_ok-push.ensures.items l.invariant.wires c.in_ok-right.ensures;
    }
