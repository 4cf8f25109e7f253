use Rattle.std.proofs.Common.{◌∙◌, sym, ap, subst, map, take, ◌+◌, arith, ◌++◌, [], ◌∷◌}
use Rattle.std.proofs.lemmas.List.{map_more, take_all}
use Rattle.register_rules.specs.EqualRegisters.Settings.{setting_of, IsSetAlike}
use Rattle.register_rules.specs.NarrowRegisters.Narrow.{Each}
use Rattle.register_rules.proofs.NarrowRegisters.EachLaws.{each_append}
use Rattle.register_rules.proofs.equal_registers.repeating.are_set_alike.Goals as goal

pub loop-i-preserved : goal.loop-i-preserved
loop-i-preserved c v nets =
    let i = c.loop-i.i in
    let x = c.index-a-i.result in
    let y = c.index-b-i.result in
    let xs = map setting_of (take i c.args.a.now) in
    let ys = map setting_of (take i c.args.b.now) in
    let left = map_more setting_of c.args.a.now i x (omega arith) ∙ ap (λ z. xs ++ setting_of z ∷ []) (sym c.index-a-i.is) in
    let right = map_more setting_of c.args.b.now i y (omega arith) ∙ ap (λ z. ys ++ setting_of z ∷ []) (sym c.index-b-i.is) in
    subst (λ l. Each (IsSetAlike v) l (map setting_of (take (i + 1) c.args.b.now))) (sym left)
    (subst (λ l. Each (IsSetAlike v) (xs ++ setting_of x ∷ []) l) (sym right)
    (each_append (IsSetAlike v) xs ys (setting_of x) (setting_of y) (c.loop-i.invariant v nets) (omega arith, c.is_alike.ensures c.if-not-is_alike.false v v nets)))

pub returns : goal.returns
returns c e v nets =
    let i = c.loop-i.i in
    subst (λ l. Each (IsSetAlike v) l (map setting_of c.args.b.now)) (ap (map setting_of) (take_all i c.args.a.now (omega arith)))
    (subst (λ l. Each (IsSetAlike v) (map setting_of (take i c.args.a.now)) l) (ap (map setting_of) (take_all i c.args.b.now (omega arith))) (c.loop-i.invariant v nets))
