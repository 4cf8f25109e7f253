use Rattle.std.proofs.Common.{◌≡◌, ap, sym, ◌∙◌, get_or, arith}
use Rattle.std.specs.Cmp.Lexicographic.{same_text}
use Rattle.std.proofs.lemmas.List.{get_or_default}
use Rattle.xdp_maps.specs.declared.decl.MapDecl.{MapDecl}
use Rattle.xdp_maps.specs.State.{no_decl}
use Rattle.maps_text.proofs.Names.{map_named-found, map_named-none}
use Rattle.maps_text.proofs.decls.map_named.Goals as goal

pub returns-then-eq-clause-named : goal.returns-then-eq-clause-named
returns-then-eq-clause-named c =
    let at : c.index-decls-i.result ≡ get_or c.args.decls.now c.loop-i.i no_decl = c.index-decls-i.is ∙ get_or_default c.args.decls.now c.loop-i.i c.index-decls-i.result no_decl c.loop-i-test.true in
    let name : c.args.name.now ≡ (get_or c.args.decls.now c.loop-i.i no_decl).name = sym (same_text _ _ c.if-eq.ensures) ∙ c.as_slice.ensures.bytes ∙ ap (λ (d : MapDecl). d.name) at in
    sym (map_named-found c.args.name.now c.args.decls.now c.loop-i.i c.loop-i-test.true name c.loop-i.invariant)

pub returns-clause-named : goal.returns-clause-named
returns-clause-named c =
    sym (map_named-none c.args.name.now c.args.decls.now (λ k d below. c.loop-i.invariant k d (omega (arith, below, c.loop-i-test.false))))
