use Rattle.std.proofs.Common.{◌≡◌, true, false, sym, ap, ◌∙◌}
use Rattle.xdp_maps.specs.declared.decl.MapDecl.{MapDecl}
use Rattle.xdp_maps.specs.State.{decl_at}
use Rattle.maps_text.specs.Reading.{fits, map_named}
use Rattle.maps_text.proofs.Steps.{no_entry, no_map, no_fit, is_placed, takes_along}
use Rattle.maps_text.proofs.listed.take.Goals as goal

pub returns-in_default : goal.returns-in_default
returns-in_default c = λ listed same known. no_entry c.args.n listed c.args.line.now c.in_default.ensures

pub returns-in_default-map_named : goal.returns-in_default-map_named
returns-in_default-map_named c = λ listed same known.
    no_map c.args.n listed c.args.line.now c.in-Some.fields c.args.maps.now c.in-Some.ensures same (c.in_default-map_named.ensures.named ∙ ap (map_named c.in-Some.fields.name.now) c.decls.ensures.decls)

pub returns-in_default-pair_of : goal.returns-in_default-pair_of
returns-in_default-pair_of c = λ listed same known.
    let f = c.in-Some.ensures in
    let misfit : fits (decl_at c.args.maps.now c.in-Some-map_named.map) f.entry ≡ false = sym (ap (λ (d : MapDecl). fits d f.entry) c.decl_of.ensures.decl) ∙ c.in_default-pair_of.ensures.entry f.entry f.written in
    no_fit c.args.n listed c.args.line.now c.in-Some.fields c.args.maps.now f c.in-Some-map_named.map same (c.in-Some-map_named.ensures.named ∙ ap (map_named c.in-Some.fields.name.now) c.decls.ensures.decls) misfit

pub returns : goal.returns
returns c = λ listed same known.
    let f = c.in-Some.ensures in
    let pair = c.in-Some-pair_of.ensures.entry f.entry f.written in
    let fit : fits (decl_at c.args.maps.now c.in-Some-map_named.map) f.entry ≡ true = sym (ap (λ (d : MapDecl). fits d f.entry) c.decl_of.ensures.decl) ∙ pair.0 in
    takes_along c.put.result c.put.new.maps c.put.new.marks _ _
    (is_placed c.args.n listed c.args.line.now c.in-Some.fields c.args.maps.now f c.in-Some-map_named.map c.as_slice.result.now c.as_slice-2.result.now same (c.in-Some-map_named.ensures.named ∙ ap (map_named c.in-Some.fields.name.now) c.decls.ensures.decls) fit (c.as_slice.ensures.bytes ∙ pair.1) (c.as_slice-2.ensures.bytes ∙ pair.2))
    (c.put.ensures listed same known)
