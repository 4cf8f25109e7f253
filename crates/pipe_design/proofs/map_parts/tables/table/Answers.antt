use Rattle.std.proofs.Common.{◌≡◌, ap, subst, arith}
use Rattle.commit_net.specs.declared.map_block.form.MapForm.{MapForm}
use Rattle.commit_net.specs.MapBlock.Parts.{trees_of}
use Rattle.commit_net.specs.MapBlock.Block.{IsMapBlock}
use Rattle.pipe_design.proofs.MapParts.Forming.{form_is}
use Rattle.pipe_design.proofs.map_parts.tables.table.Goals as goal

pub returns-in_ok-blocks-in-Hash : goal.returns-in_ok-blocks-in-Hash
returns-in_ok-blocks-in-Hash c =
    let bits : c.of-map.result.bits ≡ c.args.form.now.bits = omega (arith, c.if-prove.false, ap (λ (f : MapForm). f.bits) c.form.ensures.form) in
    subst (λ (f : MapForm). IsMapBlock f c.args.parts c.args.control c.args.operations.now (trees_of c.in_ok-blocks-in-Hash.blocks)) (form_is c.of-map.result c.args.form.now c.of-map.ensures.number bits c.of-map.ensures.decl)
    c.in_ok-blocks-in-Hash.ensures

pub returns-in_ok-blocks-in-Array : goal.returns-in_ok-blocks-in-Array
returns-in_ok-blocks-in-Array c =
    let bits : c.of-map-in-Array.result.bits ≡ c.args.form.now.bits = omega (arith, c.if-prove-2.false, ap (λ (f : MapForm). f.bits) c.form-in-Array.ensures.form) in
    subst (λ (f : MapForm). IsMapBlock f c.args.parts c.args.control c.args.operations.now (trees_of c.in_ok-blocks-in-Array.blocks))
    (form_is c.of-map-in-Array.result c.args.form.now c.of-map-in-Array.ensures.number bits c.of-map-in-Array.ensures.decl) c.in_ok-blocks-in-Array.ensures
