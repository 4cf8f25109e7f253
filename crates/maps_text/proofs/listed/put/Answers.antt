use Rattle.std.proofs.Common.{◌≡◌, ◌<◌, sym, ap, ◌∙◌, subst, arith}
use Rattle.xdp_maps.specs.declared.decl.MapDecl.{MapDecl}
use Rattle.xdp_maps.specs.declared.decl.MapKind.TheVariants.{Hash, Array}
use Rattle.xdp_maps.specs.Contents.{IsWithinLimits, index_of}
use Rattle.xdp_maps.specs.State.{decl_at}
use Rattle.maps_text.proofs.Steps.{hash_put, array_put, array_limits, array_inside}
use Rattle.maps_text.proofs.listed.put.Goals as goal

pub returns-in-Hash : goal.returns-in-Hash
returns-in-Hash c =
    let hash : (decl_at c.args.maps.now c.args.map).kind ≡ Hash = sym (ap (λ (d : MapDecl). d.kind) c.decl_of.ensures.decl) ∙ c.in-Hash.is in
    hash_put c.args.n c.args.map c.args.key.now c.args.value.now c.args.maps.now c.args.marks.now c.put_into_hash.result c.put_into_hash.new.maps c.decl_of.ensures.sound c.requires.map hash c.put_into_hash.ensures.result c.put_into_hash.ensures.ok

pub returns-in-Array : goal.returns-in-Array
returns-in-Array c =
    let d = decl_at c.args.maps.now c.args.map in
    let array : d.kind ≡ Array = sym (ap (λ (d : MapDecl). d.kind) c.decl_of.ensures.decl) ∙ c.in-Array.is in
    let limits = array_limits d (subst IsWithinLimits c.decl_of.ensures.decl c.decl_of.ensures.limits) array in
    let inside : index_of c.args.key.now < d.cap = array_inside d c.args.key.now array c.requires.can in
    array_put c.args.n c.args.map c.args.key.now c.args.value.now c.args.maps.now c.args.marks.now c.put_into_array.new.marks c.put_into_array.result c.put_into_array.new.maps c.index_laws.ensures c.type_inv.key (c.requires.key ∙ limits.0) (omega (arith, limits.1, inside)) c.decl_of.ensures.sound c.requires.map array c.put_into_array.ensures.result c.put_into_array.ensures.maps c.put_into_array.ensures.marks
