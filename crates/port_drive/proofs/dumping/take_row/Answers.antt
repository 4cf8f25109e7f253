use Rattle.std.proofs.Common.{◌≡◌, ◌<◌, length, ap, ◌∙◌, arith}
use Rattle.std.proofs.lemmas.Grind.{common_steps}
use Rattle.xdp_maps.specs.declared.decl.MapKind.TheVariants.{Hash, Array}
use Rattle.xdp_maps.specs.State.{decl_at, contents_at, with_contents}
use Rattle.port_drive.proofs.DumpLemmas.{room_before, row_some, slot_step, value_step}
use Rattle.port_drive.proofs.dumping.take_row.Goals as goal

pub take_slot-requires-clause-room : goal.take_slot-requires-clause-room
take_slot-requires-clause-room c =
    let hash : (decl_at c.args.maps.now c.args.map).kind ≡ Hash = grind (arith, common_steps) in
    room_before (decl_at c.args.maps.now c.args.map) (contents_at c.args.maps.now c.args.map) c.args.index hash c.requires.before c.requires.index

pub returns-in-Hash : goal.returns-in-Hash
returns-in-Hash c rows len is =
    let hash : (decl_at c.args.maps.now c.args.map).kind ≡ Hash = grind (arith, common_steps) in
    let some : 0 < length c.args.row.now = row_some (decl_at c.args.maps.now c.args.map) c.args.row.now hash c.requires.row in
    c.take_slot.ensures ∙ ap (with_contents c.args.maps.now c.args.map) (slot_step (decl_at c.args.maps.now c.args.map) (contents_at c.args.maps.now c.args.map) rows c.args.row.now hash is some)

pub returns-in-Array : goal.returns-in-Array
returns-in-Array c rows len is =
    let array : (decl_at c.args.maps.now c.args.map).kind ≡ Array = grind (arith, common_steps) in
    c.take_value.ensures ∙ ap (with_contents c.args.maps.now c.args.map) (value_step (decl_at c.args.maps.now c.args.map) (contents_at c.args.maps.now c.args.map) rows c.args.row.now c.args.index array is len c.requires.index (omega (arith, c.ranges.index.fits)))
