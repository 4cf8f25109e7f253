-- The limit on the object bounds every part, and the parts make the whole.
use Rattle.std.proofs.Common.{◌∙◌, ◌++◌, ◌*◌, length, ap, sym, arith}
use Rattle.elf_view.specs.Layout.{base_headers, headers_at, map_headers, records, rels, strings, symbols}
use Rattle.elf_view.specs.Pieces.{elf_header}
use Rattle.elf_view.proofs.LengthLaws.{length-object, length-records, small_object}
use Rattle.elf_view.specs.Rules.{first_error}
use Rattle.elf_view.proofs.OpenLaws.{opens}
use Rattle.elf_view.proofs.Whole.{object_whole, ten_writes, zeros}
use Rattle.elf_view.proofs.object.object_of.Goals as goal

pub headers_at-requires : goal.headers_at-requires
headers_at-requires c =
    let small = small_object c.args.name.now c.args.code.now c.args.maps.now c.args.refs.now c.requires.fits in
    let same = ap headers_at c.sizes_of-sizes.ensures in
    omega arith

pub overflow_cast-name : goal.overflow_cast-name
overflow_cast-name c =
    let small = small_object c.args.name.now c.args.code.now c.args.maps.now c.args.refs.now c.requires.fits in omega arith

pub put_symbols-requires : goal.put_symbols-requires
put_symbols-requires c =
    let small = small_object c.args.name.now c.args.code.now c.args.maps.now c.args.refs.now c.requires.fits in omega arith

pub put_rels-requires : goal.put_rels-requires
put_rels-requires c =
    let small = small_object c.args.name.now c.args.code.now c.args.maps.now c.args.refs.now c.requires.fits in
    λ k d below. omega (arith, c.requires.maps k d below)

pub strings_len-requires : goal.strings_len-requires
strings_len-requires c =
    let small = small_object c.args.name.now c.args.code.now c.args.maps.now c.args.refs.now c.requires.fits in omega arith

pub overflow_cast-name-2 : goal.overflow_cast-name-2
overflow_cast-name-2 c =
    let small = small_object c.args.name.now c.args.code.now c.args.maps.now c.args.refs.now c.requires.fits in omega arith

pub put_map_headers-requires-clause-name : goal.put_map_headers-requires-clause-name
put_map_headers-requires-clause-name c =
    let small = small_object c.args.name.now c.args.code.now c.args.maps.now c.args.refs.now c.requires.fits in omega arith

pub returns-clause-bytes : goal.returns-clause-bytes
returns-clause-bytes c =
    let name = c.args.name.now in
    let maps = c.args.maps.now in
    let sizes = c.sizes_of-sizes.result in
    let count = c.section_count.result in
    let header = c.elf_header.ensures ∙ ap (λ n. elf_header n count) c.headers_at.ensures in
    let first = c.in_ok-extend_from_slice.ensures.items ∙ ap (λ bytes. c.new-out.result.items ++ bytes) header in
    let whole = ten_writes (elf_header (headers_at sizes) count) c.args.code.now (symbols (length name) (length c.args.code.now) maps)
    (rels c.args.refs.now) (records maps) (zeros (20 * length maps)) (strings name maps) (zeros c.strings_len.result)
    (base_headers sizes) (map_headers (length name) sizes maps)
    c.new-out.ensures.items first c.in_ok-extend_from_slice-2.ensures.items c.in_ok-put_symbols.ensures
    c.in_ok-put_rels.ensures c.in_ok-put_records.ensures c.in_ok-put_padding.ensures c.in_ok-put_strings.ensures
    c.in_ok-put_padding-2.ensures c.in_ok-put_base_headers.ensures c.in_ok-put_map_headers.ensures in
    object_whole name c.args.code.now maps c.args.refs.now sizes count (20 * length maps) c.strings_len.result
    c.put_map_headers.new.out.items c.sizes_of-sizes.ensures c.section_count.ensures (sym (length-records maps))
    c.strings_len.ensures whole

pub returns-clause-size : goal.returns-clause-size
returns-clause-size c =
    ap length (returns-clause-bytes c) ∙ length-object c.args.name.now c.args.code.now c.args.maps.now c.args.refs.now

pub returns-clause-opens : goal.returns-clause-opens
returns-clause-opens c =
    ap first_error (returns-clause-bytes c)
    ∙ opens c.args.name.now c.args.code.now c.args.maps.now c.args.refs.now c.requires.fits
