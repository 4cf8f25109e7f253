-- No name is left after the last map.
use Rattle.std.proofs.Common.{◌<◌, ◌≤◌, length, arith}
use Rattle.std.proofs.lemmas.Bool.Decides.{nat_tests}
use Rattle.std.proofs.lemmas.List.{at_drop_all}
use Rattle.elf_view.specs.Layout.{map_names}
use Rattle.elf_view.proofs.LengthLaws.{length-strings}
use Rattle.elf_view.proofs.strings.strings_len.Goals as goal

pub returns : goal.returns
returns c =
    let some : 0 < length c.args.maps.now = grind (arith, nat_tests) in
    let past : length c.args.maps.now ≤ c.loop-map.map-index = omega arith in
    let whole = length-strings c.args.name.now c.args.maps.now some in
    let rest = at_drop_all (λ ms. length (map_names ms)) c.args.maps.now c.loop-map.map-index past in
    omega (arith, whole, rest)
