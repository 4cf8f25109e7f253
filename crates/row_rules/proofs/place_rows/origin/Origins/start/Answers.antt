use Rattle.std.proofs.Common.{◌∙◌, Bool, if◌then◌else◌, Option, Some, None, refl, sym, ap, arith}
use Rattle.std.proofs.lemmas.Bool.{lt-ltb}
use Rattle.std.proofs.lemmas.List.{get_or-replicate}
use Rattle.row_rules.specs.declared.place_rows.origin.Origin.{Origin}
use Rattle.row_rules.specs.PlaceRows.Locations.{location_count, first_byte}
use Rattle.row_rules.specs.PlaceRows.Origins.{origin_at_start}
use Rattle.row_rules.proofs.PlaceRows.PlaceLaws.{all_places}
use Rattle.row_rules.proofs.place_rows.origin.Origins.start.Goals as goal

abbrev early : Bool → Option Origin
early b = if b then None else Some (record { maker = 0; row = 0 })

pub loop-place-init : goal.loop-place-init
loop-place-init c = record {
  count = refl;
  from = omega arith;
  each = λ i l. get_or-replicate location_count i None None (omega (arith, l)) ∙ sym (ap early (lt-ltb i first_byte l));
}

pub returns : goal.returns
returns c = all_places origin_at_start c.loop-place.places c.loop-place.invariant.count (λ i l. c.loop-place.invariant.each i (omega (arith, l, c.loop-place-test.false)))
