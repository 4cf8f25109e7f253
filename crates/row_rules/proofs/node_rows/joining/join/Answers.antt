use Rattle.std.proofs.Common.{◌≡◌, ◌∙◌, ℕ, zero, suc, ◌<◌, ◌≤◌, ◌==◌, ◌⊎◌, inl, inr, Bool, false, if◌then◌else◌, Option, None, length, get_or, replicate, refl, sym, ap, arith}
use Rattle.std.proofs.lemmas.Bool.{cases_lt}
use Rattle.std.proofs.lemmas.List.{get_or-replicate, get_or_past, get_or-set_other, length-set}
use Rattle.row_rules.specs.PlaceRows.Locations.{location_count}
use Rattle.row_rules.specs.declared.place_rows.origin.Origin.{Origin}
use Rattle.row_rules.specs.NodeRows.Joining.{origin_at, met, first_brings}
use Rattle.row_rules.proofs.PlaceRows.PlaceLaws.{all_places}
use Rattle.row_rules.proofs.NodeRows.PlaceLemmas.{where_edges_meet, set_next, kept_next}
use Rattle.row_rules.proofs.node_rows.joining.join.Goals as goal
use Rattle.row_rules.proofs.node_rows.joining.join.Goals.{then-has_data, else-has_data}

abbrev nothing : Option Origin
nothing = None

pub loop-place-init : goal.loop-place-init
loop-place-init c = record { count = refl; each = λ i l. absurd (omega (arith, l)); rest = λ i l. none i (cases_lt i location_count) }
  where
    none : (i : ℕ) → (i < location_count) ⊎ (location_count ≤ i) → get_or (replicate location_count nothing) i None ≡ None
    none i (inl l) = get_or-replicate location_count i nothing None l
    none i (inr l) = get_or_past (replicate location_count nothing) i None (omega (arith, l))

pub loop-place-preserved : goal.loop-place-preserved
loop-place-preserved c = elim c.if-has_data.branch [
  | then-has_data w ↦ record {
    count = ap length w.places-is ∙ length-set c.loop-place.places c.loop-place.place w.meet.result ∙ c.loop-place.invariant.count;
    each = λ i l. set_next (origin_at c.args.arrivals.now c.args.maker c.args.kinds.now) c.loop-place.places c.if-has_data.places c.loop-place.place w.meet.result i w.places-is c.loop-place.invariant.count c.loop-place-test.true
        c.loop-place.invariant.each (w.meet.ensures ∙ ap (λ (b : Bool). if b then met c.args.arrivals.now c.args.maker c.loop-place.place (first_brings c.args.arrivals.now c.loop-place.place) else None) (sym w.if-has_data.true ∙ c.has_data.ensures)) l;
    rest = λ i l. ap (λ os. get_or os i None) w.places-is ∙ get_or-set_other c.loop-place.places c.loop-place.place i w.meet.result None (λ e. absurd (omega (arith, l, e))) ∙ c.loop-place.invariant.rest i (omega (arith, l));
  }
  | else-has_data w ↦ record {
    count = ap length w.places-is ∙ c.loop-place.invariant.count;
    each = λ i l. ap (λ os. get_or os i None) w.places-is ∙ kept_next (origin_at c.args.arrivals.now c.args.maker c.args.kinds.now) c.loop-place.places c.loop-place.place i c.loop-place.invariant.each
        (c.loop-place.invariant.rest c.loop-place.place (omega arith) ∙ sym (ap (λ (b : Bool). if b then met c.args.arrivals.now c.args.maker c.loop-place.place (first_brings c.args.arrivals.now c.loop-place.place) else None) (sym c.has_data.ensures ∙ w.if-has_data.false))) l;
    rest = λ i l. ap (λ os. get_or os i None) w.places-is ∙ c.loop-place.invariant.rest i (omega (arith, l));
  }
]

pub returns : goal.returns
returns c = all_places (origin_at c.args.arrivals.now c.args.maker c.args.kinds.now) c.loop-place.places c.loop-place.invariant.count
    (λ i l. c.loop-place.invariant.each i (omega (arith, l, c.loop-place-test.false)))
    ∙ sym (where_edges_meet c.args.arrivals.now c.args.maker c.args.kinds.now (some (length c.args.arrivals.now) (sym c.is_empty.ensures ∙ c.if-is_empty.false)))
  where
    some : (n : ℕ) → (n == 0) ≡ false → 0 < n
    some zero e = absurd (cc)
    some (suc n) e = omega arith
