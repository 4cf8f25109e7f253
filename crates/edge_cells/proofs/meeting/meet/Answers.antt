use Rattle.std.proofs.Common.{sym, ◌∙◌, ap, arith}
use Rattle.std.proofs.lemmas.List.{get_or_default}
use Rattle.operator_cells.specs.declared.held_cells.way.Way.{Way}
use Rattle.edge_cells.specs.Meeting.{held_at, map_of, is_unknown}
use Rattle.edge_cells.proofs.Choices.{one_of}
use Rattle.edge_cells.proofs.PartsMet.{met_same, met_number, met_words, met_none, unknown_is, numbers_brought, cells_within}
use Rattle.edge_cells.proofs.PointersMet.{points_same, points_chosen, points_none}
use Rattle.edge_cells.proofs.PartRows.{meets_same, meets_pointer, meets_number, meets_none, not_one}
use Rattle.edge_cells.proofs.meeting.meet.Goals as goal

pub returns-then-agree-clause-meets : goal.returns-then-agree-clause-meets
returns-then-agree-clause-meets c = met_same _ _ _ _ _ _ _ (one_of c.args.ways.now c.requires.some) (record { some = c.requires.some; is_part = c.requires.part; ways = c.requires.there; wider = c.requires.wider }) (c.agree.ensures.all c.if-agree.true)

pub meet_pointers-requires-clause-there : goal.meet_pointers-requires-clause-there
meet_pointers-requires-clause-there c = cells_within _ _ _ _ c.args.kinds.now _ _ _ c.key_words.ensures (ap map_of (sym c.kind_at-kind.ensures) ∙ sym c.map_of.ensures ∙ c.in-Some.is) (record { some = c.requires.some; is_part = c.requires.part; ways = c.requires.there; wider = c.requires.wider })

pub returns-in-Some-clause-meets : goal.returns-in-Some-clause-meets
returns-in-Some-clause-meets c = met_words _ _ _ _ _ _ _ _ _ _ _ c.key_words.ensures (ap map_of (sym c.kind_at-kind.ensures) ∙ sym c.map_of.ensures ∙ c.in-Some.is) (record { some = c.requires.some; is_part = c.requires.part; ways = c.requires.there; wider = c.requires.wider }) c.in_ok-c.ensures.picks

pub meet_numbers-requires-clause-there : goal.meet_numbers-requires-clause-there
meet_numbers-requires-clause-there c =
    let u = unknown_is _ (sym c.is_unknown.ensures ∙ c.if-is_unknown.true) in
    numbers_brought _ _ _ _ c.args.kinds.now _ u.0 u.1 (record { some = c.requires.some; is_part = c.requires.part; ways = c.requires.there; wider = c.requires.wider }) (sym c.kind_at-kind.ensures ∙ u.2)

pub returns-then-is_unknown-clause-meets : goal.returns-then-is_unknown-clause-meets
returns-then-is_unknown-clause-meets c =
    let u = unknown_is _ (sym c.is_unknown.ensures ∙ c.if-is_unknown.true) in
    met_number _ _ _ _ _ _ _ _ u.0 u.1 (record { some = c.requires.some; is_part = c.requires.part; ways = c.requires.there; wider = c.requires.wider }) (sym c.kind_at-kind.ensures ∙ u.2) c.in_ok-c-2.ensures.picks

pub returns-clause-meets : goal.returns-clause-meets
returns-clause-meets c = met_none _ _ _ _ _ _ _ (record { some = c.requires.some; is_part = c.requires.part; ways = c.requires.there; wider = c.requires.wider }) (ap map_of (sym c.kind_at-kind.ensures) ∙ sym c.map_of.ensures ∙ c.in_default.is) (ap is_unknown (sym c.kind_at-kind.ensures) ∙ sym c.is_unknown.ensures ∙ c.if-is_unknown.false)

pub returns-then-agree-clause-rises : goal.returns-then-agree-clause-rises
returns-then-agree-clause-rises c = meets_same _ _ _ _ _ _ _ (one_of c.args.ways.now c.requires.some) (record { some = c.requires.some; is_part = c.requires.part; ways = c.requires.there; wider = c.requires.wider }) (c.agree.ensures.all c.if-agree.true)

pub returns-in-Some-clause-rises : goal.returns-in-Some-clause-rises
returns-in-Some-clause-rises c = meets_pointer _ _ _ _ _ _ _ _ _ _ (record { some = c.requires.some; is_part = c.requires.part; ways = c.requires.there; wider = c.requires.wider }) (ap map_of (sym c.kind_at-kind.ensures) ∙ sym c.map_of.ensures ∙ c.in-Some.is) (not_one c.args.part c.args.ways.now _ _ c.requires.part (λ d. c.held_at-first.ensures ∙ ap (λ (e : Way). held_at c.args.part e.held) (get_or_default c.args.ways.now 0 _ d (omega (arith, c.requires.some)))) c.agree.ensures.only c.if-agree.false) c.in_ok-c.ensures.rises

pub returns-then-is_unknown-clause-rises : goal.returns-then-is_unknown-clause-rises
returns-then-is_unknown-clause-rises c =
    let u = unknown_is _ (sym c.is_unknown.ensures ∙ c.if-is_unknown.true) in
    meets_number _ _ _ _ _ _ _ _ u.0 u.1 (record { some = c.requires.some; is_part = c.requires.part; ways = c.requires.there; wider = c.requires.wider }) (sym c.kind_at-kind.ensures ∙ u.2) (not_one c.args.part c.args.ways.now _ _ c.requires.part (λ d. c.held_at-first.ensures ∙ ap (λ (e : Way). held_at c.args.part e.held) (get_or_default c.args.ways.now 0 _ d (omega (arith, c.requires.some)))) c.agree.ensures.only c.if-agree.false) c.in_ok-c-2.ensures.rises

pub returns-clause-rises : goal.returns-clause-rises
returns-clause-rises c = meets_none _ _ _ _ _ _ (ap map_of (sym c.kind_at-kind.ensures) ∙ sym c.map_of.ensures ∙ c.in_default.is) (ap is_unknown (sym c.kind_at-kind.ensures) ∙ sym c.is_unknown.ensures ∙ c.if-is_unknown.false) (not_one c.args.part c.args.ways.now _ _ c.requires.part (λ d. c.held_at-first.ensures ∙ ap (λ (e : Way). held_at c.args.part e.held) (get_or_default c.args.ways.now 0 _ d (omega (arith, c.requires.some)))) c.agree.ensures.only c.if-agree.false)

pub returns-then-agree-clause-points : goal.returns-then-agree-clause-points
returns-then-agree-clause-points c = points_same (record { some = c.requires.some; is_part = c.requires.part; ways = c.requires.there; wider = c.requires.wider }) (c.agree.ensures.all c.if-agree.true)

pub returns-in-Some-clause-points : goal.returns-in-Some-clause-points
returns-in-Some-clause-points c = points_chosen c.key_words.ensures (ap map_of (sym c.kind_at-kind.ensures) ∙ sym c.map_of.ensures ∙ c.in-Some.is) (record { some = c.requires.some; is_part = c.requires.part; ways = c.requires.there; wider = c.requires.wider })
    c.in_ok-c.ensures.picks c.in_ok-c.ensures.follows

pub returns-then-is_unknown-clause-points : goal.returns-then-is_unknown-clause-points
returns-then-is_unknown-clause-points c = points_none _ (ap map_of (sym c.kind_at-kind.ensures) ∙ sym c.map_of.ensures ∙ c.in_default.is)

pub returns-clause-points : goal.returns-clause-points
returns-clause-points c = points_none _ (ap map_of (sym c.kind_at-kind.ensures) ∙ sym c.map_of.ensures ∙ c.in_default.is)
