-- What stands before the first place.
use Rattle.std.specs.Prelude.{Contains, not}
use Rattle.std.proofs.Common.{◌≡◌, ◌∙◌, ◌⊎◌, inl, inr, ℕ, ◌<◌, Bool, true, false, All, List, length, map as map_list, get_or, refl, sym, subst, arith}
use Rattle.std.proofs.lemmas.List.Elements.{All-contains, Contains-get_or, filter_passes}
use Rattle.block_core.specs.declared.name.Name.{Name}
use Rattle.block_core.specs.Blocks.{BlockWireTree}
use Rattle.block_core.proofs.list_laws_laws.BoolLaws.{both_of, and_is}
use Rattle.hazard_core.specs.cell_core.Cells.{CellView, cell_at, is_read}
use Rattle.hazard_core.specs.cell_core.Rows.{numbers}
use Rattle.hazard_core.specs.cell_core.Sites.{ProgramView}
use Rattle.overlay_net.specs.cell_nets.Computing.{is_outside}
use Rattle.row_net.specs.Lists.{varies}
use Rattle.row_net.specs.Needed.{flag}
use Rattle.row_net.specs.Table.{IsIn, is_constant}
use Rattle.row_net.specs.PlaceNet.Sources.{IsSource}
use Rattle.row_net.specs.SitePlace.Pointing.{IsPointers}
use Rattle.row_net.proofs.TableLaws.{wide_of}
use Rattle.stage_net.specs.SiteTable.Pointing.{plain_of}
use Rattle.stage_net.proofs.SiteTable.TableLaws.{plain_in, plain_are}
use Rattle.stage_net.proofs.ListLaws.{at_hand_first, flagged_within}
use Rattle.pipe_net.specs.declared.parts.Part.{Part}
use Rattle.pipe_parts.specs.declared.pipe_draft.pipeline_plan.PipelinePlan.{PipelinePlan}
use Rattle.pipe_parts.specs.declared.pipe_draft.places.StageSources.{StageSources}
use Rattle.pipe_parts.specs.PipeDraft.Sources.{comes, is_source}
use Rattle.pipe_parts.specs.PipeDraft.PipelinePlan.{program_in, plan_in, IsPipelinePlan}
use Rattle.pipe_parts.proofs.PipeDraft.SourceLaws.{shown_of}
use Rattle.place_parts.specs.Places.{table_in, pointers_in, StandsBefore, IsArriving}
use Rattle.place_parts.proofs.Numbers.{passing_below, passing_in}

not_of : (b : Bool) → not b ≡ true → b ≡ false
not_of true e = cc
not_of false e = refl

of_not : (b : Bool) → b ≡ false → not b ≡ true
of_not true e = cc
of_not false e = refl

test : (b : Bool) → (b ≡ true) ⊎ (b ≡ false)
test true = inl refl
test false = inr refl

module _ (d : PipelinePlan) (is : IsPipelinePlan d) where
  abbrev p : ProgramView
  p = program_in d

  abbrev needed : List Bool
  needed = d.needed.items

  abbrev here : ℕ → CellView
  here k = cell_at p.cells k

  -- ---- what is kept of frames shows the cells that come with a packet
  passes : All (λ k. is_source p needed k ≡ true) d.sources.items
  passes = subst (All (λ k. is_source p needed k ≡ true)) (sym is.sources) (filter_passes (is_source p needed) (numbers 0 (length p.cells)))

  within : All (λ k. k < length p.cells) d.sources.items
  within = subst (All (λ k. k < length p.cells)) (sym is.sources) (passing_below (is_source p needed) (length p.cells))

  pub are_sources : All (IsSource d.kept.items p.cells) d.sources.items
  are_sources i e lt =
      let k = get_or d.sources.items i e in
      let low : k < length p.cells = within i e lt in
      let says = both_of (varies p needed k) (comes (here k).op) (passes i e lt) in
      record {
        within = low;
        some = wide_of (here k) (not_of (is_constant (here k)) (both_of (flag needed k) (not (is_constant (here k))) says.0).1);
        shown = shown_of d.kept.items (here k).op says.1 (is.ready.formed.each k low).in_range (λ what t. is.kept.taken what (k, Contains-get_or d.sources.items i e lt, t));
      }

  -- ---- the tables before the first place
  module _ (ws : List (BlockWireTree (Name Part))) (b : StageSources) (arriving : IsArriving d ws b) where
    source_in : (k : ℕ) → flag needed k ≡ true → is_outside (here k).op ≡ true → is_read (here k).op ≡ false → IsIn (table_in b) k
    source_in k f o r = by_kind (test (is_constant (here k)))
      where
        low : k < length p.cells
        low = omega (arith, flagged_within needed k f, is.needed.count)

        by_kind : (is_constant (here k) ≡ true) ⊎ (is_constant (here k) ≡ false) → IsIn (table_in b) k
        by_kind (inl c) = arriving.sourced.grows k (is.constants.known k low c)
        by_kind (inr c) =
            let v = and_is (flag needed k) (not (is_constant (here k))) f (of_not (is_constant (here k)) c) in
            let t = and_is (is_outside (here k).op) (not (is_read (here k).op)) o (of_not (is_read (here k).op) r) in
            let s = passing_in (is_source p needed) (length p.cells) k low (and_is (varies p needed k) (comes (here k).op) v t) in
            All-contains (IsIn (table_in b)) d.sources.items k arriving.sourced.given (subst (λ ks. Contains ks k) (sym is.sources) s)

    pointers_plain : pointers_in b ≡ map_list plain_of d.points.items
    pointers_plain = arriving.pointers ∙ is.plain

    pub stands_first : StandsBefore d 0 b
    stands_first = record {
      table = arriving.sourced.table;
      pointers = subst (IsPointers p.cells d.bits) (sym pointers_plain) (plain_are p.cells d.points.items d.bits is.points.pointing.count);
      hand = at_hand_first p (plan_in d) needed d.parts.items d.points.items (table_in b) (pointers_in b) is.ready.planned is.needed.count (λ k lt c. arriving.sourced.grows k (is.constants.known k lt c)) source_in
          (λ k lt f. subst (λ ps. IsIn ps k) (sym pointers_plain) (plain_in d.points.items k (omega (arith, lt, is.points.pointing.count)) f));
      sites = arriving.sites;
    }
