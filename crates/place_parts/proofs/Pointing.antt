-- The pointers under which words are read, and the rows in which they are.
use Rattle.std.specs.Prelude.{Option, Some, ◌≤◌}
use Rattle.std.proofs.Common.{◌≡◌, ◌∙◌, ℕ, zero, suc, ◌<◌, Bool, true, false, All, List, [], ◌∷◌, length, map as map_list, get_or, refl, sym, ap, subst, arith}
use Rattle.std.proofs.lemmas.Bool.{cases_lt}
use Rattle.std.proofs.lemmas.List.{get_or_past}
use Rattle.std.proofs.lemmas.List.Elements.{filter_passes}
use Rattle.std.proofs.Common.{inl, inr}
use Rattle.block_core.proofs.list_laws_laws.PlaceLaws.{some_of}
use Rattle.block_core.specs.declared.name.Name.{Name}
use Rattle.hazard_core.specs.cell_core.declared.operator.Operator.{Operator}
use Rattle.hazard_core.specs.cell_core.declared.operator.Operator.TheVariants.{Found, Answer}
use Rattle.hazard_core.specs.cell_core.declared.site.Act.{Act}
use Rattle.hazard_core.specs.cell_core.declared.site.Act.TheVariants as act
use Rattle.hazard_core.specs.cell_core.Acts.{finds_key}
use Rattle.hazard_core.specs.cell_core.Cells.{cell_at, site_in}
use Rattle.hazard_core.specs.cell_core.Rows.{numbers}
use Rattle.hazard_core.specs.cell_core.Sites.{ProgramView, site_at}
use Rattle.overlay_net.specs.cell_nets.declared.operand.Operand.{Operand}
use Rattle.overlay_net.specs.cell_nets.declared.operand.Operand.TheVariants.{Known}
use Rattle.overlay_net.specs.cell_nets.Operands.{IsOperand, IsAvailable}
use Rattle.hazard_core.specs.StageValues.{answer_cell}
use Rattle.overlay_net.specs.ValueNet.Words.{answers_number}
use Rattle.overlay_net.specs.SiteOperands.Sites.{SiteOperands}
use Rattle.row_net.specs.Table.{Stands}
use Rattle.stage_net.specs.SiteTable.Pointing.{plain_of}
use Rattle.stage_net.specs.SiteTable.Sites.{access_operand}
use Rattle.stage_net.proofs.SiteTable.SiteLaws.{at_index}
use Rattle.stage_net.specs.Staged.{IsReadCell}
use Rattle.pipe_net.specs.declared.parts.Part.{Part}
use Rattle.pipe_parts.specs.declared.pipe_draft.pipeline_plan.PipelinePlan.{PipelinePlan}
use Rattle.pipe_parts.specs.declared.pipe_draft.places.StageSources.{StageSources}
use Rattle.pipe_parts.specs.PipeDraft.PipelinePlan.{program_in, plan_in, IsPipelinePlan}
use Rattle.pipe_parts.specs.PipeDraft.Places.{ArePlaces}
use Rattle.place_parts.specs.Words.{word_row, IsPointerBefore}
use Rattle.place_parts.specs.Places.{row_in, pointers_in}
use Rattle.place_parts.proofs.Available.{IsIn}
use Rattle.place_parts.proofs.Numbers.{passing_below}
use Rattle.place_parts.proofs.Standing.{before_in, cells_there, pointers_there}

-- ---- no cell has a pointer before the first place
plain_known : {N : Type 0} (points : List Bool) (k : ℕ) (a : Operand N) → Stands (map_list plain_of points) k a → a ≡ Known 0
plain_known [] k a s = cc
plain_known (true ∷ points) zero a s = cc
plain_known (false ∷ points) zero a s = cc
plain_known (b ∷ points) (suc k) a s = plain_known points k a s

pub plain_access : {N : Type 0} (points : List Bool) (a : Act) (ks : List ℕ) → access_operand {N = N} (map_list plain_of points) a ks ≡ Known 0
plain_access {N} points a ks = at_index (map_list plain_of points) (λ (o : Operand N). o ≡ Known 0) refl (plain_known points) ks _

-- ---- the cells that read a site stand in one row
differ : (a : Act) → finds_key a ≡ true → answers_number a ≡ true → ⊥
differ act.Lookup f n = cc
differ act.Update f n = cc
differ act.Delete f n = cc
differ a f n = cc

module _ (d : PipelinePlan) (is : IsPipelinePlan d) where
  abbrev p : ProgramView
  p = program_in d

  read_by : (o : Operator) (c j : ℕ) → (cell_at p.cells c).op ≡ o → site_in o ≡ Some j → IsReadCell p (row_in d) c j → answers_number (site_at p.sites j).act ≡ true → row_in d c ≡ word_row d j
  read_by (Found i) c j e s r n = let same : i ≡ j = cc in absurd (differ (site_at p.sites j).act (r.finds (e ∙ ap Found same)) n)
  read_by (Answer i) c j e s r n = let same : i ≡ j = cc in ap (row_in d) (r.answer (e ∙ ap Answer same))
  read_by o c j e s r n = cc

  pub read_in_row : (c j : ℕ) → c < length p.cells → site_in (cell_at p.cells c).op ≡ Some j → answers_number (site_at p.sites j).act ≡ true → row_in d c ≡ word_row d j
  read_in_row c j lt e n = read_by (cell_at p.cells c).op c j refl e (is.ready.reads c j lt e) n

  pub row_most : (j : ℕ) → word_row d j ≤ (plan_in d).last
  row_most j = elim (cases_lt (answer_cell p.cells j) (length p.cells)) [
    | inl l ↦ is.ready.rows (answer_cell p.cells j) l
    | inr g ↦ omega (arith, get_or_past (plan_in d).rows (answer_cell p.cells j) 0 (omega (arith, g, is.ready.planned.row_count)))
  ]

  -- ---- the sites that read a word
  pub load_low : All (λ j. j < length p.sites) d.loads.items
  load_low = subst (All (λ j. j < length p.sites)) (sym is.loads) (passing_below (λ j. answers_number (site_at p.sites j).act) (length p.sites))

  pub load_answers : All (λ j. answers_number (site_at p.sites j).act ≡ true) d.loads.items
  load_answers = subst (All (λ j. answers_number (site_at p.sites j).act ≡ true)) (sym is.loads) (filter_passes (λ j. answers_number (site_at p.sites j).act) (numbers 0 (length p.sites)))

  -- ---- their pointers
  module _ (places : List StageSources) (stand : ArePlaces d places) where
    pub record IsPointerOf (row j : ℕ) (pointer : Operand (Name Part)) : Type 0 where
      pub operand : IsOperand pointer
      pub there : (ins : List (Operand (Name Part))) → IsIn (before_in d row) ins → IsAvailable ins pointer

    behind_at : (k : ℕ) → suc k ≤ (plan_in d).last → StageSources
    behind_at k le = some_of places k (omega (arith, le, stand.count))

    pub pointer_of : (row j : ℕ) (pointer : Operand (Name Part)) → row ≤ (plan_in d).last → j < length p.sites → IsPointerBefore places row j pointer → IsPointerOf row j pointer
    pointer_of zero j pointer le lt e = record { operand = subst IsOperand (sym e) (omega arith); there = λ ins more. subst (IsAvailable ins) (sym e) tt }
    pointer_of (suc k) j pointer le lt e =
        let x = behind_at k le in
        let b = get_or places k x in
        let low : k ≤ (plan_in d).last = omega (arith, le) in
        let here = stand.each k x low in
        let s = some_of b.sites.items j (omega (arith, lt, here.sites.count)) in
        let of = here.sites.each j s lt in
        record {
          operand = subst IsOperand (sym (e x s)) (of.operands d.bits here.tables.behind.table.table here.tables.behind.pointers.pointers 3 pointer (omega arith));
          there = λ ins more. subst (IsAvailable ins) (sym (e x s)) (of.there ins (cells_there d is k b here ins more) (pointers_there d is k b here ins more) 3 pointer (omega arith));
        }

    -- by the table of pointers before the row
    pub pointer_is : (row j : ℕ) (pointer : Operand (Name Part)) (table : List (Option (Operand (Name Part)))) → row ≤ (plan_in d).last → j < length p.sites → IsPointerBefore places row j pointer
        → (row ≡ 0 → table ≡ d.plain.items) → ((k : ℕ) (b : StageSources) → row ≡ suc k → table ≡ pointers_in (get_or places k b))
        → access_operand table (site_at p.sites j).act (site_at p.sites j).operands ≡ pointer
    pointer_is zero j pointer table le lt e first later = ap (λ t. access_operand t (site_at p.sites j).act (site_at p.sites j).operands) (first refl ∙ is.plain) ∙ plain_access d.points.items (site_at p.sites j).act (site_at p.sites j).operands ∙ sym e
    pointer_is (suc k) j pointer table le lt e first later =
        let x = behind_at k le in
        let b = get_or places k x in
        let here = stand.each k x (omega (arith, le)) in
        let s = some_of b.sites.items j (omega (arith, lt, here.sites.count)) in
        let of = here.sites.each j s lt in
        ap (λ t. access_operand t (site_at p.sites j).act (site_at p.sites j).operands) (later k x refl) ∙ sym (ap (λ (o : SiteOperands (Name Part)). o.pointer) of.are) ∙ sym (e x s)
