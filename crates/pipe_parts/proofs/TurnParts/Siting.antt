-- The sites of a pipeline plan at which operations may write, and what stands for them after a place.
use Rattle.std.specs.Prelude.{Contains, ◌*◌, ◌^◌}
use Rattle.std.specs.List.{filter, AllPairs}
use Rattle.std.proofs.Common.{◌≡◌, ◌∙◌, ℕ, ◌+◌, ◌<◌, ◌≤◌, Bool, true, false, All, List, [], ◌∷◌, ◌++◌, length, get_or, take, refl, sym, ap, subst, arith}
use Rattle.std.proofs.lemmas.List.{length-map, get_or-map, map-append, get_or_default}
use Rattle.std.proofs.lemmas.List.Elements.{Contains-get_or}
use Rattle.hazard_core.specs.xdp_maps.declared.decl.MapDecl.{MapDecl}
use Rattle.hazard_core.specs.xdp_maps.State.{no_decl}
use Rattle.block_core.specs.declared.name.Name.{Name}
use Rattle.hazard_core.specs.cell_core.Sites.{ProgramView, site_at, records}
use Rattle.hazard_core.specs.cell_core.View.{site_of}
use Rattle.overlay_net.specs.cell_nets.Operands.{IsOperand, IsNarrow}
use Rattle.hazard_core.specs.Tables.{decl_of}
use Rattle.overlay_net.specs.declared.site_operands.SiteNets.{SiteNets}
use Rattle.overlay_net.specs.SiteOperands.Sites.{operands_of, all_of}
use Rattle.stage_net.specs.SiteTable.Sites.{IsSiteOf, operand_at}
use Rattle.read_net.specs.declared.sites.OwnSite.{OwnSite}
use Rattle.read_net.specs.declared.sites.MapNets.{MapNets}
use Rattle.read_net.specs.Sites.{sites_of, IsWhole}
use Rattle.commit_net.specs.declared.map_block.form.MapForm.{MapForm}
use Rattle.turn_net.specs.Actions.{record_sites}
use Rattle.pipe_net.specs.declared.parts.Part.{Part}
use Rattle.pipe_parts.specs.declared.pipe_draft.pipeline_plan.PipelinePlan.{PipelinePlan}
use Rattle.pipe_parts.specs.declared.pipe_draft.places.StageSources.{StageSources}
use Rattle.pipe_parts.specs.PipeDraft.PipelinePlan.{program_in, decls_in, IsPipelinePlan}
use Rattle.pipe_parts.specs.PipeDraft.Places.{AreStageSources}
use Rattle.pipe_parts.specs.TurnParts.Sites.{IsWholeOf, IsOwnOf}
use Rattle.pipe_parts.proofs.TurnParts.Listing.{filter_more, filter_same, kept_rise, kept_few}
use Rattle.pipe_parts.proofs.TurnParts.SiteLaws.{record_known}

-- ---- maps
pub no_form : MapForm
no_form = record { number = 0; bits = 0; decl = no_decl }

pub decl_is : (d : PipelinePlan) (m : ℕ) (f : MapForm) → m < length d.forms.items → (get_or d.forms.items m f).decl ≡ decl_of (decls_in d) m
decl_is d m f lt = sym (get_or-map (λ (g : MapForm). g.decl) d.forms.items m f no_decl lt)

pub maps_there : (d : PipelinePlan) (m : ℕ) → m < length (decls_in d) → m < length d.forms.items
maps_there d m lt = omega (arith, lt, length-map d.forms.items (λ (g : MapForm). g.decl))

-- ---- record sites

pub records_rise : (p : ProgramView) → AllPairs (λ i j. i < j) (record_sites p)
records_rise p = kept_rise (λ j. records (site_at p.sites j).act) (length p.sites)

pub records_few : (p : ProgramView) → length (record_sites p) ≤ length p.sites
records_few p = kept_few (λ j. records (site_at p.sites j).act) (length p.sites)

module _ (d : PipelinePlan) (is : IsPipelinePlan d) where
  pub listed : (i : ℕ) → i < length d.records.items → get_or d.records.items i 0 < length (program_in d).sites
  listed i lt = subst (λ js. get_or js i 0 < length (program_in d).sites) (sym is.records) (record_known (program_in d) i 0 (omega (arith, lt, ap length is.records)))

  pub listed_in : (i : ℕ) → i < length d.records.items → Contains (record_sites (program_in d)) (get_or d.records.items i 0)
  listed_in i lt = subst (λ js. Contains js (get_or d.records.items i 0)) is.records (Contains-get_or d.records.items i 0 lt)

  -- as it is read
  module _ (i j : ℕ) (lt : i < length d.records.items) (same : j ≡ get_or d.records.items i j) where
    pub read_there : j < length (program_in d).sites
    read_there = omega (arith, listed i lt, same, get_or_default d.records.items i j 0 lt)

    pub site_there : j < length d.program.now.sites.items
    site_there = omega (arith, read_there, length-map d.program.now.sites.items site_of)

    pub read_in : Contains (record_sites (program_in d)) j
    read_in = subst (Contains (record_sites (program_in d))) (get_or_default d.records.items i 0 j lt ∙ sym same) (listed_in i lt)

  pub listed_few : length d.records.items ≤ length (program_in d).sites
  listed_few = omega (arith, ap length is.records, records_few (program_in d))

  -- ---- operands after a place
  module _ (k : ℕ) (b : StageSources) (behind : AreStageSources d k b) (j : ℕ) (lt : j < length (program_in d).sites) (s : SiteNets (Name Part)) (same : s ≡ get_or b.sites.items j s) where
    of : IsSiteOf (program_in d) b.tables.table.items b.tables.pointers.items j (operands_of s)
    of = subst (λ x. IsSiteOf (program_in d) b.tables.table.items b.tables.pointers.items j (operands_of x)) (sym same) (behind.sites.each j s lt)

    pub there : j < length b.sites.items
    there = omega (arith, lt, behind.sites.count)

    pub nets_at : (x : SiteNets (Name Part)) → s ≡ get_or b.sites.items j x
    nets_at x = same ∙ get_or_default b.sites.items j s x there

    pub operands : All IsOperand (all_of (operands_of s))
    operands = of.operands d.bits behind.tables.behind.table.table behind.tables.behind.pointers.pointers

    pub key : (decl_of (decls_in d) (site_at (program_in d).sites j).map).key ≤ 8 * length s.key.items
    key = omega (arith, (is.ready.fits j lt).key, ap (λ o. length o.key) of.are, length-map (site_at (program_in d).sites j).key (operand_at b.tables.table.items))

    pub found : IsNarrow d.bits s.found
    found = of.found_narrow d.bits behind.tables.behind.pointers.pointers

    pub pointer : IsNarrow d.bits s.pointer
    pointer = of.pointer_narrow d.bits behind.tables.behind.pointers.pointers

  -- ---- the operation there
  pub own_of :
      (k : ℕ) (b : StageSources) → AreStageSources d k b → (o : OwnSite (Name Part)) → o.site < length (program_in d).sites → o.act ≡ (site_at (program_in d).sites o.site).act → o.nets.now ≡ get_or b.sites.items o.site o.nets.now
      → IsOwnOf d b (site_at (program_in d).sites o.site).map o
  own_of k b behind o lt act same = record {
    known = lt;
    own = record { act = sym act; map = refl };
    nets = nets_at k b behind o.site lt o.nets.now same;
    whole = record {
      operands = operands k b behind o.site lt o.nets.now same;
      key = key k b behind o.site lt o.nets.now same;
      number = is.bits.updates o.site lt;
      found = found k b behind o.site lt o.nets.now same;
      pointer = pointer k b behind o.site lt o.nets.now same;
    };
  }

-- as what stands for the map asks
pub whole_for : (d : PipelinePlan) (m : ℕ) (n : MapNets (Name Part)) (o : OwnSite (Name Part)) → n.decl.now ≡ decl_of (decls_in d) m → n.bits ≡ d.bits → IsWholeOf d m o → IsWhole n o
whole_for d m n o decl bits w = record {
  operands = w.operands;
  key = omega (arith, w.key, ap (λ (x : MapDecl). x.key) decl);
  number = subst (λ b. 4 * o.site + 2 < 2 ^ b) (sym bits) w.number;
  found = subst (λ b. IsNarrow b o.nets.now.found) (sym bits) w.found;
  pointer = subst (λ b. IsNarrow b o.nets.now.pointer) (sym bits) w.pointer;
}

-- ---- the next record site, which is on the map or not
module _ (q : ℕ → Bool) (js : List ℕ) (i : ℕ) (lt : i < length js) (owns : List (OwnSite (Name Part))) (so_far : sites_of owns ≡ filter q (take i js)) where
  pub own_more : (o : OwnSite (Name Part)) → q (get_or js i 0) ≡ true → o.site ≡ get_or js i 0 → sites_of (owns ++ o ∷ []) ≡ filter q (take (i + 1) js)
  own_more o on same =
      map-append (λ (x : OwnSite (Name Part)). x.site) owns (o ∷ []) ∙ ap (λ k. sites_of owns ++ k ∷ []) same ∙ ap (λ xs. xs ++ get_or js i 0 ∷ []) so_far ∙ sym (filter_more q js i lt on)

  pub own_same : q (get_or js i 0) ≡ false → sites_of owns ≡ filter q (take (i + 1) js)
  own_same off = so_far ∙ sym (filter_same q js i lt off)
