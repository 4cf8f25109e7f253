-- The keys that sites ask for.
use Rattle.std.proofs.Common.{◌≡◌, ◌∙◌, ℕ, sym, ap, map as map_list}
use Rattle.block_core.specs.net_core.Value.{Env}
use Rattle.overlay_net.specs.cell_core.declared.site.Act.TheVariants as act
use Rattle.overlay_net.specs.cell_core.Sites.{ProgramView, site_at, bytes_of}
use Rattle.pipe_core.specs.hazard_core.Tables.{TableState, decl_of, table_at}
use Rattle.pipe_core.specs.hazard_core.StageValues.{StageValues, stage_value, asked_key, slot_pointer}
use Rattle.overlay_net.specs.cell_nets.declared.operand.Operand.{Operand}
use Rattle.overlay_net.specs.SiteOperands.Pointers.{pointer_number}
use Rattle.overlay_net.specs.Reading.{ShowsSlot}
use Rattle.overlay_net.proofs.hazard_core_laws.ActsLaws.{key_is}

module _ {N : Type 0} (v : Env N) (p : ProgramView) (t : TableState) (h : StageValues) (i j : ℕ) (map : (site_at p.sites i).map ≡ (site_at p.sites j).map) (key : (site_at p.sites i).key ≡ (site_at p.sites j).key) where
  bytes_at : (k : ℕ) → asked_key t.decls h (site_at p.sites k) ≡ bytes_of (decl_of t.decls (site_at p.sites k).map).key (map_list (stage_value h) (site_at p.sites k).key)
  bytes_at k = key_is (decl_of t.decls (site_at p.sites k).map) (site_at p.sites k).act (map_list (stage_value h) (site_at p.sites k).key) (map_list (stage_value h) (site_at p.sites k).operands)

  same_key : asked_key t.decls h (site_at p.sites i) ≡ asked_key t.decls h (site_at p.sites j)
  same_key =
      bytes_at i
      ∙ ap (λ m. bytes_of (decl_of t.decls m).key (map_list (stage_value h) (site_at p.sites i).key)) map
      ∙ ap (λ l. bytes_of (decl_of t.decls (site_at p.sites j).map).key (map_list (stage_value h) l)) key
      ∙ sym (bytes_at j)

  -- Sites with one key in one map find one slot.
  pub same_slot : (slot : Operand N) → ShowsSlot v p t h i slot → ShowsSlot v p t h j slot
  same_slot slot shown = shown ∙ ap (λ m. pointer_number (slot_pointer (table_at t m) (asked_key t.decls h (site_at p.sites i)))) map ∙ ap (λ k. pointer_number (slot_pointer (table_at t (site_at p.sites j).map) k)) same_key
