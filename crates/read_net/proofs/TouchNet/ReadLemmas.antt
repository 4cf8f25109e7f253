-- Which reads a change touches, by what a site does.
use Rattle.std.specs.Prelude.{not, nat_lt, slice_index}
use Rattle.std.specs.Str.{bytes_eq}
use Rattle.std.proofs.Common.{◌≡◌, ◌≢◌, ◌∙◌, ℕ, ◌+◌, Bool, true, false, ◌&&◌, ◌||◌, List, ◌++◌, refl, sym, ap, subst, map as map_list}
use Rattle.std.proofs.lemmas.Bool.{eq-eqb}
use Rattle.block_core.specs.net_core.Value.{Env}
use Rattle.block_core.specs.Blocks.{BlockWireTree}
use Rattle.block_core.specs.declared.name.Name.{Name}
use Rattle.overlay_net.specs.xdp_maps.declared.decl.MapDecl.{MapDecl}
use Rattle.overlay_net.specs.xdp_maps.declared.decl.MapKind.TheVariants as kind
use Rattle.overlay_net.specs.cell_core.Acts.{finds_key}
use Rattle.overlay_net.specs.cell_core.declared.site.Act.{Act}
use Rattle.overlay_net.specs.cell_core.declared.site.Act.TheVariants as act
use Rattle.overlay_net.specs.cell_core.Cells.{bit, on}
use Rattle.overlay_net.specs.cell_core.Sites.{ProgramView, site_at, bytes_of, operation_with}
use Rattle.pipe_core.specs.hazard_core.declared.change.Change.{Change}
use Rattle.pipe_core.specs.hazard_core.StageValues.{StageValues, stage_value, asked, is_null, pointer_in, found_cell, access_pointer}
use Rattle.pipe_core.specs.hazard_core.Marks.{key_touched, presence_touched, entry_touched, touched_as, touches}
use Rattle.pipe_core.specs.hazard_core.Tables.{decl_of}
use Rattle.overlay_net.specs.cell_nets.declared.operand.Operand.{Operand}
use Rattle.overlay_net.specs.cell_nets.Operands.{number_in}
use Rattle.overlay_net.specs.cell_nets.Wires.{always, Gives}
use Rattle.overlay_net.specs.SiteOperands.Sites.{SiteOperands, ShowsSite}
use Rattle.overlay_net.specs.Reading.{IsSite}
use Rattle.overlay_net.proofs.cell_nets_laws.StepNets.StepLaws.{on_bit}
use Rattle.overlay_net.proofs.PointerLaws.{found_on}
use Rattle.read_net.specs.declared.touch_net.change.ChangeNets.{ChangeNets}
use Rattle.read_net.specs.TouchNet.Touching.{ShowsChange, reads_entry}

no_case : false ≡ true → ⊥
no_case e = cc

-- ---- under a key
pub update_sees : (d : MapDecl) (a : Act) (ks xs key : List ℕ) (found : Bool) → a ≡ act.Update
    → (not (nat_lt 2 (slice_index xs 0)) && (bytes_eq (bytes_of d.key ks) key || (nat_lt (slice_index xs 0) 2 && not found))) ≡ key_touched (operation_with d a ks xs) found key
update_sees d a ks xs key found is = ap (λ x. key_touched (operation_with d x ks xs) found key) (sym is)

pub other_sees : (d : MapDecl) (a : Act) (ks xs key : List ℕ) (found : Bool) → finds_key a ≡ true → a ≢ act.Update → bytes_eq (bytes_of d.key ks) key ≡ key_touched (operation_with d a ks xs) found key
other_sees d act.Lookup ks xs key found f u = refl
other_sees d act.Delete ks xs key found f u = refl
other_sees d act.Update ks xs key found f u = absurd (u refl)
other_sees d (act.Load at size) ks xs key found f u = absurd (no_case f)
other_sees d (act.Store at size) ks xs key found f u = absurd (no_case f)
other_sees d (act.Atomic at a) ks xs key found f u = absurd (no_case f)

module _ (p : ProgramView) (decls : List MapDecl) (h : StageValues) (j : ℕ) (e : Change) (a : Act) (d : MapDecl) (is : IsSite p decls j a d) where
  abbrev not_null : Bool
  not_null = not (is_null (pointer_in h (found_cell p.cells j)))

  pub array_rests : d.kind ≡ kind.Array → 0 ≡ bit (presence_touched (decl_of decls (site_at p.sites j).map).kind (asked decls h (site_at p.sites j)) not_null e)
  array_rests k = ap (λ x. bit (presence_touched x (asked decls h (site_at p.sites j)) not_null e)) (sym (ap (λ (y : MapDecl). y.kind) is.decl ∙ k))

  -- by what stands for the site and the change
  pub hash_sees : {N : Type 0} (v : Env N) (s : SiteOperands N) (c : ChangeNets N) (seen : ℕ) → d.kind ≡ kind.Hash → ShowsSite v p h j s → ShowsChange v d.key e c
      → seen ≡ bit (key_touched (operation_with d a (map_list (number_in v) s.key) (map_list (number_in v) s.operands)) (on (number_in v s.found)) (bytes_of d.key (map_list (number_in v) c.key.now)))
      → bit (on (number_in v c.presence) && on seen) ≡ bit (presence_touched (decl_of decls (site_at p.sites j).map).kind (asked decls h (site_at p.sites j)) not_null e)
  hash_sees v s c seen k shows change sees =
      let ks = map_list (stage_value h) (site_at p.sites j).key in
      let xs = map_list (stage_value h) (site_at p.sites j).operands in
      ap (λ b. bit (b && on seen)) (ap on change.presence ∙ on_bit e.presence)
      ∙ ap (λ b. bit (e.presence && b)) (ap on sees ∙ on_bit _)
      ∙ ap (λ l. bit (e.presence && key_touched (operation_with d a (map_list (number_in v) s.key) (map_list (number_in v) s.operands)) (on (number_in v s.found)) l)) change.key
      ∙ ap (λ b. bit (e.presence && key_touched (operation_with d a (map_list (number_in v) s.key) (map_list (number_in v) s.operands)) b e.key)) (ap on shows.found ∙ found_on (pointer_in h (found_cell p.cells j)))
      ∙ ap (λ l. bit (e.presence && key_touched (operation_with d a l (map_list (number_in v) s.operands)) not_null e.key)) shows.asked.key
      ∙ ap (λ l. bit (e.presence && key_touched (operation_with d a ks l) not_null e.key)) shows.asked.operands
      ∙ ap (λ x. bit (e.presence && key_touched (operation_with d x ks xs) not_null e.key)) (sym is.act)
      ∙ ap (λ x. bit (e.presence && key_touched (operation_with x (site_at p.sites j).act ks xs) not_null e.key)) (sym is.decl)
      ∙ ap (λ x. bit (presence_touched x (asked decls h (site_at p.sites j)) not_null e)) (sym (ap (λ (y : MapDecl). y.kind) is.decl ∙ k))

-- ---- by what it does
module _ (p : ProgramView) (decls : List MapDecl) (h : StageValues) (j : ℕ) (e : Change) where
  abbrev through : Bool
  through = entry_touched p decls h e (access_pointer h (site_at p.sites j))

  abbrev by_key : Bool
  by_key = presence_touched (decl_of decls (site_at p.sites j).map).kind (asked decls h (site_at p.sites j)) (not (is_null (pointer_in h (found_cell p.cells j)))) e

  entry_as : (a : Act) → reads_entry a ≡ true → through ≡ touched_as a p decls h j e
  entry_as (act.Load at size) r = refl
  entry_as (act.Atomic at a) r = ap (λ b. b && through) (sym r)
  entry_as (act.Store at size) r = absurd (no_case r)
  entry_as act.Lookup r = absurd (no_case r)
  entry_as act.Update r = absurd (no_case r)
  entry_as act.Delete r = absurd (no_case r)

  key_as : (a : Act) → finds_key a ≡ true → by_key ≡ touched_as a p decls h j e
  key_as act.Lookup f = refl
  key_as act.Update f = refl
  key_as act.Delete f = refl
  key_as (act.Load at size) f = absurd (no_case f)
  key_as (act.Store at size) f = absurd (no_case f)
  key_as (act.Atomic at a) f = absurd (no_case f)

  none_as : (a : Act) → reads_entry a ≡ false → finds_key a ≡ false → false ≡ touched_as a p decls h j e
  none_as (act.Store at size) r f = refl
  none_as (act.Atomic at a) r f = ap (λ b. b && through) (sym r)
  none_as (act.Load at size) r f = absurd (no_case (sym r))
  none_as act.Lookup r f = absurd (no_case (sym f))
  none_as act.Update r f = absurd (no_case (sym f))
  none_as act.Delete r f = absurd (no_case (sym f))

  module _ (a : Act) (d : MapDecl) (is : IsSite p decls j a d) (same : (site_at p.sites j).map ≡ e.map) where
    of_site : (b : Bool) → b ≡ touched_as a p decls h j e → bit b ≡ bit (touches p decls h j e)
    of_site b k = ap bit (k ∙ ap (λ x. touched_as x p decls h j e) (sym is.act) ∙ ap (λ x. x && touched_as (site_at p.sites j).act p decls h j e) (sym (eq-eqb (site_at p.sites j).map e.map same)))

    pub entry_touches : reads_entry a ≡ true → bit through ≡ bit (touches p decls h j e)
    entry_touches r = of_site through (entry_as a r)

    pub key_touches : finds_key a ≡ true → bit by_key ≡ bit (touches p decls h j e)
    key_touches f = of_site by_key (key_as a f)

    pub none_touches : reads_entry a ≡ false → finds_key a ≡ false → 0 ≡ bit (touches p decls h j e)
    none_touches r f = of_site false (none_as a r f)

-- ---- keys in other words
pub key_given :
    {P : Type 0} (q : P) (old new : List (BlockWireTree (Name P))) (n : ℕ) (l own key : List (Operand (Name P))) (out : Operand (Name P)) → l ≡ own
    → Gives q old new (l ++ key) always (λ v. bit (bytes_eq (bytes_of n (map_list (number_in v) l)) (bytes_of n (map_list (number_in v) key)))) 1 out
    → Gives q old new (own ++ key) always (λ v. bit (bytes_eq (bytes_of n (map_list (number_in v) own)) (bytes_of n (map_list (number_in v) key)))) 1 out
key_given q old new n l own key out e x = subst (λ o. Gives q old new (o ++ key) always (λ v. bit (bytes_eq (bytes_of n (map_list (number_in v) o)) (bytes_of n (map_list (number_in v) key)))) 1 out) e x
