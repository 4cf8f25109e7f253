-- There are tables of the declarations of maps.
use Rattle.std.proofs.Common.{ℕ, zero, suc, ◌<◌, All, List, [], ◌∷◌, length, refl, sym, subst, arith}
use Rattle.std.proofs.lemmas.List.{length-map, get_or-map}
use Rattle.std.proofs.lemmas.List.Elements.{All-head, All-tail}
use Rattle.std.specs.FinMap as map
use Rattle.hazard_core.specs.xdp_maps.declared.decl.MapDecl.{MapDecl}
use Rattle.hazard_core.specs.xdp_maps.Contents.{Contents, IsOver, IsWithinLimits, opened}
use Rattle.hazard_core.specs.xdp_maps.Laws.{KeepsOver}
use Rattle.hazard_core.specs.xdp_maps.State.{MapState, IsSound, no_decl, decl_at, opened_state}
use Rattle.hazard_core.specs.Tables.{decl_of, tables_of}
use Rattle.hazard_core.specs.Tabled.{LoadsTables}
use Rattle.read_net.specs.declared.sites.MapNets.{MapNets}
use Rattle.stage_net.specs.Nets.{decls_of, IsMapNets}
use Rattle.stage_net.specs.Staged.{HaveTables}

limits_in : {N : Type 0} (bits : ℕ) (maps : List (MapNets N)) → All (IsMapNets bits) maps → (m : ℕ) → m < length (decls_of maps) → IsWithinLimits (decl_of (decls_of maps) m)
limits_in bits [] h m lt = absurd (omega (arith, lt))
limits_in bits (x ∷ xs) h zero lt = (All-head (IsMapNets bits) x xs h).is.limits
limits_in bits (x ∷ xs) h (suc m) lt = limits_in bits xs (All-tail (IsMapNets bits) x xs h) m (omega (arith, lt))

module _ {N : Type 0} (bits : ℕ) (maps : List (MapNets N)) (loads : LoadsTables) (keeps : (d : MapDecl) (c : Contents) → KeepsOver d c) (are : All (IsMapNets bits) maps) where
  -- all maps before anything is written
  abbrev first : MapState
  first = opened_state (decls_of maps)

  sound : IsSound first
  sound = record {
    beside = length-map (decls_of maps) opened;
    limits = limits_in bits maps are;
    over = λ m lt. subst (IsOver (decl_at first m)) (sym (get_or-map opened (decls_of maps) m no_decl map.empty lt)) ((keeps (decl_at first m) map.empty).opens (limits_in bits maps are m lt));
  }

  pub have_tables : HaveTables (decls_of maps)
  have_tables = record { some = tables_of first; tables = loads first sound; declared = refl }
