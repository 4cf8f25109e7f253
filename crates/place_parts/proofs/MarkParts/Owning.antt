-- The keys of a packet's updates, one more.
use Rattle.std.specs.Prelude.{◌&&◌, ◌==◌}
use Rattle.std.specs.List.{filter}
use Rattle.std.proofs.Common.{◌≡◌, ◌∙◌, ℕ, ◌+◌, Bool, true, false, List, [], ◌∷◌, ◌++◌, map as map_list, ap}
use Rattle.std.proofs.lemmas.Bool.{eqb-true}
use Rattle.std.proofs.lemmas.List.{map-append}
use Rattle.hazard_core.specs.xdp_maps.declared.decl.MapDecl.{MapDecl}
use Rattle.block_core.specs.declared.name.Name.{Name}
use Rattle.hazard_core.specs.cell_core.Rows.{numbers}
use Rattle.hazard_core.specs.cell_core.Sites.{ProgramView, site_at}
use Rattle.hazard_core.specs.Tables.{decl_of}
use Rattle.hazard_core.specs.StageValues.{is_update}
use Rattle.read_net.specs.declared.touch_net.change.OwnKey.{OwnKey}
use Rattle.read_net.specs.TouchNet.Touching.{key_bytes}
use Rattle.pipe_net.specs.declared.parts.Part.{Part}
use Rattle.place_parts.specs.MarkParts.Owns.{is_hash, is_own}
use Rattle.place_parts.proofs.MarkParts.Listing.{kept_more}

pub own_more : (q : ℕ → Bool) (n : ℕ) (all : List (OwnKey (Name Part))) (o : OwnKey (Name Part)) → q n ≡ true → o.site ≡ n → map_list (λ x. x.site) all ≡ filter q (numbers 0 n) → map_list (λ x. x.site) (all ++ o ∷ []) ≡ filter q (numbers 0 (n + 1))
own_more q n all o there same is = map-append (λ (x : OwnKey (Name Part)). x.site) all (o ∷ []) ∙ ap (λ k. map_list (λ (x : OwnKey (Name Part)). x.site) all ++ k ∷ []) same ∙ kept_more q n (map_list (λ (x : OwnKey (Name Part)). x.site) all) there is

last_of : (a b c : Bool) → (a && b && c) ≡ true → c ≡ true
last_of true true c e = e
last_of true false c e = cc
last_of false b c e = cc

pub own_bytes : (p : ProgramView) (decls : List MapDecl) (bytes j : ℕ) → is_own p decls bytes j ≡ true → key_bytes p decls j ≡ bytes
own_bytes p decls bytes j e = eqb-true (key_bytes p decls j) bytes (last_of (is_update (site_at p.sites j).act) (is_hash (decl_of decls (site_at p.sites j).map).kind) (key_bytes p decls j == bytes) e)
