-- What all maps of a program hold.
use Rattle.std.specs.Prelude.{ℕ, ◌<◌, ◌≡◌, List, [], length, slice_set, map as map_list}
use Rattle.std.proofs.Common.{get_or}
use Rattle.std.specs.Coded.{Coded, coded_ℕ, coded_list}
use Rattle.std.specs.FinMap as map
use Rattle.xdp_maps.specs.declared.decl.MapKind.TheVariants.{Hash}
use Rattle.xdp_maps.specs.declared.decl.MapDecl.{MapDecl}
use Rattle.xdp_maps.specs.Contents.{Contents, IsOver, IsWithinLimits, opened}

-- how contents are told apart: by their pairs
abbrev pub contents_code : Coded Contents
contents_code = map.code (coded_list coded_ℕ) (coded_list coded_ℕ)

-- the declarations, and beside each what its map holds
pub record MapState : Type 0 where
  pub decls : List MapDecl
  pub contents : List Contents

-- what stands for a declaration past the last
abbrev pub no_decl : MapDecl
no_decl = record { name = []; kind = Hash; key = 0; value = 0; cap = 0 }

abbrev pub decl_at : MapState → ℕ → MapDecl
decl_at s m = get_or s.decls m no_decl

abbrev pub contents_at : MapState → ℕ → Contents
contents_at s m = get_or s.contents m map.empty

-- the same, but for what one map holds
abbrev pub with_contents : MapState → ℕ → Contents → MapState
with_contents s m c = record s { contents = slice_set s.contents m c }

-- all maps before anything is written
abbrev pub opened_state : List MapDecl → MapState
opened_state decls = record { decls = decls; contents = map_list opened decls }

-- each map holds what its declaration allows
pub record IsSound (s : MapState) : Type 0 where
  pub beside : length s.contents ≡ length s.decls
  pub limits : (m : ℕ) → m < length s.decls → IsWithinLimits (decl_at s m)
  pub over : (m : ℕ) → m < length s.decls → IsOver (decl_at s m) (contents_at s m)
