-- The contents of a table in memory. No caller's clause cites this.
use Rattle.std.specs.Prelude.{ℕ, ◌≡◌, ◌<◌, ◌≤◌, List, length, slice_index_or}
use Rattle.std.specs.Vec.{vec_capacity}
use Rattle.std.specs.FinMap as map
use Rattle.std.specs.Ordering.{nat_cmp}
use Rattle.std.specs.Cmp.Lexicographic.{slice_cmp}
use Rattle.xdp_maps.specs.declared.decl.MapDecl.{MapDecl}
use Rattle.xdp_maps.specs.declared.decl.MapKind.TheVariants as kind
use Rattle.xdp_maps.specs.declared.table.Table.{Table}
use Rattle.xdp_maps.specs.declared.table.Table.TheVariants as table
use Rattle.xdp_maps.specs.Contents.{Contents, IsOver, IsWithinLimits, array_of}
use Rattle.xdp_maps.specs.Layout.{IsRising}

abbrev pub contents_of : Table → Contents
contents_of (table.Hash entries) = map.from_sorted entries.items
contents_of (table.Array values) = array_of values.items

-- the table is of the declared kind: a hash with room for all its keys, or an array with all its values
abbrev pub IsKept : MapDecl → Table → Type 0
IsKept d (table.Hash entries) = (d.kind ≡ kind.Hash) × IsRising (slice_cmp nat_cmp) entries.items × (d.cap ≤ vec_capacity entries)
IsKept d (table.Array values) = (d.kind ≡ kind.Array) × (length values.items ≡ d.cap)

pub record IsTable (d : MapDecl) (t : Table) : Type 0 where
  pub limits : IsWithinLimits d
  pub kept : IsKept d t
  pub over : IsOver d (contents_of t)

-- beside each declaration a table of its
pub record AreTables (ds : List MapDecl) (ts : List Table) : Type 0 where
  pub beside : length ts ≡ length ds
  pub each : (m : ℕ) (d : MapDecl) (t : Table) → m < length ds → IsTable (slice_index_or ds m d) (slice_index_or ts m t)
