-- The keys of a packet's own updates.
use Rattle.std.specs.Prelude.{◌≡◌, ◌&&◌, ◌==◌, ℕ, ◌<◌, Bool, true, false, All, List, length, slice_index, filter, map as map_list}
use Rattle.std.proofs.Common.{get_or}
use Rattle.std.specs.declared.vec.Vec.{Vec}
use Rattle.std.specs.declared.alloc.Global.{Global}
use Rattle.hazard_core.specs.xdp_maps.declared.decl.MapDecl.{MapDecl}
use Rattle.hazard_core.specs.xdp_maps.declared.decl.MapKind.{MapKind}
use Rattle.hazard_core.specs.xdp_maps.declared.decl.MapKind.TheVariants.{Hash, Array}
use Rattle.block_core.specs.declared.name.Name.{Name}
use Rattle.hazard_core.specs.cell_core.Rows.{numbers}
use Rattle.hazard_core.specs.cell_core.Sites.{ProgramView, site_at}
use Rattle.hazard_core.specs.Tables.{decl_of}
use Rattle.hazard_core.specs.StageValues.{is_update}
use Rattle.overlay_net.specs.declared.site_operands.SiteNets.{SiteNets}
use Rattle.read_net.specs.declared.touch_net.change.OwnKey.{OwnKey}
use Rattle.read_net.specs.TouchNet.Touching.{key_bytes}
use Rattle.pipe_net.specs.declared.parts.Part.{Part}
use Rattle.place_parts.specs.declared.mark_parts.layout.MarkLayout.{MarkLayout}
use Rattle.place_parts.specs.MarkParts.Places.{program_in, reads_in}

abbrev pub is_hash : MapKind → Bool
is_hash Hash = true
is_hash Array = false

-- whether site j updates a hash with keys of so many bytes
abbrev pub is_own : ProgramView → List MapDecl → ℕ → ℕ → Bool
is_own p decls bytes j = is_update (site_at p.sites j).act && is_hash (decl_of decls (site_at p.sites j).map).kind && (key_bytes p decls j == bytes)

-- a site of the program with a key of so many bytes, and the operands for that
pub record IsOwn (f : MarkLayout) (sites : List (SiteNets (Name Part))) (bytes : ℕ) (o : OwnKey (Name Part)) : Type 0 where
  pub known : o.site < length sites
  pub bytes_are : key_bytes (program_in f) f.decls.now o.site ≡ bytes
  pub key : (s : SiteNets (Name Part)) → o.key.now ≡ (get_or sites o.site s).key.items

-- those of all updates of hashes with keys of so many bytes
pub record AreOwns (f : MarkLayout) (sites : List (SiteNets (Name Part))) (bytes : ℕ) (owns : List (OwnKey (Name Part))) : Type 0 where
  pub are : map_list (λ o. o.site) owns ≡ filter (is_own (program_in f) f.decls.now bytes) (numbers 0 (length (program_in f).sites))
  pub each : All (IsOwn f sites bytes) owns

-- for each site at which the packet at a place has read, with keys as long as its own
abbrev pub bytes_at : MarkLayout → ℕ → ℕ → ℕ
bytes_at f k i = key_bytes (program_in f) f.decls.now (slice_index (reads_in f k) i)

pub record AreOwnLists (f : MarkLayout) (sites : List (SiteNets (Name Part))) (k : ℕ) (lists : List (Vec (OwnKey (Name Part)) Global)) : Type 0 where
  pub count : length lists ≡ length (reads_in f k)
  pub each : (i : ℕ) (d : Vec (OwnKey (Name Part)) Global) → i < length lists → AreOwns f sites (bytes_at f k i) (get_or lists i d).items
