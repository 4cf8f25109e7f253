-- What a change of a table touches: a read that it touches may find something else now.
use Rattle.std.specs.Prelude.{ℕ, ◌==◌, nat_le, nat_lt, Bool, false, not, ◌&&◌, ◌||◌, List}
use Rattle.std.specs.List.{list_any}
use Rattle.std.specs.Str.{bytes_eq}
use Rattle.xdp_maps.specs.declared.decl.MapDecl.{MapDecl}
use Rattle.xdp_maps.specs.declared.decl.MapKind.{MapKind}
use Rattle.xdp_maps.specs.declared.decl.MapKind.TheVariants.{Hash, Array}
use Rattle.xdp_maps.specs.Operations as map
use Rattle.xdp_maps.specs.Operations.{Operation}
use Rattle.cell_core.specs.declared.site.Act.{Act}
use Rattle.cell_core.specs.declared.site.Act.TheVariants as act
use Rattle.cell_core.specs.Sites.{SiteView, ProgramView, site_at}
use Rattle.hazard_core.specs.Tables.{decl_of}
use Rattle.hazard_core.specs.StageValues.{Pointer, Null, InSlot, Pending, is_null, StageValues, pointer_in, found_cell, asked, asked_key, access_pointer, guard_on, read_cells}
pub use Rattle.hazard_core.specs.declared.change.Change.{Change}

-- a read under a key sees whether that comes or goes; an update of a new key also whether another does, since that changes the size
abbrev pub key_touched : Operation → Bool → List ℕ → Bool
key_touched (map.Lookup key) found changed = bytes_eq key changed
key_touched (map.Delete key) found changed = bytes_eq key changed
key_touched (map.Update key value flags) found changed = not (nat_lt 2 flags) && (bytes_eq key changed || (nat_lt flags 2 && not found))
key_touched op found changed = false

-- a read through a pointer sees the value in its slot, or, of an entry that is to be made, under its key
abbrev pub entry_touched : ProgramView → List MapDecl → StageValues → Change → Pointer → Bool
entry_touched p decls h e Null = false
entry_touched p decls h e (InSlot n) = n == e.slot
entry_touched p decls h e (Pending i) = bytes_eq (asked_key decls h (site_at p.sites i)) e.key

-- the keys of an array neither come nor go
abbrev pub presence_touched : MapKind → Operation → Bool → Change → Bool
presence_touched Hash op found e = e.presence && key_touched op found e.key
presence_touched Array op found e = false

abbrev pub touched_as : Act → ProgramView → List MapDecl → StageValues → ℕ → Change → Bool
touched_as (act.Load at size) p decls h j e = entry_touched p decls h e (access_pointer h (site_at p.sites j))
touched_as (act.Atomic at a) p decls h j e = a.fetch && entry_touched p decls h e (access_pointer h (site_at p.sites j))
touched_as (act.Store at size) p decls h j e = false
touched_as a p decls h j e =
    presence_touched (decl_of decls (site_at p.sites j).map).kind (asked decls h (site_at p.sites j)) (not (is_null (pointer_in h (found_cell p.cells j)))) e

-- whether a change touches the read of site j
abbrev pub touches : ProgramView → List MapDecl → StageValues → ℕ → Change → Bool
touches p decls h j e = ((site_at p.sites j).map == e.map) && touched_as (site_at p.sites j).act p decls h j e

-- ---- in a packet that holds the rows up to r
abbrev pub is_known : (ℕ → ℕ) → ℕ → SiteView → Bool
is_known row r s = nat_le (row s.guard) r

abbrev pub known_on : (ℕ → ℕ) → ℕ → StageValues → SiteView → Bool
known_on row r h s = is_known row r s && guard_on h s

abbrev pub known_off : (ℕ → ℕ) → ℕ → StageValues → SiteView → Bool
known_off row r h s = is_known row r s && not (guard_on h s)

-- whether the packet has read at a site
abbrev pub has_read : ProgramView → (ℕ → ℕ) → ℕ → ℕ → Bool
has_read p row r j = list_any (λ c. nat_le (row c) r) (read_cells p.cells j)

-- whether a change marks the packet at site j
abbrev pub is_marked : ProgramView → (ℕ → ℕ) → List MapDecl → ℕ → StageValues → Change → ℕ → Bool
is_marked p row decls r h e j = has_read p row r j && not (known_off row r h (site_at p.sites j)) && touches p decls h j e
