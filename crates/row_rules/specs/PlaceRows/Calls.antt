-- Which data places a call of a helper reads and writes, and what it may write into a map.
use Rattle.std.specs.Prelude.{ℕ, pos, Option, Some, None, List, [], ◌∷◌}
use Rattle.xdp_state.specs.bpf_isa.declared.helper.Helper.{Helper}
use Rattle.xdp_state.specs.bpf_isa.declared.helper.Helper.TheVariants.{Lookup, Update, Delete, Time, Redirect}
use Rattle.xdp_state.specs.xdp_maps.declared.decl.MapDecl.{MapDecl}
use Rattle.kind_core.specs.declared.kind.Kinds.{Kinds}
use Rattle.kind_core.specs.Kinds.{register}
use Rattle.row_rules.specs.declared.place_rows.span.Span.{Span}
use Rattle.row_rules.specs.declared.place_rows.recording.Record.{Record}
use Rattle.row_rules.specs.PlaceRows.Spans.{no_place, one, target, region, map_of, pending_of, key_in, value_in}

-- the key and the value that a call is given
abbrev pub key_span : List MapDecl → Kinds → Span
key_span decls k = region (register k 2) (pos 0) (key_in decls (map_of (register k 1)))

abbrev pub value_span : List MapDecl → Kinds → Option ℕ → Span
value_span decls k map = region (register k 3) (pos 0) (value_in decls map)

-- A lookup and a delete read the key, an update also the flags, and all what is pending of the map; a redirect reads both numbers and the target.
abbrev pub call_reads : List MapDecl → Kinds → Option Helper → List Span
call_reads decls k (Some Lookup) = key_span decls k ∷ pending_of (register k 1) ∷ no_place ∷ no_place ∷ []
call_reads decls k (Some Update) = key_span decls k ∷ one 4 ∷ pending_of (register k 1) ∷ no_place ∷ []
call_reads decls k (Some Delete) = key_span decls k ∷ pending_of (register k 1) ∷ no_place ∷ no_place ∷ []
call_reads decls k (Some Time) = no_place ∷ no_place ∷ no_place ∷ no_place ∷ []
call_reads decls k (Some Redirect) = one 1 ∷ one 2 ∷ target ∷ no_place ∷ []
call_reads decls k None = no_place ∷ no_place ∷ no_place ∷ no_place ∷ []

-- beside R0 a redirect writes the target
abbrev pub call_writes : Option Helper → Span
call_writes (Some Lookup) = no_place
call_writes (Some Update) = no_place
call_writes (Some Delete) = no_place
call_writes (Some Time) = no_place
call_writes (Some Redirect) = target
call_writes None = no_place

-- a write of the map in R1: an update takes the key and the value, a delete the key
abbrev pub called_on : List MapDecl → Kinds → Option Helper → Option ℕ → Option Record
called_on decls k h None = None
called_on decls k (Some Update) (Some q) = Some (record { map = q; takes = key_span decls k ∷ value_span decls k (Some q) ∷ no_place ∷ [] })
called_on decls k (Some Delete) (Some q) = Some (record { map = q; takes = key_span decls k ∷ no_place ∷ no_place ∷ [] })
called_on decls k h (Some q) = None
