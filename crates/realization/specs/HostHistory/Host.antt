-- What the host writes before the first beat and reads after the last answer: a word a clock, maps in the order of their
-- declarations, indexes ascending, words ascending. No beat is offered or taken meanwhile.
use Rattle.std.specs.Prelude.{◌≡◌, ℕ, zero, suc, ◌+◌, ◌*◌, List, [], ◌∷◌, ◌++◌, map as map_list, take, drop, true}
use Rattle.std.specs.List.{flat_map, range_with_len}
use Rattle.xdp_machine.specs.xdp_maps.declared.decl.MapDecl.{MapDecl}
use Rattle.xdp_machine.specs.xdp_maps.Contents.{Contents}
use Rattle.xdp_machine.specs.xdp_maps.State.{MapState}
use Rattle.net_core.specs.declared.ports.Inputs.{Inputs}
use Rattle.net_core.specs.declared.ports.TheConstants.{SILENT}
use Rattle.net_core.specs.Nets.{Netlist}
use Rattle.net_core.specs.Clock.{Stored}
use Rattle.net_core.specs.Trace.{Cycle, trace, NeverStops}
use Rattle.realization.specs.HostHistory.Rows.{row_length, rows_of, contents_of}

-- the inputs in a clock in which the host reads a word of an index of a map
abbrev pub asked : ℕ → ℕ → ℕ → Inputs
asked map index word = record SILENT { host_map = map; host_index = index; host_word = word }

-- and in one in which it writes this data there
abbrev pub written : ℕ → ℕ → ℕ → ℕ → Inputs
written map index word dat = record (asked map index word) { host_write = true; host_data = dat }

-- ---- the load
abbrev pub row_writes : ℕ → ℕ → ℕ → List ℕ → List Inputs
row_writes map index word [] = []
row_writes map index word (w ∷ words) = written map index word w ∷ row_writes map index (word + 1) words

abbrev pub map_writes : ℕ → ℕ → List (List ℕ) → List Inputs
map_writes map index [] = []
map_writes map index (row ∷ rows) = row_writes map index 0 row ++ map_writes map (index + 1) rows

-- of the maps from one on
abbrev pub writes : ℕ → List MapDecl → List Contents → List Inputs
writes map [] contents = []
writes map (d ∷ ds) [] = []
writes map (d ∷ ds) (c ∷ cs) = map_writes map 0 (rows_of d c) ++ writes (map + 1) ds cs

-- the clocks in which maps are loaded
abbrev pub load : MapState → List Inputs
load maps = writes 0 maps.decls maps.contents

-- ---- the dump
abbrev pub map_reads : ℕ → MapDecl → List Inputs
map_reads map d = flat_map (λ index. map_list (asked map index) (range_with_len 0 (row_length d))) (range_with_len 0 d.cap)

-- of the maps from one on
abbrev pub reads : ℕ → List MapDecl → List Inputs
reads map [] = []
reads map (d ∷ ds) = map_reads map d ++ reads (map + 1) ds

-- the clocks in which maps of these declarations are read
abbrev pub dump : List MapDecl → List Inputs
dump decls = reads 0 decls

-- words that came one after the other, as so many rows of n
abbrev pub cut_in_rows : ℕ → ℕ → List ℕ → List (List ℕ)
cut_in_rows zero n words = []
cut_in_rows (suc count) n words = take n words ∷ cut_in_rows count n (drop n words)

-- what maps hold that were read as these words
abbrev pub dumped : List MapDecl → List ℕ → List Contents
dumped [] words = []
dumped (d ∷ ds) words = contents_of d (cut_in_rows d.cap (row_length d) words) ∷ dumped ds (drop (d.cap * row_length d) words)

-- the words that the host is shown
abbrev pub shown_words : List Cycle → List ℕ
shown_words ms = map_list (λ m. m.shown.host_value) ms

-- A design with these stored values shows the host these maps.
pub record ShowsMaps (d : Netlist) (s : Stored) (maps : MapState) : Type 0 where
  pub never : NeverStops d s (dump maps.decls)
  pub shown : dumped maps.decls (shown_words (trace d s (dump maps.decls))) ≡ maps.contents
