-- In a dump the host writes nothing.
use Rattle.std.specs.Prelude.{◌≡◌, ℕ, ◌+◌, false, List, [], ◌∷◌, ◌++◌, map}
use Rattle.std.specs.List.{flat_map, range_with_len}
use Rattle.std.proofs.Common.{refl}
use Rattle.cell_core.specs.xdp_maps.declared.decl.MapDecl.{MapDecl}
use Rattle.pipe_core.specs.net_core.declared.ports.Inputs.{Inputs}
use Rattle.pipe_core.specs.realization.HostHistory.Host.{asked, map_reads, reads, dump}
use Rattle.pipe_core.specs.realization.HostHistory.Rows.{row_length}
use Rattle.pipe_runs.specs.PipePorts.Followed.{WriteNothing}
use Rattle.pipe_runs.proofs.Histories.{all_append}

pub silent_append : (is js : List Inputs) → WriteNothing is → WriteNothing js → WriteNothing (is ++ js)
silent_append is js h k = all_append (λ (i : Inputs). i.host_write ≡ false) is js h k

words_read : (m index : ℕ) (words : List ℕ) → WriteNothing (map (asked m index) words)
words_read m index [] = tt
words_read m index (w ∷ words) = (refl, words_read m index words)

rows_read : (m : ℕ) (d : MapDecl) (indexes : List ℕ) → WriteNothing (flat_map (λ index. map (asked m index) (range_with_len 0 (row_length d))) indexes)
rows_read m d [] = tt
rows_read m d (index ∷ indexes) =
    silent_append (map (asked m index) (range_with_len 0 (row_length d))) (flat_map (λ i. map (asked m i) (range_with_len 0 (row_length d))) indexes) (words_read m index (range_with_len 0 (row_length d))) (rows_read m d indexes)

maps_read : (m : ℕ) (ds : List MapDecl) → WriteNothing (reads m ds)
maps_read m [] = tt
maps_read m (d ∷ ds) = silent_append (map_reads m d) (reads (m + 1) ds) (rows_read m d (range_with_len 0 d.cap)) (maps_read (m + 1) ds)

pub dumps_write_nothing : (ds : List MapDecl) → WriteNothing (dump ds)
dumps_write_nothing ds = maps_read 0 ds
