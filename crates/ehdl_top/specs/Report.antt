-- The lines of a report.
use Rattle.std.specs.Prelude.{ℕ, List, ◌∷◌, ◌++◌, map, codes, decimal}
use Rattle.xdp_object.specs.bpf_isa.Text.{unit_count}
use Rattle.xdp_maps.specs.declared.decl.MapKind.{MapKind}
use Rattle.xdp_maps.specs.declared.decl.MapKind.TheVariants.{Hash, Array}
use Rattle.xdp_maps.specs.declared.decl.MapDecl.{MapDecl}
use Rattle.xdp_object.specs.xdp_machine.Program.{XdpProgram}
use Rattle.row_rules.specs.declared.node_rows.stages.Stages.{Stages}

-- a word and a number
abbrev pub counted_line : List ℕ → ℕ → List ℕ
counted_line word n = word ++ decimal n ++ codes "\n"

abbrev pub kind_word : MapKind → List ℕ
kind_word Hash = codes "hash"
kind_word Array = codes "array"

-- a map: its name and its kind, the bytes of a key and of a value, and how many entries there can be
abbrev pub map_line : MapDecl → List ℕ
map_line d =
    codes "map " ++ d.name ++ codes " " ++ kind_word d.kind ++ codes " "
    ++ decimal d.key ++ codes " " ++ decimal d.value ++ codes " " ++ decimal d.cap ++ codes "\n"

-- A program's name, as its bytes stand; the units of its instructions; the nodes of its graph; its stages; its nodes that may write a
-- map; and its maps, by their numbers.
abbrev pub report_lines : XdpProgram → ℕ → Stages → List (List ℕ)
report_lines p nodes stages =
    (codes "program " ++ p.name ++ codes "\n")
    ∷ counted_line (codes "slots ") (unit_count p.insns)
    ∷ counted_line (codes "nodes ") nodes
    ∷ counted_line (codes "stages ") stages.rows
    ∷ counted_line (codes "records ") stages.records
    ∷ map map_line p.decls
