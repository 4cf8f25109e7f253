-- The integers and the outputs that names stand for have these names in the finished design.
use Rattle.std.proofs.Common.{◌≡◌, ℕ, ◌+◌, ◌<◌, true, false, Some, List, ◌++◌, length, get_or, ap, ◌∙◌, arith}
use Rattle.std.specs.Prelude.{count_by}
use Rattle.std.proofs.lemmas.Bool.{cond-true}
use Rattle.net_core.specs.declared.design.Port.{Port}
use Rattle.net_core.specs.declared.design.Declared.{Declared}
use Rattle.net_core.specs.declared.design.Declared.TheVariants as declared
use Rattle.net_core.specs.Nets.{Netlist}
use Rattle.net_core.specs.Names.{is_integer, place_of}
use Rattle.net_core.specs.Width.{output_width}
use Rattle.verilog_expression.specs.verilog_write.VerilogGrammar.Grammar.{text_at, integer_name}
use Rattle.design_rules.specs.FormedScope.{is_output}
use Rattle.verilog_expression.specs.declared.entry.Entry.TheVariants as entry
use Rattle.verilog_read.specs.Entries.{entry_in}
use Rattle.verilog_read.proofs.LawPlaces.{number_at, place_prefix}
use Rattle.verilog_read.proofs.SoundEntries.{integer_told, output_told}
use Rattle.verilog_read.proofs.SoundKnows.{Begins, prefix_name}

-- ---- integers
-- the integers that names stand for have these names
abbrev pub AreIntegers : Netlist → (ℕ → List ℕ) → Type 0
AreIntegers d integer = (s : List ℕ) (k : ℕ) → entry_in d s ≡ Some (entry.Integer k) → integer k ≡ s

pub integer_below : (d : Netlist) (s : List ℕ) (k : ℕ) → entry_in d s ≡ Some (entry.Integer k) → k < count_by is_integer d.declared
integer_below d s k h =
    let t = integer_told d s k h in
    let n = number_at is_integer d.declared t.at declared.Integer t.below t.integer in
    omega (arith, n.below, t.number)

pub integers_named : (e d : Netlist) (others : List Declared) → Begins e d → e.declared ≡ d.declared ++ others → AreIntegers d (integer_name e)
integers_named e d others b same s k h =
    let t = integer_told d s k h in
    let n = number_at is_integer d.declared t.at declared.Integer t.below t.integer in
    let place : length e.ports + place_of is_integer e.declared k ≡ length d.ports + t.at =
    omega (arith, ap length b.ports, ap (λ xs. place_of is_integer xs k) same, place_prefix is_integer d.declared others k (integer_below d s k h), ap (place_of is_integer d.declared) t.number, n.place) in
    ap (text_at e) place ∙ prefix_name e d b s (length d.ports + t.at) t.named

-- ---- outputs
abbrev pub none : Port
none = record { output = false; width = 0 }

pub record IsOutputNamed (e : Netlist) (s : List ℕ) (k w : ℕ) : Type 0 where
  pub named : text_at e k ≡ s
  pub output : is_output e.ports k ≡ true
  pub width : output_width (get_or e.ports k none) ≡ w

pub output_named : (e d : Netlist) (s : List ℕ) (k w : ℕ) → Begins e d → entry_in d s ≡ Some (entry.Output k w) → IsOutputNamed e s k w
output_named e d s k w b h =
    let t = output_told d s k w h in
    let same : get_or e.ports k none ≡ get_or d.ports k none = ap (λ ps. get_or ps k none) b.ports in
    record {
      named = prefix_name e d b s k t.named;
      output = ap (λ (p : Port). p.output) same ∙ t.output;
      width = ap output_width same ∙ cond-true (get_or d.ports k none).output (get_or d.ports k none).width 0 t.output ∙ t.width;
    }
