-- A design from its lexemes, and the first fault of others.
use Rattle.std.specs.Prelude.{ℕ, suc, ◌&&◌, if◌then◌else◌, Option, Some, None, Ok, List, [], ◌∷◌, length}
use Rattle.std.specs.Str.{bytes_eq}
use Rattle.std.proofs.Common.{not}
use Rattle.net_core.specs.declared.design.Port as port
use Rattle.net_core.specs.Nets.{AssignTree, Netlist}
use Rattle.net_core.specs.Ports.{port_list, port_names}
use Rattle.net_core.specs.Width.{is_assigned}
use Rattle.design_rules.specs.Formed.{same_port}
use Rattle.verilog_lex.specs.Lexeme.{Lexeme}
use Rattle.verilog_expression.specs.declared.fault.Code.TheVariants as code
use Rattle.verilog_expression.specs.Reads.{Reading, ◌>>=◌, fault}
use Rattle.verilog_read.specs.declared.section.Section.TheVariants as section
use Rattle.verilog_read.specs.Header.{header_at}
use Rattle.verilog_read.specs.Items.{items_at}

-- a design after which nothing is left
abbrev pub whole_at : Netlist → List Lexeme → Reading Netlist
whole_at d [] = Ok d
whole_at d (t ∷ ts) = fault code.Syntax (t ∷ ts)

-- There are fewer items than lexemes.
unfoldable pub design_at : List Lexeme → Reading Netlist
design_at ts = do
  h ← header_at ts
  x ← items_at (length h.1) section.Declared h.0 h.1
  whole_at x.0 x.1

-- ---- the ports, which are looked at last
-- The number, from one on, of the first port that is not as every design has it: another name, direction or width, one too many
-- or too few.
abbrev pub other_port : ℕ → List (List ℕ) → List port.Port → List (List ℕ) → List port.Port → Option ℕ
other_port k names [] ns [] = None
other_port k names (p ∷ ps) ns [] = Some k
other_port k names [] ns (q ∷ qs) = Some k
other_port k [] (p ∷ ps) ns (q ∷ qs) = Some k
other_port k (s ∷ names) (p ∷ ps) [] (q ∷ qs) = Some k
other_port k (s ∷ names) (p ∷ ps) (n ∷ ns) (q ∷ qs) = if bytes_eq s n && same_port p q then other_port (suc k) names ps ns qs else Some k

-- the number, from one on, of the first output to which nothing is assigned
abbrev pub unassigned : ℕ → List AssignTree → List port.Port → Option ℕ
unassigned k assigns [] = None
unassigned k assigns (p ∷ ps) = if p.output && not (is_assigned assigns k) then Some k else unassigned (suc k) assigns ps

abbrev pub or_else : Option ℕ → Option ℕ → Option ℕ
or_else None later = later
or_else (Some k) later = Some k

unfoldable pub port_fault : Netlist → Option ℕ
port_fault d = or_else (other_port 0 d.names d.ports port_names port_list) (unassigned 0 d.assigns d.ports)
