-- The first fault of a design's lexemes is decided by what stands up to it.
use Rattle.std.proofs.Common.{◌≡◌, ◌+◌, Ok, Err, List, [], ◌∷◌, ◌++◌, length, refl, sym, ◌∙◌, ap, arith}
use Rattle.net_core.specs.Nets.{Netlist}
use Rattle.verilog_lex.specs.Lexeme.{Lexeme}
use Rattle.verilog_expression.specs.declared.fault.Code.TheVariants as code
use Rattle.verilog_expression.specs.declared.fault.Fault.{Fault}
use Rattle.verilog_expression.specs.Reads.{Read, Reading, ◌>>=◌, fault}
use Rattle.verilog_read.specs.declared.section.Section.TheVariants as section
use Rattle.verilog_read.specs.Header.{header_at}
use Rattle.verilog_read.specs.Items.{items_at}
use Rattle.verilog_read.specs.Designs.{whole_at, design_at}
use Rattle.verilog_read.specs.VerilogFaults.Faults.{fault_with, HasFaultOfFront}
use Rattle.verilog_read.proofs.VerilogFaults.Local.{Local, by_heads, bind_local}
use Rattle.verilog_read.proofs.VerilogFaults.LexemeLocal.{own_fault}
use Rattle.verilog_read.proofs.VerilogFaults.HeaderLocal.{header_local}
use Rattle.verilog_read.proofs.VerilogFaults.ItemLocal.{all_items_local}
use Rattle.verilog_read.proofs.VerilogFaults.FrontLaws.{fault_of_front}

-- a design and what is left after it: nothing
ended : Netlist → List Lexeme → Read Netlist
ended d [] = Ok (d, [])
ended d (t ∷ ts) = fault code.Syntax (t ∷ ts)

ended_local : (d : Netlist) → Local 0 0 (ended d)
unfolding ended
ended_local d = by_heads (ended d) (omega arith) (λ t. own_fault t code.Syntax 1)

whole_read : List Lexeme → Read Netlist
whole_read ts = header_at ts >>= λ h. (items_at (length h.1) section.Declared h.0 h.1 >>= λ x. ended x.0 x.1)

whole_local : Local 0 0 whole_read
unfolding whole_read
whole_local =
    bind_local header_at _ header_local
    (λ d. bind_local (λ ts. items_at (length ts) section.Declared d ts) _ (all_items_local section.Declared d) ended_local)

-- ---- the same faults
without_rest : Netlist × List Lexeme → Reading Netlist
without_rest x = Ok x.0

ended_same : (d : Netlist) (ts : List Lexeme) → whole_at d ts ≡ (ended d ts >>= without_rest)
unfolding ended without_rest
ended_same d [] = refl
ended_same d (t ∷ ts) = refl

items_same : (x : Read Netlist) → (x >>= λ y. whole_at y.0 y.1) ≡ ((x >>= λ y. ended y.0 y.1) >>= without_rest)
items_same (Ok y) = ended_same y.0 y.1
items_same (Err f) = refl

header_same : (x : Read Netlist)
    → (x >>= λ h. (items_at (length h.1) section.Declared h.0 h.1 >>= λ y. whole_at y.0 y.1)) ≡ ((x >>= λ h. (items_at (length h.1) section.Declared h.0 h.1 >>= λ y. ended y.0 y.1)) >>= without_rest)
header_same (Ok h) = items_same (items_at (length h.1) section.Declared h.0 h.1)
header_same (Err f) = refl

design_same : (ts : List Lexeme) → design_at ts ≡ (whole_read ts >>= without_rest)
unfolding design_at whole_read
design_same ts = header_same (header_at ts)

fault_in : (x : Read Netlist) (f : Fault) → (x >>= without_rest) ≡ Err f → x ≡ Err f
unfolding without_rest
fault_in (Ok y) f e = absurd cc
fault_in (Err g) f e = cc

-- a design's lexemes have the fault of their front
pub design_fault : HasFaultOfFront design_at
design_fault front rest other c n h e =
    let k = fault_of_front whole_read whole_local front rest other c n h (fault_in (whole_read (front ++ rest)) (fault_with c (n + length rest)) (sym (design_same (front ++ rest)) ∙ e)) in
    design_same (front ++ other) ∙ ap (λ (x : Read Netlist). x >>= without_rest) k
