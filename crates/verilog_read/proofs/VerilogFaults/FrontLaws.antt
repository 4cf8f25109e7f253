-- What looks no further than its faults depend on has the faults of what stands in front.
use Rattle.std.proofs.Common.{◌≡◌, ℕ, ◌+◌, ◌<◌, Err, List, ◌++◌, length, refl, sym, ◌∙◌, ap, subst, arith}
use Rattle.verilog_lex.specs.Lexeme.{Lexeme}
use Rattle.verilog_expression.specs.declared.fault.Code.{Code}
use Rattle.verilog_expression.specs.declared.fault.Fault.{Fault}
use Rattle.verilog_expression.specs.Reads.{Read, Reading}
use Rattle.verilog_read.specs.VerilogFaults.Faults.{lexemes_behind, fault_with, HasFaultOfFront}
use Rattle.verilog_read.proofs.VerilogFaults.Local.{Within, Follows, Gives, Fails, Goes, Local}

same_fault : {A : Type 0} (f g : Fault) → (let x : Reading A = Err f in x) ≡ Err g → f ≡ g
same_fault f g e = cc

same_place : (c d : Code) (n m : ℕ) → fault_with c n ≡ fault_with d m → (c ≡ d) × (n ≡ m)
same_place c d n m e = (ap (λ (f : Fault). f.code) e, ap (λ (f : Fault). f.left) e)

by_follows : {A : Type 0} (r u : List Lexeme) (x y : Read A) (c : Code) (n : ℕ) → lexemes_behind c < n → Follows r u x y → x ≡ Err (fault_with c (n + length r)) → y ≡ Err (fault_with c (n + length u))
by_follows r u x y c n h (Gives v b e e') k = let q = sym e ∙ k in absurd cc
by_follows r u x y c n h (Fails d m e e') k =
    let p = same_place d c (m + length r) (n + length r) (same_fault _ _ (sym e ∙ k)) in
    let q : m ≡ n = let i = p.1 in omega arith in
    e' ∙ rw (p.0, q) refl
by_follows r u x y c n h (Goes w) k = let q = subst (Within (length r) (length r)) k w in absurd (omega arith)

pub fault_of_front : {A : Type 0} (f : List Lexeme → Read A) → Local 0 0 f → HasFaultOfFront f
fault_of_front f F front rest other c n h e = by_follows rest other (f (front ++ rest)) (f (front ++ other)) c n h (F.follows front rest other) e
