-- Ports that are looked at one by one.
use Rattle.std.proofs.Common.{◌≡◌, ◌∙◌, refl, arith, ℕ, suc, ◌+◌, ◌<◌, ◌≤◌, Bool, true, false, cond, not, ◌&&◌, Option, Some, None, List, [], ◌∷◌, length, drop, get_or}
use Rattle.std.proofs.Math.Seq.{drop-cons}
use Rattle.std.proofs.lemmas.Bool.{ltb-true, ltb-false}
use Rattle.std.proofs.lemmas.List.{drop_all}
use Rattle.std.specs.Prelude.{nat_lt}
use Rattle.std.specs.Str.{bytes_eq}
use Rattle.net_core.specs.declared.ports.TheConstants.{PORT_COUNT}
use Rattle.net_core.specs.declared.design.Port.{Port}
use Rattle.net_core.specs.Nets.{AssignTree}
use Rattle.net_core.specs.Ports.{input, port_list, port_names}
use Rattle.net_core.specs.Width.{is_assigned}
use Rattle.design_rules.specs.Formed.{same_port}
use Rattle.verilog_read.specs.Designs.{other_port, unassigned}
use Rattle.verilog_read.specs.View.{is_listed}

few_ports : (i : ℕ) (names ns : List (List ℕ)) (ps qs rest : List Port) (q : Port) → ps ≡ [] → qs ≡ q ∷ rest → other_port i names ps ns qs ≡ Some i
few_ports i names ns ps qs rest q e f = rw (e, f) refl

few_names : (i : ℕ) (names ns : List (List ℕ)) (ps qs more rest : List Port) (p q : Port) → names ≡ [] → ps ≡ p ∷ more → qs ≡ q ∷ rest → other_port i names ps ns qs ≡ Some i
few_names i names ns ps qs more rest p q d e f = rw (d, e, f) refl

-- the port in front, and the next
abbrev pub after_port : ℕ → List (List ℕ) → List Port → List (List ℕ) → List Port → Bool → Option ℕ
after_port i names ps ns qs b = cond b (other_port (suc i) names ps ns qs) (Some i)

prefix_port : (i : ℕ) (s n : List ℕ) (p q : Port) (names ns ms os : List (List ℕ)) (ps qs rs ts : List Port) → ms ≡ s ∷ names → rs ≡ p ∷ ps → os ≡ n ∷ ns → ts ≡ q ∷ qs → other_port i ms rs os ts ≡ after_port i names ps ns qs (bytes_eq s n && same_port p q)
prefix_port i s n p q names ns ms os ps qs rs ts d e f g = rw (d, e, f, g) refl

-- the port of a number
pub port_at_number : (names : List (List ℕ)) (ps : List Port) (k : ℕ) → k < PORT_COUNT → other_port k (drop k names) (drop k ps) (drop k port_names) (drop k port_list) ≡ after_port k (drop (suc k) names) (drop (suc k) ps) (drop (suc k) port_names) (drop (suc k) port_list) (is_listed names ps k)
port_at_number names ps k h = by_ports (nat_lt k (length ps)) refl
  where
    listed : drop k port_list ≡ get_or port_list k (input 0) ∷ drop (suc k) port_list
    listed = drop-cons port_list k (input 0) h

    named : drop k port_names ≡ get_or port_names k [] ∷ drop (suc k) port_names
    named = drop-cons port_names k [] h

    by_names : (b : Bool) → nat_lt k (length names) ≡ b → k < length ps → other_port k (drop k names) (drop k ps) (drop k port_names) (drop k port_list) ≡ after_port k (drop (suc k) names) (drop (suc k) ps) (drop (suc k) port_names) (drop (suc k) port_list) (true && (b && (bytes_eq (get_or names k []) (get_or port_names k []) && same_port (get_or ps k (input 0)) (get_or port_list k (input 0)))))
    by_names true e l = prefix_port k _ _ _ _ _ _ _ _ _ _ _ _ (drop-cons names k [] (ltb-true k (length names) e)) (drop-cons ps k (input 0) l) named listed
    by_names false e l = few_names k _ _ _ _ _ _ _ _ (drop_all k names (ltb-false k (length names) e)) (drop-cons ps k (input 0) l) listed

    by_ports : (b : Bool) → nat_lt k (length ps) ≡ b → other_port k (drop k names) (drop k ps) (drop k port_names) (drop k port_list) ≡ after_port k (drop (suc k) names) (drop (suc k) ps) (drop (suc k) port_names) (drop (suc k) port_list) (b && (nat_lt k (length names) && (bytes_eq (get_or names k []) (get_or port_names k []) && same_port (get_or ps k (input 0)) (get_or port_list k (input 0)))))
    by_ports true e = by_names (nat_lt k (length names)) refl (ltb-true k (length ps) e)
    by_ports false e = few_ports k _ _ _ _ _ _ (drop_all k ps (ltb-false k (length ps) e)) listed

pub other_here : (names : List (List ℕ)) (ps : List Port) (k : ℕ) → k < PORT_COUNT → is_listed names ps k ≡ false → other_port k (drop k names) (drop k ps) (drop k port_names) (drop k port_list) ≡ Some k
other_here names ps k h e = port_at_number names ps k h ∙ rw e refl

pub other_later : (names : List (List ℕ)) (ps : List Port) (k : ℕ) → k < PORT_COUNT → is_listed names ps k ≡ true → other_port k (drop k names) (drop k ps) (drop k port_names) (drop k port_list) ≡ other_port (k + 1) (drop (k + 1) names) (drop (k + 1) ps) (drop (k + 1) port_names) (drop (k + 1) port_list)
other_later names ps k h e = let s : k + 1 ≡ suc k = omega arith in rw s (port_at_number names ps k h ∙ rw e refl)

pub more_ports : (names : List (List ℕ)) (ps : List Port) (k : ℕ) → k ≡ PORT_COUNT → PORT_COUNT < length ps → other_port k (drop k names) (drop k ps) (drop k port_names) (drop k port_list) ≡ Some PORT_COUNT
more_ports names ps k e h = rw e (last (drop PORT_COUNT names) (drop PORT_COUNT ps) (get_or ps PORT_COUNT (input 0)) (drop (suc PORT_COUNT) ps) (drop-cons ps PORT_COUNT (input 0) h))
  where
    last : (ns : List (List ℕ)) (rs : List Port) (p : Port) (more : List Port) → rs ≡ p ∷ more → other_port PORT_COUNT ns rs [] [] ≡ Some PORT_COUNT
    last ns rs p more f = rw f refl

-- ---- outputs
output_at_number : (made : List AssignTree) (ps : List Port) (k : ℕ) (d : Port) → k < length ps → unassigned k made (drop k ps) ≡ cond ((get_or ps k d).output && not (is_assigned made k)) (Some k) (unassigned (suc k) made (drop (suc k) ps))
output_at_number made ps k d h = last (drop k ps) (drop-cons ps k d h)
  where
    last : (rs : List Port) → rs ≡ get_or ps k d ∷ drop (suc k) ps → unassigned k made rs ≡ cond ((get_or ps k d).output && not (is_assigned made k)) (Some k) (unassigned (suc k) made (drop (suc k) ps))
    last rs f = rw f refl

pub output_here : (made : List AssignTree) (ps : List Port) (k : ℕ) (d : Port) → k < length ps → ((get_or ps k d).output && not (is_assigned made k)) ≡ true → unassigned k made (drop k ps) ≡ Some k
output_here made ps k d h e = output_at_number made ps k d h ∙ rw e refl

pub output_later : (made : List AssignTree) (ps : List Port) (k : ℕ) (d : Port) → k < length ps → ((get_or ps k d).output && not (is_assigned made k)) ≡ false → unassigned k made (drop k ps) ≡ unassigned (k + 1) made (drop (k + 1) ps)
output_later made ps k d h e = let s : k + 1 ≡ suc k = omega arith in rw s (output_at_number made ps k d h ∙ rw e refl)

pub no_output : (made : List AssignTree) (ps : List Port) (k : ℕ) → length ps ≤ k → unassigned k made (drop k ps) ≡ None
no_output made ps k h = rw (drop_all k ps h) refl
