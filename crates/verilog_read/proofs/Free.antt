-- What the reader answers of names and targets.
use Rattle.std.proofs.Common.{◌≡◌, ◌∙◌, sym, ap, refl, ℕ, Bool, true, false, not, Option, Some, List, codes}
use Rattle.std.specs.Prelude.{option_map}
use Rattle.std.specs.Borrow.{Bor}
use Rattle.std.specs.List.{list_all}
use Rattle.std.specs.Str.{bytes_eq}
use Rattle.net_core.specs.declared.design.Design.{Design}
use Rattle.net_core.specs.declared.tree.Net.{Net}
use Rattle.net_core.specs.declared.tree.Net.TheVariants as net
use Rattle.net_core.specs.Nets.{Netlist}
use Rattle.net_core.specs.View.{netlist_of}
use Rattle.design_rules.specs.FormedScope.{leaves_register, leaves_memory}
use Rattle.verilog_expression.specs.declared.entry.Entry.{Entry}
use Rattle.verilog_expression.specs.declared.entry.Entry.TheVariants as entry
use Rattle.verilog_read.specs.declared.partial.Counts.{Counts}
use Rattle.verilog_read.specs.declared.targets.Targets.{Targets}
use Rattle.verilog_read.specs.Entries.{entry_in, free_in, entry_of, place_in}
use Rattle.verilog_read.specs.View.{IsKnown, found_in, is_up}

pub clock_found : (d : Netlist) (name : List ℕ) → bytes_eq name (codes "clk") ≡ true → Some entry.Clock ≡ entry_in d name
unfolding entry_in
clock_found d name e = sym (rw e refl)

pub other_found : (a b : Design) (table : List (Bor (List ℕ) × Entry)) (c : Counts) (t : Targets) (flags : List Bool) (name : List ℕ) (r : Option Entry) → a ≡ b → IsKnown (netlist_of a) table c t flags → bytes_eq name (codes "clk") ≡ false → r ≡ found_in table name → r ≡ entry_in (netlist_of b) name
unfolding entry_in
other_found a b table c t flags name r same known e found = found ∙ known.entries name ∙ ap (λ (d : Design). option_map (entry_of (netlist_of d)) (place_in (netlist_of d).names name)) same ∙ sym (rw e refl)

twice : (b : Bool) → not (not b) ≡ b
twice true = refl
twice false = refl

pub register_free : (a b : Design) (table : List (Bor (List ℕ) × Entry)) (c : Counts) (t : Targets) (flags : List Bool) (k : ℕ) (up : Bool) (target : Net) → a ≡ b → IsKnown (netlist_of a) table c t flags → target ≡ net.Register k → up ≡ is_up t.registers.items k → not up ≡ free_in (netlist_of b) target
unfolding free_in
register_free a b table c t flags k up target same known e u =
    ap not (u ∙ known.registers k)
    ∙ twice (list_all (leaves_register k) (netlist_of a).always)
    ∙ ap (λ (d : Design). list_all (leaves_register k) (netlist_of d).always) same
    ∙ sym (ap (λ (n : Net). free_in (netlist_of b) n) e)

pub memory_free : (a b : Design) (table : List (Bor (List ℕ) × Entry)) (c : Counts) (t : Targets) (flags : List Bool) (k : ℕ) (up : Bool) (target : Net) → a ≡ b → IsKnown (netlist_of a) table c t flags → target ≡ net.Memory k → up ≡ is_up t.memories.items k → not up ≡ free_in (netlist_of b) target
unfolding free_in
memory_free a b table c t flags k up target same known e u =
    ap not (u ∙ known.memories k)
    ∙ twice (list_all (leaves_memory k) (netlist_of a).always)
    ∙ ap (λ (d : Design). list_all (leaves_memory k) (netlist_of d).always) same
    ∙ sym (ap (λ (n : Net). free_in (netlist_of b) n) e)
