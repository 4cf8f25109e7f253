-- What the names of a design stand for so far: their names and widths are those of the finished design, and they may be read.
use Rattle.std.proofs.Common.{◌≡◌, ℕ, zero, suc, ◌+◌, ◌<◌, Bool, true, false, not, ◌&&◌, List, [], ◌++◌, length, get_or, nat_lt, refl, sym, ap, ◌∙◌, subst, arith}
use Rattle.std.specs.Prelude.{codes, take, count_by, nat_le}
use Rattle.std.specs.Str.{bytes_eq}
use Rattle.std.specs.List.{list_all}
use Rattle.std.proofs.lemmas.Bool.{both_ways, cond-false, ltb-true, lt-ltb, leb-true, and_parts}
use Rattle.std.proofs.lemmas.List.{get_or_append_left}
use Rattle.std.proofs.lemmas.List.Sums.{AllPass-from_list_all}
use Rattle.std.proofs.lemmas.Slice.Eq.{bytes_eq-Decides}
use Rattle.net_core.specs.declared.tree.Net.{Net}
use Rattle.net_core.specs.declared.tree.Net.TheVariants as net
use Rattle.net_core.specs.declared.tree.Word.{Word}
use Rattle.net_core.specs.declared.design.Port.{Port}
use Rattle.net_core.specs.declared.design.Declared.{Declared}
use Rattle.net_core.specs.declared.design.Declared.TheVariants as declared
use Rattle.net_core.specs.Nets.{Netlist}
use Rattle.net_core.specs.Names.{is_register, is_memory, place_of, name_of}
use Rattle.net_core.specs.Width.{scope, word_fits, wire_widths, register_widths, memory_widths, input_width}
use Rattle.net_core.proofs.WireLaws.{length_widths}
use Rattle.verilog_expression.specs.verilog_write.VerilogGrammar.Grammar.{text_at}
use Rattle.design_rules.specs.Formed.{declared_fits}
use Rattle.design_rules.specs.FormedScope.{sorts}
use Rattle.verilog_expression.specs.Laws.{IsValueNamed, IsMemoryNamed, Knows}
use Rattle.verilog_read.specs.Entries.{entry_in}
use Rattle.verilog_read.proofs.LawPlaces.{number_at, register_bits, memory_bits, bits_of, index_bits}
use Rattle.verilog_read.proofs.SoundEntries.{HasName, ValueTold, ToldInput, ToldRegister, ToldWire, value_told, WordsTold, words_told}

-- ---- widths
pub all_at : {A : Type 0} (p : A → Bool) (xs : List A) (i : ℕ) (none : A) → list_all p xs ≡ true → i < length xs → p (get_or xs i none) ≡ true
all_at p xs i none h l = AllPass-from_list_all p xs h i none l

word_some : (w : Word) → word_fits w ≡ true → 0 < w.width
word_some w h = ltb-true 0 w.width (and_parts (nat_lt 0 w.width) _ h).0

register_some : (x : Declared) → is_register x ≡ true → declared_fits x ≡ true → 0 < bits_of x
register_some declared.Integer r h = absurd cc
register_some (declared.Register w) r h = word_some w h
register_some (declared.Memory i w n) r h = absurd cc

memory_some : (x : Declared) → is_memory x ≡ true → declared_fits x ≡ true → (0 < bits_of x) × (0 < index_bits x)
memory_some declared.Integer r h = absurd cc
memory_some (declared.Register w) r h = absurd cc
memory_some (declared.Memory i w n) r h =
    let t = and_parts (nat_le 1 i && nat_le i 16) (word_fits w) h in
    (word_some w t.1, leb-true 1 i (and_parts (nat_le 1 i) (nat_le i 16) t.0).0)

-- ---- the finished design
-- each of its ports has a width, and the first is `clk`
pub record HasPortsOfAll (e : Netlist) : Type 0 where
  pub some : list_all (λ (p : Port). nat_lt 0 p.width) e.ports ≡ true
  pub clock : text_at e 0 ≡ codes "clk"

port_some : (e : Netlist) → HasPortsOfAll e → (k : ℕ) (none : Port) → k < length e.ports → 0 < (get_or e.ports k none).width
port_some e h k none l = ltb-true 0 (get_or e.ports k none).width (all_at (λ (p : Port). nat_lt 0 p.width) e.ports k none h.some l)

-- ---- what is known of a design that is read so far
pub record HasNames (d : Netlist) : Type 0 where
  pub counted : length d.names ≡ length d.ports + length d.declared + length d.wires
  pub declared : list_all declared_fits d.declared ≡ true
  pub wires : list_all (nat_lt 0) (wire_widths d.wires) ≡ true

-- the names of the finished design e begin with those of d, and its ports are the same
pub record Begins (e d : Netlist) : Type 0 where
  pub more : List (List ℕ)
  pub names : e.names ≡ d.names ++ more
  pub ports : e.ports ≡ d.ports

pub prefix_name : (e d : Netlist) → Begins e d → (s : List ℕ) (place : ℕ) → HasName d s place → text_at e place ≡ s
prefix_name e d b s place h = ap (λ l. get_or l place []) b.names ∙ get_or_append_left d.names b.more [] place h.below ∙ h.name

not_clock : (e d : Netlist) → HasPortsOfAll e → Begins e d → (s : List ℕ) → HasName d s 0 → ⊥
not_clock e d a b s h =
    both_ways (bytes_eq s (codes "clk")) h.other ((bytes_eq-Decides s (codes "clk")).1 (sym (prefix_name e d b s 0 h) ∙ a.clock))

module _ (e d : Netlist) (all : HasPortsOfAll e) (has : HasNames d) (begins : Begins e d) where
  ports_counted : length e.ports ≡ length d.ports
  ports_counted = ap length begins.ports

  abbrev none : Port
  none = record { output = true; width = 0 }

  -- the widths of the wires so far, and how many they are
  module _ (done : e.declared ≡ d.declared) where
    IsNamed : List ℕ → Net → ℕ → Type 0
    IsNamed s n w = IsValueNamed (name_of e) (scope e (wire_widths d.wires)) (sorts e (length d.wires)) s n w

    same_named : (s : List ℕ) (n n' : Net) (w w' : ℕ) → n ≡ n' → w ≡ w' → IsNamed s n w → IsNamed s n' w'
    same_named s n n' w w' p q h = subst (IsNamed s n') q (subst (λ (m : Net). IsNamed s m w) p h)

    input_named : (s : List ℕ) (k : ℕ) → HasName d s k → k < length d.ports → (get_or d.ports k none).output ≡ false → IsNamed s (net.Port k) (get_or d.ports k none).width
    unfolding IsNamed
    input_named s zero h l o = absurd (not_clock e d all begins s h)
    input_named s (suc k) h l o =
        let same : get_or e.ports (suc k) none ≡ get_or d.ports (suc k) none = ap (λ ps. get_or ps (suc k) none) begins.ports in
        record {
          named = prefix_name e d begins s (suc k) h;
          width = ap input_width same ∙ cond-false (get_or d.ports (suc k) none).output 0 (get_or d.ports (suc k) none).width o;
          some = subst (λ (p : Port). 0 < p.width) same (port_some e all (suc k) none (omega (arith, ports_counted)));
          known = ap (λ (p : Port). not p.output) same ∙ ap not o;
        }

    register_named : (s : List ℕ) (i : ℕ) → HasName d s (length d.ports + i) → i < length d.declared → is_register (get_or d.declared i declared.Integer) ≡ true
        → IsNamed s (net.Register (count_by is_register (take i d.declared))) (bits_of (get_or d.declared i declared.Integer))
    unfolding IsNamed
    register_named s i h l r =
        let n = number_at is_register d.declared i declared.Integer l r in
        let k = count_by is_register (take i d.declared) in
        let place : length e.ports + place_of is_register e.declared k ≡ length d.ports + i = omega (arith, ports_counted, ap (λ xs. place_of is_register xs k) done, n.place) in
        record {
          named = ap (text_at e) place ∙ prefix_name e d begins s (length d.ports + i) h;
          width = ap (λ xs. get_or (register_widths xs) k 0) done ∙ register_bits d.declared i declared.Integer l r;
          some = register_some (get_or d.declared i declared.Integer) r (all_at declared_fits d.declared i declared.Integer has.declared l);
          known = lt-ltb k (count_by is_register e.declared) (omega (arith, n.below, ap (count_by is_register) done));
        }

    wire_named : (s : List ℕ) (k : ℕ) → HasName d s (length d.ports + length d.declared + k) → IsNamed s (net.Wire k) (get_or (wire_widths d.wires) k 0)
    unfolding IsNamed
    wire_named s k h =
        let place : length e.ports + length e.declared + k ≡ length d.ports + length d.declared + k = omega (arith, ports_counted, ap length done) in
        let l : k < length d.wires = omega (arith, has.counted, h.below) in
        record {
          named = ap (text_at e) place ∙ prefix_name e d begins s (length d.ports + length d.declared + k) h;
          width = refl;
          some = ltb-true 0 (get_or (wire_widths d.wires) k 0) (all_at (nat_lt 0) (wire_widths d.wires) k 0 has.wires (omega (arith, length_widths d.wires)));
          known = lt-ltb k (length d.wires) l;
        }

    value_named : (s : List ℕ) (n : Net) (w : ℕ) → ValueTold d s n w → IsNamed s n w
    value_named s n w (ToldInput k h l o p q) = same_named s (net.Port k) n (get_or d.ports k none).width w p q (input_named s k h l o)
    value_named s n w (ToldRegister i h l r p q) = same_named s _ n _ w p q (register_named s i h l r)
    value_named s n w (ToldWire k h p q) = same_named s _ n _ w p q (wire_named s k h)

    memory_named : (s : List ℕ) (m j w : ℕ) → WordsTold d s m j w → IsMemoryNamed (name_of e) (scope e (wire_widths d.wires)) (sorts e (length d.wires)) s m j w
    memory_named s m j w t =
        let n = number_at is_memory d.declared t.at declared.Integer t.below t.memory in
        let some = memory_some (get_or d.declared t.at declared.Integer) t.memory (all_at declared_fits d.declared t.at declared.Integer has.declared t.below) in
        let widths = ap (λ xs. get_or (memory_widths xs) m (0, 0)) done ∙ ap (λ k. get_or (memory_widths d.declared) k (0, 0)) (sym t.number) ∙ memory_bits d.declared t.at declared.Integer t.below t.memory in
        let place : length e.ports + place_of is_memory e.declared m ≡ length d.ports + t.at =
        omega (arith, ports_counted, ap (λ xs. place_of is_memory xs m) done, ap (place_of is_memory d.declared) t.number, n.place) in
        record {
          named = ap (text_at e) place ∙ prefix_name e d begins s (length d.ports + t.at) t.named;
          memory_word = ap (λ (p : ℕ × ℕ). p.1) widths ∙ t.bits;
          index = ap (λ (p : ℕ × ℕ). p.0) widths ∙ t.index;
          some = subst (λ (k : ℕ). 0 < k) t.bits some.0;
          some_index = subst (λ (k : ℕ). 0 < k) t.index some.1;
          known = lt-ltb m (count_by is_memory e.declared) (omega (arith, n.below, t.number, ap (count_by is_memory) done));
        }

    pub knows : Knows (entry_in d) (name_of e) (scope e (wire_widths d.wires)) (sorts e (length d.wires))
    unfolding IsNamed
    knows = record {
      value = λ s n w h. value_named s n w (value_told d s n w h);
      words = λ s m j w h. memory_named s m j w (words_told d s m j w h);
    }
