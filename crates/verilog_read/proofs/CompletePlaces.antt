-- The names of a well-formed design are found where they stand: no two are the same, and none but the first is `clk`.
use Rattle.std.proofs.Common.{◌≡◌, ℕ, suc, ◌+◌, ◌<◌, ◌≤◌, Bool, false, Some, List, [], ◌∷◌, length, take, drop, get_or, refl, sym, ap, ◌∙◌, arith, length-take, take-append-drop}
use Rattle.std.specs.Prelude.{codes, count_by}
use Rattle.std.specs.Str.{bytes_eq}
use Rattle.std.specs.List.{list_any}
use Rattle.std.proofs.lemmas.Bool.{false_from_ne_true}
use Rattle.std.proofs.lemmas.List.{get_or-take, take-take, length-take-le}
use Rattle.std.proofs.lemmas.Slice.Eq.{bytes_eq-Decides}
use Rattle.net_core.specs.declared.ports.TheConstants.{PORT_COUNT}
use Rattle.net_core.specs.Nets.{Netlist}
use Rattle.net_core.specs.Names.{is_integer, place_of}
use Rattle.verilog_expression.specs.verilog_write.VerilogGrammar.Grammar.{text_at, integer_name}
use Rattle.design_rules.specs.Formed.{IsWellFormed}
use Rattle.design_rules.proofs.FormedItemLaws.{last_kept}
use Rattle.design_rules.proofs.FormedLaws.{port_names_first, name_spelled, names_distinct, place_of_below, ports_counted}
use Rattle.verilog_read.specs.Entries.{entry_of, entry_in}
use Rattle.verilog_read.proofs.LawPlaces.{place_prefix}
use Rattle.verilog_read.proofs.LawEntries.{entry_integer}
use Rattle.verilog_read.proofs.LawNames.{entry_named}
use Rattle.verilog_read.proofs.CompleteParts.{IsNew, IsInteger}
use Rattle.verilog_read.proofs.CompletePrefixes.{before_declared}

none_passes : {A : Type 0} (p : A → Bool) (xs : List A) (none : A) → ((i : ℕ) → i < length xs → p (get_or xs i none) ≡ false) → list_any p xs ≡ false
none_passes p [] none f = refl
none_passes p (x ∷ xs) none f = rw (f 0 (omega arith)) (none_passes p xs none (λ i l. f (suc i) (omega arith)))

-- a name is not among those before it
new_name : (d : Netlist) → IsWellFormed d → (m place : ℕ) → m ≤ place → place < length d.names → list_any (bytes_eq (text_at d place)) (take m d.names) ≡ false
new_name d h m place l n = none_passes (bytes_eq (text_at d place)) (take m d.names) [] (λ k q.
    let below : k < m = omega (arith, q, length-take m d.names) in
    false_from_ne_true _ (λ t. names_distinct d h k place (omega arith) n (sym (get_or-take m d.names k [] below) ∙ sym ((bytes_eq-Decides (text_at d place) (get_or (take m d.names) k [])).0 t))))

-- one more name, after those before it
pub new_behind : (d : Netlist) → IsWellFormed d → (a : Netlist) (place : ℕ) → a.names ≡ take place d.names → place < length d.names → IsNew a (text_at d place)
new_behind d h a place e l = record {
  proper = name_spelled d h place l;
  new = ap (λ xs. list_any (bytes_eq (text_at d place)) xs) e ∙ new_name d h place place (omega arith) l;
}

first_is_clock : (d : Netlist) → IsWellFormed d → text_at d 0 ≡ codes "clk"
first_is_clock d h = sym (get_or-take PORT_COUNT d.names 0 [] (omega arith)) ∙ ap (λ names. get_or names 0 []) (port_names_first d h)

not_clock : (d : Netlist) → IsWellFormed d → (place : ℕ) → 0 < place → place < length d.names → bytes_eq (text_at d place) (codes "clk") ≡ false
not_clock d h place l n = false_from_ne_true _ (λ t. names_distinct d h 0 place l n (first_is_clock d h ∙ sym ((bytes_eq-Decides (text_at d place) (codes "clk")).0 t)))

-- A name but the first stands for what is at its place, also where only the first names are read.
pub stands : (d : Netlist) → IsWellFormed d → (a : Netlist) (m place : ℕ) → a.names ≡ take m d.names → m ≤ length d.names → 0 < place → place < m → entry_in a (text_at d place) ≡ Some (entry_of a place)
stands d h a m place e n l o =
    let same : get_or a.names place [] ≡ text_at d place = ap (λ xs. get_or xs place []) e ∙ get_or-take m d.names place [] o in
    let many : length a.names ≡ m = ap length e ∙ length-take-le m d.names n in
    let before : take place a.names ≡ take place d.names = ap (take place) e ∙ take-take place m d.names (omega arith) in
    let new : list_any (bytes_eq (get_or a.names place [])) (take place a.names) ≡ false =
    ap (λ s. list_any (bytes_eq s) (take place a.names)) same ∙ ap (λ xs. list_any (bytes_eq (text_at d place)) xs) before ∙ new_name d h place place (omega arith) (omega arith) in
    let other : bytes_eq (get_or a.names place []) (codes "clk") ≡ false = ap (λ s. bytes_eq s (codes "clk")) same ∙ not_clock d h place l (omega arith) in
    ap (entry_in a) (sym same) ∙ entry_named a place (omega arith) new other

-- ---- integers, where so much is declared before
integer_place : (d : Netlist) (k i : ℕ) → i < count_by is_integer (take k d.declared) → place_of is_integer d.declared i ≡ place_of is_integer (take k d.declared) i
integer_place d k i m = ap (λ xs. place_of is_integer xs i) (sym (take-append-drop k d.declared)) ∙ place_prefix is_integer (take k d.declared) (drop k d.declared) i m

pub integer_named : (d : Netlist) → IsWellFormed d → (k i : ℕ) → k ≤ length d.declared → i < count_by is_integer (take k d.declared) → IsInteger (before_declared d k) (integer_name d i) i
integer_named d h k i l m =
    let e = integer_place d k i m in
    let place : ℕ = length d.ports + place_of is_integer (take k d.declared) i in
    let same : integer_name d i ≡ text_at d place = ap (λ n. text_at d (length d.ports + n)) e in
    let below : place < length d.ports + k = omega (arith, place_of_below is_integer (take k d.declared) i m, length-take-le k d.declared l) in
    record {
      proper = name_spelled d h (length d.ports + place_of is_integer d.declared i) (omega (arith, e, (last_kept d h).names));
      stands = ap (entry_in (before_declared d k)) same
          ∙ stands d h (before_declared d k) (length d.ports + k) place refl (omega (arith, (last_kept d h).names)) (omega (arith, ports_counted d h)) below
          ∙ ap Some (entry_integer (before_declared d k) i m);
    }
