-- One more item that keeps its rules, in a finished design whose sections begin with those so far.
use Rattle.std.proofs.Common.{◌≡◌, ℕ, suc, ◌+◌, ◌<◌, ◌≤◌, Bool, true, false, not, ◌&&◌, Option, Some, None, List, [], ◌∷◌, ◌++◌, length, get_or, nat_lt, refl, sym, ap, ◌∙◌, arith}
use Rattle.std.specs.Prelude.{◌==◌, nat_le, take}
use Rattle.std.specs.Str.{bytes_eq}
use Rattle.std.specs.List.{list_any}
use Rattle.std.proofs.lemmas.Bool.{and_from, eq-eqb, lt-ltb, le-leb}
use Rattle.std.proofs.lemmas.List.{take_at, get_or_at}
use Rattle.net_core.specs.declared.tree.Net.{Net}
use Rattle.net_core.specs.declared.design.Declared.{Declared}
use Rattle.net_core.specs.Nets.{StatementTree, WireTree, AssignTree, Netlist}
use Rattle.net_core.specs.Width.{scope, width_of, right_width, same, full_scope, wire_widths, register_widths, memory_widths, output_width, is_assigned, scope_before}
use Rattle.design_rules.specs.declared.formed.NetError.{NetError}
use Rattle.design_rules.specs.declared.formed.Why.{Why}
use Rattle.design_rules.specs.declared.formed.Why.TheVariants.{Syntax, Unknown, Twice, Width}
use Rattle.design_rules.specs.Formed.{Rule, first_broken, is_new, has_name, declared_fits, declared_place, wire_place, declared_rules, wire_fits, wire_rules, assign_fits, assign_rules, targets_free, targets_known, block_known, block_fits, always_rules, fault_at, or_else, section_fault}
use Rattle.design_rules.specs.FormedScope.{sorts, right_known, reads_known, integer_known, is_output}
use Rattle.design_rules.specs.FormedSyntax.{is_name, tree_spelled, right_spelled, statement_spelled, trees_pass}
use Rattle.verilog_expression.specs.Laws.{IsTreeKept, IsRightKept, IsStatementKept}
use Rattle.verilog_read.specs.Entries.{free_in}
use Rattle.verilog_read.proofs.LawNames.{take_widths}
use Rattle.verilog_read.proofs.SoundNames.{IsOutputNamed}

-- ---- sections
four_kept : (a b c e : Bool) (v w x y : Why) → a ≡ true → b ≡ true → c ≡ true → e ≡ true → first_broken ((a, v) ∷ (b, w) ∷ (c, x) ∷ (e, y) ∷ []) ≡ None
four_kept a b c e v w x y p q r u = rw (p, q, r, u) refl

-- a section without fault, and one more item without fault
pub section_more : {A : Type 0} (rules : ℕ → A → List Rule) (start k n : ℕ) (xs : List A) (y : A) → section_fault rules start k xs ≡ None → n ≡ k + length xs → first_broken (rules n y) ≡ None → section_fault rules start k (xs ++ y ∷ []) ≡ None
section_more rules start k n [] y h e b =
    let same : k ≡ n = omega arith in
    ap (λ w. or_else (fault_at (start + k) w) None) (ap (λ i. first_broken (rules i y)) same ∙ b)
section_more rules start k n (x ∷ xs) y h e b = both (fault_at (start + k) (first_broken (rules k x))) h (λ g. section_more rules start (suc k) n xs y g (omega arith) b)
  where
    both : (f : Option NetError) → or_else f (section_fault rules start (suc k) xs) ≡ None → (section_fault rules start (suc k) xs ≡ None → section_fault rules start (suc k) (xs ++ y ∷ []) ≡ None) → or_else f (section_fault rules start (suc k) (xs ++ y ∷ [])) ≡ None
    both None g more = more g
    both (Some fault) g more = absurd cc

pub same_sides : (a b : ℕ) → 0 < a → a ≡ b → same a b ≡ true
same_sides a b h e = and_from (nat_lt 0 a) (a == b) (lt-ltb 0 a h) (eq-eqb a b e)

-- ---- names
-- a name after others, which is a new one
pub record IsLast (e : Netlist) (names : List (List ℕ)) (name : List ℕ) : Type 0 where
  pub more : List (List ℕ)
  pub all : e.names ≡ names ++ name ∷ more
  pub proper : is_name name ≡ true
  pub new : not (list_any (bytes_eq name) names) ≡ true

last_at : (e : Netlist) (names : List (List ℕ)) (name : List ℕ) (place : ℕ) → IsLast e names name → length names ≡ place → get_or e.names place [] ≡ name
last_at e names name place l h = ap (λ ns. get_or ns place []) l.all ∙ get_or_at names name l.more [] place h

name_kept : (e : Netlist) (names : List (List ℕ)) (name : List ℕ) (place : ℕ) → IsLast e names name → length names ≡ place → has_name e place ≡ true
name_kept e names name place l h = ap is_name (last_at e names name place l h) ∙ l.proper

new_kept : (e : Netlist) (names : List (List ℕ)) (name : List ℕ) (place : ℕ) → IsLast e names name → length names ≡ place → is_new e place ≡ true
new_kept e names name place l h =
    ap (λ (n : List ℕ). not (list_any (bytes_eq n) (take place e.names))) (last_at e names name place l h)
    ∙ ap (λ (ns : List (List ℕ)). not (list_any (bytes_eq name) ns)) (ap (take place) l.all ∙ take_at names (name ∷ l.more) place h) ∙ l.new

-- ---- items
pub declared_keeps : (e : Netlist) (names : List (List ℕ)) (name : List ℕ) (xs others : List Declared) (item : Declared) → IsLast e names name → length names ≡ length e.ports + length xs → e.declared ≡ xs ++ item ∷ others
    → integer_known xs item ≡ true → declared_fits item ≡ true → first_broken (declared_rules e (length xs) item) ≡ None
declared_keeps e names name xs others item last place all known fits =
    four_kept (has_name e (declared_place e (length xs))) (integer_known (take (length xs) e.declared) item) (is_new e (declared_place e (length xs))) (declared_fits item) Syntax Unknown Twice Width
    (name_kept e names name (declared_place e (length xs)) last place)
    (ap (λ ys. integer_known ys item) (ap (take (length xs)) all ∙ take_at xs (item ∷ others) (length xs) refl) ∙ known)
    (new_kept e names name (declared_place e (length xs)) last place)
    fits

pub wire_keeps : (e : Netlist) (names : List (List ℕ)) (name : List ℕ) (ws others : List WireTree) (w : WireTree) → IsLast e names name → length names ≡ length e.ports + length e.declared + length ws → e.wires ≡ ws ++ w ∷ others
    → 0 < w.width → w.width ≤ 64 → right_width (scope e (wire_widths ws)) w.right ≡ w.width → IsRightKept (scope e (wire_widths ws)) (sorts e (length ws)) w.right → first_broken (wire_rules e (length ws) w) ≡ None
wire_keeps e names name ws others w last place all some most width keeps =
    let k = length ws in
    let before : take k (wire_widths e.wires) ≡ wire_widths ws = ap (λ us. take k (wire_widths us)) all ∙ take_widths ws (w ∷ others) in
    let fits : same w.width (right_width (scope_before e k) w.right) ≡ true = same_sides w.width (right_width (scope_before e k) w.right) some (sym (ap (λ us. right_width (scope e us) w.right) before ∙ width)) in
    four_kept (has_name e (wire_place e k) && right_spelled w.right) (right_known (sorts e k) w.right) (is_new e (wire_place e k)) (wire_fits e k w) Syntax Unknown Twice Width
    (and_from (has_name e (wire_place e k)) (right_spelled w.right) (name_kept e names name (wire_place e k) last place) keeps.spelled)
    keeps.known
    (new_kept e names name (wire_place e k) last place)
    (and_from (same w.width (right_width (scope_before e k) w.right)) (nat_le w.width 64) fits (le-leb w.width 64 most))

pub assign_keeps : (e : Netlist) (name : List ℕ) (width : ℕ) (rest others : List AssignTree) (a : AssignTree) → e.assigns ≡ rest ++ others → not (is_assigned rest a.port) ≡ true → IsOutputNamed e name a.port width
    → width_of (full_scope e) a.value ≡ width → IsTreeKept (full_scope e) (sorts e (length e.wires)) a.value → first_broken (assign_rules e (length rest) a) ≡ None
assign_keeps e name width rest others a all once output same_width keeps =
    let out = output_width (get_or e.ports a.port (record { output = false; width = 0 })) in
    let value = width_of (full_scope e) a.value in
    let equal : out ≡ value = output.width ∙ sym same_width in
    let some : 0 < out = omega (arith, keeps.some) in
    four_kept (tree_spelled a.value) (is_output e.ports a.port && reads_known (sorts e (length e.wires)) a.value) (not (is_assigned (take (length rest) e.assigns) a.port)) (assign_fits e a) Syntax Unknown Twice Width
    keeps.spelled
    (and_from (is_output e.ports a.port) (reads_known (sorts e (length e.wires)) a.value) output.output keeps.known)
    (ap (λ (made : List AssignTree). not (is_assigned made a.port)) (ap (take (length rest)) all ∙ take_at rest others (length rest) refl) ∙ once)
    (same_sides out value some equal)

pub always_keeps : (e d : Netlist) (others : List (StatementTree Net)) (a : StatementTree Net) → e.always ≡ d.always ++ others → IsStatementKept (full_scope e) (sorts e (length e.wires)) (free_in d) (register_widths e.declared) (memory_widths e.declared) a
    → first_broken (always_rules e (length d.always) a) ≡ None
unfolding free_in
always_keeps e d others a all keeps =
    four_kept (statement_spelled a) (block_known e a) (targets_free (take (length d.always) e.always) a) (block_fits e a) Syntax Unknown Twice Width
    keeps.spelled
    (and_from (targets_known e a) (trees_pass (reads_known (sorts e (length e.wires))) a) keeps.known_targets keeps.known)
    (ap (λ (made : List (StatementTree Net)). targets_free made a) (ap (take (length d.always)) all ∙ take_at d.always others (length d.always) refl) ∙ keeps.free_targets)
    keeps.typed
