-- What names stand for stays where another name comes after them.
use Rattle.std.proofs.Common.{◌≡◌, ap, refl, arith, ℕ, zero, suc, ◌+◌, ◌<◌, List, [], ◌∷◌, ◌++◌, length, get_or}
use Rattle.std.proofs.lemmas.List.{get_or_append_left}
use Rattle.net_core.specs.declared.design.Declared.{Declared}
use Rattle.net_core.specs.declared.design.Declared.TheVariants as declared
use Rattle.net_core.specs.declared.tree.Net.TheVariants as net
use Rattle.net_core.specs.Nets.{WireTree}
use Rattle.net_core.specs.Width.{wire_widths}
use Rattle.verilog_expression.specs.declared.entry.Entry.TheVariants as entry
use Rattle.verilog_read.specs.declared.partial.Counts.{Counts}
use Rattle.verilog_read.specs.Entries.{behind_ports}
use Rattle.verilog_read.specs.View.{counted, with_one, declared_entry}

-- what is declared stays
pub declared_stays : (ws : List ℕ) (xs : List Declared) (x : Declared) (j a b c : ℕ) → j < length xs → behind_ports ws (xs ++ x ∷ []) j a b c ≡ behind_ports ws xs j a b c
declared_stays ws [] x j a b c h = absurd (omega arith)
declared_stays ws (declared.Integer ∷ xs) x zero a b c h = refl
declared_stays ws (declared.Register w ∷ xs) x zero a b c h = refl
declared_stays ws (declared.Memory i w n ∷ xs) x zero a b c h = refl
declared_stays ws (declared.Integer ∷ xs) x (suc j) a b c h = declared_stays ws xs x j (suc a) b c (omega arith)
declared_stays ws (declared.Register w ∷ xs) x (suc j) a b c h = declared_stays ws xs x j a (suc b) c (omega arith)
declared_stays ws (declared.Memory i w n ∷ xs) x (suc j) a b c h = declared_stays ws xs x j a b (suc c) (omega arith)

-- what is declared last
pub declared_last : (ws : List ℕ) (xs : List Declared) (x : Declared) (c : Counts) → behind_ports ws (xs ++ x ∷ []) (length xs) c.integers c.registers c.memories ≡ declared_entry (counted xs c) x
declared_last ws [] declared.Integer c = refl
declared_last ws [] (declared.Register w) c = refl
declared_last ws [] (declared.Memory i w n) c = refl
declared_last ws (declared.Integer ∷ xs) x c = declared_last ws xs x (with_one declared.Integer c)
declared_last ws (declared.Register w ∷ xs) x c = declared_last ws xs x (with_one (declared.Register w) c)
declared_last ws (declared.Memory i w n ∷ xs) x c = declared_last ws xs x (with_one (declared.Memory i w n) c)

pub counted_behind : (xs : List Declared) (x : Declared) (c : Counts) → counted (xs ++ x ∷ []) c ≡ with_one x (counted xs c)
counted_behind [] x c = refl
counted_behind (y ∷ xs) x c = counted_behind xs x (with_one y c)

-- a wire, and its width
pub wire_entry : (ws : List ℕ) (xs : List Declared) (j k a b c : ℕ) → j ≡ length xs + k → behind_ports ws xs j a b c ≡ entry.Value (net.Wire k) (get_or ws k 0)
wire_entry ws [] j k a b c e = let p : j ≡ k = omega (arith, e) in ap (λ (n : ℕ). entry.Value (net.Wire n) (get_or ws n 0)) p
wire_entry ws (x ∷ xs) zero k a b c e = absurd (omega (arith, e))
wire_entry ws (declared.Integer ∷ xs) (suc j) k a b c e = wire_entry ws xs j k (suc a) b c (omega (arith, e))
wire_entry ws (declared.Register w ∷ xs) (suc j) k a b c e = wire_entry ws xs j k a (suc b) c (omega (arith, e))
wire_entry ws (declared.Memory i w n ∷ xs) (suc j) k a b c e = wire_entry ws xs j k a b (suc c) (omega (arith, e))

-- all stays where a wire comes after
pub wires_stay : (ws : List ℕ) (w : ℕ) (xs : List Declared) (j a b c : ℕ) → j < length xs + length ws → behind_ports (ws ++ w ∷ []) xs j a b c ≡ behind_ports ws xs j a b c
wires_stay ws w [] j a b c h = ap (λ (n : ℕ). entry.Value (net.Wire j) n) (get_or_append_left ws (w ∷ []) 0 j (omega (arith, h)))
wires_stay ws w (declared.Integer ∷ xs) zero a b c h = refl
wires_stay ws w (declared.Register v ∷ xs) zero a b c h = refl
wires_stay ws w (declared.Memory i v n ∷ xs) zero a b c h = refl
wires_stay ws w (declared.Integer ∷ xs) (suc j) a b c h = wires_stay ws w xs j (suc a) b c (omega (arith, h))
wires_stay ws w (declared.Register v ∷ xs) (suc j) a b c h = wires_stay ws w xs j a (suc b) c (omega (arith, h))
wires_stay ws w (declared.Memory i v n ∷ xs) (suc j) a b c h = wires_stay ws w xs j a b (suc c) (omega (arith, h))

pub widths_behind : (ws : List WireTree) (w : WireTree) → wire_widths (ws ++ w ∷ []) ≡ wire_widths ws ++ w.width ∷ []
widths_behind [] w = refl
widths_behind (v ∷ ws) w = ap (λ (l : List ℕ). v.width ∷ l) (widths_behind ws w)
