-- What a name stands for is what stands at its first place, also in front of more.
use Rattle.std.proofs.Common.{◌≡◌, ◌⊎◌, inl, inr, ℕ, zero, suc, ◌+◌, ◌<◌, Bool, true, false, not, Option, Some, None, List, [], ◌∷◌, ◌++◌, length, get_or, nat_lt, refl, sym, ap, ◌∙◌, arith}
use Rattle.std.specs.Prelude.{if◌then◌else◌, codes, take, option_map}
use Rattle.std.specs.Str.{bytes_eq}
use Rattle.std.specs.List.{list_any, position_or_len}
use Rattle.std.proofs.lemmas.Bool.{cond-true, cond-false, lt-ltb, or_parts}
use Rattle.std.proofs.lemmas.List.{take_at}
use Rattle.std.proofs.lemmas.List.Quantifiers.{position-Some}
use Rattle.std.proofs.lemmas.Slice.Eq.{bytes_eq-Decides}
use Rattle.net_core.specs.Nets.{Netlist, WireTree}
use Rattle.net_core.specs.Width.{wire_widths}
use Rattle.net_core.proofs.WireLaws.{length_widths}
use Rattle.verilog_expression.specs.declared.entry.Entry.{Entry}
use Rattle.verilog_expression.specs.declared.entry.Entry.TheVariants as entry
use Rattle.verilog_read.specs.Entries.{entry_of, place_in, entry_in}

-- ---- from a name to its place
pub record StandsAt (d : Netlist) (s : List ℕ) (e : Entry) : Type 0 where
  pub place : ℕ
  pub below : place < length d.names
  pub name : get_or d.names place [] ≡ s
  pub other : bytes_eq s (codes "clk") ≡ false
  pub entry : entry_of d place ≡ e

by_place : (d : Netlist) (s : List ℕ) (e : Entry) (at : Option ℕ) → place_in d.names s ≡ at → option_map (entry_of d) at ≡ Some e → bytes_eq s (codes "clk") ≡ false → StandsAt d s e
by_place d s e None p h o = absurd cc
by_place d s e (Some i) p h o =
    let found = position-Some (bytes_eq s) d.names i [] p in
    record { place = i; below = found.0; name = sym ((bytes_eq-Decides s (get_or d.names i [])).0 found.1); other = o; entry = cc }

-- A name stands for the clock, or for what stands at its place.
pub entry_found : (d : Netlist) (s : List ℕ) (e : Entry) → entry_in d s ≡ Some e → (entry.Clock ≡ e) ⊎ StandsAt d s e
unfolding entry_in
entry_found d s e h = by_test (bytes_eq s (codes "clk")) refl h
  where
    by_test : (b : Bool) → bytes_eq s (codes "clk") ≡ b → (if b then Some entry.Clock else option_map (entry_of d) (place_in d.names s)) ≡ Some e → (entry.Clock ≡ e) ⊎ StandsAt d s e
    by_test true t k = inl cc
    by_test false t k = inr (by_place d s e (place_in d.names s) refl k t)

-- ---- from a place to its name
-- the first place that passes
first_passes : {A : Type 0} (p : A → Bool) (xs : List A) (i : ℕ) (d : A) → i < length xs → list_any p (take i xs) ≡ false → p (get_or xs i d) ≡ true → position_or_len p xs ≡ i
first_passes p [] i d l n h = absurd (omega arith)
first_passes p (x ∷ xs) zero d l n h = cond-false (not (p x)) (1 + position_or_len p xs) 0 (ap not h)
first_passes p (x ∷ xs) (suc i) d l n h =
    let none = or_parts (p x) (list_any p (take i xs)) n in
    cond-true (not (p x)) (1 + position_or_len p xs) 0 (ap not none.0) ∙ ap (λ k. 1 + k) (first_passes p xs i d (omega arith) none.1 h) ∙ omega arith

-- a name that none before it is
pub place_named : (names : List (List ℕ)) (i : ℕ) → i < length names → list_any (bytes_eq (get_or names i [])) (take i names) ≡ false → place_in names (get_or names i []) ≡ Some i
place_named names i l n =
    let s = get_or names i [] in
    let e : position_or_len (bytes_eq s) names ≡ i = first_passes (bytes_eq s) names i [] l n ((bytes_eq-Decides s s).1 refl) in
    ap (λ k. if nat_lt k (length names) then Some k else None) e ∙ cond-true (nat_lt i (length names)) (Some i) None (lt-ltb i (length names) l)

pub entry_named : (d : Netlist) (i : ℕ) → i < length d.names → list_any (bytes_eq (get_or d.names i [])) (take i d.names) ≡ false → bytes_eq (get_or d.names i []) (codes "clk") ≡ false → entry_in d (get_or d.names i []) ≡ Some (entry_of d i)
unfolding entry_in
entry_named d i l n o =
    cond-false (bytes_eq (get_or d.names i []) (codes "clk")) (Some entry.Clock) (option_map (entry_of d) (place_in d.names (get_or d.names i []))) o
    ∙ ap (option_map (entry_of d)) (place_named d.names i l n)

-- ---- in front of more

pub widths_prefix : (ws more : List WireTree) → wire_widths (ws ++ more) ≡ wire_widths ws ++ wire_widths more
widths_prefix [] more = refl
widths_prefix (w ∷ ws) more = ap (λ xs. w.width ∷ xs) (widths_prefix ws more)

-- the widths of the first wires
pub take_widths : (ws more : List WireTree) → take (length ws) (wire_widths (ws ++ more)) ≡ wire_widths ws
take_widths ws more = ap (take (length ws)) (widths_prefix ws more) ∙ take_at (wire_widths ws) (wire_widths more) (length ws) (length_widths ws)
