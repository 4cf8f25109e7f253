-- The widths of wires, one by one.
use Rattle.std.specs.Prelude.{◌≡◌, ℕ, zero, suc, ◌<◌, ◌≤◌, List, [], ◌∷◌, length, map, take}
use Rattle.std.proofs.Common.{get_or, refl, ap, arith}
use Rattle.std.proofs.lemmas.List.{take_all, length-map}
use Rattle.net_core.specs.declared.design.Wire.{Wire}
use Rattle.net_core.specs.Nets.{WireTree}
use Rattle.net_core.specs.View.{wire_of}
use Rattle.net_core.specs.Width.{wire_widths}
use Rattle.net_core.specs.Clock.{rights}

pub width_at : (ws : List WireTree) (k : ℕ) (w : WireTree) → k < length ws → get_or (wire_widths ws) k 0 ≡ (get_or ws k w).width
width_at [] k w l = absurd (omega arith)
width_at (x ∷ ws) zero w l = refl
width_at (x ∷ ws) (suc k) w l = width_at ws k w (omega arith)

pub length_widths : (ws : List WireTree) → length (wire_widths ws) ≡ length ws
length_widths [] = refl
length_widths (w ∷ ws) = ap (λ (n : ℕ). suc n) (length_widths ws)

pub length_rights : (ws : List WireTree) → length (rights ws) ≡ length ws
length_rights [] = refl
length_rights (w ∷ ws) = ap (λ (n : ℕ). suc n) (length_rights ws)

pub wire_widths_at : (xs : List Wire) (k : ℕ) (d : Wire) → k < length xs → get_or (wire_widths (map wire_of xs)) k 0 ≡ (get_or xs k d).width
wire_widths_at [] k d h = absurd (omega arith)
wire_widths_at (x ∷ xs) zero d h = refl
wire_widths_at (x ∷ xs) (suc k) d h = wire_widths_at xs k d (omega arith)

pub wire_widths_past : (xs : List Wire) (k : ℕ) → length xs ≤ k → get_or (wire_widths (map wire_of xs)) k 0 ≡ 0
wire_widths_past [] k h = refl
wire_widths_past (x ∷ xs) zero h = absurd (omega arith)
wire_widths_past (x ∷ xs) (suc k) h = wire_widths_past xs k (omega arith)

pub take_wires : (n : ℕ) (xs : List Wire) → take n (wire_widths (map wire_of xs)) ≡ wire_widths (map wire_of (take n xs))
take_wires zero xs = refl
take_wires (suc n) [] = refl
take_wires (suc n) (x ∷ xs) = ap (λ rest. x.width ∷ rest) (take_wires n xs)

-- where all wires stand before
pub all_before : (xs : List Wire) → take (length xs) (wire_widths (map wire_of xs)) ≡ wire_widths (map wire_of xs)
all_before xs = take_all (length xs) (wire_widths (map wire_of xs)) (omega (arith, length_widths (map wire_of xs), length-map xs wire_of))
