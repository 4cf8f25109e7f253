-- Packets that are given to a driver, as it needs them.
use Rattle.std.proofs.Common.{◌≡◌, ℕ, ◌+◌, ◌-◌, ◌<◌, true, false, List, [], ◌∷◌, ◌++◌, length, take, get_or, sym, ap, ◌∙◌, subst, arith}
use Rattle.std.specs.Prelude.{if◌then◌else◌}
use Rattle.beat_core.specs.declared.frame.Timed.{Timed}
use Rattle.net_core.specs.Nets.{Netlist}
use Rattle.net_core.specs.Clock.{Stored}
use Rattle.net_core.specs.Trace.{Cycle}
use Rattle.port_drive.specs.Driving.{Driving, with_packet, Fits}
use Rattle.port_drive.specs.Giving.{GivesOn}
use Rattle.port_drive.proofs.DriveLaws.{take_next}

false_true : false ≡ true → ⊥
false_true e = cc

-- what fits goes on fitting, with this packet more
abbrev pub FitsWith : Driving → Driving → List Timed → Type 0
FitsWith old new more = (d : Netlist) (first s : Stored) (packets : List Timed) (ms : List Cycle) → Fits old d first s packets ms → Fits new d first s (packets ++ more) ms

pub given_on : (packets : List Timed) (old new : Driving) (p : Timed) → new ≡ with_packet old p → p ≡ get_or packets old.given p → old.given < length packets → old.ended ≡ false → FitsWith old new (p ∷ []) → GivesOn packets old new
given_on packets old new p is at less goes fits =
    let given : new.given ≡ old.given + 1 = ap (λ (v : Driving). v.given) is in
    let ended : new.ended ≡ old.ended = ap (λ (v : Driving). v.ended) is in
    let some : take new.given packets ≡ take old.given packets ++ p ∷ [] = ap (λ n. take n packets) given ∙ take_next packets old.given p less at in
    record {
      fits = λ d first s ms fit. subst (λ l. Fits new d first s l ms) (sym some) (fits d first s (take old.given packets) ms fit);
      given = omega (arith, given);
      all = λ e. absurd (false_true (sym goes ∙ sym ended ∙ e));
      answers = ap (λ (v : Driving). v.answers) is;
      ifindex = ap (λ (v : Driving). v.ifindex) is;
      limit = ap (λ (v : Driving). v.limit) is;
      less = fewer (length packets) old.given new.given (if old.ended then 0 else 1) (if new.ended then 0 else 1) given (ap (λ b. if b then 0 else 1) ended) less;
    }
  where
    fewer : (n g h x y : ℕ) → h ≡ g + 1 → y ≡ x → g < n → n - h + y < n - g + x
    fewer n g h x y e f lt = omega arith

pub ended_on : (packets : List Timed) (old new : Driving) → new ≡ record old { ended = true } → old.given ≡ length packets → old.ended ≡ false → ((d : Netlist) (first s : Stored) (packets : List Timed) (ms : List Cycle) → Fits old d first s packets ms → Fits new d first s packets ms) → GivesOn packets old new
ended_on packets old new is all goes fits =
    let given : new.given ≡ old.given = ap (λ (v : Driving). v.given) is in
    let ended : new.ended ≡ true = ap (λ (v : Driving). v.ended) is in
    record {
      fits = λ d first s ms fit. subst (λ n. Fits new d first s (take n packets) ms) (sym given) (fits d first s (take old.given packets) ms fit);
      given = omega (arith, given);
      all = λ e. given ∙ all;
      answers = ap (λ (v : Driving). v.answers) is;
      ifindex = ap (λ (v : Driving). v.ifindex) is;
      limit = ap (λ (v : Driving). v.limit) is;
      less = fewer (length packets - new.given) (length packets - old.given) (if old.ended then 0 else 1) (if new.ended then 0 else 1) (ap (λ n. length packets - n) given) (ap (λ b. if b then 0 else 1) ended) (ap (λ b. if b then 0 else 1) goes);
    }
  where
    fewer : (m n x y : ℕ) → m ≡ n → y ≡ 0 → x ≡ 1 → m + y < n + x
    fewer m n x y e f g = omega arith
