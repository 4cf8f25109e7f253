-- What stands at the ports has their widths.
use Rattle.std.specs.Prelude.{◌≡◌, ℕ, zero, suc, ◌^◌, ◌<◌, ◌≤◌, Bool, true, false, List, [], ◌∷◌}
use Rattle.std.proofs.Common.{get_or, refl, arith}
use Rattle.block_core.specs.net_core.declared.design.Port.{Port}
use Rattle.block_core.specs.net_core.declared.ports.Inputs.{Inputs}
use Rattle.block_core.specs.net_core.Suits.{IsOfWidth}
use Rattle.block_core.specs.net_core.Value.{nothing, number_of}
use Rattle.block_core.specs.net_core.Width.{port_width}
use Rattle.block_core.specs.net_core.Ports.{port_list, input_width, numbers_of, words_by, words_of}
use Rattle.block_core.specs.net_core.Trace.{IsInput}

-- each number is below 2 to the width of its port
abbrev AreBelow : List Port → List ℕ → Type 0
AreBelow [] [] = Unit {0}
AreBelow [] (n ∷ ns) = Unit {0}
AreBelow (p ∷ ps) [] = ⊥
AreBelow (p ∷ ps) (n ∷ ns) = (n < 2 ^ input_width p) × (input_width p ≤ 64) × AreBelow ps ns

words_fit : (ps : List Port) (ns : List ℕ) (k : ℕ) (d : Port) → AreBelow ps ns → input_width d ≡ 0 → 0 < input_width (get_or ps k d) → IsOfWidth (input_width (get_or ps k d)) (get_or (words_by ps ns) k nothing)
words_fit [] ns k d h z some = absurd (omega (arith, z, some))
words_fit (p ∷ ps) [] k d h z some = absurd h
words_fit (p ∷ ps) (n ∷ ns) zero d h z some = record { width = refl; fits = record { some = some; most = h.1; small = h.0 } }
words_fit (p ∷ ps) (n ∷ ns) (suc k) d h z some = words_fit ps ns k d h.2 z some

bit_below : (b : Bool) → number_of b < 2 ^ 1
bit_below true = omega arith
bit_below false = omega arith

below : (i : Inputs) → IsInput i → AreBelow port_list (numbers_of i)
below i f = (
  omega arith,
  omega arith,
  (
    bit_below i.in_valid,
    omega arith,
    (
      f.in_data,
      omega arith,
      (
        f.in_bytes,
        omega arith,
        (
          bit_below i.in_last,
          omega arith,
          (
            f.in_ifindex,
            omega arith,
            (
              f.in_time,
              omega arith,
              (
                omega arith,
                omega arith,
                (
                  bit_below i.out_ready,
                  omega arith,
                  (
                    omega arith,
                    omega arith,
                    (
                      omega arith,
                      omega arith,
                      (
                        omega arith,
                        omega arith,
                        (
                          omega arith,
                          omega arith,
                          (
                            omega arith,
                            omega arith,
                            (
                              omega arith,
                              omega arith,
                              (
                                omega arith,
                                omega arith,
                                (
                                  bit_below i.host_write,
                                  omega arith,
                                  (f.host_map, omega arith, (f.host_index, omega arith, (f.host_word, omega arith, (f.host_data, omega arith, (omega arith, omega arith, (omega arith, omega arith, (omega arith, omega arith, tt))))))),
                                ),
                              ),
                            ),
                          ),
                        ),
                      ),
                    ),
                  ),
                ),
              ),
            ),
          ),
        ),
      ),
    ),
  ),
)

pub inputs_fit : (i : Inputs) → IsInput i → (k : ℕ) → 0 < port_width port_list k → IsOfWidth (port_width port_list k) (get_or (words_of i) k nothing)
inputs_fit i f zero some = absurd (omega (arith, some))
inputs_fit i f (suc k) some = words_fit port_list (numbers_of i) (suc k) (record { output = true; width = 0 }) (below i f) refl some
