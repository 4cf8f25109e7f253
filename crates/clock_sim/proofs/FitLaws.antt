-- The values of a typed design fit.
use Rattle.std.proofs.Common.{ℕ, zero, suc, ◌^◌, ◌<◌, ◌≤◌, Bool, true, false, List, [], ◌∷◌, get_or, refl, arith}
use Rattle.net_core.specs.declared.tree.Word.{Word}
use Rattle.net_core.specs.declared.design.Port.{Port}
use Rattle.net_core.specs.declared.ports.Inputs.{Inputs}
use Rattle.net_core.specs.Value.{nothing, bit, word}
use Rattle.net_core.specs.Width.{input_width, port_width}
use Rattle.net_core.specs.Ports.{port_list, words_of, AreInputs, FitInputs}
use Rattle.net_core.specs.Suits.{IsOfWidth}
use Rattle.clock_sim.specs.Ready.{ArePorts}

-- ---- ports
abbrev FitAll : List Port → List Word → Type 0
FitAll [] words = Unit {0}
FitAll (p ∷ ps) [] = ⊥
FitAll (p ∷ ps) (w ∷ ws) = (0 < input_width p → IsOfWidth (input_width p) w) × FitAll ps ws

fit_at : (ps : List Port) (ws : List Word) (k : ℕ) → FitAll ps ws → 0 < input_width (get_or ps k (record { output = true; width = 0 })) → IsOfWidth (input_width (get_or ps k (record { output = true; width = 0 }))) (get_or ws k nothing)
fit_at [] ws k h some = absurd (omega arith)
fit_at (p ∷ ps) [] k h some = absurd h
fit_at (p ∷ ps) (w ∷ ws) zero h some = h.0 some
fit_at (p ∷ ps) (w ∷ ws) (suc k) h some = fit_at ps ws k h.1 some

bit_is : (b : Bool) → IsOfWidth 1 (bit b)
bit_is true = record { width = refl; fits = record { some = omega arith; most = omega arith; small = omega arith } }
bit_is false = record { width = refl; fits = record { some = omega arith; most = omega arith; small = omega arith } }

word_is : (w v : ℕ) → 0 < w → w ≤ 64 → v < 2 ^ w → IsOfWidth w (word w v)
word_is w v some most small = record { width = refl; fits = record { some = some; most = most; small = small } }

absent : {w : Word} → 0 < 0 → IsOfWidth 0 w
absent h = absurd (omega (arith, h))

pub ports_fit : (i : Inputs) → AreInputs i → FitInputs i → ArePorts (words_of i)
ports_fit i a f = record { fit = at }
  where
    back : List Port
    back = elim port_list as (λ _. List Port) [ [] ↦ [] | p ∷ ps ↦ ps ]

    back_words : List Word
    back_words = elim (words_of i) as (λ _. List Word) [ [] ↦ [] | w ∷ ws ↦ ws ]

    all : FitAll back back_words
    all = ((λ _. bit_is i.in_valid), ((λ _. word_is 64 i.in_data (omega arith) (omega arith) f.frame), ((λ _. word_is 4 i.in_bytes (omega arith) (omega arith) a.bytes), ((λ _. bit_is i.in_last), ((λ _. word_is 32 i.in_ifindex (omega arith) (omega arith) f.interface), ((λ _. word_is 64 i.in_time (omega arith) (omega arith) f.time), (absent, ((λ _. bit_is i.out_ready), (absent, (absent, (absent, (absent, (absent, (absent, (absent, ((λ _. bit_is i.host_write), ((λ _. word_is 4 i.host_map (omega arith) (omega arith) a.map), ((λ _. word_is 16 i.host_index (omega arith) (omega arith) f.index), ((λ _. word_is 4 i.host_word (omega arith) (omega arith) a.word), ((λ _. word_is 64 i.host_data (omega arith) (omega arith) f.word), (absent, (absent, (absent, tt)))))))))))))))))))))))

    at : (k : ℕ) → 0 < port_width port_list k → IsOfWidth (port_width port_list k) (get_or (words_of i) k nothing)
    at zero h = absurd (omega (arith, h))
    at (suc k) h = fit_at back back_words k all h
