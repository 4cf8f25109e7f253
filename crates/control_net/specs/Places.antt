-- What control says of places that hold packets of any kind: which are sent back, and which places hold one then.
use Rattle.std.specs.Prelude.{◌≡◌, ℕ, suc, nat_le, Bool, false, ◌&&◌, ◌||◌, if◌then◌else◌, Option, Some, None, is_some, List, [], ◌∷◌, map}
use Rattle.std.proofs.Common.{get_or}
use Rattle.control_net.specs.declared.ring_net.shape.ControlShape.{ControlShape}
use Rattle.control_net.specs.Control.{some_returns, flushed, shifted}

-- whether a place sends back, by what a packet there has to say
abbrev pub sends : {X : Type 0} → ControlShape → (ℕ → X → Bool) → ℕ → Option X → Bool
sends c must_reload k None = false
sends c must_reload k (Some x) = nat_le k c.commit && must_reload k x

-- The places are flushed: from place k on, one of these sends back, and where a place does, it and all younger ones are emptied.
pub record IsFlush {X : Type 0} (c : ControlShape) (must_reload : ℕ → X → Bool) (some_send : ℕ → List (Option X) → Bool) (flush : ℕ → List (Option X) → List (Option X)) : Type 0 where
  pub none_sends : (k : ℕ) → some_send k [] ≡ false
  pub one_sends : (k : ℕ) (x : Option X) (xs : List (Option X)) → some_send k (x ∷ xs) ≡ (sends c must_reload k x || some_send (suc k) xs)
  pub none_flushed : (k : ℕ) → flush k [] ≡ []
  pub one_flushed : (k : ℕ) (x : Option X) (xs : List (Option X)) → flush k (x ∷ xs) ≡ (if some_send k (x ∷ xs) then None else x) ∷ flush (suc k) xs

-- Packets move: each place takes what the one before held, which stays a packet there.
pub record IsMove {X : Type 0} (move : ℕ → Option X → List (Option X) → List (Option X)) : Type 0 where
  pub none_moves : (k : ℕ) (x : Option X) → move k x [] ≡ []
  pub one_moves : (k : ℕ) (x y : Option X) (ys : List (Option X)) → map is_some (move k x (y ∷ ys)) ≡ is_some x ∷ map is_some (move (suc k) y ys)

-- the signals of places are those of the packets there
abbrev pub TellsReload : (X : Type 0) → (ℕ → Bool) → (ℕ → X → Bool) → List (Option X) → Type 0
TellsReload X reload must_reload places = (k : ℕ) (x : X) → get_or places k None ≡ Some x → reload k ≡ must_reload k x

-- control sends back where places do, and knows of each whether it still holds a packet
abbrev pub FlushesPlaces : Type 0 → Type 0
FlushesPlaces X = (c : ControlShape) (reload : ℕ → Bool) (must_reload : ℕ → X → Bool) (some_send : ℕ → List (Option X) → Bool) (flush : ℕ → List (Option X) → List (Option X)) (places : List (Option X))
    → IsFlush c must_reload some_send flush → TellsReload X reload must_reload places → (some_returns c reload 0 (map is_some places) ≡ some_send 0 places) × (flushed c reload 0 (map is_some places) ≡ map is_some (flush 0 places))

-- and after they have moved on
abbrev pub MovesPlaces : Type 0 → Type 0
MovesPlaces X = (move : ℕ → Option X → List (Option X) → List (Option X)) (k : ℕ) (x : Option X) (places : List (Option X)) → IsMove move → shifted (is_some x) (map is_some places) ≡ map is_some (move k x places)

-- Where none is sent back, each place holds what it held.
abbrev pub KeepsPlaces : Type 0
KeepsPlaces = (c : ControlShape) (reload : ℕ → Bool) (holds : List Bool) → some_returns c reload 0 holds ≡ false → flushed c reload 0 holds ≡ holds
