-- The nets of words, by what stands after the wires of a part.
use Rattle.std.specs.Prelude.{Contains}
use Rattle.std.proofs.Common.{◌≡◌, ◌∙◌, ℕ, suc, Bool, true, false, All, List, [], ◌∷◌, map as map_list, sym, ap, arith}
use Rattle.net_core.specs.Value.{word, bit, Env}
use Rattle.net_core.specs.Width.{Scope}
use Rattle.overlay_net.specs.hazard_core.Commits.{word_at}
use Rattle.hash_net.specs.array_net.declared.words.WordNets.{WordNets}
use Rattle.hash_net.specs.array_net.Words.{word_width, AsksWords, HaveWidths, AreThere}
use Rattle.hash_net.specs.HashNets.{key_nets}
use Rattle.overlay_net.specs.cell_nets.declared.operand.Operand.{Operand}
use Rattle.overlay_net.specs.cell_nets.declared.operand.Operand.TheVariants.{Net}
use Rattle.overlay_net.specs.cell_nets.Operands.{AreDeclared, IsAvailable}
use Rattle.commit_net.specs.Wiring.{key_operands, value_operands, ShowWords, ShowChanges}

-- ---- the nets of words
module _ {N : Type 0} (ins : List (Operand N)) (bytes : ℕ) where
  less : (Q : Operand N → Type 0) (a : Operand N) (more : List (Operand N)) → All Q (a ∷ more) → All Q more
  less Q a more h n d lt = h (suc n) d (omega (arith, lt))

  pub keys_wide : (s : Scope N) → AreDeclared s ins → (inserts : N) → s.net inserts ≡ 1 → (j : ℕ) (keys : List N) → All (IsAvailable ins) (key_operands bytes j keys) → HaveWidths s bytes j (map_list (key_nets inserts) keys)
  keys_wide s declared inserts one j [] h = tt
  keys_wide s declared inserts one j (n ∷ keys) h =
      ((one, declared (Net n (word_width bytes j)) (h 0 (Net n (word_width bytes j)) (omega arith))), keys_wide s declared inserts one (suc j) keys (less (IsAvailable ins) (Net n (word_width bytes j)) (key_operands bytes (suc j) keys) h))

  rest : (j : ℕ) (n : WordNets N) (values : List (WordNets N)) → All (IsAvailable ins) (value_operands bytes j (n ∷ values)) → All (IsAvailable ins) (value_operands bytes (suc j) values)
  rest j n values h k d lt = h (suc (suc k)) d (omega (arith, lt))

  pub values_wide : (s : Scope N) → AreDeclared s ins → (j : ℕ) (values : List (WordNets N)) → All (IsAvailable ins) (value_operands bytes j values) → HaveWidths s bytes j values
  values_wide s declared j [] h = tt
  values_wide s declared j (n ∷ values) h =
      ((declared (Net n.sets 1) (h 0 (Net n.sets 1) (omega arith)), declared (Net n.word (word_width bytes j)) (h 1 (Net n.sets 1) (omega arith))), values_wide s declared (suc j) values (rest j n values h))

  module _ (q : N → Type 0) (each : (n : N) (u : ℕ) → Contains ins (Net n u) → q n) where
    pub keys_there : (inserts : N) → q inserts → (j : ℕ) (keys : List N) → All (IsAvailable ins) (key_operands bytes j keys) → AreThere q (map_list (key_nets inserts) keys)
    keys_there inserts one j [] h = tt
    keys_there inserts one j (n ∷ keys) h =
        ((one, each n (word_width bytes j) (h 0 (Net n (word_width bytes j)) (omega arith))), keys_there inserts one (suc j) keys (less (IsAvailable ins) (Net n (word_width bytes j)) (key_operands bytes (suc j) keys) h))

    pub values_there : (j : ℕ) (values : List (WordNets N)) → All (IsAvailable ins) (value_operands bytes j values) → AreThere q values
    values_there j [] h = tt
    values_there j (n ∷ values) h =
        ((each n.sets 1 (h 0 (Net n.sets 1) (omega arith)), each n.word (word_width bytes j) (h 1 (Net n.sets 1) (omega arith))), values_there (suc j) values (rest j n values h))

  module _ (v : Env N) (is : (n : N) (u x : ℕ) → Contains ins (Net n u) → (v.net n).value ≡ x → v.net n ≡ word u x) where
    -- the words of a key are set with an entry
    pub keys_ask : (net : N) (inserts : Bool) → v.net net ≡ bit inserts → (old new key : List ℕ) → (inserts ≡ true → new ≡ key) → (inserts ≡ false → new ≡ old) → (j : ℕ) (keys : List N) → All (IsAvailable ins) (key_operands bytes j keys) → ShowWords v j keys key → AsksWords v bytes j (map_list (key_nets net) keys) old new
    keys_ask net inserts set old new key put kept j [] h shown = tt
    keys_ask net inserts set old new key put kept j (n ∷ keys) h shown = (
      record {
        sets = inserts;
        is_set = set;
        becomes = λ q. is n (word_width bytes j) (word_at new j) (h 0 (Net n (word_width bytes j)) (omega arith)) (shown.0 ∙ ap (λ l. word_at l j) (sym (put q)));
        stays = λ q. ap (λ l. word_at l j) (kept q);
      },
      keys_ask net inserts set old new key put kept (suc j) keys (less (IsAvailable ins) (Net n (word_width bytes j)) (key_operands bytes (suc j) keys) h) shown.1,
    )

    -- those of a value where they change
    pub values_ask : (changes : ℕ → Bool) (old new : List ℕ) → ((w : ℕ) → changes w ≡ false → word_at new w ≡ word_at old w) → (j : ℕ) (values : List (WordNets N)) → All (IsAvailable ins) (value_operands bytes j values) → ShowChanges v changes j values new → AsksWords v bytes j values old new
    values_ask changes old new same j [] h shown = tt
    values_ask changes old new same j (n ∷ values) h shown = (
      record {
        sets = changes j;
        is_set = is n.sets 1 _ (h 0 (Net n.sets 1) (omega arith)) shown.0.0;
        becomes = λ q. is n.word (word_width bytes j) (word_at new j) (h 1 (Net n.sets 1) (omega arith)) shown.0.1;
        stays = same j;
      },
      values_ask changes old new same (suc j) values (rest j n values h) shown.1,
    )
