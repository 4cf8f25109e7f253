-- What parts of wires alone take from outside, and the operands that stand for the nets that they give.
use Rattle.std.specs.Prelude.{◌≡◌, ℕ, suc, ◌<◌, Bool, List, [], ◌∷◌, ◌++◌, length, map as map_list}
use Rattle.std.proofs.Common.{get_or}
use Rattle.net_core.specs.Value.{Env}
use Rattle.overlay_net.specs.cell_core.Cells.{bit}
use Rattle.overlay_net.specs.hazard_core.Commits.{word_at}
use Rattle.hash_net.specs.array_net.declared.words.WordNets.{WordNets}
use Rattle.hash_net.specs.array_net.Words.{word_width}
use Rattle.overlay_net.specs.cell_nets.declared.operand.Operand.{Operand}
use Rattle.overlay_net.specs.cell_nets.declared.operand.Operand.TheVariants.{Net}
use Rattle.commit_net.specs.declared.choosing.CommitNets.{CommitNets}
use Rattle.commit_net.specs.Choosing.{all_read}

-- ---- what comes from outside: what stands for the operations, and nets of 64 bits that show words
abbrev pub word_operand : {N : Type 0} → N → Operand N
word_operand n = Net n 64

abbrev pub outside_of : {N : Type 0} → List (CommitNets N) → List N → List (Operand N)
outside_of ns words = map_list word_operand words ++ all_read ns

-- they show the words of a value
abbrev pub ShowsValue : {N : Type 0} → Env N → List N → List ℕ → Type 0
ShowsValue {N} v words value = (w : ℕ) (n : N) → w < length words → (v.net (get_or words w n)).value ≡ word_at value w

-- ---- what is given: nets for the words of a byte string, from one on, as operands
abbrev pub key_operands : {N : Type 0} → ℕ → ℕ → List N → List (Operand N)
key_operands bytes j [] = []
key_operands bytes j (n ∷ keys) = Net n (word_width bytes j) ∷ key_operands bytes (suc j) keys

abbrev pub value_operands : {N : Type 0} → ℕ → ℕ → List (WordNets N) → List (Operand N)
value_operands bytes j [] = []
value_operands bytes j (n ∷ values) = Net n.sets 1 ∷ Net n.word (word_width bytes j) ∷ value_operands bytes (suc j) values

-- they show these words
abbrev pub ShowWords : {N : Type 0} → Env N → ℕ → List N → List ℕ → Type 0
ShowWords v j [] bytes = Unit {0}
ShowWords v j (n ∷ keys) bytes = ((v.net n).value ≡ word_at bytes j) × ShowWords v (suc j) keys bytes

-- and whether each is set
abbrev pub ShowChanges : {N : Type 0} → Env N → (ℕ → Bool) → ℕ → List (WordNets N) → List ℕ → Type 0
ShowChanges v changes j [] bytes = Unit {0}
ShowChanges v changes j (n ∷ values) bytes = (((v.net n.sets).value ≡ bit (changes j)) × ((v.net n.word).value ≡ word_at bytes j)) × ShowChanges v changes (suc j) values bytes
