-- The nets of the block that keeps answers.
use Rattle.std.specs.Prelude.{◌≡◌, ℕ, ◌+◌, ◌*◌, ◌^◌, ◌<◌, ◌≤◌, true, false, List, [], ◌∷◌, map as map_list, Contains}
use Rattle.std.specs.List.{AllZip}
use Rattle.std.proofs.Common.{◌⊎◌}
use Rattle.net_core.specs.Nets.{Tree, TRead, TConcatenation, Trees, StatementTree, SBlock, SEnd}
use Rattle.net_core.specs.Chains.{statements_before}
use Rattle.net_core.specs.Value.{Env, concatenated_parts}
use Rattle.net_core.specs.Width.{Scope, parts_width}
use Rattle.block_core.specs.design_rules.FormedSyntax.{parts_depth, parts_apart}
use Rattle.net_core.specs.ProductRules.Products.{parts_product}
use Rattle.block_core.specs.Order.{AllRead}
use Rattle.overlay_net.specs.cell_core.Cells.{bits_from}
use Rattle.cell_nets.specs.declared.operand.Operand.{Operand}
use Rattle.cell_nets.specs.declared.operand.Operand.TheVariants.{Known}
use Rattle.cell_nets.specs.Operands.{number_in, AreFit, AreDeclared, IsNetOf}
use Rattle.cell_nets.specs.Parts.{IsPart}
use Rattle.frame_net.specs.Answers.{byte_of}
use Rattle.frame_net.specs.Stores.{Store, store_statements}
use Rattle.row_net.specs.declared.place_net.outputs.AnswerByte.{AnswerByte}
use Rattle.row_net.specs.declared.place_net.outputs.Outputs.{Outputs}
use Rattle.row_net.specs.PlaceNet.Exit.{output_operands}

-- this byte may change, and the operand stands for it
pub record StandsFor {N : Type 0} (bytes : List (AnswerByte N)) (at : ℕ) (a : Operand N) : Type 0 where
  pub byte : AnswerByte N
  pub listed : Contains bytes byte
  pub here : byte.at ≡ at
  pub is : byte.operand ≡ a

-- the operand that stands for a byte, or 0 where none does
abbrev pub IsFound : {N : Type 0} → List (AnswerByte N) → ℕ → Operand N → Type 0
IsFound bytes at a = StandsFor bytes at a ⊎ (((x : AnswerByte _) → Contains bytes x → ¬ (x.at ≡ at)) × (a ≡ Known 0))

-- an expression for a byte
pub record IsByte {N : Type 0} (ins : List (Operand N)) (bytes : List (AnswerByte N)) (at : ℕ) (t : Tree N) : Type 0 where
  pub operand : Operand N
  pub found : IsFound bytes at operand
  pub part : IsPart ins 2 8 (λ v. bits_from (number_in v operand) 0 8) t

-- so many bytes of a word above one another, the first the lowest
pub record AreBytes {N : Type 0} (ins : List (Operand N)) (bytes : List (AnswerByte N)) (number count : ℕ) (ps : Trees N) : Type 0 where
  pub typed : (s : Scope N) → AreDeclared s ins → parts_width s ps ≡ 8 * count
  pub width : (v : Env N) → AreFit v ins → (concatenated_parts v ps).width ≡ 8 * count
  pub small : (v : Env N) → AreFit v ins → (concatenated_parts v ps).value < 2 ^ (8 * count)
  pub each : (k : ℕ) → k < count → (a : Operand N) × IsFound bytes (8 * number + k) a × ((v : Env N) → AreFit v ins → byte_of (concatenated_parts v ps).value k ≡ bits_from (number_in v a) 0 8)
  pub reads : AllRead (IsNetOf ins) ps
  pub depth : parts_depth ps ≤ 2
  pub apart : parts_apart ps ≡ true
  pub no_product : parts_product (λ n. false) ps ≡ false

-- an expression for a word of the frame
pub record IsFrameWord {N : Type 0} (ins : List (Operand N)) (bytes : List (AnswerByte N)) (number : ℕ) (t : Tree N) : Type 0 where
  pub parts : Trees N
  pub is : t ≡ TConcatenation parts
  pub pieces : AreBytes ins bytes number 8 parts

-- expressions for the verdict, the target, and these words of the frame
abbrev pub AreValues : {N : Type 0} → Outputs N → List ℕ → List (Tree N) → Type 0
AreValues o words [] = ⊥
AreValues o words (verdict ∷ []) = ⊥
AreValues o words (verdict ∷ target ∷ rest) =
    IsPart (output_operands o) 2 32 (λ v. bits_from (number_in v o.verdict) 0 32) verdict
    × IsPart (output_operands o) 2 32 (λ v. bits_from (number_in v o.target) 0 32) target
    × AllZip (IsFrameWord (output_operands o) o.bytes.items) words rest

-- where a packet leaves, a value goes to its slot
abbrev pub exit_store : {N : Type 0} → N → N → Tree N → Store N
exit_store exits slot t = record { condition = TRead exits; at = TRead slot; value = t }

abbrev pub exit_stores : {N : Type 0} → N → N → List (Tree N) → List (Store N)
exit_stores exits slot values = map_list (exit_store exits slot) values

abbrev pub exit_statement : {N : Type 0} → N → N → List (Tree N) → StatementTree N
exit_statement exits slot values = SBlock (statements_before (store_statements 0 (exit_stores exits slot values)) SEnd)
