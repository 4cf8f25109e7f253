-- Operands above one another, by sums.
use Rattle.std.proofs.Common.{◌≡◌, ℕ, ◌+◌, ◌*◌, ◌%◌, ◌^◌, ◌<◌, ◌≤◌, List, [], ◌∷◌, length, take, get_or, map, refl, sym, ◌∙◌, ap, arith}
use Rattle.std.proofs.lemmas.Nat.{mul-mod_first}
use Rattle.std.proofs.lemmas.List.{take_all}
use Rattle.net_core.specs.Value.{Env}
use Rattle.net_core.proofs.LowBitsLaws.{low_low}
use Rattle.cell_core.specs.xdp_machine.State.{PacketIn}
use Rattle.block_core.specs.declared.name.Name.{Name}
use Rattle.block_core.specs.Blocks.{BlockWireTree}
use Rattle.block_core.proofs.list_laws_laws.NumberLaws.{add-mod}
use Rattle.block_core.proofs.list_laws_laws.AllLaws.{all_two}
use Rattle.cell_core.specs.declared.operator.Operator.TheVariants.{Join, ShiftLeft, Add}
use Rattle.cell_core.specs.Cells.{number, bits_from, joined}
use Rattle.cell_nets.specs.declared.operand.Operand.{Operand}
use Rattle.cell_nets.specs.declared.operand.Operand.TheVariants.{Known}
use Rattle.cell_nets.specs.Operands.{number_in, IsAvailable}
use Rattle.cell_nets.specs.Parts.{worth}
use Rattle.cell_nets.specs.Wires.{Gives, always}
use Rattle.cell_nets.proofs.NarrowLaws.{from_zero}
use Rattle.cell_nets.proofs.ListLemmas.{available_at}
use Rattle.cell_nets.proofs.JoinLemmas.{joined_at}
use Rattle.cell_nets.proofs.GiveLaws.{gives_then, gives_next, known_gives}

twice : (n : ℕ) → n % 2 ^ 64 % 2 ^ 64 ≡ n % 2 ^ 64
twice n = low_low n 64 (omega arith)

moved_is : (packet : PacketIn) (h bits : ℕ) → bits ≤ 63 → bits_from (number packet ShiftLeft (h ∷ bits ∷ [])) 0 64 ≡ h * 2 ^ bits % 2 ^ 64
moved_is packet h bits most =
    let e : bits % 2 ^ 64 % 64 ≡ bits = omega arith in
    from_zero _ 64 ∙ twice _ ∙ ap (λ k. h % 2 ^ 64 * 2 ^ k % 2 ^ 64) e ∙ mul-mod_first h (2 ^ bits) (2 ^ 64)

sum_is : (packet : PacketIn) (m x : ℕ) → bits_from (number packet Add (m ∷ x ∷ [])) 0 64 ≡ (m + x) % 2 ^ 64
sum_is packet m x = from_zero _ 64 ∙ twice _ ∙ sym (add-mod m x (2 ^ 64))

-- the sum of all operands so far
abbrev pub so_far : {N : Type 0} → List (Operand N) → ℕ → ℕ → Env N → ℕ
so_far args bits i v = joined bits (map (number_in v) (take i args))

pub first_sum : {P : Type 0} (p : P) (ws : List (BlockWireTree (Name P))) (args : List (Operand (Name P))) (bits : ℕ) → Gives p ws ws args always (so_far args bits 0) 64 (Known 0)
first_sum p ws args bits = known_gives p ws args always _ 64 0 (omega arith) (omega arith) (λ v f n. refl)

pub more_sum :
    {P : Type 0} (p : P) (old mid two new : List (BlockWireTree (Name P))) (args : List (Operand (Name P))) (packet : PacketIn) (bits i : ℕ) (x high moved out : Operand (Name P)) → bits ≤ 63 → i < length args → x ≡ get_or args i x
    → Gives p old mid args always (so_far args bits i) 64 high → Gives p mid two (high ∷ []) always (worth packet ShiftLeft (high ∷ Known bits ∷ []) 64) 64 moved → Gives p two new (moved ∷ x ∷ []) always (worth packet Add (moved ∷ x ∷ []) 64) 64 out
    → Gives p old new args always (so_far args bits (i + 1)) 64 out
more_sum p old mid two new args packet bits i x high moved out most inside is a b c =
    gives_then p old two new args (moved ∷ x ∷ []) always (λ v. so_far args bits i v * 2 ^ bits % 2 ^ 64) (worth packet Add (moved ∷ x ∷ []) 64) (so_far args bits (i + 1)) 64 64 moved out
    (gives_next p old mid two args always (so_far args bits i) (worth packet ShiftLeft (high ∷ Known bits ∷ []) 64) (λ v. so_far args bits i v * 2 ^ bits % 2 ^ 64) 64 64 high moved a b
    (λ v f e. moved_is packet (number_in v high) bits most ∙ ap (λ k. k * 2 ^ bits % 2 ^ 64) e))
    c (λ ins all there. all_two (IsAvailable ins) moved x there (available_at ins args i x inside is all))
    (λ v f e. sum_is packet (number_in v moved) (number_in v x) ∙ ap (λ k. (k + number_in v x) % 2 ^ 64) e ∙ sym (joined_at v args bits i x inside is))

pub last_sum :
    {P : Type 0} (p : P) (old mid new : List (BlockWireTree (Name P))) (args : List (Operand (Name P))) (packet : PacketIn) (bits i w : ℕ) (high out : Operand (Name P)) → length args ≤ i → w ≤ 64
    → Gives p old mid args always (so_far args bits i) 64 high → Gives p mid new (high ∷ []) always (λ v. bits_from (number_in v high) 0 w) w out → Gives p old new args always (worth packet (Join bits) args w) w out
last_sum p old mid new args packet bits i w high out past most a b =
    gives_next p old mid new args always (so_far args bits i) (λ v. bits_from (number_in v high) 0 w) (worth packet (Join bits) args w) 64 w high out a b
    (λ v f e. ap (λ k. bits_from k 0 w) (e ∙ ap (λ l. joined bits (map (number_in v) l)) (take_all i args past)))
