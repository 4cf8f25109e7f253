-- Wires for any operator.
use Rattle.std.specs.Prelude.{◌≢◌, slice_index, if◌then◌else◌}
use Rattle.std.proofs.Common.{◌≡◌, ◌⊎◌, inl, inr, ℕ, ◌^◌, ◌<◌, Bool, true, false, All, List, [], ◌∷◌, get_or, take, map, refl, sym, ◌∙◌, ap, subst}
use Rattle.std.proofs.lemmas.List.Elements.{All-map}
use Rattle.net_core.specs.declared.tree.Op.TheVariants as net
use Rattle.net_core.specs.Nets.{Tree}
use Rattle.net_core.specs.Value.{Env, word}
use Rattle.cell_core.specs.xdp_machine.State.{PacketIn}
use Rattle.block_core.specs.declared.name.Name.{Name}
use Rattle.block_core.specs.Blocks.{BlockWireTree}
use Rattle.block_core.proofs.list_laws_laws.AllLaws.{all_one}
use Rattle.cell_core.specs.declared.operator.Operator.{Operator}
use Rattle.cell_core.specs.declared.operator.Operator.TheVariants.{Wire, Later, Join, SignExtend, Not, And, Or, Xor, Any, Select, Phi, Difference, Quotient, Remainder, Add, Sub, Mul, ShiftLeft, ShiftRight, NonZero}
use Rattle.cell_core.specs.Cells.{number, bits_from}
use Rattle.cell_core.specs.Formed.{divides}
use Rattle.cell_nets.specs.declared.operand.Operand.{Operand}
use Rattle.cell_nets.specs.Computing.{is_operation, is_wired, takes_all, makes_product, taken, IsPair, HasDivisor}
use Rattle.cell_nets.specs.Operands.{number_in, IsOperand, IsFit, IsAvailable}
use Rattle.cell_nets.specs.Parts.{ComputesBy, worth}
use Rattle.cell_nets.specs.Wires.{GivesBy, Gives, always}
use Rattle.cell_nets.proofs.ChoiceLaws.{number_small}
use Rattle.cell_nets.proofs.SliceLaws.{whole_bits}
use Rattle.cell_nets.proofs.GiveLaws.{gives_as, gives_next}
use Rattle.cell_nets.proofs.NumberLemmas.{operation_small}
use Rattle.cell_nets.proofs.ComputingLaws.{no_divisor}

-- ---- which operators are left
pub phi_left : (op : Operator) → takes_all op ≡ true → ((bits : ℕ) → op ≢ Join bits) → op ≢ Any → op ≡ Phi
phi_left (Join bits) h j a = absurd (j bits refl)
phi_left Any h j a = absurd (a refl)
phi_left Phi h j a = refl
phi_left op h j a = cc

pub quotient_left : (op : Operator) → is_wired op ≡ true → takes_all op ≡ false → op ≢ ShiftRight → op ≢ Remainder → op ≡ Quotient
quotient_left ShiftRight h l s r = absurd (s refl)
quotient_left Remainder h l s r = absurd (r refl)
quotient_left Quotient h l s r = refl
quotient_left op h l s r = cc

pub pair_left : (op : Operator) → is_operation op ≡ true → is_wired op ≡ false → op ≢ Not → op ≢ NonZero → ((bits : ℕ) → op ≢ SignExtend bits) → op ≢ Select → op ≢ ShiftLeft → IsPair op
pair_left Not h l n z s c x = absurd (n refl)
pair_left NonZero h l n z s c x = absurd (z refl)
pair_left (SignExtend bits) h l n z s c x = absurd (s bits refl)
pair_left Select h l n z s c x = absurd (c refl)
pair_left ShiftLeft h l n z s c x = absurd (x refl)
pair_left And h l n z s c x = λ e. (net.And, refl)
pair_left Or h l n z s c x = λ e. (net.Or, refl)
pair_left Xor h l n z s c x = λ e. (net.Xor, refl)
pair_left Difference h l n z s c x = λ e. (net.Sub, refl)
pair_left Add h l n z s c x = λ e. (net.Add, refl)
pair_left Sub h l n z s c x = λ e. (net.Sub, refl)
pair_left Mul h l n z s c x = λ e. (net.Mul, refl)
pair_left op h l n z s c x = λ e. cc

pub plain_takes : (op : Operator) → is_wired op ≡ false → takes_all op ≡ false
plain_takes ShiftRight h = refl
plain_takes Quotient h = refl
plain_takes Remainder h = refl
plain_takes op h = h

-- ---- which are products
pub list_plain : (op : Operator) → takes_all op ≡ true → makes_product op ≡ false
list_plain (Join bits) h = refl
list_plain Any h = refl
list_plain Phi h = refl
list_plain op h = cc

copied_plain : (op : Operator) → (op ≡ Wire) ⊎ (op ≡ Later) → makes_product op ≡ false
copied_plain op (inl e) = ap makes_product e
copied_plain op (inr e) = ap makes_product e

pub unwired : (op : Operator) → is_wired op ≡ false → divides op ≡ false
unwired Quotient h = cc
unwired Remainder h = cc
unwired op h = refl

takes_them : {X : Type 0} (Q : X → Type 0) (op : Operator) (xs : List X) → divides op ≡ false → All Q (taken op xs) → All Q xs
takes_them Q op xs e h = subst (All Q) (ap (λ b. if b then take 2 xs else xs) e) h

-- ---- expressions over inputs
computes_same : {N : Type 0} {b : Bool} (ins : List (Operand N)) (w : ℕ) (f g : Env N → ℕ) (t : Tree N) → ((v : Env N) → f v ≡ g v) → ComputesBy b ins w f t → ComputesBy b ins w g t
computes_same ins w f g t e p = record { typed = p.typed; value = λ v h. p.value v h ∙ ap (word w) (e v); reads = p.reads; spelled = p.spelled; flat = p.flat; no_product = p.no_product }

pub inputs_computes :
    {N : Type 0} (ins args used : List (Operand N)) (packet : PacketIn) (op o : Operator) (w : ℕ) (t : Tree N) → op ≡ o → ((v : Env N) → number packet o (map (number_in v) used) ≡ number packet o (map (number_in v) args)) → ComputesBy (makes_product o) ins w (worth packet o used w) t
    → ComputesBy (makes_product op) ins w (worth packet op args w) t
inputs_computes ins args used packet op o w t e same p = subst (λ q. ComputesBy (makes_product q) ins w (worth packet q args w) t) (sym e) (computes_same ins w _ _ t (λ v. ap (λ n. bits_from n 0 w) (same v)) p)

-- ---- wires over inputs
pub inputs_gives :
    {P : Type 0} (p : P) (old new : List (BlockWireTree (Name P))) (args used : List (Operand (Name P))) (packet : PacketIn) (op o : Operator) (needs : Env (Name P) → Type 0) (w : ℕ) (out : Operand (Name P)) → op ≡ o
    → ((ins : List (Operand (Name P))) → All (IsAvailable ins) (taken o args) → All (IsAvailable ins) used) → ((v : Env (Name P)) → number packet o (map (number_in v) used) ≡ number packet o (map (number_in v) args)) → ((v : Env (Name P)) → HasDivisor o args v → needs v)
    → GivesBy (makes_product o) p old new used needs (worth packet o used w) w out → GivesBy (makes_product op) p old new (taken op args) (HasDivisor op args) (worth packet op args w) w out
inputs_gives p old new args used packet op o needs w out e sub same less x =
    subst (λ q. GivesBy (makes_product q) p old new (taken q args) (HasDivisor q args) (worth packet q args w) w out) (sym e)
    (gives_as p old new used (taken o args) needs (HasDivisor o args) (worth packet o used w) (worth packet o args w) w out x sub (λ v f n. (less v n, ap (λ k. bits_from k 0 w) (same v))))

-- an operator in other words
pub worth_of :
    {P : Type 0} (p : P) (old new : List (BlockWireTree (Name P))) (args : List (Operand (Name P))) (packet : PacketIn) (op o : Operator) (w : ℕ) (out : Operand (Name P)) → op ≡ o → Gives p old new args always (worth packet o args w) w out
    → Gives p old new args always (worth packet op args w) w out
worth_of p old new args packet op o w out e x = subst (λ q. Gives p old new args always (worth packet q args w) w out) (sym e) x

-- whatever is asked
pub always_gives :
    {P : Type 0} {b : Bool} (p : P) (old new : List (BlockWireTree (Name P))) (op : Operator) (args : List (Operand (Name P))) (needs : Env (Name P) → Type 0) (f : Env (Name P) → ℕ) (w : ℕ) (out : Operand (Name P)) → divides op ≡ false → GivesBy b p old new args always f w out
    → GivesBy b p old new (taken op args) needs f w out
always_gives p old new op args needs f w out e x = gives_as p old new args (taken op args) always needs f f w out x (λ ins h. takes_them (IsAvailable ins) op args e h) (λ v f n. (tt, refl))

-- bits of an input as it is
copied : (packet : PacketIn) (op : Operator) (xs : List ℕ) → (op ≡ Wire) ⊎ (op ≡ Later) → number packet op xs ≡ slice_index xs 0
copied packet op xs (inl e) = ap (λ o. number packet o xs) e
copied packet op xs (inr e) = ap (λ o. number packet o xs) e

pub copy_gives :
    {P : Type 0} (p : P) (old new : List (BlockWireTree (Name P))) (args : List (Operand (Name P))) (packet : PacketIn) (op : Operator) (from w : ℕ) (a out : Operand (Name P)) → (op ≡ Wire) ⊎ (op ≡ Later)
    → ((ins : List (Operand (Name P))) → All (IsAvailable ins) args → IsAvailable ins a) → ((v : Env (Name P)) → number_in v a ≡ slice_index (map (number_in v) args) 0) → Gives p old new (a ∷ []) always (λ v. bits_from (number_in v a) from w) w out
    → GivesBy (makes_product op) p old new (taken op args) (HasDivisor op args) (λ v. bits_from (number packet op (map (number_in v) args)) from w) w out
copy_gives p old new args packet op from w a out is there same x =
    let plain = copied_plain op is in
    subst (λ b. GivesBy b p old new (taken op args) (HasDivisor op args) (λ v. bits_from (number packet op (map (number_in v) args)) from w) w out) (sym plain)
    (gives_as p old new (a ∷ []) (taken op args) always (HasDivisor op args) (λ v. bits_from (number_in v a) from w) (λ v. bits_from (number packet op (map (number_in v) args)) from w) w out x
    (λ ins h. all_one (IsAvailable ins) a (there ins (takes_them (IsAvailable ins) op args (no_divisor op plain) h)))
    (λ v f n. (tt, ap (λ k. bits_from k from w) (same v ∙ sym (copied packet op (map (number_in v) args) is)))))

-- bits of a whole operation
pub part_gives :
    {P : Type 0} (p : P) (old mid new : List (BlockWireTree (Name P))) (args : List (Operand (Name P))) (packet : PacketIn) (op : Operator) (from w : ℕ) (whole out : Operand (Name P)) → is_operation op ≡ true → All IsOperand args
    → GivesBy (makes_product op) p old mid (taken op args) (HasDivisor op args) (worth packet op args 64) 64 whole → Gives p mid new (whole ∷ []) always (λ v. bits_from (number_in v whole) from w) w out
    → GivesBy (makes_product op) p old new (taken op args) (HasDivisor op args) (λ v. bits_from (number packet op (map (number_in v) args)) from w) w out
part_gives p old mid new args packet op from w whole out o words x y =
    gives_next p old mid new (taken op args) (HasDivisor op args) (worth packet op args 64) (λ v. bits_from (number_in v whole) from w) (λ v. bits_from (number packet op (map (number_in v) args)) from w) 64 w whole out x y
    (λ v fit e. ap (λ k. bits_from k from w) (e ∙ sym (whole_bits (number packet op (map (number_in v) args)) 64 (operation_small packet op (map (number_in v) args) o (λ e. small v (takes_them (IsFit v) op args e fit))))))
  where
    small : (v : Env _) → All (IsFit v) args → All (λ n. n < 2 ^ 64) (map (number_in v) args)
    small v fit = All-map (λ n. n < 2 ^ 64) (number_in v) args (λ k d lt. number_small v (get_or args k d) (words k d lt) (fit k d lt))
