-- Whether an operation commits that is on a map.
use Rattle.std.specs.Prelude.{Contains, slice_index, if◌then◌else◌}
use Rattle.std.proofs.Common.{◌≡◌, ◌⊎◌, inl, inr, ◌∙◌, ℕ, suc, ◌+◌, ◌==◌, ◌<◌, ◌≤◌, Bool, true, false, ◌&&◌, ◌||◌, All, List, [], ◌∷◌, ◌++◌, length, get_or, refl, sym, ap, subst, arith}
use Rattle.std.proofs.lemmas.Bool.{cases_lt, eq-eqb, ne_eqb}
use Rattle.std.proofs.lemmas.List.{get_or-map, get_or_append_left, get_or_default, get_or_push, length_push, length-map}
use Rattle.std.proofs.lemmas.List.Elements.{All-append}
use Rattle.block_core.proofs.list_laws_laws.PlaceLaws.{some_of}
use Rattle.net_core.specs.Value.{Env}
use Rattle.block_core.specs.declared.name.Name.{Name}
use Rattle.block_core.specs.Blocks.{BlockWireTree}
use Rattle.hazard_core.specs.cell_core.Cells.{bit, on, bits_from}
use Rattle.hazard_core.proofs.cell_core_laws.BitLaws.{bit_bits}
use Rattle.cell_nets.specs.declared.operand.Operand.{Operand}
use Rattle.cell_nets.specs.declared.operand.Operand.TheVariants.{Known, Net}
use Rattle.cell_nets.specs.Operands.{number_in, IsOperand, IsAvailable}
use Rattle.cell_nets.specs.Wires.{always, Gives}
use Rattle.cell_nets.specs.StepNets.Standing.{Stands}
use Rattle.cell_nets.proofs.StepNets.ChainLaws.{starts, next, last, ends}
use Rattle.cell_nets.proofs.StepNets.StepLaws.{all_each}
use Rattle.turn_net.specs.TargetNet.Commits.{bits_of, any_on, AreOn}
use Rattle.turn_net.proofs.TargetNet.StandLemmas.{left_of, right_of, first_of, tail_of, one_of, stands_as}

-- ---- one operation more
either_bit : (s b : Bool) (n : ℕ) → n ≡ bit b → bits_from (if s then 1 else n) 0 1 ≡ bit (s || b)
either_bit true b n e = refl
either_bit false b n e = ap (λ k. bits_from k 0 1) e ∙ bit_bits b

module _ {N : Type 0} (v : Env N) (maps : List ℕ) (chosen : List (Operand N)) (map i : ℕ) where
  next_on : (x : Bool) → (slice_index maps i == map) ≡ x → any_on v maps chosen map (i + 1) ≡ ((x && on (number_in v (get_or chosen i (Known 0)))) || any_on v maps chosen map i)
  next_on x e = let s : i + 1 ≡ suc i = omega arith in ap (any_on v maps chosen map) s ∙ ap (λ b. (b && on (number_in v (get_or chosen i (Known 0)))) || any_on v maps chosen map i) e

  on_map : (c : Operand N) (n : ℕ) → c ≡ get_or chosen i (Known 0) → (slice_index maps i == map) ≡ true → n ≡ bit (any_on v maps chosen map i) → bits_from (if on (number_in v c) then 1 else n) 0 1 ≡ bit (any_on v maps chosen map (i + 1))
  on_map c n is e h = either_bit (on (number_in v c)) (any_on v maps chosen map i) n h ∙ ap (λ o. bit (on (number_in v o) || any_on v maps chosen map i)) is ∙ ap bit (sym (next_on true e))

  off_map : (slice_index maps i == map) ≡ false → any_on v maps chosen map (i + 1) ≡ any_on v maps chosen map i
  off_map e = next_on false e

-- as an operand after wires: of an operation on the map, and of another one
module _ {P : Type 0} (part : P) (old mid : List (BlockWireTree (Name P))) (maps : List ℕ) (chosen : List (Operand (Name P))) (map i : ℕ) (any : Operand (Name P)) (x : Gives part old mid chosen always (λ v. bit (any_on v maps chosen map i)) 1 any) where
  first : Stands part old mid chosen always (any ∷ chosen) (λ v. always v × (number_in v any ≡ bit (any_on v maps chosen map i)))
  first = next (starts part old chosen always) x (λ ins a. a) (λ v f k. tt)

  pub also_on :
      (new : List (BlockWireTree (Name P))) (c out : Operand (Name P)) → i < length chosen → c ≡ get_or chosen i c → slice_index maps i ≡ map → Gives part mid new (c ∷ Known 1 ∷ any ∷ []) always (λ v. bits_from (if on (number_in v c) then 1 else number_in v any) 0 1) 1 out
      → Gives part old new chosen always (λ v. bit (any_on v maps chosen map (i + 1))) 1 out
  also_on new c out lt is e y =
      last first y (λ ins a. all_each (IsAvailable ins) (c ∷ Known 1 ∷ any ∷ []) (subst (IsAvailable ins) (sym is) (a (suc i) c (omega (arith, lt))), (tt, (a 0 any (omega arith), tt)))) (λ v f k. tt) (λ v. bit (any_on v maps chosen map (i + 1)))
      (λ v f k. on_map v maps chosen map i c (number_in v any) (is ∙ get_or_default chosen i c (Known 0) lt) (eq-eqb (slice_index maps i) map e) k.1)

  pub not_on : (slice_index maps i ≡ map → ⊥) → Gives part old mid chosen always (λ v. bit (any_on v maps chosen map (i + 1))) 1 any
  not_on e = ends first (λ v. bit (any_on v maps chosen map (i + 1))) 1 any (λ ins a. a 0 any (omega arith)) x.operand x.bits (λ v f k. k.1 ∙ ap bit (sym (off_map v maps chosen map i (ne_eqb (slice_index maps i) map e))))

  pub all_on : i ≡ length chosen → Gives part old mid chosen always (λ v. bit (any_on v maps chosen map (length chosen))) 1 any
  all_on e = subst (λ n. Gives part old mid chosen always (λ v. bit (any_on v maps chosen map n)) 1 any) e x

-- ---- one map more
module _ {P : Type 0} (part : P) (maps : List ℕ) (chosen : List (Operand (Name P))) where
  abbrev pub Far : List (BlockWireTree (Name P)) → List (BlockWireTree (Name P)) → List (Name P) → Type 0
  Far old new ns = Stands part old new chosen always (bits_of ns ++ chosen) (λ v. AreOn v maps chosen ns)

  pub far_none : (ws : List (BlockWireTree (Name P))) → Far ws ws []
  far_none ws = stands_as chosen (λ v. AreOn v maps chosen []) (starts part ws chosen always) (λ ins a. a) (λ v n m d lt. absurd (omega (arith, lt)))

  bits_push : (Q : Operand (Name P) → Type 0) (ns : List (Name P)) (n : Name P) → All Q (bits_of ns) → Q (Net n 1) → All Q (bits_of (ns ++ n ∷ []))
  bits_push Q [] n h k = one_of Q (Net n 1) k
  bits_push Q (o ∷ ns) n h k = first_of Q (Net o 1) (bits_of (ns ++ n ∷ [])) (h 0 (Net o 1) (omega arith)) (bits_push Q ns n (tail_of Q (Net o 1) (bits_of ns) h) k)

  each_push : (v : Env (Name P)) (ns : List (Name P)) (n : Name P) (m : ℕ) → length ns ≡ m → AreOn v maps chosen ns → (v.net n).value ≡ bit (any_on v maps chosen m (length chosen)) → AreOn v maps chosen (ns ++ n ∷ [])
  each_push v ns n m count h k i d lt = by (cases_lt i m)
    where
      by : (i < m) ⊎ (m ≤ i) → (v.net (get_or (ns ++ n ∷ []) i d)).value ≡ bit (any_on v maps chosen i (length chosen))
      by (inl less) = ap (λ o. (v.net o).value) (get_or_append_left ns (n ∷ []) d i (omega (arith, less, count))) ∙ h i d (omega (arith, less, count))
      by (inr over) =
          let e : i ≡ m = omega (arith, over, lt, count, length_push ns n) in
          ap (λ o. (v.net o).value) (get_or_push ns n d i (count ∙ sym e)) ∙ k ∙ ap (λ j. bit (any_on v maps chosen j (length chosen))) (sym e)

  pub far_more :
      (old mid low new : List (BlockWireTree (Name P))) (ns : List (Name P)) (m : ℕ) (any : Operand (Name P)) (n : Name P) → length ns ≡ m → Far old mid ns → Gives part mid low chosen always (λ v. bit (any_on v maps chosen m (length chosen))) 1 any
      → Gives part low new (any ∷ []) always (λ v. bits_from (number_in v any) 0 1) 1 (Net n 1) → Far old new (ns ++ n ∷ [])
  far_more old mid low new ns m any n count x y z =
      stands_as (bits_of (ns ++ n ∷ []) ++ chosen) (λ v. AreOn v maps chosen (ns ++ n ∷ []))
      (next (next x y (λ ins a. right_of (IsAvailable ins) (bits_of ns) chosen a) (λ v f k. tt)) z (λ ins a. one_of (IsAvailable ins) any (a 0 any (omega arith))) (λ v f k. tt))
      (λ ins a.
      let Q = IsAvailable ins in
      let r = tail_of Q any (bits_of ns ++ chosen) (tail_of Q (Net n 1) (any ∷ bits_of ns ++ chosen) a) in
      All-append Q (bits_of (ns ++ n ∷ [])) chosen (bits_push Q ns n (left_of Q (bits_of ns) chosen r) (a 0 (Net n 1) (omega arith))) (right_of Q (bits_of ns) chosen r))
      (λ v k. each_push v ns n m count k.0.0 (k.1 ∙ ap (λ j. bits_from j 0 1) k.0.1 ∙ bit_bits (any_on v maps chosen m (length chosen))))

  pub far_all : (old new : List (BlockWireTree (Name P))) (ns : List (Name P)) → Far old new ns → Stands part old new chosen always (bits_of ns) (λ v. AreOn v maps chosen ns)
  far_all old new ns x = stands_as (bits_of ns) (λ v. AreOn v maps chosen ns) x (λ ins a. left_of (IsAvailable ins) (bits_of ns) chosen a) (λ v k. k)

-- ---- the nets, as operands
pub bits_operands : {N : Type 0} (ns : List N) → All IsOperand (bits_of ns)
bits_operands ns k d lt =
    let l : k < length ns = omega (arith, lt, length-map ns (λ (n : _). Net n 1)) in
    subst IsOperand (sym (get_or-map (λ (n : _). Net n 1) ns k (some_of ns k l) d l)) (record { some = omega arith; most = omega arith })

pub bits_there : {N : Type 0} (ins : List (Operand N)) (ns : List N) (m : ℕ) (d : N) → m < length ns → All (IsAvailable ins) (bits_of ns) → Contains ins (Net (get_or ns m d) 1)
bits_there ins ns m d lt h = subst (IsAvailable ins) (get_or-map (λ (n : _). Net n 1) ns m d (Net d 1) lt) (h m (Net d 1) (omega (arith, lt, length-map ns (λ (n : _). Net n 1))))
