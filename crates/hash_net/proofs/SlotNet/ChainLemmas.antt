-- Choices inside one another, cut into wires.
use Rattle.std.specs.Prelude.{◌==◌, not, if◌then◌else◌, max}
use Rattle.std.proofs.Common.{◌≡◌, ℕ, suc, ◌+◌, ◌-◌, ◌^◌, ◌<◌, ◌≤◌, Bool, true, false, All, List, [], ◌∷◌, ◌++◌, length, length-append, take, drop, refl, sym, ◌∙◌, ap, subst, arith}
use Rattle.std.proofs.Math.Nat.{mod-eq_of_lt}
use Rattle.std.proofs.lemmas.List.{length-take-le, length-drop}
use Rattle.std.proofs.lemmas.List.Elements.{All-cons, All-head, All-tail}
use Rattle.net_core.specs.Nets.{Tree, TConst}
use Rattle.net_core.specs.Value.{Env, word}
use Rattle.block_core.specs.declared.name.Name.{Name}
use Rattle.block_core.specs.Blocks.{BlockWireTree}
use Rattle.overlay_net.specs.cell_core.Cells.{bit, bits_from}
use Rattle.cell_nets.specs.declared.operand.Operand.{Operand}
use Rattle.cell_nets.specs.declared.operand.Operand.TheVariants.{Known}
use Rattle.cell_nets.specs.Operands.{number_in, IsOperand, IsAvailable}
use Rattle.cell_nets.specs.Parts.{IsPart, IsSlice, Computes}
use Rattle.cell_nets.specs.Wires.{Gives, always}
use Rattle.cell_nets.proofs.PartLaws.{part_small}
use Rattle.cell_nets.proofs.ExpressionPartLaws.{part_same, part_of, part_computes, const_slice, conditional_part}
use Rattle.cell_nets.proofs.GiveLaws.{gives_as, gives_then, known_gives}
use Rattle.hash_net.specs.declared.slot_net.choosing.Numbering.{Numbering}
use Rattle.hash_net.specs.declared.slot_net.choosing.Numbering.TheVariants.{Pointers, Slots}
use Rattle.hash_net.specs.SlotNet.Choosing.{number_at, passes, chosen, first_passed, choice_tree, AreTests}
use Rattle.hash_net.proofs.SlotNet.ChosenLemmas.{from_zero, chosen_behind, chosen_small}
use Rattle.hash_net.proofs.SlotNet.TestLemmas.{tests_before, last_test, tests_take, tests_drop}

-- ---- one choice inside another
-- Of some tests the first are left, and the expression chooses among the others.
pub record IsChoice {N : Type 0} (all left : List (Tree N)) (first bits : ℕ) (numbering : Numbering) (rest : Operand N) (t : Tree N) : Type 0 where
  pub fewer : length left ≤ length all
  pub tests : (args : List (Operand N)) (hit : ℕ → Env N → Bool) → AreTests args hit first all → AreTests args hit first left
  pub part :
      (args ins : List (Operand N)) (hit : ℕ → Env N → Bool) → AreTests args hit first all → All (IsAvailable ins) args → IsAvailable ins rest
      → IsPart ins (9 + (length all - length left)) bits (λ v. first_passed numbering (λ n. hit n v) (bits_from (number_in v rest) 0 bits) (first + length left) (length all - length left)) t

pub no_choice : {N : Type 0} (all : List (Tree N)) (first bits : ℕ) (numbering : Numbering) (rest : Operand N) (t : Tree N) → ((ins : List (Operand N)) → IsAvailable ins rest → IsSlice ins 2 bits (λ v. bits_from (number_in v rest) 0 bits) t) → IsChoice all all first bits numbering rest t
no_choice all first bits numbering rest t slice = record {
  fewer = omega arith;
  tests = λ args hit h. h;
  part = λ args ins hit h there r.
      let z : 0 ≡ length all - length all = omega arith in
      part_same ins _ bits _ _ t (λ v f. ap (λ k. first_passed numbering (λ n. hit n v) (bits_from (number_in v rest) 0 bits) (first + length all) k) z) (part_of ins 2 _ bits _ t t (omega arith) refl (slice ins r).part);
}

pub picked : (b : Bool) (x y : ℕ) → (if bit b == 0 then y else x) ≡ (if b then x else y)
picked true x y = refl
picked false x y = refl

picked_unused : (b : Bool) (x y : ℕ) → (if bit b == 0 then x else y) ≡ (if not b then x else y)
picked_unused true x y = refl
picked_unused false x y = refl

-- the number of a slot where it passes, or else the rest
choice_part :
    {N : Type 0} (ins : List (Operand N)) (d bits : ℕ) (numbering : Numbering) (hit : Env N → Bool) (f g : Env N → ℕ) (x c t : Tree N) → IsPart ins 8 1 (λ v. bit (hit v)) x → IsPart ins d bits f c → IsPart ins d bits g t
    → IsPart ins (suc (max 8 (max d d))) bits (λ v. if passes numbering (hit v) then f v else g v) (choice_tree numbering x c t)
choice_part ins d bits Pointers hit f g x c t h k l = part_same ins _ bits _ _ _ (λ v m. picked (hit v) (f v) (g v)) (conditional_part ins 8 d d bits (λ v. bit (hit v)) f g x c t h k l)
choice_part ins d bits Slots hit f g x c t h k l = part_same ins _ bits _ _ _ (λ v m. picked_unused (hit v) (f v) (g v)) (conditional_part ins 8 d d bits (λ v. bit (hit v)) g f x t c h l k)

pub more_choice :
    {N : Type 0} (all old left : List (Tree N)) (first bits : ℕ) (numbering : Numbering) (rest : Operand N) (x c t u : Tree N) → bits ≤ 64 → ((n : ℕ) → n < first + length all → number_at numbering n < 2 ^ bits) → old ≡ left ++ x ∷ [] → c ≡ TConst (word bits (number_at numbering (first + length left))) → u ≡ choice_tree numbering x c t
    → IsChoice all old first bits numbering rest t → IsChoice all left first bits numbering rest u
more_choice {N} all old left first bits numbering rest x c t u most small popped is e h = whole (subst (λ l. IsChoice all l first bits numbering rest t) popped h)
  where
    whole : IsChoice all (left ++ x ∷ []) first bits numbering rest t → IsChoice all left first bits numbering rest u
    whole h = record {
      fewer = omega (arith, more, h.fewer);
      tests = λ args hit a. tests_before args hit first left x (h.tests args hit a);
      part = λ args ins hit a there r.
          let k = length all - length (left ++ x ∷ []) in
          let next : suc k ≡ length all - length left = omega (arith, more, h.fewer) in
          let at : first + length (left ++ x ∷ []) ≡ suc (first + length left) = omega (arith, more) in
          let none = λ (v : Env N). bits_from (number_in v rest) 0 bits in
          let test = last_test args hit first left x (h.tests args hit a) ins there in
          let value : IsPart ins 1 bits (λ v. number_at numbering (first + length left)) c = subst (IsPart ins 1 bits (λ v. number_at numbering (first + length left))) (sym is) (const_slice ins bits (number_at numbering (first + length left)) most (small (first + length left) (omega (arith, more, h.fewer)))).part in
          part_of ins (suc (max 8 (max (9 + k) (9 + k)))) (9 + (length all - length left)) bits _ (choice_tree numbering x c t) u (omega arith) e
          (part_same ins (suc (max 8 (max (9 + k) (9 + k)))) bits _ _ (choice_tree numbering x c t)
          (λ v f.
          ap (λ m. if passes numbering (hit (first + length left) v) then number_at numbering (first + length left) else first_passed numbering (λ n. hit n v) (none v) m k) at
          ∙ ap (first_passed numbering (λ n. hit n v) (none v) (first + length left)) next)
          (choice_part ins (9 + k) bits numbering (hit (first + length left)) (λ v. number_at numbering (first + length left)) _ x c t test (part_of ins 1 (9 + k) bits _ c c (omega arith) refl value) (h.part args ins hit a there r)));
    }
      where
        more : length (left ++ x ∷ []) ≡ length left + 1
        more = length-append left (x ∷ [])

pub all_chosen :
    {N : Type 0} (all left : List (Tree N)) (first bits : ℕ) (numbering : Numbering) (rest : Operand N) (t : Tree N) (count : ℕ) → length all ≡ count → count ≤ 30 → length left ≡ 0 → IsChoice all left first bits numbering rest t
    → (args ins : List (Operand N)) (hit : ℕ → Env N → Bool) → AreTests args hit first all → All (IsAvailable ins) args → IsAvailable ins rest → IsPart ins 60 bits (λ v. first_passed numbering (λ n. hit n v) (bits_from (number_in v rest) 0 bits) first count) t
all_chosen all left first bits numbering rest t count many few none h args ins hit a there r =
    let z : first + length left ≡ first = omega arith in
    let k : length all - length left ≡ count = omega arith in
    part_same ins 60 bits _ _ t (λ v f. (λ i. first_passed numbering (λ n. hit n v) (bits_from (number_in v rest) 0 bits) (z i) (k i))) (part_of ins _ 60 bits _ t t (omega arith) refl (h.part args ins hit a there r))

-- ---- cut into wires
-- Of some tests the first are left, and after the wires stands an operand for the choice among the others.
pub record IsChain {P : Type 0} (p : P) (old new : List (BlockWireTree (Name P))) (all left : List (Tree (Name P))) (bits : ℕ) (numbering : Numbering) (none : ℕ) (rest : Operand (Name P)) : Type 0 where
  pub fewer : length left ≤ length all
  pub operand : IsOperand rest
  pub tests : (args : List (Operand (Name P))) (hit : ℕ → Env (Name P) → Bool) → AreTests args hit 0 all → AreTests args hit 0 left
  pub gives : (args : List (Operand (Name P))) (hit : ℕ → Env (Name P) → Bool) → AreTests args hit 0 all → Gives p old new args always (λ v. first_passed numbering (λ n. hit n v) none (length left) (length all - length left)) bits rest

pub no_chain : {P : Type 0} (p : P) (ws : List (BlockWireTree (Name P))) (all : List (Tree (Name P))) (bits : ℕ) (numbering : Numbering) (none : ℕ) → none < 2 ^ bits → bits ≤ 64 → none < 2 ^ 64 → IsChain p ws ws all all bits numbering none (Known none)
no_chain p ws all bits numbering none small most word = record {
  fewer = omega arith;
  operand = word;
  tests = λ args hit a. a;
  gives = λ args hit a. let z : 0 ≡ length all - length all = omega arith in known_gives p ws args always (λ v. first_passed numbering (λ n. hit n v) none (length all) (length all - length all)) bits none small most (λ v f n. ap (λ k. first_passed numbering (λ n. hit n v) none (length all) k) z);
}

pub more_chain :
    {P : Type 0} (p : P) (old mid new : List (BlockWireTree (Name P))) (all left : List (Tree (Name P))) (first bits : ℕ) (numbering : Numbering) (none : ℕ) (rest out : Operand (Name P)) (t : Tree (Name P)) → first ≤ length left → bits ≤ 64 → none < 2 ^ bits
    → ((n : ℕ) → n < length all → number_at numbering n < 2 ^ bits)
    → ((args ins : List (Operand (Name P))) (hit : ℕ → Env (Name P) → Bool) → AreTests args hit first (drop first left) → All (IsAvailable ins) args → IsAvailable ins rest → IsPart ins 60 bits (λ v. first_passed numbering (λ n. hit n v) (bits_from (number_in v rest) 0 bits) first (length (drop first left))) t)
    → IsOperand out
    → ((args : List (Operand (Name P))) (f : Env (Name P) → ℕ) → ((v : Env (Name P)) → f v < 2 ^ bits) → ((ins : List (Operand (Name P))) → All (IsAvailable ins) args → Computes ins bits f t) → Gives p mid new args always f bits out)
    → IsChain p old mid all left bits numbering none rest → IsChain p old new all (take first left) bits numbering none out
more_chain {P} p old mid new all left first bits numbering none rest out t inside most less small choice operand wire h = record {
  fewer = omega (arith, shorter, h.fewer);
  operand = operand;
  tests = λ args hit a. tests_take args hit first left inside (h.tests args hit a);
  gives = λ args hit a.
      let parts = λ (ins : List (Operand (Name P))) (there : All (IsAvailable ins) (rest ∷ args)). choice args ins hit (tests_drop args hit first left (h.tests args hit a)) (All-tail (IsAvailable ins) rest args there) (All-head (IsAvailable ins) rest args there) in
      let f = λ (v : Env (Name P)). first_passed numbering (λ n. hit n v) (bits_from (number_in v rest) 0 bits) first (length (drop first left)) in
      gives_then p old mid new args (rest ∷ args) always (λ v. first_passed numbering (λ n. hit n v) none (length left) (length all - length left)) f (λ v. first_passed numbering (λ n. hit n v) none (length (take first left)) (length all - length (take first left))) bits bits rest out
      (h.gives args hit a)
      (wire (rest ∷ args) f (λ v. chosen_small (number_at numbering) (λ n. passes numbering (hit n v)) (bits_from (number_in v rest) 0 bits) (2 ^ bits) first (length (drop first left)) (part_small (number_in v rest) 0 bits) (λ k l. small k (omega (arith, dropped, h.fewer))))
      (λ ins there. part_computes ins 60 bits f t (omega arith) (parts ins there)))
      (λ ins there r. All-cons (IsAvailable ins) rest args r there)
      (λ v fit e. whole (λ n. passes numbering (hit n v)) (number_in v rest) e);
}
  where
    shorter : length (take first left) ≡ first
    shorter = length-take-le first left inside

    dropped : length (drop first left) ≡ length left - first
    dropped = length-drop first left

    whole : (hit : ℕ → Bool) (x : ℕ) → x ≡ chosen (number_at numbering) hit none (length left) (length all - length left)
        → chosen (number_at numbering) hit (bits_from x 0 bits) first (length (drop first left)) ≡ chosen (number_at numbering) hit none (length (take first left)) (length all - length (take first left))
    whole hit x e =
        let less_than : chosen (number_at numbering) hit none (length left) (length all - length left) < 2 ^ bits = chosen_small (number_at numbering) hit none (2 ^ bits) (length left) (length all - length left) less (λ k l. small k (omega (arith, h.fewer))) in
        let low : bits_from x 0 bits ≡ x = from_zero x bits ∙ mod-eq_of_lt {n = x} {m = 2 ^ bits} (omega (arith, e, less_than)) in
        let at : first ≡ length (take first left) = sym shorter in
        ap (λ k. chosen (number_at numbering) hit k first (length (drop first left))) (low ∙ e)
        ∙ chosen_behind (number_at numbering) hit none first (length (drop first left)) (length all - length left) (length left) (length all - length (take first left)) (omega (arith, dropped, inside)) (omega (arith, dropped, shorter, h.fewer, inside))
        ∙ ap (λ k. chosen (number_at numbering) hit none k (length all - length (take first left))) at

-- what is chosen among the last tests, in other words
pub last_choice :
    {N : Type 0} (left last : List (Tree N)) (first count bits : ℕ) (numbering : Numbering) (rest : Operand N) (t : Tree N) → last ≡ drop first left → length last ≡ count
    → ((args ins : List (Operand N)) (hit : ℕ → Env N → Bool) → AreTests args hit first last → All (IsAvailable ins) args → IsAvailable ins rest → IsPart ins 60 bits (λ v. first_passed numbering (λ n. hit n v) (bits_from (number_in v rest) 0 bits) first count) t)
    → (args ins : List (Operand N)) (hit : ℕ → Env N → Bool) → AreTests args hit first (drop first left) → All (IsAvailable ins) args → IsAvailable ins rest → IsPart ins 60 bits (λ v. first_passed numbering (λ n. hit n v) (bits_from (number_in v rest) 0 bits) first (length (drop first left))) t
last_choice left last first count bits numbering rest t e many h args ins hit a there r =
    let m : count ≡ length (drop first left) = sym many ∙ ap length e in
    subst (λ k. IsPart ins 60 bits (λ v. first_passed numbering (λ n. hit n v) (bits_from (number_in v rest) 0 bits) first k) t) m (h args ins hit (subst (AreTests args hit first) (sym e) a) there r)

pub all_chain :
    {P : Type 0} (p : P) (old new : List (BlockWireTree (Name P))) (all left : List (Tree (Name P))) (bits : ℕ) (numbering : Numbering) (none : ℕ) (rest : Operand (Name P)) (count : ℕ) → length all ≡ count → length left ≡ 0 → IsChain p old new all left bits numbering none rest
    → (args : List (Operand (Name P))) (hit : ℕ → Env (Name P) → Bool) → AreTests args hit 0 all → Gives p old new args always (λ v. first_passed numbering (λ n. hit n v) none 0 count) bits rest
all_chain p old new all left bits numbering none rest count many empty h args hit a =
    let m : length all - length left ≡ count = omega arith in
    subst (λ k. Gives p old new args always (λ v. first_passed numbering (λ n. hit n v) none 0 k) bits rest) m (subst (λ k. Gives p old new args always (λ v. first_passed numbering (λ n. hit n v) none k (length all - length left)) bits rest) empty (h.gives args hit a))

-- ---- with the condition under which the tests mean something
pub first_gives :
    {P : Type 0} (p : P) (old new : List (BlockWireTree (Name P))) (args : List (Operand (Name P))) (needs : Env (Name P) → Type 0) (f g : Env (Name P) → ℕ) (bits : ℕ) (out : Operand (Name P)) → Gives p old new args always f bits out
    → ((v : Env (Name P)) → needs v → f v ≡ g v) → Gives p old new args needs g bits out
first_gives p old new args needs f g bits out x same = gives_as p old new args args always needs f g bits out x (λ ins h. h) (λ v fit n. (tt, same v n))
