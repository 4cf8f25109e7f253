-- The slots that updates took, one update after another.
use Rattle.std.specs.Prelude.{if◌then◌else◌, cond}
use Rattle.std.proofs.Common.{◌≡◌, ℕ, zero, suc, ◌+◌, ◌^◌, ◌<◌, ◌≤◌, Bool, true, false, Option, All, List, [], ◌∷◌, ◌++◌, length, length-append, take, get_or, refl, sym, ◌∙◌, ap, subst, arith, append-nil, map as map_list}
use Rattle.std.proofs.lemmas.List.{map_push}
use Rattle.std.proofs.lemmas.List.Elements.{All-nil, All-append, All-push, filter_more}
use Rattle.net_core.specs.Value.{Env}
use Rattle.block_core.specs.declared.name.Name.{Name}
use Rattle.block_core.specs.declared.name.Name.TheVariants as name
use Rattle.block_core.specs.Blocks.{BlockWireTree}
use Rattle.hazard_core.specs.cell_core.Cells.{bit, on, bits_from}
use Rattle.hazard_core.proofs.cell_core_laws.BitLaws.{small_bits}
use Rattle.cell_nets.specs.declared.operand.Operand.{Operand}
use Rattle.cell_nets.specs.declared.operand.Operand.TheVariants.{Net}
use Rattle.cell_nets.specs.Operands.{number_in, IsOperand, IsAvailable, IsFit, IsNarrow}
use Rattle.cell_nets.specs.Wires.{HasBits, always, Gives}
use Rattle.cell_nets.proofs.StepNets.ChainLaws.{starts, next}
use Rattle.cell_nets.proofs.StepNets.StepLaws.{on_bit, narrow_small, choice_small}
use Rattle.turn_net.specs.declared.nets.RecordNets.{RecordNets}
use Rattle.turn_net.specs.Actions.{is_at}
use Rattle.turn_net.specs.Nets.{keeps, kept, all_read, slot_operands}
use Rattle.turn_net.specs.Steps.{Leads, ShowsChosen, slot_at, slots_after}
use Rattle.turn_net.proofs.StandLemmas.{left_of, right_of, leads_as}
use Rattle.turn_net.proofs.ChooseLemmas.{read_at}

-- ---- which register an update has
pub slots_count : {P : Type 0} (part : P) (bits at n : ℕ) → length (slot_operands part bits at n) ≡ n
slots_count part bits at zero = refl
slots_count part bits at (suc n) = ap suc (slots_count part bits (suc at) n)

pub slot_there : {P : Type 0} (part : P) (bits at n k m : ℕ) (d : Operand (Name P)) → k < n → m ≡ at + k → get_or (slot_operands part bits at n) k d ≡ Net (name.Register part m) bits
slot_there part bits at zero k m d l e = absurd (omega arith)
slot_there part bits at (suc n) zero m d l e = let f : at ≡ m = omega arith in ap (λ i. Net (name.Register part i) bits) f
slot_there part bits at (suc n) (suc k) m d l e = slot_there part bits (suc at) n k m d (omega arith) (omega arith)

-- they are no more than all
pub kept_most : {N : Type 0} (rs : List (RecordNets N)) → length (kept rs) ≤ length rs
kept_most [] = omega arith
kept_most (x ∷ rs) = by (keeps x) (kept_most rs)
  where
    by : (b : Bool) → length (kept rs) ≤ length rs → length (cond b (x ∷ kept rs) (kept rs)) ≤ length (x ∷ rs)
    by true m = omega arith
    by false m = omega arith

-- there are registers for those that come
pub kept_below : {N : Type 0} (rs : List (RecordNets N)) (n : ℕ) (r : RecordNets N) → n < length rs → r ≡ get_or rs n r → keeps r ≡ true → length (kept (take n rs)) < length (kept rs)
kept_below [] n r l is k = absurd (omega arith)
kept_below (x ∷ rs) zero r l is k = rw (ap keeps (sym is) ∙ k) (omega arith)
kept_below (x ∷ rs) (suc n) r l is k = by (keeps x) (kept_below rs n r (omega arith) is k)
  where
    by : (b : Bool) → length (kept (take n rs)) < length (kept rs) → length (cond b (x ∷ kept (take n rs)) (kept (take n rs))) < length (cond b (x ∷ kept rs) (kept rs))
    by true m = omega arith
    by false m = m

-- one record more
slots_more : {P : Type 0} (v : Env (Name P)) (part : P) (site : Option ℕ) (at : ℕ) (rs : List (RecordNets (Name P))) (r : RecordNets (Name P)) (n : ℕ) → n ≡ at + length rs → slots_after v part site at (rs ++ r ∷ []) ≡ slots_after v part site at rs ++ slot_at v part site n r ∷ []
slots_more v part site at [] r n e = let f : at ≡ n = omega arith in ap (λ i. slot_at v part site i r ∷ []) f
slots_more v part site at (x ∷ rs) r n e = ap (λ l. slot_at v part site at x ∷ l) (slots_more v part site (suc at) rs r n (omega arith))

kept_more : {N : Type 0} (rs : List (RecordNets N)) (n m : ℕ) (r : RecordNets N) → n < length rs → m ≡ n + 1 → r ≡ get_or rs n r → kept (take m rs) ≡ kept (take n rs) ++ (if keeps r then r ∷ [] else [])
kept_more rs n m r l e is = ap (λ i. kept (take i rs)) e ∙ filter_more keeps rs n r l ∙ ap (λ y. kept (take n rs) ++ (if keeps y then y ∷ [] else [])) (sym is)

module _ {P : Type 0} (part : P) (bits : ℕ) (rs : List (RecordNets (Name P))) (chosen : List (Operand (Name P))) where
  abbrev registers : List (Operand (Name P))
  registers = slot_operands part bits 1 (length (kept rs))

  abbrev args : List (Operand (Name P))
  args = chosen ++ (all_read rs ++ registers)

  abbrev Known : ℕ → List (Operand (Name P)) → Env (Name P) → Type 0
  Known n all v = (site : Option ℕ) → ShowsChosen v site rs chosen → map_list (number_in v) all ≡ slots_after v part site 1 (kept (take n rs))

  -- so many of the records are done with
  pub record IsKeeping (old new : List (BlockWireTree (Name P))) (n : ℕ) (all : List (Operand (Name P))) : Type 0 where
    pub count : length all ≡ length (kept (take n rs))
    pub operands : All IsOperand all
    pub all_bits : All (HasBits bits) all
    pub leads : Leads part old new args (all ++ args) (Known n all)

  -- before the first
  pub no_slots : (ws : List (BlockWireTree (Name P))) (all : List (Operand (Name P))) → all ≡ [] → IsKeeping ws ws 0 all
  no_slots ws all none = subst (IsKeeping ws ws 0) (sym none) (record {
    count = refl;
    operands = All-nil IsOperand;
    all_bits = All-nil (HasBits bits);
    leads = leads_as (starts part ws args always) args (Known 0 []) (λ ins h. h) (λ v f k. λ site sh. refl);
  })

  module _ (n m : ℕ) (r : RecordNets (Name P)) (l : n < length rs) (m_is : m ≡ n + 1) (is : r ≡ get_or rs n r) where
    -- an operation that keeps none
    pub same_slots : (old mid : List (BlockWireTree (Name P))) (all : List (Operand (Name P))) → keeps r ≡ false → IsKeeping old mid n all → IsKeeping old mid m all
    same_slots old mid all none x = record {
      count = x.count ∙ ap (λ (l : List (RecordNets (Name P))). length l) same;
      operands = x.operands;
      all_bits = x.all_bits;
      leads = leads_as x.leads (all ++ args) (Known m all) (λ ins h. h) (λ v f k. λ site sh. k site sh ∙ ap (slots_after v part site 1) same);
    }
      where
        same : kept (take n rs) ≡ kept (take m rs)
        same = sym (kept_more rs n m r l m_is is ∙ ap (λ b. kept (take n rs) ++ (if b then r ∷ [] else [])) none ∙ append-nil (kept (take n rs)))

    -- one that does
    pub more_slots :
        (old mid new : List (BlockWireTree (Name P))) (all pushed : List (Operand (Name P))) (hit out : Operand (Name P)) (k : ℕ) → length chosen ≡ length rs → hit ≡ get_or chosen n hit → keeps r ≡ true → IsNarrow bits r.target → k ≡ 1 + length all → pushed ≡ all ++ out ∷ []
        → IsKeeping old mid n all → Gives part mid new (hit ∷ r.target ∷ Net (name.Register part k) bits ∷ []) always (λ v. bits_from (if on (number_in v hit) then number_in v r.target else (v.net (name.Register part k)).value) 0 bits) bits out → IsKeeping old new m pushed
    more_slots old mid new all pushed hit out k count hit_is does narrow k_is pushed_is x y = record {
      count = omega (arith, ap (λ (l : List (Operand (Name P))). length l) pushed_is, length-append all (out ∷ []), x.count, ap (λ (l : List (RecordNets (Name P))). length l) one, length-append (kept (take n rs)) (r ∷ []));
      operands = subst (All IsOperand) (sym pushed_is) (All-push IsOperand all out x.operands y.operand);
      all_bits = subst (All (HasBits bits)) (sym pushed_is) (All-push (HasBits bits) all out x.all_bits y.bits);
      leads =
          leads_as (next x.leads y takes (λ v f h. tt)) (pushed ++ args) (Known m pushed) after
          (λ v f h. λ site sh.
          ap (map_list (number_in v)) pushed_is
          ∙ map_push (number_in v) all out
          ∙ (λ i. h.0 site sh i ++ (h.1 ∙ value v (λ i d lt. f (suc i) d (omega arith)) site sh) i ∷ [])
          ∙ sym (slots_more v part site 1 (kept (take n rs)) r k (omega (arith, x.count)))
          ∙ ap (slots_after v part site 1) (sym one));
    }
      where
        one : kept (take m rs) ≡ kept (take n rs) ++ r ∷ []
        one = kept_more rs n m r l m_is is ∙ ap (λ b. kept (take n rs) ++ (if b then r ∷ [] else [])) does

        parts : (Q : Operand (Name P) → Type 0) → All Q (all ++ args) → All Q (hit ∷ r.target ∷ Net (name.Register part k) bits ∷ [])
        parts Q h =
            let a : All Q args = right_of Q all args h in
            let b : All Q (all_read rs ++ registers) = right_of Q chosen (all_read rs ++ registers) a in
            let reg : All Q registers = right_of Q (all_read rs) registers b in
            let below = kept_below rs n r l is does in
            let place : get_or registers (length all) hit ≡ Net (name.Register part k) bits = slot_there part bits 1 (length (kept rs)) (length all) k hit (omega (arith, x.count)) k_is in
            pick (subst Q (sym hit_is) (left_of Q chosen (all_read rs ++ registers) a n hit (omega arith))) (read_at Q rs n r l is (left_of Q (all_read rs) registers b) 0 r.target (omega arith))
            (subst Q place (reg (length all) hit (omega (arith, x.count, slots_count part bits 1 (length (kept rs))))))
          where
            pick : Q hit → Q r.target → Q (Net (name.Register part k) bits) → All Q (hit ∷ r.target ∷ Net (name.Register part k) bits ∷ [])
            pick a b c zero d lt = a
            pick a b c (suc zero) d lt = b
            pick a b c (suc (suc zero)) d lt = c
            pick a b c (suc (suc (suc i))) d lt = absurd (omega arith)

        takes : (ins : List (Operand (Name P))) → All (IsAvailable ins) (all ++ args) → All (IsAvailable ins) (hit ∷ r.target ∷ Net (name.Register part k) bits ∷ [])
        takes ins h = parts (IsAvailable ins) h

        after : (ins : List (Operand (Name P))) → All (IsAvailable ins) (out ∷ all ++ args) → All (IsAvailable ins) (pushed ++ args)
        after ins h =
            let Q = IsAvailable ins in
            let rest : All Q (all ++ args) = λ i d lt. h (suc i) d (omega arith) in
            All-append Q pushed args (subst (All Q) (sym pushed_is) (All-push Q all out (left_of Q all args rest) (h 0 out (omega arith)))) (right_of Q all args rest)

        value : (v : Env (Name P)) → All (IsFit v) (all ++ args) → (site : Option ℕ) → ShowsChosen v site rs chosen → bits_from (if on (number_in v hit) then number_in v r.target else (v.net (name.Register part k)).value) 0 bits ≡ slot_at v part site k r
        value v f site sh =
            let fits = parts (IsFit v) f in
            let here : number_in v hit ≡ bit (is_at site r.number) = ap (number_in v) hit_is ∙ sh n hit r l ∙ ap (λ (y : RecordNets (Name P)). bit (is_at site y.number)) (sym is) in
            let chooses : on (number_in v hit) ≡ is_at site r.number = ap on here ∙ on_bit (is_at site r.number) in
            ap (λ b. bits_from (if b then number_in v r.target else (v.net (name.Register part k)).value) 0 bits) chooses
            ∙ small_bits (slot_at v part site k r) bits
            (choice_small (is_at site r.number) (number_in v r.target) ((v.net (name.Register part k)).value) (2 ^ bits) (narrow_small v bits r.target narrow (fits 1 r.target (omega arith)))
            (narrow_small v bits (Net (name.Register part k) bits) (omega arith) (fits 2 (Net (name.Register part k) bits) (omega arith))))
