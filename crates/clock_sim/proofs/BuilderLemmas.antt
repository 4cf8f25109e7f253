-- Steps are added: what earlier steps gave stays.
use Rattle.std.specs.Prelude.{slice_set}
use Rattle.std.proofs.Common.{◌≡◌, ℕ, suc, ◌+◌, ◌<◌, ◌≤◌, Option, Some, None, List, [], ◌∷◌, ◌++◌, length, get_or, refl, sym, ap, ◌∙◌, subst, arith, ⊎_elim, append_assoc}
use Rattle.std.proofs.lemmas.Bool.{cases_lt}
use Rattle.std.proofs.lemmas.List.{length-set, length_push, get_or-set_same, get_or-set_other, get_or_append_left, get_or_past, get_or_at, append-nil}
use Rattle.net_core.specs.declared.tree.Word.{Word}
use Rattle.net_core.specs.declared.design.Declared.{Declared}
use Rattle.clock_sim.specs.declared.step.Step.{Step}
use Rattle.clock_sim.specs.declared.step.Opcode.{Opcode}
use Rattle.clock_sim.specs.declared.step.Opcode.TheVariants.{Conditional}
use Rattle.clock_sim.specs.declared.builder.Operand.{Operand}
use Rattle.clock_sim.specs.declared.operands.Operands.{Operands}
use Rattle.clock_sim.specs.Steps.{given, run}
use Rattle.clock_sim.specs.Flat.{Flat, Situation, contents_of, Starts, Numbers, Gives, IsThere, IsReading, AreReading, AreFree, IsBehind, Climb, IsConsistent, WriteFrom, Extends, Adds, Works, Holds, operand_in, AreOperands, env_at, Knows}

-- ---- running
pub run_append : (contents : List (List ℕ)) (xs ys : List Step) (slots : List ℕ) → run contents (xs ++ ys) slots ≡ run contents ys (run contents xs slots)
run_append contents [] ys slots = refl
run_append contents (s ∷ xs) ys slots = run_append contents xs ys (slice_set slots s.to (given contents slots s))

pub run_length : (contents : List (List ℕ)) (xs : List Step) (slots : List ℕ) → length (run contents xs slots) ≡ length slots
run_length contents [] slots = refl
run_length contents (s ∷ xs) slots = run_length contents xs (slice_set slots s.to (given contents slots s)) ∙ length-set slots s.to (given contents slots s)

pub run_below : (contents : List (List ℕ)) (n : ℕ) (xs : List Step) → WriteFrom n xs → (slots : List ℕ) (k : ℕ) → k < n → get_or (run contents xs slots) k 0 ≡ get_or slots k 0
run_below contents n [] w slots k lt = refl
run_below contents n (s ∷ xs) w slots k lt =
    let le : n ≤ s.to = w.0 in
    run_below contents n xs w.1 (slice_set slots s.to (given contents slots s)) k lt
    ∙ get_or-set_other slots s.to k (given contents slots s) 0 (λ e. absurd (omega arith))

none_some : (n : ℕ) (o : Option ℕ) → o ≡ None → o ≡ Some n → ⊥
none_some n o e f = cc

pub run_kept : (contents : List (List ℕ)) (all : List (Option ℕ)) (xs : List Step) → AreFree all xs → (slots : List ℕ) → ((k n : ℕ) → get_or all k None ≡ Some n → get_or slots k 0 ≡ n) → (k n : ℕ) → get_or all k None ≡ Some n → get_or (run contents xs slots) k 0 ≡ n
run_kept contents all [] f slots h k n is = h k n is
run_kept contents all (s ∷ xs) f slots h k n is =
    run_kept contents all xs f.1 (slice_set slots s.to (given contents slots s)) (λ j m e. get_or-set_other slots s.to j (given contents slots s) 0 (other j m e) ∙ h j m e) k n is
  where
    other : (j m : ℕ) → get_or all j None ≡ Some m → j ≡ s.to → ⊥
    other j m e same = none_some m (get_or all s.to None) f.0 (subst (λ i. get_or all i None ≡ Some m) same e)

-- ---- more steps
there_more : (w : Opcode) (number n m : ℕ) → n ≤ m → IsThere w number n → IsThere w number m
there_more Conditional number n m le h = let lt : number < n = h.0 in (omega arith, h.1)
there_more _ number n m le h = tt

pub reading_one : (n m : ℕ) → n ≤ m → (s : Step) → IsReading n s → IsReading m s
reading_one n m le s h =
    let l = h.left in let r = h.right in let t = h.to in
    record { left = omega arith; right = omega arith; third = there_more s.opcode s.number n m le h.third; to = omega arith }

pub reading_more : (n m : ℕ) → n ≤ m → (xs : List Step) → AreReading n xs → AreReading m xs
reading_more n m le [] h = tt
reading_more n m le (s ∷ xs) h = (reading_one n m le s h.0, reading_more n m le xs h.1)

reading_append : (n : ℕ) (xs ys : List Step) → AreReading n xs → AreReading n ys → AreReading n (xs ++ ys)
reading_append n [] ys h g = g
reading_append n (s ∷ xs) ys h g = (h.0, reading_append n xs ys h.1 g)

pub free_more : (all fresh : List (Option ℕ)) (xs : List Step) → AreReading (length all) xs → AreFree all xs → AreFree (all ++ fresh) xs
free_more all fresh [] r f = tt
free_more all fresh (s ∷ xs) r f = (get_or_append_left all fresh None s.to r.0.to ∙ f.0, free_more all fresh xs r.1 f.1)

free_append : (all : List (Option ℕ)) (xs ys : List Step) → AreFree all xs → AreFree all ys → AreFree all (xs ++ ys)
free_append all [] ys h g = g
free_append all (s ∷ xs) ys h g = (h.0, free_append all xs ys h.1 g)

climb_push : (n m : ℕ) (xs : List Step) (s : Step) → Climb n xs → AreReading m xs → IsBehind m s → n ≤ m → Climb n (xs ++ s ∷ [])
climb_push n m [] s c r b le = let from : m ≤ s.to = b.from in (record { from = omega arith; left = b.left; right = b.right; third = b.third }, tt)
climb_push n m (x ∷ xs) s c r b le = let lt : x.to < m = r.0.to in (c.0, climb_push (suc x.to) m xs s c.1 r.1 b (omega arith))

from_less : (n m : ℕ) → n ≤ m → (xs : List Step) → WriteFrom m xs → WriteFrom n xs
from_less n m le [] h = tt
from_less n m le (s ∷ xs) h = let h0 : m ≤ s.to = h.0 in (omega arith, from_less n m le xs h.1)

from_append : (n : ℕ) (xs ys : List Step) → WriteFrom n xs → WriteFrom n ys → WriteFrom n (xs ++ ys)
from_append n [] ys h g = g
from_append n (s ∷ xs) ys h g = (h.0, from_append n xs ys h.1 g)

pub extends_none : (c : Flat) → Extends c c
extends_none c = record { more = []; fresh = []; steps = sym (append-nil c.steps); slots = sym (append-nil c.slots); own = tt; grows = omega arith }

pub extends_more : (a b c : Flat) → Extends a b → Extends b c → Extends a c
extends_more a b c e f =
    let g = e.grows in let h = f.grows in
    record {
      more = e.more ++ f.more;
      fresh = e.fresh ++ f.fresh;
      steps = f.steps ∙ ap (λ l. l ++ f.more) e.steps ∙ append_assoc a.steps e.more f.more;
      slots = f.slots ∙ ap (λ l. l ++ f.fresh) e.slots ∙ append_assoc a.slots e.fresh f.fresh;
      own = from_append (length a.slots) e.more f.more e.own (from_less (length a.slots) (length b.slots) g f.more f.own);
      grows = omega arith;
    }

pub adds_more : (a b c : Flat) (slot : ℕ) → Extends a b → Adds b c slot → Adds a c slot
adds_more a b c slot e f = record { extends = extends_more a b c e f.extends; there = f.there }

-- ---- what was given stays
constant_there : (all : List (Option ℕ)) (k n : ℕ) → get_or all k None ≡ Some n → k < length all
constant_there all k n e = ⊎_elim (λ lt. lt) (λ le. absurd (none_some n (get_or all k None) (get_or_past all k None le) e)) (cases_lt k (length all))

pub starts_before : (old new : Flat) (x : Situation) (slots : List ℕ) → Extends old new → Starts new x slots → Starts old x slots
starts_before old new x slots e s =
    let le = e.grows in let r = s.room in
    record {
      ports = s.ports;
      registers = s.registers;
      kept = λ k n h. s.kept k n (ap (λ l. get_or l k None) e.slots ∙ get_or_append_left old.slots e.fresh None k (constant_there old.slots k n h) ∙ h);
      room = omega arith;
    }

pub numbers_later : (ds : List Declared) (old new : Flat) (slot : ℕ) (f : Situation → ℕ) → Extends old new → Numbers ds old slot f → Numbers ds new slot f
numbers_later ds old new slot f e g =
    let le = e.grows in let t = g.there in
    record {
      there = omega arith;
      at = λ x slots fine s.
          ap (λ l. get_or (run (contents_of x.stored) l slots) slot 0) e.steps
          ∙ ap (λ l. get_or l slot 0) (run_append (contents_of x.stored) old.steps e.more slots)
          ∙ run_below (contents_of x.stored) (length old.slots) e.more e.own (run (contents_of x.stored) old.steps slots) slot t
          ∙ g.at x slots fine (starts_before old new x slots e s);
    }

pub gives_later : (ds : List Declared) (old new : Flat) (p : Operand) (f : Situation → Word) → Extends old new → Gives ds old p f → Gives ds new p f
gives_later ds old new p f e g = record { number = numbers_later ds old new p.slot (λ x. (f x).value) e g.number; fits = g.fits }

pub operands_later : (n : Operands) (old new : Flat) → Extends old new → AreOperands n (length old.slots) → AreOperands n (length new.slots)
operands_later n old new e h = let le = e.grows in record { there = λ k some. let lt = h.there k some in omega arith }

pub knows_later : (ds : List Declared) (old new : Flat) (n : Operands) (wires : Situation → List Word) → Extends old new → Knows ds old n wires → Knows ds new n wires
knows_later ds old new n wires e h = record { net = λ k some. gives_later ds old new (operand_in n k) (λ x. (env_at wires x).net k) e (h.net k some); cells = h.cells }

-- ---- one more slot
pub slot_builder : (old new : Flat) (word : Option ℕ) → new.slots ≡ old.slots ++ word ∷ [] → new.steps ≡ old.steps → IsConsistent old → IsConsistent new
slot_builder old new word slots steps builder =
    let n = ap length slots ∙ length_push old.slots word in
    let le : length old.slots ≤ length new.slots = omega arith in
    record {
      climb = subst (λ l. Climb 0 l) (sym steps) builder.climb;
      reading = subst (λ l. AreReading (length new.slots) l) (sym steps) (reading_more (length old.slots) (length new.slots) le old.steps builder.reading);
      free = subst (λ l. AreFree new.slots l) (sym steps) (subst (λ l. AreFree l old.steps) (sym slots) (free_more old.slots (word ∷ []) old.steps builder.reading builder.free));
    }

-- ---- one more step
module _ (old new : Flat) (s : Step) (slots : new.slots ≡ old.slots ++ None ∷ []) (steps : new.steps ≡ old.steps ++ s ∷ []) (to : s.to ≡ length old.slots) where
  step_count : length new.slots ≡ length old.slots + 1
  step_count = ap length slots ∙ length_push old.slots None

  step_there : s.to < length new.slots
  step_there = let c = step_count in omega arith

  step_extends : Extends old new
  step_extends = let n = step_count in record { more = s ∷ []; fresh = None ∷ []; steps = steps; slots = slots; own = (omega arith, tt); grows = omega arith }

  behind : s.a < length old.slots → s.b < length old.slots → IsThere s.opcode s.number (length old.slots) → IsBehind (length old.slots) s
  behind a b third = record { from = omega arith; left = omega arith; right = omega arith; third = subst (λ k. IsThere s.opcode s.number k) (sym to) third }

  pub step_builder : IsConsistent old → s.a < length old.slots → s.b < length old.slots → IsThere s.opcode s.number (length old.slots) → IsConsistent new
  step_builder builder a b third =
      let n = step_count in
      let le : length old.slots ≤ length new.slots = omega arith in
      record {
        climb = subst (λ l. Climb 0 l) (sym steps) (climb_push 0 (length old.slots) old.steps s builder.climb builder.reading (behind a b third) (omega arith));
        reading = subst (λ l. AreReading (length new.slots) l) (sym steps)
            (reading_append (length new.slots) old.steps (s ∷ []) (reading_more (length old.slots) (length new.slots) le old.steps builder.reading)
            (record { left = omega arith; right = omega arith; third = there_more s.opcode s.number (length old.slots) (length new.slots) le third; to = step_there }, tt));
        free = subst (λ l. AreFree new.slots l) (sym steps)
            (subst (λ l. AreFree l (old.steps ++ s ∷ [])) (sym slots)
            (free_append (old.slots ++ None ∷ []) old.steps (s ∷ []) (free_more old.slots (None ∷ []) old.steps builder.reading builder.free)
            (get_or_at old.slots None [] None s.to (sym to), tt)));
      }

  pub step_works : Works s.opcode s.a s.b s.shift s.number old new s.to
  step_works = record {
    gives = λ ds f h. record {
      there = step_there;
      at = λ x first fine starts.
          let contents = contents_of x.stored in
          let n = step_there in let r = starts.room in
          let l = run_length contents old.steps first in
          let inside : s.to < length (run contents old.steps first) = omega arith in
          ap (λ all. get_or (run contents all first) s.to 0) steps
          ∙ ap (λ all. get_or all s.to 0) (run_append contents old.steps (s ∷ []) first)
          ∙ get_or-set_same (run contents old.steps first) s.to (given contents (run contents old.steps first) s) 0 inside
          ∙ h x first fine (starts_before old new x first step_extends starts);
    };
  }

-- ---- one more constant
module _ (old new : Flat) (slot n : ℕ) (slots : new.slots ≡ old.slots ++ Some n ∷ []) (steps : new.steps ≡ old.steps) (at : slot ≡ length old.slots) where
  constant_count : length new.slots ≡ length old.slots + 1
  constant_count = ap length slots ∙ length_push old.slots (Some n)

  pub constant_adds : Adds old new slot
  constant_adds = let c = constant_count in record { extends = record { more = []; fresh = Some n ∷ []; steps = steps ∙ sym (append-nil old.steps); slots = slots; own = tt; grows = omega arith }; there = omega arith }

  pub constant_holds : AreFree new.slots new.steps → Holds new slot n
  constant_holds free = record {
    gives = λ ds. record {
      there = let c = constant_count in omega arith;
      at = λ x first fine starts. run_kept (contents_of x.stored) new.slots new.steps free first starts.kept slot n (ap (λ l. get_or l slot None) slots ∙ get_or_at old.slots (Some n) [] None slot (sym at));
    };
  }
