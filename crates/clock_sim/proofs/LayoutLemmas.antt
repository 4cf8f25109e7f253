-- What stands where, one item after another.
use Rattle.std.specs.Prelude.{nat_le, replicate, ◌^◌}
use Rattle.std.proofs.Common.{◌≡◌, ℕ, zero, suc, ◌+◌, true, ◌&&◌, List, [], ◌∷◌, ◌++◌, length, map, drop, get_or, refl, sym, ap, ◌∙◌, subst, arith, append_assoc}
use Rattle.std.proofs.lemmas.Bool.{and_parts, and_from}
use Rattle.std.proofs.lemmas.List.{append-nil, length_push, map_push}
use Rattle.net_core.specs.declared.ports.TheConstants.{PORT_COUNT}
use Rattle.net_core.specs.declared.tree.Word.{Word}
use Rattle.net_core.specs.declared.design.Port.{Port}
use Rattle.net_core.specs.declared.design.Declared.{Declared}
use Rattle.net_core.specs.declared.design.Declared.TheVariants as declared
use Rattle.net_core.specs.Ports.{input_width, port_list}
use Rattle.net_core.specs.Width.{word_fits, declared_typed, register_widths, memory_widths, port_width}
use Rattle.net_core.specs.Clock.{first_words, first_memories}
use Rattle.clock_sim.specs.declared.builder.Operand.{Operand}
use Rattle.clock_sim.specs.declared.operands.Widths.{Widths}
use Rattle.clock_sim.specs.declared.layout.Layout.{Layout}
use Rattle.clock_sim.specs.Flat.{numbers}
use Rattle.clock_sim.specs.Edges.{sizes_of}
use Rattle.clock_sim.specs.Layouts.{operands_from, port_widths, AddsItem}

-- the widths that are read of ports, one by one
inputs_at : (ports : List Port) (k : ℕ) → input_width (get_or ports k (record { output = true; width = 0 })) ≡ get_or (map input_width ports) k 0
inputs_at [] k = refl
inputs_at (p ∷ ports) zero = refl
inputs_at (p ∷ ports) (suc k) = inputs_at ports k

from_clock : (ports : List Port) (k : ℕ) → port_width ports k ≡ get_or (0 ∷ map input_width (drop 1 ports)) k 0
from_clock ports zero = refl
from_clock [] (suc k) = refl
from_clock (p ∷ ports) (suc k) = inputs_at ports k

pub port_width_at : (k : ℕ) → port_width port_list k ≡ get_or port_widths k 0
port_width_at k = from_clock port_list k

typed_one : (d : Declared) (rest : List Declared) → declared_typed (d ∷ rest) ≡ true → (declared_typed (d ∷ []) ≡ true) × (declared_typed rest ≡ true)
typed_one declared.Integer rest h = (refl, h)
typed_one (declared.Register w) rest h = let p = and_parts (word_fits w) (declared_typed rest) h in (and_from (word_fits w) true p.0 refl, p.1)
typed_one (declared.Memory i w n) rest h =
    let p = and_parts (nat_le 1 i && nat_le i 16) (word_fits w && declared_typed rest) h in
    let q = and_parts (word_fits w) (declared_typed rest) p.1 in
    (and_from (nat_le 1 i && nat_le i 16) (word_fits w && true) p.0 (and_from (word_fits w) true q.0 refl), q.1)

more_of : {A : Type 0} (x one rest all old new total : List A) → x ≡ one ++ rest → new ≡ old ++ one → old ++ x ≡ total → new ++ rest ≡ total
more_of x one rest all old new total split made h = ap (λ l. l ++ rest) made ∙ append_assoc old one rest ∙ sym (ap (λ l. old ++ l) split) ∙ h

memories_split : (d : Declared) (rest : List Declared) → memory_widths (d ∷ rest) ≡ memory_widths (d ∷ []) ++ memory_widths rest
memories_split declared.Integer rest = refl
memories_split (declared.Register w) rest = refl
memories_split (declared.Memory i w n) rest = refl

values_split : (d : Declared) (rest : List Declared) → numbers (first_words (d ∷ rest)) ≡ numbers (first_words (d ∷ [])) ++ numbers (first_words rest)
values_split declared.Integer rest = refl
values_split (declared.Register w) rest = refl
values_split (declared.Memory i w n) rest = refl

contents_split : (d : Declared) (rest : List Declared) → map numbers (first_memories (d ∷ rest)) ≡ map numbers (first_memories (d ∷ [])) ++ map numbers (first_memories rest)
contents_split declared.Integer rest = refl
contents_split (declared.Register w) rest = refl
contents_split (declared.Memory i w n) rest = refl

same_operands : (old new : List Operand) (rest : List ℕ) → new ≡ old ++ [] → old ++ operands_from (PORT_COUNT + length old) rest ≡ new ++ operands_from (PORT_COUNT + length new) rest
same_operands old new rest e = subst (λ l. old ++ operands_from (PORT_COUNT + length old) rest ≡ l ++ operands_from (PORT_COUNT + length l) rest) (sym (e ∙ append-nil old)) refl

registers_more : (d : Declared) (rest : List Declared) (old new : List Operand) → new ≡ old ++ operands_from (PORT_COUNT + length old) (register_widths (d ∷ [])) → old ++ operands_from (PORT_COUNT + length old) (register_widths (d ∷ rest)) ≡ new ++ operands_from (PORT_COUNT + length new) (register_widths rest)
registers_more declared.Integer rest old new e = same_operands old new (register_widths rest) e
registers_more (declared.Memory i w n) rest old new e = same_operands old new (register_widths rest) e
registers_more (declared.Register w) rest old new e =
    let p : Operand = record { slot = PORT_COUNT + length old; width = w.width } in
    let l : length new ≡ length old + 1 = ap length e ∙ length_push old p in
    let at : suc (PORT_COUNT + length old) ≡ PORT_COUNT + length new = omega arith in
    sym (append_assoc old (p ∷ []) (operands_from (suc (PORT_COUNT + length old)) (register_widths rest)))
    ∙ ap (λ k. (old ++ p ∷ []) ++ operands_from k (register_widths rest)) at
    ∙ ap (λ m. m ++ operands_from (PORT_COUNT + length new) (register_widths rest)) (sym e)

pub record Laying (all left : List Declared) (l : Layout) : Type 0 where
  pub typed : declared_typed left ≡ true
  pub registers : l.registers.items ++ operands_from (PORT_COUNT + length l.registers.items) (register_widths left) ≡ operands_from PORT_COUNT (register_widths all)
  pub memories : sizes_of l.memories.items ++ memory_widths left ≡ memory_widths all
  pub values : l.numbers.items ++ numbers (first_words left) ≡ numbers (first_words all)
  pub contents : l.contents.items ++ map numbers (first_memories left) ≡ map numbers (first_memories all)

pub layout_first : (all left rest : List Declared) (d : Declared) (l : Layout) → left ≡ d ∷ rest → Laying all left l → declared_typed (d ∷ []) ≡ true
layout_first all left rest d l e h = (typed_one d rest (subst (λ k. declared_typed k ≡ true) e h.typed)).0

pub layout_more : (all left rest : List Declared) (d : Declared) (l l' : Layout) → left ≡ d ∷ rest → AddsItem d l l' → Laying all left l → Laying all rest l'
layout_more all left rest d l l' e a h0 =
    let h = subst (λ k. Laying all k l) e h0 in
    record {
      typed = (typed_one d rest h.typed).1;
      registers = sym (registers_more d rest l.registers.items l'.registers.items a.registers) ∙ h.registers;
      memories = more_of (memory_widths (d ∷ rest)) (memory_widths (d ∷ [])) (memory_widths rest) [] (sizes_of l.memories.items) (sizes_of l'.memories.items) (memory_widths all) (memories_split d rest) a.memories h.memories;
      values = more_of (numbers (first_words (d ∷ rest))) (numbers (first_words (d ∷ []))) (numbers (first_words rest)) [] l.numbers.items l'.numbers.items (numbers (first_words all)) (values_split d rest) a.values h.values;
      contents = more_of (map numbers (first_memories (d ∷ rest))) (map numbers (first_memories (d ∷ []))) (map numbers (first_memories rest)) [] l.contents.items l'.contents.items (map numbers (first_memories all)) (contents_split d rest) a.contents h.contents;
    }

pub numbers_replicate : (n : ℕ) (w : Word) → numbers (replicate n w) ≡ replicate n w.value
numbers_replicate zero w = refl
numbers_replicate (suc n) w = ap (λ l. w.value ∷ l) (numbers_replicate n w)

pub adds_memory :
    (i : ℕ) (w : Word) (k : ℕ) (old new : Layout) (memory : List ℕ) → new.registers ≡ old.registers → new.numbers ≡ old.numbers → new.memories.items ≡ old.memories.items ++ record { index = i; word = w.width } ∷ [] → memory ≡ replicate (2 ^ i) w.value → new.contents.items ≡ old.contents.items ++ memory ∷ []
    → AddsItem (declared.Memory i w k) old new
adds_memory i w k old new memory registers values memories is contents = record {
  registers = ap (λ v. v.items) registers ∙ sym (append-nil old.registers.items);
  memories = ap sizes_of memories ∙ map_push (λ (s : Widths). (s.index, s.word)) old.memories.items (record { index = i; word = w.width });
  values = ap (λ v. v.items) values ∙ sym (append-nil old.numbers.items);
  contents = contents ∙ ap (λ b. old.contents.items ++ b ∷ []) (is ∙ sym (numbers_replicate (2 ^ i) w));
}

-- ---- ports, one after another
pub ports_more : (left : List ℕ) (k w : ℕ) (ws : List ℕ) (old new all : List Operand) → left ≡ w ∷ ws → new ≡ old ++ record { slot = k; width = w } ∷ [] → old ++ operands_from k left ≡ all → new ++ operands_from (k + 1) ws ≡ all
ports_more left k w ws old new all e made h =
    let next : k + 1 ≡ suc k = omega arith in
    ap (λ j. new ++ operands_from j ws) next
    ∙ ap (λ l. l ++ operands_from (suc k) ws) made
    ∙ append_assoc old (record { slot = k; width = w } ∷ []) (operands_from (suc k) ws)
    ∙ ap (λ l. old ++ operands_from k l) (sym e)
    ∙ h
