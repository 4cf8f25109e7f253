-- One clock of a linked design, part by part.
use Rattle.std.specs.Prelude.{◌≡◌, ℕ, suc, ◌+◌, ◌==◌, cond, false, List, [], ◌∷◌, ◌++◌, length, map, None}
use Rattle.std.proofs.Common.{refl, sym, ap, ◌∙◌, arith, get_or, subst, inl, inr}
use Rattle.std.proofs.lemmas.List.{append-nil}
use Rattle.net_core.specs.declared.tree.Word.{Word}
use Rattle.net_core.specs.declared.tree.Net.{Net}
use Rattle.net_core.specs.declared.design.Declared.{Declared}
use Rattle.net_core.specs.Nets.{WireTree}
use Rattle.net_core.specs.Value.{nothing, Env, value, stops}
use Rattle.net_core.specs.Clock.{first_words, first_memories, env_of, stopped_at, rights, assigned}
use Rattle.list_laws.proofs.BoolLaws.{by_test}
use Rattle.block_core.specs.declared.name.Name.{Name}
use Rattle.block_core.specs.declared.block.BlockMemory.{BlockMemory}
use Rattle.block_core.specs.Rename.{rename, rename_right, seen}
use Rattle.block_core.specs.Blocks.{BlockWireTree, OutputTree, registers_of, memories_of, wires_of, first_memory, Whole, Among, gather, start}
use Rattle.block_core.specs.Link.{resolve, link_wires, link_output, all_wires, all_memories, declare_memory, declare_register, link}
use Rattle.block_core.specs.Parts.{stored_of, Solve, Goes, shown_by}
use Rattle.block_core.specs.Law.{Linked, StartsAsParts, SizesStay}
use Rattle.block_core.proofs.GatheredLaws.{Runs, runs, get_gather, map_gather, length_map}
use Rattle.block_core.proofs.Renamed.{value-rename, right-rename, stops-rename}
use Rattle.block_core.proofs.Solved.{Solved, solved}
use Rattle.block_core.proofs.Ordered.{ordered}
use Rattle.block_core.proofs.Edges.{sizes, edge_parts}

-- ---- equations by part
part_right : (v : Env Net) (at : ℕ) (xs ys : List WireTree) → Solved v at (xs ++ ys) → Solved v (at + length xs) ys
part_right v at [] ys h = let e : at + 0 ≡ at = omega arith in rw e h
part_right v at (x ∷ xs) ys h = let q : at + suc (length xs) ≡ suc at + length xs = omega arith in rw q (part_right v (suc at) xs ys h.1)

one_part : {P : Type 0} (d : Whole P) (v : Env Net) (p : P) (at : ℕ) (ws : List (BlockWireTree (Name P))) (rest : List WireTree) → Solved v (start wires_of d p + at) (link_wires (resolve d) ws ++ rest) → Solve (seen (resolve d) v) p at ws
one_part d v p at [] rest h = tt
one_part d v p at (w ∷ ws) rest h =
    let k : suc (start wires_of d p + at) ≡ start wires_of d p + suc at = omega arith in
    (h.0 ∙ right-rename (resolve d) v w.right, one_part d v p (suc at) ws rest (subst (λ n. Solved v n (link_wires (resolve d) ws ++ rest)) k h.1))

parts_solved : {P : Type 0} (d : Whole P) (v : Env Net) (w : ℕ) (ps : List P) → Runs (λ p. wires_of (d.block p)) (start wires_of d) w ps → Solved v w (all_wires d ps) → (p : P) → Among p ps → Solve (seen (resolve d) v) p 0 (d.block p).wires
parts_solved d v w [] l h p a = absurd a
parts_solved d v w (q ∷ ps) l h p (inl e) =
    let k : w ≡ start wires_of d q + 0 = omega (arith, l.0) in
    subst (λ p. Solve (seen (resolve d) v) p 0 (d.block p).wires) (sym e) (one_part d v q 0 (d.block q).wires (all_wires d ps) (subst (λ n. Solved v n (all_wires d (q ∷ ps))) k h))
parts_solved d v w (q ∷ ps) l h p (inr a) =
    let c = length_map (λ x. record { width = x.width; right = rename_right (resolve d) x.right }) (d.block q).wires in
    parts_solved d v (w + wires_of (d.block q)) ps l.1
    (subst (λ n. Solved v (w + n) (all_wires d ps)) c (part_right v w (link_wires (resolve d) (d.block q).wires) (all_wires d ps) h)) p a

-- ---- outputs, divisors
shown_linked : {P : Type 0} (f : Name P → Net) (v : Env Net) (os : List (OutputTree (Name P))) (port : ℕ) → assigned v (map (link_output f) os) port ≡ shown_by (seen f v) os port
shown_linked f v [] port = refl
shown_linked f v (o ∷ os) port =
    let x = shown_linked f v os port in
    by_test (λ t. cond t (value v (rename f o.value)) (assigned v (map (link_output f) os) port) ≡ cond t (value (seen f v) o.value) (shown_by (seen f v) os port)) (o.port == port) (λ q. value-rename f v o.value) (λ q. x)

goes_part : {N : Type 0} (f : N → Net) (v : Env Net) (at : ℕ) (ws : List (BlockWireTree N)) (rest : List WireTree) → Goes (seen f v) ws → ((at : ℕ) → stopped_at v at (rights rest) ≡ None) → stopped_at v at (rights (link_wires f ws ++ rest)) ≡ None
goes_part f v at [] rest h k = k at
goes_part f v at (w ∷ ws) rest h k = let e : stops v (rename_right f w.right) ≡ false = stops-rename f v w.right ∙ h.0 in rw e (goes_part f v (suc at) ws rest h.1 k)

goes_parts : {P : Type 0} (d : Whole P) (v : Env Net) (ps : List P) → ((p : P) → Among p ps → Goes (seen (resolve d) v) (d.block p).wires) → (at : ℕ) → stopped_at v at (rights (all_wires d ps)) ≡ None
goes_parts d v [] h at = refl
goes_parts d v (p ∷ ps) h at = goes_part (resolve d) v at (d.block p).wires (all_wires d ps) (h p (inl refl)) (goes_parts d v ps (λ q a. h q (inr a)))

-- ---- one clock
pub linked : (P : Type 0) → Linked P
linked P d names ports outputs ins ss l z =
    let v : Env Net = env_of (link d names ports outputs) ins (stored_of d ss) in
    record {
      env = seen (resolve d) v;
      sees = record {
        port = λ i. refl;
        register = λ p i a h. get_gather (λ p. (ss p).registers) (λ p. registers_of (d.block p)) (start registers_of d) [] 0 d.parts refl (runs registers_of d l.placed) (λ p a. (z p a).registers) p i nothing a h;
        memory_word = λ p i a among h. ap (λ ws. get_or ws a nothing) (get_gather (λ p. (ss p).memories) (λ p. memories_of (d.block p)) (start memories_of d) [] 0 d.parts refl (runs memories_of d l.placed) (λ p a. (z p a).memories) p i [] among h);
        wires = parts_solved d v 0 d.parts (runs wires_of d l.placed) (solved ins (stored_of d ss) [] 0 (all_wires d d.parts) refl (ordered d l.placed l.ordered));
      };
      after = edge_parts d v ss (record { registers = []; memories = [] }) 0 0 d.parts refl refl (runs registers_of d l.placed) (runs memories_of d l.placed) z l.within;
      shown = shown_linked (resolve d) v outputs;
      goes = λ q. goes_parts d v d.parts q 0;
    }

-- ---- what is stored first
words_declared : (rs : List Word) (ds : List Declared) → first_words (map declare_register rs ++ ds) ≡ rs ++ first_words ds
words_declared [] ds = refl
words_declared (r ∷ rs) ds = ap (λ l. r ∷ l) (words_declared rs ds)

no_words : (ms : List BlockMemory) → first_words (map declare_memory ms) ≡ []
no_words [] = refl
no_words (m ∷ ms) = no_words ms

memories_past : (rs : List Word) (ds : List Declared) → first_memories (map declare_register rs ++ ds) ≡ first_memories ds
memories_past [] ds = refl
memories_past (r ∷ rs) ds = memories_past rs ds

memories_declared : (ms : List BlockMemory) → first_memories (map declare_memory ms) ≡ map first_memory ms
memories_declared [] = refl
memories_declared (m ∷ ms) = ap (λ l. first_memory m ∷ l) (memories_declared ms)

pub starts_as_parts : (P : Type 0) → StartsAsParts P
starts_as_parts P d names ports outputs =
    let rs = gather (λ p. (d.block p).registers) d.parts in
    let ms = all_memories d d.parts in
    let words : first_words (map declare_register rs ++ map declare_memory ms) ≡ rs = words_declared rs (map declare_memory ms) ∙ ap (λ l. rs ++ l) (no_words ms) ∙ append-nil rs in
    let memories : first_memories (map declare_register rs ++ map declare_memory ms) ≡ gather (λ p. map first_memory (d.block p).memories) d.parts =
    memories_past rs (map declare_memory ms) ∙ memories_declared ms ∙ map_gather first_memory (λ p. (d.block p).memories) d.parts in
    rw (words, memories)

pub sizes_stay : (N : Type 0) → SizesStay N
sizes_stay N = record {
  first = λ b. record { registers = refl; memories = length_map first_memory b.memories };
  clock = λ b v s z. let k = sizes v b.statement s in record { registers = k.registers ∙ z.registers; memories = k.memories ∙ z.memories };
}
