-- The parts of a map stand as they are said to be.
use Rattle.std.specs.Prelude.{Contains}
use Rattle.std.proofs.Common.{◌≡◌, ◌⊎◌, inl, inr, ◌∙◌, ℕ, ◌+◌, ◌<◌, All, List, ◌∷◌, length, map as map_list, get_or, refl, sym, ap, subst, arith}
use Rattle.std.proofs.lemmas.List.{get_or-map, length-map, length-replicate, get_or-replicate}
use Rattle.std.proofs.lemmas.List.Elements.{All-contains, Contains-append_cases, Contains-append_right}
use Rattle.std.proofs.lemmas.List.FromFn.{get_or-map-range_with_len, length-map-range_with_len}
use Rattle.net_core.specs.Ports.{port_list}
use Rattle.net_core.specs.Value.{Env}
use Rattle.block_core.specs.declared.name.Name.{Name}
use Rattle.block_core.specs.declared.name.Name.TheVariants as name
use Rattle.block_core.specs.Blocks.{BlockTree, memories_of, wires_of, Whole, Among}
use Rattle.block_core.specs.Parts.{Goes, Within}
use Rattle.block_core.specs.Order.{IsBefore, InOrder}
use Rattle.block_core.specs.Formed.{names_scope, name_width, block_wire_width, block_memories, block_wires, IsTypedBlock, StatementReads, IsThere}
use Rattle.overlay_net.specs.hazard_core.Commits.{word_count}
use Rattle.hash_net.specs.array_net.Words.{word_width}
use Rattle.overlay_net.specs.cell_nets.declared.operand.Operand.{Operand}
use Rattle.overlay_net.specs.cell_nets.declared.operand.Operand.TheVariants.{Known, Net, Part}
use Rattle.overlay_net.specs.cell_nets.Operands.{AreFit, IsDeclared, AreDeclared, IsNetOf}
use Rattle.commit_net.specs.declared.choosing.CommitNets.{CommitNets}
use Rattle.commit_net.specs.Choosing.{all_read}
use Rattle.commit_net.specs.Fetching.{IsFetch, fetched_words}
use Rattle.overlay_net.specs.cell_nets.OperandBlocks.Wiring.{IsWiring}
use Rattle.commit_net.specs.Wiring.{word_operand, outside_of}
use Rattle.commit_net.specs.Wholes.{IsSlotPart}
use Rattle.commit_net.specs.declared.map_block.form.MapForm.{MapForm}
use Rattle.commit_net.specs.declared.map_block.parts.MapParts.{MapParts}
use Rattle.commit_net.specs.declared.map_block.parts.ControlNets.{ControlNets}
use Rattle.commit_net.specs.MapBlock.Parts.{MapTrees, AreParts, IsText, IsIdle, OfControl, HaveOneBit}
use Rattle.commit_net.specs.MapBlock.Stored.{host_may, host_word}
use Rattle.commit_net.specs.MapBlock.Block.{IsOwnPart, IsMayTree, AreFormed}

-- what stands before a part stands before a later one
later_too : {P : Type 0} (w : Whole P) (before : List P) (p q x : P) (n : Name P) → IsBefore w before p 0 n → IsBefore w (x ∷ before) q 0 n
later_too w before p q x (name.Port i) h = tt
later_too w before p q x (name.Register r i) h = h
later_too w before p q x (name.Memory r i) h = h
later_too w before p q x (name.Wire r i) (inl h) = absurd (omega (arith, h.1))
later_too w before p q x (name.Wire r i) (inr h) = inr (inr h.0, h.1)

control_too : {P : Type 0} (w : Whole P) (before : List P) (p q x : P) (c : ControlNets (Name P)) → OfControl (IsBefore w before p 0) c → OfControl (IsBefore w (x ∷ before) q 0) c
control_too w before p q x c h = (later_too w before p q x c.commits h.0, later_too w before p q x c.writes h.1, later_too w before p q x c.idle h.2)

-- a part of wires alone
pub wiring_text : {P : Type 0} (p : P) (outside : List (Operand (Name P))) (b : BlockTree (Name P)) → IsWiring p outside b → IsText b
wiring_text p outside b x = record {
  within = subst (λ l. Within (length l) (memories_of b) b.statement) (sym x.registers) (subst (λ l. Within 0 (length l) b.statement) (sym x.memories) x.within);
  wires_spelled = x.wires_spelled;
  spelled = x.spelled;
  free = x.free;
}

pub wiring_idle : {P : Type 0} (p : P) (outside : List (Operand (Name P))) (b : BlockTree (Name P)) → IsWiring p outside b → IsIdle b
wiring_idle p outside b x = record { registers = x.registers; memories = x.memories; stays = x.stays }

-- the net of an operand is such a one
abbrev OfNet : {N : Type 0} → (N → Type 0) → Operand N → Type 0
OfNet q (Known n) = Unit {0}
OfNet q (Net n w) = q n
OfNet q (Part n of from w) = q n

module _ {P : Type 0} (f : MapForm) (ps : MapParts P) (c : ControlNets (Name P)) (ns : List (CommitNets (Name P))) (bs : MapTrees (Name P)) (first : ℕ) (find : IsSlotPart ps.finder f.bits ns bs.slot bs.finds)
    (fetch : IsFetch ps.fetcher ps.own f.bits first f.decl.value 0 (word_count f.decl.value) bs.slot bs.fetches) (asking : IsWiring ps.asker (outside_of ns (fetched_words ps.fetcher (word_count f.decl.value))) bs.asks) where
  abbrev count : ℕ
  count = word_count f.decl.value

  abbrev words : List (Name P)
  words = fetched_words ps.fetcher count

  abbrev pub outside : List (Operand (Name P))
  outside = outside_of ns words

  -- ---- the words that are fetched
  each_word : (Q : Operand (Name P) → Type 0) → ((i : ℕ) → i < count → Q (word_operand (name.Wire ps.fetcher i))) → All Q (map_list word_operand words)
  each_word Q h k d l =
      let at : k < length words = omega (arith, l, length-map words word_operand) in
      let less : k < count = omega (arith, at, length-map-range_with_len (λ i. name.Wire ps.fetcher i) 0 count) in
      let none : Name P = name.Wire ps.fetcher 0 in
      subst Q (sym (get_or-map word_operand words k none d at ∙ ap word_operand (get_or-map-range_with_len (λ i. name.Wire ps.fetcher i) 0 count k k none less (omega arith)))) (h k less)

  wire_count : length bs.fetches.wires ≡ count
  wire_count = sym (length-map bs.fetches.wires block_wire_width) ∙ ap length fetch.wires ∙ length-replicate count 64

  of_outside : (q : Name P → Type 0) → ((i : ℕ) → i < count → q (name.Wire ps.fetcher i)) → ((n : Name P) → IsNetOf (all_read ns) n → q n) → (n : Name P) → IsNetOf outside n → q n
  of_outside q here given n (u, inl x) = by (Contains-append_cases (map_list word_operand words) (all_read ns) (Net n u) x)
    where
      by : Contains (map_list word_operand words) (Net n u) ⊎ Contains (all_read ns) (Net n u) → q n
      by (inl y) = All-contains (OfNet q) (map_list word_operand words) (Net n u) (each_word (OfNet q) here) y
      by (inr y) = given n (u, inl y)
  of_outside q here given n (u, inr (from, k, x)) = by (Contains-append_cases (map_list word_operand words) (all_read ns) (Part n u from k) x)
    where
      by : Contains (map_list word_operand words) (Part n u from k) ⊎ Contains (all_read ns) (Part n u from k) → q n
      by (inl y) = All-contains (OfNet q) (map_list word_operand words) (Part n u from k) (each_word (OfNet q) here) y
      by (inr y) = given n (u, inr (from, k, y))

  fit_read : (v : Env (Name P)) → AreFit v outside → AreFit v (all_read ns)
  fit_read v fit a x = fit a (Contains-append_right (map_list word_operand words) (all_read ns) a x)

  fetch_text : IsText bs.fetches
  fetch_text = record {
    within = subst (λ l. Within (length l) (memories_of bs.fetches) bs.fetches.statement) (sym fetch.registers) (subst (λ l. Within 0 (length l) bs.fetches.statement) (sym fetch.memories) fetch.within);
    wires_spelled = fetch.wires_spelled;
    spelled = fetch.spelled;
    free = fetch.free;
  }

  -- ---- in a design
  module _ (w : Whole P) (is : AreParts w ps bs) where
    all_declared : AreDeclared (names_scope w port_list) (all_read ns) → AreDeclared (names_scope w port_list) outside
    all_declared declared a x = by (Contains-append_cases (map_list word_operand words) (all_read ns) a x)
      where
        wide : (i : ℕ) → i < count → name_width w port_list (name.Wire ps.fetcher i) ≡ 64
        wide i l = ap (λ (b : BlockTree (Name P)). get_or (block_wires b) i 0) is.blocks.1 ∙ ap (λ ks. get_or ks i 0) fetch.wires ∙ get_or-replicate count i 64 0 l

        by : Contains (map_list word_operand words) a ⊎ Contains (all_read ns) a → IsDeclared (names_scope w port_list) a
        by (inl y) = All-contains (IsDeclared (names_scope w port_list)) (map_list word_operand words) a (each_word (IsDeclared (names_scope w port_list)) wide) y
        by (inr y) = declared a y

    fetched_there : (i : ℕ) → i < count → i < wires_of (w.block ps.fetcher)
    fetched_there i l = subst (λ (b : BlockTree (Name P)). i < length b.wires) (sym is.blocks.1) (omega (arith, l, wire_count))

  -- ---- with the part of the map's memories
  module _ (memories : (j : ℕ) → j < count → get_or (block_memories bs.stores) (first + j) (0, 0) ≡ (f.bits, word_width f.decl.value j))
      (typed : (w : Whole P) → w.block ps.own ≡ bs.stores → w.block ps.asker ≡ bs.asks → AreDeclared (names_scope w port_list) outside → HaveOneBit w c → name_width w port_list bs.slot ≡ f.bits → IsTypedBlock w port_list bs.stores)
      (ordered :
      (w : Whole P) (before : List P) → Among ps.own w.parts → w.block ps.asker ≡ bs.asks → Among ps.asker before → ((n : Name P) → IsNetOf outside n → IsBefore w before ps.own 0 n) → OfControl (IsBefore w before ps.own 0) c → IsBefore w before ps.own 0 bs.slot → InOrder w before ps.own 0 bs.stores.wires)
      (reads : (w : Whole P) → Among ps.own w.parts → Among ps.asker w.parts → ((n : Name P) → IsNetOf outside n → IsThere w n) → OfControl (IsThere w) c → IsThere w bs.slot → StatementReads (IsThere w) bs.stores.statement) (text : IsText bs.stores)
      (goes : (v : Env (Name P)) → Goes v bs.stores.wires) (shown : (w : Whole P) → w.block ps.own ≡ bs.stores → name_width w port_list (host_word f ps.own) ≡ 64) (may : IsMayTree ps c bs (host_may f ps.own c.idle)) (stored : IsOwnPart f bs.stores) where
    abbrev finder : P
    finder = ps.finder

    abbrev fetcher : P
    fetcher = ps.fetcher

    abbrev asker : P
    asker = ps.asker

    abbrev own : P
    own = ps.own

    pub are_formed : AreFormed f ps c ns bs
    are_formed = record {
      finds_idle = wiring_idle finder (all_read ns) bs.finds find.wiring;
      fetches_idle = record { registers = fetch.registers; memories = fetch.memories; stays = fetch.stays };
      asks_idle = wiring_idle asker outside bs.asks asking;
      typed = λ w is declared one.
          let all = all_declared w is declared in
          let wide = find.width w is.blocks.0 declared in
          let there : (j : ℕ) → j < count → get_or (block_memories (w.block own)) (first + j) (0, 0) ≡ (f.bits, word_width f.decl.value j) = λ j l. ap (λ (b : BlockTree (Name P)). get_or (block_memories b) (first + j) (0, 0)) is.blocks.3 ∙ memories j l in
          (find.wiring.typed w is.blocks.0 declared, fetch.typed w there wide, asking.typed w is.blocks.2 all, typed w is.blocks.3 is.blocks.2 all one wide);
      ordered = λ w before is given control.
          let one = finder ∷ before in
          let two = fetcher ∷ one in
          let three = asker ∷ two in
          let to_one : (q : P) (n : Name P) → IsNetOf (all_read ns) n → IsBefore w one q 0 n = λ q n h. later_too w before finder q finder n (given n h) in
          let to_two : (q : P) (n : Name P) → IsNetOf (all_read ns) n → IsBefore w two q 0 n = λ q n h. later_too w one q q fetcher n (to_one q n h) in
          let fetched_two : (q : P) (i : ℕ) → i < count → IsBefore w two q 0 (name.Wire fetcher i) = λ q i l. inr (inl refl, fetched_there w is i l) in
          let to_three : (n : Name P) → IsNetOf outside n → IsBefore w three own 0 n = λ n h. later_too w two asker own asker n (of_outside (IsBefore w two asker 0) (fetched_two asker) (to_two asker) n h) in
          let slot_one = find.before w one fetcher is.blocks.0 (inl refl) (to_one fetcher) in
          let slot_three = later_too w two asker own asker bs.slot (later_too w one fetcher asker fetcher bs.slot slot_one) in
          let control_three = control_too w two asker own asker c (control_too w one fetcher asker fetcher c (control_too w before finder fetcher finder c control)) in (
            subst (λ (b : BlockTree (Name P)). InOrder w before finder 0 b.wires) (sym is.blocks.0) (find.wiring.ordered w before given),
            (
              subst (λ (b : BlockTree (Name P)). InOrder w one fetcher 0 b.wires) (sym is.blocks.1) (fetch.ordered w one is.among.3 slot_one),
              (
                subst (λ (b : BlockTree (Name P)). InOrder w two asker 0 b.wires) (sym is.blocks.2) (asking.ordered w two (of_outside (IsBefore w two asker 0) (fetched_two asker) (to_two asker))),
                (subst (λ (b : BlockTree (Name P)). InOrder w three own 0 b.wires) (sym is.blocks.3) (ordered w three is.among.3 is.blocks.2 (inl refl) to_three control_three slot_three), tt),
              ),
            ),
          );
      reads = λ w is given control.
          let all : (n : Name P) → IsNetOf outside n → IsThere w n = of_outside (IsThere w) (λ i l. is.among.1) given in
          (find.wiring.reads w, fetch.reads w, asking.reads w, reads w is.among.3 is.among.2 all control (find.there w is.among.0 given));
      texts = (wiring_text finder (all_read ns) bs.finds find.wiring, fetch_text, wiring_text asker outside bs.asks asking, text);
      goes = λ v fit solve. (find.wiring.goes v (fit_read v fit) solve.0, fetch.goes v, asking.goes v fit solve.2, goes v);
      declared = all_declared;
      there = λ w is given. of_outside (IsThere w) (λ i l. is.among.1) given;
      own = stored;
      shown = λ w is. shown w is.blocks.3;
      may = may;
      slot_width = λ w is declared. find.width w is.blocks.0 declared;
      slot_before = λ w earlier later is stands given. find.before w earlier later is.blocks.0 stands given;
      slot_there = λ w is given. find.there w is.among.0 given;
    }
