-- What is asked of the block of a map, whole.
use Rattle.std.proofs.Common.{◌≡◌, ℕ, suc, ◌^◌, ◌<◌, ◌≤◌, All, List, [], ◌∷◌, ◌++◌, length, map as map_list, sym, subst, arith}
use Rattle.std.proofs.lemmas.List.Elements.{All-append}
use Rattle.net_core.specs.Ports.{port_list}
use Rattle.net_core.specs.Value.{bit as net_bit, Env}
use Rattle.block_core.specs.declared.name.Name.{Name}
use Rattle.block_core.specs.Blocks.{BlockWireTree}
use Rattle.block_core.specs.Formed.{names_scope}
use Rattle.block_core.specs.Formed.{IsThere}
use Rattle.overlay_net.specs.xdp_maps.declared.decl.MapDecl.{MapDecl}
use Rattle.overlay_net.specs.xdp_maps.Contents.{IsBytes}
use Rattle.overlay_net.specs.cell_core.Cells.{bit}
use Rattle.overlay_net.specs.cell_core.Sites.{ProgramView, site_at}
use Rattle.overlay_net.specs.hazard_core.Tables.{TableState, decl_of}
use Rattle.overlay_net.specs.hazard_core.StageValues.{StageValues, is_delete, asked, asked_key}
use Rattle.overlay_net.specs.hazard_core.Overlay.{value_as}
use Rattle.overlay_net.specs.hazard_core.Commits.{word_count, makes_entry, written_slot}
use Rattle.hash_net.specs.array_net.declared.words.WordNets.{WordNets}
use Rattle.hash_net.specs.declared.block.HashNets.{HashNets}
use Rattle.overlay_net.specs.cell_nets.declared.operand.Operand.{Operand}
use Rattle.overlay_net.specs.cell_nets.declared.operand.Operand.TheVariants.{Net}
use Rattle.overlay_net.specs.cell_nets.Operands.{IsAvailable}
use Rattle.overlay_net.specs.cell_nets.Wires.{behind, Gives}
use Rattle.overlay_net.specs.ValueNet.Words.{IsAligned}
use Rattle.commit_net.specs.declared.choosing.CommitNets.{CommitNets}
use Rattle.commit_net.specs.Choosing.{changes_word, all_read, IsChosen, Commits}
use Rattle.commit_net.specs.Words.{IsFitting}
use Rattle.overlay_net.specs.cell_nets.StepNets.Standing.{Stands}
use Rattle.commit_net.specs.Wiring.{word_operand, outside_of, ShowsValue, key_operands, value_operands, ShowWords, ShowChanges}
use Rattle.commit_net.specs.Wholes.{slot_before, slot_after, IsSlotPart, IsHashCommit, IsArrayCommit}
use Rattle.overlay_net.proofs.cell_nets_laws.StepNets.ChainLaws.{starts, next}
use Rattle.overlay_net.specs.cell_nets.OperandBlocks.Wiring.{wires_block}
use Rattle.overlay_net.proofs.cell_nets_laws.OperandBlocks.WiringLaws.{is_wiring, all_there, all_known, declared_there, word_is, before_later, there_in}
use Rattle.commit_net.proofs.WordLemmas.{nothing_held, stands_as, after, before}
use Rattle.commit_net.proofs.WiringLemmas.{keys_wide, values_wide, keys_there, values_there, keys_ask, values_ask}
use Rattle.commit_net.proofs.SlotLemmas.{used_new, key_new, key_old, value_new, within, key_words, new_shaped, word_left}
use Rattle.commit_net.proofs.GatherLemmas.{joined, tail, pair, KeyNeeds, ValueNeeds, new_value}

-- ---- anything that may commit
no_program : ProgramView
no_program = record { cells = []; nodes = []; sites = []; verdict = 0; target = 0; frame = [] }

no_tables : TableState
no_tables = record { decls = []; tables = [] }

-- ---- the part of the slot
module _ {P : Type 0} (part : P) (bits : ℕ) (ns : List (CommitNets (Name P))) (slot : Name P) (ws : List (BlockWireTree (Name P))) where
  abbrev SlotNeeds : ProgramView → TableState → List ℕ → StageValues → ℕ → Env (Name P) → Type 0
  SlotNeeds p t taken h j v = Commits v p t taken h j ns × (written_slot p t taken h j < 2 ^ bits)

  module _ (x : (p : ProgramView) (t : TableState) (taken : List ℕ) (h : StageValues) (j : ℕ) → Gives part [] ws (all_read ns) (SlotNeeds p t taken h j) (λ v. written_slot p t taken h j) bits (Net slot bits)) where
    abbrev slot_given : List (Operand (Name P))
    slot_given = Net slot bits ∷ all_read ns

    abbrev SlotKnows : ProgramView → TableState → List ℕ → StageValues → ℕ → Env (Name P) → Type 0
    SlotKnows p t taken h j v = SlotNeeds p t taken h j v × ((v.net slot).value ≡ written_slot p t taken h j)

    slot_stands : (p : ProgramView) (t : TableState) (taken : List ℕ) (h : StageValues) (j : ℕ) → Stands part [] ws (all_read ns) (SlotNeeds p t taken h j) slot_given (SlotKnows p t taken h j)
    slot_stands p t taken h j = next (starts part [] (all_read ns) (SlotNeeds p t taken h j)) (x p t taken h j) (λ ins a. a) (λ v f n. n)

    abbrev Any : Env (Name P) → Type 0
    Any = SlotNeeds no_program no_tables [] nothing_held 0

    abbrev Some : Env (Name P) → Type 0
    Some = SlotKnows no_program no_tables [] nothing_held 0

    base : Stands part [] ws (all_read ns) Any slot_given Some
    base = slot_stands no_program no_tables [] nothing_held 0

    slot_there : IsAvailable (behind part (all_read ns) ws) (Net slot bits)
    slot_there = all_there part ws (all_read ns) slot_given Any Some base 0 (Net slot bits) (omega arith)

    pub slot_part : IsSlotPart part bits ns slot (wires_block ws)
    slot_part = record {
      wiring = is_wiring part ws (all_read ns) slot_given Any Some base;
      width = λ w here declared. declared_there part ws (all_read ns) slot_given Any Some base w here declared (Net slot bits) slot_there;
      before = λ w earlier later here among given. before_later part ws (all_read ns) slot_given Any Some base w earlier later here among given slot bits slot_there;
      there = λ w among given. there_in part ws (all_read ns) slot_given Any Some base w among given slot bits slot_there;
      shows = λ v p t taken h j fit solved commits small.
          let k = all_known part ws (all_read ns) slot_given (SlotNeeds p t taken h j) (SlotKnows p t taken h j) (slot_stands p t taken h j) v fit solved (commits, small) in
          word_is part ws (all_read ns) slot_given Any Some base v fit solved slot bits (written_slot p t taken h j) slot_there k.1;
    }

-- ---- the part of the words of an array
module _ {P : Type 0} (part : P) (d : MapDecl) (ns : List (CommitNets (Name P))) (words : List (Name P)) (values : List (WordNets (Name P))) (fitting : All (IsFitting d) ns) where
  -- an access of the operation that commits is aligned
  is_aligned : (v : Env (Name P)) (p : ProgramView) (j : ℕ) → IsChosen v p j ns → IsAligned (site_at p.sites j).act
  is_aligned v p j c = let fit : IsFitting d c.nets = subst (IsFitting d) c.is (fitting c.place c.nets c.within) in subst IsAligned (sym c.act) fit.aligned

  abbrev WordKnows : ProgramView → TableState → StageValues → ℕ → List ℕ → Env (Name P) → Type 0
  WordKnows p t h j value v = ShowChanges v (changes_word (site_at p.sites j).act) 0 values (new_value part d ns words p t [] h j value)

  module _ (ws : List (BlockWireTree (Name P))) (count : length values ≡ word_count d.value)
      (x :
      (p : ProgramView) (t : TableState) (taken : List ℕ) (h : StageValues) (j : ℕ) (value : List ℕ) → Stands part [] ws (outside_of ns words) (ValueNeeds part d ns words p t taken h j value) (value_operands d.value 0 values ++ outside_of ns words) (WordKnows p t h j value)) where
    abbrev array_given : List (Operand (Name P))
    array_given = value_operands d.value 0 values ++ outside_of ns words

    abbrev AnyWords : Env (Name P) → Type 0
    AnyWords = ValueNeeds part d ns words no_program no_tables [] nothing_held 0 []

    abbrev SomeWords : Env (Name P) → Type 0
    SomeWords = WordKnows no_program no_tables nothing_held 0 []

    array_base : Stands part [] ws (outside_of ns words) AnyWords array_given SomeWords
    array_base = x no_program no_tables [] nothing_held 0 []

    abbrev ins : List (Operand (Name P))
    ins = behind part (outside_of ns words) ws

    values_are : All (IsAvailable ins) (value_operands d.value 0 values)
    values_are = before (IsAvailable ins) (value_operands d.value 0 values) (outside_of ns words) (all_there part ws (outside_of ns words) array_given AnyWords SomeWords array_base)

    pub array_commit : IsArrayCommit part d ns words values (wires_block ws)
    array_commit = record {
      wiring = is_wiring part ws (outside_of ns words) array_given AnyWords SomeWords array_base;
      value_count = count;
      widths = λ w here declared. values_wide ins d.value (names_scope w port_list) (declared_there part ws (outside_of ns words) array_given AnyWords SomeWords array_base w here declared) 0 values values_are;
      there = λ w among given. values_there ins d.value (IsThere w) (there_in part ws (outside_of ns words) array_given AnyWords SomeWords array_base w among given) 0 values values_are;
      asks = λ v p t taken h j bits nets fit solved commits writes shown c silent slot.
          let old = slot_before p t taken h j in
          let k = all_known part ws (outside_of ns words) array_given (ValueNeeds part d ns words p t taken h j old.value) (WordKnows p t h j old.value) (x p t taken h j old.value) v fit solved (commits, writes.declared, writes.value, shown) in
          record {
            commits = c;
            silent = silent;
            in_slot = slot;
            within = within p t taken h j d writes;
            len = (new_shaped p t taken h j d writes).value;
            asked =
                values_ask ins d.value v (word_is part ws (outside_of ns words) array_given AnyWords SomeWords array_base v fit solved) (changes_word (site_at p.sites j).act) old.value (slot_after p t taken h j).value
                (word_left p t taken h j d writes (is_aligned v p j commits.chosen)) 0 values values_are
                (subst (ShowChanges v (changes_word (site_at p.sites j).act) 0 values) (sym (value_new p t taken h j d writes)) k);
          };
    }

-- ---- and of a hash
module _ {P : Type 0} (part : P) (d : MapDecl) (ns : List (CommitNets (Name P))) (words : List (Name P)) (inserts deletes : Name P) (keys : List (Name P)) (values : List (WordNets (Name P))) where
  abbrev pub HashNeeds : ProgramView → TableState → List ℕ → StageValues → ℕ → List ℕ → Env (Name P) → Type 0
  HashNeeds p t taken h j value v = Commits v p t taken h j ns × (decl_of t.decls (site_at p.sites j).map ≡ d) × (word_count d.key ≤ length (site_at p.sites j).key) × IsBytes d.value value × ShowsValue v words value

  abbrev pub HashKnows : ProgramView → TableState → StageValues → ℕ → List ℕ → Env (Name P) → Type 0
  HashKnows p t h j value v =
      ((v.net inserts).value ≡ bit (makes_entry p t h j)) × ((v.net deletes).value ≡ bit (is_delete (site_at p.sites j).act)) × ShowWords v 0 keys (asked_key t.decls h (site_at p.sites j))
      × ShowChanges v (changes_word (site_at p.sites j).act) 0 values (value_as (asked t.decls h (site_at p.sites j)) value)

  abbrev key_given : List (Operand (Name P))
  key_given = key_operands d.key 0 keys

  abbrev value_given : List (Operand (Name P))
  value_given = value_operands d.value 0 values

  abbrev pub hash_given : List (Operand (Name P))
  hash_given = Net inserts 1 ∷ Net deletes 1 ∷ key_given ++ value_given

  abbrev read : List (Operand (Name P))
  read = outside_of ns words

  picks : (Q : Operand (Name P) → Type 0) → All Q ((value_given ++ read) ++ ((key_given ++ all_read ns) ++ Net deletes 1 ∷ Net inserts 1 ∷ read)) → All Q hash_given
  picks Q q =
      let two = Net deletes 1 ∷ Net inserts 1 ∷ read in
      let r = after Q (value_given ++ read) ((key_given ++ all_read ns) ++ two) q in
      let e = after Q (key_given ++ all_read ns) two r in
      All-append Q (Net inserts 1 ∷ Net deletes 1 ∷ []) (key_given ++ value_given) (pair Q (Net inserts 1) (Net deletes 1) (e 1 (Net inserts 1) (omega arith)) (e 0 (Net inserts 1) (omega arith)))
      (All-append Q key_given value_given (before Q key_given (all_read ns) (before Q (key_given ++ all_read ns) two r)) (before Q value_given read (before Q (value_given ++ read) ((key_given ++ all_read ns) ++ two) q)))

  pub hash_stands :
      {one two three ws : List (BlockWireTree (Name P))} (p : ProgramView) (t : TableState) (taken : List ℕ) (h : StageValues) (j : ℕ) (value : List ℕ) → Gives part [] one (all_read ns) (λ v. Commits v p t taken h j ns) (λ v. bit (makes_entry p t h j)) 1 (Net inserts 1)
      → Gives part one two (all_read ns) (λ v. IsChosen v p j ns) (λ v. bit (is_delete (site_at p.sites j).act)) 1 (Net deletes 1)
      → Stands part two three (all_read ns) (KeyNeeds part d ns p t taken h j) (key_given ++ all_read ns) (λ v. ShowWords v 0 keys (asked_key t.decls h (site_at p.sites j)))
      → Stands part three ws read (ValueNeeds part d ns words p t taken h j value) (value_given ++ read) (λ v. ShowChanges v (changes_word (site_at p.sites j).act) 0 values (value_as (asked t.decls h (site_at p.sites j)) value))
      → Stands part [] ws read (HashNeeds p t taken h j value) hash_given (HashKnows p t h j value)
  hash_stands p t taken h j value i e ks vs =
      let shown = map_list word_operand words in
      let I = Net inserts 1 in
      let D = Net deletes 1 in
      let x = next (starts part [] read (HashNeeds p t taken h j value)) i (λ ins q. after (IsAvailable ins) shown (all_read ns) q) (λ v f k. k.0) in
      let y = next x e (λ ins q. after (IsAvailable ins) shown (all_read ns) (tail (IsAvailable ins) I read q)) (λ v f k. k.0.0.chosen) in
      let z = joined y ks (λ ins q. after (IsAvailable ins) shown (all_read ns) (tail (IsAvailable ins) I read (tail (IsAvailable ins) D (I ∷ read) q))) (λ v k. (k.0.0.0, k.0.0.1, k.0.0.2)) in
      let w = joined z vs (λ ins q. tail (IsAvailable ins) I read (tail (IsAvailable ins) D (I ∷ read) (after (IsAvailable ins) (key_given ++ all_read ns) (D ∷ I ∷ read) q))) (λ v k. (k.0.0.0.0, k.0.0.0.1, k.0.0.0.3, k.0.0.0.4)) in
      stands_as hash_given (HashKnows p t h j value) w (λ ins q. picks (IsAvailable ins) q) (λ v k. (k.0.0.0.1, k.0.0.1, k.0.1, k.1))

module _ {P : Type 0} (part : P) (d : MapDecl) (bits : ℕ) (ns : List (CommitNets (Name P))) (words : List (Name P)) (nets : HashNets (Name P)) (keys : List (Name P)) (values : List (WordNets (Name P))) (fitting : All (IsFitting d) ns) (ws : List (BlockWireTree (Name P)))
    (key_count : length keys ≡ word_count d.key) (value_count : length values ≡ word_count d.value)
    (x :
    (p : ProgramView) (t : TableState) (taken : List ℕ) (h : StageValues) (j : ℕ) (value : List ℕ) → Stands part [] ws (outside_of ns words) (HashNeeds part d ns words nets.inserts nets.deletes keys values p t taken h j value) (hash_given part d ns words nets.inserts nets.deletes keys values)
    (HashKnows part d ns words nets.inserts nets.deletes keys values p t h j value)) where
  abbrev out : List (Operand (Name P))
  out = outside_of ns words

  abbrev given : List (Operand (Name P))
  given = hash_given part d ns words nets.inserts nets.deletes keys values

  abbrev Asked : Env (Name P) → Type 0
  Asked = HashNeeds part d ns words nets.inserts nets.deletes keys values no_program no_tables [] nothing_held 0 []

  abbrev Told : Env (Name P) → Type 0
  Told = HashKnows part d ns words nets.inserts nets.deletes keys values no_program no_tables nothing_held 0 []

  hash_base : Stands part [] ws out Asked given Told
  hash_base = x no_program no_tables [] nothing_held 0 []

  abbrev stand : List (Operand (Name P))
  stand = behind part out ws

  all_are : All (IsAvailable stand) given
  all_are = all_there part ws out given Asked Told hash_base

  insert_is : IsAvailable stand (Net nets.inserts 1)
  insert_is = all_are 0 (Net nets.inserts 1) (omega arith)

  delete_is : IsAvailable stand (Net nets.deletes 1)
  delete_is = all_are 1 (Net nets.inserts 1) (omega arith)

  words_are : All (IsAvailable stand) (key_operands d.key 0 keys ++ value_operands d.value 0 values)
  words_are n e lt = all_are (suc (suc n)) e (omega (arith, lt))

  keys_are : All (IsAvailable stand) (key_operands d.key 0 keys)
  keys_are = before (IsAvailable stand) (key_operands d.key 0 keys) (value_operands d.value 0 values) words_are

  changes_are : All (IsAvailable stand) (value_operands d.value 0 values)
  changes_are = after (IsAvailable stand) (key_operands d.key 0 keys) (value_operands d.value 0 values) words_are

  pub hash_commit : IsHashCommit part d bits ns words nets keys values (wires_block ws)
  hash_commit = record {
    wiring = is_wiring part ws out given Asked Told hash_base;
    key_count = key_count;
    value_count = value_count;
    widths = λ w here declared c s silent idle.
        let s' = names_scope w port_list in
        let all = declared_there part ws out given Asked Told hash_base w here declared in
        record {
          commits = c;
          slot = s;
          writes = silent;
          idle = idle;
          inserts = all (Net nets.inserts 1) insert_is;
          deletes = all (Net nets.deletes 1) delete_is;
          key_words = keys_wide stand d.key s' all nets.inserts (all (Net nets.inserts 1) insert_is) 0 keys keys_are;
          value_words = values_wide stand d.value s' all 0 values changes_are;
        };
    before = λ w earlier later here among others c s silent idle.
        let all = before_later part ws out given Asked Told hash_base w earlier later here among others in
        (c, s, silent, idle, all nets.inserts 1 insert_is, all nets.deletes 1 delete_is);
    there = λ w among others.
        let all = there_in part ws out given Asked Told hash_base w among others in
        ((all nets.inserts 1 insert_is, all nets.deletes 1 delete_is), keys_there stand d.key (IsThere w) all nets.inserts (all nets.inserts 1 insert_is) 0 keys keys_are, values_there stand d.value (IsThere w) all 0 values changes_are);
    asks = λ v p t taken h j fit solved commits writes shown c silent slot.
        let a = (site_at p.sites j).act in
        let old = slot_before p t taken h j in
        let new = slot_after p t taken h j in
        let k = all_known part ws out given (HashNeeds part d ns words nets.inserts nets.deletes keys values p t taken h j old.value) (HashKnows part d ns words nets.inserts nets.deletes keys values p t h j old.value) (x p t taken h j old.value) v fit solved (commits, writes.declared, key_words p t taken h j d writes, writes.value, shown) in
        let is = word_is part ws out given Asked Told hash_base v fit solved in
        let set : v.net nets.inserts ≡ net_bit (makes_entry p t h j) = is nets.inserts 1 (bit (makes_entry p t h j)) insert_is k.0 in
        record {
          commits = c;
          silent = silent;
          in_slot = slot;
          within = within p t taken h j d writes;
          shaped = new_shaped p t taken h j d writes;
          inserts = makes_entry p t h j;
          deletes = is_delete a;
          is_insert = set;
          is_delete = is nets.deletes 1 (bit (is_delete a)) delete_is k.1;
          used = used_new p t taken h j d writes;
          key_words = keys_ask stand d.key v is nets.inserts (makes_entry p t h j) set old.key new.key (asked_key t.decls h (site_at p.sites j)) (key_new p t taken h j d writes) (key_old p t taken h j d writes) 0 keys keys_are k.2;
          value_words =
              values_ask stand d.value v is (changes_word a) old.value new.value (word_left p t taken h j d writes (is_aligned part d ns words values fitting v p j commits.chosen)) 0 values changes_are
              (subst (ShowChanges v (changes_word a) 0 values) (sym (value_new p t taken h j d writes)) k.3);
        };
  }
