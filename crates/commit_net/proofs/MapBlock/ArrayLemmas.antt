-- The parts of an array.
use Rattle.std.proofs.Common.{◌≡◌, ◌∙◌, ℕ, ◌+◌, ◌<◌, List, get_or, sym, ap, subst, arith}
use Rattle.net_core.specs.Ports.{port_list}
use Rattle.net_core.specs.Value.{word, bit, value}
use Rattle.net_core.specs.Clock.{Stored, done}
use Rattle.block_core.specs.declared.name.Name.{Name}
use Rattle.block_core.specs.Blocks.{BlockTree, first_of}
use Rattle.block_core.specs.Formed.{name_width, block_wires, block_memories}
use Rattle.overlay_net.specs.xdp_maps.declared.decl.MapDecl.{MapDecl}
use Rattle.overlay_net.specs.xdp_maps.declared.decl.MapKind.{MapKind}
use Rattle.overlay_net.specs.xdp_maps.declared.decl.MapKind.TheVariants.{Hash, Array}
use Rattle.overlay_net.specs.hazard_core.declared.slot.Slot.{Slot}
use Rattle.overlay_net.specs.hazard_core.Tables.{table_at}
use Rattle.overlay_net.specs.hazard_core.Commits.{word_count}
use Rattle.hash_net.specs.array_net.declared.words.WordNets.{WordNets}
use Rattle.hash_net.specs.array_net.declared.block.MapNets.{MapNets}
use Rattle.hash_net.specs.array_net.Words.{word_width}
use Rattle.hash_net.specs.array_net.WordTrees.{word_memories, word_shown}
use Rattle.hash_net.specs.array_net.Array.{StoresArray, IsArray}
use Rattle.hash_net.proofs.array_net_laws.WordMemoryLaws.{memory_at}
use Rattle.commit_net.specs.declared.choosing.CommitNets.{CommitNets}
use Rattle.commit_net.specs.Fetching.{IsFetch, fetched_words}
use Rattle.commit_net.specs.Wholes.{IsSlotPart, IsArrayCommit}
use Rattle.commit_net.specs.Laws.{ArrayStores}
use Rattle.commit_net.specs.declared.map_block.form.MapForm.{MapForm}
use Rattle.commit_net.specs.declared.map_block.parts.MapParts.{MapParts}
use Rattle.commit_net.specs.declared.map_block.parts.ControlNets.{ControlNets}
use Rattle.commit_net.specs.MapBlock.Forms.{FormFits}
use Rattle.commit_net.specs.MapBlock.Parts.{MapTrees, with_slot_net}
use Rattle.commit_net.specs.MapBlock.Stored.{StoresAs, StoresMap, IsFirst_as, first_value_as, host_may_as, host_word_as}
use Rattle.commit_net.specs.MapBlock.Block.{IsOwnPart, AreFormed, DoesMap, IsMapBlock}
use Rattle.commit_net.proofs.MapBlock.FormedLemmas.{are_formed}
use Rattle.commit_net.proofs.MapBlock.HostLemmas.{may_is, table_is, shown_is}
use Rattle.commit_net.proofs.MapBlock.MayLemmas.{array_may}

value_memory : (bits : ℕ) (d : MapDecl) (k : ℕ) → k < word_count d.value → get_or (word_memories bits d.value) (0 + k) (0, 0) ≡ (bits, word_width d.value k)
value_memory bits d k l = let y : 0 + k ≡ k = omega arith in ap (λ i. get_or (word_memories bits d.value) i (0, 0)) y ∙ memory_at bits d.value 0 (word_count d.value) k l ∙ ap (λ i. (bits, word_width d.value i)) y

module _ {P : Type 0} (f : MapForm) (ps : MapParts P) (c : ControlNets (Name P)) (ns : List (CommitNets (Name P))) (bs : MapTrees (Name P)) (values : List (WordNets (Name P))) where
  abbrev d : MapDecl
  d = f.decl

  abbrev own : P
  own = ps.own

  abbrev count : ℕ
  count = word_count f.decl.value

  abbrev nets : MapNets (Name P)
  nets = with_slot_net c bs.slot

  module _ (kind : d.kind ≡ Array) (form_fits : FormFits f) (find : IsSlotPart ps.finder f.bits ns bs.slot bs.finds) (fetch : IsFetch ps.fetcher own f.bits 0 d.value 0 count bs.slot bs.fetches) (ask : IsArrayCommit ps.asker d ns (fetched_words ps.fetcher count) values bs.asks)
      (block : IsArray own f.number d f.bits nets values bs.stores) (stores_law : ArrayStores P) where
    stored : IsOwnPart f bs.stores
    stored = record {
      values = λ j l. subst (λ k. get_or (block_memories bs.stores) (first_value_as k d + j) (0, 0) ≡ (f.bits, word_width d.value j)) (sym kind) (ap (λ ms. get_or ms (0 + j) (0, 0)) block.memories ∙ value_memory f.bits d j l);
      counter = λ hash. let both : Hash ≡ Array = sym hash ∙ kind in cc;
      table = λ hash. let both : Hash ≡ Array = sym hash ∙ kind in cc;
    }

    formed : AreFormed f ps c ns bs
    formed =
        are_formed f ps c ns bs 0 find fetch ask.wiring (λ j l. ap (λ ms. get_or ms (0 + j) (0, 0)) block.memories ∙ value_memory f.bits d j l)
        (λ w here asked declared one wide. block.typed w here one.0 wide one.1 (ask.widths w asked declared))
        (λ w before own_there asked among given control at. block.ordered w before own_there control.0 at control.1)
        (λ w own_there asker_there given control at. block.reads w own_there control.0 (ask.there w asker_there given))
        (record { within = block.within; wires_spelled = block.wires_spelled; spelled = block.spelled; free = block.free }) block.goes
        (λ w here. subst (λ k. name_width w port_list (host_word_as k own) ≡ 64) (sym kind) (ap (λ (b : BlockTree (Name P)). get_or (block_wires b) 3 0) here ∙ ap (λ l. get_or l 3 0) block.wires))
        (array_may f ps c bs kind form_fits) stored

    to_map : (slots : List Slot) (s : Stored) → StoresArray d f.bits slots s → StoresMap d f.bits slots s
    to_map slots s h = subst (λ k. StoresAs k d f.bits slots s) (sym kind) h

    of_map : (slots : List Slot) (s : Stored) → StoresMap d f.bits slots s → StoresArray d f.bits slots s
    of_map slots s h = subst (λ k. StoresAs k d f.bits slots s) kind h

    does : DoesMap f ps c ns bs
    does = record {
      first = λ slots e. to_map slots (first_of bs.stores) (block.first slots (subst (λ k. IsFirst_as k d slots) kind e));
      stays = λ v s solve none silent. block.stays v s solve.3 none silent;
      commits = λ v s p t taken h j solve sees stores on is.
          to_map _ (done v bs.stores.statement s)
          (stores_law ps.finder ps.fetcher ps.asker own f.number d f.bits ns nets values bs.finds bs.fetches bs.asks bs.stores kind form_fits.room find fetch ask block v s p t taken h j solve.0 solve.1 solve.2 solve.3 sees.memories (of_map _ s stores) on is);
      finds = λ v p t taken h j fit solve on small. find.shows v p t taken h j fit solve.0 on small;
      written = λ v s t a number idle solve sees m stores host none on is_idle.
          let slots = table_at t f.number in
          let array = of_map slots s stores in
          to_map _ (done v bs.stores.statement s) (subst (λ l. StoresArray d f.bits l (done v bs.stores.statement s)) (table_is f t a m array.count form_fits.limits.cap_some idle number) (block.written v s slots a number idle solve.3 array host none on));
      allows = λ v s t a number idle solve sees m stores host is_idle.
          let slots = table_at t f.number in
          let array = of_map slots s stores in
          ap (λ k. value v (host_may_as k f own c.idle)) kind ∙ block.allows v s slots a number idle array host ∙ ap bit (may_is f t a m array.count form_fits.limits.cap_some idle);
      shows = λ v s t a number solve sees m stores host.
          let slots = table_at t f.number in
          let array = of_map slots s stores in
          ap (λ (k : MapKind). v.net (host_word_as k own)) kind ∙ block.shows v s slots a number solve.3 array host sees.memories ∙ ap (word 64) (shown_is f t a m array.count form_fits.limits.cap_some);
      loads = λ v s slots index n j sees stores at less there. ap (λ k. value v (word_shown own (first_value_as k d) d.value j index)) kind ∙ block.loads v s slots index n j (of_map slots s stores) sees.memories at less there;
      counts = λ v s slots is sees stores. let both : Hash ≡ Array = sym is ∙ kind in cc;
    }

    pub array_block : IsMapBlock f ps c ns bs
    array_block = record { formed = formed; does = does }
