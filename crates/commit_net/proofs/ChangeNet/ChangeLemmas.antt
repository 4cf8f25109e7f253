-- The part of what a clock changes is what it is to be.
use Rattle.std.specs.Prelude.{Contains}
use Rattle.std.proofs.Common.{◌≡◌, ◌∙◌, ℕ, suc, ◌*◌, ◌^◌, ◌<◌, ◌≤◌, ◌==◌, Bool, ◌&&◌, ◌||◌, All, List, [], ◌∷◌, ◌++◌, length, map as map_list, get_or, refl, sym, ap, subst, arith}
use Rattle.std.proofs.lemmas.List.{get_or-map, length-map}
use Rattle.std.proofs.lemmas.List.Elements.{Contains-get_or}
use Rattle.net_core.specs.declared.tree.Word.{Word}
use Rattle.net_core.specs.Value.{word, bit as net_bit, Env}
use Rattle.block_core.specs.declared.name.Name.{Name}
use Rattle.block_core.specs.Blocks.{BlockWireTree}
use Rattle.block_core.specs.Parts.{Solve}
use Rattle.overlay_net.specs.xdp_maps.declared.decl.MapDecl.{MapDecl}
use Rattle.overlay_net.specs.xdp_maps.declared.decl.MapKind.{MapKind}
use Rattle.overlay_net.specs.xdp_maps.declared.decl.MapKind.TheVariants.{Hash, Array}
use Rattle.overlay_net.specs.xdp_maps.Contents.{IsWithinLimits, limits_as, index_key}
use Rattle.overlay_net.specs.cell_core.Cells.{bit, on}
use Rattle.overlay_net.specs.cell_core.Sites.{ProgramView, site_at, bytes_of}
use Rattle.overlay_net.specs.hazard_core.declared.access.Access.{Access}
use Rattle.overlay_net.specs.hazard_core.declared.change.Change.{Change}
use Rattle.overlay_net.specs.hazard_core.Tables.{TableState, table_at, slot_at}
use Rattle.overlay_net.specs.hazard_core.StageValues.{StageValues, is_delete, asked_key}
use Rattle.overlay_net.specs.hazard_core.Commits.{word_count, makes_entry, written_slot, changed_key, change_by, host_change}
use Rattle.hash_net.specs.array_net.Hosts.{SeesHost}
use Rattle.overlay_net.specs.cell_nets.declared.operand.Operand.{Operand}
use Rattle.overlay_net.specs.cell_nets.declared.operand.Operand.TheVariants.{Net}
use Rattle.overlay_net.specs.cell_nets.Operands.{number_in, HasWidth, IsOperand, IsWide, IsFit, AreFit, IsAvailable}
use Rattle.overlay_net.specs.cell_nets.Wires.{behind, always, Gives}
use Rattle.overlay_net.specs.cell_nets.StepNets.Standing.{Stands}
use Rattle.overlay_net.proofs.cell_nets_laws.StepNets.ChainLaws.{starts, next}
use Rattle.overlay_net.proofs.cell_nets_laws.StepNets.StepLaws.{all_each, on_bit}
use Rattle.commit_net.specs.declared.choosing.CommitNets.{CommitNets}
use Rattle.commit_net.specs.Choosing.{all_read, HasOperands}
use Rattle.commit_net.specs.Wholes.{slot_before}
use Rattle.overlay_net.specs.cell_nets.OperandBlocks.Wiring.{wires_block}
use Rattle.overlay_net.proofs.cell_nets_laws.OperandBlocks.WiringLaws.{all_there, all_known, is_wiring, word_is, offers}
use Rattle.read_net.specs.declared.touch_net.change.ChangeNets.{ChangeNets}
use Rattle.read_net.specs.TouchNet.Touching.{ShowsChange}
use Rattle.commit_net.specs.ChangeNet.Pointed.{word_operands}
use Rattle.commit_net.specs.ChangeNet.Written.{key_count, key_count_as}
use Rattle.commit_net.specs.ChangeNet.Changes.{ShowKeys, ShowKeys_as, ShowsPresence, ShowsKey_as, host_map, change_outside, change_given, StandsFor, IsCommitting, IsNaming, IsChange}
use Rattle.commit_net.proofs.ChangeNet.ChainLemmas.{first_of, tail, stands_as, joined}
use Rattle.commit_net.proofs.ChangeNet.KeyLemmas.{left_of, right_of, key_idle, key_done, index_bytes, key_at, array_key}
use Rattle.commit_net.proofs.ChangeNet.PairLemmas.{all_operands}

-- ---- the change of a commit
change_is : (p : ProgramView) (t : TableState) (taken : List ℕ) (h : StageValues) (j : ℕ)
    → change_by p t taken h j ≡ record { map = (site_at p.sites j).map; slot = written_slot p t taken h j; key = changed_key (site_at p.sites j).act (asked_key t.decls h (site_at p.sites j)) (slot_before p t taken h j).key; presence = is_delete (site_at p.sites j).act || makes_entry p t h j }
unfolding change_by
change_is p t taken h j = refl

-- ---- the part
module _ {P : Type 0} (part : P) (number : ℕ) (d : MapDecl) (bits : ℕ) (ns : List (CommitNets (Name P))) (commits host slot : Name P) (keys : List (Name P)) (key : List (Operand (Name P))) (presence : Operand (Name P)) (any by_host : Name P) where
  abbrev acts : Operand (Name P)
  acts = Net commits 1

  abbrev at : Operand (Name P)
  at = Net slot bits

  abbrev rest : List (Operand (Name P))
  rest = word_operands keys ++ all_read ns

  abbrev out : List (Operand (Name P))
  out = change_outside bits commits host slot keys ns

  abbrev given : List (Operand (Name P))
  given = Net any 1 ∷ Net by_host 1 ∷ key ++ presence ∷ out

  abbrev by_host_is : Env (Name P) → ℕ
  by_host_is v = bit (on (v.net host).value && (number_in v host_map == number))

  abbrev any_is : Env (Name P) → ℕ
  any_is v = bit (on (v.net commits).value || on (v.net by_host).value)

  abbrev Knows : Env (Name P) → Type 0
  Knows v = (((always v × ShowsPresence v ns acts presence) × ShowKeys v d ns acts at keys key) × ((v.net by_host).value ≡ by_host_is v)) × ((v.net any).value ≡ any_is v)

  from_out : (Q : Operand (Name P) → Type 0) → All Q out → All Q (acts ∷ at ∷ rest)
  from_out Q h = first_of Q acts (at ∷ rest) (h 0 acts (omega arith)) (first_of Q at rest (h 2 acts (omega arith)) (λ k e lt. h (suc (suc (suc (suc k)))) e (omega (arith, lt))))

  pub change_stands :
      {one two three ws : List (BlockWireTree (Name P))} → Stands part [] one (acts ∷ all_read ns) always (presence ∷ []) (λ v. ShowsPresence v ns acts presence) → Stands part one two (acts ∷ at ∷ rest) always key (λ v. ShowKeys v d ns acts at keys key)
      → Gives part two three (Net host 1 ∷ host_map ∷ []) always by_host_is 1 (Net by_host 1) → Gives part three ws (acts ∷ Net by_host 1 ∷ []) always any_is 1 (Net any 1) → Stands part [] ws out always given Knows
  change_stands x y z w =
      let a = joined (starts part [] out always) x (λ ins h. let r = from_out (IsAvailable ins) h in first_of (IsAvailable ins) acts (all_read ns) (r 0 acts (omega arith)) (right_of (IsAvailable ins) (word_operands keys) (all_read ns) (tail (IsAvailable ins) at rest (tail (IsAvailable ins) acts (at ∷ rest) r)))) (λ v k. tt) in
      let b = joined a y (λ ins h. from_out (IsAvailable ins) (tail (IsAvailable ins) presence out h)) (λ v k. tt) in
      let c = next b z (λ ins h. let r = right_of (IsAvailable ins) key (presence ∷ out) h in all_each (IsAvailable ins) (Net host 1 ∷ host_map ∷ []) (r 2 acts (omega arith), (r 4 acts (omega arith), tt))) (λ v f k. tt) in
      next c w (λ ins h. let r = right_of (IsAvailable ins) key (presence ∷ out) (tail (IsAvailable ins) (Net by_host 1) (key ++ presence ∷ out) h) in all_each (IsAvailable ins) (acts ∷ Net by_host 1 ∷ []) (r 1 acts (omega arith), (h 0 acts (omega arith), tt))) (λ v f k. tt)

  module _ (wide : IsWide bits) (limits : IsWithinLimits d) (count : length keys ≡ key_count d) (sites : All HasOperands ns) (key_operands : All IsOperand key) (enough : d.key ≤ 8 * length key) (presence_operand : IsOperand presence) (ws : List (BlockWireTree (Name P))) (x : Stands part [] ws out always given Knows) where
    shared : (Q : Operand (Name P) → Type 0) → All Q given → All Q (change_given at key presence any by_host)
    shared Q h =
        let k = λ (i : ℕ) (e : Operand (Name P)) (lt : i < length (key ++ presence ∷ out)). h (suc (suc i)) e (omega (arith, lt)) in
        let r = right_of Q key (presence ∷ out) k in
        first_of Q at (presence ∷ Net any 1 ∷ Net by_host 1 ∷ key) (r 3 at (omega arith)) (first_of Q presence (Net any 1 ∷ Net by_host 1 ∷ key) (r 0 at (omega arith)) (first_of Q (Net any 1) (Net by_host 1 ∷ key) (h 0 at (omega arith)) (first_of Q (Net by_host 1) key (h 1 at (omega arith)) (left_of Q key (presence ∷ out) k))))

    operands_are : All IsOperand (change_given at key presence any by_host)
    operands_are =
        let one : IsWide 1 = record { some = omega arith; most = omega arith } in
        first_of IsOperand at (presence ∷ Net any 1 ∷ Net by_host 1 ∷ key) wide (first_of IsOperand presence (Net any 1 ∷ Net by_host 1 ∷ key) presence_operand (first_of IsOperand (Net any 1) (Net by_host 1 ∷ key) one (first_of IsOperand (Net by_host 1) key one key_operands)))

    there : All (IsAvailable (behind part out ws)) given
    there = all_there part ws out given always Knows x

    known : (v : Env (Name P)) → AreFit v out → Solve v part 0 ws → Knows v
    known v f s = all_known part ws out given always Knows x v f s tt

    -- ---- what comes from outside fits
    fits : (v : Env (Name P)) → AreFit v out → All (IsFit v) rest
    fits v f k e lt = f (get_or rest k e) (suc (suc (suc (suc (Contains-get_or rest k e lt).0))), omega (arith, (Contains-get_or rest k e lt).1), (Contains-get_or rest k e lt).2)

    word_fits : (v : Env (Name P)) → AreFit v out → (w : ℕ) (n : Name P) → w < length keys → (v.net (get_or keys w n)).value < 2 ^ 64
    word_fits v f w n l =
        let all = left_of (IsFit v) (word_operands keys) (all_read ns) (fits v f) in
        let net : Name P → Operand (Name P) = λ m. Net m 64 in
        let one : HasWidth v (get_or keys w n) 64 = subst (IsFit v) (get_or-map net keys w n (Net n 64) l) (all w (Net n 64) (omega (arith, l, length-map keys net))) in
        one.small

    abbrev reads : List (Operand (Name P))
    reads = all_read ns

    four : d.kind ≡ Array → d.key ≡ 4
    four kind = (subst (λ k. limits_as k d) kind limits.by_kind).0

    words : d.kind ≡ Hash → length keys ≡ word_count d.key
    words kind = count ∙ ap (λ k. key_count_as k d) kind

    -- the key of an array
    array_is : (v : Env (Name P)) (n : ℕ) → d.kind ≡ Array → ShowKeys v d ns acts at keys key → v.net slot ≡ word bits n → bytes_of d.key (map_list (number_in v) key) ≡ index_key n
    array_is v n kind shown s =
        let e : key ≡ at ∷ [] = subst (λ k. ShowKeys_as k v ns acts at keys key) kind shown in
        ap (λ l. bytes_of d.key (map_list (number_in v) l)) e ∙ ap (λ (w : Word). bytes_of d.key (w.value ∷ [])) s ∙ ap (λ k. bytes_of k (n ∷ [])) (four kind) ∙ index_bytes n

    commit_key : (v : Env (Name P)) (p : ProgramView) (t : TableState) (taken : List ℕ) (h : StageValues) (j : ℕ) → AreFit v out → Solve v part 0 ws → IsCommitting v p t taken h j d bits ns commits slot keys
        → bytes_of d.key (map_list (number_in v) key) ≡ changed_key (site_at p.sites j).act (asked_key t.decls h (site_at p.sites j)) (slot_before p t taken h j).key
    commit_key v p t taken h j f s is = by_kind d.kind refl
      where
        by_kind : (k : MapKind) → d.kind ≡ k → bytes_of d.key (map_list (number_in v) key) ≡ changed_key (site_at p.sites j).act (asked_key t.decls h (site_at p.sites j)) (slot_before p t taken h j).key
        by_kind Hash e =
            key_done v d ns acts keys key (words e) (subst (λ k. ShowKeys_as k v ns acts at keys key) e (known v f s).0.0.1) (word_fits v f) p t taken h j is.operation (ap (λ (w : Word). on w.value) is.acts) (all_operands IsOperand ns sites) (right_of (IsFit v) (word_operands keys) reads (fits v f))
            (slot_before p t taken h j).key commits (subst (λ (m : MapDecl). m.key ≤ 8 * length (site_at p.sites j).key) is.declared is.fits.key) is.declared is.bytes (subst (λ k. ShowsKey_as k v d keys (written_slot p t taken h j) (slot_before p t taken h j)) e is.key)
        by_kind Array e =
            array_is v (written_slot p t taken h j) e (known v f s).0.0.1 is.in_slot
            ∙ sym (array_key p t taken h j is.right (ap (λ (m : MapDecl). m.kind) is.declared ∙ e) (subst (λ k. ShowsKey_as k v d keys (written_slot p t taken h j) (slot_before p t taken h j)) e is.key))

    host_key : (v : Env (Name P)) (t : TableState) (a : Access) → AreFit v out → Solve v part 0 ws → IsNaming v t a d bits commits slot keys → bytes_of d.key (map_list (number_in v) key) ≡ (slot_at (table_at t a.map) a.index).key
    host_key v t a f s is = by_kind d.kind refl
      where
        by_kind : (k : MapKind) → d.kind ≡ k → bytes_of d.key (map_list (number_in v) key) ≡ (slot_at (table_at t a.map) a.index).key
        by_kind Hash e =
            let old = slot_at (table_at t a.map) a.index in
            key_idle v d ns acts keys key (words e) (subst (λ k. ShowKeys_as k v ns acts at keys key) e (known v f s).0.0.1) (word_fits v f) commits old.key (ap (λ (w : Word). on w.value) is.idle) is.bytes (subst (λ k. ShowsKey_as k v d keys a.index old) e is.key)
        by_kind Array e =
            let old = slot_at (table_at t a.map) a.index in
            array_is v a.index e (known v f s).0.0.1 is.in_slot ∙ sym (key_at (index_key a.index) old (subst (λ k. ShowsKey_as k v d keys a.index old) e is.key))

    -- operands that are these show a change
    shows : (v : Env (Name P)) (e : Change) (c : ChangeNets (Name P)) → StandsFor at key presence c → v.net slot ≡ word bits e.slot → bytes_of d.key (map_list (number_in v) key) ≡ e.key → number_in v presence ≡ bit e.presence → ShowsChange v d.key e c
    shows v e c is s k p = record {
      slot = ap (number_in v) is.slot_is ∙ ap (λ (w : Word). w.value) s;
      key = ap (λ l. bytes_of d.key (map_list (number_in v) l)) is.key_is ∙ k;
      presence = ap (number_in v) is.presence_is ∙ p;
    }

    net_is : (v : Env (Name P)) → AreFit v out → Solve v part 0 ws → (n : Name P) (k : ℕ) → Contains (behind part out ws) (Net n 1) → (v.net n).value ≡ k → v.net n ≡ word 1 k
    net_is v f s n k c e = word_is part ws out given always Knows x v f s n 1 k c e

    host_value : (v : Env (Name P)) (a : Access) (n : ℕ) (h : Bool) → AreFit v out → Solve v part 0 ws → SeesHost v a n → v.net host ≡ net_bit h → (v.net by_host).value ≡ bit (h && (a.map == number))
    host_value v a n h f s sees is =
        (known v f s).0.1 ∙ ap (λ (w : Word). bit (on w.value && (number_in v host_map == number))) is ∙ ap (λ b. bit (b && (number_in v host_map == number))) (on_bit h) ∙ ap (λ (w : Word). bit (h && (w.value == number))) sees.map

    pub is_change : IsChange part number d bits ns commits host slot keys at key presence any by_host (wires_block ws)
    is_change = record {
      wiring = is_wiring part ws out given always Knows x;
      offers = offers part ws out (change_given at key presence any by_host) always Knows (stands_as (change_given at key presence any by_host) Knows x (λ ins h. shared (IsAvailable ins) h) (λ v k. k)) operands_are;
      nets = λ c is. record {
        operands = first_of IsOperand c.slot (c.presence ∷ c.key.now) (subst IsOperand (sym is.slot_is) wide) (first_of IsOperand c.presence c.key.now (subst IsOperand (sym is.presence_is) presence_operand) (subst (All IsOperand) (sym is.key_is) key_operands));
        key = omega (arith, enough, ap length is.key_is);
      };
      committed = λ v p t taken h j c f s is stands.
          subst (λ e. ShowsChange v d.key e c) (sym (change_is p t taken h j))
          (shows v _ c stands is.in_slot (commit_key v p t taken h j f s is) ((known v f s).0.0.0.1.1 p t taken h j is.operation (ap (λ (w : Word). on w.value) is.acts)));
      written = λ v t a c f s is stands. shows v (host_change t a) c stands is.in_slot (host_key v t a f s is) ((known v f s).0.0.0.1.0 (ap (λ (w : Word). on w.value) is.idle));
      says_any = λ v a n c h f s sees acting writing.
          net_is v f s any (bit (c || (h && (a.map == number)))) (there 0 at (omega arith))
          ((known v f s).1 ∙ ap (λ (w : Word). bit (on w.value || on (v.net by_host).value)) acting ∙ ap (λ b. bit (b || on (v.net by_host).value)) (on_bit c) ∙ ap (λ k. bit (c || on k)) (host_value v a n h f s sees writing) ∙ ap (λ b. bit (c || b)) (on_bit (h && (a.map == number))));
      says_host = λ v a n h f s sees writing. net_is v f s by_host (bit (h && (a.map == number))) (there 1 at (omega arith)) (host_value v a n h f s sees writing);
    }
