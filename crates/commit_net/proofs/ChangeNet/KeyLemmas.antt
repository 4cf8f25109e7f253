-- The key of a change, by what stands for its words.
use Rattle.std.specs.Prelude.{if◌then◌else◌, nat_lt, not, slice_index}
use Rattle.std.specs.Str.{bytes_eq}
use Rattle.std.proofs.Common.{◌≡◌, ◌∙◌, ℕ, zero, suc, ◌*◌, ◌^◌, ◌<◌, ◌≤◌, ◌==◌, Bool, true, false, All, List, [], ◌∷◌, ◌++◌, length, map as map_list, get_or, refl, sym, ap, subst, arith}
use Rattle.std.proofs.lemmas.Bool.{eqb-true, eqb-false, and_parts}
use Rattle.std.proofs.lemmas.List.{get_or-map, length-map, take-append-le}
use Rattle.std.proofs.lemmas.List.Sums.{passes_at_first}
use Rattle.std.proofs.lemmas.Slice.Eq.{bytes_eq-Decides}
use Rattle.net_core.specs.Value.{Env}
use Rattle.byteorder.specs.Endian.{little_bytes}
use Rattle.byteorder.specs.Numbers.{length-bytes_low_first}
use Rattle.byteorder.proofs.Bytes.{take-bytes_low_first}
use Rattle.overlay_net.specs.xdp_maps.declared.decl.MapDecl.{MapDecl}
use Rattle.overlay_net.specs.xdp_maps.declared.decl.MapKind.TheVariants.{Array}
use Rattle.overlay_net.specs.xdp_maps.Contents.{IsBytes, index_key}
use Rattle.overlay_net.specs.xdp_maps.Operations.{key_in}
use Rattle.overlay_net.specs.cell_core.declared.site.Act.{Act}
use Rattle.overlay_net.specs.cell_core.declared.site.Act.TheVariants as act
use Rattle.overlay_net.specs.cell_core.Cells.{bit, on, bits_from, phi}
use Rattle.overlay_net.specs.cell_core.Sites.{ProgramView, SiteView, site_at, bytes_of, operation_with}
use Rattle.overlay_net.specs.hazard_core.declared.slot.Slot.{Slot}
use Rattle.overlay_net.specs.hazard_core.Tables.{TableState, no_slot, decl_of, table_at, slot_at, has_key, slot_of, free_slot}
use Rattle.overlay_net.specs.hazard_core.declared.pointer.Pointer.TheVariants.{Null, InSlot}
use Rattle.overlay_net.specs.hazard_core.StageValues.{StageValues, stage_value, asked_key, slot_pointer, is_delete, written_as, written_pointer}
use Rattle.overlay_net.specs.hazard_core.Commits.{word_count, word_at, slot_under, written_slot, changed_key}
use Rattle.overlay_net.specs.hazard_core.Changes.{IsRightCommit}
use Rattle.overlay_net.specs.cell_nets.declared.operand.Operand.{Operand}
use Rattle.overlay_net.specs.cell_nets.declared.operand.Operand.TheVariants.{Known, Net}
use Rattle.overlay_net.specs.cell_nets.Operands.{number_in, IsOperand, IsFit}
use Rattle.overlay_net.proofs.cell_nets_laws.ChoiceLaws.{number_small}
use Rattle.overlay_net.proofs.cell_core_laws.BitLaws.{small_bits}
use Rattle.commit_net.specs.declared.choosing.CommitNets.{CommitNets}
use Rattle.commit_net.specs.Choosing.{read_of, all_read, IsOnly, Commits}
use Rattle.commit_net.specs.Wholes.{slot_before}
use Rattle.commit_net.specs.ChangeNet.Changes.{owns_key, key_by, key_pairs, key_value, ShowWords}
use Rattle.commit_net.proofs.ChangeNet.WordsLemmas.{of_words, same_bytes}

-- ---- of several operations the one that commits
suc_test : (i k : ℕ) → (suc i == suc k) ≡ (i == k)
suc_test i k = by_test (suc i == suc k) refl (i == k) refl
  where
    by_test : (x : Bool) → (suc i == suc k) ≡ x → (y : Bool) → (i == k) ≡ y → x ≡ y
    by_test true e true f = refl
    by_test false e false f = refl
    by_test true e false f = absurd (eqb-false i k f (let q = eqb-true (suc i) (suc k) e in omega (arith, q)))
    by_test false e true f = absurd (eqb-false (suc i) (suc k) e (ap suc (eqb-true i k f)))

first_test : (k : ℕ) → (0 == suc k) ≡ false
first_test k = by_test (0 == suc k) refl
  where
    by_test : (x : Bool) → (0 == suc k) ≡ x → x ≡ false
    by_test true e = absurd (let q = eqb-true 0 (suc k) e in omega (arith, q))
    by_test false e = refl

pub pairs_only : {N : Type 0} (v : Env N) (w : ℕ) (there : Operand N) (ns : List (CommitNets N)) (k : ℕ) (d : CommitNets N) → IsOnly v ns k → k < length ns → phi (map_list (number_in v) (key_pairs w there ns)) ≡ number_in v (key_by w there (get_or ns k d))
pairs_only v w there [] k d only l = absurd (omega (arith, l))
pairs_only v w there (n ∷ []) zero d only l = refl
pairs_only v w there (n ∷ []) (suc k) d only l = absurd (omega (arith, l))
pairs_only v w there (n ∷ m ∷ ns) zero d only l = ap (λ c. if on c then number_in v (key_by w there n) else phi (map_list (number_in v) (key_pairs w there (m ∷ ns)))) (only 0 n (omega arith))
pairs_only v w there (n ∷ m ∷ ns) (suc k) d only l =
    ap (λ c. if on c then number_in v (key_by w there n) else phi (map_list (number_in v) (key_pairs w there (m ∷ ns)))) (only 0 n (omega arith) ∙ ap bit (first_test k))
    ∙ pairs_only v w there (m ∷ ns) k d (λ i e j. only (suc i) e (omega (arith, j)) ∙ ap bit (suc_test i k)) (omega (arith, l))

-- ---- what holds of all operands of several operations holds of those of each
module _ {N : Type 0} (Q : Operand N → Type 0) where
  pub left_of : (xs ys : List (Operand N)) → All Q (xs ++ ys) → All Q xs
  left_of [] ys h k d lt = absurd (omega (arith, lt))
  left_of (x ∷ xs) ys h zero d lt = h 0 d (omega arith)
  left_of (x ∷ xs) ys h (suc k) d lt = left_of xs ys (λ n e l. h (suc n) e (omega (arith, l))) k d (omega (arith, lt))

  pub right_of : (xs ys : List (Operand N)) → All Q (xs ++ ys) → All Q ys
  right_of [] ys h = h
  right_of (x ∷ xs) ys h = right_of xs ys (λ n e l. h (suc n) e (omega (arith, l)))

  pub read_at : (ns : List (CommitNets N)) (k : ℕ) (d : CommitNets N) → k < length ns → All Q (all_read ns) → All Q (read_of (get_or ns k d))
  read_at [] k d l h = absurd (omega (arith, l))
  read_at (n ∷ ns) zero d l h = left_of (read_of n) (all_read ns) h
  read_at (n ∷ ns) (suc k) d l h = read_at ns k d (omega (arith, l)) (right_of (read_of n) (all_read ns) h)

  keyed : (xs ys : List (Operand N)) (w : ℕ) → Q (Known 0) → All Q (xs ++ ys) → Q (get_or xs w (Known 0))
  keyed [] ys w z h = z
  keyed (x ∷ xs) ys zero z h = h 0 x (omega arith)
  keyed (x ∷ xs) ys (suc w) z h = keyed xs ys w z (λ n e l. h (suc n) e (omega (arith, l)))

  key_of : (n : CommitNets N) (w : ℕ) → Q (Known 0) → All Q (read_of n) → Q (get_or n.nets.now.key.items w (Known 0))
  key_of n w z h = keyed n.nets.now.key.items n.nets.now.operands.items w z (λ k d lt. h (suc (suc (suc k))) d (omega (arith, lt)))

  pub key_by_of : (n : CommitNets N) (w : ℕ) (there : Operand N) → Q (Known 0) → Q there → All Q (read_of n) → Q (key_by w there n)
  key_by_of n w there z h all = by_test (owns_key n.act)
    where
      by_test : (b : Bool) → Q (if b then get_or n.nets.now.key.items w (Known 0) else there)
      by_test true = key_of n w z all
      by_test false = h

-- ---- of a hash
pub own_is : (a : Act) (own held : List ℕ) → owns_key a ≡ true → changed_key a own held ≡ own
own_is act.Update own held e = refl
own_is act.Delete own held e = refl
own_is act.Lookup own held e = cc
own_is (act.Load at size) own held e = cc
own_is (act.Store at size) own held e = cc
own_is (act.Atomic at x) own held e = cc

pub held_is : (a : Act) (own held : List ℕ) → owns_key a ≡ false → changed_key a own held ≡ held
held_is act.Update own held e = cc
held_is act.Delete own held e = cc
held_is act.Lookup own held e = refl
held_is (act.Load at size) own held e = refl
held_is (act.Store at size) own held e = refl
held_is (act.Atomic at x) own held e = refl

key_in_is : (a : Act) (d : MapDecl) (key xs : List ℕ) → bytes_of d.key key ≡ key_in (operation_with d a key xs)
key_in_is act.Lookup d key xs = refl
key_in_is act.Update d key xs = refl
key_in_is act.Delete d key xs = refl
key_in_is (act.Load at size) d key xs = refl
key_in_is (act.Store at size) d key xs = refl
key_in_is (act.Atomic at x) d key xs = refl

own_bytes : (decls : List MapDecl) (h : StageValues) (s : SiteView) (d : MapDecl) → decl_of decls s.map ≡ d → bytes_of d.key (map_list (stage_value h) s.key) ≡ asked_key decls h s
own_bytes decls h s d e = ap (λ (x : MapDecl). bytes_of x.key (map_list (stage_value h) s.key)) (sym e) ∙ key_in_is s.act (decl_of decls s.map) (map_list (stage_value h) s.key) (map_list (stage_value h) s.operands)

module _ {N : Type 0} (v : Env N) (d : MapDecl) (ns : List (CommitNets N)) (c : Operand N) (keys : List N) (outs : List (Operand N)) (count : length keys ≡ word_count d.key) (shown : ShowWords v ns c keys outs) where
  abbrev numbers : List ℕ
  numbers = map_list (number_in v) outs

  enough : d.key ≤ 8 * length numbers
  enough = omega (arith, count, shown.0, length-map outs (number_in v))

  -- a word by what stands for it
  word_is : (w : ℕ) (n : N) → w < word_count d.key → slice_index numbers w ≡ key_value v ns c w (Net (get_or keys w n) 64)
  word_is w n l = get_or-map (number_in v) outs w (Known 0) 0 (omega (arith, l, count, shown.0)) ∙ shown.1 w (Known 0) n (omega (arith, l, count))

  -- where each is the word of a byte string
  pub key_there : (key : List ℕ) → IsBytes d.key key → ((w : ℕ) → w < word_count d.key → slice_index numbers w ≡ word_at key w) → bytes_of d.key numbers ≡ key
  key_there key b h =
      let e = b.len in
      ap (λ n. bytes_of n numbers) (sym e) ∙ of_words numbers key b.bytes_fit (omega (arith, e, enough)) (λ w l. h w (omega (arith, e, l)))

  module _ (fit : (w : ℕ) (n : N) → w < length keys → (v.net (get_or keys w n)).value < 2 ^ 64) where
    -- none commits
    pub key_idle : (d_net : N) (key : List ℕ) → on (number_in v c) ≡ false → IsBytes d.key key → ((w : ℕ) (n : N) → w < word_count d.key → (v.net (get_or keys w n)).value ≡ word_at key w) → bytes_of d.key numbers ≡ key
    key_idle n key off b h = key_there key b (λ w l.
        let x = v.net (get_or keys w n) in
        word_is w n l ∙ ap (λ t. bits_from (if t then phi (map_list (number_in v) (key_pairs w (Net (get_or keys w n) 64) ns)) else x.value) 0 64) off ∙ small_bits x.value 64 (fit w n (omega (arith, l, count))) ∙ h w n l)

    -- the operation of a site commits
    module _ (p : ProgramView) (t : TableState) (taken : List ℕ) (h : StageValues) (j : ℕ) (op : Commits v p t taken h j ns) (yes : on (number_in v c) ≡ true) (operands : All IsOperand (all_read ns)) (fits : All (IsFit v) (all_read ns)) where
      abbrev nets : CommitNets N
      nets = op.chosen.nets

      abbrev site : SiteView
      site = site_at p.sites j

      abbrev place : ℕ
      place = op.chosen.place

      all_of : (Q : Operand N → Type 0) → All Q (all_read ns) → All Q (read_of nets)
      all_of Q a = let is = op.chosen.is in subst (λ m. All Q (read_of m)) is (read_at Q ns place nets op.chosen.within a)

      number_is : (w : ℕ) (n : N) → w < word_count d.key → slice_index numbers w ≡ number_in v (key_by w (Net (get_or keys w n) 64) nets)
      number_is w n l =
          let there = Net (get_or keys w n) 64 in
          let o = key_by w there nets in
          let small : number_in v o < 2 ^ 64 = by_test (owns_key nets.act) in
          word_is w n l
          ∙ ap (λ t. bits_from (if t then phi (map_list (number_in v) (key_pairs w there ns)) else number_in v there) 0 64) yes
          ∙ ap (λ x. bits_from x 0 64) (pairs_only v w there ns place nets op.chosen.only op.chosen.within ∙ ap (λ m. number_in v (key_by w there m)) op.chosen.is)
          ∙ small_bits (number_in v o) 64 small
        where
          by_test : (b : Bool) → number_in v (if b then get_or nets.nets.now.key.items w (Known 0) else Net (get_or keys w n) 64) < 2 ^ 64
          by_test true =
              let key = get_or nets.nets.now.key.items w (Known 0) in
              number_small v key (key_of IsOperand nets w (omega arith) (all_of IsOperand operands)) (key_of (IsFit v) nets w tt (all_of (IsFit v) fits))
          by_test false = fit w n (omega (arith, l, count))

      own_key : d.key ≤ 8 * length site.key → decl_of t.decls site.map ≡ d → N → owns_key site.act ≡ true → bytes_of d.key numbers ≡ asked_key t.decls h site
      own_key wide declared n owns =
          let cells = map_list (stage_value h) site.key in
          let keys_here = nets.nets.now.key.items in
          let shows = op.shows.asked.key in
          let own : owns_key nets.act ≡ true = ap owns_key (sym op.chosen.act) ∙ owns in
          let long : length keys_here ≡ length cells = sym (length-map keys_here (number_in v)) ∙ ap length shows in
          same_bytes d.key numbers cells enough (omega (arith, wide, length-map site.key (stage_value h)))
          (λ w l.
          let there = Net (get_or keys w n) 64 in
          number_is w n l
          ∙ ap (λ b. number_in v (if b then get_or keys_here w (Known 0) else there)) own
          ∙ sym (get_or-map (number_in v) keys_here w (Known 0) 0 (omega (arith, l, wide, long, length-map site.key (stage_value h))))
          ∙ ap (λ xs. slice_index xs w) shows)
          ∙ own_bytes t.decls h site d declared

      held_key : (key : List ℕ) → N → owns_key site.act ≡ false → IsBytes d.key key → ((w : ℕ) (n : N) → w < word_count d.key → (v.net (get_or keys w n)).value ≡ word_at key w) → bytes_of d.key numbers ≡ key
      held_key key n owns b there =
          let own : owns_key nets.act ≡ false = ap owns_key (sym op.chosen.act) ∙ owns in
          key_there key b (λ w l. number_is w n l ∙ ap (λ b. number_in v (if b then get_or nets.nets.now.key.items w (Known 0) else Net (get_or keys w n) 64)) own ∙ there w n l)

      pub key_done :
          (key : List ℕ) → N → d.key ≤ 8 * length site.key → decl_of t.decls site.map ≡ d → (owns_key site.act ≡ false → IsBytes d.key key) → ((w : ℕ) (n : N) → w < word_count d.key → (v.net (get_or keys w n)).value ≡ word_at key w)
          → bytes_of d.key numbers ≡ changed_key site.act (asked_key t.decls h site) key
      key_done key n wide declared b there = by_test (owns_key site.act) refl
        where
          by_test : (o : Bool) → owns_key site.act ≡ o → bytes_of d.key numbers ≡ changed_key site.act (asked_key t.decls h site) key
          by_test true e = own_key wide declared n e ∙ sym (own_is site.act (asked_key t.decls h site) key e)
          by_test false e = held_key key n e (b e) there ∙ sym (held_is site.act (asked_key t.decls h site) key e)

-- ---- of an array
pub index_bytes : (n : ℕ) → bytes_of 4 (n ∷ []) ≡ index_key n
unfolding index_key
index_bytes n = take-append-le 4 (little_bytes 8 n) [] (omega (arith, length-bytes_low_first 0 8 n)) ∙ take-bytes_low_first 0 8 4 n (omega arith)

pub key_at : (key : List ℕ) (s : Slot) → has_key key s ≡ true → s.key ≡ key
key_at key s e = (bytes_eq-Decides s.key key).0 (and_parts s.used (bytes_eq s.key key) e).1

-- a slot under the pointer of a key has that key, where it is used
found_key : (slots : List Slot) (taken : List ℕ) (j : ℕ) (key : List ℕ) → slot_under slots taken j (slot_pointer slots key) < length slots → (slot_at slots (slot_under slots taken j (slot_pointer slots key))).used ≡ true
    → (slot_at slots (slot_under slots taken j (slot_pointer slots key))).key ≡ key
found_key slots taken j key = by_test (nat_lt (slot_of slots key) (length slots)) refl
  where
    unused : (c : Bool) → not c ≡ true → c ≡ true → ⊥
    unused true e f = cc
    unused false e f = cc

    by_test : (b : Bool) → nat_lt (slot_of slots key) (length slots) ≡ b → slot_under slots taken j (if b then InSlot (slot_of slots key) else Null) < length slots → (slot_at slots (slot_under slots taken j (if b then InSlot (slot_of slots key) else Null))).used ≡ true
        → (slot_at slots (slot_under slots taken j (if b then InSlot (slot_of slots key) else Null))).key ≡ key
    by_test true e l used = key_at key (slot_at slots (slot_of slots key)) (passes_at_first (has_key key) slots no_slot l)
    by_test false e l used = absurd (unused (slot_at slots (free_slot slots)).used (passes_at_first (λ s. not s.used) slots no_slot l) used)

module _ (p : ProgramView) (t : TableState) (taken : List ℕ) (h : StageValues) (j : ℕ) (right : IsRightCommit p t taken h j) (kind : (decl_of t.decls (site_at p.sites j).map).kind ≡ Array) (there : has_key (index_key (written_slot p t taken h j)) (slot_before p t taken h j) ≡ true) where
  abbrev here : SiteView
  here = site_at p.sites j

  abbrev own : List ℕ
  own = asked_key t.decls h here

  abbrev slots : List Slot
  slots = table_at t here.map

  abbrev old : Slot
  old = slot_before p t taken h j

  -- the key of the change is that in the slot
  updated : here.act ≡ act.Update → old.key ≡ own
  updated is =
      let at : written_pointer p t h j ≡ slot_pointer slots own = (λ i. written_as (is i) (kind i) p t h j) in
      let same : slot_under slots taken j (slot_pointer slots own) ≡ written_slot p t taken h j = ap (slot_under slots taken j) (sym at) in
      ap (λ n. (slot_at slots n).key) (sym same)
      ∙ found_key slots taken j own (subst (λ n. n < length slots) (sym same) right.slot) (ap (λ n. (slot_at slots n).used) same ∙ (and_parts old.used (bytes_eq old.key (index_key (written_slot p t taken h j))) there).0)

  by_act : (a : Act) → here.act ≡ a → changed_key a own old.key ≡ old.key
  by_act act.Update is = sym (updated is)
  by_act act.Delete is = sym (right.key (ap is_delete is))
  by_act act.Lookup is = refl
  by_act (act.Load at size) is = refl
  by_act (act.Store at size) is = refl
  by_act (act.Atomic at x) is = refl

  pub array_key : changed_key here.act own old.key ≡ index_key (written_slot p t taken h j)
  array_key = by_act here.act refl ∙ key_at (index_key (written_slot p t taken h j)) old there
