-- Where a key is found over one operation, by the operands that stand for it.
use Rattle.std.specs.Prelude.{not, nat_lt, if◌then◌else◌, fold, slice_index}
use Rattle.std.specs.Str.{bytes_eq}
use Rattle.std.proofs.Common.{◌≡◌, ◌≢◌, ◌∙◌, ℕ, zero, suc, ◌+◌, ◌<◌, Bool, true, false, ◌&&◌, All, List, [], ◌∷◌, ◌++◌, length, take, get_or, refl, sym, ap, subst, arith, map as map_list}
use Rattle.std.proofs.lemmas.List.Elements.{All-append}
use Rattle.std.proofs.lemmas.List.Sums.{fold_more}
use Rattle.block_core.specs.Blocks.{BlockWireTree}
use Rattle.block_core.specs.declared.name.Name.{Name}
use Rattle.block_core.specs.net_core.Value.{Env}
use Rattle.hazard_core.specs.xdp_maps.declared.decl.MapDecl.{MapDecl}
use Rattle.hazard_core.specs.xdp_maps.declared.decl.MapKind.TheVariants as kind
use Rattle.hazard_core.specs.cell_core.declared.site.Act.{Act}
use Rattle.hazard_core.specs.cell_core.declared.site.Act.TheVariants as act
use Rattle.hazard_core.specs.cell_core.Cells.{bit, on}
use Rattle.hazard_core.specs.cell_core.Sites.{ProgramView, site_at, bytes_of, operation_with}
use Rattle.hazard_core.specs.Tables.{TableState, decl_of, table_at}
use Rattle.hazard_core.specs.declared.pointer.Pointer.{Pointer}
use Rattle.hazard_core.specs.declared.pointer.Pointer.TheVariants.{Null}
use Rattle.hazard_core.specs.StageValues.{StageValues, stage_value, asked_key, slot_pointer, writes, written_pointer}
use Rattle.hazard_core.specs.Overlay.{found_as, found_over, key_pointer_as, key_pointer, looks, found_pointer}
use Rattle.hazard_core.proofs.ActsLaws.{key_is}
use Rattle.cell_nets.specs.declared.operand.Operand.{Operand}
use Rattle.cell_nets.specs.Operands.{number_in, IsAvailable}
use Rattle.cell_nets.specs.Wires.{always, Gives}
use Rattle.overlay_net.specs.SiteOperands.Pointers.{pointer_number}
use Rattle.overlay_net.specs.SiteOperands.Sites.{SiteOperands, operands_of, all_of, ShowsAsked}
use Rattle.overlay_net.specs.declared.site_operands.Pending.{Pending}
use Rattle.overlay_net.specs.Reading.{ShowsSlot}
use Rattle.overlay_net.specs.Seen.{read_of, all_read, IsOf, ShowsPending, AreOf, ShowPending}
use Rattle.overlay_net.proofs.SiteOperandLaws.{keys_of}
use Rattle.cell_nets.proofs.StepNets.ChainLaws.{starts, next, last}
use Rattle.cell_nets.proofs.StepNets.StepLaws.{on_bit}

-- ---- of several operands some
module _ {X : Type 0} (Q : X → Type 0) where
  pub left_of : (xs ys : List X) → All Q (xs ++ ys) → All Q xs
  left_of [] ys h k d lt = absurd (omega arith)
  left_of (x ∷ xs) ys h zero d lt = h 0 d (omega arith)
  left_of (x ∷ xs) ys h (suc k) d lt = left_of xs ys (λ n e l. h (suc n) e (omega arith)) k d (omega arith)

  pub right_of : (xs ys : List X) → All Q (xs ++ ys) → All Q ys
  right_of [] ys h = h
  right_of (x ∷ xs) ys h = right_of xs ys (λ n e l. h (suc n) e (omega arith))

  pub first_of : (x : X) (xs : List X) → Q x → All Q xs → All Q (x ∷ xs)
  first_of x xs h k zero d lt = h
  first_of x xs h k (suc n) d lt = k n d (omega arith)

  pub tail_of : (x : X) (xs : List X) → All Q (x ∷ xs) → All Q xs
  tail_of x xs h n d lt = h (suc n) d (omega arith)

pub keys_read : {N : Type 0} (Q : Operand N → Type 0) (d : Pending N) → All Q (read_of d) → All Q d.nets.now.key.items
keys_read Q d h = keys_of Q (operands_of d.nets.now) (λ n e lt. h (suc (suc n)) e (omega arith))

-- one of the operations
pub read_at : {N : Type 0} (Q : Operand N → Type 0) (ds : List (Pending N)) (k : ℕ) (d : Pending N) → k < length ds → d ≡ get_or ds k d → All Q (all_read ds) → All Q (read_of d)
read_at Q [] k d lt is h = absurd (omega arith)
read_at Q (e ∷ ds) zero d lt is h = subst (λ x. All Q (read_of x)) (sym is) (left_of Q (read_of e) (all_read ds) h)
read_at Q (e ∷ ds) (suc k) d lt is h = read_at Q ds k d (omega arith) is (right_of Q (read_of e) (all_read ds) h)

-- ---- keys

-- ---- keys
pub shown_key : {N : Type 0} (v : Env N) (p : ProgramView) (t : TableState) (h : StageValues) (j n : ℕ) (s : SiteOperands N) → (decl_of t.decls (site_at p.sites j).map).key ≡ n → ShowsAsked v p h j s → bytes_of n (map_list (number_in v) s.key) ≡ asked_key t.decls h (site_at p.sites j)
shown_key v p t h j n s e k =
    ap (bytes_of n) k.key
    ∙ ap (λ m. bytes_of m (map_list (stage_value h) (site_at p.sites j).key)) (sym e)
    ∙ sym (key_is (decl_of t.decls (site_at p.sites j).map) (site_at p.sites j).act (map_list (stage_value h) (site_at p.sites j).key) (map_list (stage_value h) (site_at p.sites j).operands))

inside : (b : Bool) (q r : Pointer) → (if b then pointer_number q else pointer_number r) ≡ pointer_number (if b then q else r)
inside true q r = refl
inside false q r = refl

-- ---- over one operation
module _ {N : Type 0} (v : Env N) (p : ProgramView) (t : TableState) (h : StageValues) (m i bytes : ℕ) (own : List ℕ) (f : Pointer) (d : Pending N) (is : IsOf p m i d) (key : (decl_of t.decls m).key ≡ bytes) (s : ShowsPending v p t h i d) where
  over : found_over p t h own f i ≡ (if on (number_in v d.writes) && bytes_eq (bytes_of bytes (map_list (number_in v) d.nets.now.key.items)) own then found_as d.act (written_pointer p t h i) f else f)
  over =
      ap (λ b. if b && bytes_eq (asked_key t.decls h (site_at p.sites i)) own then found_as (site_at p.sites i).act (written_pointer p t h i) f else f) (sym (ap on s.writes ∙ on_bit (writes p t.decls h i)))
      ∙ ap (λ l. if on (number_in v d.writes) && bytes_eq l own then found_as (site_at p.sites i).act (written_pointer p t h i) f else f)
      (sym (shown_key v p t h i bytes (operands_of d.nets.now) (ap (λ n. (decl_of t.decls n).key) is.map ∙ key) s.site.asked))
      ∙ ap (λ a. if on (number_in v d.writes) && bytes_eq (bytes_of bytes (map_list (number_in v) d.nets.now.key.items)) own then found_as a (written_pointer p t h i) f else f) is.act

  -- where a number stands for the entry that it is to be found in
  pub over_number : (new : ℕ) → new ≡ pointer_number (found_as d.act (written_pointer p t h i) f)
      → (if on (number_in v d.writes) && bytes_eq (bytes_of bytes (map_list (number_in v) d.nets.now.key.items)) own then new else pointer_number f) ≡ pointer_number (found_over p t h own f i)
  over_number new e =
      let hit = on (number_in v d.writes) && bytes_eq (bytes_of bytes (map_list (number_in v) d.nets.now.key.items)) own in
      ap (λ n. if hit then n else pointer_number f) e ∙ inside hit (found_as d.act (written_pointer p t h i) f) f ∙ ap pointer_number (sym over)

  -- or none changes it
  pub over_none : found_as d.act (written_pointer p t h i) f ≡ f → pointer_number f ≡ pointer_number (found_over p t h own f i)
  over_none e = same hit ∙ ap (λ n. if hit then n else pointer_number f) (ap pointer_number (sym e)) ∙ inside hit (found_as d.act (written_pointer p t h i) f) f ∙ ap pointer_number (sym over)
    where
      hit : Bool
      hit = on (number_in v d.writes) && bytes_eq (bytes_of bytes (map_list (number_in v) d.nets.now.key.items)) own

      same : (b : Bool) → pointer_number f ≡ (if b then pointer_number f else pointer_number f)
      same true = refl
      same false = refl

-- ---- over all of them
pub hash_key : (p : ProgramView) (t : TableState) (h : StageValues) (before : List ℕ) (j : ℕ) (d : MapDecl) → decl_of t.decls (site_at p.sites j).map ≡ d → d.kind ≡ kind.Hash
    → key_pointer p t h before j ≡ fold (found_over p t h (asked_key t.decls h (site_at p.sites j))) (slot_pointer (table_at t (site_at p.sites j).map) (asked_key t.decls h (site_at p.sites j))) before
hash_key p t h before j d e k =
    ap (λ (x : MapDecl). key_pointer_as x.kind p t h before (site_at p.sites j).map (asked_key t.decls h (site_at p.sites j))) e
    ∙ ap (λ x. key_pointer_as x p t h before (site_at p.sites j).map (asked_key t.decls h (site_at p.sites j))) k

pub array_key : (p : ProgramView) (t : TableState) (h : StageValues) (before : List ℕ) (j : ℕ) (d : MapDecl) → decl_of t.decls (site_at p.sites j).map ≡ d → d.kind ≡ kind.Array
    → key_pointer p t h before j ≡ slot_pointer (table_at t (site_at p.sites j).map) (asked_key t.decls h (site_at p.sites j))
array_key p t h before j d e k =
    ap (λ (x : MapDecl). key_pointer_as x.kind p t h before (site_at p.sites j).map (asked_key t.decls h (site_at p.sites j))) e
    ∙ ap (λ x. key_pointer_as x p t h before (site_at p.sites j).map (asked_key t.decls h (site_at p.sites j))) k

-- ---- what a site finds
update_finds : (unknown : Bool) (q : Pointer) → (if unknown then 0 else pointer_number q) ≡ pointer_number (if not unknown then q else Null)
update_finds true q = refl
update_finds false q = refl

others_look : (d : MapDecl) (a : Act) (ks xs : List ℕ) → a ≢ act.Update → looks (operation_with d a ks xs) ≡ true
others_look d act.Update ks xs u = absurd (u refl)
others_look d act.Lookup ks xs u = refl
others_look d (act.Load at size) ks xs u = refl
others_look d act.Delete ks xs u = refl
others_look d (act.Store at size) ks xs u = refl
others_look d (act.Atomic at a) ks xs u = refl

module _ (p : ProgramView) (t : TableState) (h : StageValues) (before : List ℕ) (j : ℕ) (a : Act) (e : (site_at p.sites j).act ≡ a) where
  pub update_found : a ≡ act.Update → (if nat_lt 2 (slice_index (map_list (stage_value h) (site_at p.sites j).operands) 0) then 0 else pointer_number (key_pointer p t h before j)) ≡ pointer_number (found_pointer p t h before j)
  update_found u =
      update_finds (nat_lt 2 (slice_index (map_list (stage_value h) (site_at p.sites j).operands) 0)) (key_pointer p t h before j)
      ∙ ap (λ x. pointer_number (if looks (operation_with (decl_of t.decls (site_at p.sites j).map) x (map_list (stage_value h) (site_at p.sites j).key) (map_list (stage_value h) (site_at p.sites j).operands)) then key_pointer p t h before j else Null)) (sym (e ∙ u))

  pub other_found : a ≢ act.Update → pointer_number (key_pointer p t h before j) ≡ pointer_number (found_pointer p t h before j)
  other_found u =
      ap (λ b. pointer_number (if b then key_pointer p t h before j else Null))
      (sym (ap (λ x. looks (operation_with (decl_of t.decls (site_at p.sites j).map) x (map_list (stage_value h) (site_at p.sites j).key) (map_list (stage_value h) (site_at p.sites j).operands))) e
      ∙ others_look (decl_of t.decls (site_at p.sites j).map) a (map_list (stage_value h) (site_at p.sites j).key) (map_list (stage_value h) (site_at p.sites j).operands) u))

-- ---- keys in other words
pub key_given :
    {P : Type 0} (q : P) (old new : List (BlockWireTree (Name P))) (n : ℕ) (l own key : List (Operand (Name P))) (out : Operand (Name P)) → l ≡ own
    → Gives q old new (l ++ key) always (λ v. bit (bytes_eq (bytes_of n (map_list (number_in v) l)) (bytes_of n (map_list (number_in v) key)))) 1 out
    → Gives q old new (own ++ key) always (λ v. bit (bytes_eq (bytes_of n (map_list (number_in v) own)) (bytes_of n (map_list (number_in v) key)))) 1 out
key_given q old new n l own key out e x = subst (λ o. Gives q old new (o ++ key) always (λ v. bit (bytes_eq (bytes_of n (map_list (number_in v) o)) (bytes_of n (map_list (number_in v) key)))) 1 out) e x

pub over_key :
    {P : Type 0} (q : P) (old new : List (BlockWireTree (Name P))) (d : Pending (Name P)) (l key : List (Operand (Name P))) (found out : Operand (Name P)) (bits bytes : ℕ) (p : ProgramView) (t : TableState) (h : StageValues) (i : ℕ) (own : List ℕ) (f : Pointer) → l ≡ key
    → Gives q old new (found ∷ read_of d ++ l) (λ v. ShowsPending v p t h i d × (bytes_of bytes (map_list (number_in v) l) ≡ own) × (number_in v found ≡ pointer_number f)) (λ v. pointer_number (found_over p t h own f i)) bits out
    → Gives q old new (found ∷ read_of d ++ key) (λ v. ShowsPending v p t h i d × (bytes_of bytes (map_list (number_in v) key) ≡ own) × (number_in v found ≡ pointer_number f)) (λ v. pointer_number (found_over p t h own f i)) bits out
over_key q old new d l key found out bits bytes p t h i own f e x =
    subst (λ k. Gives q old new (found ∷ read_of d ++ k) (λ v. ShowsPending v p t h i d × (bytes_of bytes (map_list (number_in v) k) ≡ own) × (number_in v found ≡ pointer_number f)) (λ v. pointer_number (found_over p t h own f i)) bits out) e x

-- ---- the wires of one operation, and of one after another
module _ {P : Type 0} (q : P) where
  pub over_given :
      (old new : List (BlockWireTree (Name P))) (d : Pending (Name P)) (key : List (Operand (Name P))) (entry found out : Operand (Name P)) (bits bytes : ℕ)
      → Gives q old new (entry ∷ found ∷ read_of d ++ key) always
      (λ v. if on (number_in v d.writes) && bytes_eq (bytes_of bytes (map_list (number_in v) d.nets.now.key.items)) (bytes_of bytes (map_list (number_in v) key)) then number_in v entry else number_in v found) bits out
      → ((ins : List (Operand (Name P))) → All (IsAvailable ins) (found ∷ read_of d ++ key) → IsAvailable ins entry)
      → (p : ProgramView) (t : TableState) (h : StageValues) (m i : ℕ) (own : List ℕ) (f : Pointer) → IsOf p m i d → (decl_of t.decls m).key ≡ bytes
      → ((v : Env (Name P)) → ShowsPending v p t h i d → number_in v entry ≡ pointer_number (found_as d.act (written_pointer p t h i) f))
      → Gives q old new (found ∷ read_of d ++ key) (λ v. ShowsPending v p t h i d × (bytes_of bytes (map_list (number_in v) key) ≡ own) × (number_in v found ≡ pointer_number f)) (λ v. pointer_number (found_over p t h own f i)) bits out
  over_given old new d key entry found out bits bytes x there p t h m i own f is e shows =
      last (starts q old (found ∷ read_of d ++ key) _) x (λ ins all. first_of (IsAvailable ins) entry (found ∷ read_of d ++ key) (there ins all) all) (λ v f k. tt) _
      (λ v fit k.
      ap (λ l. if on (number_in v d.writes) && bytes_eq (bytes_of bytes (map_list (number_in v) d.nets.now.key.items)) l then number_in v entry else number_in v found) k.1
      ∙ ap (λ n. if on (number_in v d.writes) && bytes_eq (bytes_of bytes (map_list (number_in v) d.nets.now.key.items)) own then number_in v entry else n) k.2
      ∙ over_number v p t h m i bytes own f d is e k.0 (number_in v entry) (shows v k.0))

  module _ (old : List (BlockWireTree (Name P))) (nets : SiteOperands (Name P)) (ds : List (Pending (Name P))) (slot : Operand (Name P)) (p : ProgramView) (t : TableState) (h : StageValues) (before : List ℕ) (j : ℕ) (d : MapDecl) (e : decl_of t.decls (site_at p.sites j).map ≡ d)
      (of : AreOf p (site_at p.sites j).map before ds) where
    abbrev own : List ℕ
    own = asked_key t.decls h (site_at p.sites j)

    abbrev needs : Env (Name P) → Type 0
    needs v = ShowsAsked v p h j nets × ShowsSlot v p t h j slot × ShowPending v p t h before ds

    abbrev found_to : ℕ → Pointer
    found_to k = fold (found_over p t h (asked_key t.decls h (site_at p.sites j))) (slot_pointer (table_at t (site_at p.sites j).map) (asked_key t.decls h (site_at p.sites j))) (take k before)

    pub over_more :
        (mid new : List (BlockWireTree (Name P))) (bits k : ℕ) (x : Pending (Name P)) (found out : Operand (Name P)) → k < length ds → x ≡ get_or ds k x
        → Gives q old mid (slot ∷ all_of nets ++ all_read ds) (λ v. ShowsAsked v p h j nets × ShowsSlot v p t h j slot × ShowPending v p t h before ds) (λ v. pointer_number (found_to k)) bits found
        → ((i : ℕ) (f : Pointer) → IsOf p (site_at p.sites j).map i x
        → Gives q mid new (found ∷ read_of x ++ nets.key) (λ v. ShowsPending v p t h i x × (bytes_of d.key (map_list (number_in v) nets.key) ≡ own) × (number_in v found ≡ pointer_number f)) (λ v. pointer_number (found_over p t h own f i)) bits out)
        → Gives q old new (slot ∷ all_of nets ++ all_read ds) (λ v. ShowsAsked v p h j nets × ShowsSlot v p t h j slot × ShowPending v p t h before ds) (λ v. pointer_number (found_to (k + 1))) bits out
    over_more mid new bits k x found out lt is before_this step =
        let there : k < length before = omega (arith, lt, of.count) in
        last (next (starts q old (slot ∷ all_of nets ++ all_read ds) needs) before_this (λ ins h. h) (λ v f n. n))
        (step (get_or before k 0) (found_to k) (subst (IsOf p (site_at p.sites j).map (get_or before k 0)) (sym is) (of.each k x there)))
        (λ ins h.
        let all = tail_of (IsAvailable ins) slot (all_of nets ++ all_read ds) (tail_of (IsAvailable ins) found (slot ∷ all_of nets ++ all_read ds) h) in
        first_of (IsAvailable ins) found (read_of x ++ nets.key) (h 0 found (omega arith))
        (All-append (IsAvailable ins) (read_of x) nets.key (read_at (IsAvailable ins) ds k x lt is (right_of (IsAvailable ins) (all_of nets) (all_read ds) all)) (keys_of (IsAvailable ins) nets (left_of (IsAvailable ins) (all_of nets) (all_read ds) all))))
        (λ v f n. (subst (ShowsPending v p t h (get_or before k 0)) (sym is) (n.0.2.each k x there), shown_key v p t h j d.key nets (ap (λ (y : MapDecl). y.key) e) n.0.0, n.1))
        (λ v. pointer_number (found_to (k + 1)))
        (λ v f n. ap pointer_number (sym (fold_more (found_over p t h own) (slot_pointer (table_at t (site_at p.sites j).map) own) before k 0 there)))
