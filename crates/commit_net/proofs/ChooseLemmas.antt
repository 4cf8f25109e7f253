-- The operand of the operation that commits, among those of several.
use Rattle.std.specs.Prelude.{if◌then◌else◌, slice_index, min}
use Rattle.std.proofs.Common.{◌≡◌, ◌∙◌, ℕ, zero, suc, ◌+◌, ◌-◌, ◌*◌, ◌/◌, ◌%◌, ◌^◌, ◌==◌, ◌<◌, ◌≤◌, Bool, true, false, All, List, [], ◌∷◌, ◌++◌, length, take, map, get_or, append_assoc, refl, sym, ap, arith}
use Rattle.std.proofs.lemmas.List.{get_or-map, length-map}
use Rattle.net_core.specs.Value.{Env}
use Rattle.overlay_net.specs.cell_core.Cells.{bit, on, bits_from, phi}
use Rattle.overlay_net.specs.cell_core.declared.site.Act.{Act}
use Rattle.overlay_net.specs.cell_core.declared.site.Act.TheVariants as act
use Rattle.overlay_net.specs.cell_core.Sites.{ProgramView, SiteView, bytes_of, operation_with}
use Rattle.overlay_net.specs.xdp_maps.declared.decl.MapDecl.{MapDecl}
use Rattle.overlay_net.specs.xdp_maps.Operations.{key_in}
use Rattle.overlay_net.specs.hazard_core.Tables.{decl_of}
use Rattle.overlay_net.specs.cell_nets.declared.operand.Operand.{Operand}
use Rattle.overlay_net.specs.cell_nets.declared.operand.Operand.TheVariants.{Known}
use Rattle.overlay_net.specs.hazard_core.StageValues.{StageValues, stage_value, is_delete, asked_key}
use Rattle.overlay_net.specs.hazard_core.Commits.{word_at, word_count}
use Rattle.hash_net.specs.array_net.Words.{word_width}
use Rattle.hash_net.proofs.array_net_laws.WordLaws.{word_there}
use Rattle.overlay_net.proofs.cell_nets_laws.NarrowLaws.{from_zero}
use Rattle.overlay_net.proofs.ValueNet.ByteLaws.{word_of_words, word_left}
use Rattle.overlay_net.proofs.ValueNet.ChangeLaws.{size_one, wide_one, unchanged_is}
use Rattle.overlay_net.specs.ValueNet.Words.{IsAligned}
use Rattle.overlay_net.specs.xdp_machine.Memory.{bytes_in}
use Rattle.overlay_net.specs.xdp_maps.Contents.{IsBytes}
use Rattle.overlay_net.specs.cell_core.Formed.{IsInside}
use Rattle.overlay_net.specs.hazard_core.Overlay.{value_as}
use Rattle.std.proofs.lemmas.Bool.{eqb-false}
use Rattle.block_core.proofs.list_laws_laws.NumberLaws.{not_equal, same_test}
use Rattle.overlay_net.specs.cell_nets.Operands.{number_in}
use Rattle.commit_net.specs.declared.choosing.CommitNets.{CommitNets}
use Rattle.commit_net.specs.declared.choosing.Asked.{Asked}
use Rattle.commit_net.specs.declared.choosing.Asked.TheVariants.{Slot, Insert, Delete, Key, Change}
use Rattle.commit_net.specs.Choosing.{asked_of, changes_word, chosen_of, paired, picked, read_of, all_read, IsOnly, IsChosen}

-- ---- pairs
pair_next : {X : Type 0} (xs ys : List X) (i : ℕ) (d : X) → i < length xs → i < length ys → paired (take (suc i) xs) (take (suc i) ys) ≡ paired (take i xs) (take i ys) ++ get_or xs i d ∷ get_or ys i d ∷ []
pair_next [] ys i d l m = absurd (omega (arith, l))
pair_next (x ∷ xs) [] i d l m = absurd (omega (arith, m))
pair_next (x ∷ xs) (y ∷ ys) zero d l m = refl
pair_next (x ∷ xs) (y ∷ ys) (suc i) d l m = ap (λ z. x ∷ y ∷ z) (pair_next xs ys i d (omega (arith, l)) (omega (arith, m)))

pub pair_more : {X : Type 0} (xs ys : List X) (i : ℕ) (d : X) → i < length xs → i < length ys → paired (take (i + 1) xs) (take (i + 1) ys) ≡ paired (take i xs) (take i ys) ++ get_or xs i d ∷ get_or ys i d ∷ []
pair_more xs ys i d l m = let more : i + 1 ≡ suc i = omega arith in ap (λ k. paired (take k xs) (take k ys)) more ∙ pair_next xs ys i d l m

pub all_paired : {X : Type 0} (Q : X → Type 0) (xs ys : List X) → All Q xs → All Q ys → All Q (paired xs ys)
all_paired Q [] ys h k i d lt = absurd (omega (arith, lt))
all_paired Q (x ∷ xs) [] h k i d lt = absurd (omega (arith, lt))
all_paired Q (x ∷ xs) (y ∷ ys) h k zero d lt = h 0 x (omega arith)
all_paired Q (x ∷ xs) (y ∷ ys) h k (suc zero) d lt = k 0 y (omega arith)
all_paired Q (x ∷ xs) (y ∷ ys) h k (suc (suc i)) d lt = all_paired Q xs ys (λ n e l. h (suc n) e (omega (arith, l))) (λ n e l. k (suc n) e (omega (arith, l))) i d (omega (arith, lt))

-- of numbers in pairs the second of the one whose first is 1
module _ {N : Type 0} (v : Env N) where
  pub phi_only : (xs ys : List (Operand N)) (k : ℕ) (d : Operand N) → length ys ≡ length xs → ((i : ℕ) (e : Operand N) → i < length xs → number_in v (get_or xs i e) ≡ bit (i == k)) → k < length ys → phi (map (number_in v) (paired xs ys)) ≡ number_in v (get_or ys k d)
  phi_only [] ys k d count h l = absurd (omega (arith, l, count))
  phi_only (x ∷ xs) [] k d count h l = absurd (omega (arith, l))
  phi_only (x ∷ []) (y ∷ []) zero d count h l = refl
  phi_only (x ∷ []) (y ∷ []) (suc k) d count h l = absurd (omega (arith, l))
  phi_only (x ∷ []) (y ∷ z ∷ ys) k d count h l = absurd (omega (arith, count))
  phi_only (x ∷ a ∷ xs) (y ∷ []) k d count h l = absurd (omega (arith, count))
  phi_only (x ∷ a ∷ xs) (y ∷ z ∷ ys) zero d count h l =
      ap (λ n. if on n then number_in v y else phi (map (number_in v) (paired (a ∷ xs) (z ∷ ys)))) (h 0 x (omega arith))
  phi_only (x ∷ a ∷ xs) (y ∷ z ∷ ys) (suc k) d count h l =
      ap (λ n. if on n then number_in v y else phi (map (number_in v) (paired (a ∷ xs) (z ∷ ys)))) (h 0 x (omega arith) ∙ ap bit (not_equal 0 (suc k) (λ e. omega (arith, e))))
      ∙ phi_only (a ∷ xs) (z ∷ ys) k d (omega (arith, count)) (λ i e m. h (suc i) e (omega (arith, m)) ∙ ap bit (same_test (suc i) (suc k) i k (λ q. omega (arith, q)) (λ q. omega (arith, q)))) (omega (arith, l))

-- ---- those of operations
pub only_chosen : {N : Type 0} (v : Env N) (ns : List (CommitNets N)) (k : ℕ) → IsOnly v ns k → (i : ℕ) (e : Operand N) → i < length (chosen_of ns) → number_in v (get_or (chosen_of ns) i e) ≡ bit (i == k)
only_chosen v ns k h i e l = go ns i l (λ d m. h i d m)
  where
    go : (ms : List (CommitNets _)) (n : ℕ) → n < length (chosen_of ms) → ((d : CommitNets _) → n < length ms → number_in v (get_or ms n d).chosen ≡ bit (i == k)) → number_in v (get_or (chosen_of ms) n e) ≡ bit (i == k)
    go [] n l f = absurd (omega (arith, l))
    go (m ∷ ms) zero l f = f m (omega arith)
    go (m ∷ ms) (suc n) l f = go ms n (omega (arith, l)) (λ d q. f d (omega (arith, q)))

-- what is picked is that of the one that commits
pub picked_only : {N : Type 0} (v : Env N) (ns : List (CommitNets N)) (ys : List (Operand N)) (k : ℕ) (d : Operand N) → length ys ≡ length ns → IsOnly v ns k → k < length ns → picked ns ys v ≡ number_in v (get_or ys k d)
picked_only v ns ys k d count only l = phi_only v (chosen_of ns) ys k d (omega (arith, count, length-map ns (λ n. n.chosen))) (only_chosen v ns k only) (omega (arith, count, l))

pub asked_picked : {N : Type 0} (v : Env N) (p : ProgramView) (j : ℕ) (ns : List (CommitNets N)) (what : Asked) (c : IsChosen v p j ns) → picked ns (map (asked_of what) ns) v ≡ number_in v (asked_of what c.nets)
asked_picked v p j ns what c =
    let f = asked_of what in
    picked_only v ns (map f ns) c.place (f c.nets) (length-map ns f) c.only c.within ∙ ap (number_in v) (get_or-map f ns c.place c.nets (f c.nets) c.within) ∙ ap (λ n. number_in v (f n)) c.is

module _ {N : Type 0} (Q : Operand N → Type 0) where
  front : (xs ys : List (Operand N)) → All Q (xs ++ ys) → All Q xs
  front [] ys h k d lt = absurd (omega (arith, lt))
  front (x ∷ xs) ys h zero d lt = h 0 d (omega arith)
  front (x ∷ xs) ys h (suc k) d lt = front xs ys (λ n e l. h (suc n) e (omega (arith, l))) k d (omega (arith, lt))

  back : (xs ys : List (Operand N)) → All Q (xs ++ ys) → All Q ys
  back [] ys h = h
  back (x ∷ xs) ys h = back xs ys (λ n e l. h (suc n) e (omega (arith, l)))

  both : (xs ys : List (Operand N)) → All Q xs → All Q ys → All Q (xs ++ ys)
  both [] ys h k n d lt = k n d lt
  both (x ∷ xs) ys h k zero d lt = h 0 d (omega arith)
  both (x ∷ xs) ys h k (suc n) d lt = both xs ys (λ m e l. h (suc m) e (omega (arith, l))) k n d (omega (arith, lt))

  pub pairs_there : (xs ys : List (Operand N)) → All Q (xs ++ ys) → All Q (paired xs ys)
  pairs_there xs ys h = all_paired Q xs ys (front xs ys h) (back xs ys h)

  -- one that is asked
  keyed : (known : (n : ℕ) → n < 2 → Q (Known n)) (xs : List (Operand N)) (w : ℕ) → All Q xs → Q (get_or xs w (Known 0))
  keyed known [] w h = known 0 (omega arith)
  keyed known (x ∷ xs) zero h = h 0 x (omega arith)
  keyed known (x ∷ xs) (suc w) h = keyed known xs w (λ n e l. h (suc n) e (omega (arith, l)))

  either : ((n : ℕ) → n < 2 → Q (Known n)) → (b : Bool) → Q (if b then Known 1 else Known 0)
  either known true = known 1 (omega arith)
  either known false = known 0 (omega arith)

  one_asked : (known : (n : ℕ) → n < 2 → Q (Known n)) (what : Asked) (n : CommitNets N) → All Q (read_of n) → Q (asked_of what n)
  one_asked known Slot n h = h 1 n.target (omega arith)
  one_asked known Insert n h = h 2 n.target (omega arith)
  one_asked known Delete n h = either known (is_delete n.act)
  one_asked known (Change w) n h = either known (changes_word n.act w)
  one_asked known (Key w) n h = keyed known n.nets.now.key.items w (front n.nets.now.key.items n.nets.now.operands.items (λ k e l. h (suc (suc (suc k))) e (omega (arith, l))))

  -- of what several operations take
  pub read_each : (ns : List (CommitNets N)) → All Q (all_read ns) → All (λ n. All Q (read_of n)) ns
  read_each [] h k d lt = absurd (omega (arith, lt))
  read_each (n ∷ ns) h zero d lt = front (read_of n) (all_read ns) h
  read_each (n ∷ ns) h (suc k) d lt = read_each ns (back (read_of n) (all_read ns) h) k d (omega (arith, lt))

  pub each_chosen : (ns : List (CommitNets N)) → All (λ n. All Q (read_of n)) ns → All Q (chosen_of ns)
  each_chosen [] h k d lt = absurd (omega (arith, lt))
  each_chosen (n ∷ ns) h zero d lt = h 0 n (omega arith) 0 d (omega arith)
  each_chosen (n ∷ ns) h (suc k) d lt = each_chosen ns (λ i e l. h (suc i) e (omega (arith, l))) k d (omega (arith, lt))

  pub each_asked : ((n : ℕ) → n < 2 → Q (Known n)) → (what : Asked) (ns : List (CommitNets N)) → All (λ n. All Q (read_of n)) ns → All Q (map (asked_of what) ns)
  each_asked known what [] h k d lt = absurd (omega (arith, lt))
  each_asked known what (n ∷ ns) h zero d lt = one_asked known what n (h 0 n (omega arith))
  each_asked known what (n ∷ ns) h (suc k) d lt = each_asked known what ns (λ i e l. h (suc i) e (omega (arith, l))) k d (omega (arith, lt))

  pub asks_there : ((n : ℕ) → n < 2 → Q (Known n)) → (what : Asked) (ns : List (CommitNets N)) → All Q (all_read ns) → All Q (chosen_of ns ++ map (asked_of what) ns)
  asks_there known what ns h = let e = read_each ns h in both (chosen_of ns) (map (asked_of what) ns) (each_chosen ns e) (each_asked known what ns e)

pub pushed_pair :
    {N : Type 0} (ns : List (CommitNets N)) (ys : List (Operand N)) (i : ℕ) (all one two : List (Operand N)) (n : CommitNets N) (y : Operand N) → i < length ns → i < length ys → n ≡ get_or ns i n → y ≡ get_or ys i y → one ≡ all ++ n.chosen ∷ [] → two ≡ one ++ y ∷ []
    → all ≡ paired (take i (chosen_of ns)) (take i ys) → two ≡ paired (take (i + 1) (chosen_of ns)) (take (i + 1) ys)
pushed_pair ns ys i all one two n y l m is at e f h =
    let first : n.chosen ≡ get_or (chosen_of ns) i y = ap (λ x. x.chosen) is ∙ sym (get_or-map (λ x. x.chosen) ns i n y l) in
    f ∙ ap (λ z. z ++ y ∷ []) e ∙ append_assoc all (n.chosen ∷ []) (y ∷ []) ∙ (λ k. h k ++ first k ∷ at k ∷ []) ∙ sym (pair_more (chosen_of ns) ys i y (omega (arith, l, length-map ns (λ x. x.chosen))) m)

pub known_bit : {N : Type 0} (v : Env N) (b : Bool) → bits_from (number_in v (if b then Known 1 else Known 0)) 0 1 ≡ bit b
known_bit v true = refl
known_bit v false = refl

-- ---- a word of a key
pub key_word :
    {N : Type 0} (v : Env N) (h : StageValues) (n w width : ℕ) (key : List (Operand N)) (cells : List ℕ) → w < word_count n → word_count n ≤ length key → width ≡ word_width n w → map (number_in v) key ≡ map (stage_value h) cells
    → bits_from (number_in v (get_or key w (Known 0))) 0 width ≡ word_at (bytes_of n (map (stage_value h) cells)) w
key_word v h n w width key cells l words wide shown =
    let xs = map (stage_value h) cells in
    let count : length xs ≡ length key = ap length (sym shown) ∙ length-map key (number_in v) in
    let one : number_in v (get_or key w (Known 0)) ≡ slice_index xs w = sym (get_or-map (number_in v) key w (Known 0) 0 (omega (arith, l, words))) ∙ ap (λ ys. slice_index ys w) shown in
    from_zero (number_in v (get_or key w (Known 0))) width ∙ ap (λ x. x % 2 ^ width) one ∙ ap (λ k. slice_index xs w % 2 ^ k) wide ∙ sym (word_of_words n xs w (min 8 (n - 8 * w)) (word_there n w l) (omega (arith, l, words, count)) refl)

-- as many words as the cells of its site
pub key_long : {N : Type 0} (v : Env N) (h : StageValues) (n : ℕ) (key : List (Operand N)) (cells : List ℕ) → n ≤ length cells → map (number_in v) key ≡ map (stage_value h) cells → n ≤ length key
key_long v h n key cells l shown = omega (arith, l, ap length shown, length-map key (number_in v), length-map cells (stage_value h))

pub asked_key_is : (decls : List MapDecl) (h : StageValues) (s : SiteView) (d : MapDecl) → decl_of decls s.map ≡ d → bytes_of d.key (map (stage_value h) s.key) ≡ asked_key decls h s
asked_key_is decls h s d e = ap (λ (x : MapDecl). bytes_of x.key (map (stage_value h) s.key)) (sym e) ∙ by_act s.act
  where
    by_act : (a : Act) → bytes_of (decl_of decls s.map).key (map (stage_value h) s.key) ≡ key_in (operation_with (decl_of decls s.map) a (map (stage_value h) s.key) (map (stage_value h) s.operands))
    by_act act.Lookup = refl
    by_act act.Update = refl
    by_act act.Delete = refl
    by_act (act.Load at size) = refl
    by_act (act.Store at size) = refl
    by_act (act.Atomic at a) = refl

-- ---- words that stay
pub word_stays :
    (d : MapDecl) (a : Act) (key xs value : List ℕ) (w : ℕ) → changes_word a w ≡ false → IsAligned a → IsInside d.value a → IsBytes d.value value → word_at (value_as (operation_with d a key xs) value) w ≡ word_at value w
word_stays d act.Update key xs value w e aligned inside b = absurd (clash e)
  where
    clash : true ≡ false → ⊥
    clash q = cc
word_stays d (act.Store at size) key xs value w e aligned inside b = word_left d.value value at (bytes_in size) (slice_index xs 0) w b inside (size_one size at aligned) (λ q. eqb-false (at / 8) w e q)
word_stays d (act.Atomic at a) key xs value w e aligned inside b = unchanged_is d.value value a at w (slice_index xs 0) (slice_index xs 1) b inside (wide_one a.wide at aligned) (λ q. eqb-false (at / 8) w e q)
word_stays d act.Lookup key xs value w e aligned inside b = refl
word_stays d act.Delete key xs value w e aligned inside b = refl
word_stays d (act.Load at size) key xs value w e aligned inside b = refl
