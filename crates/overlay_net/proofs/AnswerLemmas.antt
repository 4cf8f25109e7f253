-- What operations answer, by the operands that stand for them.
use Rattle.std.specs.Int.{w64, cast_unsigned}
use Rattle.std.specs.Prelude.{ℤ, not, if◌then◌else◌, cond, count_by, Some, None}
use Rattle.std.proofs.Common.{◌≡◌, ◌∙◌, ℕ, ◌+◌, ◌%◌, ◌^◌, ◌<◌, Bool, true, false, ◌&&◌, ◌++◌, append-nil, All, List, [], ◌∷◌, length, take, get_or, slice_index, refl, sym, ap, subst, arith, map as map_list}
use Rattle.std.proofs.Math.Nat.{mod-add-mod}
use Rattle.std.proofs.lemmas.List.Sums.{fold_more, count_by-le-length}
use Rattle.hazard_core.specs.xdp_maps.declared.decl.MapDecl.{MapDecl}
use Rattle.hazard_core.specs.xdp_maps.declared.errno.TheConstants.{ENOENT, EINVAL, EEXIST, E2BIG}
use Rattle.hazard_core.specs.xdp_maps.Calls.{number_of}
use Rattle.hazard_core.specs.cell_core.declared.site.Act.TheVariants as act
use Rattle.hazard_core.specs.cell_core.Cells.{bit, on, bits_from, phi}
use Rattle.hazard_core.specs.cell_core.Sites.{ProgramView, site_at, bytes_of, operation_with}
use Rattle.hazard_core.specs.Tables.{TableState, decl_of, table_at, used_count}
use Rattle.hazard_core.specs.StageValues.{StageValues, stage_value, is_null, adds_key, takes_key}
use Rattle.hazard_core.specs.Overlay.{key_pointer, update_answer, delete_answer, answer_as, answer_over}
use Rattle.cell_nets.proofs.NarrowLaws.{from_zero}
use Rattle.block_core.specs.net_core.Value.{Env}
use Rattle.block_core.specs.Blocks.{BlockWireTree}
use Rattle.block_core.specs.declared.name.Name.{Name}
use Rattle.byteorder.specs.Endian.{little_number}
use Rattle.byteorder.specs.Numbers.{little_from-bytes}
use Rattle.hazard_core.specs.xdp_maps.Contents.{index_of}
use Rattle.hazard_core.proofs.cell_core_laws.BitLaws.{small_bits}
use Rattle.cell_nets.specs.declared.operand.Operand.{Operand}
use Rattle.cell_nets.specs.Operands.{number_in, IsAvailable}
use Rattle.cell_nets.specs.Wires.{always, Gives}
use Rattle.overlay_net.specs.declared.site_operands.Pending.{Pending}
use Rattle.overlay_net.specs.Reading.{IsSite}
use Rattle.overlay_net.specs.Seen.{read_of, all_read, IsOf, ShowsPending, AreOf, ShowPending}
use Rattle.cell_nets.proofs.StepNets.ChainLaws.{starts, next, last}
use Rattle.overlay_net.proofs.FindLemmas.{read_at, tail_of}
use Rattle.overlay_net.proofs.KeyLemmas.{front_bytes}
use Rattle.cell_nets.proofs.StepNets.StepLaws.{on_bit, all_each}

-- ---- pairs, one after another
pub two_pairs : {X : Type 0} (l m n : List X) (a b c d : X) → l ≡ [] → m ≡ l ++ a ∷ b ∷ [] → n ≡ m ++ c ∷ d ∷ [] → n ≡ a ∷ b ∷ c ∷ d ∷ []
two_pairs l m n a b c d e f g = g ∙ ap (λ k. k ++ c ∷ d ∷ []) (f ∙ ap (λ k. k ++ a ∷ b ∷ []) e)

pub four_pairs :
    {X : Type 0} (k l m n o : List X) (a b c d e f g h : X) → k ≡ [] → l ≡ k ++ a ∷ b ∷ [] → m ≡ l ++ c ∷ d ∷ [] → n ≡ m ++ e ∷ f ∷ [] → o ≡ n ++ g ∷ h ∷ [] → o ≡ a ∷ b ∷ c ∷ d ∷ e ∷ f ∷ g ∷ h ∷ []
four_pairs k l m n o a b c d e f g h p q r s t = t ∙ ap (λ z. z ++ g ∷ h ∷ []) (s ∙ ap (λ z. z ++ e ∷ f ∷ []) (two_pairs k l m a b c d p q r))

pub six_pairs :
    {X : Type 0} (k l m n o y z : List X) (a b c d e f g h i j u w : X) → k ≡ [] → l ≡ k ++ a ∷ b ∷ [] → m ≡ l ++ c ∷ d ∷ [] → n ≡ m ++ e ∷ f ∷ [] → o ≡ n ++ g ∷ h ∷ [] → y ≡ o ++ i ∷ j ∷ [] → z ≡ y ++ u ∷ w ∷ []
    → z ≡ a ∷ b ∷ c ∷ d ∷ e ∷ f ∷ g ∷ h ∷ i ∷ j ∷ u ∷ w ∷ []
six_pairs k l m n o y z a b c d e f g h i j u w p q r s t x v = v ∙ ap (λ z. z ++ u ∷ w ∷ []) (x ∙ ap (λ z. z ++ i ∷ j ∷ []) (four_pairs k l m n o a b c d e f g h p q r s t))

pub pairs_given : {P : Type 0} (q : P) (old new : List (BlockWireTree (Name P))) (l args : List (Operand (Name P))) (from width : ℕ) (out : Operand (Name P)) → l ≡ args → Gives q old new l always (λ v. bits_from (phi (map_list (number_in v) l)) from width) width out
    → Gives q old new args always (λ v. bits_from (phi (map_list (number_in v) args)) from width) width out
pairs_given q old new l args from width out e x = subst (λ k. Gives q old new k always (λ v. bits_from (phi (map_list (number_in v) k)) from width) width out) e x

-- ---- errors, the first that there is
abbrev pub error_number : ℤ → ℕ
error_number e = cast_unsigned w64 e

pub hash_errors : (u o p k f : ℕ) (unknown fresh present known full : Bool) → u ≡ bit unknown → o ≡ bit (fresh && present) → on p ≡ present → k ≡ bit known → f ≡ bit full
    → phi (u ∷ error_number EINVAL ∷ o ∷ error_number EEXIST ∷ p ∷ 0 ∷ k ∷ error_number ENOENT ∷ f ∷ error_number E2BIG ∷ 1 ∷ 0 ∷ [])
    ≡ error_number (number_of (if unknown then Some EINVAL else if fresh && present then Some EEXIST else if known && not present then Some ENOENT else if not present && full then Some E2BIG else None))
hash_errors u o p k f unknown fresh present known full eu eo ep ek ef =
    ap (λ b. if b then error_number EINVAL else if on o then error_number EEXIST else if on p then 0 else if on k then error_number ENOENT else if on f then error_number E2BIG else 0) (ap on eu ∙ on_bit unknown)
    ∙ ap (λ b. if unknown then error_number EINVAL else if b then error_number EEXIST else if on p then 0 else if on k then error_number ENOENT else if on f then error_number E2BIG else 0) (ap on eo ∙ on_bit (fresh && present))
    ∙ ap (λ b. if unknown then error_number EINVAL else if fresh && present then error_number EEXIST else if b then 0 else if on k then error_number ENOENT else if on f then error_number E2BIG else 0) ep
    ∙ ap (λ b. if unknown then error_number EINVAL else if fresh && present then error_number EEXIST else if present then 0 else if b then error_number ENOENT else if on f then error_number E2BIG else 0) (ap on ek ∙ on_bit known)
    ∙ ap (λ b. if unknown then error_number EINVAL else if fresh && present then error_number EEXIST else if present then 0 else if known then error_number ENOENT else if b then error_number E2BIG else 0) (ap on ef ∙ on_bit full)
    ∙ by_case unknown fresh present known full
  where
    by_case : (unknown fresh present known full : Bool) → (if unknown then error_number EINVAL else if fresh && present then error_number EEXIST else if present then 0 else if known then error_number ENOENT else if full then error_number E2BIG else 0)
        ≡ error_number (number_of (if unknown then Some EINVAL else if fresh && present then Some EEXIST else if known && not present then Some ENOENT else if not present && full then Some E2BIG else None))
    by_case true fresh present known full = refl
    by_case false true true known full = refl
    by_case false true false true full = refl
    by_case false true false false true = refl
    by_case false true false false false = refl
    by_case false false true true full = refl
    by_case false false true false full = refl
    by_case false false false true full = refl
    by_case false false false false true = refl
    by_case false false false false false = refl

pub array_errors : (u o f : ℕ) (unknown outside fresh : Bool) → u ≡ bit unknown → o ≡ bit outside → f ≡ bit fresh
    → phi (u ∷ error_number EINVAL ∷ o ∷ error_number E2BIG ∷ f ∷ error_number EEXIST ∷ 1 ∷ 0 ∷ []) ≡ error_number (number_of (if unknown then Some EINVAL else if outside then Some E2BIG else if fresh then Some EEXIST else None))
array_errors u o f unknown outside fresh eu eo ef =
    ap (λ b. if b then error_number EINVAL else if on o then error_number E2BIG else if on f then error_number EEXIST else 0) (ap on eu ∙ on_bit unknown)
    ∙ ap (λ b. if unknown then error_number EINVAL else if b then error_number E2BIG else if on f then error_number EEXIST else 0) (ap on eo ∙ on_bit outside)
    ∙ ap (λ b. if unknown then error_number EINVAL else if outside then error_number E2BIG else if b then error_number EEXIST else 0) (ap on ef ∙ on_bit fresh)
    ∙ by_case unknown outside fresh
  where
    by_case : (unknown outside fresh : Bool) → (if unknown then error_number EINVAL else if outside then error_number E2BIG else if fresh then error_number EEXIST else 0)
        ≡ error_number (number_of (if unknown then Some EINVAL else if outside then Some E2BIG else if fresh then Some EEXIST else None))
    by_case true outside fresh = refl
    by_case false true fresh = refl
    by_case false false true = refl
    by_case false false false = refl

-- errors by any numbers that are theirs
pub hash_phi : (u i o x p k n f b : ℕ) → i ≡ error_number EINVAL → x ≡ error_number EEXIST → n ≡ error_number ENOENT → b ≡ error_number E2BIG
    → phi (u ∷ i ∷ o ∷ x ∷ p ∷ 0 ∷ k ∷ n ∷ f ∷ b ∷ 1 ∷ 0 ∷ []) ≡ phi (u ∷ error_number EINVAL ∷ o ∷ error_number EEXIST ∷ p ∷ 0 ∷ k ∷ error_number ENOENT ∷ f ∷ error_number E2BIG ∷ 1 ∷ 0 ∷ [])
hash_phi u i o x p k n f b ei ex en eb =
    ap (λ z. phi (u ∷ z ∷ o ∷ x ∷ p ∷ 0 ∷ k ∷ n ∷ f ∷ b ∷ 1 ∷ 0 ∷ [])) ei
    ∙ ap (λ z. phi (u ∷ error_number EINVAL ∷ o ∷ z ∷ p ∷ 0 ∷ k ∷ n ∷ f ∷ b ∷ 1 ∷ 0 ∷ [])) ex
    ∙ ap (λ z. phi (u ∷ error_number EINVAL ∷ o ∷ error_number EEXIST ∷ p ∷ 0 ∷ k ∷ z ∷ f ∷ b ∷ 1 ∷ 0 ∷ [])) en
    ∙ ap (λ z. phi (u ∷ error_number EINVAL ∷ o ∷ error_number EEXIST ∷ p ∷ 0 ∷ k ∷ error_number ENOENT ∷ f ∷ z ∷ 1 ∷ 0 ∷ [])) eb

pub array_phi : (u i o b f x : ℕ) → i ≡ error_number EINVAL → b ≡ error_number E2BIG → x ≡ error_number EEXIST
    → phi (u ∷ i ∷ o ∷ b ∷ f ∷ x ∷ 1 ∷ 0 ∷ []) ≡ phi (u ∷ error_number EINVAL ∷ o ∷ error_number E2BIG ∷ f ∷ error_number EEXIST ∷ 1 ∷ 0 ∷ [])
array_phi u i o b f x ei eb ex =
    ap (λ z. phi (u ∷ z ∷ o ∷ b ∷ f ∷ x ∷ 1 ∷ 0 ∷ [])) ei
    ∙ ap (λ z. phi (u ∷ error_number EINVAL ∷ o ∷ z ∷ f ∷ x ∷ 1 ∷ 0 ∷ [])) eb
    ∙ ap (λ z. phi (u ∷ error_number EINVAL ∷ o ∷ error_number E2BIG ∷ f ∷ z ∷ 1 ∷ 0 ∷ [])) ex

pub delete_choice : (k m : ℕ) (present : Bool) → on k ≡ present → m ≡ error_number ENOENT → (if on k then 0 else m) ≡ error_number (number_of (if present then None else Some ENOENT))
delete_choice k m present ek em = ap (λ b. if b then 0 else m) ek ∙ ap (λ z. if present then 0 else z) em ∙ by_case present
  where
    by_case : (b : Bool) → (if b then 0 else error_number ENOENT) ≡ error_number (number_of (if b then None else Some ENOENT))
    by_case true = refl
    by_case false = refl

-- ---- counts
-- low bits of a sum, one more
more_low : (s c n w : ℕ) → bits_from (bits_from (s + c) 0 w + n) 0 w ≡ bits_from (s + (c + n)) 0 w
more_low s c n w =
    from_zero (bits_from (s + c) 0 w + n) w
    ∙ ap (λ k. (k + n) % 2 ^ w) (from_zero (s + c) w)
    ∙ mod-add-mod (s + c) (2 ^ w) n
    ∙ ap (λ k. k % 2 ^ w) (omega arith)
    ∙ sym (from_zero (s + (c + n)) w)

pub count_next : (q : ℕ → Bool) (xs : List ℕ) (i s w n : ℕ) → i < length xs → n ≡ bit (q (get_or xs i 0)) → bits_from (bits_from (s + count_by q (take i xs)) 0 w + n) 0 w ≡ bits_from (s + count_by q (take (i + 1) xs)) 0 w
count_next q xs i s w n lt e =
    ap (λ k. bits_from (bits_from (s + count_by q (take i xs)) 0 w + k) 0 w) e
    ∙ more_low s (count_by q (take i xs)) (bit (q (get_or xs i 0))) w
    ∙ ap (λ k. bits_from (s + k) 0 w) (sym (fold_more (λ m x. m + cond (q x) 1 0) 0 xs i 0 lt))

-- a sum that has room
pub count_all : (q : ℕ → Bool) (xs : List ℕ) (s : ℕ) → s < 2 ^ 17 → length xs < 65536 → bits_from (s + count_by q xs) 0 18 ≡ s + count_by q xs
count_all q xs s h l = small_bits (s + count_by q xs) 18 (omega (arith, count_by-le-length q xs))

-- one operation more is counted
module _ {P : Type 0} (q : P) (old : List (BlockWireTree (Name P))) (ds : List (Pending (Name P))) (start : Operand (Name P)) (p : ProgramView) (t : TableState) (h : StageValues) (m : ℕ) (before : List ℕ) (of : AreOf p m before ds) (counts : ℕ → Bool) where
  pub count_more :
      (mid mid2 new : List (BlockWireTree (Name P))) (bs : List (Operand (Name P))) (k : ℕ) (x : Pending (Name P)) (count one out : Operand (Name P)) (more : ℕ → Env (Name P) → Type 0) → k < length ds → x ≡ get_or ds k x
      → Gives q old mid (start ∷ all_read ds) (λ v. ShowPending v p t h before ds) (λ v. bits_from (number_in v start + count_by counts (take k before)) 0 18) 18 count
      → ((i : ℕ) → IsOf p m i x → Gives q mid mid2 bs (more i) (λ v. bit (counts i)) 1 one)
      → ((Q : Operand (Name P) → Type 0) → All Q (read_of x) → All Q bs)
      → ((i : ℕ) (v : Env (Name P)) → ShowsPending v p t h i x → more i v)
      → Gives q mid2 new (count ∷ one ∷ []) always (λ v. bits_from (number_in v count + number_in v one) 0 18) 18 out
      → Gives q old new (start ∷ all_read ds) (λ v. ShowPending v p t h before ds) (λ v. bits_from (number_in v start + count_by counts (take (k + 1) before)) 0 18) 18 out
  count_more mid mid2 new bs k x count one out more lt is so_far step pick enough summed =
      let there : k < length before = omega (arith, lt, of.count) in
      last
      (next (next (starts q old (start ∷ all_read ds) (λ v. ShowPending v p t h before ds)) so_far (λ ins h. h) (λ v f n. n)) (step (get_or before k 0) (subst (IsOf p m (get_or before k 0)) (sym is) (of.each k x there)))
      (λ ins h. pick (IsAvailable ins) (read_at (IsAvailable ins) ds k x lt is (tail_of (IsAvailable ins) start (all_read ds) (tail_of (IsAvailable ins) count (start ∷ all_read ds) h))))
      (λ v f n. enough (get_or before k 0) v (subst (ShowsPending v p t h (get_or before k 0)) (sym is) (n.0.each k x there))))
      summed (λ ins h. all_each (IsAvailable ins) (count ∷ one ∷ []) (h 1 count (omega arith), (h 0 one (omega arith), tt))) (λ v f n. tt)
      (λ v. bits_from (number_in v start + count_by counts (take (k + 1) before)) 0 18)
      (λ v f n. ap (λ z. bits_from (z + number_in v one) 0 18) n.0.1 ∙ count_next counts before k (number_in v start) 18 (number_in v one) there n.1)

-- ---- the index of a key
index_is : (x : ℕ) (xs : List ℕ) → index_of (bytes_of 4 (x ∷ xs)) ≡ bits_from x 0 32
unfolding index_of
index_is x xs = ap (little_number 4) (front_bytes 4 x xs (omega arith) ∙ sym (append-nil _)) ∙ little_from-bytes 4 0 x []

pub index_first : (ks : List ℕ) → index_of (bytes_of 4 ks) ≡ bits_from (slice_index ks 0) 0 32
unfolding index_of
index_first [] = refl
index_first (x ∷ xs) = index_is x xs

-- ---- answers
module _ (p : ProgramView) (t : TableState) (h : StageValues) (before : List ℕ) (j : ℕ) (d : MapDecl) where
  abbrev keys : List ℕ
  keys = map_list (stage_value h) (site_at p.sites j).key

  abbrev others : List ℕ
  others = map_list (stage_value h) (site_at p.sites j).operands

  abbrev there : Bool
  there = not (is_null (key_pointer p t h before j))

  pub update_is : IsSite p t.decls j act.Update d
      → answer_over p t h before j
      ≡ cast_unsigned w64 (update_answer d.kind d (used_count (table_at t (site_at p.sites j).map) + count_by (adds_key p t.decls h) before) (count_by (takes_key p t.decls h) before) (not (is_null (key_pointer p t h before j))) (bytes_of d.key (map_list (stage_value h) (site_at p.sites j).key)) (slice_index (map_list (stage_value h) (site_at p.sites j).operands) 0))
  update_is is =
      ap (λ a. answer_as a (operation_with (decl_of t.decls (site_at p.sites j).map) a keys others) p t h before j) is.act
      ∙ ap (λ (x : MapDecl). cast_unsigned w64 (update_answer x.kind x (used_count (table_at t (site_at p.sites j).map) + count_by (adds_key p t.decls h) before) (count_by (takes_key p t.decls h) before) there (bytes_of x.key keys) (slice_index others 0))) is.decl

  pub delete_is : IsSite p t.decls j act.Delete d → answer_over p t h before j ≡ cast_unsigned w64 (delete_answer d.kind (not (is_null (key_pointer p t h before j))))
  delete_is is =
      ap (λ a. answer_as a (operation_with (decl_of t.decls (site_at p.sites j).map) a keys others) p t h before j) is.act
      ∙ ap (λ (x : MapDecl). cast_unsigned w64 (delete_answer x.kind there)) is.decl

pub lookup_is : (p : ProgramView) (t : TableState) (h : StageValues) (before : List ℕ) (j : ℕ) → (site_at p.sites j).act ≡ act.Lookup → answer_over p t h before j ≡ bit (not (is_null (key_pointer p t h before j)))
lookup_is p t h before j e = ap (λ a. answer_as a (operation_with (decl_of t.decls (site_at p.sites j).map) a (map_list (stage_value h) (site_at p.sites j).key) (map_list (stage_value h) (site_at p.sites j).operands)) p t h before j) e

pub plus_none : (n : ℕ) → n ≡ n + 0
plus_none n = omega arith
