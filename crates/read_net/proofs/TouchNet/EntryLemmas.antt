-- Whether a change touches the entry under a pointer, by the number of this.
use Rattle.std.specs.Prelude.{if◌then◌else◌, fold}
use Rattle.std.specs.Str.{bytes_eq}
use Rattle.std.proofs.Common.{◌≡◌, ◌≢◌, ◌∙◌, ℕ, zero, suc, ◌+◌, ◌*◌, ◌/◌, ◌==◌, ◌^◌, ◌<◌, ◌≤◌, Bool, true, false, ◌&&◌, All, List, [], ◌∷◌, ◌++◌, length, take, get_or, refl, sym, ap, arith, map as map_list}
use Rattle.std.proofs.lemmas.Bool.{eqb-true, eqb-false}
use Rattle.std.proofs.lemmas.List.Elements.{All-append}
use Rattle.std.proofs.lemmas.List.Sums.{fold_more}
use Rattle.std.proofs.lemmas.List.{length-take-le, length-map}
use Rattle.std.proofs.lemmas.Nat.{pow-add}
use Rattle.std.proofs.lemmas.Slice.Eq.{bytes_eq-Decides}
use Rattle.std.proofs.Math.Pow.{pow_mono}
use Rattle.block_core.specs.net_core.Value.{Env}
use Rattle.block_core.specs.Blocks.{BlockWireTree}
use Rattle.block_core.specs.declared.name.Name.{Name}
use Rattle.overlay_net.specs.xdp_maps.declared.decl.MapDecl.{MapDecl}
use Rattle.overlay_net.specs.xdp_machine.Arithmetic.{low}
use Rattle.overlay_net.specs.cell_core.declared.site.Act.TheVariants as act
use Rattle.overlay_net.specs.cell_core.Cells.{bit, on, bits_from}
use Rattle.overlay_net.specs.cell_core.Sites.{ProgramView, site_at, spelled, bytes_of}
use Rattle.pipe_core.proofs.cell_core_laws.SpelledLaws.{spelled_length}
use Rattle.pipe_core.specs.hazard_core.declared.change.Change.{Change}
use Rattle.pipe_core.specs.hazard_core.declared.pointer.Pointer.{Pointer}
use Rattle.pipe_core.specs.hazard_core.declared.pointer.Pointer.TheVariants.{Null, InSlot, Pending}
use Rattle.pipe_core.specs.hazard_core.StageValues.{StageValues, stage_value, asked_key}
use Rattle.pipe_core.specs.hazard_core.Marks.{entry_touched}
use Rattle.pipe_core.specs.hazard_core.Tables.{decl_of}
use Rattle.overlay_net.specs.cell_nets.declared.operand.Operand.{Operand}
use Rattle.overlay_net.specs.cell_nets.Operands.{number_in, IsAvailable}
use Rattle.overlay_net.specs.cell_nets.Wires.{always, Gives}
use Rattle.overlay_net.specs.SiteOperands.Pointers.{pointer_number}
use Rattle.overlay_net.proofs.cell_nets_laws.StepNets.ChainLaws.{starts, next, last}
use Rattle.overlay_net.proofs.cell_nets_laws.StepNets.StepLaws.{bit_small}
use Rattle.overlay_net.proofs.cell_core_laws.BitLaws.{small_bits}
use Rattle.overlay_net.proofs.hazard_core_laws.ActsLaws.{key_is}
use Rattle.read_net.specs.declared.touch_net.change.ChangeNets.{ChangeNets}
use Rattle.read_net.specs.declared.touch_net.change.OwnKey.{OwnKey}
use Rattle.read_net.specs.TouchNet.Touching.{change_operands, own_operands, key_bytes, HaveKeys, ShowsOwn, IsMade}
use Rattle.read_net.proofs.TouchNet.ListLemmas.{left_of, right_of, first_of, behind, own_at}

-- what a pointer has above its low two bits
pub index_is : (n s w : ℕ) → n < 2 ^ s → s ≤ w + 2 → bits_from n 2 w ≡ n / 4
index_is n s w h k =
    let enough : n < 2 ^ (w + 2) = omega (arith, h, pow_mono {i = s} {j = w + 2} k) in
    let power : 2 ^ (w + 2) ≡ 2 ^ w * 4 = pow-add 2 w 2 in
    let small : n / 4 < 2 ^ w = omega (arith, enough, power) in
    let quarter : n / 4 ≡ n / 4 / 1 = omega arith in
    ap (λ z. low w z) quarter ∙ small_bits (n / 4) w small

-- whether it is to a slot
abbrev pub in_slot : ℕ → ℕ → Bool
in_slot n slot = on (bits_from n 0 1) && (n / 4 == slot)

-- one own update more
abbrev pub over : {N : Type 0} → Env N → ℕ → List (Operand N) → ℕ → ℕ → OwnKey N → ℕ
over v bytes key n x o = bits_from (if n == 4 * o.site + 2 then bit (bytes_eq (bytes_of bytes (map_list (number_in v) o.key.now)) (bytes_of bytes (map_list (number_in v) key))) else x) 0 1

-- what stands after the first own updates
abbrev pub fold_of : {N : Type 0} → ℕ → Operand N → ChangeNets N → List (OwnKey N) → Env N → ℕ
fold_of bytes n e owns v = fold (over v bytes e.key.now (number_in v n)) (bit (in_slot (number_in v n) (number_in v e.slot))) owns

pub own_more :
    {P : Type 0} (q : P) (old mid new : List (BlockWireTree (Name P))) (bytes : ℕ) (n : Operand (Name P)) (e : ChangeNets (Name P)) (owns : List (OwnKey (Name P))) (i : ℕ) (o : OwnKey (Name P)) (was out : Operand (Name P)) → i < length owns → o ≡ get_or owns i o
    → Gives q old mid (n ∷ change_operands e ++ own_operands owns) always (fold_of bytes n e (take i owns)) 1 was
    → Gives q mid new (n ∷ was ∷ o.key.now ++ e.key.now) always (λ v. over v bytes e.key.now (number_in v n) (number_in v was) o) 1 out
    → Gives q old new (n ∷ change_operands e ++ own_operands owns) always (fold_of bytes n e (take (i + 1) owns)) 1 out
own_more q old mid new bytes n e owns i o was out lt is x y =
    last (next (starts q old (n ∷ change_operands e ++ own_operands owns) always) x (λ ins h. h) (λ v f k. tt)) y there (λ v f k. tt) (fold_of bytes n e (take (i + 1) owns))
    (λ v f k.
    let g = over v bytes e.key.now (number_in v n) in
    let start = bit (in_slot (number_in v n) (number_in v e.slot)) in
    ap (λ z. g z o) k.1 ∙ ap (g (fold g start (take i owns))) is ∙ sym (fold_more g start owns i o lt))
  where
    there : (ins : List (Operand (Name _))) → All (IsAvailable ins) (was ∷ n ∷ change_operands e ++ own_operands owns) → All (IsAvailable ins) (n ∷ was ∷ o.key.now ++ e.key.now)
    there ins h =
        let all = behind (IsAvailable ins) n (change_operands e ++ own_operands owns) (behind (IsAvailable ins) was (n ∷ change_operands e ++ own_operands owns) h) in
        let key = behind (IsAvailable ins) e.presence e.key.now (behind (IsAvailable ins) e.slot (e.presence ∷ e.key.now) (left_of (IsAvailable ins) (change_operands e) (own_operands owns) all)) in
        let made = own_at (IsAvailable ins) owns i o lt is (right_of (IsAvailable ins) (change_operands e) (own_operands owns) all) in
        first_of (IsAvailable ins) n (was ∷ o.key.now ++ e.key.now) (h 1 n (omega arith)) (first_of (IsAvailable ins) was (o.key.now ++ e.key.now) (h 0 was (omega arith)) (All-append (IsAvailable ins) o.key.now e.key.now made key))

choice_as : (m : ℕ) → m < 2 → (b : Bool) (y x : ℕ) → (b ≡ true → y ≡ m) → (b ≡ false → x ≡ m) → bits_from (if b then y else x) 0 1 ≡ m
choice_as m small true y x h k = ap (λ z. bits_from z 0 1) (h refl) ∙ small_bits m 1 small
choice_as m small false y x h k = ap (λ z. bits_from z 0 1) (k refl) ∙ small_bits m 1 small

module _ {N : Type 0} (v : Env N) (bytes : ℕ) (key : List (Operand N)) (n m : ℕ) (small : m < 2) where
  abbrev same : OwnKey N → ℕ
  same o = bit (bytes_eq (bytes_of bytes (map_list (number_in v) o.key.now)) (bytes_of bytes (map_list (number_in v) key)))

  abbrev Fits : OwnKey N → Type 0
  Fits o = n ≡ 4 * o.site + 2 → same o ≡ m

  stays : (os : List (OwnKey N)) (x : ℕ) → All Fits os → x ≡ m → fold (over v bytes key n) x os ≡ m
  stays [] x h e = e
  stays (o ∷ os) x h e = stays os (over v bytes key n x o) (behind Fits o os h) (choice_as m small (n == 4 * o.site + 2) (same o) x (λ t. h 0 o (omega arith) (eqb-true n (4 * o.site + 2) t)) (λ f. e))

  found : (os : List (OwnKey N)) (x k : ℕ) → k < length os → ((d : OwnKey N) → n ≡ 4 * (get_or os k d).site + 2) → All Fits os → fold (over v bytes key n) x os ≡ m
  found [] x k lt is h = absurd (omega (arith, lt))
  found (o ∷ os) x zero lt is h =
      stays os (over v bytes key n x o) (behind Fits o os h) (choice_as m small (n == 4 * o.site + 2) (same o) x (λ t. h 0 o (omega arith) (is o)) (λ f. absurd (eqb-false n (4 * o.site + 2) f (is o))))
  found (o ∷ os) x (suc k) lt is h = found os (over v bytes key n x o) k (omega (arith, lt)) is (behind Fits o os h)

-- ---- keys of other lengths
other_length : (a b : List ℕ) → length a ≢ length b → bytes_eq a b ≡ false
other_length a b ne = by (bytes_eq a b) refl
  where
    by : (c : Bool) → bytes_eq a b ≡ c → bytes_eq a b ≡ false
    by true e = absurd (ne (ap length ((bytes_eq-Decides a b).0 e)))
    by false e = e

bytes_long : (n : ℕ) (ws : List ℕ) → n ≤ 8 * length ws → length (bytes_of n ws) ≡ n
bytes_long n ws h = length-take-le n (spelled ws) (omega (arith, h, spelled_length ws))

module _ {N : Type 0} (v : Env N) (p : ProgramView) (decls : List MapDecl) (h : StageValues) (e : Change) (bytes : ℕ) (key : List (Operand N)) (owns : List (OwnKey N)) (enough : bytes ≤ 8 * length key) (shown : bytes_of bytes (map_list (number_in v) key) ≡ e.key)
    (are : HaveKeys p decls bytes owns) (own : ShowsOwn v p h owns) where
  asked_is : (i : ℕ) → bytes_of (key_bytes p decls i) (map_list (stage_value h) (site_at p.sites i).key) ≡ asked_key decls h (site_at p.sites i)
  asked_is i = sym (key_is (decl_of decls (site_at p.sites i).map) (site_at p.sites i).act (map_list (stage_value h) (site_at p.sites i).key) (map_list (stage_value h) (site_at p.sites i).operands))

  asks : (o : OwnKey N) → key_bytes p decls o.site ≡ bytes → map_list (number_in v) o.key.now ≡ map_list (stage_value h) (site_at p.sites o.site).key → bytes_of bytes (map_list (number_in v) o.key.now) ≡ asked_key decls h (site_at p.sites o.site)
  asks o is k = ap (bytes_of bytes) k ∙ ap (λ n. bytes_of n (map_list (stage_value h) (site_at p.sites o.site).key)) (sym is) ∙ asked_is o.site

  -- the key of each update to whose entry a pointer is
  made_key : (i : ℕ) (o : OwnKey N) → key_bytes p decls o.site ≡ bytes → map_list (number_in v) o.key.now ≡ map_list (stage_value h) (site_at p.sites o.site).key → o.site ≡ i
      → bit (bytes_eq (bytes_of bytes (map_list (number_in v) o.key.now)) (bytes_of bytes (map_list (number_in v) key))) ≡ bit (bytes_eq (asked_key decls h (site_at p.sites i)) e.key)
  made_key i o is k at =
      ap (λ l. bit (bytes_eq l (bytes_of bytes (map_list (number_in v) key)))) (asks o is k)
      ∙ ap (λ l. bit (bytes_eq (asked_key decls h (site_at p.sites o.site)) l)) shown
      ∙ ap (λ x. bit (bytes_eq (asked_key decls h (site_at p.sites x)) e.key)) at

  -- a key of another length is not that of the change
  apart : (i : ℕ) → key_bytes p decls i ≤ 8 * length (site_at p.sites i).key → key_bytes p decls i ≢ bytes → bytes_eq (asked_key decls h (site_at p.sites i)) e.key ≡ false
  apart i words ne =
      let ks = map_list (stage_value h) (site_at p.sites i).key in
      let ws = map_list (number_in v) key in
      let asked : length (asked_key decls h (site_at p.sites i)) ≡ key_bytes p decls i = ap length (sym (asked_is i)) ∙ bytes_long (key_bytes p decls i) ks (omega (arith, words, length-map (site_at p.sites i).key (stage_value h))) in
      let changed : length e.key ≡ bytes = ap length (sym shown) ∙ bytes_long bytes ws (omega (arith, enough, length-map key (number_in v))) in
      other_length (asked_key decls h (site_at p.sites i)) e.key (λ same. ne (sym asked ∙ same ∙ changed))

  pub by_pointer : (slot : ℕ) → slot ≡ e.slot → (q : Pointer) → IsMade p decls bytes q owns → fold (over v bytes key (pointer_number q)) (bit (in_slot (pointer_number q) slot)) owns ≡ bit (entry_touched p decls h e q)
  by_pointer slot is Null made = stays v bytes key 0 0 (omega arith) owns 0 (λ k d lt f. absurd (omega (arith, f))) refl
  by_pointer slot is (InSlot k) made =
      let odd : bits_from (4 * k + 1) 0 1 ≡ 1 = omega arith in
      let index : (4 * k + 1) / 4 ≡ k = omega arith in
      stays v bytes key (4 * k + 1) (bit (k == e.slot)) (bit_small (k == e.slot)) owns (bit (in_slot (4 * k + 1) slot)) (λ i d lt f. absurd (omega (arith, f)))
      (ap (λ b. bit (on b && ((4 * k + 1) / 4 == slot))) odd ∙ ap (λ b. bit (b == slot)) index ∙ ap (λ b. bit (k == b)) is)
  by_pointer slot is (Pending i) made = by (key_bytes p decls i == bytes) refl
    where
      asked : Bool
      asked = bytes_eq (asked_key decls h (site_at p.sites i)) e.key

      by : (b : Bool) → (key_bytes p decls i == bytes) ≡ b → fold (over v bytes key (4 * i + 2)) (bit (in_slot (4 * i + 2) slot)) owns ≡ bit asked
      by true same =
          let a = made.among i refl (eqb-true (key_bytes p decls i) bytes same) in
          found v bytes key (4 * i + 2) (bit asked) (bit_small asked) owns (bit (in_slot (4 * i + 2) slot)) a.0 a.1 (λ d. ap (λ x. 4 * x + 2) (sym (a.2 d)))
          (λ n d lt f. made_key i (get_or owns n d) (are n d lt) (own n d lt) (omega (arith, f)))
      by false other =
          let ne = eqb-false (key_bytes p decls i) bytes other in
          let even : bits_from (4 * i + 2) 0 1 ≡ 0 = omega arith in
          stays v bytes key (4 * i + 2) 0 (omega arith) owns (bit (in_slot (4 * i + 2) slot))
          (λ n d lt f. let at : (get_or owns n d).site ≡ i = omega (arith, f) in absurd (ne (sym (ap (key_bytes p decls) at) ∙ are n d lt))) (ap (λ b. bit (on b && ((4 * i + 2) / 4 == slot))) even)
          ∙ ap bit (sym (apart i (made.words i refl) ne))
