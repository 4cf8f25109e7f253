-- What stands for a word of a key, by each operation, in pairs.
use Rattle.std.proofs.Common.{◌≡◌, ◌⊎◌, inl, inr, ◌∙◌, ℕ, zero, suc, ◌+◌, ◌<◌, ◌≤◌, Bool, true, false, All, List, [], ◌∷◌, ◌++◌, length, take, get_or, append_assoc, refl, sym, ap, subst, arith}
use Rattle.std.specs.Prelude.{if◌then◌else◌}
use Rattle.std.proofs.lemmas.Bool.{cases_lt}
use Rattle.std.proofs.lemmas.List.{get_or_append_left, get_or_push, length_push}
use Rattle.std.proofs.lemmas.List.Elements.{All-append, All-nil}
use Rattle.net_core.specs.Value.{Env}
use Rattle.block_core.specs.declared.name.Name.{Name}
use Rattle.block_core.specs.Blocks.{BlockWireTree}
use Rattle.overlay_net.specs.xdp_maps.declared.decl.MapDecl.{MapDecl}
use Rattle.overlay_net.specs.xdp_maps.declared.decl.MapKind.TheVariants.{Hash, Array}
use Rattle.overlay_net.specs.cell_core.Cells.{bits_from}
use Rattle.overlay_net.specs.cell_nets.declared.operand.Operand.{Operand}
use Rattle.overlay_net.specs.cell_nets.declared.operand.Operand.TheVariants.{Known, Net}
use Rattle.overlay_net.specs.cell_nets.Operands.{number_in, IsOperand, IsAvailable}
use Rattle.overlay_net.specs.cell_nets.Wires.{always, Gives}
use Rattle.overlay_net.proofs.cell_nets_laws.ShiftLaws.{cut_low}
use Rattle.overlay_net.specs.cell_nets.StepNets.Standing.{Stands}
use Rattle.overlay_net.proofs.cell_nets_laws.StepNets.ChainLaws.{starts, next}
use Rattle.commit_net.specs.declared.choosing.CommitNets.{CommitNets}
use Rattle.commit_net.specs.Choosing.{read_of, all_read}
use Rattle.commit_net.specs.ChangeNet.Pointed.{word_operands}
use Rattle.commit_net.specs.ChangeNet.Changes.{key_by, key_pairs, key_value, ShowWords, ShowKeys, ShowKeys_as, AreKeys}
use Rattle.commit_net.proofs.ChangeNet.ChainLemmas.{first_of, tail, stands_as, joined}
use Rattle.commit_net.proofs.ChangeNet.KeyLemmas.{left_of, right_of, key_by_of}

module _ {N : Type 0} (w : ℕ) (there : Operand N) where
  pair_next : (ns : List (CommitNets N)) (i : ℕ) (n : CommitNets N) → i < length ns → key_pairs w there (take (suc i) ns) ≡ key_pairs w there (take i ns) ++ (get_or ns i n).chosen ∷ key_by w there (get_or ns i n) ∷ []
  pair_next [] i n l = absurd (omega (arith, l))
  pair_next (m ∷ ns) zero n l = refl
  pair_next (m ∷ ns) (suc i) n l = ap (λ z. m.chosen ∷ key_by w there m ∷ z) (pair_next ns i n (omega (arith, l)))

  pub pair_pushed :
      (ns : List (CommitNets N)) (i : ℕ) (all one two : List (Operand N)) (n : CommitNets N) (o : Operand N) → i < length ns → n ≡ get_or ns i n → o ≡ key_by w there n → one ≡ all ++ n.chosen ∷ [] → two ≡ one ++ o ∷ [] → all ≡ key_pairs w there (take i ns)
      → two ≡ key_pairs w there (take (i + 1) ns)
  pair_pushed ns i all one two n o l is e f g h =
      let more : suc i ≡ i + 1 = omega arith in
      g
      ∙ ap (λ z. z ++ o ∷ []) f
      ∙ append_assoc all (n.chosen ∷ []) (o ∷ [])
      ∙ (λ k. h k ++ (is k).chosen ∷ (e ∙ ap (key_by w there) is) k ∷ [])
      ∙ sym (pair_next ns i n l)
      ∙ ap (λ m. key_pairs w there (take m ns)) more

  -- what holds of all operands holds of these
  pub pairs_of : (Q : Operand N → Type 0) → Q (Known 0) → Q there → (ns : List (CommitNets N)) → All Q (all_read ns) → All Q (key_pairs w there ns)
  pairs_of Q z h [] all k d lt = absurd (omega (arith, lt))
  pairs_of Q z h (n ∷ ns) all zero d lt = all 0 d (omega arith)
  pairs_of Q z h (n ∷ ns) all (suc zero) d lt = key_by_of Q n w there z h (left_of Q (read_of n) (all_read ns) all)
  pairs_of Q z h (n ∷ ns) all (suc (suc k)) d lt = pairs_of Q z h ns (right_of Q (read_of n) (all_read ns) all) k d (omega (arith, lt))

pub all_operands : {N : Type 0} (Q : Operand N → Type 0) (ns : List (CommitNets N)) → All (λ n. All Q (read_of n)) ns → All Q (all_read ns)
all_operands Q [] h = All-nil Q
all_operands Q (n ∷ ns) h = All-append Q (read_of n) (all_read ns) (h 0 n (omega arith)) (all_operands Q ns (λ k d lt. h (suc k) d (omega (arith, lt))))

-- the choice between what commits and the word in the slot
pub chosen_bits : (b : Bool) (x y z : ℕ) → x ≡ bits_from y 0 64 → bits_from (if b then x else z) 0 64 ≡ bits_from (if b then y else z) 0 64
chosen_bits true x y z e = ap (λ n. bits_from n 0 64) e ∙ cut_low y 64 64 (omega arith)
chosen_bits false x y z e = refl

-- ---- a word more
module _ {N : Type 0} (Q : Operand N → Type 0) where
  key_at : (keys : List N) (rest : List (Operand N)) (w : ℕ) (n : N) → w < length keys → n ≡ get_or keys w n → All Q (word_operands keys ++ rest) → Q (Net n 64)
  key_at [] rest w n l is h = absurd (omega (arith, l))
  key_at (k ∷ keys) rest zero n l is h = subst (λ x. Q (Net x 64)) (sym is) (h 0 (Net k 64) (omega arith))
  key_at (k ∷ keys) rest (suc w) n l is h = key_at keys rest w n (omega (arith, l)) is (tail Q (Net k 64) (word_operands keys ++ rest) h)

  pub for_word : (c : Operand N) (keys : List N) (ns : List (CommitNets N)) (w : ℕ) (n : N) → w < length keys → n ≡ get_or keys w n → All Q (c ∷ word_operands keys ++ all_read ns) → All Q (c ∷ Net n 64 ∷ all_read ns)
  for_word c keys ns w n l is h =
      let rest = tail Q c (word_operands keys ++ all_read ns) h in
      first_of Q c (Net n 64 ∷ all_read ns) (h 0 c (omega arith)) (first_of Q (Net n 64) (all_read ns) (key_at keys (all_read ns) w n l is rest) (right_of Q (word_operands keys) (all_read ns) rest))

  last_first : (xs ys : List (Operand N)) (x : Operand N) → All Q (x ∷ xs ++ ys) → All Q ((xs ++ x ∷ []) ++ ys)
  last_first xs ys x h =
      let r = tail Q x (xs ++ ys) h in
      All-append Q (xs ++ x ∷ []) ys (All-append Q xs (x ∷ []) (left_of Q xs ys r) (first_of Q x [] (h 0 x (omega arith)) (All-nil Q))) (right_of Q xs ys r)

module _ {P : Type 0} (part : P) (ns : List (CommitNets (Name P))) (c : Operand (Name P)) (keys : List (Name P)) where
  abbrev ins : List (Operand (Name P))
  ins = c ∷ word_operands keys ++ all_read ns

  abbrev SoFar : List (Operand (Name P)) → Env (Name P) → Type 0
  SoFar outs v = (w : ℕ) (d : Operand (Name P)) (n : Name P) → w < length outs → number_in v (get_or outs w d) ≡ key_value v ns c w (Net (get_or keys w n) 64)

  abbrev pub Words : List (BlockWireTree (Name P)) → List (BlockWireTree (Name P)) → List (Operand (Name P)) → Type 0
  Words old new outs = Stands part old new ins always (outs ++ ins) (SoFar outs)

  pub words_none : (ws : List (BlockWireTree (Name P))) → Words ws ws []
  words_none ws = stands_as ins (SoFar []) (starts part ws ins always) (λ all h. h) (λ v n w d e lt. absurd (omega (arith, lt)))

  pub words_next :
      {old mid new : List (BlockWireTree (Name P))} (outs : List (Operand (Name P))) (o : Operand (Name P)) (w : ℕ) (n : Name P) → length outs ≡ w → w < length keys → n ≡ get_or keys w n → Words old mid outs
      → Gives part mid new (c ∷ Net n 64 ∷ all_read ns) always (λ v. key_value v ns c w (Net n 64)) 64 o → Words old new (outs ++ o ∷ [])
  words_next outs o w n count l is x y =
      stands_as ((outs ++ o ∷ []) ++ ins) (SoFar (outs ++ o ∷ [])) (next x y (λ all h. for_word (IsAvailable all) c keys ns w n l is (right_of (IsAvailable all) outs ins h)) (λ v f k. tt)) (λ all h. last_first (IsAvailable all) outs ins o h)
      (λ v k i d e lt. by_order v k i d e lt (cases_lt i w))
    where
      by_order : (v : Env (Name P)) → SoFar outs v × (number_in v o ≡ key_value v ns c w (Net n 64)) → (i : ℕ) (d : Operand (Name P)) (e : Name P) → i < length (outs ++ o ∷ []) → (i < w) ⊎ (w ≤ i) → number_in v (get_or (outs ++ o ∷ []) i d) ≡ key_value v ns c i (Net (get_or keys i e) 64)
      by_order v k i d e lt (inl less) = ap (number_in v) (get_or_append_left outs (o ∷ []) d i (omega (arith, less, count))) ∙ k.0 i d e (omega (arith, less, count))
      by_order v k i d e lt (inr over) =
          let q : i ≡ w = omega (arith, over, lt, count, length_push outs o) in
          let same : n ≡ get_or keys i e = is ∙ ap (λ y. get_or keys y n) (sym q) ∙ default keys i n e (omega (arith, l, q)) in
          ap (number_in v) (get_or_push outs o d i (omega (arith, count, q))) ∙ k.1 ∙ ap (λ y. key_value v ns c y (Net n 64)) (sym q) ∙ ap (λ y. key_value v ns c i (Net y 64)) same
        where
          default : (xs : List (Name P)) (i : ℕ) (x y : Name P) → i < length xs → get_or xs i x ≡ get_or xs i y
          default [] i x y l = absurd (omega (arith, l))
          default (z ∷ xs) zero x y l = refl
          default (z ∷ xs) (suc i) x y l = default xs i x y (omega (arith, l))

  pub words_all : {old new : List (BlockWireTree (Name P))} (outs : List (Operand (Name P))) → length outs ≡ length keys → All IsOperand outs → Words old new outs → AreKeys part old new ns c keys outs
  words_all outs count operands x = record {
    count = count;
    operands = operands;
    stands = stands_as outs (λ v. ShowWords v ns c keys outs) x (λ all h. left_of (IsAvailable all) outs ins h) (λ v k. (count, λ w d n l. k w d n (omega (arith, l, count))));
  }

  -- ---- of a map
  module _ (d : MapDecl) (slot : Operand (Name P)) where
    abbrev wider : List (Operand (Name P))
    wider = c ∷ slot ∷ word_operands keys ++ all_read ns

    pub hash_stands : {old new : List (BlockWireTree (Name P))} (outs : List (Operand (Name P))) → d.kind ≡ Hash → AreKeys part old new ns c keys outs → Stands part old new wider always outs (λ v. ShowKeys v d ns c slot keys outs)
    hash_stands {old = old} outs kind x =
        stands_as outs (λ v. ShowKeys v d ns c slot keys outs)
        (joined (starts part old wider always) x.stands (λ all h. let rest = tail (IsAvailable all) c (slot ∷ word_operands keys ++ all_read ns) h in first_of (IsAvailable all) c (word_operands keys ++ all_read ns) (h 0 c (omega arith)) (tail (IsAvailable all) slot (word_operands keys ++ all_read ns) rest)) (λ v k. tt))
        (λ all h. left_of (IsAvailable all) outs wider h) (λ v k. subst (λ m. ShowKeys_as m v ns c slot keys outs) (sym kind) k.1)

    pub array_stands : (ws : List (BlockWireTree (Name P))) (outs : List (Operand (Name P))) → d.kind ≡ Array → outs ≡ slot ∷ [] → Stands part ws ws wider always outs (λ v. ShowKeys v d ns c slot keys outs)
    array_stands ws outs kind is =
        stands_as outs (λ v. ShowKeys v d ns c slot keys outs) (starts part ws wider always)
        (λ all h. subst (All (IsAvailable all)) (sym is) (first_of (IsAvailable all) slot [] (h 1 slot (omega arith)) (All-nil (IsAvailable all)))) (λ v k. subst (λ m. ShowKeys_as m v ns c slot keys outs) (sym kind) is)

pub push_first : {X : Type 0} {x : X} {xs ys : List X} → ys ≡ xs ++ x ∷ [] → xs ≡ [] → ys ≡ x ∷ []
push_first {x = x} e f = e ∙ ap (λ l. l ++ x ∷ []) f
