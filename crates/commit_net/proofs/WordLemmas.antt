-- What several operations make of a word, one after another.
use Rattle.std.specs.Prelude.{min}
use Rattle.std.proofs.Common.{◌≡◌, ◌⊎◌, inl, inr, ◌∙◌, ℕ, zero, suc, ◌+◌, ◌-◌, ◌*◌, ◌^◌, ◌<◌, ◌≤◌, All, List, [], ◌∷◌, ◌++◌, length, map, get_or, refl, sym, ap, subst, arith}
use Rattle.std.proofs.lemmas.Bool.{cases_lt}
use Rattle.std.proofs.lemmas.List.{get_or_push, get_or_append_left, get_or_default, length-map}
use Rattle.net_core.specs.Value.{Env}
use Rattle.block_core.specs.declared.name.Name.{Name}
use Rattle.block_core.specs.Blocks.{BlockWireTree}
use Rattle.overlay_net.specs.xdp_maps.declared.decl.MapDecl.{MapDecl}
use Rattle.overlay_net.specs.xdp_maps.Contents.{IsBytes}
use Rattle.overlay_net.specs.cell_core.Formed.{HasWords, IsInside}
use Rattle.overlay_net.specs.cell_core.Sites.{ProgramView, SiteView, site_at, no_site, operation_with}
use Rattle.overlay_net.specs.hazard_core.StageValues.{StageValues, stage_value, asked}
use Rattle.overlay_net.specs.hazard_core.Overlay.{value_as}
use Rattle.overlay_net.specs.hazard_core.Tables.{TableState, decl_of}
use Rattle.overlay_net.specs.hazard_core.Commits.{word_at}
use Rattle.hash_net.specs.array_net.Words.{word_width}
use Rattle.overlay_net.specs.cell_nets.declared.operand.Operand.{Operand}
use Rattle.overlay_net.specs.cell_nets.Operands.{number_in, IsAvailable}
use Rattle.overlay_net.specs.cell_nets.Wires.{Gives}
use Rattle.overlay_net.proofs.cell_nets_laws.ApartLaws.{stay_none, stay_next}
use Rattle.overlay_net.specs.SiteOperands.Sites.{operands_of, ShowsAsked}
use Rattle.overlay_net.proofs.ValueNet.ByteLaws.{word_is, small_in}
use Rattle.byteorder.proofs.Bytes.{pow256}
use Rattle.byteorder.specs.Numbers.{little_from-lt}
use Rattle.byteorder.specs.Endian.{little_from}
use Rattle.hazard_core.proofs.OperationLaws.{value_bytes}
use Rattle.commit_net.specs.declared.choosing.CommitNets.{CommitNets}
use Rattle.commit_net.specs.Choosing.{read_of, all_read, chosen_of, IsChosen, Commits}
use Rattle.commit_net.specs.Words.{IsFitting}
use Rattle.overlay_net.specs.cell_nets.StepNets.Standing.{Stands}
use Rattle.overlay_net.proofs.cell_nets_laws.StepNets.ChainLaws.{starts, next}
use Rattle.overlay_net.proofs.xdp_maps_laws.LittleLaws.{beyond}
use Rattle.commit_net.proofs.ChooseLemmas.{read_each, each_chosen}

module _ {P : Type 0} {p : P} where
  -- an operand whose value is known where a condition holds
  pub gives_if :
      {old new : List (BlockWireTree (Name P))} {args : List (Operand (Name P))} {needs more : Env (Name P) → Type 0} {f g : Env (Name P) → ℕ} {w : ℕ} {o : Operand (Name P)} (C : Type 0) → Gives p old new args needs f w o → (C → Gives p old new args more g w o)
      → Gives p old new args (λ v. C × more v) g w o
  gives_if C x y = record {
    before = x.before;
    stays = x.stays;
    operand = x.operand;
    bits = x.bits;
    given = λ outside a t. record { wires = (x.given outside a t).wires; there = (x.given outside a t).there; value = λ v f s n. ((y n.0).given outside a t).value v f s n.1 };
    apart = x.apart;
  }

  -- and one more, which is known only there
  pub next_if :
      {old mid new : List (BlockWireTree (Name P))} {args outs bs : List (Operand (Name P))} {needs knows more : Env (Name P) → Type 0} {g : Env (Name P) → ℕ} {u : ℕ} {o : Operand (Name P)} → Stands p old mid args needs outs knows → Gives p mid new bs more g u o
      → ((ins : List (Operand (Name P))) → All (IsAvailable ins) outs → All (IsAvailable ins) bs) → Stands p old new args needs (o ∷ outs) (λ v. knows v × (more v → number_in v o ≡ g v))
  next_if {old} {mid} {new} {args} {outs} {bs} {needs} {knows} {more} {g} {u} {o} x y sub = record {
    before = z.before;
    stays = z.stays;
    wires = z.wires;
    there = z.there;
    known = λ outside v a h f s n.
        let k = x.known outside v a h f (y.before v s) n in
        (k, λ m. (y.given outside (x.wires outside a h) (sub _ (x.there outside a h))).value v f s m);
    apart = z.apart;
  }
    where
      itself : Gives p mid new bs (λ v. Unit {0}) (λ v. number_in v o) u o
      itself = record {
        before = y.before;
        stays = y.stays;
        operand = y.operand;
        bits = y.bits;
        given = λ outside a t. record { wires = (y.given outside a t).wires; there = (y.given outside a t).there; value = λ v f s n. refl };
        apart = y.apart;
      }

      z : Stands p old new args needs (o ∷ outs) (λ v. knows v × (number_in v o ≡ number_in v o))
      z = next x itself sub (λ v f k. tt)

  pub stands_as :
      {old new : List (BlockWireTree (Name P))} {args outs : List (Operand (Name P))} {needs knows : Env (Name P) → Type 0} (lasts : List (Operand (Name P))) (more : Env (Name P) → Type 0) → Stands p old new args needs outs knows
      → ((ins : List (Operand (Name P))) → All (IsAvailable ins) outs → All (IsAvailable ins) lasts) → ((v : Env (Name P)) → knows v → more v) → Stands p old new args needs lasts more
  stands_as {old} {new} {args} {outs} lasts more x sub enough = record {
    before = x.before;
    stays = x.stays;
    wires = x.wires;
    there = λ outside a h. sub _ (x.there outside a h);
    known = λ outside v a h f s n. enough v (x.known outside v a h f s n);
    apart = stay_next p old new new args outs outs lasts (λ ins h k. k) x.apart (stay_none p new outs lasts sub);
  }

-- ---- lists of operands
module _ {N : Type 0} (Q : Operand N → Type 0) where
  pub last_first : (xs ys : List (Operand N)) (x : Operand N) → All Q (x ∷ xs ++ ys) → All Q ((xs ++ x ∷ []) ++ ys)
  last_first [] ys x h k d lt = h k d lt
  last_first (y ∷ xs) ys x h zero d lt = h 1 d (omega arith)
  last_first (y ∷ xs) ys x h (suc k) d lt = last_first xs ys x skip k d (omega (arith, lt))
    where
      skip : All Q (x ∷ xs ++ ys)
      skip zero e l = h 0 e (omega arith)
      skip (suc n) e l = h (suc (suc n)) e (omega (arith, l))

  pub push_all : (xs : List (Operand N)) (x : Operand N) → All Q xs → Q x → All Q (xs ++ x ∷ [])
  push_all [] x h q zero d lt = q
  push_all [] x h q (suc k) d lt = absurd (omega (arith, lt))
  push_all (y ∷ xs) x h q zero d lt = h 0 d (omega arith)
  push_all (y ∷ xs) x h q (suc k) d lt = push_all xs x (λ n e l. h (suc n) e (omega (arith, l))) q k d (omega (arith, lt))

  pub after : (xs ys : List (Operand N)) → All Q (xs ++ ys) → All Q ys
  after [] ys h = h
  after (x ∷ xs) ys h = after xs ys (λ n e l. h (suc n) e (omega (arith, l)))

  pub before : (xs ys : List (Operand N)) → All Q (xs ++ ys) → All Q xs
  before [] ys h k d lt = absurd (omega (arith, lt))
  before (x ∷ xs) ys h zero d lt = h 0 d (omega arith)
  before (x ∷ xs) ys h (suc k) d lt = before xs ys (λ n e l. h (suc n) e (omega (arith, l))) k d (omega (arith, lt))

  tail : (x : Operand N) (xs : List (Operand N)) → All Q (x ∷ xs) → All Q xs
  tail x xs h n d lt = h (suc n) d (omega (arith, lt))

  -- the words of one operation, after the word that it finds
  pub words_there : (outs : List (Operand N)) (a : Operand N) (ns : List (CommitNets N)) (i : ℕ) (n : CommitNets N) → i < length ns → n ≡ get_or ns i n → All Q (outs ++ a ∷ all_read ns) → All Q (a ∷ n.nets.now.operands.items)
  words_there outs a ns i n l is h = front (after outs (a ∷ all_read ns) h)
    where
      front : All Q (a ∷ all_read ns) → All Q (a ∷ n.nets.now.operands.items)
      front k zero d lt = k 0 d (omega arith)
      front k (suc m) d lt =
          let each : All Q (read_of n) = subst (λ x. All Q (read_of x)) (sym is) (read_each Q ns (tail a (all_read ns) k) i n l) in
          after n.nets.now.key.items n.nets.now.operands.items (λ c e q. each (suc (suc (suc c))) e (omega (arith, q))) m d (omega (arith, lt))

-- ---- the words, so far
module _ {P : Type 0} (part : P) (d : MapDecl) (ns : List (CommitNets (Name P))) (w : ℕ) (a : Operand (Name P)) (p : ProgramView) (t : TableState) (taken : List ℕ) (h : StageValues) (j : ℕ) (value : List ℕ) where
  abbrev pub Needs : Env (Name P) → Type 0
  Needs v = Commits v p t taken h j ns × (decl_of t.decls (site_at p.sites j).map ≡ d) × IsBytes d.value value × (number_in v a ≡ word_at value w)

  abbrev pub new_word : ℕ
  new_word = word_at (value_as (asked t.decls h (site_at p.sites j)) value) w

  -- an operation is like that of the site, on this value
  abbrev pub IsLike : CommitNets (Name P) → Type 0
  IsLike n = ((site_at p.sites j).act ≡ n.act) × (decl_of t.decls (site_at p.sites j).map ≡ d) × IsBytes d.value value

  abbrev pub Shows : Env (Name P) → CommitNets (Name P) → Type 0
  Shows v n = (number_in v a ≡ word_at value w) × ShowsAsked v p h j (operands_of n.nets.now)

  -- what one of the first ones makes of the word, where it is like that and shows its operands
  abbrev pub AreMade : Env (Name P) → List (Operand (Name P)) → ℕ → Type 0
  AreMade v outs i = (k : ℕ) (n : CommitNets (Name P)) (e : Operand (Name P)) → k < i → get_or ns k n ≡ n → IsLike n → Shows v n → number_in v (get_or outs k e) ≡ new_word

  abbrev pub Far : List (BlockWireTree (Name P)) → List (BlockWireTree (Name P)) → List (Operand (Name P)) → ℕ → Type 0
  Far old new outs i = Stands part old new (a ∷ all_read ns) Needs (outs ++ a ∷ all_read ns) (λ v. Needs v × AreMade v outs i)

  pub far_none : (ws : List (BlockWireTree (Name P))) → Far ws ws [] 0
  far_none ws = stands_as (a ∷ all_read ns) (λ v. Needs v × AreMade v [] 0) (starts part ws (a ∷ all_read ns) Needs) (λ ins s. s) (λ v n. (n, λ k m e lt. absurd (omega (arith, lt))))

  module _ (old mid new : List (BlockWireTree (Name P))) (outs : List (Operand (Name P))) (i : ℕ) (n : CommitNets (Name P)) (word : Operand (Name P)) (x : Far old mid outs i) (count : length outs ≡ i) (l : i < length ns) (is : n ≡ get_or ns i n) where
    pub far_more : {needs : Env (Name P) → Type 0} {f : Env (Name P) → ℕ} → Gives part mid new (a ∷ n.nets.now.operands.items) needs f 64 word → (IsLike n → Gives part mid new (a ∷ n.nets.now.operands.items) (λ v. Shows v n) (λ v. new_word) 64 word) → Far old new (outs ++ word ∷ []) (i + 1)
    far_more any real =
        stands_as ((outs ++ word ∷ []) ++ a ∷ all_read ns) (λ v. Needs v × AreMade v (outs ++ word ∷ []) (i + 1)) (next_if x (gives_if (IsLike n) any real) (λ ins s. words_there (IsAvailable ins) outs a ns i n l is s))
        (λ ins s. last_first (IsAvailable ins) outs (a ∷ all_read ns) word s) (λ v s. (s.0.0, λ k m e lt at like shows. by_order v s k m e lt at like shows (cases_lt k i)))
      where
        by_order :
            (v : Env (Name P)) → (Needs v × AreMade v outs i) × (IsLike n × Shows v n → number_in v word ≡ new_word) → (k : ℕ) (m : CommitNets (Name P)) (e : Operand (Name P)) → k < i + 1 → get_or ns k m ≡ m → IsLike m → Shows v m → (k < i) ⊎ (i ≤ k)
            → number_in v (get_or (outs ++ word ∷ []) k e) ≡ new_word
        by_order v s k m e lt at like shows (inl less) = ap (number_in v) (get_or_append_left outs (word ∷ []) e k (omega (arith, less, count))) ∙ s.0.1 k m e less at like shows
        by_order v s k m e lt at like shows (inr over) =
            let q : k ≡ i = omega (arith, over, lt) in
            let same : m ≡ n = sym at ∙ ap (λ y. get_or ns y m) q ∙ get_or_default ns i m n l ∙ sym is in
            ap (number_in v) (get_or_push outs word e k (omega (arith, count, q))) ∙ s.1 (subst IsLike same like, subst (Shows v) same shows)

-- ---- a program that has an operation like one
abbrev pub like_site : {N : Type 0} → CommitNets N → SiteView
like_site n = record no_site { act = n.act }

abbrev pub like_program : {N : Type 0} → CommitNets N → ProgramView
like_program n = record { cells = []; nodes = []; sites = like_site n ∷ []; verdict = 0; target = 0; frame = [] }

abbrev pub nothing_held : StageValues
nothing_held = record { values = []; pointers = [] }

-- ---- a word of so many bytes
pub word_small : (n w : ℕ) (xs : List ℕ) → IsBytes n xs → word_at xs w < 2 ^ word_width n w
word_small n w xs b = subst (λ x. x < 2 ^ word_width n w) (sym (word_is xs w ∙ short (cases_lt (n - 8 * w) 8))) (subst (λ x. little_from (8 * w) m xs < x) (pow256 m) (little_from-lt (8 * w) m xs (small_in n xs b)))
  where
    m : ℕ
    m = min 8 (n - 8 * w)

    short : (n - 8 * w < 8) ⊎ (8 ≤ n - 8 * w) → little_from (8 * w) 8 xs ≡ little_from (8 * w) m xs
    short (inl l) = beyond 8 (8 * w) m xs (omega arith) (omega (arith, b.len))
    short (inr l) = let g : 8 ≡ m = omega arith in ap (λ k. little_from (8 * w) k xs) g

-- the word that an operation leaves has so many bytes
pub left_small :
    {N : Type 0} (n : CommitNets N) (p : ProgramView) (decls : List MapDecl) (h : StageValues) (j : ℕ) (d : MapDecl) (value : List ℕ) (w : ℕ) → IsFitting d n → (site_at p.sites j).act ≡ n.act → length n.nets.now.operands.items ≡ length (site_at p.sites j).operands → decl_of decls (site_at p.sites j).map ≡ d
    → IsBytes d.value value → word_at (value_as (asked decls h (site_at p.sites j)) value) w < 2 ^ word_width d.value w
left_small n p decls h j d value w fit doing count declared b =
    let s = site_at p.sites j in
    let xs = map (stage_value h) s.operands in
    let long : length n.nets.now.operands.items ≡ length xs = count ∙ sym (length-map s.operands (stage_value h)) in
    let words : HasWords d.value s.act (length xs) = subst (λ a. HasWords d.value a (length xs)) (sym doing) (subst (HasWords d.value n.act) long fit.words) in
    let is = value_bytes d s.act (map (stage_value h) s.key) xs value b words (subst (IsInside d.value) (sym doing) fit.inside) in
    word_small d.value w (value_as (asked decls h s) value) (subst (λ x. IsBytes d.value (value_as (operation_with x s.act (map (stage_value h) s.key) xs) value)) (sym declared) is)

-- and so has that of the one that commits
pub chosen_small :
    {N : Type 0} (v : Env N) (ns : List (CommitNets N)) (p : ProgramView) (decls : List MapDecl) (h : StageValues) (j : ℕ) (d : MapDecl) (value : List ℕ) (w : ℕ) → All (IsFitting d) ns → (x : IsChosen v p j ns) → ShowsAsked v p h j (operands_of x.nets.nets.now) → decl_of decls (site_at p.sites j).map ≡ d
    → IsBytes d.value value → word_at (value_as (asked decls h (site_at p.sites j)) value) w < 2 ^ word_width d.value w
chosen_small v ns p decls h j d value w fitting x shown declared b =
    let xs = x.nets.nets.now.operands.items in
    let cells = (site_at p.sites j).operands in
    let count : length xs ≡ length cells = omega (arith, ap length shown.operands, length-map xs (number_in v), length-map cells (stage_value h)) in
    left_small x.nets p decls h j d value w (subst (IsFitting d) x.is (fitting x.place x.nets x.within)) x.act count declared b

-- ---- one of several
pub item_at : {X : Type 0} (Q : X → Type 0) (xs : List X) (i : ℕ) (x : X) → i < length xs → x ≡ get_or xs i x → All Q xs → Q x
item_at Q xs i x l is h = subst Q (sym is) (h i x l)

pub operands_last : {N : Type 0} (Q : Operand N → Type 0) (n : CommitNets N) → All Q (read_of n) → All Q n.nets.now.operands.items
operands_last Q n h = after Q n.nets.now.key.items n.nets.now.operands.items (λ c e q. h (suc (suc (suc c))) e (omega (arith, q)))

pub words_choose : {N : Type 0} (Q : Operand N → Type 0) (outs : List (Operand N)) (a : Operand N) (ns : List (CommitNets N)) → All Q (outs ++ a ∷ all_read ns) → All Q (chosen_of ns ++ outs)
words_choose Q outs a ns h = join (chosen_of ns) outs (each_chosen Q ns (read_each Q ns (tail Q a (all_read ns) (after Q outs (a ∷ all_read ns) h)))) (before Q outs (a ∷ all_read ns) h)
  where
    join : (xs ys : List (Operand _)) → All Q xs → All Q ys → All Q (xs ++ ys)
    join [] ys k m n d lt = m n d lt
    join (x ∷ xs) ys k m zero d lt = k 0 d (omega arith)
    join (x ∷ xs) ys k m (suc n) d lt = join xs ys (λ i e l. k (suc i) e (omega (arith, l))) m n d (omega (arith, lt))
