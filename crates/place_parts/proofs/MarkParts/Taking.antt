-- What the block of marks takes.
use Rattle.std.specs.Prelude.{◌*◌, ◌^◌, ◌≤◌, Contains}
use Rattle.std.proofs.Common.{◌≡◌, ◌∙◌, ℕ, zero, suc, ◌-◌, ◌<◌, All, List, [], ◌∷◌, ◌++◌, length, get_or, refl, sym, ap, subst, arith}
use Rattle.std.proofs.lemmas.List.{get_or_default}
use Rattle.block_core.proofs.list_laws_laws.PlaceLaws.{some_of}
use Rattle.hazard_core.specs.xdp_maps.declared.decl.MapDecl.{MapDecl}
use Rattle.block_core.specs.declared.name.Name.{Name}
use Rattle.hazard_core.specs.cell_core.Sites.{site_at}
use Rattle.overlay_net.specs.cell_nets.declared.operand.Operand.{Operand}
use Rattle.overlay_net.specs.cell_nets.declared.operand.Operand.TheVariants.{Known}
use Rattle.overlay_net.specs.cell_nets.Operands.{IsOperand}
use Rattle.overlay_net.specs.declared.site_operands.SiteNets.{SiteNets}
use Rattle.overlay_net.specs.SiteOperands.Sites.{operands_of, all_of}
use Rattle.read_net.specs.declared.touch_net.change.OwnKey.{OwnKey}
use Rattle.read_net.specs.TouchNet.Touching.{key_bytes, IsOwnKey, IsChangeNets}
use Rattle.commit_net.specs.declared.change_net.change.ChangePart.{ChangePart}
use Rattle.read_net.specs.declared.mark_net.nets.MarkSite.{MarkSite}
use Rattle.read_net.specs.MarkNet.Sites.{HasOperands, IsMarkSite, AreMarkSites}
use Rattle.pipe_net.specs.declared.parts.Part.{Part}
use Rattle.pipe_net.specs.declared.parts.Sizes.{Sizes}
use Rattle.place_parts.specs.declared.mark_parts.layout.MarkLayout.{MarkLayout}
use Rattle.place_parts.specs.MarkParts.Places.{program_in, reads_before, register_of, IsMarkLayout, HaveOperands}
use Rattle.place_parts.specs.MarkParts.Owns.{IsOwn}
use Rattle.place_parts.specs.MarkParts.Marks.{HaveChanges, comes_by, IsMarkOf, Unread, Read, IsMarkBefore, IsChangeOf, IsMark, AreMarks}
use Rattle.place_parts.proofs.MarkParts.Forming.{net_has, register_has, reads_few}

left_in : {A : Type 0} (P : A → Type 0) (xs ys : List A) → All P (xs ++ ys) → All P xs
left_in P [] ys h n d lt = absurd (omega (arith, lt))
left_in P (x ∷ xs) ys h zero d lt = h 0 d (omega arith)
left_in P (x ∷ xs) ys h (suc n) d lt = left_in P xs ys (λ m e l. h (suc m) e (omega (arith, l))) n d (omega (arith, lt))

-- ---- the mark at the place before
one_less : (k : ℕ) → suc k - 1 ≡ k
one_less k = omega arith

pub before_read : (f : MarkLayout) (k j i : ℕ) (before : List ℕ) (o : Operand (Name Part)) → before ≡ reads_before f k → i < length before → get_or before i 0 ≡ j → o ≡ register_of f.sizes (k - 1) i → IsMarkBefore f j k o
before_read f zero j i before o is lt same e = absurd (omega (arith, lt, ap length is))
before_read f (suc k) j i before o is lt same e = Read i (subst (λ js. i < length js) is lt) (ap (λ js. get_or js i 0) (sym is) ∙ same) (e ∙ ap (λ n. register_of f.sizes n i) (one_less k))

pub before_none : (f : MarkLayout) (k j : ℕ) (before : List ℕ) → before ≡ reads_before f k → ((n d : ℕ) → n < length before → ¬ (get_or before n d ≡ j)) → IsMarkBefore f j k (Known 0)
before_none f zero j before is none = refl
before_none f (suc k) j before is none = Unread (subst (λ js. ¬ Contains js j) is (λ c. none c.0 j c.1 c.2)) refl

pub before_few : (f : MarkLayout) (k : ℕ) → IsMarkLayout f → length (reads_before f k) < 2 ^ 31
before_few f zero is = omega arith
before_few f (suc k) is = reads_few f k is

module _ (f : MarkLayout) (sites : List (SiteNets (Name Part))) (changes : List (ChangePart (Name Part))) (is : IsMarkLayout f) (ops : HaveOperands f sites) (have : HaveChanges f changes) where
  -- ---- the mark before
  mark_has : (k j : ℕ) (o : Operand (Name Part)) → IsMarkOf f k j o → IsOperand o
  mark_has k j o (Unread none e) = subst IsOperand (sym e) (omega arith)
  mark_has k j o (Read i lt at e) = subst IsOperand (sym e) (register_has f.sizes k i)

  before_has : (k j : ℕ) (o : Operand (Name Part)) → IsMarkBefore f j k o → IsOperand o
  before_has zero j o e = subst IsOperand (sym e) (omega arith)
  before_has (suc k) j o b = mark_has k j o b

  -- ---- keys
  module _ (j : ℕ) (known : j < length (program_in f).sites) where
    operands_at : (s : SiteNets (Name Part)) → All IsOperand (all_of (operands_of (get_or sites j s)))
    operands_at s = ops.operands j s (omega (arith, known, ops.count))

    pub words_at : (s : SiteNets (Name Part)) → key_bytes (program_in f) f.decls.now j ≤ 8 * length (get_or sites j s).key.items
    words_at s = omega (arith, (is.fits j known).key, ops.keys j s (omega (arith, known, ops.count)))

  -- the operands of a key are among those of its site
  key_has : (s : SiteNets (Name Part)) → All IsOperand (all_of (operands_of s)) → All IsOperand s.key.items
  key_has s all = left_in IsOperand s.key.items s.operands.items (λ i d lt. all (suc (suc (suc (suc i)))) d (omega (arith, lt)))

  own_has : (bytes : ℕ) (o : OwnKey (Name Part)) → IsOwn f sites bytes o → IsOwnKey bytes o
  own_has bytes o own =
      let s = some_of sites o.site own.known in
      let known : o.site < length (program_in f).sites = omega (arith, own.known, ops.count) in
      record {
        operands = subst (All IsOperand) (sym (own.key s)) (key_has (get_or sites o.site s) (operands_at o.site known s));
        key = omega (arith, words_at o.site known s, own.bytes_are, ap length (own.key s));
      }

  -- ---- all
  module _ (k i : ℕ) (m : MarkSite (Name Part)) (x : IsMark f sites changes k i m) where
    change_has : IsChangeNets m.decl.now.key m.change
    change_has =
        let n = (site_at (program_in f).sites m.site).map in
        let c = some_of changes n x.map_known in
        subst (λ (d : MapDecl). IsChangeNets d.key m.change) (sym x.decl) (have.nets n c m.change x.map_known (x.change c).change)

    pub mark_operands : HasOperands m
    mark_operands =
        let s = m.nets.now in
        let c = some_of changes (site_at (program_in f).sites m.site).map x.map_known in
        record {
          was = subst IsOperand (sym x.was) (register_has f.sizes k i);
          before = before_has k m.site m.before x.before;
          comes = subst IsOperand (sym (x.change c).comes) (net_has (comes_by f.sizes k (get_or changes (site_at (program_in f).sites m.site).map c)));
          cells = subst (λ (n : SiteNets (Name Part)). All IsOperand (all_of (operands_of n))) (sym (x.nets s)) (operands_at m.site x.known s);
          words = omega (arith, words_at m.site x.known s, ap (λ (n : SiteNets (Name Part)). length n.key.items) (x.nets s), ap (λ (d : MapDecl). d.key) x.decl);
          owns = λ n o lt. own_has m.decl.now.key (get_or m.owns.now n o) (x.owns.each n o lt);
          change = change_has;
        }

    pub mark_is : IsMarkSite (program_in f) f.decls.now m
    mark_is = record { site = record { act = sym x.act; decl = sym x.decl }; owns = λ n o lt. (x.owns.each n o lt).bytes_are }

  module _ (k : ℕ) (ms : List (MarkSite (Name Part))) (are : AreMarks f sites changes k ms) where
    pub marks_have : All HasOperands ms
    marks_have i m lt = mark_operands k i (get_or ms i m) (are.each i m lt)

    pub marks_are : AreMarkSites (program_in f) f.decls.now ms
    marks_are i m lt = mark_is k i (get_or ms i m) (are.each i m lt)

-- ---- the change of a map
pub change_of :
    (z : Sizes) (k : ℕ) (changes : List (ChangePart (Name Part))) (n m : ℕ) (c : ChangePart (Name Part)) (x : MarkSite (Name Part)) → n ≡ m → n < length changes → c ≡ get_or changes m c → IsChangeOf z k c x
    → (d : ChangePart (Name Part)) → IsChangeOf z k (get_or changes n d) x
change_of z k changes n m c x same lt is h d = subst (λ (a : ChangePart (Name Part)). IsChangeOf z k a x) (is ∙ ap (λ i. get_or changes i c) (sym same) ∙ get_or_default changes n c d lt) h
