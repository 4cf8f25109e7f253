-- What wires give one after another: the words of a key, and those of a value.
use Rattle.std.proofs.Common.{◌≡◌, ◌∙◌, ℕ, zero, suc, ◌+◌, ◌<◌, ◌≤◌, Bool, All, List, [], ◌∷◌, ◌++◌, length, map as map_list, get_or, sym, ap, subst, arith}
use Rattle.std.proofs.lemmas.List.Elements.{All-append}
use Rattle.net_core.specs.Value.{Env}
use Rattle.block_core.specs.declared.name.Name.{Name}
use Rattle.block_core.specs.Blocks.{BlockWireTree}
use Rattle.overlay_net.specs.xdp_maps.declared.decl.MapDecl.{MapDecl}
use Rattle.overlay_net.specs.xdp_maps.Contents.{IsBytes}
use Rattle.overlay_net.specs.cell_core.Cells.{bit}
use Rattle.overlay_net.specs.cell_core.Sites.{ProgramView, SiteView, site_at}
use Rattle.overlay_net.specs.hazard_core.Tables.{TableState, decl_of}
use Rattle.overlay_net.specs.hazard_core.StageValues.{StageValues, asked, asked_key}
use Rattle.overlay_net.specs.hazard_core.Overlay.{value_as}
use Rattle.overlay_net.specs.hazard_core.Commits.{word_count, word_at}
use Rattle.hash_net.specs.array_net.declared.words.WordNets.{WordNets}
use Rattle.hash_net.specs.array_net.Words.{word_width}
use Rattle.overlay_net.specs.cell_nets.declared.operand.Operand.{Operand}
use Rattle.overlay_net.specs.cell_nets.declared.operand.Operand.TheVariants.{Net}
use Rattle.overlay_net.specs.cell_nets.Operands.{IsAvailable}
use Rattle.overlay_net.specs.cell_nets.Wires.{behind, Gives}
use Rattle.overlay_net.proofs.cell_nets_laws.ApartLaws.{stay_as, stay_next}
use Rattle.commit_net.specs.declared.choosing.CommitNets.{CommitNets}
use Rattle.commit_net.specs.Choosing.{changes_word, all_read, IsChosen, Commits}
use Rattle.overlay_net.specs.cell_nets.StepNets.Standing.{Stands}
use Rattle.commit_net.specs.Wiring.{word_operand, outside_of, ShowsValue, key_operands, value_operands, ShowWords, ShowChanges}
use Rattle.overlay_net.proofs.cell_nets_laws.StepNets.ChainLaws.{starts, next}
use Rattle.commit_net.proofs.WordLemmas.{stands_as, last_first, after, before}

-- ---- some after others
module _ {P : Type 0} {p : P} {old mid new : List (BlockWireTree (Name P))} {args outs bs lasts : List (Operand (Name P))} {needs knows more shows : Env (Name P) → Type 0} (x : Stands p old mid args needs outs knows) (y : Stands p mid new bs more lasts shows)
    (sub : (ins : List (Operand (Name P))) → All (IsAvailable ins) outs → All (IsAvailable ins) bs) (enough : (v : Env (Name P)) → knows v → more v) where
  pub joined : Stands p old new args needs (lasts ++ outs) (λ v. knows v × shows v)
  joined = record {
    before = λ v s. x.before v (y.before v s);
    stays = λ outside a t. y.stays outside a (x.stays outside a t);
    wires = λ outside a h. y.wires outside (x.wires outside a h) (sub (behind p outside mid) (x.there outside a h));
    there = λ outside a h.
        All-append (IsAvailable (behind p outside new)) lasts outs (y.there outside (x.wires outside a h) (sub (behind p outside mid) (x.there outside a h))) (λ m d lt. y.stays outside (get_or outs m d) (x.there outside a h m d lt));
    known = λ outside v a h f s n.
        let k = x.known outside v a h f (y.before v s) n in
        (k, y.known outside v (x.wires outside a h) (sub (behind p outside mid) (x.there outside a h)) f s (enough v k));
    apart = stay_next p old mid new args outs outs (lasts ++ outs) (λ ins h k. k) x.apart (stay_as p mid new bs lasts outs outs sub (λ ins h. h) y.apart);
  }

-- ---- from no wires on
pub gives_from : {P : Type 0} {p : P} {old new : List (BlockWireTree (Name P))} {args : List (Operand (Name P))} {needs : Env (Name P) → Type 0} {f : Env (Name P) → ℕ} {w : ℕ} {o : Operand (Name P)} → old ≡ [] → Gives p old new args needs f w o → Gives p [] new args needs f w o
gives_from {p = p} {new = new} {args = args} {needs = needs} {f = f} {w = w} {o = o} e x = subst (λ l. Gives p l new args needs f w o) e x

pub stands_from : {P : Type 0} {p : P} {old new : List (BlockWireTree (Name P))} {args outs : List (Operand (Name P))} {needs knows : Env (Name P) → Type 0} → old ≡ [] → Stands p old new args needs outs knows → Stands p [] new args needs outs knows
stands_from {p = p} {new = new} {args = args} {outs = outs} {needs = needs} {knows = knows} e x = subst (λ l. Stands p l new args needs outs knows) e x

-- ---- one word more
keys_more : {N : Type 0} (bytes j : ℕ) (keys : List N) (n : N) (at : ℕ) → at ≡ j + length keys → key_operands bytes j (keys ++ n ∷ []) ≡ key_operands bytes j keys ++ Net n (word_width bytes at) ∷ []
keys_more bytes j [] n at e = let f : j ≡ at = omega (arith, e) in ap (λ k. Net n (word_width bytes k) ∷ []) f
keys_more bytes j (x ∷ keys) n at e = ap (λ l. Net x (word_width bytes j) ∷ l) (keys_more bytes (suc j) keys n at (omega (arith, e)))

shown_more : {N : Type 0} (v : Env N) (j : ℕ) (keys : List N) (bytes : List ℕ) (n : N) (at : ℕ) → at ≡ j + length keys → ShowWords v j keys bytes → (v.net n).value ≡ word_at bytes at → ShowWords v j (keys ++ n ∷ []) bytes
shown_more v j [] bytes n at e h is = let f : at ≡ j = omega (arith, e) in (is ∙ ap (word_at bytes) f, tt)
shown_more v j (x ∷ keys) bytes n at e h is = (h.0, shown_more v (suc j) keys bytes n at (omega (arith, e)) h.1 is)

values_more :
    {N : Type 0} (bytes j : ℕ) (values : List (WordNets N)) (n : WordNets N) (at : ℕ) → at ≡ j + length values → value_operands bytes j (values ++ n ∷ []) ≡ value_operands bytes j values ++ Net n.sets 1 ∷ Net n.word (word_width bytes at) ∷ []
values_more bytes j [] n at e = let f : j ≡ at = omega (arith, e) in ap (λ k. Net n.sets 1 ∷ Net n.word (word_width bytes k) ∷ []) f
values_more bytes j (x ∷ values) n at e = ap (λ l. Net x.sets 1 ∷ Net x.word (word_width bytes j) ∷ l) (values_more bytes (suc j) values n at (omega (arith, e)))

changes_more :
    {N : Type 0} (v : Env N) (changes : ℕ → Bool) (j : ℕ) (values : List (WordNets N)) (bytes : List ℕ) (n : WordNets N) (at : ℕ) → at ≡ j + length values → ShowChanges v changes j values bytes → (v.net n.sets).value ≡ bit (changes at) → (v.net n.word).value ≡ word_at bytes at
    → ShowChanges v changes j (values ++ n ∷ []) bytes
changes_more v changes j [] bytes n at e h set is = let f : at ≡ j = omega (arith, e) in ((set ∙ ap (λ k. bit (changes k)) f, is ∙ ap (word_at bytes) f), tt)
changes_more v changes j (x ∷ values) bytes n at e h set is = (h.0, changes_more v changes (suc j) values bytes n at (omega (arith, e)) h.1 set is)

-- ---- lists of operands
module _ {N : Type 0} (Q : Operand N → Type 0) where
  pub tail : (x : Operand N) (xs : List (Operand N)) → All Q (x ∷ xs) → All Q xs
  tail x xs h n d lt = h (suc n) d (omega (arith, lt))

  pub pair : (a b : Operand N) → Q a → Q b → All Q (a ∷ b ∷ [])
  pair a b h k zero d lt = h
  pair a b h k (suc zero) d lt = k
  pair a b h k (suc (suc n)) d lt = absurd (omega (arith, lt))

  last_two : (xs ys : List (Operand N)) (a b : Operand N) → All Q (b ∷ a ∷ xs ++ ys) → All Q ((xs ++ a ∷ b ∷ []) ++ ys)
  last_two xs ys a b h =
      let r = tail a (xs ++ ys) (tail b (a ∷ xs ++ ys) h) in
      All-append Q (xs ++ a ∷ b ∷ []) ys (All-append Q xs (a ∷ b ∷ []) (before Q xs ys r) (pair a b (h 1 a (omega arith)) (h 0 b (omega arith)))) (after Q xs ys r)

  first_word : (words : List N) (ns : List (CommitNets N)) (i : ℕ) (n : N) → i < length words → n ≡ get_or words i n → All Q (outside_of ns words) → Q (word_operand n)
  first_word [] ns i n l is h = absurd (omega (arith, l))
  first_word (x ∷ words) ns zero n l is h = subst (λ y. Q (word_operand y)) (sym is) (h 0 (word_operand x) (omega arith))
  first_word (x ∷ words) ns (suc i) n l is h = first_word words ns i n (omega (arith, l)) is (tail (word_operand x) (outside_of ns words) h)

  word_first : (words : List N) (ns : List (CommitNets N)) (i : ℕ) (n : N) → i < length words → n ≡ get_or words i n → All Q (outside_of ns words) → All Q (word_operand n ∷ all_read ns)
  word_first words ns i n l is h zero d lt = first_word words ns i n l is h
  word_first words ns i n l is h (suc k) d lt = after Q (map_list word_operand words) (all_read ns) h k d (omega (arith, lt))

-- ---- the words of a key, so far
module _ {P : Type 0} (part : P) (d : MapDecl) (ns : List (CommitNets (Name P))) (p : ProgramView) (t : TableState) (taken : List ℕ) (h : StageValues) (j : ℕ) where
  abbrev s : SiteView
  s = site_at p.sites j

  abbrev pub KeyNeeds : Env (Name P) → Type 0
  KeyNeeds v = Commits v p t taken h j ns × (decl_of t.decls s.map ≡ d) × (word_count d.key ≤ length s.key)

  abbrev pub Keys : List (BlockWireTree (Name P)) → List (BlockWireTree (Name P)) → List (Name P) → Type 0
  Keys old new keys = Stands part old new (all_read ns) KeyNeeds (key_operands d.key 0 keys ++ all_read ns) (λ v. KeyNeeds v × ShowWords v 0 keys (asked_key t.decls h s))

  pub keys_none : (ws : List (BlockWireTree (Name P))) → Keys ws ws []
  keys_none ws = stands_as (all_read ns) (λ v. KeyNeeds v × ShowWords v 0 [] (asked_key t.decls h s)) (starts part ws (all_read ns) KeyNeeds) (λ ins a. a) (λ v n. (n, tt))

  pub keys_next :
      {old mid new : List (BlockWireTree (Name P))} (keys : List (Name P)) (n : Name P) (w : ℕ) → length keys ≡ w → Keys old mid keys → Gives part mid new (all_read ns) KeyNeeds (λ v. word_at (asked_key t.decls h s) w) (word_width d.key w) (Net n (word_width d.key w))
      → Keys old new (keys ++ n ∷ [])
  keys_next keys n w count x y =
      let outs = key_operands d.key 0 keys in
      let o = Net n (word_width d.key w) in
      let at : w ≡ 0 + length keys = omega (arith, count) in
      stands_as (key_operands d.key 0 (keys ++ n ∷ []) ++ all_read ns) (λ v. KeyNeeds v × ShowWords v 0 (keys ++ n ∷ []) (asked_key t.decls h s)) (next x y (λ ins a. after (IsAvailable ins) outs (all_read ns) a) (λ v f k. k.0))
      (λ ins a. subst (λ l. All (IsAvailable ins) (l ++ all_read ns)) (sym (keys_more d.key 0 keys n w at)) (last_first (IsAvailable ins) outs (all_read ns) o a)) (λ v k. (k.0.0, shown_more v 0 keys (asked_key t.decls h s) n w at k.0.1 k.1))

-- ---- those of a value, so far
module _ {P : Type 0} (part : P) (d : MapDecl) (ns : List (CommitNets (Name P))) (words : List (Name P)) (p : ProgramView) (t : TableState) (taken : List ℕ) (h : StageValues) (j : ℕ) (value : List ℕ) where
  abbrev site : SiteView
  site = site_at p.sites j

  abbrev pub new_value : List ℕ
  new_value = value_as (asked t.decls h site) value

  abbrev pub ValueNeeds : Env (Name P) → Type 0
  ValueNeeds v = Commits v p t taken h j ns × (decl_of t.decls site.map ≡ d) × IsBytes d.value value × ShowsValue v words value

  abbrev pub Values : List (BlockWireTree (Name P)) → List (BlockWireTree (Name P)) → List (WordNets (Name P)) → Type 0
  Values old new values = Stands part old new (outside_of ns words) ValueNeeds (value_operands d.value 0 values ++ outside_of ns words) (λ v. ValueNeeds v × ShowChanges v (changes_word site.act) 0 values new_value)

  pub values_none : (ws : List (BlockWireTree (Name P))) → Values ws ws []
  values_none ws = stands_as (outside_of ns words) (λ v. ValueNeeds v × ShowChanges v (changes_word site.act) 0 [] new_value) (starts part ws (outside_of ns words) ValueNeeds) (λ ins a. a) (λ v n. (n, tt))

  module _ {old mid more new : List (BlockWireTree (Name P))} (values : List (WordNets (Name P))) (n : WordNets (Name P)) (word : Name P) (w : ℕ) (count : length values ≡ w) (l : w < length words) (is : word ≡ get_or words w word) (x : Values old mid values)
      (sets : Gives part mid more (all_read ns) (λ v. IsChosen v p j ns) (λ v. bit (changes_word site.act w)) 1 (Net n.sets 1))
      (becomes :
      Gives part more new (word_operand word ∷ all_read ns) (λ v. Commits v p t taken h j ns × (decl_of t.decls site.map ≡ d) × IsBytes d.value value × ((v.net word).value ≡ word_at value w)) (λ v. word_at new_value w) (word_width d.value w) (Net n.word (word_width d.value w))) where
    abbrev outs : List (Operand (Name P))
    outs = value_operands d.value 0 values

    abbrev outside : List (Operand (Name P))
    outside = outside_of ns words

    -- of the net that sets it, and after this of the word
    abbrev a : Operand (Name P)
    a = Net n.sets 1

    abbrev b : Operand (Name P)
    b = Net n.word (word_width d.value w)

    first : Stands part old more outside ValueNeeds (a ∷ outs ++ outside) (λ v. (ValueNeeds v × ShowChanges v (changes_word site.act) 0 values new_value) × ((v.net n.sets).value ≡ bit (changes_word site.act w)))
    first = next x sets (λ ins q. after (IsAvailable ins) (map_list word_operand words) (all_read ns) (after (IsAvailable ins) outs outside q)) (λ v f k. k.0.0.chosen)

    both : Stands part old new outside ValueNeeds (b ∷ a ∷ outs ++ outside) (λ v. ((ValueNeeds v × ShowChanges v (changes_word site.act) 0 values new_value) × ((v.net n.sets).value ≡ bit (changes_word site.act w))) × ((v.net n.word).value ≡ word_at new_value w))
    both = next first becomes (λ ins q. word_first (IsAvailable ins) words ns w word l is (after (IsAvailable ins) outs outside (tail (IsAvailable ins) a (outs ++ outside) q))) (λ v f k. (k.0.0.0, k.0.0.1, k.0.0.2, ap (λ y. (v.net y).value) is ∙ k.0.0.3 w word l))

    pub values_next : Values old new (values ++ n ∷ [])
    values_next =
        let at : w ≡ 0 + length values = omega (arith, count) in
        stands_as (value_operands d.value 0 (values ++ n ∷ []) ++ outside) (λ v. ValueNeeds v × ShowChanges v (changes_word site.act) 0 (values ++ n ∷ []) new_value) both
        (λ ins q. subst (λ l. All (IsAvailable ins) (l ++ outside)) (sym (values_more d.value 0 values n w at)) (last_two (IsAvailable ins) outs outside a b q)) (λ v k. (k.0.0.0, changes_more v (changes_word site.act) 0 values new_value n w at k.0.0.1 k.0.1 k.1))
