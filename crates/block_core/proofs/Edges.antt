-- A block's statement does among others what it does alone.
use Rattle.std.specs.Prelude.{◌≡◌, ℕ, ◌+◌, ◌-◌, ◌<◌, ◌==◌, cond, List, [], ◌∷◌, ◌++◌, length, slice_set}
use Rattle.std.proofs.Common.{refl, sym, ap, ◌∙◌, arith, get_or, append_assoc, length-append, subst, inl, inr}
use Rattle.std.proofs.lemmas.List.{get_or_append_left, get_or-append-add, set-append_left, set-append_right, length-set}
use Rattle.net_core.specs.declared.tree.Word.{Word}
use Rattle.net_core.specs.declared.tree.Net.{Net}
use Rattle.net_core.specs.Nets.{StatementTree, SBlock, SIf, SIfElse, SSet, SStore, StatementTrees, SEnd, SThen}
use Rattle.net_core.specs.Value.{Env, value}
use Rattle.net_core.specs.Clock.{Stored, done, all_done, edge}
use Rattle.list_laws.proofs.BoolLaws.{by_test}
use Rattle.block_core.specs.Rename.{rename, rename_statement, rename_statements, seen}
use Rattle.block_core.specs.Blocks.{registers_of, memories_of, Whole, Among, start}
use Rattle.block_core.specs.Link.{resolve, link_statement, all_statements}
use Rattle.block_core.specs.Parts.{stored_in, IsSized, Within, AllWithin}
use Rattle.block_core.proofs.GatheredLaws.{Runs}
use Rattle.block_core.proofs.Renamed.{value-rename}

-- two that are stored, one after the other
abbrev pub beside : Stored → Stored → Stored
beside a b = record { registers = a.registers ++ b.registers; memories = a.memories ++ b.memories }

abbrev pub among : Stored → Stored → Stored → Stored
among before after own = beside before (beside own after)

set_among : {A : Type 0} (front own back : List A) (i : ℕ) (x : A) → i < length own → slice_set (front ++ (own ++ back)) (length front + i) x ≡ front ++ (slice_set own i x ++ back)
set_among front own back i x h =
    let e : length front + i - length front ≡ i = omega arith in
    set-append_right front (own ++ back) (length front) (length front + i) x refl (omega arith) ∙ rw e (ap (λ l. front ++ l) (set-append_left own back i x h))

get_among : {A : Type 0} (front own back : List A) (i : ℕ) (d : A) → i < length own → get_or (front ++ (own ++ back)) (length front + i) d ≡ get_or own i d
get_among front own back i d h = get_or-append-add front (own ++ back) i d ∙ get_or_append_left own back d i h

pub record SameSizes (a b : Stored) : Type 0 where
  pub registers : length a.registers ≡ length b.registers
  pub memories : length a.memories ≡ length b.memories

mutual
  pub sizes : {N : Type 0} (v : Env N) (a : StatementTree N) (s : Stored) → SameSizes (done v a s) s
  sizes v (SBlock more) s = all_sizes v more s
  sizes v (SIf c a) s = let x = sizes v a s in by_test (λ t. SameSizes (cond t s (done v a s)) s) ((value v c).value == 0) (λ q. record { registers = refl; memories = refl }) (λ q. x)
  sizes v (SIfElse c a b) s = let x = sizes v a s in let y = sizes v b s in by_test (λ t. SameSizes (cond t (done v b s) (done v a s)) s) ((value v c).value == 0) (λ q. y) (λ q. x)
  sizes v (SSet k e) s = record { registers = length-set s.registers k (value v e); memories = refl }
  sizes v (SStore k i e) s = record { registers = refl; memories = length-set s.memories k _ }

  pub all_sizes : {N : Type 0} (v : Env N) (a : StatementTrees N) (s : Stored) → SameSizes (all_done v a s) s
  all_sizes v SEnd s = record { registers = refl; memories = refl }
  all_sizes v (SThen a more) s = let x = sizes v a s in let y = all_sizes v more (done v a s) in record { registers = y.registers ∙ x.registers; memories = y.memories ∙ x.memories }

within_same : {N : Type 0} (a : StatementTrees N) (s t : Stored) → SameSizes t s → AllWithin (length s.registers) (length s.memories) a → AllWithin (length t.registers) (length t.memories) a
within_same a s t z h = subst (λ n. AllWithin n (length t.memories) a) (sym z.registers) (subst (λ n. AllWithin (length s.registers) n a) (sym z.memories) h)

mutual
  pub done_among : {M N : Type 0} (f : M → N) (v : Env N) (a : StatementTree M) (before after own : Stored) → Within (length own.registers) (length own.memories) a
      → done v (rename_statement f (length before.registers) (length before.memories) a) (among before after own) ≡ among before after (done (seen f v) a own)
  done_among f v (SBlock more) before after own h = all_among f v more before after own h
  done_among f v (SIf c a) before after own h =
      let r = done_among f v a before after own h in
      let new = done v (rename_statement f (length before.registers) (length before.memories) a) (among before after own) in
      ap (λ (w : Word). cond (w.value == 0) (among before after own) new) (value-rename f v c)
      ∙ by_test (λ t. cond t (among before after own) new ≡ among before after (cond t own (done (seen f v) a own))) ((value (seen f v) c).value == 0) (λ q. refl) (λ q. r)
  done_among f v (SIfElse c a b) before after own h =
      let r = done_among f v a before after own h.0 in
      let t = done_among f v b before after own h.1 in
      let new = done v (rename_statement f (length before.registers) (length before.memories) a) (among before after own) in
      let other = done v (rename_statement f (length before.registers) (length before.memories) b) (among before after own) in
      ap (λ (w : Word). cond (w.value == 0) other new) (value-rename f v c)
      ∙ by_test (λ z. cond z other new ≡ among before after (cond z (done (seen f v) b own) (done (seen f v) a own))) ((value (seen f v) c).value == 0) (λ q. t) (λ q. r)
  done_among f v (SSet k e) before after own h =
      let x = value (seen f v) e in
      ap (λ w. record { registers = slice_set (before.registers ++ (own.registers ++ after.registers)) (length before.registers + k) w; memories = before.memories ++ (own.memories ++ after.memories) }) (value-rename f v e)
      ∙ ap (λ rs. record { registers = rs; memories = before.memories ++ (own.memories ++ after.memories) }) (set_among before.registers own.registers after.registers k x h)
  done_among f v (SStore k i e) before after own h =
      let all = before.memories ++ (own.memories ++ after.memories) in
      let at = length before.memories + k in
      let own_words = get_or own.memories k [] in
      let put : List Word → Word → Word → List (List Word) = λ (ws : List Word) (j x : Word). slice_set all at (slice_set ws j.value x) in
      ap (λ ms. record { registers = before.registers ++ (own.registers ++ after.registers); memories = ms })
      (ap (λ ws. put ws (value v (rename f i)) (value v (rename f e))) (get_among before.memories own.memories after.memories k [] h)
      ∙ ap (λ j. put own_words j (value v (rename f e))) (value-rename f v i)
      ∙ ap (λ x. put own_words (value (seen f v) i) x) (value-rename f v e)
      ∙ set_among before.memories own.memories after.memories k (slice_set own_words (value (seen f v) i).value (value (seen f v) e)) h)

  all_among : {M N : Type 0} (f : M → N) (v : Env N) (a : StatementTrees M) (before after own : Stored) → AllWithin (length own.registers) (length own.memories) a
      → all_done v (rename_statements f (length before.registers) (length before.memories) a) (among before after own) ≡ among before after (all_done (seen f v) a own)
  all_among f v SEnd before after own h = refl
  all_among f v (SThen a more) before after own h =
      ap (all_done v (rename_statements f (length before.registers) (length before.memories) more)) (done_among f v a before after own h.0)
      ∙ all_among f v more before after (done (seen f v) a own) (within_same more own (done (seen f v) a own) (sizes (seen f v) a own) h.1)

-- ---- a whole edge: each part by its own statement
beside_assoc : (a b c : Stored) → beside a (beside b c) ≡ beside (beside a b) c
beside_assoc a b c =
    let x = append_assoc a.registers b.registers c.registers in
    let y = append_assoc a.memories b.memories c.memories in
    rw (x, y)

abbrev own_done : {P : Type 0} → Whole P → Env Net → (P → Stored) → P → Stored
own_done d v ss p = done (seen (resolve d) v) (d.block p).statement (ss p)

pub edge_parts : {P : Type 0} (d : Whole P) (v : Env Net) (ss : P → Stored) (front : Stored) (r m : ℕ) (ps : List P) → length front.registers ≡ r → length front.memories ≡ m
    → Runs (λ p. registers_of (d.block p)) (start registers_of d) r ps → Runs (λ p. memories_of (d.block p)) (start memories_of d) m ps
    → ((p : P) → Among p ps → IsSized (d.block p) (ss p))
    → ((p : P) → Among p ps → Within (registers_of (d.block p)) (memories_of (d.block p)) (d.block p).statement)
    → edge v (all_statements d ps) (beside front (stored_in ps ss)) ≡ beside front (stored_in ps (own_done d v ss))
edge_parts d v ss front r m [] c e l n z h = refl
edge_parts d v ss front r m (p ∷ ps) c e l n z h =
    let own = ss p in
    let new = own_done d v ss p in
    let body = (d.block p).statement in
    let s = z p (inl refl) in
    let k : SameSizes new own = sizes (seen (resolve d) v) body own in
    let in_own : Within (length own.registers) (length own.memories) body =
    subst (λ n. Within n (length own.memories) body) (sym s.registers) (subst (λ n. Within (registers_of (d.block p)) n body) (sym s.memories) (h p (inl refl))) in
    let one : done v (link_statement d p) (beside front (beside own (stored_in ps ss))) ≡ beside front (beside new (stored_in ps ss)) =
    ap (λ n. done v (rename_statement (resolve d) n (start memories_of d p) body) (beside front (beside own (stored_in ps ss)))) (l.0 ∙ sym c)
    ∙ ap (λ n. done v (rename_statement (resolve d) (length front.registers) n body) (beside front (beside own (stored_in ps ss)))) (n.0 ∙ sym e)
    ∙ done_among (resolve d) v body front (stored_in ps ss) own in_own in
    let rs : length (front.registers ++ new.registers) ≡ r + registers_of (d.block p) = length-append front.registers new.registers ∙ omega (arith, k.registers, s.registers) in
    let ms : length (front.memories ++ new.memories) ≡ m + memories_of (d.block p) = length-append front.memories new.memories ∙ omega (arith, k.memories, s.memories) in
    ap (edge v (all_statements d ps)) (one ∙ beside_assoc front new (stored_in ps ss))
    ∙ edge_parts d v ss (beside front new) (r + registers_of (d.block p)) (m + memories_of (d.block p)) ps rs ms l.1 n.1 (λ q a. z q (inr a)) (λ q a. h q (inr a))
    ∙ sym (beside_assoc front new (stored_in ps (own_done d v ss)))
