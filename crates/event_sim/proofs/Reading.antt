-- What can be evaluated has parts that can be.
use Rattle.std.specs.Prelude.{◌==◌}
use Rattle.std.proofs.Common.{◌≡◌, ℕ, ◌<◌, true, ◌&&◌, List, get_or, sym, subst, arith}
use Rattle.std.proofs.lemmas.Bool.{and_parts, eqb-true}
use Rattle.net_core.specs.declared.tree.Net.{Net}
use Rattle.net_core.specs.declared.tree.Op.{Op}
use Rattle.net_core.specs.declared.tree.UnaryOp.{UnaryOp}
use Rattle.net_core.specs.Nets.{Tree, TBit, TPartSelect, TMemoryWord, TUnary, TBinary, TConditional, TConcatenation, Trees, TLast, TMore, RPlain, StatementTree, SBlock, SIf, SIfElse, SSet, SStore, StatementTrees, SThen}
use Rattle.net_core.specs.Value.{Env, value, concatenated_parts}
use Rattle.net_core.specs.Width.{Fits, Scope, op_width, part_select_width, width_of, parts_width, same, statement_typed, statements_typed}
use Rattle.net_core.specs.Suits.{Suits}
use Rattle.net_core.proofs.WidthLaws.{op_parts, unary_parts, part_select_parts, memory_word_parts, conditional_some, concatenation_parts, value_fits, parts_fit}
use Rattle.design_rules.proofs.FormedWidthLaws.{same_some}
use Rattle.event_sim.specs.Readable.{AreOperands, IsSelected, AreJoined, IsReadable, AreReadable, IsRight, IsStatement, AreStatements}

module _ (v : Env Net) where
  readable : (s : Scope Net) (e : Tree Net) → Suits s v → 0 < width_of s e → IsReadable v e
  readable s e suits typed = record { scope = s; suits = suits; typed = typed }

  -- ---- expressions
  pub fits : (e : Tree Net) → IsReadable v e → Fits (value v e)
  fits e r = (value_fits r.scope v r.suits e r.typed).fits

  pub of_unary : (p : UnaryOp) (a : Tree Net) → IsReadable v (TUnary p a) → IsReadable v a
  of_unary p a r = readable r.scope a r.suits (unary_parts p (width_of r.scope a) r.typed)

  pub left_of : (op : Op) (a b : Tree Net) → IsReadable v (TBinary op a b) → IsReadable v a
  left_of op a b r = readable r.scope a r.suits (op_parts op (width_of r.scope a) (width_of r.scope b) r.typed).left

  pub right_of : (op : Op) (a b : Tree Net) → IsReadable v (TBinary op a b) → IsReadable v b
  right_of op a b r = readable r.scope b r.suits (op_parts op (width_of r.scope a) (width_of r.scope b) r.typed).right

  pub operands : (op : Op) (a b : Tree Net) → IsReadable v (TBinary op a b) → AreOperands op (value v a) (value v b)
  operands op a b r =
      let p = op_parts op (width_of r.scope a) (width_of r.scope b) r.typed in
      let x = value_fits r.scope v r.suits a p.left in
      let y = value_fits r.scope v r.suits b p.right in
      record {
        left = x.fits;
        right = y.fits;
        typed = subst (λ m. 0 < op_width op m (value v b).width) (sym x.width) (subst (λ n. 0 < op_width op (width_of r.scope a) n) (sym y.width) r.typed);
      }

  selected : (s : Scope Net) → Suits s v → (n : Net) (high low : ℕ) → 0 < part_select_width (s.net n) high low → IsSelected (v.net n) high low
  selected s suits n high low typed =
      let p = part_select_parts (s.net n) high low typed in
      let many = p.some in
      let x = suits.net n (omega arith) in
      record { fits = x.fits; typed = subst (λ m. 0 < part_select_width m high low) (sym x.width) typed }

  pub bit_of : (n : Net) (i : ℕ) → IsReadable v (TBit n i) → IsSelected (v.net n) i i
  bit_of n i r = selected r.scope r.suits n i i r.typed

  pub part_of : (n : Net) (high low : ℕ) → IsReadable v (TPartSelect n high low) → IsSelected (v.net n) high low
  part_of n high low r = selected r.scope r.suits n high low r.typed

  pub index_of : (m : Net) (i : Tree Net) → IsReadable v (TMemoryWord m i) → IsReadable v i
  index_of m i r = readable r.scope i r.suits (memory_word_parts (width_of r.scope i) (r.scope.index m) (r.scope.memory_word m) r.typed).some

  pub test_of : (c a b : Tree Net) → IsReadable v (TConditional c a b) → IsReadable v c
  test_of c a b r = readable r.scope c r.suits (conditional_some (width_of r.scope c) (width_of r.scope a) (width_of r.scope b) r.typed).0

  pub first_of_two : (c a b : Tree Net) → IsReadable v (TConditional c a b) → IsReadable v a
  first_of_two c a b r = readable r.scope a r.suits (conditional_some (width_of r.scope c) (width_of r.scope a) (width_of r.scope b) r.typed).1

  pub second_of_two : (c a b : Tree Net) → IsReadable v (TConditional c a b) → IsReadable v b
  second_of_two c a b r = readable r.scope b r.suits (conditional_some (width_of r.scope c) (width_of r.scope a) (width_of r.scope b) r.typed).2

  pub parts_of : (ps : Trees Net) → IsReadable v (TConcatenation ps) → AreReadable v ps
  parts_of ps r = record { scope = r.scope; suits = r.suits; typed = r.typed }

  pub last_of : (a : Tree Net) → AreReadable v (TLast a) → IsReadable v a
  last_of a r = readable r.scope a r.suits r.typed

  pub head_of : (a : Tree Net) (ps : Trees Net) → AreReadable v (TMore a ps) → IsReadable v a
  head_of a ps r = readable r.scope a r.suits (concatenation_parts (width_of r.scope a) (parts_width r.scope ps) r.typed).left

  pub rest_of : (a : Tree Net) (ps : Trees Net) → AreReadable v (TMore a ps) → AreReadable v ps
  rest_of a ps r = record { scope = r.scope; suits = r.suits; typed = (concatenation_parts (width_of r.scope a) (parts_width r.scope ps) r.typed).right }

  pub joined : (a : Tree Net) (ps : Trees Net) → AreReadable v (TMore a ps) → AreJoined (value v a) (concatenated_parts v ps)
  joined a ps r =
      let p = concatenation_parts (width_of r.scope a) (parts_width r.scope ps) r.typed in
      let x = value_fits r.scope v r.suits a p.left in
      let y = parts_fit r.scope v r.suits ps p.right in
      let left = x.width in
      let right = y.width in
      let most = p.most in
      record { left = x.fits; right = y.fits; most = omega arith }

  pub plain_of : (e : Tree Net) → IsRight v (RPlain e) → IsReadable v e
  plain_of e r = readable r.scope e r.suits r.typed

  -- ---- statements
  statement : (s : Scope Net) (rs : List ℕ) (ms : List (ℕ × ℕ)) (a : StatementTree Net) → Suits s v → statement_typed s rs ms a ≡ true → IsStatement v a
  statement s rs ms a suits typed = record { scope = s; registers = rs; memories = ms; suits = suits; typed = typed }

  condition : (s : Scope Net) (c : Tree Net) → Suits s v → (width_of s c == 1) ≡ true → IsReadable v c
  condition s c suits h = let one = eqb-true (width_of s c) 1 h in readable s c suits (omega arith)

  side : (s : Scope Net) (n : ℕ) (e : Tree Net) → Suits s v → same n (width_of s e) ≡ true → IsReadable v e
  side s n e suits h = readable s e suits (same_some n (width_of s e) h).1

  pub block_of : (more : StatementTrees Net) → IsStatement v (SBlock more) → AreStatements v more
  block_of more r = record { scope = r.scope; registers = r.registers; memories = r.memories; suits = r.suits; typed = r.typed }

  pub if_test : (c : Tree Net) (a : StatementTree Net) → IsStatement v (SIf c a) → IsReadable v c
  if_test c a r = condition r.scope c r.suits (and_parts (width_of r.scope c == 1) (statement_typed r.scope r.registers r.memories a) r.typed).0

  pub if_body : (c : Tree Net) (a : StatementTree Net) → IsStatement v (SIf c a) → IsStatement v a
  if_body c a r = statement r.scope r.registers r.memories a r.suits (and_parts (width_of r.scope c == 1) (statement_typed r.scope r.registers r.memories a) r.typed).1

  module _ (c : Tree Net) (a b : StatementTree Net) (r : IsStatement v (SIfElse c a b)) where
    both : (statement_typed r.scope r.registers r.memories a && statement_typed r.scope r.registers r.memories b) ≡ true
    both = (and_parts (width_of r.scope c == 1) (statement_typed r.scope r.registers r.memories a && statement_typed r.scope r.registers r.memories b) r.typed).1

    pub else_test : IsReadable v c
    else_test = condition r.scope c r.suits (and_parts (width_of r.scope c == 1) (statement_typed r.scope r.registers r.memories a && statement_typed r.scope r.registers r.memories b) r.typed).0

    pub then_body : IsStatement v a
    then_body = statement r.scope r.registers r.memories a r.suits (and_parts (statement_typed r.scope r.registers r.memories a) (statement_typed r.scope r.registers r.memories b) both).0

    pub else_body : IsStatement v b
    else_body = statement r.scope r.registers r.memories b r.suits (and_parts (statement_typed r.scope r.registers r.memories a) (statement_typed r.scope r.registers r.memories b) both).1

  pub set_value : (k : ℕ) (e : Tree Net) → IsStatement v (SSet k e) → IsReadable v e
  set_value k e r = side r.scope (get_or r.registers k 0) e r.suits r.typed

  module _ (m : ℕ) (i e : Tree Net) (r : IsStatement v (SStore m i e)) where
    stored_sides : (same (get_or r.memories m (0, 0)).0 (width_of r.scope i) ≡ true) × (same (get_or r.memories m (0, 0)).1 (width_of r.scope e) ≡ true)
    stored_sides = and_parts (same (get_or r.memories m (0, 0)).0 (width_of r.scope i)) (same (get_or r.memories m (0, 0)).1 (width_of r.scope e)) r.typed

    pub store_index : IsReadable v i
    store_index = side r.scope (get_or r.memories m (0, 0)).0 i r.suits stored_sides.0

    pub store_value : IsReadable v e
    store_value = side r.scope (get_or r.memories m (0, 0)).1 e r.suits stored_sides.1

  pub first_statement : (a : StatementTree Net) (more : StatementTrees Net) → AreStatements v (SThen a more) → IsStatement v a
  first_statement a more r = statement r.scope r.registers r.memories a r.suits (and_parts (statement_typed r.scope r.registers r.memories a) (statements_typed r.scope r.registers r.memories more) r.typed).0

  pub more_statements : (a : StatementTree Net) (more : StatementTrees Net) → AreStatements v (SThen a more) → AreStatements v more
  more_statements a more r = record {
    scope = r.scope;
    registers = r.registers;
    memories = r.memories;
    suits = r.suits;
    typed = (and_parts (statement_typed r.scope r.registers r.memories a) (statements_typed r.scope r.registers r.memories more) r.typed).1;
  }
