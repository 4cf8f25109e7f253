use Rattle.std.proofs.Common.{ap, append_assoc, arith}
use Rattle.net_core.specs.declared.tree.Net.{Net}
use Rattle.net_core.specs.declared.tree.Expr.TheViews.{sized-More}
use Rattle.net_core.specs.declared.tree.Parts.{size-Parts}
use Rattle.verilog_write.proofs.AddsLemmas.{from_ok, opened}
use Rattle.verilog_write.proofs.expression.+expression.Goals as goal

pub push_expression-returns-in_ok-push_expression-in-MemoryWord : goal.push_expression-returns-in_ok-push_expression-in-MemoryWord
push_expression-returns-in_ok-push_expression-in-MemoryWord t c =
    rw c.in-MemoryWord.is (from_ok c.push_symbol-in-MemoryWord.result c.push_symbol-in-MemoryWord.ensures.read (λ last. record {
      read = λ before h.
          simp (append_assoc, c.deref.ensures) at
          (opened (last _ (c.in_ok-push_expression-in-MemoryWord.ensures.read _ (c.in_ok-push_symbol-in-MemoryWord.ensures.read _ (c.in_ok-push_net-in-MemoryWord.ensures.read _ h)))));
    }))

pub push_expression-returns-in_ok-push_expression-in-Binary-2 : goal.push_expression-returns-in_ok-push_expression-in-Binary-2
push_expression-returns-in_ok-push_expression-in-Binary-2 t c =
    rw c.in-Binary.is (from_ok c.push_symbol-in-Binary-2.result c.push_symbol-in-Binary-2.ensures.read (λ last. record {
      read = λ before h.
          simp (append_assoc, c.op_symbol.ensures, c.deref-in-Binary.ensures, c.deref-in-Binary-2.ensures) at
          (opened (last _ (c.in_ok-push_expression-in-Binary-2.ensures.read _ (c.in_ok-push_operator-in-Binary.ensures.read _
          (c.in_ok-push_expression-in-Binary.ensures.read _ (c.in_ok-push_symbol-in-Binary.ensures.read _ (opened h)))))));
    }))

pub push_expression-returns-in_ok-push_expression-in-Conditional-3 : goal.push_expression-returns-in_ok-push_expression-in-Conditional-3
push_expression-returns-in_ok-push_expression-in-Conditional-3 t c =
    rw c.in-Conditional.is (from_ok c.push_symbol-in-Conditional-2.result c.push_symbol-in-Conditional-2.ensures.read (λ last. record {
      read = λ before h.
          simp (append_assoc, c.deref-in-Conditional.ensures, c.deref-in-Conditional-2.ensures, c.deref-in-Conditional-3.ensures) at
          (opened (last _ (c.in_ok-push_expression-in-Conditional-3.ensures.read _ (c.in_ok-push_operator-in-Conditional-2.ensures.read _
          (c.in_ok-push_expression-in-Conditional-2.ensures.read _ (c.in_ok-push_operator-in-Conditional.ensures.read _
          (c.in_ok-push_expression-in-Conditional.ensures.read _ (c.in_ok-push_symbol-in-Conditional.ensures.read _ (opened h)))))))));
    }))

pub push_expression-returns-in_ok-push_parts-in-Concatenation : goal.push_expression-returns-in_ok-push_parts-in-Concatenation
push_expression-returns-in_ok-push_parts-in-Concatenation t c =
    rw c.in-Concatenation.is (from_ok c.push_symbol-in-Concatenation-2.result c.push_symbol-in-Concatenation-2.ensures.read (λ last. record {
      read = λ before h.
          simp (append_assoc, c.deref-in-Concatenation.ensures) at
          (opened (last _ (c.in_ok-push_parts-in-Concatenation.ensures.read _ (c.in_ok-push_symbol-in-Concatenation.ensures.read _ (opened h)))));
    }))

pub push_parts-loop-left-preserved : goal.push_parts-loop-left-preserved
push_parts-loop-left-preserved t c =
    let z = sized-More Net c.in-More.a c.in-More.more in
    let whole = ap (size-Parts Net) c.in-More.is in
    let part = ap (size-Parts Net) c.deref-left.ensures in
    record {
      rest = λ new k.
          c.loop-left.invariant.rest new (rw c.in-More.is (record {
            read = λ before h.
                simp (append_assoc, c.deref-left.ensures) at
                (k.read _ (c.in_ok-push_apart-in-More.ensures _ (c.in_ok-push_symbol-in-More.ensures.read _ (c.in_ok-push_expression-in-More.ensures.read _ h))));
          }));
      writable = rw c.deref-left.ensures (rw c.in-More.is at c.loop-left.invariant.writable).1;
      depth = omega (arith, z, whole, part, c.loop-left.invariant.depth);
    }
