-- With the edge to the first node alone there is nothing to read.
use Rattle.std.proofs.Common.{length, ap, arith}
use Rattle.predicate_core.specs.Laws.{OpensRead}

pub opens_read : OpensRead
opens_read decls t e beside ways_are none grows = record {
  made = record {
    each = λ j l. absurd (omega (arith, l, ap length none));
    ordered = λ c d i j l m first second less. absurd (grows.reads d i (omega arith) m first);
  };
  waits = record { waits = λ packet v run c i j l reads. absurd (grows.reads c j (omega arith) l reads) };
  pending = λ packet v rank n d run ranks low far is_on i x l. absurd (omega (arith, l, ap length none));
}
