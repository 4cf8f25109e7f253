use Rattle.std.proofs.Common.{◌≡◌, ◌∙◌, sym, ap, IfOk, to_z-of_z, ℤ, pos}
use Rattle.std.specs.Prelude.{unsigned_abs}
use Rattle.std.specs.Ordering.{int_eq}
use Rattle.cell_core.specs.bpf_isa.declared.operation.AluCode.{AluCode}
use Rattle.cell_core.specs.bpf_isa.declared.operation.AluCode.TheVariants.{Mov, Add, Sub}
use Rattle.cell_core.specs.bpf_isa.declared.operation.Width.{Width}
use Rattle.cell_core.specs.bpf_isa.declared.operation.Width.TheVariants.{Bits32, Bits64}
use Rattle.operator_cells.specs.Making.{seen}
use Rattle.register_cells.specs.Reading.{Yields}
use Rattle.register_cells.proofs.Yielding.{combined_mov, combined_add, combined_sub, combined_else}
use Rattle.register_cells.proofs.MovingRows.{mov_to, add_to, sub_to, else_to}
use Rattle.register_cells.proofs.moving.combined.Goals as goal

not_64 : (w : Width) → w ≡ Bits32 → w ≡ Bits64 → ⊥
not_64 w e f = let g : Bits32 ≡ Bits64 = sym e ∙ f in absurd cc

is_add : (c : AluCode) → c ≡ Add → c ≡ Mov → ⊥
is_add c e f = let g : Add ≡ Mov = sym e ∙ f in absurd cc

is_sub : (c : AluCode) → c ≡ Sub → c ≡ Mov → ⊥
is_sub c e f = let g : Sub ≡ Mov = sym e ∙ f in absurd cc

pub returns-in-Mov-clause-yields : goal.returns-in-Mov-clause-yields
returns-in-Mov-clause-yields c = λ s decls ps ca cb. combined_mov
    (λ k f. IfOk k (λ x. IfOk c.copied.result (λ d. Yields decls ps c.args.a c.args.p c.args.b c.args.q (seen c.args.cells.now.items) (seen c.copied.new.cells.items) x d f)))
    decls c.args.width c.args.code c.args.offset s _ c.args.a c.args.b c.in-Mov.is (c.from.ensures ∙ c.unsigned_abs.ensures.value ∙ ap unsigned_abs (to_z-of_z c.ranges.offset)) (c.copied.ensures.yields decls ps c.args.a c.args.p cb)

pub returns-in-Bits64-clause-yields : goal.returns-in-Bits64-clause-yields
returns-in-Bits64-clause-yields c = λ s decls ps ca cb. combined_add
    (λ k f. IfOk k (λ x. IfOk c.sum.result (λ d. Yields decls ps c.args.a c.args.p c.args.b c.args.q (seen c.args.cells.now.items) (seen c.sum.new.cells.items) x d f)))
    decls c.args.width c.args.code c.args.offset s c.args.a c.args.b c.in-Add.is c.in-Bits64.is (c.sum.ensures.yields decls ps ca cb)

pub returns-in-Bits64-width-clause-yields : goal.returns-in-Bits64-width-clause-yields
returns-in-Bits64-width-clause-yields c = λ s decls ps ca cb. combined_sub
    (λ k f. IfOk k (λ x. IfOk c.difference.result (λ d. Yields decls ps c.args.a c.args.p c.args.b c.args.q (seen c.args.cells.now.items) (seen c.difference.new.cells.items) x d f)))
    decls c.args.width c.args.code c.args.offset s c.args.a c.args.b c.in-Sub.is c.in-Bits64-width.is (c.difference.ensures.yields decls ps ca cb)

pub returns-in-Bits32-clause-yields : goal.returns-in-Bits32-clause-yields
returns-in-Bits32-clause-yields c = λ s decls ps ca cb. combined_else
    (λ k f. IfOk k (λ x. IfOk c.computed.result (λ d. Yields decls ps c.args.a c.args.p c.args.b c.args.q (seen c.args.cells.now.items) (seen c.computed.new.cells.items) x d f)))
    decls c.args.width c.args.code c.args.offset s _ c.args.a c.args.b (c.is_signed-signed.ensures ∙ ap (λ (z : ℤ). int_eq z (pos 1)) (to_z-of_z c.ranges.offset)) (is_add _ c.in-Add.is) (λ e. absurd (not_64 _ c.in-Bits32.is e)) (λ e. absurd (not_64 _ c.in-Bits32.is e)) (c.computed.ensures.yields s decls ps)

pub returns-in-Bits32-width-clause-yields : goal.returns-in-Bits32-width-clause-yields
returns-in-Bits32-width-clause-yields c = λ s decls ps ca cb. combined_else
    (λ k f. IfOk k (λ x. IfOk c.computed-in-Bits32-width.result (λ d. Yields decls ps c.args.a c.args.p c.args.b c.args.q (seen c.args.cells.now.items) (seen c.computed-in-Bits32-width.new.cells.items) x d f)))
    decls c.args.width c.args.code c.args.offset s _ c.args.a c.args.b (c.is_signed-signed.ensures ∙ ap (λ (z : ℤ). int_eq z (pos 1)) (to_z-of_z c.ranges.offset)) (is_sub _ c.in-Sub.is) (λ e. absurd (not_64 _ c.in-Bits32-width.is e)) (λ e. absurd (not_64 _ c.in-Bits32-width.is e)) (c.computed-in-Bits32-width.ensures.yields s decls ps)

pub returns-in_default-clause-yields : goal.returns-in_default-clause-yields
returns-in_default-clause-yields c = λ s decls ps ca cb. combined_else
    (λ k f. IfOk k (λ x. IfOk c.computed-in_default.result (λ d. Yields decls ps c.args.a c.args.p c.args.b c.args.q (seen c.args.cells.now.items) (seen c.computed-in_default.new.cells.items) x d f)))
    decls c.args.width c.args.code c.args.offset s _ c.args.a c.args.b (c.is_signed-signed.ensures ∙ ap (λ (z : ℤ). int_eq z (pos 1)) (to_z-of_z c.ranges.offset)) c.in_default.not-Mov (λ e. c.in_default.not-Add) (λ e. c.in_default.not-Sub) (c.computed-in_default.ensures.yields s decls ps)

pub returns-in-Mov-clause-rows : goal.returns-in-Mov-clause-rows
returns-in-Mov-clause-rows c = λ s decls ps. mov_to _ _ c.copied.result decls ps c.args.width c.args.code c.args.offset s c.args.a c.args.p c.args.b c.args.q _ c.in-Mov.is (c.from.ensures ∙ c.unsigned_abs.ensures.value ∙ ap unsigned_abs (to_z-of_z c.ranges.offset)) (c.copied.ensures.rows ps)

pub returns-in-Bits64-clause-rows : goal.returns-in-Bits64-clause-rows
returns-in-Bits64-clause-rows c = λ s decls ps. add_to _ _ c.sum.result decls ps c.args.width c.args.code c.args.offset s c.args.a c.args.p c.args.b c.args.q c.in-Add.is c.in-Bits64.is (c.sum.ensures.rows decls ps)

pub returns-in-Bits64-width-clause-rows : goal.returns-in-Bits64-width-clause-rows
returns-in-Bits64-width-clause-rows c = λ s decls ps. sub_to _ _ c.difference.result decls ps c.args.width c.args.code c.args.offset s c.args.a c.args.p c.args.b c.args.q c.in-Sub.is c.in-Bits64-width.is (c.difference.ensures.rows decls ps)

pub returns-in-Bits32-clause-rows : goal.returns-in-Bits32-clause-rows
returns-in-Bits32-clause-rows c = λ s decls ps. else_to _ _ c.computed.result decls ps c.args.width c.args.code c.args.offset s c.args.a c.args.p c.args.b c.args.q _ (c.is_signed-signed.ensures ∙ ap (λ (z : ℤ). int_eq z (pos 1)) (to_z-of_z c.ranges.offset)) (is_add _ c.in-Add.is) (λ e. absurd (not_64 _ c.in-Bits32.is e)) (λ e. absurd (not_64 _ c.in-Bits32.is e)) (c.computed.ensures.rows s ps)

pub returns-in-Bits32-width-clause-rows : goal.returns-in-Bits32-width-clause-rows
returns-in-Bits32-width-clause-rows c = λ s decls ps. else_to _ _ c.computed-in-Bits32-width.result decls ps c.args.width c.args.code c.args.offset s c.args.a c.args.p c.args.b c.args.q _ (c.is_signed-signed.ensures ∙ ap (λ (z : ℤ). int_eq z (pos 1)) (to_z-of_z c.ranges.offset)) (is_sub _ c.in-Sub.is) (λ e. absurd (not_64 _ c.in-Bits32-width.is e)) (λ e. absurd (not_64 _ c.in-Bits32-width.is e)) (c.computed-in-Bits32-width.ensures.rows s ps)

pub returns-in_default-clause-rows : goal.returns-in_default-clause-rows
returns-in_default-clause-rows c = λ s decls ps. else_to _ _ c.computed-in_default.result decls ps c.args.width c.args.code c.args.offset s c.args.a c.args.p c.args.b c.args.q _ (c.is_signed-signed.ensures ∙ ap (λ (z : ℤ). int_eq z (pos 1)) (to_z-of_z c.ranges.offset)) c.in_default.not-Mov (λ e. c.in_default.not-Add) (λ e. c.in_default.not-Sub) (c.computed-in_default.ensures.rows s ps)
