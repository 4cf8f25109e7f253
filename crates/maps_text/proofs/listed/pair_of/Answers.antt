use Rattle.std.proofs.Common.{sym, ap, ◌∙◌, true, false}
use Rattle.maps_text.specs.Reading.{has_key_as}
use Rattle.maps_text.proofs.Pairs.{sized_is, sized_len, sized_other, fits_not_key, fits_not_value, fits_is}
use Rattle.maps_text.proofs.listed.pair_of.Goals as goal

pub returns-in_err-key-clause-entry : goal.returns-in_err-key-clause-entry
returns-in_err-key-clause-entry c = λ e written.
    rw c.from_residual.ensures (fits_not_key c.args.decl.now e (sized_other c.args.fields.now.key.now c.args.decl.now.key e.key (rw c.in_err-key.was at c.bytes_of.ensures) written.key))

pub returns-in_err-value-clause-entry : goal.returns-in_err-value-clause-entry
returns-in_err-value-clause-entry c = λ e written.
    let key = sized_is c.args.fields.now.key.now c.args.decl.now.key c.in_ok-key.key e.key (rw c.in_ok-key.was at c.bytes_of.ensures) written.key in
    rw c.from_residual-in_err-value.ensures (fits_not_value c.args.decl.now e key.1 (sized_other c.args.fields.now.value.now c.args.decl.now.value e.value (rw c.in_err-value.was at c.bytes_of-2.ensures) written.value))

pub has_key-requires-clause-key : goal.has_key-requires-clause-key
has_key-requires-clause-key c = rw c.as_slice.ensures.bytes (sized_len c.args.fields.now.key.now c.args.decl.now.key c.in_ok-key.key (rw c.in_ok-key.was at c.bytes_of.ensures))

pub returns-then-has_key-clause-entry : goal.returns-then-has_key-clause-entry
returns-then-has_key-clause-entry c = λ e written.
    let key = sized_is c.args.fields.now.key.now c.args.decl.now.key c.in_ok-key.key e.key (rw c.in_ok-key.was at c.bytes_of.ensures) written.key in
    let value = sized_is c.args.fields.now.value.now c.args.decl.now.value c.in_ok-value.value e.value (rw c.in_ok-value.was at c.bytes_of-2.ensures) written.value in
    (fits_is c.args.decl.now e true key.1 value.1 (ap (has_key_as c.args.decl.now.kind c.args.decl.now.cap) (sym key.0 ∙ sym c.as_slice.ensures.bytes) ∙ sym c.has_key.ensures ∙ c.if-has_key.true), key.0, value.0)

pub returns-then-has_key-clause-key : goal.returns-then-has_key-clause-key
returns-then-has_key-clause-key c = sized_len c.args.fields.now.key.now c.args.decl.now.key c.in_ok-key.key (rw c.in_ok-key.was at c.bytes_of.ensures)

pub returns-then-has_key-clause-value : goal.returns-then-has_key-clause-value
returns-then-has_key-clause-value c = sized_len c.args.fields.now.value.now c.args.decl.now.value c.in_ok-value.value (rw c.in_ok-value.was at c.bytes_of-2.ensures)

pub returns-else-has_key-clause-entry : goal.returns-else-has_key-clause-entry
returns-else-has_key-clause-entry c = λ e written.
    let key = sized_is c.args.fields.now.key.now c.args.decl.now.key c.in_ok-key.key e.key (rw c.in_ok-key.was at c.bytes_of.ensures) written.key in
    let value = sized_is c.args.fields.now.value.now c.args.decl.now.value c.in_ok-value.value e.value (rw c.in_ok-value.was at c.bytes_of-2.ensures) written.value in
    fits_is c.args.decl.now e false key.1 value.1 (ap (has_key_as c.args.decl.now.kind c.args.decl.now.cap) (sym key.0 ∙ sym c.as_slice.ensures.bytes) ∙ sym c.has_key.ensures ∙ c.if-has_key.false)
