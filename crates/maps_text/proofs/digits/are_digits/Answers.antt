use Rattle.maps_text.proofs.Entries.{digits_by}
use Rattle.maps_text.proofs.digits.are_digits.Goals as goal

pub returns-then-text-eq0 : goal.returns-then-text-eq0
returns-then-text-eq0 c = digits_by c.args.text.now c.all_digits.result c.if-text-eq0.true c.all_digits.ensures
