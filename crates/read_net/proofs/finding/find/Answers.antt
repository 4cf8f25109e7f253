use Rattle.std.proofs.Common.{◌∷◌, ◌++◌, All, sym, subst, arith}
use Rattle.std.proofs.lemmas.List.Elements.{All-append}
use Rattle.overlay_net.specs.cell_core.Sites.{site_at}
use Rattle.pipe_core.specs.hazard_core.Overlay.{key_pointer}
use Rattle.overlay_net.specs.cell_nets.Operands.{IsAvailable}
use Rattle.overlay_net.specs.cell_nets.Wires.{wires_of, Gives}
use Rattle.overlay_net.specs.SiteOperands.Pointers.{pointer_number}
use Rattle.overlay_net.specs.SiteOperands.Sites.{operands_of, ShowsAsked}
use Rattle.overlay_net.specs.Reading.{ShowsSlot}
use Rattle.overlay_net.specs.Seen.{all_read, IsSeen, AreOf, ShowPending}
use Rattle.overlay_net.proofs.cell_nets_laws.StepNets.ChainLaws.{starts, next}
use Rattle.overlay_net.proofs.cell_nets_laws.StepNets.StepLaws.{narrow_bits}
use Rattle.read_net.specs.Reads.{ShowsBoth, Finds}
use Rattle.read_net.specs.Sites.{cells_of, all_cells, slot_cells, sites_of}
use Rattle.read_net.proofs.StandLemmas.{left_of, right_of, first_of, tail_of, stands_as, stands_then}
use Rattle.read_net.proofs.PendingLemmas.{are_of}
use Rattle.read_net.proofs.finding.find.Goals as goal

pub key_pointer-requires-clause-pending : goal.key_pointer-requires-clause-pending
key_pointer-requires-clause-pending g c = subst (All (IsSeen c.args.map.now.decl.now.key c.args.map.now.bits)) (sym c.deref.ensures.value) c.in_ok-pending.ensures.seen

pub key_pointer-requires-clause-slot_narrow : goal.key_pointer-requires-clause-slot_narrow
key_pointer-requires-clause-slot_narrow g c = narrow_bits c.args.map.now.bits c.args.slot c.requires.bits

pub found_pointer-requires-clause-key_narrow : goal.found_pointer-requires-clause-key_narrow
found_pointer-requires-clause-key_narrow g c = narrow_bits c.args.map.now.bits c.in_ok-key.key c.in_ok-key.ensures.bits

pub returns-clause-stands : goal.returns-clause-stands
returns-clause-stands g c = λ p t h does earlier of.
    let site = c.args.site.now in
    let j = site.site in
    let ss = c.args.earlier.now in
    let map = c.args.map.now in
    let bits = map.bits in
    let slot = c.args.slot in
    let ds = c.in_ok-pending.pending.items in
    let key = c.in_ok-key.key in
    let found = c.in_ok-found.found in
    let cells = cells_of site in
    let others = all_cells ss ++ slot_cells map in
    let args = cells ++ others in
    let before = sites_of ss in
    let e = c.deref.ensures.value in
    let areof : AreOf p (site_at p.sites j).map before ds = are_of p (site_at p.sites j).map ss ds earlier c.in_ok-pending.ensures.of in
    let over =
    subst (λ l. Gives c.args.part (wires_of c.pendings.new.wires.items) (wires_of c.key_pointer.new.wires.items) (slot ∷ cells ++ all_read l) (λ v. ShowsAsked v p h j (operands_of site.nets.now) × ShowsSlot v p t h j slot × ShowPending v p t h before l) (λ v. pointer_number (key_pointer p t h before j)) bits key) e
    (c.in_ok-key.ensures.given p t h before j of.decl (subst (AreOf p (site_at p.sites j).map before) (sym e) areof)) in
    let first = starts c.args.part (wires_of c.args.wires.now.items) (slot ∷ args) (λ v. ShowsBoth v p t h map site ss slot) in
    let second = stands_then first (c.in_ok-pending.ensures.stands p t h (site_at p.sites j).map earlier of) (λ ins a. right_of (IsAvailable ins) cells others (tail_of (IsAvailable ins) slot args a)) (λ v k. (k.0.earlier, k.0.table)) in
    let third =
    next second over
    (λ ins a.
    let Q = IsAvailable ins in
    let r = right_of Q (all_read ds ++ others) (slot ∷ args) a in
    first_of Q slot (cells ++ all_read ds) (r 0 slot (omega arith)) (All-append Q cells (all_read ds) (left_of Q cells others (tail_of Q slot args r)) (left_of Q (all_read ds) others (left_of Q (all_read ds ++ others) (slot ∷ args) a))))
    (λ v f k. (k.0.0.asked, k.0.1, k.1.1)) in
    let fourth =
    next third (c.in_ok-found.ensures.given p t h before j does)
    (λ ins a.
    let Q = IsAvailable ins in
    first_of Q key cells (a 0 key (omega arith)) (left_of Q cells others (tail_of Q slot args (right_of Q (all_read ds ++ others) (slot ∷ args) (tail_of Q key ((all_read ds ++ others) ++ slot ∷ args) a)))))
    (λ v f k. (k.0.0.0.asked, k.1)) in
    stands_as (key ∷ found ∷ all_read ds ++ args) (λ v. Finds v p t h map site ss _) fourth
    (λ ins a.
    let Q = IsAvailable ins in
    let rest = tail_of Q key ((all_read ds ++ others) ++ slot ∷ args) (tail_of Q found (key ∷ (all_read ds ++ others) ++ slot ∷ args) a) in
    first_of Q key (found ∷ all_read ds ++ args) (a 1 key (omega arith))
    (first_of Q found (all_read ds ++ args) (a 0 found (omega arith))
    (All-append Q (all_read ds) args (left_of Q (all_read ds) others (left_of Q (all_read ds ++ others) (slot ∷ args) rest)) (tail_of Q slot args (right_of Q (all_read ds ++ others) (slot ∷ args) rest)))))
    (λ v k. record { shows = k.0.0.0.0; pending = k.0.0.1.1; key = k.0.1; found = k.1 })
