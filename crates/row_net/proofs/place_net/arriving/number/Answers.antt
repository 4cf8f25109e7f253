use Rattle.std.proofs.Common.{◌*◌, ◌/◌, ◌%◌, [], sym, subst}
use Rattle.overlay_net.specs.cell_core.declared.operator.Operator.TheVariants.{Byte, Length}
use Rattle.overlay_net.specs.cell_core.Cells.{number}
use Rattle.cell_nets.specs.declared.operand.Operand.TheVariants.{Net}
use Rattle.cell_nets.specs.Wires.{wires_of}
use Rattle.frame_net.specs.declared.held.Kept.TheVariants as kept
use Rattle.frame_net.specs.Sources.{kept_word}
use Rattle.row_net.specs.PlaceNet.Sources.{packet_in, source_operands, IsShownIn}
use Rattle.row_net.specs.PlaceNet.SourceNets.{GivesNumber}
use Rattle.row_net.proofs.PlaceNet.SourceLemmas.{byte_is, gives_bits, kept_gives, length_gives}
use Rattle.row_net.proofs.place_net.arriving.number.Goals as goal

pub returns-in_ok-byte-in-Byte : goal.returns-in_ok-byte-in-Byte
returns-in_ok-byte-in-Byte g c =
    let p = c.args.part in
    let s = c.args.sources in
    let list = c.args.kept.now in
    let i = c.in-Byte.i in
    let old = wires_of c.args.wires.now.items in
    let new = wires_of c.cut.new.wires.items in
    subst (λ op. GivesNumber p s list op old new c.in_ok-byte-in-Byte.byte) (sym c.in-Byte.is)
    (λ a. gives_bits p old old new (source_operands s list) (λ v. IsShownIn s list v a) (λ v. (kept_word (kept.Word (i / 8)) a).value) (λ v. number (packet_in a) (Byte i) []) 64 8 (8 * (i % 8)) c.kept_net-word.result c.in_ok-byte-in-Byte.byte
    (kept_gives p s old list (kept.Word (i / 8)) c.kept_net-word.result a c.kept_net-word.ensures) c.in_ok-byte-in-Byte.ensures (λ v h. byte_is a.frame i h.bytes))

pub returns-in-Length : goal.returns-in-Length
returns-in-Length g c =
    let p = c.args.part in
    let s = c.args.sources in
    let list = c.args.kept.now in
    let ws = wires_of c.args.wires.now.items in
    subst (λ op. GivesNumber p s list op ws ws (Net c.length_name.result 14)) (sym c.in-Length.is) (subst (λ n. GivesNumber p s list Length ws ws (Net n 14)) (sym c.length_name.ensures) (λ a. length_gives p s ws list a))

pub returns-in-Ifindex : goal.returns-in-Ifindex
returns-in-Ifindex g c =
    let p = c.args.part in
    let s = c.args.sources in
    let list = c.args.kept.now in
    let ws = wires_of c.args.wires.now.items in
    subst (λ op. GivesNumber p s list op ws ws c.kept_net.result) (sym c.in-Ifindex.is) (λ a. kept_gives p s ws list kept.Ifindex c.kept_net.result a c.kept_net.ensures)

pub returns-in-Time : goal.returns-in-Time
returns-in-Time g c =
    let p = c.args.part in
    let s = c.args.sources in
    let list = c.args.kept.now in
    let ws = wires_of c.args.wires.now.items in
    subst (λ op. GivesNumber p s list op ws ws c.kept_net-in-Time.result) (sym c.in-Time.is) (λ a. kept_gives p s ws list kept.Time c.kept_net-in-Time.result a c.kept_net-in-Time.ensures)
