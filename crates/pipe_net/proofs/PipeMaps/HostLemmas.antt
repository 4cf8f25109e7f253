-- What the host reads, and what it may write.
use Rattle.std.proofs.Common.{◌≡◌, ℕ, ◌<◌, length, refl, sym, ◌∙◌, ap, subst}
use Rattle.block_core.specs.net_core.Ports.{words_of}
use Rattle.block_core.specs.net_core.Value.{word}
use Rattle.commit_net.specs.MapBlock.Stored.{shown_here}
use Rattle.commit_net.specs.MapBlock.Laws.{SeesParts}
use Rattle.turn_net.specs.HostNet.Values.{word_name}
use Rattle.turn_net.specs.HostNet.Laws.{ValueFollows}
use Rattle.pipe_core.specs.Machine.{host_ready}
use Rattle.pipe_net.specs.declared.parts.Part.{Part}
use Rattle.pipe_net.specs.Parts as part
use Rattle.pipe_net.specs.Machine.{access_in}
use Rattle.pipe_net.specs.PipeTurns.Parts.{form_at, ready_net}
use Rattle.pipe_net.specs.PipeMaps.Saying.{ValueIsShown, MapsLetWrite}
use Rattle.pipe_net.proofs.PipeMaps.AmongLemmas.{value_among}
use Rattle.pipe_net.proofs.PipeMaps.SeenLemmas.{are_solved, is_map_of, sees_host}

pub value_is_shown : SeesParts Part → ValueFollows Part → ValueIsShown
value_is_shown seen reads = λ l d action is i s ss v held sees ready.
    let value = is.parts.value in
    let a = access_in i in
    let each : (m : ℕ) → m < length value.words → v.net (word_name value.words m) ≡ word 64 (shown_here (form_at l m) s.tables a) =
    λ m lt.
    let there : m < length l.decls = subst (λ n. m < n) value.count lt in
    let solved = are_solved l d action is m there seen (words_of i) ss v sees in
    ap v.net (value.each m there) ∙ (is.parts.maps m there).map.does.shows v (ss (part.own l.sizes m)) s.tables a i.host_data solved.0 solved.1 (is_map_of l d action is m there s.tables held.decls) (held.tables m there) (sees_host d i ss v sees)
    in
    reads (part.value l.sizes) (ready_net l) value.words (d.block (part.value l.sizes)) v (host_ready l.build s) s.tables a (form_at l) value.block (sees.wires (part.value l.sizes) (value_among l d is.places)) ready (λ m lt. refl) (value.count ∙ ap length (sym held.decls)) each

pub maps_let_write : SeesParts Part → MapsLetWrite
maps_let_write seen = λ l d action is m ins ss v t a number idle there sees map stores host says.
    let solved = are_solved l d action is m there seen ins ss v sees in (is.parts.maps m there).map.does.allows v (ss (part.own l.sizes m)) t a number idle solved.0 solved.1 map stores host says
