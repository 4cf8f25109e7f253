-- The writes of a command make its files.
use Rattle.std.proofs.Common.{◌≢◌, ℕ, zero, suc, Option, None, List, [], ◌∷◌, ◌++◌, length, refl, sym, inl, inr, append-nil, Some}
use Rattle.pcap_core.specs.Format.{Packet}
use Rattle.beat_core.specs.declared.answer.Answer.{Answer}
use Rattle.command_line.specs.Request.{Names}
use Rattle.capture_run.specs.Writes.{names_in, Write, Append}
use Rattle.capture_run.specs.Results.{texts, record_at, line_at, answer_bytes, verdict_lines, packet_writes, final_writes, result_writes}
use Rattle.ehdl_top.specs.Results.{compile_outputs, result_outputs, run_outputs}
use Rattle.ehdl_top.specs.Steps.{AreDistinct, IsTextApart}
use Rattle.capture_run.proofs.StateLaws.{IsOneOf}
use Rattle.capture_run.proofs.WriteLaws.{AreOf, of_both, Adds, Builds, AreBuilt, adds_as, adds_both, Skips, skips_both, skips_adds, builds_after}

-- the line of an answer that stands there
-- ---- what packets add
one_more : (name bytes other more : List ℕ) → name ≢ other → Adds (Append name bytes ∷ Append other more ∷ []) name bytes
one_more name bytes other more apart = inl (refl, [], sym (append-nil bytes), inr (apart, refl))

packet_answers : (names : Names) (ps : List Packet) (rs : List Answer) (n : ℕ) → names.answer ≢ names.verdicts → Adds (packet_writes names ps rs n) names.answer (texts (record_at ps rs) n)
packet_answers names ps rs zero apart = refl
packet_answers names ps rs (suc n) apart =
    adds_both (packet_writes names ps rs n) _ names.answer (texts (record_at ps rs) n) (record_at ps rs n) (packet_answers names ps rs n apart)
    (one_more names.answer (record_at ps rs n) names.verdicts (line_at rs n) apart)

packet_lines : (names : Names) (ps : List Packet) (rs : List Answer) (n : ℕ) → names.verdicts ≢ names.answer → Adds (packet_writes names ps rs n) names.verdicts (texts (line_at rs) n)
packet_lines names ps rs zero apart = refl
packet_lines names ps rs (suc n) apart =
    adds_both (packet_writes names ps rs n) _ names.verdicts (texts (line_at rs) n) (line_at rs n) (packet_lines names ps rs n apart)
    (inr (apart, inl (refl, [], sym (append-nil (line_at rs n)), refl)))

packet_skips : (names : Names) (ps : List Packet) (rs : List Answer) (n : ℕ) (name : List ℕ) → name ≢ names.answer → name ≢ names.verdicts → Skips (packet_writes names ps rs n) name
packet_skips names ps rs zero name a v = tt
packet_skips names ps rs (suc n) name a v = skips_both (packet_writes names ps rs n) _ name (packet_skips names ps rs n name a v) (a, (v, tt))

packet_of : (names : Names) (ps : List Packet) (rs : List Answer) (n : ℕ) (those : List (List ℕ)) → IsOneOf those names.answer → IsOneOf those names.verdicts → AreOf those (packet_writes names ps rs n)
packet_of names ps rs zero those a v = tt
packet_of names ps rs (suc n) those a v = of_both those (packet_writes names ps rs n) _ (packet_of names ps rs n those a v) (a, (v, tt))

-- ---- the final maps
final_skips : (names : Names) (finals : Option (List ℕ)) (name : List ℕ) → name ≢ names.final_maps → Skips (final_writes names finals) name
final_skips names (Some text) name apart = (apart, (apart, tt))
final_skips names None name apart = tt

final_of : (names : Names) (finals : Option (List ℕ)) (those : List (List ℕ)) → IsOneOf those names.final_maps → AreOf those (final_writes names finals)
final_of names (Some text) those one = (one, (one, tt))
final_of names None those one = tt

-- ---- the results
turned : (a b : List ℕ) → a ≢ b → b ≢ a
turned a b apart e = apart (sym e)

-- what packets add, with no more of the name after them
then_none : (ws vs : List Write) (name bytes : List ℕ) → Adds ws name bytes → Skips vs name → Adds (ws ++ vs) name bytes
then_none ws vs name bytes adds skips = adds_as (ws ++ vs) name (bytes ++ []) bytes (append-nil bytes) (adds_both ws vs name bytes [] adds (skips_adds vs name skips))

builds_answer : (names : Names) (magic : ℕ) (ps : List Packet) (rs : List Answer) (finals : Option (List ℕ)) → AreDistinct names → Builds (result_writes names magic ps rs finals) names.answer (answer_bytes magic ps rs)
builds_answer names magic ps rs finals apart =
    inl (
      refl,
      inl (
        refl,
        texts (record_at ps rs) (length rs),
        refl,
        (apart.answer_verdicts, then_none (packet_writes names ps rs (length rs)) (final_writes names finals) names.answer (texts (record_at ps rs) (length rs)) (packet_answers names ps rs (length rs) apart.answer_verdicts) (final_skips names finals names.answer apart.answer_final)),
      ),
    )

builds_lines : (names : Names) (magic : ℕ) (ps : List Packet) (rs : List Answer) (finals : Option (List ℕ)) → AreDistinct names → Builds (result_writes names magic ps rs finals) names.verdicts (verdict_lines rs)
builds_lines names magic ps rs finals apart =
    let back : names.verdicts ≢ names.answer = turned names.answer names.verdicts apart.answer_verdicts in
    inr (
      back,
      (
        back,
        inl (
          refl,
          then_none (packet_writes names ps rs (length rs)) (final_writes names finals) names.verdicts (verdict_lines rs) (packet_lines names ps rs (length rs) back) (final_skips names finals names.verdicts apart.verdicts_final),
        ),
      ),
    )

builds_final : (names : Names) (magic : ℕ) (ps : List Packet) (rs : List Answer) (text : List ℕ) → AreDistinct names → Builds (result_writes names magic ps rs (Some text)) names.final_maps text
builds_final names magic ps rs text apart =
    let a : names.final_maps ≢ names.answer = turned names.answer names.final_maps apart.answer_final in
    let v : names.final_maps ≢ names.verdicts = turned names.verdicts names.final_maps apart.verdicts_final in
    inr (a, (a, inr (v, builds_after (packet_writes names ps rs (length rs)) (final_writes names (Some text)) names.final_maps text (packet_skips names ps rs (length rs) names.final_maps a v) (inl (refl, inl (refl, [], sym (append-nil text), refl))))))

result_skips : (names : Names) (magic : ℕ) (ps : List Packet) (rs : List Answer) (finals : Option (List ℕ)) (name : List ℕ) → name ≢ names.answer → name ≢ names.verdicts → name ≢ names.final_maps → Skips (result_writes names magic ps rs finals) name
result_skips names magic ps rs finals name a v f =
    (a, (a, (v, skips_both (packet_writes names ps rs (length rs)) (final_writes names finals) name (packet_skips names ps rs (length rs) name a v) (final_skips names finals name f))))

pub result_of : (names : Names) (magic : ℕ) (ps : List Packet) (rs : List Answer) (finals : Option (List ℕ)) (those : List (List ℕ)) → IsOneOf those names.answer → IsOneOf those names.verdicts → AreOf those (final_writes names finals) → AreOf those (result_writes names magic ps rs finals)
result_of names magic ps rs finals those a v f =
    (a, (a, (v, of_both those (packet_writes names ps rs (length rs)) (final_writes names finals) (packet_of names ps rs (length rs) those a v) f)))

-- ---- the outputs of the commands
pub compile_built : (verilog text : List ℕ) → AreBuilt (compile_outputs verilog text).files (compile_outputs verilog text).writes
compile_built verilog text = (inl (refl, inl (refl, [], sym (append-nil text), refl)), tt)

pub result_built : (names : Names) (magic : ℕ) (ps : List Packet) (rs : List Answer) (finals : Option (List ℕ)) → AreDistinct names → AreBuilt (result_outputs names magic ps rs finals).files (result_outputs names magic ps rs finals).writes
result_built names magic ps rs (Some text) apart =
    (builds_answer names magic ps rs (Some text) apart, (builds_lines names magic ps rs (Some text) apart, (builds_final names magic ps rs text apart, tt)))
result_built names magic ps rs None apart = (builds_answer names magic ps rs None apart, (builds_lines names magic ps rs None apart, tt))

pub result_names : (names : Names) (magic : ℕ) (ps : List Packet) (rs : List Answer) (finals : Option (List ℕ)) → AreOf (names_in (result_outputs names magic ps rs finals).files) (result_outputs names magic ps rs finals).writes
result_names names magic ps rs (Some text) =
    let those : List (List ℕ) = names.answer ∷ names.verdicts ∷ names.final_maps ∷ [] in
    result_of names magic ps rs (Some text) those (inl refl) (inr (inl refl)) (final_of names (Some text) those (inr (inr (inl refl))))
result_names names magic ps rs None = result_of names magic ps rs None (names.answer ∷ names.verdicts ∷ []) (inl refl) (inr (inl refl)) tt

-- the names that a command may write
pub run_built : (names : Names) (verilog text : List ℕ) (magic : ℕ) (ps : List Packet) (rs : List Answer) (final : List ℕ) → AreDistinct names → IsTextApart names verilog → AreBuilt (run_outputs names verilog text magic ps rs final).files (run_outputs names verilog text magic ps rs final).writes
run_built names verilog text magic ps rs final apart own =
    let finals : Option (List ℕ) = Some final in
    let a : names.answer ≢ verilog = turned verilog names.answer own.answer in
    let v : names.verdicts ≢ verilog = turned verilog names.verdicts own.verdicts in
    let f : names.final_maps ≢ verilog = turned verilog names.final_maps own.final in (
      inl (refl, inl (refl, [], sym (append-nil text), skips_adds (result_writes names magic ps rs finals) verilog (result_skips names magic ps rs finals verilog own.answer own.verdicts own.final))),
      (
        inr (a, (a, builds_answer names magic ps rs finals apart)),
        (inr (v, (v, builds_lines names magic ps rs finals apart)), (inr (f, (f, builds_final names magic ps rs final apart)), tt)),
      ),
    )

pub run_of : (names : Names) (verilog text : List ℕ) (magic : ℕ) (ps : List Packet) (rs : List Answer) (final : List ℕ) → AreOf (verilog ∷ names.answer ∷ names.verdicts ∷ names.final_maps ∷ []) (run_outputs names verilog text magic ps rs final).writes
run_of names verilog text magic ps rs final =
    let those : List (List ℕ) = verilog ∷ names.answer ∷ names.verdicts ∷ names.final_maps ∷ [] in
    (inl refl, (inl refl, result_of names magic ps rs (Some final) those (inr (inl refl)) (inr (inr (inl refl))) (final_of names (Some final) those (inr (inr (inr (inl refl)))))))
