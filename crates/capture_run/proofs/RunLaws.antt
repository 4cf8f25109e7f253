-- The runs of the packets of a capture, one after another, and the writes of their answers.
use Rattle.std.proofs.Common.{◌≡◌, ℕ, zero, suc, ◌+◌, ◌-◌, ◌<◌, ◌≤◌, List, [], ◌∷◌, ◌++◌, length, map, drop, get_or, slice_index_or, Option, Result, Ok, Err, refl, sym, ◌∙◌, ap, subst, arith, append_assoc, append-nil, drop-cons}
use Rattle.std.specs.List.{AllByRecursion}
use Rattle.std.proofs.lemmas.List.{get_or-map, length-map, drop_all}
use Rattle.beat_core.specs.declared.answer.Answer.{Answer}
use Rattle.pcap_core.specs.Format.{Packet}
use Rattle.pcap_core.specs.Time.{time_of}
use Rattle.pcap_core.specs.Streaming.{Opened}
use Rattle.xdp_state.specs.xdp_machine.State.{Code, PacketIn, start}
use Rattle.xdp_state.specs.xdp_machine.Runs.{Leaves, Progress, Ended, IsRun, AreRuns, run}
use Rattle.xdp_state.specs.xdp_machine.MachineLaws.{maps_so_far}
use Rattle.xdp_state.proofs.xdp_machine_laws.RunLaws.{runs_keep_sizes, has_one_answer, runs_length}
use Rattle.xdp_maps.specs.State.{MapState, IsSound}
use Rattle.command_line.specs.Request.{Names}
use Rattle.capture_run.specs.States.{ShelfState, Changes}
use Rattle.capture_run.specs.Writes.{Write, AreDone}
use Rattle.capture_run.specs.declared.records.Stamp.{Stamp}
use Rattle.capture_run.specs.Captures.{Reading, StandsBefore, packet_with}
use Rattle.capture_run.specs.Results.{no_packet, no_answer, answer_writes, packet_writes}
use Rattle.capture_run.specs.Runs.{packet_in, RunsEnd, answer_left, answers_left, AnswersOut, RunsOut}
use Rattle.capture_run.specs.declared.error.RunError.{RunError}
use Rattle.capture_run.proofs.WriteLaws.{done_both}
use Rattle.capture_run.proofs.RangeLaws.{Comes}
use Rattle.capture_run.proofs.EndLaws.{ends_out}

-- ---- runs
left_decls : (code : Code) (packet : PacketIn) (maps : MapState) (e : Leaves) → run code 1048576 (start packet maps) ≡ Ended e → e.maps.decls ≡ maps.decls
left_decls code packet maps e ran = ap (λ (r : Progress). (maps_so_far r).decls) (sym ran) ∙ (runs_keep_sizes code 1048576 (start packet maps) refl).decls

-- Where each run has an end, those of all packets exist.
pub runs_exist : (code : Code) (first maps : MapState) (packets : List PacketIn) → RunsEnd code first → AllByRecursion Comes packets → IsSound maps → maps.decls ≡ first.decls → (leaves : List Leaves) × (final : MapState) × AreRuns code maps packets leaves final
runs_exist code first maps [] ends come sound decls = ([], maps, refl)
runs_exist code first maps (packet ∷ packets) ends come sound decls =
    let end = ends packet maps decls (come.0 maps sound) in
    let more = runs_exist code first end.0.maps packets ends come.1 end.2 (left_decls code packet maps end.0 end.1 ∙ decls) in
    (end.0 ∷ more.0, more.1, ((1048576, end.1), more.2))

-- what a run leaves, whichever is asked for
pub out_of_run : (code : Code) (packet : PacketIn) (maps last : MapState) (made e : Leaves) (names : Names) (p : Packet) (i : ℕ) (result : Result (Unit {0}) RunError) (old new : ShelfState) → IsRun code packet maps made → IsRun code packet maps e
    → AnswersOut result (answer_writes names p i (answer_left made)) (last ≡ made.maps) old new → AnswersOut result (answer_writes names p i (answer_left e)) (last ≡ e.maps) old new
out_of_run code packet maps last made e names p i result old new ran asked out =
    subst (λ (l : Leaves). AnswersOut result (answer_writes names p i (answer_left l)) (last ≡ l.maps) old new) (has_one_answer code packet maps made e ran asked) out

-- ---- the writes of the first packets, and those after them
writes_split : (names : Names) (packets : List Packet) (answers : List Answer) (i k n : ℕ) → n ≡ i + k → (more : List Write) × (packet_writes names packets answers n ≡ packet_writes names packets answers i ++ more)
writes_split names packets answers i zero n e =
    let same : n ≡ i = omega arith in
    ([], ap (packet_writes names packets answers) same ∙ sym (append-nil (packet_writes names packets answers i)))
writes_split names packets answers i (suc k) zero e = absurd (omega arith)
writes_split names packets answers i (suc k) (suc n) e =
    let before = writes_split names packets answers i k n (omega arith) in
    let last : List Write = answer_writes names (slice_index_or packets n no_packet) n (slice_index_or answers n no_answer) in
    (before.0 ++ last, ap (λ (ws : List Write). ws ++ last) before.1 ∙ append_assoc (packet_writes names packets answers i) before.0 last)

pub writes_upto : (names : Names) (packets : List Packet) (answers : List Answer) (i n : ℕ) → i ≤ n → (more : List Write) × (packet_writes names packets answers n ≡ packet_writes names packets answers i ++ more)
writes_upto names packets answers i n below = writes_split names packets answers i (n - i) n (omega arith)

-- ---- packet by packet
-- The runs of all packets exist, these maps are left by the first of them, and their answers were written.
pub record SoFar (names : Names) (code : Code) (ifindex magic : ℕ) (packets : List Packet) (i : ℕ) (first now : MapState) (old new : ShelfState) : Type 0 where
  pub leaves : List Leaves
  pub final : MapState
  pub runs : AreRuns code first (map (packet_in ifindex magic) packets) leaves final
  pub rest : AreRuns code now (map (packet_in ifindex magic) (drop i packets)) (drop i leaves) final
  pub done : AreDone (packet_writes names packets (answers_left leaves) i) old new

abbrev pub no_leaves : MapState → Leaves
no_leaves maps = record { verdict = 0; target = 0; frame = []; maps = maps }

-- what the run of packet i leaves, and the packet
abbrev pub leaves_at : List Leaves → ℕ → MapState → Leaves
leaves_at leaves i maps = get_or leaves i (no_leaves maps)

abbrev pub packet_at : List Packet → ℕ → Packet
packet_at packets i = slice_index_or packets i no_packet

pub so_far_none : (names : Names) (code : Code) (ifindex magic : ℕ) (packets : List Packet) (maps : MapState) (state : ShelfState) → RunsEnd code maps → AllByRecursion Comes (map (packet_in ifindex magic) packets) → IsSound maps → Changes [] state state → SoFar names code ifindex magic packets 0 maps maps state state
so_far_none names code ifindex magic packets maps state ends come sound same =
    let all = runs_exist code maps maps (map (packet_in ifindex magic) packets) ends come sound refl in
    record { leaves = all.0; final = all.1; runs = all.2; rest = all.2; done = same }

module _ (names : Names) (code : Code) (ifindex magic : ℕ) (packets : List Packet) (i : ℕ) (first now : MapState) (old mid : ShelfState) (far : SoFar names code ifindex magic packets i first now old mid) where
  as_many : length far.leaves ≡ length packets
  as_many = runs_length code first (map (packet_in ifindex magic) packets) far.leaves far.final far.runs ∙ length-map packets (packet_in ifindex magic)

  length_answers : length (answers_left far.leaves) ≡ length packets
  length_answers = length-map far.leaves answer_left ∙ as_many

  -- all of them
  pub so_far_all : i ≡ length packets → RunsOut names code ifindex magic packets first now (Ok tt) old mid
  so_far_all whole =
      let none : drop i packets ≡ [] = drop_all i packets (omega (arith, whole)) in
      let none_left : drop i far.leaves ≡ [] = drop_all i far.leaves (omega (arith, whole, as_many)) in
      let P : List Packet → Type 0 = λ ps. AreRuns code now (map (packet_in ifindex magic) ps) (drop i far.leaves) far.final in
      let Q : List Leaves → Type 0 = λ es. AreRuns code now [] es far.final in
      let is : far.final ≡ now = subst Q none_left (subst P none far.rest) in
      record {
        leaves = far.leaves;
        final = far.final;
        runs = far.runs;
        out = (sym is, subst (λ (n : ℕ). AreDone (packet_writes names packets (answers_left far.leaves) n) old mid) (whole ∙ sym length_answers) far.done);
      }

  -- those of the next packet, and those after it
  module _ (below : i < length packets) where
    next_runs : AreRuns code now (map (packet_in ifindex magic) (packet_at packets i ∷ drop (suc i) packets)) (leaves_at far.leaves i now ∷ drop (suc i) far.leaves) far.final
    next_runs =
        let P : List Packet → Type 0 = λ ps. AreRuns code now (map (packet_in ifindex magic) ps) (leaves_at far.leaves i now ∷ drop (suc i) far.leaves) far.final in
        let Q : List Leaves → Type 0 = λ es. AreRuns code now (map (packet_in ifindex magic) (drop i packets)) es far.final in
        subst P (drop-cons packets i no_packet below) (subst Q (drop-cons far.leaves i (no_leaves now) (omega (arith, below, as_many))) far.rest)

    pub next_ran : IsRun code (packet_in ifindex magic (packet_at packets i)) now (leaves_at far.leaves i now)
    next_ran = next_runs.0

    answer_at : slice_index_or (answers_left far.leaves) i no_answer ≡ answer_left (leaves_at far.leaves i now)
    answer_at = get_or-map answer_left far.leaves i (no_leaves now) no_answer (omega (arith, below, as_many))

    pub so_far_next : (last : MapState) (new : ShelfState) → last ≡ (leaves_at far.leaves i now).maps → AreDone (answer_writes names (packet_at packets i) i (answer_left (leaves_at far.leaves i now))) mid new
        → SoFar names code ifindex magic packets (suc i) first last old new
    so_far_next last new is wrote =
        let P : MapState → Type 0 = λ m. AreRuns code m (map (packet_in ifindex magic) (drop (suc i) packets)) (drop (suc i) far.leaves) far.final in
        let Q : Answer → Type 0 = λ r. AreDone (packet_writes names packets (answers_left far.leaves) i ++ answer_writes names (packet_at packets i) i r) old new in
        record {
          leaves = far.leaves;
          final = far.final;
          runs = far.runs;
          rest = subst P (sym is) next_runs.1;
          done = subst Q (sym answer_at) (done_both (packet_writes names packets (answers_left far.leaves) i) (answer_writes names (packet_at packets i) i (answer_left (leaves_at far.leaves i now))) old mid new far.done wrote);
        }

    pub so_far_ends : (last : MapState) (new : ShelfState) (e : RunError) → AnswersOut (Err e) (answer_writes names (packet_at packets i) i (answer_left (leaves_at far.leaves i now))) (last ≡ (leaves_at far.leaves i now).maps) mid new
        → RunsOut names code ifindex magic packets first last (Err e) old new
    so_far_ends last new e out =
        let Q : Answer → Type 0 = λ r. AnswersOut (Err e) (answer_writes names (packet_at packets i) i r) (last ≡ (leaves_at far.leaves i now).maps) mid new in
        let all = writes_upto names packets (answers_left far.leaves) (suc i) (length (answers_left far.leaves)) (omega (arith, below, length_answers)) in
        record {
          leaves = far.leaves;
          final = far.final;
          runs = far.runs;
          out = ends_out e (packet_writes names packets (answers_left far.leaves) i) (answer_writes names (packet_at packets i) i (slice_index_or (answers_left far.leaves) i no_answer)) all.0 (packet_writes names packets (answers_left far.leaves) (length (answers_left far.leaves)))
              (last ≡ (leaves_at far.leaves i now).maps) (last ≡ far.final) old mid new all.1 far.done (subst Q (sym answer_at) out);
        }

-- ---- a packet that was read
pub out_of_next : (names : Names) (code : Code) (maps last : MapState) (ifindex magic time : ℕ) (stamp : Stamp) (given frame : List ℕ) (p : Packet) (i : ℕ) (e : Leaves) (result : Result (Unit {0}) RunError) (a b : ShelfState)
    → p ≡ packet_with stamp given → frame ≡ given → time ≡ time_of magic (packet_with stamp given)
    → ((f : Leaves) → IsRun code (record { frame = frame; ifindex = ifindex; time = time }) maps f → AnswersOut result (answer_writes names (packet_with stamp frame) i (answer_left f)) (last ≡ f.maps) a b)
    → IsRun code (packet_in ifindex magic p) maps e → AnswersOut result (answer_writes names p i (answer_left e)) (last ≡ e.maps) a b
out_of_next names code maps last ifindex magic time stamp given frame p i e result a b is whole when out ran =
    let same : p ≡ packet_with stamp frame = is ∙ ap (packet_with stamp) (sym whole) in
    let P : Packet → Type 0 = λ q. IsRun code (packet_in ifindex magic q) maps e in
    let Q : ℕ → Type 0 = λ t. IsRun code (record { frame = frame; ifindex = ifindex; time = t }) maps e in
    let R : Packet → Type 0 = λ q. AnswersOut result (answer_writes names q i (answer_left e)) (last ≡ e.maps) a b in
    subst R (sym same) (out e (subst Q (sym when) (subst P same ran)))

-- a run from maps of the same declarations has an end
pub ends_later : (code now : Code) (first maps : MapState) → RunsEnd code first → now ≡ code → maps.decls ≡ first.decls → RunsEnd now maps
ends_later code now first maps ends same decls = subst (λ (c : Code). RunsEnd c maps) (sym same) (λ packet later d. ends packet later (d ∙ decls))

-- ---- what is told of the next packet
module _ (names : Names) (code at : Code) (ifindex : ℕ) (opened : Opened) (packets : List Packet) (i : ℕ) (first now last : MapState) (old mid new : ShelfState) (before after : Reading) (result : Result (Unit {0}) RunError)
    (far : SoFar names code ifindex opened.magic packets i first now old mid) (stands : StandsBefore opened (old.held names.capture) before (drop i packets)) (same_code : at ≡ code) (same_held : mid.held names.capture ≡ old.held names.capture)
    (below : i < length packets)
    (told : (p : Packet) (rest : List Packet) (e : Leaves) → StandsBefore opened (mid.held names.capture) before (p ∷ rest) → IsRun at (packet_in ifindex opened.magic p) now e → AnswersOut result (answer_writes names p i (answer_left e)) (last ≡ e.maps) mid new) where
  stands_at : StandsBefore opened (mid.held names.capture) before (packet_at packets i ∷ drop (suc i) packets)
  stands_at =
      let P : List Packet → Type 0 = λ ps. StandsBefore opened (old.held names.capture) before ps in
      let Q : Option (List ℕ) → Type 0 = λ h. StandsBefore opened h before (packet_at packets i ∷ drop (suc i) packets) in
      subst Q (sym same_held) (subst P (drop-cons packets i no_packet below) stands)

  out_at : AnswersOut result (answer_writes names (packet_at packets i) i (answer_left (leaves_at far.leaves i now))) (last ≡ (leaves_at far.leaves i now).maps) mid new
  out_at =
      let ran = next_ran names code ifindex opened.magic packets i first now old mid far below in
      told (packet_at packets i) (drop (suc i) packets) (leaves_at far.leaves i now) stands_at (subst (λ (c : Code). IsRun c (packet_in ifindex opened.magic (packet_at packets i)) now (leaves_at far.leaves i now)) (sym same_code) ran)

  pub told_next : (n : ℕ) → n ≡ i + 1 → result ≡ Ok tt → ((p : Packet) (rest : List Packet) → StandsBefore opened (mid.held names.capture) before (p ∷ rest) → StandsBefore opened (mid.held names.capture) after rest)
      → SoFar names code ifindex opened.magic packets n first last old new × StandsBefore opened (old.held names.capture) after (drop n packets)
  told_next n is done after_it =
      let e : suc i ≡ n = omega (arith, is) in
      let P : ℕ → Type 0 = λ k. SoFar names code ifindex opened.magic packets k first last old new × StandsBefore opened (old.held names.capture) after (drop k packets) in
      let Q : Option (List ℕ) → Type 0 = λ h. StandsBefore opened h after (drop (suc i) packets) in
      let R : Result (Unit {0}) RunError → Type 0 = λ r. AnswersOut r (answer_writes names (packet_at packets i) i (answer_left (leaves_at far.leaves i now))) (last ≡ (leaves_at far.leaves i now).maps) mid new in
      let out = subst R done out_at in
      subst P e (so_far_next names code ifindex opened.magic packets i first now old mid far below last new out.0 out.1, subst Q same_held (after_it (packet_at packets i) (drop (suc i) packets) stands_at))

  pub told_ends : (e : RunError) → result ≡ Err e → RunsOut names code ifindex opened.magic packets first last (Err e) old new
  told_ends e is =
      let R : Result (Unit {0}) RunError → Type 0 = λ r. AnswersOut r (answer_writes names (packet_at packets i) i (answer_left (leaves_at far.leaves i now))) (last ≡ (leaves_at far.leaves i now).maps) mid new in
      so_far_ends names code ifindex opened.magic packets i first now old mid far below last new e (subst R is out_at)
