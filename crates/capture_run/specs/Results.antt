-- The texts of answers: a capture of them, and a verdict line for each.
use Rattle.std.specs.Prelude.{ℕ, zero, suc, Option, Some, None, List, [], ◌∷◌, ◌++◌, length, map, slice_index_or}
use Rattle.pcap_core.specs.declared.order.Order.TheVariants.{Little}
use Rattle.pcap_core.specs.Format.{Packet, header_bytes, record_bytes}
use Rattle.pcap_core.specs.Time.{timed_of}
use Rattle.beat_core.specs.declared.frame.Timed.{Timed}
use Rattle.beat_core.specs.Ports.{Arrival}
use Rattle.beat_core.specs.Laws.{arrival_of}
use Rattle.beat_core.specs.declared.answer.Answer.{Answer}
use Rattle.command_line.specs.Request.{Names}
use Rattle.capture_run.specs.Lines.{verdict_line_of}
use Rattle.capture_run.specs.Writes.{File, file, Write, Begin, Append, file_writes}

-- the texts of 0, 1, .., so many of them, one after the other
abbrev pub texts : (ℕ → List ℕ) → ℕ → List ℕ
texts text zero = []
texts text (suc n) = texts text n ++ text n

abbrev pub no_packet : Packet
no_packet = record { seconds = 0; fraction = 0; bytes = [] }

abbrev pub no_answer : Answer
no_answer = record { verdict = 0; target = 0; frame = [] }

-- the record of an answer: the time of its packet, and its frame's length twice
abbrev pub answer_record : Packet → Answer → List ℕ
answer_record p r = record_bytes Little (record { packet = record { seconds = p.seconds; fraction = p.fraction; bytes = r.frame }; original = length r.frame })

abbrev pub record_at : List Packet → List Answer → ℕ → List ℕ
record_at packets answers i = answer_record (slice_index_or packets i no_packet) (slice_index_or answers i no_answer)

abbrev pub line_of : ℕ → Answer → List ℕ
line_of i r = verdict_line_of i r.verdict r.target (length r.frame)

abbrev pub line_at : List Answer → ℕ → List ℕ
line_at answers i = line_of i (slice_index_or answers i no_answer)

-- the header of an answer: time zone and accuracy 0, packets of any length
abbrev pub answer_header : ℕ → List ℕ
answer_header magic = header_bytes (record { order = Little; magic = magic; zone = 0; accuracy = 0; snap = 65535 })

-- the capture of the answers: a record for each
abbrev pub answer_bytes : ℕ → List Packet → List Answer → List ℕ
answer_bytes magic packets answers = answer_header magic ++ texts (record_at packets answers) (length answers)

-- the verdict lines: one for each answer
abbrev pub verdict_lines : List Answer → List ℕ
verdict_lines answers = texts (line_at answers) (length answers)

-- the packets of a capture, each a frame with its time
abbrev pub timed_packets : ℕ → List Packet → List Timed
timed_packets magic packets = map (timed_of magic) packets

-- as they come by one interface
abbrev pub came_by : ℕ → List Timed → List Arrival
came_by ifindex packets = map (arrival_of ifindex) packets

-- the capture of the answers, and their verdicts
abbrev pub result_files : Names → ℕ → List Packet → List Answer → List File
result_files names magic packets answers = file names.answer (answer_bytes magic packets answers) ∷ file names.verdicts (verdict_lines answers) ∷ []

-- the text of the final maps, where they are written
abbrev pub final_files : Names → Option (List ℕ) → List File
final_files names (Some text) = file names.final_maps text ∷ []
final_files names None = []

-- ---- the order in which they are written
-- the record of an answer, and then its verdict line
abbrev pub answer_writes : Names → Packet → ℕ → Answer → List Write
answer_writes names p i r = Append names.answer (answer_record p r) ∷ Append names.verdicts (line_of i r) ∷ []

-- those of each of the first n packets
abbrev pub packet_writes : Names → List Packet → List Answer → ℕ → List Write
packet_writes names packets answers zero = []
packet_writes names packets answers (suc n) =
    packet_writes names packets answers n ++ answer_writes names (slice_index_or packets n no_packet) n (slice_index_or answers n no_answer)

abbrev pub final_writes : Names → Option (List ℕ) → List Write
final_writes names (Some text) = file_writes names.final_maps text
final_writes names None = []

-- The answer is begun, and its header written; the verdicts are begun.
abbrev pub head_writes : Names → ℕ → List Write
head_writes names magic = file_writes names.answer (answer_header magic) ++ Begin names.verdicts ∷ []

-- Then comes packet by packet,
abbrev pub streamed_writes : Names → ℕ → List Packet → List Answer → List Write
streamed_writes names magic packets answers = head_writes names magic ++ packet_writes names packets answers (length answers)

-- and the final maps come last.
abbrev pub result_writes : Names → ℕ → List Packet → List Answer → Option (List ℕ) → List Write
result_writes names magic packets answers finals = streamed_writes names magic packets answers ++ final_writes names finals
