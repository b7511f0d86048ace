-- Demand 3, whole: a fresh link, any list of calls on it, document 01's premises, and what is claimed of the list ("Premises of demand 3"), with what document 02 adds.
-- Every step is made of the definitions that the calls' contracts cite, on the lent lists themselves; beside them stands only the history.
-- The theorem is `demand3` of proofs/Demand3.antt.
use Rattle.std.specs.Prelude.{ℕ, zero, suc, ◌+◌, ◌*◌, ◌^◌, ◌≤◌, ◌<◌, ◌≡◌, ◌⊎◌, Bool, true, false, cond, length, take, leb, eqb}
use Rattle.std.proofs.Math.Option.{Option, none, some}
use mathlib.Core.List.{List, [], ◌∷◌, ◌++◌, map, flatten}
use Rattle.std.proofs.Math.Seq.{paste}
use Rattle.refusal.specs.Said.{Said, answers, refuses, refuses_at, refusal_in}
use Rattle.lists.specs.Numbers.{largest}
use Rattle.header.specs.Types.{type_number}
use Rattle.packet.specs.Packet.{Packet, joined}
use Rattle.packet.specs.Datagram.{parses, parses_into, cells_in, cells_written, listed}
use Rattle.outstanding.specs.Outstanding.{Store, store_of, roomy, listing, answering}
use Rattle.outstanding.specs.Outstanding as outstanding
use Rattle.writer.specs.Packing.{Queue, packets_made, dequeued, payload_size}
use Rattle.writer.specs.Sending.{limit_for, Sending, consumes_data}
use Rattle.writer.specs.Reserve.{reserving}
use Rattle.writer.specs.declared.DataPacked.{DataPacked}
use Rattle.ordered_bytes.specs.Buffer.{Buffer}
use Rattle.ordered_bytes.specs.Calls.{Acceptance, creating, accepting, peeking, consuming, consuming_bytes}
use Rattle.ordered_bytes.specs.declared.OrderedBytes.{OrderedBytes}
use Rattle.window.specs.Window.{Outcome, window, member, insert_packet_number, insert_range, consume, before_held, numbers}
use Rattle.window.specs.declared.SlidingWindow.{SlidingWindow}
use Rattle.rtt.specs.Rtt as rtt
use Rattle.rtt.specs.declared.RttEstimator.{RttEstimator}

-- ---- the link: what the calls hold, and below it the history

pub record SenderSide : Type 0 where
  pub queue : Queue
  pub next : ℕ
  -- the store of document 02, §3: what is kept to be sent again
  pub kept : Store
  -- all bytes queued so far, the data packets made so far, and whether a FIN's number was reserved
  pub queued : List ℕ
  pub made : List Packet
  pub closing : Bool

abbrev pub with_queue : Queue → SenderSide → SenderSide
with_queue q d = record d { queue = q }

abbrev pub with_next : ℕ → SenderSide → SenderSide
with_next n d = record d { next = n }

abbrev pub with_kept : Store → SenderSide → SenderSide
with_kept k d = record d { kept = k }

abbrev pub with_queued : List ℕ → SenderSide → SenderSide
with_queued bytes d = record d { queued = bytes }

abbrev pub with_made : List Packet → SenderSide → SenderSide
with_made packets d = record d { made = packets }

abbrev pub with_closing : Bool → SenderSide → SenderSide
with_closing c d = record d { closing = c }

-- base and count of a read that took packets, or of a packet that accepting refused with 5
pub record Ack : Type 0 where
  pub base : ℕ
  pub count : ℕ

pub record ReceiverSide : Type 0 where
  pub buffer : Buffer
  -- the numbers accepted without refusal, the bytes that the reads gave, the acks, oldest first, and the packets that the reads' answers count
  pub accepted : List ℕ
  pub delivered : List ℕ
  pub acks : List Ack
  pub counted : ℕ

abbrev pub with_buffer : Buffer → ReceiverSide → ReceiverSide
with_buffer b d = record d { buffer = b }

abbrev pub with_accepted : List ℕ → ReceiverSide → ReceiverSide
with_accepted numbers d = record d { accepted = numbers }

abbrev pub with_delivered : List ℕ → ReceiverSide → ReceiverSide
with_delivered bytes d = record d { delivered = bytes }

abbrev pub with_acks : List Ack → ReceiverSide → ReceiverSide
with_acks given d = record d { acks = given }

abbrev pub with_counted : ℕ → ReceiverSide → ReceiverSide
with_counted k d = record d { counted = k }

pub record WindowSide : Type 0 where
  pub state : SlidingWindow
  pub cells : List ℕ
  -- the numbers entered, and "Expected by the window: s, then one above its last answered number"
  pub entered : List ℕ
  pub expects : ℕ

-- the window and its cells change together
abbrev pub with_cells : SlidingWindow → List ℕ → WindowSide → WindowSide
with_cells w cells d = record d { state = w; cells = cells }

abbrev pub with_entered : List ℕ → WindowSide → WindowSide
with_entered numbers d = record d { entered = numbers }

abbrev pub with_expects : ℕ → WindowSide → WindowSide
with_expects n d = record d { expects = n }

pub record Link : Type 0 where
  pub sender : SenderSide
  pub receiver : ReceiverSide
  pub acked : WindowSide
  -- what the trips measured so far come to (document 02, §2)
  pub trips : RttEstimator

abbrev pub with_sender : SenderSide → Link → Link
with_sender d l = record l { sender = d }

abbrev pub with_receiver : ReceiverSide → Link → Link
with_receiver d l = record l { receiver = d }

abbrev pub with_window : WindowSide → Link → Link
with_window d l = record l { acked = d }

abbrev pub with_trips : RttEstimator → Link → Link
with_trips t l = record l { trips = t }

-- the lent memory of a fresh link: the receive buffer's three lists, the window's cells, and the three lists of the packets kept
pub record Memory : Type 0 where
  pub marks : List Bool
  pub lengths : List ℕ
  pub store : List ℕ
  pub cells : List ℕ
  pub numbers : List ℕ
  pub payload_lengths : List ℕ
  pub packets : List ℕ

abbrev pub empty_store : Memory → Store
empty_store m = store_of outstanding.fresh m.numbers m.payload_lengths m.packets

-- "Fresh: one sender, queue empty, nothing in receiver and window, all from one number s": `o` is what `new` answers for slots of width w in the lent memory;
-- "Fresh has an empty store" (document 02, §3)
abbrev pub fresh : ℕ → ℕ → OrderedBytes → Memory → Link
fresh s w o m =
    let made = creating w s m.marks m.lengths m.store in
    record {
      sender = record { queue = record { bytes = []; lengths = [] }; next = s; kept = empty_store m; queued = []; made = []; closing = false };
      receiver = record {
        buffer = record { state = o; marks = made.marks; lengths = made.lengths; store = m.store };
        accepted = [];
        delivered = [];
        acks = [];
        counted = 0;
      };
      acked = record { state = window s 0; cells = m.cells; entered = []; expects = s };
      trips = rtt.fresh;
    }

-- ---- the calls by side, each with its arguments and the lent lists that it is given

pub data SenderCall : Type 0 where
  -- the entries given
  enqueue : List (List ℕ) → SenderCall
  -- source and destination id, output
  pack : ℕ → ℕ → List ℕ → SenderCall
  reserve : SenderCall
  -- output
  list_outstanding : List ℕ → SenderCall

pub data Parser : Type 0 where
  from_bytes : Parser
  from_bytes_into : Parser

pub data ReceiverCall : Type 0 where
  -- "An arrival is `from_bytes` or `from_bytes_into`, on any bytes .., then accepting any of those, in any order": datagram, index, the packets accepted
  arrive : Parser → List ℕ → List ℕ → List Packet → ReceiverCall
  -- length, output
  read : ℕ → List ℕ → ReceiverCall
  -- limit, output, list of lengths
  read_pieces : ℕ → List ℕ → List ℕ → ReceiverCall
  peek : ReceiverCall

pub data WindowCall : Type 0 where
  insert : ℕ → WindowCall
  insert_run : ℕ → ℕ → WindowCall
  consume_window : WindowCall

pub data TripsCall : Type 0 where
  -- microseconds
  sample : ℕ → TripsCall
  wait_time : TripsCall

pub data Call : Type 0 where
  on_sender : SenderCall → Call
  on_receiver : ReceiverCall → Call
  on_window : WindowCall → Call
  on_trips : TripsCall → Call

-- what a call on a side comes to: what it, or each of the calls that it is made of, was refused with, in order (0 for one that was not), and the side that it leaves
pub record Called (Side : Type 0) : Type 0 where
  pub refusals : List ℕ
  pub left : Side

-- ---- the sender's calls

-- "Queueing is the caller's own step and adds the entries given at the queue's end"
abbrev pub enqueued : List (List ℕ) → SenderSide → SenderSide
enqueued entries d =
    let q : Queue = record { bytes = d.queue.bytes ++ flatten entries; lengths = d.queue.lengths ++ map length entries } in
    with_queue q (with_queued (d.queued ++ flatten entries) d)

-- how many bytes a packing may take, as the packets made and what is said of them count it
abbrev pub limit_of : SenderSide → ℕ
limit_of d = limit_for d.kept

-- what a packing says, its output and the store as it leaves them: by the call's own definition
abbrev pub packing_of : SenderSide → ℕ → ℕ → List ℕ → Sending
packing_of d src dst out = consumes_data d.kept d.queue d.next src dst out

-- "demand 3 hands it on like the queue": k is the store that the packing left
abbrev pub packed_by : Said DataPacked → Store → ℕ → ℕ → SenderSide → SenderSide
packed_by (answers p) k src dst d =
    with_kept k
    (with_queue (dequeued p d.queue) (with_next p.next_packet_num (with_made (d.made ++ packets_made (limit_of d) src dst d.next d.queue.bytes) d)))
packed_by (refuses r) k src dst d = with_kept k d
packed_by (refuses_at r at) k src dst d = with_kept k d

abbrev pub reserved_by : Said (ℕ × ℕ) → SenderSide → SenderSide
reserved_by (answers n) d = with_next n.1 (with_closing true d)
reserved_by (refuses r) d = d
reserved_by (refuses_at r at) d = d

abbrev pub call_sender : SenderSide → SenderCall → Called SenderSide
call_sender d (enqueue entries) = record { refusals = []; left = enqueued entries d }
call_sender d (pack src dst out) =
    let o = packing_of d src dst out in record { refusals = refusal_in o.said ∷ []; left = packed_by o.said o.store src dst d }
call_sender d reserve = let said = reserving d.next in record { refusals = refusal_in said ∷ []; left = reserved_by said d }
call_sender d (list_outstanding out) = record { refusals = refusal_in (listing d.kept out).0 ∷ []; left = d }

-- ---- the receiver's calls

abbrev pub accepted_by : Said Unit → Buffer → ℕ → ReceiverSide → ReceiverSide
accepted_by (answers u) b n d = with_buffer b (with_accepted (n ∷ d.accepted) d)
accepted_by (refuses r) b n d = with_buffer b d
accepted_by (refuses_at r at) b n d = with_buffer b d

abbrev pub accept : Packet → ReceiverSide → Acceptance
accept p d = accepting d.buffer p.header.packet_number p.payload

-- "Acks come from earlier reads that took packets"
abbrev pub ack_of : ℕ → ℕ → List Ack
ack_of base zero = []
ack_of base (suc n) = record { base = base; count = suc n } ∷ []

-- "Accepting's refusal 5 also gives an ack of that number, count 1; document 01's premise on acks admits these too" (document 02, §3)
abbrev pub ack_at5 : Option (ℕ × ℕ × ℕ) → List Ack
ack_at5 none = []
ack_at5 (some v) = ack_of v.1 v.0

abbrev pub accepted_one : Packet → ReceiverSide → ReceiverSide
accepted_one p d =
    let a = accept p d in
    with_acks (d.acks ++ ack_at5 a.ack) (accepted_by a.said a.buffer p.header.packet_number d)

unfoldable pub accepted_all : List Packet → ReceiverSide → ReceiverSide
accepted_all [] d = d
accepted_all (p ∷ ps) d = accepted_all ps (accepted_one p d)

unfoldable pub accept_refusals : List Packet → ReceiverSide → List ℕ
accept_refusals [] d = []
accept_refusals (p ∷ ps) d = refusal_in (accept p d).said ∷ accept_refusals ps (accepted_one p d)

-- what a parser answers, and the index that it leaves
abbrev pub parsing : Parser → List ℕ → List ℕ → Said ℕ × List ℕ
parsing from_bytes datagram index = parses datagram index
parsing from_bytes_into datagram index = parses_into datagram index

-- packets taken, base and bytes: what a read gave stands at the output's start
abbrev pub gave : ℕ × ℕ × ℕ → Buffer → List ℕ → ReceiverSide → ReceiverSide
gave v b out d =
    with_buffer b (with_delivered (d.delivered ++ take v.2 out) (with_acks (d.acks ++ ack_of v.1 v.0) (with_counted (d.counted + v.0) d)))

abbrev pub read_by : Said (ℕ × ℕ × ℕ) → Buffer → List ℕ → ReceiverSide → ReceiverSide
read_by (answers v) b out d = gave v b out d
read_by (refuses r) b out d = with_buffer b d
read_by (refuses_at r at) b out d = with_buffer b d

abbrev pub read_pieces_by : Said ((ℕ × ℕ × ℕ) × ℕ) → Buffer → List ℕ → ReceiverSide → ReceiverSide
read_pieces_by (answers v) b out d = gave v.0 b out d
read_pieces_by (refuses r) b out d = with_buffer b d
read_pieces_by (refuses_at r at) b out d = with_buffer b d

abbrev pub call_receiver : ReceiverSide → ReceiverCall → Called ReceiverSide
call_receiver d (arrive parser datagram index packets) = record {
  refusals = refusal_in (parsing parser datagram index).0 ∷ accept_refusals packets d;
  left = accepted_all packets d;
}
call_receiver d (read len out) =
    let c = consuming d.buffer len out in record { refusals = refusal_in c.said ∷ []; left = read_by c.said c.buffer c.out d }
call_receiver d (read_pieces limit out list) =
    let c = consuming_bytes d.buffer limit out list in record { refusals = refusal_in c.said ∷ []; left = read_pieces_by c.said c.buffer c.out d }
call_receiver d peek = record { refusals = refusal_in (peeking d.buffer) ∷ []; left = d }

-- ---- the window's calls

-- "Entered: given to an unrefused `insert` or `insert_range`, or, at the latter's 7, in the range and below its first number that had entered before"
abbrev pub entering : Said Unit → ℕ → List ℕ → List ℕ
entering (answers u) n entered = n ∷ entered
entering (refuses r) n entered = entered
entering (refuses_at r at) n entered = entered

abbrev pub entering_range : Said Unit → ℕ → ℕ → List ℕ → List ℕ
entering_range (answers u) base count entered = numbers base count ++ entered
entering_range (refuses r) base count entered = cond (eqb r 7) (numbers base (before_held base count entered) ++ entered) entered
entering_range (refuses_at r at) base count entered = entered

abbrev pub expects_after : Said (Option (ℕ × ℕ)) → ℕ → ℕ
expects_after (answers (some run)) e = run.0 + 1
expects_after (answers none) e = e
expects_after (refuses r) e = e
expects_after (refuses_at r at) e = e

-- what a call that came to o leaves: what has entered, or which number is expected, is told by its answer
abbrev pub inserted_by : Outcome Unit → ℕ → WindowSide → WindowSide
inserted_by o n d = with_cells o.1 o.2 (with_entered (entering o.0 n d.entered) d)

abbrev pub range_inserted_by : Outcome Unit → ℕ → ℕ → WindowSide → WindowSide
range_inserted_by o base count d = with_cells o.1 o.2 (with_entered (entering_range o.0 base count d.entered) d)

abbrev pub consumed_by : Outcome (Option (ℕ × ℕ)) → WindowSide → WindowSide
consumed_by o d = with_cells o.1 o.2 (with_expects (expects_after o.0 d.expects) d)

abbrev pub call_window : WindowSide → WindowCall → Called WindowSide
call_window d (insert n) = let o = insert_packet_number d.state d.cells n in record { refusals = refusal_in o.0 ∷ []; left = inserted_by o n d }
call_window d (insert_run base count) =
    let o = insert_range d.state d.cells base count in record { refusals = refusal_in o.0 ∷ []; left = range_inserted_by o base count d }
call_window d consume_window = let o = consume d.state d.cells in record { refusals = refusal_in o.0 ∷ []; left = consumed_by o d }

-- "Keep each packed packet until the window's `consume` answers it or a later number" (document 02, §3): what the sender drops at an answer
abbrev pub answered_by : Said (Option (ℕ × ℕ)) → SenderSide → Called SenderSide
answered_by (answers (some run)) d = let o = answering d.kept run.0 in record { refusals = refusal_in o.0 ∷ []; left = with_kept o.1 d }
answered_by (answers none) d = record { refusals = []; left = d }
answered_by (refuses r) d = record { refusals = []; left = d }
answered_by (refuses_at r at) d = record { refusals = []; left = d }

-- of the window's calls only a consume has such an answer
abbrev pub hears_of : WindowSide → WindowCall → SenderSide → Called SenderSide
hears_of w (insert n) d = record { refusals = []; left = d }
hears_of w (insert_run base count) d = record { refusals = []; left = d }
hears_of w consume_window d = answered_by (consume w.state w.cells).0 d

-- ---- the estimator's calls

abbrev pub call_trips : RttEstimator → TripsCall → Called RttEstimator
call_trips t (sample r) = let o = rtt.sampling t r in record { refusals = refusal_in o.0 ∷ []; left = o.1 }
call_trips t wait_time = record { refusals = refusal_in (rtt.waiting t) ∷ []; left = t }

-- ---- a call on the link, and a list of them

abbrev pub refusals : Link → Call → List ℕ
refusals l (on_sender c) = (call_sender l.sender c).refusals
refusals l (on_receiver c) = (call_receiver l.receiver c).refusals
refusals l (on_window c) = (call_window l.acked c).refusals ++ (hears_of l.acked c l.sender).refusals
refusals l (on_trips c) = (call_trips l.trips c).refusals

abbrev pub step : Link → Call → Link
step l (on_sender c) = with_sender (call_sender l.sender c).left l
step l (on_receiver c) = with_receiver (call_receiver l.receiver c).left l
step l (on_window c) = with_sender (hears_of l.acked c l.sender).left (with_window (call_window l.acked c).left l)
step l (on_trips c) = with_trips (call_trips l.trips c).left l

unfoldable pub run : Link → List Call → Link
run l [] = l
run l (c ∷ cs) = run (step l c) cs

-- ---- the premises, a condition on each step

-- x stands in the list
unfoldable pub In : {A : Type 0} → A → List A → Type 0
In x [] = ⊥
In x (y ∷ ys) = (x ≡ y) ⊎ In x ys

unfoldable pub All : {A : Type 0} → (A → Type 0) → List A → Type 0
All P [] = Unit
All P (x ∷ xs) = P x × All P xs

-- the data packets (type 3) that an arrival indexed: all that it listed where it was not refused, and, of `from_bytes_into`, those before the refusal
unfoldable pub data_of : List Packet → List Packet
data_of [] = []
data_of (p ∷ ps) = cond (eqb (type_number p.header.type_field) 3) (p ∷ data_of ps) (data_of ps)

abbrev pub listed_by : Said ℕ → List ℕ → List ℕ → List Packet
listed_by (answers n) datagram index = listed datagram index n
listed_by (refuses r) datagram index = []
listed_by (refuses_at r at) datagram index = []

-- .. by a receiver whose front number is `expected`, which neither parser looks at
abbrev pub indexed : ℕ → Parser → List ℕ → List ℕ → List Packet
indexed expected from_bytes datagram index = data_of (listed_by (parses datagram index).0 datagram (parses datagram index).1)
indexed expected from_bytes_into datagram index = data_of (listed datagram (parses_into datagram index).1 (cells_written datagram index))

abbrev pub indexed_on : Link → Parser → List ℕ → List ℕ → List Packet
indexed_on l = indexed l.receiver.buffer.state.front_number

-- a packet's number and payload: what "same number, same payload" speaks of
abbrev pub key : Packet → ℕ × List ℕ
key p = (p.header.packet_number, p.payload)

-- "made earlier in the list (same number, same payload)"
pub record MadeEarlier (l : Link) (p : Packet) : Type 0 where
  pub original : Packet
  pub made : In original l.sender.made
  pub number : p.header.packet_number ≡ original.header.packet_number
  pub payload : p.payload ≡ original.payload

-- "or one number of that range for `insert`"
pub record Acked (l : Link) (n : ℕ) : Type 0 where
  pub ack : Ack
  pub given : In ack l.receiver.acks
  pub from : ack.base ≤ n
  pub below : n < ack.base + ack.count

abbrev pub FairSender : Link → SenderCall → Type 0
FairSender l (enqueue entries) = Unit
-- "no data packed after a FIN's number was reserved"
FairSender l (pack src dst out) = l.sender.closing ≡ true → (call_sender l.sender (pack src dst out)).left.made ≡ l.sender.made
FairSender l reserve = Unit
FairSender l (list_outstanding out) = Unit

abbrev pub FairReceiver : Link → ReceiverCall → Type 0
FairReceiver l (arrive parser datagram index packets) = All (MadeEarlier l) (indexed_on l parser datagram index) × All (λ p. In p (indexed_on l parser datagram index)) packets
FairReceiver l (read len out) = Unit
FairReceiver l (read_pieces limit out list) = Unit
FairReceiver l peek = Unit

abbrev pub FairWindow : Link → WindowCall → Type 0
FairWindow l (insert n) = Acked l n
FairWindow l (insert_run base count) = In (record { base = base; count = count }) l.receiver.acks
FairWindow l consume_window = Unit

abbrev pub FairTrips : Link → TripsCall → Type 0
FairTrips l (sample r) = Unit
FairTrips l wait_time = Unit

abbrev pub Fair : Link → Call → Type 0
Fair l (on_sender c) = FairSender l c
Fair l (on_receiver c) = FairReceiver l c
Fair l (on_window c) = FairWindow l c
Fair l (on_trips c) = FairTrips l c

unfoldable pub Fairly : Link → List Call → Type 0
Fairly l [] = Unit
Fairly l (c ∷ cs) = Fair l c × Fairly (step l c) cs

-- a fresh link on any lent memory that `new` takes and that has room for 64 packets, "W at least 1,500", and a list of calls that keeps the premises
pub record Premises (s w : ℕ) (o : OrderedBytes) (m : Memory) (calls : List Call) : Type 0 where
  pub start : s ≤ largest
  pub new : (creating w s m.marks m.lengths m.store).said ≡ answers o
  pub wide : payload_size ≤ w
  pub room : roomy m.numbers m.payload_lengths m.packets ≡ true
  pub fair : Fairly (fresh s w o m) calls

-- ---- the conclusions

pub record Start (a b : List ℕ) : Type 0 where
  pub rest : List ℕ
  pub whole : a ++ rest ≡ b

-- the packet with a number is one that was made, and its payload is this
pub record Made (l : Link) (n : ℕ) (payload : List ℕ) : Type 0 where
  pub packet : Packet
  pub made : In packet l.sender.made
  pub number : packet.header.packet_number ≡ n
  pub carries : packet.payload ≡ payload

-- the payloads of packets n, n + 1 and so on, "none missing, each accepted without refusal"
unfoldable pub Accepted : Link → ℕ → List (List ℕ) → Type 0
Accepted l n [] = Unit
Accepted l n (p ∷ ps) = Made l n p × (member n l.receiver.accepted ≡ true) × Accepted l (suc n) ps

-- "Covered: a start of the payloads of packets s, s + 1 and so on, end to end, none missing, each accepted without refusal."
pub record Covered (s : ℕ) (l : Link) (bytes : List ℕ) : Type 0 where
  pub payloads : List (List ℕ)
  pub accepted : Accepted l s payloads
  pub start : Start bytes (flatten payloads)

-- a read with length or limit at least 1
pub data Reads : Call → Type 0 where
  reads : (len : ℕ) (out : List ℕ) → 0 < len → Reads (on_receiver (read len out))
  reads_in_pieces : (limit : ℕ) (out list : List ℕ) → 0 < limit → Reads (on_receiver (read_pieces limit out list))

-- "To empty" means until 8 with length or limit at least 1: the list ends by such a read
pub record ToEmpty (l : Link) (calls : List Call) : Type 0 where
  pub before : List Call
  pub last : Call
  pub list : calls ≡ before ++ (last ∷ [])
  pub reads : Reads last
  pub empty : In 8 (refusals (run l before) last)

-- a call of the list, made on the link that the calls before it left
pub record Made_in (l : Link) (calls : List Call) (on : Link) (call : Call) : Type 0 where
  pub before : List Call
  pub after : List Call
  pub list : calls ≡ before ++ (call ∷ after)
  pub reached : run l before ≡ on

-- a parser reads a datagram back as these packets, in an index with a cell for each
pub record ReadsBack (parser : Parser) (datagram : List ℕ) (packets : List Packet) (index : List ℕ) : Type 0 where
  pub counts : (parsing parser datagram index).0 ≡ answers (length packets)
  pub lists : listed datagram (parsing parser datagram index).1 (length packets) ≡ packets
  pub indexes : (expected : ℕ) → indexed expected parser datagram index ≡ packets

-- what an unrefused packing did: the packets that it adds to `made` stand end to end at the start of its output,
-- and, where there are any, both parsers read these bytes back as them (ids have 32 bits, as every call's)
pub record Wrote (d : SenderSide) (src dst : ℕ) (out : List ℕ) (p : DataPacked) : Type 0 where
  pub packets : List Packet
  pub counted : length packets ≡ p.packets
  pub added : (call_sender d (pack src dst out)).left.made ≡ d.made ++ packets
  pub written : take (p.bytes + 20 * p.packets) (packing_of d src dst out).out ≡ joined packets
  pub read_back : src < 2 ^ 32 → dst < 2 ^ 32 → 0 < p.packets
      → (parser : Parser) (index : List ℕ) → p.packets ≤ cells_in index → ReadsBack parser (joined packets) packets index

-- the window expects the first number from s on that has not entered
pub record ExpectsFirst (s : ℕ) (d : WindowSide) : Type 0 where
  pub from : s ≤ d.expects
  pub below : (n : ℕ) → s ≤ n → n < d.expects → member n d.entered ≡ true
  pub absent : member d.expects d.entered ≡ false

-- some read of the list is refused with 8 or 10
pub record Stops (l : Link) (calls : List Call) : Type 0 where
  pub on : Link
  pub call : Call
  pub made : Made_in l calls on call
  pub stopped : In 8 (refusals on call) ⊎ In 10 (refusals on call)

-- what is delivered by the list
pub record Delivers (s : ℕ) (first : Link) (calls : List Call) : Type 0 where
  -- the longest covered prefix: covered, longest, and a start of all bytes queued
  pub longest : List ℕ
  pub covered : Covered s (run first calls) longest
  pub most : (bytes : List ℕ) → Covered s (run first calls) bytes → Start bytes longest
  pub sent : Start longest (run first calls).sender.queued
  -- "delivered bytes are a start of the longest covered prefix, equal to it when read to empty"
  pub delivers : Start (run first calls).receiver.delivered longest
  pub to_empty : ToEmpty first calls → (run first calls).receiver.delivered ≡ longest
  -- "which such reads reach unless refused with 10": enough further reads of length or limit at least 1 meet 8 or 10
  pub enough : ℕ
  pub reaches : (further : List Call) → All Reads further → enough < length further → Stops (run first calls) further

-- what is taken and acknowledged
pub record Acknowledges (s : ℕ) (first : Link) (calls : List Call) : Type 0 where
  -- "Taken: from s, as many numbers as the packets that the reads' answers count, each having left its slot": the front is the first not taken
  pub taken : (run first calls).receiver.buffer.state.front_number ≡ s + (run first calls).receiver.counted
  pub was_accepted : (n : ℕ) → s ≤ n → n < s + (run first calls).receiver.counted → member n (run first calls).receiver.accepted ≡ true
  -- "the window never passes what was taken"
  pub not_past : (run first calls).acked.expects ≤ s + (run first calls).receiver.counted
  -- where the list ends by consuming the window, it expects the first number that has not entered
  pub at_consume : (before : List Call) → calls ≡ before ++ (on_window consume_window ∷ []) → ExpectsFirst s (run first calls).acked

-- the packets with number n and later ones
unfoldable pub numbered_on : ℕ → List Packet → List Packet
numbered_on n [] = []
numbered_on n (p ∷ ps) = cond (leb n p.header.packet_number) (p ∷ numbered_on n ps) (numbered_on n ps)

-- "those outstanding": made, and answered neither itself nor by a later number
abbrev pub outstanding_on : Link → List Packet
outstanding_on l = numbered_on l.acked.expects l.sender.made

-- what is kept to be sent again: at most 64 packets, and a listing gives exactly those outstanding, "whole and end to end, answering their count (10 if the buffer is short)"
pub record Resends (l : Link) : Type 0 where
  pub few : length (outstanding_on l) ≤ 64
  pub lists : (out : List ℕ) → length (joined (outstanding_on l)) ≤ length out
      → listing l.sender.kept out ≡ (answers (length (outstanding_on l)), paste out 0 (joined (outstanding_on l)) (length (joined (outstanding_on l))))
  pub short : (out : List ℕ) → length out < length (joined (outstanding_on l)) → listing l.sender.kept out ≡ (refuses 10, out)

pub record Demand3 (s : ℕ) (first : Link) (calls : List Call) : Type 0 where
  pub delivery : Delivers s first calls
  pub acknowledgement : Acknowledges s first calls
  pub resending : Resends (run first calls)
  -- what was made is what was written: so of every packing of the list that is not refused
  pub wrote : (on : Link) (src dst : ℕ) (out : List ℕ) (p : DataPacked) → Made_in first calls on (on_sender (pack src dst out))
      → (packing_of on.sender src dst out).said ≡ answers p → Wrote on.sender src dst out p
  -- no call of the list answers 12
  pub well_formed : (on : Link) (call : Call) → Made_in first calls on call → In 12 (refusals on call) → ⊥
