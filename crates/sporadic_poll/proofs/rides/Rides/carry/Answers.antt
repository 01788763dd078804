use Rattle.std.proofs.Common.{◌≡◌, ◌++◌, [], ◌∷◌, ◌+◌, ◌*◌, ◌<◌, length, Contains, All, None, IfSome, true, is_some, sym, subst, ap, ◌∙◌, arith}
use Rattle.std.specs.List.{slice_get}
use Rattle.std.proofs.lemmas.List.{take-append-drop, take_all}
use Rattle.std.proofs.lemmas.List.Elements.{Contains-append_right}
use Rattle.bit_sets.specs.Sets.{most_slots}
use Rattle.sporadic_poll.specs.declared.stream.Stream.{Stream}
use Rattle.sporadic_poll.proofs.Carried.{polled_known}
use Rattle.sporadic_poll.proofs.Fates.{fates_more, of_ride}
use Rattle.can_frame.specs.declared.data_frame.TimedFrame.{TimedFrame}
use Rattle.requirement_table.specs.Opening.{Opening}
use Rattle.sporadic_poll.specs.Rides.{AreFates, noted_all, polled_frame, sent_anew, slot_sent}
use Rattle.sporadic_poll.specs.Waiting.{Queued}
use Rattle.sporadic_poll.proofs.Carry.{drop-first, flagged_frame, frames_follow, window_frame}
use Rattle.sporadic_poll.proofs.rides.Rides.carry.Goals as goal

pub returns-clause-taken : goal.returns-clause-taken
returns-clause-taken c = λ mask lengths carried rides ridden.
    let time : c.args.cycle * c.from-length.result ≡ c.args.cycle * c.args.layout.now.cycle = ap (λ e. c.args.cycle * e) (c.from-length.ensures ∙ c.cycle.ensures.value) in
    let taken = c.take_released.ensures.taken c.args.layout.now.cycle mask lengths carried time rides ridden in
    (c.note_sent.ensures.noted.noted_so_far carried taken.0).0

pub returns-clause-fates : goal.returns-clause-fates
returns-clause-fates c = λ openings mask lengths carried rides ridden plain fates.
    let opening : Opening = record { cycle = c.args.cycle; mask = mask; placed = c.args.placed.now } in
    let streams = c.args.self.now.queued.streams in
    let layout = c.args.layout.now in
    let long : c.from-length.result ≡ layout.cycle = c.from-length.ensures ∙ c.cycle.ensures.value in
    let time : c.args.cycle * c.from-length.result ≡ c.args.cycle * layout.cycle = ap (λ e. c.args.cycle * e) long in
    let taken = c.take_released.ensures.taken layout.cycle mask lengths carried time rides ridden in
    let noted = c.note_sent.ensures.noted.noted_so_far carried taken.0 in
    let front = c.split_at.result.0.now in
    let window = c.split_at.result.1.now in
    let frames = c.args.frames.now in
    let split : frames ≡ front ++ window = rw (c.split_at.ensures.front, c.split_at.ensures.back) (sym (take-append-drop c.front_len.result frames)) in
    let none : All (λ (sent : TimedFrame). slot_sent sent.frame ≡ None) front = rw c.split_at.ensures.front c.front_len.ensures.front in
    let runs = c.plain_cycle.ensures.runs layout opening frames c.cycle.ensures.known plain in
    let same : c.take_released.new.self.queued.streams ≡ streams = c.take_released.ensures.streams in
    let each : length c.take_released.new.self.fates ≡ length streams = c.fates.ensures.each ∙ ap length same in
    let known : All (λ (stream : Stream). stream.slot < most_slots) streams = rw (c.streams.ensures.list, same) at c.streams.ensures.known in
    let all : c.note_sent.new.self.fates ≡ noted_all streams carried c.args.placed.now c.args.cycle c.take_released.new.self.fates window = rw (same, take_all (length window) window (omega arith)) at noted.1 in
    subst (AreFates streams (openings ++ opening ∷ []) carried) (sym all)
    (fates_more streams openings opening carried c.args.self.now.fates c.take_released.new.self.fates window taken.1 each
    (λ slot release place few took. of_ride layout.cycle streams slot (lengths slot) (carried slot) (rides.each slot few) release place took)
    (λ sent slot among is. flagged_frame layout opening c.cycle.ensures.known plain.fits frames plain.past (opening.cycle * layout.cycle) plain.follows sent slot
    (subst (λ l. Contains l sent) (sym split) (Contains-append_right front window sent among)) is)
    (λ slot polled flagged. window_frame layout opening frames front window runs split none slot (polled_known streams slot most_slots polled known) flagged)
    fates)

pub returns-clause-frames : goal.returns-clause-frames
returns-clause-frames c = λ mask lengths carried past rides ridden plain before.
    let opening : Opening = record { cycle = c.args.cycle; mask = mask; placed = c.args.placed.now } in
    let long : c.from-length.result ≡ c.args.layout.now.cycle = c.from-length.ensures ∙ c.cycle.ensures.value in
    let time : c.args.cycle * c.from-length.result ≡ c.args.cycle * c.args.layout.now.cycle = ap (λ e. c.args.cycle * e) long in
    let taken = c.take_released.ensures.taken c.args.layout.now.cycle mask lengths carried time rides ridden in
    let noted = c.note_sent.ensures.noted.noted_so_far carried taken.0 in
    let streams : c.note_sent.new.self.queued.streams ≡ c.args.self.now.queued.streams =
    ap (λ (q : Queued). q.streams) c.note_sent.ensures.noted.queued ∙ c.take_released.ensures.streams in
    let front = c.split_at.result.0.now in
    let window = c.split_at.result.1.now in
    let put : c.put.new.out.items ≡ front
    ++ sent_anew (polled_frame c.args.self.now.queued.streams carried c.args.placed.now c.args.cycle) ((c.args.cycle + 1) * c.args.layout.now.cycle) window =
    rw (streams, long) at (c.put.ensures.put carried noted.0) in
    let split : c.args.frames.now ≡ front ++ window = rw (c.split_at.ensures.front, c.split_at.ensures.back) (sym (take-append-drop c.front_len.result c.args.frames.now)) in
    let none : All (λ (sent : TimedFrame). slot_sent sent.frame ≡ None) front = rw c.split_at.ensures.front c.front_len.ensures.front in
    let at : slice_get window 0 ≡ slice_get c.args.frames.now c.front_len.result =
    ap (λ l. slice_get l 0) c.split_at.ensures.back ∙ drop-first c.args.frames.now c.front_len.result in
    let first : IfSome (slice_get window 0) (λ (sent : TimedFrame). is_some (slot_sent sent.frame) ≡ true) = rw at c.front_len.ensures.window in
    frames_follow c.args.self.now.queued.streams carried opening c.requires.well_placed c.args.layout.now c.args.frames.now front window c.put.new.out.items past c.cycle.ensures.known plain
    (c.plain_cycle.ensures.runs c.args.layout.now opening c.args.frames.now c.cycle.ensures.known plain) split none first before put
