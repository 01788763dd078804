-- A request that was sent has its frame in the trace.
use Rattle.std.proofs.Common.{◌≡◌, ℕ, ◌+◌, ◌<◌, ◌≤◌, ◌==◌, true, false, if◌then◌else◌, List, [], ◌∷◌, ◌++◌, All, Contains, length, map, nat_lt, Option, Some, IfSome, option_map, option_and_then, refl, sym, ap, subst, ◌∙◌, arith}
use Rattle.std.specs.List.{slice_get}
use Rattle.std.proofs.lemmas.Bool.{lt-ltb, ne_eqb}
use Rattle.std.proofs.lemmas.List.{get_or_default}
use Rattle.std.proofs.lemmas.List.Elements.{All-contains, All-head, All-tail}
use Rattle.std.proofs.lemmas.Option.{get_or_from_slice_get, none-some, same_Some, slice_get_within}
use Rattle.profile.specs.Limits.{first_identifier}
use Rattle.can_frame.specs.DataFrame.{DataFrame}
use Rattle.can_frame.specs.declared.data_frame.TimedFrame.{TimedFrame}
use Rattle.trigger_kind.specs.Kind.{greatest_trigger}
use Rattle.cycle_layout.specs.Layout.{CycleLayout}
use Rattle.requirement_table.specs.Instance.{Instance, MaySend, release_of}
use Rattle.requirement_table.specs.Opening.{Opening}
use Rattle.bit_sets.specs.Sets.{most_slots}
use Rattle.requirement_table.specs.Table.{instance_in}
use Rattle.requirement_table.specs.declared.entries.Placed.{Placed}
use Rattle.requirement_table.proofs.Shared.{instance_in-sound}
use Rattle.cycle_engine.specs.Cycle.{RunsCycle, RunsCycles, frames_in, of_slot}
use Rattle.sporadic_poll.specs.declared.stream.Stream.{Stream}
use Rattle.sporadic_poll.specs.Polled.{AreRides, is_polled, lengths_of, polled_bytes}
use Rattle.sporadic_poll.specs.Ride.{bytes_with}
use Rattle.sporadic_poll.specs.Rides.{IsRidden, release_in}
use Rattle.sporadic_poll.specs.RideFrames.{HasRideFrame, KeepLengths}
use Rattle.sporadic_poll.proofs.Fates.{polled_by}
use Rattle.sporadic_poll.proofs.Retimed.{low}

-- a trigger frame is one of no slot
none-of_slot : (slot : ℕ) (frames later : List TimedFrame) → All (λ frame. frame.identifier ≤ greatest_trigger) (map (λ sent. sent.frame) frames)
    → of_slot slot (frames ++ later) ≡ of_slot slot later
none-of_slot slot [] later all = refl
none-of_slot slot (sent ∷ frames) later all =
    let first : sent.frame.identifier ≤ greatest_trigger = All-head (λ (frame : DataFrame). frame.identifier ≤ greatest_trigger) sent.frame (map (λ s. s.frame) frames) all in
    let other : (sent.frame.identifier == first_identifier + slot) ≡ false = ne_eqb sent.frame.identifier (first_identifier + slot) (λ same. absurd (omega (arith, first, same))) in
    ap (λ b. if b then sent ∷ of_slot slot (frames ++ later) else of_slot slot (frames ++ later)) other
    ∙ none-of_slot slot frames later (All-tail (λ (frame : DataFrame). frame.identifier ≤ greatest_trigger) sent.frame (map (λ s. s.frame) frames) all)

-- so the frames of a slot in a cycle are those behind the trigger
slots-behind : (sends : Instance → List ℕ) (layout : CycleLayout) (opening : Opening) (frames : List TimedFrame) (slot : ℕ)
    (runs : RunsCycle sends layout opening frames) → of_slot slot frames ≡ of_slot slot runs.later
slots-behind sends layout opening frames slot runs = grind (arith, low, get_or_default, none-of_slot)

-- an instance that sends something is there, and it is the one that was released in the cycle
record IsSender (sends : Instance → List ℕ) (placed : List Placed) (slot cycle release : ℕ) (bytes : List ℕ) : Type 0 where
  instance : Instance
  found : instance_in placed slot cycle ≡ Some instance
  of_slot : instance.placed.entry.slot ≡ slot
  released : release_of instance.placed instance.number ≡ release
  sent : sends instance ≡ bytes

sender : (sends : Instance → List ℕ) (placed : List Placed) (slot cycle release : ℕ) (bytes : List ℕ)
    → option_map sends (instance_in placed slot cycle) ≡ Some bytes → release_in placed slot cycle ≡ Some release
    → IsSender sends placed slot cycle release bytes
sender sends placed slot cycle release bytes sent released =
    by_found (instance_in placed slot cycle) refl sent released (instance_in-sound placed slot cycle)
  where
    by_found : (found : Option Instance) → instance_in placed slot cycle ≡ found → option_map sends found ≡ Some bytes
        → option_map (λ i. release_of i.placed i.number) found ≡ Some release
        → IfSome found (λ i. Contains placed i.placed × (i.placed.entry.slot ≡ slot) × MaySend i.placed i.number cycle)
        → IsSender sends placed slot cycle release bytes
    by_found found at sent released sound = grind (arith, none-some, same_Some)

-- the bytes of an instance of a polled slot that took a request for which there is room
carried-bytes : (streams : List Stream) (carried : ℕ → ℕ → Option ℕ) (i : Instance) (place : ℕ) (request : Stream)
    → is_polled streams i.placed.entry.slot ≡ true → carried i.placed.entry.slot (release_of i.placed i.number) ≡ Some place
    → slice_get streams place ≡ Some request → length request.payload < i.placed.entry.length
    → polled_bytes streams carried i ≡ bytes_with i.placed.entry.length (Some request.payload)
carried-bytes streams carried i place request polled took at room = grind (arith, nat_lt, lt-ltb, option_and_then)

module _ (layout : CycleLayout) (streams : List Stream) (openings : List Opening) (carried : ℕ → ℕ → Option ℕ) (trace : List TimedFrame)
    (place release cycle : ℕ) (known : All (λ stream. stream.slot < most_slots) streams)
    (rides : AreRides layout.cycle streams openings carried) (keep : KeepLengths openings)
    (runs : RunsCycles (polled_bytes streams carried) layout openings trace)
    (is : IsRidden streams openings carried place release cycle) where
  pub ride_frame : HasRideFrame layout streams openings trace place release cycle
  ride_frame =
      let sends = polled_bytes streams carried in
      let slot : ℕ = is.stream.slot in
      let o : Opening = is.opening in
      let few : slot < most_slots =
      subst (λ (s : Stream). s.slot < most_slots) (get_or_from_slice_get streams place is.stream is.stream is.at)
      (known place is.stream (slice_get_within streams place is.stream is.at)) in
      let run : RunsCycle sends layout o (frames_in layout o.cycle trace) =
      All-contains (λ (x : Opening). RunsCycle sends layout x (frames_in layout x.cycle trace)) openings o runs is.opened in
      let once = run.each slot few is.flagged in
      let it = sender sends o.placed slot o.cycle release once.sent.frame.bytes once.carries
      (ap (release_in o.placed slot) is.in_cycle ∙ is.released) in
      let i : Instance = it.instance in
      let entry_length : ℕ = i.placed.entry.length in
      let lengths : lengths_of openings slot release ≡ Some entry_length = grind arith in
      let takes = ((rides slot few).each release entry_length place lengths).0 is.took in
      let same : takes.stream ≡ is.stream = same_Some _ _ (sym takes.at ∙ is.at) in
      let room : length is.stream.payload < entry_length =
      subst (λ (s : Stream). length s.payload < entry_length) same takes.can.short in
      let polled : is_polled streams i.placed.entry.slot ≡ true = ap (is_polled streams) it.of_slot ∙ polled_by streams place is.stream is.at in
      let took : carried i.placed.entry.slot (release_of i.placed i.number) ≡ Some place =
      ap (λ s. carried s (release_of i.placed i.number)) it.of_slot ∙ ap (carried slot) it.released ∙ is.took in
      record {
        request = is.stream;
        at = is.at;
        opening = o;
        opened = is.opened;
        in_cycle = is.in_cycle;
        sent = once.sent;
        once = ap (λ c. of_slot slot (frames_in layout c trace)) (sym is.in_cycle)
            ∙ slots-behind sends layout o (frames_in layout o.cycle trace) slot run
            ∙ once.once;
        after = once.after;
        before = once.before;
        entry_length = entry_length;
        released = lengths;
        room = room;
        carries = sym it.sent ∙ carried-bytes streams carried i place is.stream polled took is.at room;
      }
