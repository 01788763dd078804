-- A polled run of the first calls of steps begins the polled run of all of them, and its rows the log of that run.
use Rattle.std.proofs.Common.{◌≡◌, ℕ, zero, suc, ◌<◌, ◌≤◌, cond, List, [], ◌++◌, Contains, Option, Some, None, IfSome, map, get_or, option_map, option_and_then, refl, sym, ap, ◌∙◌, subst, arith}
use Rattle.std.specs.List.{range_with_len}
use Rattle.std.proofs.lemmas.List.Elements.{All-nil, Contains-append_left}
use Rattle.can_frame.specs.declared.data_frame.TimedFrame.{TimedFrame}
use Rattle.requirement_table.specs.declared.entries.Placed.{Placed}
use Rattle.requirement_table.specs.Instance.{Instance, MaySend, bytes_of, release_of}
use Rattle.requirement_table.specs.Opening.{Opening}
use Rattle.bit_sets.specs.Sets.{most_slots}
use Rattle.requirement_table.specs.Table.{instance_in}
use Rattle.admission_rules.specs.declared.Rules.{Rules}
use Rattle.cycle_engine.specs.Offered.{AreOfDistinctCycles, IsCanTrace, SendsWhole}
use Rattle.steps_file.specs.declared.steps.Step.{Step}
use Rattle.system_file.specs.SystemFile.{IsSystem}
use Rattle.system_file.specs.declared.system.System.{System}
use Rattle.master_core.specs.Calls.{Call, call_of}
use Rattle.master_core.specs.declared.event.Event.{Event}
use Rattle.master_core.specs.History.{IsLegal, IsPlainlyLegal, next_of}
use Rattle.master_core.specs.Openings.{openings_after, openings_of}
use Rattle.kept_run.specs.Progress.{IsUnderWay}
use Rattle.kept_run.specs.Setting.{IsSetting, Setting}
use Rattle.kept_run.proofs.Shared.{number-below}
use Rattle.replay_run.specs.Run.{setting_of}
use Rattle.replay_run.proofs.Shared.{distinct, openings_of-append}
use Rattle.sporadic_poll.specs.declared.stream.Stream.{Stream}
use Rattle.sporadic_poll.specs.Polled.{AreRides, is_polled, lengths_of, payload_at, polled_bytes}
use Rattle.sporadic_poll.specs.Ride.{IsRide, IsTakenBefore, Takes, bytes_with}
use Rattle.sporadic_poll.specs.Rides.{AreRidesAt}
use Rattle.poll_run.specs.PolledRun.{IsPolledBegun, IsPolledRun, IsPolledTrace, polled_setting}
use Rattle.poll_run.proofs.Bytes.{polled-whole}
use Rattle.poll_run.proofs.OneRun.{same-trace}
use Rattle.poll_run.proofs.Openings.{opening-at}

-- What instances take by *Ride* below a cycle, where the lengths of the releases are the same below it

taken-too : (carried other : ℕ → Option ℕ) (cycle place : ℕ) → ((k : ℕ) → k < cycle → carried k ≡ other k) → IsTakenBefore carried cycle place
    → IsTakenBefore other cycle place
taken-too carried other cycle place same taken = grind arith

takes-too : (layout_cycle : ℕ) (streams : List Stream) (slot : ℕ) (carried other : ℕ → Option ℕ) (cycle n place : ℕ)
    → ((k : ℕ) → k < cycle → carried k ≡ other k)
    → Takes layout_cycle streams slot carried cycle n place → Takes layout_cycle streams slot other cycle n place
takes-too layout_cycle streams slot carried other cycle n place same takes = record {
  stream = takes.stream;
  at = takes.at;
  first = record {
    of_slot = takes.first.of_slot;
    left = λ taken. takes.first.left (taken-too other carried cycle place (λ k early. sym (same k early)) taken);
    first = λ before less of_slot. taken-too carried other cycle before same (takes.first.first before less of_slot);
  };
  can = takes.can;
}

same-option : (one other : Option ℕ) → ((x : ℕ) → one ≡ Some x → other ≡ Some x) → ((x : ℕ) → other ≡ Some x → one ≡ Some x) → one ≡ other
same-option one other there back = grind arith

module _ (layout_cycle : ℕ) (streams : List Stream) (slot : ℕ) (lengths others carried again : ℕ → Option ℕ)
    (ride : IsRide layout_cycle streams slot lengths carried) (other : IsRide layout_cycle streams slot others again) where
  took-same : (cycle : ℕ) (n : Option ℕ) → lengths cycle ≡ n → others cycle ≡ n → ((k : ℕ) → k < cycle → carried k ≡ again k)
      → carried cycle ≡ again cycle
  took-same cycle None here there same = ride.no_more cycle here ∙ sym (other.no_more cycle there)
  took-same cycle (Some n) here there same = same-option (carried cycle) (again cycle)
      (λ place took. (other.each cycle n place there).1
      (takes-too layout_cycle streams slot carried again cycle n place same ((ride.each cycle n place here).0 took)))
      (λ place took. (ride.each cycle n place here).1
      (takes-too layout_cycle streams slot again carried cycle n place (λ k early. sym (same k early)) ((other.each cycle n place there).0 took)))

  took-below : (most : ℕ) → ((k : ℕ) → k < most → lengths k ≡ others k) → (m : ℕ) → m ≤ most → (cycle : ℕ) → cycle < m → carried cycle ≡ again cycle
  took-below most same zero few cycle early = absurd (omega (arith, early))
  took-below most same (suc m) few cycle early =
      took-same cycle (others cycle) (same cycle (omega (arith, early, few))) refl
      (λ k less. took-below most same m (omega (arith, few)) k (omega (arith, less, early)))

-- The bytes of instances that are released below a cycle

module _ (streams : List Stream) (carried again : ℕ → ℕ → Option ℕ) (most : ℕ)
    (same : (slot cycle : ℕ) → slot < most_slots → cycle < most → carried slot cycle ≡ again slot cycle) where
  bytes-too : (i : Instance) → i.placed.entry.slot < most_slots → release_of i.placed i.number < most
      → polled_bytes streams carried i ≡ polled_bytes streams again i
  bytes-too i known early = grind (arith, option_and_then)

  sent-too : (placed : List Placed) (slot cycle : ℕ) (o : Option Instance) → slot < most_slots → cycle < most
      → IfSome o (λ i. Contains placed i.placed × (i.placed.entry.slot ≡ slot) × MaySend i.placed i.number cycle)
      → option_map (polled_bytes streams carried) o ≡ option_map (polled_bytes streams again) o
  sent-too placed slot cycle o known early is = grind (arith, bytes-too)

-- what laws of the crates below say
pub record BegunLaws : Type 0 where
  pub events : (rules : Rules) (history whole : List Event) (later : List Call) → IsPlainlyLegal rules history → IsPlainlyLegal rules whole
      → map call_of history ++ later ≡ map call_of whole → (rest : List Event) × (whole ≡ history ++ rest)
  pub cycles : (rules : Rules) (history : List Event) → IsLegal rules history
      → map (λ o. o.cycle) (openings_of history) ≡ range_with_len 0 (next_of history)
  pub at : (layout_cycle : ℕ) (streams : List Stream) (openings : List Opening) (opening : Opening) (carried : ℕ → ℕ → Option ℕ)
      → AreOfDistinctCycles openings → Contains openings opening → AreRides layout_cycle streams openings carried
      → AreRidesAt layout_cycle streams opening (lengths_of openings) carried
  pub sound : (placed : List Placed) (slot c : ℕ)
      → IfSome (instance_in placed slot c) (λ i. Contains placed i.placed × (i.placed.entry.slot ≡ slot) × MaySend i.placed i.number c)
  pub whole : SendsWhole bytes_of
  pub under_way : (setting : Setting) (history : List Event) (trace : List TimedFrame) → IsSetting setting → SendsWhole setting.sends
      → IsLegal setting.rules history → IsCanTrace setting.sends setting.layout setting.requests (openings_of history) (next_of history) trace
      → IsUnderWay setting history trace

-- the events of a run of the first calls are the first ones
pub begun-history : BegunLaws → (system : System) (steps : List Step) (streams : List Stream) (history whole : List Event) (carried again : ℕ → ℕ → Option ℕ)
    (trace frames : List TimedFrame) → IsPolledBegun system steps streams history carried trace → IsPolledRun system steps streams whole again frames
    → (rest : List Event) × (whole ≡ history ++ rest)
begun-history laws system steps streams history whole carried again trace frames begun run = grind arith

module _ (laws : BegunLaws) (system : System) (steps : List Step) (streams : List Stream) (history whole : List Event) (carried again : ℕ → ℕ → Option ℕ)
    (trace frames : List TimedFrame) (begun : IsPolledBegun system steps streams history carried trace) (run : IsPolledRun system steps streams whole again frames)
    (rest : List Event) (split : whole ≡ history ++ rest) where
  all : IsPolledTrace system streams (history ++ rest) again frames
  all = subst (λ (h : List Event). IsPolledTrace system streams h again frames) split run.polled

  in_order : map (λ o. o.cycle) (openings_of history) ≡ range_with_len 0 (next_of history)
  in_order = laws.cycles system.rules history begun.polled.plain.legal

  same-lengths : (slot cycle : ℕ) → slot < most_slots → cycle < next_of history
      → lengths_of (openings_of history) slot cycle ≡ lengths_of (openings_of (history ++ rest)) slot cycle
  same-lengths slot cycle known early =
      let E : ℕ = system.layout.cycle in
      let openings : List Opening = openings_of history in
      let more : List Opening = openings_of (history ++ rest) in
      let found = opening-at openings (next_of history) cycle in_order early in
      let among : Contains more found.0 =
      subst (λ (l : List Opening). Contains l found.0) (sym (openings_of-append history rest))
      (Contains-append_left openings (openings_after history rest) found.0 found.1) in
      let apart = distinct openings (next_of history) in_order in
      let apart_too = distinct more (next_of (history ++ rest)) (laws.cycles system.rules (history ++ rest) all.plain.legal) in
      let one = (laws.at E streams openings found.0 carried apart found.1 begun.polled.rides).here slot known in
      let other = (laws.at E streams more found.0 again apart_too among all.rides).here slot known in
      subst (λ (c : ℕ). lengths_of openings slot c ≡ lengths_of more slot c) found.2 (one ∙ sym other)

  -- its instances carry the same requests
  pub begun-rides : (slot cycle : ℕ) → slot < most_slots → cycle < next_of history → carried slot cycle ≡ again slot cycle
  begun-rides slot cycle known early =
      took-below system.layout.cycle streams slot (lengths_of (openings_of history) slot) (lengths_of (openings_of (history ++ rest)) slot)
      (carried slot) (again slot) (begun.polled.rides slot known) (all.rides slot known) (next_of history)
      (λ k before. same-lengths slot k known before) (next_of history) (omega arith) cycle early

  -- the setting of the whole run
  abbrev setting : Setting
  setting = polled_setting (setting_of system []) streams again

  -- so its trace is a CAN trace with the bytes of the whole run
  begun-can_trace : IsCanTrace setting.sends system.layout [] (openings_of history) (next_of history) trace
  begun-can_trace =
      same-trace (polled_bytes streams carried) setting.sends system.layout (openings_of history) (next_of history) trace
      (λ k d within slot known. grind (arith, sent-too, begun-rides, number-below, in_order))
      begun.polled.kept.can_trace

  pub known-setting : IsSystem system → IsSetting setting
  known-setting is = grind arith

  -- both runs are under way in it
  pub begun-under_way : IsSystem system → IsUnderWay setting history trace
  begun-under_way is =
      laws.under_way setting history trace (known-setting is) (polled-whole laws.whole streams again) begun.polled.plain.legal begun-can_trace

  pub all-under_way : IsSystem system → IsUnderWay setting (history ++ rest) frames
  all-under_way is =
      laws.under_way setting (history ++ rest) frames (known-setting is) (polled-whole laws.whole streams again) all.plain.legal all.kept.can_trace
