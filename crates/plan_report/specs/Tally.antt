-- What is counted of the entries while the frames of a trace are walked: words for contracts inside the crate.
use Rattle.std.specs.Prelude.{◌≡◌, ℕ, ◌+◌, ◌-◌, ◌^◌, ◌<◌, ◌≤◌, ◌==◌, Bool, false, if◌then◌else◌, List, [], ◌∷◌, ◌++◌}
use Rattle.std.specs.Prelude.{length, map, min, max, Option, Some, None, IfSome, slice_get}
use Rattle.std.specs.Option.{option_map_or}
use Rattle.profile.specs.Limits.{first_identifier}
use Rattle.can_frame.specs.declared.data_frame.TimedFrame.{TimedFrame}
use Rattle.requirement_table.specs.declared.entries.Placed.{Placed}
use Rattle.requirement_table.specs.Instance.{MaySend, latest, release_of}
use Rattle.bus_trace.specs.Log.{trigger_count_with, triggers_in}
use Rattle.plan_report.specs.Report.{Sending, delay_of, greatest_of, is_sent, least_of, sendings, sent_of}
use Rattle.plan_report.specs.declared.tally.Count.{Count}
use Rattle.plan_report.specs.declared.tally.Tally.{Tally}

-- whether this is the last one
abbrev pub is_last : Option ℕ → ℕ → Bool
is_last None number = false
is_last (Some last) number = last == number

-- what is counted once an instance is sent with a delay: it counts where it is not the last one that was sent
abbrev pub tally_with : Tally → ℕ → ℕ → Tally
tally_with tally number delay =
    if is_last tally.last number then tally else record {
      instances = tally.instances + 1;
      last = Some number;
      least = Some (option_map_or (λ least. min least delay) tally.least delay);
      greatest = Some (option_map_or (λ greatest. max greatest delay) tally.greatest delay);
    }

-- of the sendings of an entry, in the cycles of which `seen` triggers tell, this is the last instance: none behind it
-- was sent, and none before it may be sent any more
abbrev pub IsLastSent : Placed → ℕ → List Sending → Option ℕ → Type 0
IsLastSent p seen sendings None = (number : ℕ) → is_sent sendings number ≡ false
IsLastSent p seen sendings (Some last) =
    ((number : ℕ) → last ≤ number → is_sent sendings number ≡ (last == number))
    × ((cycle : ℕ) → seen ≤ cycle + 1 → last ≤ latest p cycle)

-- what is counted of an entry in frames
pub record IsTally (frames : List TimedFrame) (p : Placed) (tally : Tally) : Type 0 where
  pub instances : tally.instances ≡ length (sent_of frames p)
  pub least : tally.least ≡ least_of (map (delay_of p) (sent_of frames p))
  pub greatest : tally.greatest ≡ greatest_of (map (delay_of p) (sent_of frames p))
  pub last : IsLastSent p (triggers_in frames) (sendings p 0 frames) tally.last
  pub few : tally.instances ≤ length frames

-- The counts of the code

-- what was sent of an entry, by what was counted of it
abbrev pub tally_of : Option Count → Tally
tally_of None = record { instances = 0; last = None; least = None; greatest = None }
tally_of (Some count) = record {
  instances = count.instances;
  last = Some count.number;
  least = Some count.least;
  greatest = Some count.greatest;
}

-- what is counted with one instance more, of this number and this release, with a delay
abbrev pub count_with : Count → ℕ → ℕ → ℕ → Count
count_with count number release delay = record {
  instances = count.instances + 1;
  number = number;
  release = release;
  least = min count.least delay;
  greatest = max count.greatest delay;
}

-- the release of the last instance is that of the entry
pub record TellsRelease (p : Placed) (count : Count) : Type 0 where
  pub release : count.release ≡ release_of p count.number
  pub number : count.number ≤ count.release
  pub early : count.release < 2 ^ 63

-- one instance of the entry more is counted, which may be sent in the cycle
pub record IsNextCount (p : Placed) (cycle : ℕ) (count next : Count) : Type 0 where
  pub sends : MaySend p next.number cycle
  pub tally : tally_of (Some next) ≡ tally_with (tally_of (Some count)) next.number (cycle - release_of p next.number)
  pub released : TellsRelease p next

-- what is counted of an entry is what frames send of it
pub record IsCountedIn (frames : List TimedFrame) (p : Placed) (count : Option Count) : Type 0 where
  pub tally : IsTally frames p (tally_of count)
  pub released : IfSome count (TellsRelease p)

-- what is counted of each of some entries
pub record AreTallies (frames : List TimedFrame) (placed : List Placed) (counts : List (Option Count)) : Type 0 where
  pub count : length counts ≡ length placed
  pub each : (place : ℕ) (p : Placed) (count : Option Count)
      → slice_get placed place ≡ Some p → slice_get counts place ≡ Some count
      → IsCountedIn frames p count

-- the releases are those of the entries
abbrev pub AreReleased : List Placed → List (Option Count) → Type 0
AreReleased placed counts = (place : ℕ) (p : Placed) (count : Option Count)
    → slice_get placed place ≡ Some p → slice_get counts place ≡ Some count → IfSome count (TellsRelease p)

-- whatever frames came before, one of the slot was counted, in the cycle
abbrev pub CountsOne : List Placed → ℕ → ℕ → List (Option Count) → List (Option Count) → Type 0
CountsOne placed slot cycle old new = (frames : List TimedFrame) (sent : TimedFrame) → AreTallies frames placed old
    → sent.frame.identifier ≡ first_identifier + slot → trigger_count_with (triggers_in frames) sent ≡ cycle + 1
    → AreTallies (frames ++ sent ∷ []) placed new
