-- A run of the bus, as far as it has come.
use Rattle.std.proofs.Common.{◌≡◌, ℕ, ◌+◌, ◌*◌, ◌≤◌, List, [], ◌++◌, length, subst, append-nil}
use Rattle.can_frame.specs.declared.data_frame.TimedFrame.{TimedFrame}
use Rattle.bus_line.specs.Trace.{Follows, NothingOffered, free_after}
use Rattle.bus_line.specs.Stations.{Line, Ran, told, offers_of}

-- what was sent so far, and how every continuation of it continues the run
pub record Running {State : Type 0} (line : Line State) (before now : State) (from until : ℕ) (old new : List TimedFrame) (free : ℕ) : Type 0 where
  pub frames : List TimedFrame
  pub appended : new ≡ old ++ frames
  pub told_of : now ≡ told line before frames
  pub free_is : free ≡ free_after from frames
  pub few : from + 47 * length frames ≤ free
  pub goes_on : (later : List TimedFrame) → Follows (offers_of line before) frames free until later
      → Follows (offers_of line before) [] from until (frames ++ later)

module _ {State : Type 0} (line : Line State) (before : State) (from until : ℕ) (old : List TimedFrame) where
  pub Running-all : (now : State) (new : List TimedFrame) (free : ℕ) → Running line before now from until old new free
      → NothingOffered (offers_of line now) [] free until → Ran line before now from until old new free
  Running-all now new free run nothing = record {
    frames = run.frames;
    appended = run.appended;
    follows = rw append-nil at (run.goes_on [] (subst (λ state. NothingOffered (offers_of line state) [] free until) run.told_of nothing));
    told_of = run.told_of;
    free_is = run.free_is;
  }
