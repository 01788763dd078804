-- Bounds of asynchronous frames: what they are asked of.
use Rattle.std.specs.Prelude.{ℕ, ◌<◌, ◌≤◌, List, length}
use Rattle.cycle_layout.specs.Layout.{IsLayout}
use Rattle.async_bound.specs.declared.stream.BurstStream.{BurstStream}
use Rattle.async_bound.specs.Streams.{AreStreams}
use Rattle.c_values.specs.declared.plain.FttLayout.{FttLayout}
use Rattle.c_values.specs.Plain.{layout_of}

-- a layout, streams in their ranges, and one of them
pub record IsBoundAsked (layout : FttLayout) (streams : List BurstStream) (which : ℕ) : Type 0 where
  pub laid_out : IsLayout (layout_of layout)
  pub known : AreStreams streams
  pub few : length streams ≤ 2048
  pub there : which < length streams
