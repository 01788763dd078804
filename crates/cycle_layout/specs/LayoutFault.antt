-- Why four numbers are no layout. The number of slots is not judged: it is one of the two.
use Rattle.std.specs.Prelude.{◌≡◌, ℕ, ◌<◌}
use Rattle.cycle_layout.specs.Layout.{IsCycleLength, IsTurnaround, IsWindow, needed}
use Rattle.cycle_layout.specs.declared.LayoutFault.{LayoutFault}
use Rattle.cycle_layout.specs.declared.LayoutFault.TheVariants.{CycleRange, TurnRange, WindowRange, TooNarrow}

-- the numbers are judged in this order, and the first wrong one decides
abbrev pub RefusesLayout : ℕ → ℕ → ℕ → ℕ → LayoutFault → Type 0
RefusesLayout cycle turnaround window slots CycleRange = IsCycleLength cycle → ⊥
RefusesLayout cycle turnaround window slots TurnRange = IsCycleLength cycle × (IsTurnaround turnaround → ⊥)
RefusesLayout cycle turnaround window slots WindowRange =
    IsCycleLength cycle × IsTurnaround turnaround × (IsWindow window → ⊥)
RefusesLayout cycle turnaround window slots (TooNarrow need have) =
    IsCycleLength cycle × IsTurnaround turnaround × IsWindow window
    × (need ≡ needed turnaround window slots) × (have ≡ cycle) × (have < need)
