-- One step of the search for the least number of bit times that fits.
use Rattle.std.proofs.Common.{◌≡◌, ◌≢◌, ℕ, ◌+◌, ◌-◌, ◌*◌, ◌/◌, ◌%◌, ◌<◌, ◌≤◌, List, inl, inr, subst, arith}
use Rattle.std.proofs.lemmas.Bool.{cases_lt}
use Rattle.cycle_layout.specs.Layout.{CycleLayout, IsLayout}
use Rattle.async_bound.specs.declared.stream.BurstStream.{BurstStream}
use Rattle.async_bound.specs.Streams.{AreStreams}
use Rattle.async_bound.specs.Room.{room_of_cycle}
use Rattle.async_bound.specs.Bound.{Fits, blocking, demand, longest_up_to, own_before}
use Rattle.async_bound.proofs.Row.{demand-more, row-enough, row-most, row-short}

room-below : (layout : CycleLayout) (longest : ℕ) → IsLayout layout → room_of_cycle layout longest ≤ layout.cycle
room-below layout longest known = let least = known.window_range.above in omega (arith, least)

some_time : (layout : CycleLayout) → IsLayout layout → 0 < layout.cycle
some_time layout known = let range = known.cycle_range.above in omega (arith, range)

module _ (layout : CycleLayout) (streams : List BurstStream) (stream : BurstStream) (own span blocked room need row : ℕ)
    (known : IsLayout layout) (are : AreStreams streams) (own_is : own ≡ own_before stream (longest_up_to streams stream.id)) (blocked_is : blocked ≡ blocking streams)
    (room_is : room ≡ room_of_cycle layout (longest_up_to streams stream.id)) (some : room ≢ 0)
    (need_is : need ≡ demand streams stream.id span + own + 1)
    (row_is : row ≡ (need - 1) / room * layout.cycle + (layout.cycle - room) + (need - 1) % room + 1) where
  abbrev all : ℕ
  all = room_of_cycle layout (longest_up_to streams stream.id)

  is : row ≡ (need - 1) / all * layout.cycle + (layout.cycle - all) + (need - 1) % all + 1
  is = subst (λ n. row ≡ (need - 1) / n * layout.cycle + (layout.cycle - n) + (need - 1) % n + 1) room_is row_is

  room-some : 0 < all
  room-some = omega (arith, room_is, some)

  pub step-fits : blocked + row ≤ span → Fits layout streams stream span
  step-fits long =
      let enough = row-enough layout.cycle all (some_time layout known) (room-below layout (longest_up_to streams stream.id) known) need (span - blocking streams)
      room-some (omega (arith, need_is)) (omega (arith, is, long, blocked_is)) in
      omega (arith, enough, need_is, own_is)

  pub step-more : (other : ℕ) → Fits layout streams stream other → span ≤ other → blocked + row ≤ other
  step-more other fits order = elim (cases_lt other (blocked + row)) [
    | inr enough ↦ enough
    | inl less ↦
        let short = row-short layout.cycle all (some_time layout known) (room-below layout (longest_up_to streams stream.id) known) need (other - blocking streams)
        room-some (omega (arith, need_is)) (omega (arith, is, less, blocked_is)) in
        let more = demand-more streams stream.id span other are order in
        absurd (omega (arith, short, more, fits, need_is, own_is))
  ]

module _ (layout : CycleLayout) (streams : List BurstStream) (stream : BurstStream) (own span need : ℕ)
    (known : IsLayout layout) (are : AreStreams streams) (own_is : own ≡ own_before stream (longest_up_to streams stream.id)) (need_is : need ≡ demand streams stream.id span + own + 1) where
  -- no number of bit times holds more
  pub step-none : (gap other : ℕ) → gap < need → Fits layout streams stream other → span ≤ other → other ≤ gap → ⊥
  step-none gap other much fits order within =
      let most = row-most layout.cycle (room_of_cycle layout (longest_up_to streams stream.id)) (some_time layout known) (room-below layout (longest_up_to streams stream.id) known) (other - blocking streams) in
      let more = demand-more streams stream.id span other are order in
      omega (arith, most, more, fits, need_is, much, within, own_is)
