-- What a core plans for its next cycle is heard of the trigger frames of that cycle.
use Rattle.std.proofs.Common.{◌≡◌, ℕ, ◌+◌, ◌^◌, ◌<◌, ◌≤◌, inl, inr, Option, Some, None, sym, ap, ◌∙◌, arith}
use Rattle.profile.specs.Limits.{longest_window}
use Rattle.bit_sets.specs.Sets.{has_bit, most_slots}
use Rattle.requirement_table.specs.Table.{width_in}
use Rattle.trigger_codec.specs.Bytes.{triggers_with}
use Rattle.master_core.specs.declared.upcoming.Upcoming.{Upcoming}
use Rattle.master_core.specs.Cores.{CoreView, IsCore, IsCoreUpcoming}
use Rattle.trigger_codec.specs.declared.heard.Heard.{Heard}
use Rattle.trigger_codec.specs.Heard.{heard_of}
use Rattle.fttcan_c.specs.Following.{CanTell, due_frames, planned_of, sum_of}

-- trigger frames say what they were made of
abbrev pub AreHeard : Type 0
AreHeard = (slots cycle l mask : ℕ) → slots ≤ most_slots → l ≤ longest_window → mask < 2 ^ slots
    → heard_of slots cycle (triggers_with slots cycle l mask) ≡ Some (record { l = l; mask = mask })

-- a window that a trigger can tell
told-short : (reserve : ℕ) (core : CoreView) (l : ℕ) → sum_of core ≡ l → l ≤ longest_window → CanTell reserve core
    → reserve + l ≤ longest_window
told-short reserve core l sum bare (inl none) = omega arith
told-short reserve core l sum bare (inr short) = omega arith

-- what is upcoming is heard of the frames that are due
pub due-heard : AreHeard → (reserve : ℕ) (core : CoreView) (upcoming : Upcoming) → IsCore core → IsCoreUpcoming core upcoming
    → CanTell reserve core
    → heard_of core.rules.slots core.cycle (due_frames reserve core)
    ≡ Some (record { l = reserve + upcoming.l; mask = upcoming.mask })
due-heard heard reserve core upcoming known is tells =
    let mask : planned_of core ≡ upcoming.mask = sym is.order.mask in
    let sum : sum_of core ≡ upcoming.l = ap (λ (m : ℕ). width_in core.placed core.cycle (has_bit m)) mask ∙ sym is.order.window in
    let frames : due_frames reserve core ≡ triggers_with core.rules.slots core.cycle (reserve + upcoming.l) upcoming.mask =
    ap (λ (m : ℕ). triggers_with core.rules.slots core.cycle (reserve + sum_of core) m) mask
    ∙ ap (λ (l : ℕ). triggers_with core.rules.slots core.cycle (reserve + l) upcoming.mask) sum in
    let fits : upcoming.l ≤ core.rules.window = is.order.fits in
    let least : core.rules.window ≤ longest_window = known.safe.in_range.greatest_window in
    let bare : upcoming.l ≤ longest_window = omega arith in
    let short : reserve + upcoming.l ≤ longest_window = told-short reserve core upcoming.l sum bare tells in
    ap (heard_of core.rules.slots core.cycle) frames
    ∙ heard core.rules.slots core.cycle (reserve + upcoming.l) upcoming.mask known.safe.in_range.few_slots short is.order.slots

-- the slots of what is heard
pub slots-heard : Option Heard → ℕ
slots-heard None = 0
slots-heard (Some heard) = heard.mask
