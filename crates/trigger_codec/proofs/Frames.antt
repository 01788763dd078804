-- The trigger frames of a cycle, however many there are.
use Rattle.std.proofs.Common.{◌≡◌, ◌≢◌, ℕ, ◌*◌, ◌<◌, ◌≤◌, List, [], ◌∷◌, length, map, All, AllPairs, refl, arith}
use Rattle.std.proofs.lemmas.Grind.{common_steps}
use Rattle.can_frame.specs.DataFrame.{DataFrame}
use Rattle.can_frame.specs.declared.data_frame.TimedFrame.{TimedFrame}
use Rattle.trigger_kind.specs.declared.Triggers.{Triggers}
use Rattle.trigger_kind.specs.declared.Triggers.TheVariants.{Two}
use Rattle.trigger_kind.specs.Kind.{greatest_trigger, opening_of, opening_identifier, part_of, triggers_of}
use Rattle.trigger_codec.specs.Bytes.{later_frames, second_frame, trigger_frame, triggers_with}

-- what holds of the first frame, and of each one behind it
of_frames : (P : DataFrame → Type 0) (triggers : Triggers) (cycle mask : ℕ) (first : DataFrame) → P first → P (second_frame cycle mask)
    → All P (first ∷ later_frames triggers cycle mask)
of_frames P triggers cycle mask first is also = grind arith

-- what holds of each two of them, the earlier one first
pairs_of : (R : DataFrame → DataFrame → Type 0) (triggers : Triggers) (cycle mask : ℕ) (first : DataFrame)
    → (triggers ≡ Two → R first (second_frame cycle mask)) → AllPairs R (first ∷ later_frames triggers cycle mask)
pairs_of R triggers cycle mask first both = grind arith

-- the last of some frames has this identifier, and those before it have lower ones
abbrev pub OpensByLast : ℕ → List DataFrame → Type 0
OpensByLast id [] = ⊥
OpensByLast id (frame ∷ []) = frame.identifier ≡ id
OpensByLast id (frame ∷ next ∷ more) = (frame.identifier < id) × OpensByLast id (next ∷ more)

module _ (slots cycle l mask : ℕ) where
  -- their identifiers are below those of all other frames, and rise
  pub low_ids : All (λ frame. frame.identifier ≤ greatest_trigger) (triggers_with slots cycle l mask)
  low_ids = of_frames (λ frame. frame.identifier ≤ greatest_trigger) (triggers_of slots) cycle mask (trigger_frame cycle l mask) (omega arith) (omega arith)

  pub rising : AllPairs (λ one other. one.identifier < other.identifier) (triggers_with slots cycle l mask)
  rising = pairs_of (λ one other. one.identifier < other.identifier) (triggers_of slots) cycle mask (trigger_frame cycle l mask) (λ two. omega arith)

  -- none but the last one opens the cycle
  pub opens_last : AllPairs (λ one other. one.identifier ≢ opening_identifier slots) (triggers_with slots cycle l mask)
  opens_last = grind (arith, pairs_of)

  -- each has 8 bytes
  pub eight_bytes : All (λ frame. length frame.bytes ≡ 8) (triggers_with slots cycle l mask)
  eight_bytes = of_frames (λ frame. length frame.bytes ≡ 8) (triggers_of slots) cycle mask (trigger_frame cycle l mask) refl refl

  -- the trigger part has room for so many
  pub frames_long : length (triggers_with slots cycle l mask) * 135 ≡ part_of (triggers_of slots)
  frames_long = by (triggers_of slots)
    where
      by : (triggers : Triggers) → length (trigger_frame cycle l mask ∷ later_frames triggers cycle mask) * 135 ≡ part_of triggers
      by triggers = grind arith

  -- the last one of them opens the cycle
  pub last_opens : OpensByLast (opening_identifier slots) (triggers_with slots cycle l mask)
  last_opens = by (triggers_of slots)
    where
      by : (triggers : Triggers) → OpensByLast (opening_of triggers) (trigger_frame cycle l mask ∷ later_frames triggers cycle mask)
      by triggers = grind arith

-- Trigger frames that were sent

tail-same : (x y : DataFrame) (xs ys : List DataFrame) → x ∷ xs ≡ y ∷ ys → xs ≡ ys
tail-same x y xs ys same = cc

module _ (slots cycle l mask : ℕ) where
  later : (triggers : Triggers) → All (λ f. 0 < f.identifier) (later_frames triggers cycle mask)
  later triggers = grind arith

  -- those behind the first one have identifiers above its own
  pub behind-ids : (first : TimedFrame) (behind : List TimedFrame) → map (λ s. s.frame) (first ∷ behind) ≡ triggers_with slots cycle l mask
      → All (λ s. 0 < s.frame.identifier) behind
  behind-ids first behind are = grind (arith, common_steps, tail-same, later)

  -- all have identifiers below those of other frames
  pub sent-low : (sent : List TimedFrame) → map (λ s. s.frame) sent ≡ triggers_with slots cycle l mask → All (λ s. s.frame.identifier ≤ greatest_trigger) sent
  sent-low sent are = grind (arith, common_steps, low_ids)
