-- An opened cycle is the same for its requests whichever of two lists with the same instances in it is placed.
use Rattle.std.proofs.Common.{◌≡◌, ℕ, ◌≤◌, List, [], ◌∷◌, ◌++◌, Option, inl, inr, sym, ap, ◌∙◌, subst}
use Rattle.std.specs.Prelude.{IsSome, option_and_then, option_map}
use Rattle.std.proofs.lemmas.List.Elements.{Contains-append_left, Contains-push, Contains-push_cases}
use Rattle.can_frame.specs.declared.data_frame.TimedFrame.{TimedFrame}
use Rattle.cycle_layout.specs.Layout.{CycleLayout}
use Rattle.bit_sets.specs.Sets.{has_bit}
use Rattle.requirement_table.specs.Instance.{bytes_of, release_of}
use Rattle.requirement_table.specs.Opening.{Opening}
use Rattle.requirement_table.specs.declared.entries.Placed.{Placed}
use Rattle.node_model.specs.Opening.{end_of_cycle, start_of}
use Rattle.kept_run.proofs.Shared.{SameIn, follows-same, width-same}
use Rattle.sporadic_poll.specs.declared.fate.Fate.{Fate}
use Rattle.sporadic_poll.specs.declared.stream.Stream.{Stream}
use Rattle.sporadic_poll.specs.Ride.{length_at}
use Rattle.sporadic_poll.specs.Rides.{AreFates, AreRidesAt, IsPlainCycle, IsRidden, release_in}

module _ (cycle mask : ℕ) where
  abbrev opens : List Placed → Opening
  opens placed = record { cycle = cycle; mask = mask; placed = placed }

  -- the same instances are released in it, so *Ride* says the same
  pub rides-same : (layout_cycle : ℕ) (streams : List Stream) (one other : List Placed) → SameIn cycle one other → (lengths carried : ℕ → ℕ → Option ℕ)
      → AreRidesAt layout_cycle streams (opens one) lengths carried → AreRidesAt layout_cycle streams (opens other) lengths carried
  rides-same layout_cycle streams one other same lengths carried rides = record {
    each = rides.each;
    here = λ slot known. rides.here slot known ∙ ap (option_and_then (length_at cycle)) (same slot);
  }

  -- its frames are the same without requests
  pub plain-same : (layout : CycleLayout) (one other : List Placed) → SameIn cycle one other → (frames : List TimedFrame)
      → IsPlainCycle layout (opens one) frames → IsPlainCycle layout (opens other) frames
  plain-same layout one other same frames plain = record {
    past = plain.past;
    before = plain.before;
    fits = record {
      present = λ slot known flagged. subst IsSome (same slot) (plain.fits.present slot known flagged);
      width = subst (λ (w : ℕ). w ≤ layout.window) (width-same cycle (has_bit mask) one other same) plain.fits.width;
    };
    follows = follows-same bytes_of layout [] cycle mask one other same plain.past frames (start_of layout (opens one)) (end_of_cycle layout (opens one)) plain.follows;
  }

  module _ (streams : List Stream) (one other : List Placed) (same : SameIn cycle one other) (openings : List Opening) (carried : ℕ → ℕ → Option ℕ) where
    -- the same requests were sent in it
    ridden-same : (place release at : ℕ) → IsRidden streams (openings ++ opens one ∷ []) carried place release at
        → IsRidden streams (openings ++ opens other ∷ []) carried place release at
    ridden-same place release at ridden =
        let slot : ℕ = ridden.stream.slot in
        elim (Contains-push_cases openings (opens one) ridden.opening ridden.opened) [
          | inl earlier ↦ record {
            stream = ridden.stream;
            at = ridden.at;
            opening = ridden.opening;
            opened = Contains-append_left openings (opens other ∷ []) ridden.opening earlier;
            in_cycle = ridden.in_cycle;
            flagged = ridden.flagged;
            released = ridden.released;
            took = ridden.took;
          }
          | inr is ↦
              let now : cycle ≡ at = ap (λ (o : Opening). o.cycle) is ∙ ridden.in_cycle in
              record {
                stream = ridden.stream;
                at = ridden.at;
                opening = opens other;
                opened = Contains-push openings (opens other);
                in_cycle = now;
                flagged = ap (λ (o : Opening). has_bit o.mask slot) is ∙ ridden.flagged;
                released = ap (release_in other slot) (sym now) ∙ ap (option_map (λ i. release_of i.placed i.number)) (sym (same slot))
                    ∙ ap (release_in one slot) now ∙ ap (λ (o : Opening). release_in o.placed slot at) is ∙ ridden.released;
                took = ridden.took;
              }
        ]

  -- so the fates are the same
  pub fates-same : (streams : List Stream) (one other : List Placed) → SameIn cycle one other → (openings : List Opening) (carried : ℕ → ℕ → Option ℕ) (fates : List Fate)
      → AreFates streams (openings ++ opens one ∷ []) carried fates → AreFates streams (openings ++ opens other ∷ []) carried fates
  fates-same streams one other same openings carried fates are = record {
    sent = λ place release at noted. ridden-same streams one other same openings carried place release at (are.sent place release at noted);
    all = λ place release at ridden. are.all place release at (ridden-same streams other one (λ slot. sym (same slot)) openings carried place release at ridden);
  }
