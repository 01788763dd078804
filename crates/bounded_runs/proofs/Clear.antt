-- The last time, up to a given one, at which all earlier requests of lower identifiers have started.
use Rattle.std.proofs.Common.{◌≡◌, ℕ, zero, suc, ◌<◌, ◌≤◌, List, [], ◌∷◌, Contains, ◌⊎◌, inl, inr, subst, arith}
use Rattle.std.proofs.lemmas.Bool.{cases_lt}
use Rattle.can_frame.specs.declared.data_frame.TimedFrame.{TimedFrame}
use Rattle.async_window.specs.declared.request.Request.{Request}
use Rattle.async_window.specs.Waiting.{requests_of}
use Rattle.async_bound.specs.declared.stream.BurstStream.{BurstStream}
use Rattle.async_bound.proofs.Shared.{Contains-here, Contains-later, Contains-cases, Contains-nil}
use Rattle.bounded_runs.proofs.Begun.{begun}
use Rattle.bounded_runs.proofs.Arrivals.{arrived, arrived-zero}

module _ (requests : List Request) (trace : List TimedFrame) (level at : ℕ) where
  -- of each stream below the level, what has arrived before the time has started before it
  abbrev pub IsClearOf : List BurstStream → Type 0
  IsClearOf streams = (stream : BurstStream) → Contains streams stream → stream.id < level
      → arrived at (requests_of requests stream.id) ≤ begun stream.id at trace

  -- of one of them something has arrived and not started
  pub record IsBehind (streams : List BurstStream) : Type 0 where
    pub stream : BurstStream
    pub among : Contains streams stream
    pub below : stream.id < level
    pub more : begun stream.id at trace < arrived at (requests_of requests stream.id)

  pub clear-or-behind : (streams : List BurstStream) → IsClearOf streams ⊎ IsBehind streams
  clear-or-behind [] = inl (λ stream has. absurd (Contains-nil stream has))
  clear-or-behind (s ∷ ss) = elim (clear-or-behind ss) [
    | inr is ↦ inr (record { stream = is.stream; among = Contains-later s ss is.stream is.among; below = is.below; more = is.more })
    | inl clear ↦ elim (cases_lt s.id level) [
      | inr above ↦ inl (λ stream has below. elim (Contains-cases s ss stream has) [
        | inl same ↦ let here = subst (λ z. level ≤ z.id) same above in absurd (omega (arith, here, below))
        | inr later ↦ clear stream later below
      ])
      | inl under ↦ elim (cases_lt (begun s.id at trace) (arrived at (requests_of requests s.id))) [
        | inl more ↦ inr (record { stream = s; among = Contains-here s ss; below = under; more = more })
        | inr done ↦ inl (λ stream has below. elim (Contains-cases s ss stream has) [
          | inl same ↦ subst (λ z. arrived at (requests_of requests z.id) ≤ begun z.id at trace) same done
          | inr later ↦ clear stream later below
        ])
      ]
    ]
  ]

module _ (requests : List Request) (trace : List TimedFrame) (level : ℕ) (streams : List BurstStream) where
  pub record LastClear (until : ℕ) : Type 0 where
    pub at : ℕ
    pub before : at ≤ until
    pub clear : IsClearOf requests trace level at streams
    pub behind : (later : ℕ) → at < later → later ≤ until → IsBehind requests trace level later streams

  pub last-clear : (until : ℕ) → LastClear until
  last-clear zero = record {
    at = 0;
    before = omega arith;
    clear = λ stream has below. omega (arith, arrived-zero (requests_of requests stream.id));
    behind = λ later from to. absurd (omega arith);
  }
  last-clear (suc until) = elim (clear-or-behind requests trace level (suc until) streams) [
    | inl clear ↦ record { at = suc until; before = omega arith; clear = clear; behind = λ later from to. absurd (omega arith) }
    | inr is ↦
        let sofar = last-clear until in
        record {
          at = sofar.at;
          before = omega (arith, sofar.before);
          clear = sofar.clear;
          behind = λ later from to. elim (cases_lt later (suc until)) [
            | inl earlier ↦ sofar.behind later from (omega arith)
            | inr last ↦
                let same : suc until ≡ later = omega arith in
                subst (λ n. IsBehind requests trace level n streams) same is
          ];
        }
  ]
