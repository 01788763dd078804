-- What each call keeps of a core.
use Rattle.std.proofs.Common.{◌≡◌, ℕ, ◌+◌, ◌-◌, ◌^◌, ◌<◌, ◌≤◌, Bool, true, false, cond, if◌then◌else◌, List, Option, Some, None, IfSome, All, is_some, length, option_map, refl, sym, ap, ◌∙◌, subst, arith}
use mir.Val.{bool_byte}
use Rattle.profile.specs.Limits.{openings_end}
use Rattle.requirement_table.specs.declared.entries.Placed.{Placed}
use Rattle.bit_sets.specs.Sets.{has_bit, most_slots}
use Rattle.requirement_table.specs.Table.{IsWellPlaced, not_over}
use Rattle.bit_sets.proofs.Shared.{has_bit-none, set_of-below, set_of-has_bit, set_of-same}
use Rattle.change_protocol.specs.Applied.{applied}
use Rattle.change_protocol.specs.Pruned.{pruned}
use Rattle.change_protocol.proofs.Shared.{changed-applied, not_over-pruned}
use Rattle.planner_policies.specs.Plan.{IsValid, Ranking, pending_at, pending_before}
use Rattle.planner_policies.proofs.Shared.{before-first}
use Rattle.admission_rules.specs.declared.Rules.{Rules}
use Rattle.admission.specs.Safe.{IsSafeWithin}
use Rattle.admission.specs.Verdict.{IsRules, IsVerdict, bounds_by, is_accepted, placed_with, plan_from}
use Rattle.admission.specs.declared.verdict.Verdict.{Verdict}
use Rattle.admission.specs.declared.verdict.Verdict.TheVariants.{Malformed, Passed, Miss, Horizon, Accepted}
use Rattle.master_core.specs.declared.answer.Answer.{Answer}
use Rattle.master_core.specs.declared.answer.Made.{Made}
use Rattle.master_core.specs.declared.saved.Saved.{Saved}
use Rattle.master_core.specs.declared.table.Table.{Table}
use Rattle.master_core.specs.declared.upcoming.Upcoming.{Upcoming}
use Rattle.master_core.specs.Answers.{AreKept, AreMadeAs, AreTablesOf, IsAnswerAs, IsPlannedFrom, IsTakenOver, entries_of}
use Rattle.master_core.specs.Cores.{CoreView, IsCore, IsCoreUpcoming, IsPruned, IsPrunedBefore, IsRanked, answered_as, kept_by, core_of, most_kept, new_core, onward, opened, saved_of, with_all}
use Rattle.master_core.proofs.KnownSlots.{HasNode, HasSlot, both-none, nodes-applied, slots-applied}
use Rattle.master_core.proofs.Legal.{nothing-missed}
use Rattle.master_core.proofs.Onward.{FoundLaw, LaterLaw, PrunedLaw, WholeLaw, all-pruned, safe-accepted, well_placed-made}
use Rattle.master_core.proofs.Repeating.{empty-recurs}
use Rattle.master_core.proofs.NextPlan.{ranked-valid}
use Rattle.master_core.proofs.Settling.{refused-is, taken-is}
use Rattle.master_core.proofs.States.{left-of}

-- A new core

pub core-new : (rules : Rules) (forgets : Bool) → IsRules rules → IsCore (new_core rules forgets)
core-new rules forgets ranges =
    let empty = empty-recurs rules ranges in
    grind (arith, has_bit-none, nothing-missed)

-- An opening

pub core-opened : LaterLaw → (core : CoreView) → core.cycle < openings_end → IsCore core → IsCore (opened core)
core-opened later core before is = grind (arith, set_of-below)

-- An answer

kept-safe : PrunedLaw → (rules : Rules) (prunes : Bool) (c from pending : ℕ) (placed : List Placed) → c ≤ from → IsSafeWithin rules placed from pending
    → IsSafeWithin rules (kept_by prunes c placed) from pending
kept-safe law rules true c from pending placed early safe = law rules placed c from pending early safe
kept-safe law rules false c from pending placed early safe = safe

left-kept : (prunes : Bool) (from : ℕ) (placed : List Placed) → not_over from (kept_by prunes from placed) ≡ not_over from placed
left-kept prunes from placed = grind (arith, not_over-pruned)

kept-all : (P : Placed → Type 0) (prunes : Bool) (c : ℕ) (placed : List Placed) → All P placed → All P (kept_by prunes c placed)
kept-all P true c placed low = all-pruned P c placed low
kept-all P false c placed low = low

-- the entries have slots and nodes of the rules
record AreOfRules (rules : Rules) (placed : List Placed) : Type 0 where
  pub slots : All (HasSlot rules.slots) placed
  pub nodes : All (HasNode rules.nodes) placed

module _ (found : FoundLaw) (later : LaterLaw) (law : PrunedLaw) (core : CoreView) (is : IsCore core) (prunes : Bool) (answer : Answer) (to : IsAnswerAs prunes core answer) where
  abbrev new : List Placed
  new = applied core.placed answer.change

  accepted-safe : (verdict : Verdict) → is_accepted verdict ≡ true
      → IsVerdict core.rules core.placed to.pending answer.from core.cycle answer.change verdict
      → IsSafeWithin core.rules new core.cycle core.pending × AreOfRules core.rules new
  accepted-safe (Malformed op why) accepted decided = absurd (cc)
  accepted-safe (Passed start next) accepted decided = absurd (cc)
  accepted-safe (Miss slot release cycle) accepted decided = absurd (cc)
  accepted-safe (Horizon from walked) accepted decided = absurd (cc)
  accepted-safe (Accepted first length) accepted decided =
      let in_time = decided.0 in
      let well = is.safe.safe.well_placed in
      let formed = both-none _ _ in_time.well_formed in (
        safe-accepted found later core.rules core.placed new answer.change.start answer.from core.cycle to.pending core.pending
            (changed-applied core.placed answer.change well.in_range) is.safe.in_range is.safe.near
            (well_placed-made core.rules core.placed answer.change is.safe.in_range.few_slots well to.types in_time.well_formed) to.held to.early in_time.ahead to.leads
            first length decided.1,
        record {
          slots = slots-applied core.placed (bounds_by core.rules) answer.change formed.1 is.slots;
          nodes = nodes-applied core.placed (bounds_by core.rules) answer.change formed.1 is.nodes;
        },
      )

  -- the core with the list that an accepted change makes
  core-taken : is_accepted answer.verdict ≡ true
      → (core.forgets ≡ true → length (kept_by prunes answer.from new) ≤ most_kept)
      → IsCore
      (record core {
        placed = kept_by prunes answer.from new;
        learned = Some (kept_by prunes answer.from new);
        accepted = core.accepted + 1;
      })
  core-taken accepted short =
      let (whole, known) = accepted-safe answer.verdict accepted to.verdict in
      record {
        safe = kept-safe law core.rules prunes answer.from core.cycle core.pending new to.early whole;
        known = is.known;
        slots = kept-all (HasSlot core.rules.slots) prunes answer.from new known.slots;
        nodes = kept-all (HasNode core.rules.nodes) prunes answer.from new known.nodes;
        to_learn = refl;
        few = short;
      }

  -- what is taken over
  pub core-put : (made : Option Made) → AreMadeAs prunes core answer made → (core.forgets ≡ true → entries_of made ≤ most_kept)
      → IsCore (answered_as prunes core answer.from answer.change answer.verdict)
  core-put None refused short = grind arith
  core-put (Some made) by short =
      subst (λ (b : Bool). IsCore (if b then record core {
        placed = kept_by prunes answer.from new;
        learned = Some (kept_by prunes answer.from new);
        accepted = core.accepted + 1;
      } else core)) (sym by.accepted)
      (core-taken by.accepted (λ on. subst (λ (l : List Placed). length l ≤ most_kept) by.placed (short on)))

-- The fields of a core after an opening

module _ (core : CoreView) (since : ℕ) (ranked : Ranking) (is : IsCore core) (ranks : IsRanked core since ranked) (later : LaterLaw) (before : core.cycle < openings_end)
    (upcoming : Upcoming) (up : IsCoreUpcoming core upcoming) where
  pub valid-behind : IsValid ranked.placed upcoming.next.cycle upcoming.next.pending
  valid-behind =
      let passed = ranks.passed in
      rw (up.next, up.pending)
      (ranked-valid (opened core) since ranked (core-opened later core before is) (record { passed = omega arith; left = ranks.left }))

  module _ (list : List Placed) (by : ℕ) (fewer : Ranking) (same : list ≡ core.placed) (passed : by ≤ upcoming.next.cycle)
      (left : fewer ≡ record ranked { placed = not_over by list }) where
    abbrev behind : CoreView
    behind = record core { placed = list; cycle = upcoming.next.cycle; pending = upcoming.next.pending; learned = None }

    pub behind-is : behind ≡ opened core
    behind-is = rw (same, up.next, up.pending) refl

    pub core-behind : IsCore behind × IsRanked behind by fewer
    core-behind = (
      subst IsCore (sym behind-is) (core-opened later core before is),
      record { passed = passed; left = left ∙ ap (λ (r : Ranking). record r { placed = not_over by list }) ranks.left },
    )

-- The fields of a core after an answer

one-more : (b : Bool) → bool_byte b ≡ cond b 1 0
one-more b = grind arith

module _ (core : CoreView) (since : ℕ) (ranked : Ranking) (is : IsCore core) (ranks : IsRanked core since ranked) (found : FoundLaw) (later : LaterLaw) (law : PrunedLaw)
    (prunes : Bool) (answer : Answer) (to : IsAnswerAs prunes core answer) where
  abbrev with_answer : Bool → CoreView
  with_answer b =
      if b then record core {
        placed = kept_by prunes answer.from (applied core.placed answer.change);
        learned = Some (kept_by prunes answer.from (applied core.placed answer.change));
        accepted = core.accepted + 1;
      } else core

  abbrev taken_by : Table → Option (List Placed) → ℕ → CoreView
  taken_by table learned accepted = record core { placed = table.placed.items; learned = learned; accepted = accepted }

  put-is : (made : Option Made) (old new : Table) (old_learned new_learned : Option (List Placed)) (more : ℕ) → AreMadeAs prunes core answer made
      → IsTakenOver made old new old_learned new_learned → core.placed ≡ old.placed.items → core.learned ≡ old_learned
      → more ≡ cond (is_accepted answer.verdict) 1 0 → taken_by new new_learned (core.accepted + more) ≡ answered_as prunes core answer.from answer.change answer.verdict
  put-is made old new old_learned new_learned more refused same list_is learned_is more_is = grind arith

  put-ranked : (made : Option Made) (old new : Table) (old_learned new_learned : Option (List Placed)) (accepted : ℕ) → AreMadeAs prunes core answer made
      → IsTakenOver made old new old_learned new_learned → core.placed ≡ old.placed.items → since ≡ old.since → ranked ≡ old.planner.ranking
      → IsRanked (taken_by new new_learned accepted) new.since new.planner.ranking
  put-ranked made old new old_learned new_learned accepted refused same list_is since_is ranked_is = grind arith

  module _ (old new : Table) (old_learned new_learned : Option (List Placed)) (more : ℕ) (taken : IsTakenOver answer.made old new old_learned new_learned)
      (list_is : core.placed ≡ old.placed.items) (learned_is : core.learned ≡ old_learned) (more_is : more ≡ bool_byte (is_accepted answer.verdict)) where
    pub put-then : taken_by new new_learned (core.accepted + more) ≡ answered_as prunes core answer.from answer.change answer.verdict
    put-then = put-is answer.made old new old_learned new_learned more to.made taken list_is learned_is (more_is ∙ one-more (is_accepted answer.verdict))

    pub core-after : (core.forgets ≡ true → entries_of answer.made ≤ most_kept) → since ≡ old.since → ranked ≡ old.planner.ranking
        → IsCore (taken_by new new_learned (core.accepted + more)) × IsRanked (taken_by new new_learned (core.accepted + more)) new.since new.planner.ranking
    core-after short since_is ranked_is = (
      subst IsCore (sym put-then) (core-put found later law core is prunes answer to answer.made to.made short),
      put-ranked answer.made old new old_learned new_learned (core.accepted + more) to.made taken list_is since_is ranked_is,
    )

-- An answer that was planned from the next cycle on

module _ (core : CoreView) (is : IsCore core) where
  pub state-here : core.pending ≡ pending_at (plan_from core.rules core.placed core.cycle core.pending) (core.cycle - core.cycle)
  state-here =
      let none : core.cycle - core.cycle ≡ 0 = omega arith in
      sym
      (ap (pending_at (onward core)) none
      ∙ set_of-same most_slots (pending_before (onward core) 0) (has_bit core.pending) (λ slot known. before-first (onward core) slot)
      ∙ sym (set_of-has_bit most_slots core.pending is.known))

  pub made-to : (prunes : Bool) (answer : Answer) (plain : Option Made) (made : Option Made) → option_map (λ m. m.learned) plain ≡ placed_with (applied core.placed answer.change) answer.verdict
      → AreTablesOf core.rules answer.from plain → AreKept prunes answer.from plain made → AreMadeAs prunes core answer made
  made-to prunes answer plain made none tables kept = grind (arith, refused-is, taken-is, left-kept)

  pub answer-to : (prunes : Bool) (answer : Answer) (made : Option Made) → IsPlannedFrom core.rules core.placed (record { cycle = core.cycle; pending = core.pending }) answer
      → AreKept prunes answer.from answer.made made → IsAnswerAs prunes core (record answer { made = made })
  answer-to prunes answer made planned kept = grind (arith, state-here, made-to)

-- A core without entries that no later answer needs

pruned-learned : (c : ℕ) (placed : List Placed) (learned : Option (List Placed)) → IfSome learned (λ list. list ≡ placed)
    → IfSome (option_map (pruned c) learned) (λ list. list ≡ pruned c placed)
pruned-learned c placed learned is = grind arith

pub core-pruned : PrunedLaw → (core : CoreView) (since : ℕ) (ranked : Ranking) → IsCore core → IsRanked core since ranked → (list : List Placed) (learned : Option (List Placed))
    → list ≡ pruned since core.placed → length list ≤ length core.placed → learned ≡ option_map (pruned since) core.learned
    → IsCore (record core { placed = list; learned = learned }) × IsRanked (record core { placed = list; learned = learned }) since ranked
core-pruned law core since ranked is ranks list learned list_is shorter learned_is = (
  record {
    safe =
        subst (λ (l : List Placed). IsSafeWithin core.rules l core.cycle core.pending) (sym list_is)
        (law core.rules core.placed since core.cycle core.pending ranks.passed is.safe);
    known = is.known;
    slots = subst (All (HasSlot core.rules.slots)) (sym list_is) (all-pruned (HasSlot core.rules.slots) since core.placed is.slots);
    nodes = subst (All (HasNode core.rules.nodes)) (sym list_is) (all-pruned (HasNode core.rules.nodes) since core.placed is.nodes);
    to_learn = rw (learned_is, list_is) (pruned-learned since core.placed core.learned is.to_learn);
    few = λ on. let few = is.few on in omega arith;
  },
  record {
    passed = ranks.passed;
    left = grind (arith, not_over-pruned);
  },
)

pub pruned-is : (core : CoreView) (since : ℕ) (ranked : Ranking) → IsRanked core since ranked → (list : List Placed) (learned : Option (List Placed))
    → list ≡ pruned since core.placed → learned ≡ option_map (pruned since) core.learned → IsPruned core (record core { placed = list; learned = learned })
pruned-is core since ranked ranks list learned list_is learned_is = grind arith

-- Cores as plain data

pub core-again : (core : CoreView) → IsCore core → core_of (saved_of core) ≡ core
core-again core is = grind arith

learned-or : (placed : List Placed) (learns : Bool) → IfSome (if learns then Some placed else None) (λ list. list ≡ placed)
learned-or placed learns = grind arith

-- what was tested is a core
pub core-tested : (saved : Saved) → IsSafeWithin saved.rules saved.placed saved.state.cycle saved.state.pending → saved.state.pending < 2 ^ most_slots
    → All (HasSlot saved.rules.slots) saved.placed → All (HasNode saved.rules.nodes) saved.placed → (saved.forgets ≡ true → length saved.placed ≤ most_kept)
    → IsCore (core_of saved)
core-tested saved safe known slots nodes few = grind (arith, learned-or)

-- A core with all placed entries in place of those that it keeps

pub core-all : WholeLaw → (core : CoreView) → IsCore core → (whole : List Placed) → IsPrunedBefore core.cycle whole core.placed → IsWellPlaced whole
    → All (HasSlot core.rules.slots) whole → All (HasNode core.rules.nodes) whole → IsCore (with_all core whole)
core-all law core is whole held well slots nodes = record {
  safe = law core.rules whole core.placed core.cycle core.pending well (left-of true core.cycle whole core.placed held) is.safe;
  known = is.known;
  slots = slots;
  nodes = nodes;
  to_learn = learned-or whole (is_some core.learned);
  few = λ on. absurd (cc);
}

-- the fields of it
module _ (core : CoreView) (whole list : List Placed) (learned : Option (List Placed)) (list_is : list ≡ whole)
    (learned_is : learned ≡ (if is_some core.learned then Some whole else None)) where
  pub all-fields : record core { placed = list; learned = learned; forgets = false } ≡ with_all core whole
  all-fields = grind arith

  pub core-whole : WholeLaw → (since : ℕ) (ranked : Ranking) → IsCore core → IsRanked core since ranked → IsPrunedBefore core.cycle whole core.placed → IsWellPlaced whole
      → All (HasSlot core.rules.slots) whole → All (HasNode core.rules.nodes) whole → (by : ℕ) (fewer : Ranking) → by ≡ core.cycle
      → fewer ≡ record ranked { placed = not_over core.cycle list }
      → IsCore (record core { placed = list; learned = learned; forgets = false })
      × IsRanked (record core { placed = list; learned = learned; forgets = false }) by fewer
  core-whole law since ranked is ranks held well slots nodes by fewer by_is left = (
    subst IsCore (sym all-fields) (core-all law core is whole held well slots nodes),
    record {
      passed = omega arith;
      left = grind arith;
    },
  )
