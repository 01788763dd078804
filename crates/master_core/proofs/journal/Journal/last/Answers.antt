use Rattle.std.proofs.Common.{◌≡◌, ◌≤◌, ◌-◌, get_or, length, refl, subst, sym}
use Rattle.master_core.specs.Journals.{IsLast, JournalView}
use Rattle.master_core.proofs.Journals.{last-is}
use Rattle.master_core.proofs.journal.Journal.last.Goals as goal

pub returns : goal.returns
returns c =
    let event = c.index-recent-recent.result in
    record {
      last = subst (λ (v : JournalView). IsLast v.history event) c.self.view_is
          (last-is _ c.self.inside.past.events c.self.inside.recent.items event _ c.self.invariant.0
          (subst (λ (v : JournalView). 1 ≤ length v.history) (sym c.self.view_is) c.requires.some) refl
          (subst (λ l. event ≡ get_or l (length l - 1) event) c.as_slice-recent.ensures.value c.index-recent-recent.is));
    }
