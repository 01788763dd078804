-- What a master with a journal is after it has answered calls.
use Rattle.std.proofs.Common.{◌≡◌, List, [], ◌++◌, map, refl, sym, ap, ◌∙◌, append-nil, append_assoc}
use Rattle.master_core.specs.Calls.{Call, call_of}
use Rattle.master_core.specs.History.{IsPlainlyLegal}
use Rattle.master_core.specs.Journals.{LeanView}

-- its history has one event more for each of these calls, in their order, each change planned when it is answered
pub record HasAnsweredCalls (old : LeanView) (calls : List Call) (new : LeanView) : Type 0 where
  pub same_rules : new.rules ≡ old.rules
  pub same_keeping : new.keeps ≡ old.keeps
  pub plain : IsPlainlyLegal old.rules old.history → IsPlainlyLegal new.rules new.history
  pub answers : map call_of new.history ≡ map call_of old.history ++ calls

-- it has answered the first of these calls, and no other
pub record StoppedIn (old : LeanView) (calls : List Call) (new : LeanView) : Type 0 where
  pub front : List Call
  pub back : List Call
  pub split : calls ≡ front ++ back
  pub answered : HasAnsweredCalls old front new

-- For the master that is driven

pub answered-nothing : (one : LeanView) → HasAnsweredCalls one [] one
answered-nothing one = record { same_rules = refl; same_keeping = refl; plain = λ plain. plain; answers = sym (append-nil (map call_of one.history)) }

pub answered-more : (one other third : LeanView) (calls later : List Call) → HasAnsweredCalls one calls other
    → HasAnsweredCalls other later third
    → HasAnsweredCalls one (calls ++ later) third
answered-more one other third calls later first second = record {
  same_rules = second.same_rules ∙ first.same_rules;
  same_keeping = second.same_keeping ∙ first.same_keeping;
  plain = λ plain. second.plain (first.plain plain);
  answers = second.answers ∙ ap (λ l. l ++ later) first.answers ∙ append_assoc (map call_of one.history) calls later;
}

pub stopped-later : (one other third : LeanView) (calls later more : List Call) → HasAnsweredCalls one calls other
    → StoppedIn other later third
    → StoppedIn one (calls ++ (later ++ more)) third
stopped-later one other third calls later more first stopped = record {
  front = calls ++ stopped.front;
  back = stopped.back ++ more;
  split = ap (λ l. calls ++ (l ++ more)) stopped.split ∙ ap (λ l. calls ++ l) (append_assoc stopped.front stopped.back more)
      ∙ sym (append_assoc calls stopped.front (stopped.back ++ more));
  answered = answered-more one other third calls stopped.front first stopped.answered;
}

pub stopped-at_once : (one other : LeanView) (calls : List Call) → HasAnsweredCalls one [] other
    → StoppedIn one calls other
stopped-at_once one other calls none = record { front = []; back = calls; split = refl; answered = none }
