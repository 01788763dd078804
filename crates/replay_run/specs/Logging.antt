-- What is driven on a bus goes on call by call, and is cut within later calls where it is cut within some of them.
use Rattle.std.specs.Prelude.{ℕ}
use Rattle.std.proofs.Common.{◌≡◌, List, [], ◌++◌, map, sym, ap, ◌∙◌, subst, append-nil, append_assoc}
use Rattle.can_frame.specs.declared.data_frame.TimedFrame.{TimedFrame}
use Rattle.master_core.specs.Calls.{Call, call_of}
use Rattle.master_core.specs.declared.event.Event.{Event}
use Rattle.replay_run.specs.Runs.{CanLog, GoesOnLogging, IsCutAfter, IsCutIn, IsHeardSoFar, Start}
use Rattle.replay_run.specs.declared.cut.Cut.{Cut}

module _ {S R : Type 0} (Goes : S → List Event → List TimedFrame → R → Type 0) {L : Type 0} (Heard : L → List ℕ → L → Type 0) where
  pub goes-at_once : (one : R) (told : L) → GoesOnLogging Goes Heard one told [] one told
  goes-at_once one told = λ start before heard.
      subst (λ calls. IsHeardSoFar Goes Heard start calls one told) (sym (append-nil before)) heard

  pub goes-in_turn : (one other third : R) (told middle now : L) (calls later : List Call)
      → GoesOnLogging Goes Heard one told calls other middle
      → GoesOnLogging Goes Heard other middle later third now
      → GoesOnLogging Goes Heard one told (calls ++ later) third now
  goes-in_turn one other third told middle now calls later first second = λ start before heard.
      subst (λ all. IsHeardSoFar Goes Heard start all third now) (append_assoc before calls later)
      (second start (before ++ calls) (first start before heard))

  pub ready-still : (one other : R) (told now : L) (calls : List Call) → CanLog Goes Heard one told
      → GoesOnLogging Goes Heard one told calls other now
      → CanLog Goes Heard other now
  ready-still one other told now calls can on = (can.0, can.1 ++ calls, on can.0 can.1 can.2)

module _ {S R : Type 0} (Goes : S → List Event → List TimedFrame → R → Type 0) (Keeps : S → List Event → List TimedFrame → Type 0)
    {L : Type 0} (Heard Broke : L → List ℕ → L → Type 0) where
  -- the first of some calls are the first of more
  cut-longer : (start : Start S L) (calls more : List Call) (now : L) (why : Cut) → IsCutIn Heard Broke Keeps start calls now why
      → IsCutIn Heard Broke Keeps start (calls ++ more) now why
  cut-longer start calls more now why is = record {
    history = is.history;
    trace = is.trace;
    front = record {
      later = is.front.later ++ more;
      answers = sym (append_assoc (map call_of is.history) is.front.later more) ∙ ap (λ l. l ++ more) is.front.answers;
      keeps = is.front.keeps;
    };
    heard = is.heard;
  }

  pub cut-later : (one other : R) (told middle now : L) (calls later more : List Call) (why : Cut)
      → GoesOnLogging Goes Heard one told calls other middle
      → IsCutAfter Heard Broke Keeps Goes other middle later now why → IsCutAfter Heard Broke Keeps Goes one told (calls ++ (later ++ more)) now why
  cut-later one other told middle now calls later more why first cut = λ start before heard.
      let all : ((before ++ calls) ++ later) ++ more ≡ before ++ (calls ++ (later ++ more)) =
      append_assoc (before ++ calls) later more ∙ append_assoc before calls (later ++ more) in
      subst (λ l. IsCutIn Heard Broke Keeps start l now why) all
      (cut-longer start ((before ++ calls) ++ later) more now why (cut start (before ++ calls) (first start before heard)))
