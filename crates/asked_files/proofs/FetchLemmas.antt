-- Files that are fetched and read one after the other, and at which of them a call stops.
use Rattle.std.proofs.Common.{◌≡◌, ℕ, ◌+◌, ◌<◌, ◌≤◌, List, [], ◌∷◌, ◌++◌, Option, Result, Ok, Err, Some, drop, get_or, length, map, refl, sym, ap, ◌∙◌, subst, arith, append_assoc, append-nil, inl, inr}
use Rattle.std.proofs.lemmas.Grind.{common_steps}
use Rattle.std.proofs.lemmas.List.{drop_all, drop_more}
use Rattle.std.specs.Prelude.{◌⊎◌}
use Rattle.std.specs.Option.{ForSome}
use Rattle.ftt_io.specs.Counts.{next_count}
use Rattle.ftt_io.specs.Files.{NamedFiles}
use Rattle.command_words.specs.Words.{NamedSource}
use Rattle.command_words.specs.WordsRead.{named}
use Rattle.command_words.specs.declared.words.NamedFile.{NamedFile}
use Rattle.asked_files.specs.declared.inputs.Content.{Content}
use Rattle.asked_files.specs.declared.inputs.Inputs.{Inputs}
use Rattle.asked_files.specs.declared.stopping.Stop.{Stop}
use Rattle.asked_files.specs.declared.stopping.Stop.TheVariants.{Words, Input, Read, Write, Memory}
use Rattle.asked_files.specs.Inputs.{AreFilesRead, IsFileHeld, MayBeRead, MayHold, nothing_read, with_content}
use Rattle.asked_files.specs.Loads.{AreAllRead, IsBarred, IsHeldUp, StoppedBehind, StopsAtFile, WereRead, count_behind}

-- Why a call stops, by cases

either : {A B C D : Type 0} → (A → C) → (B → D) → A ⊎ B → C ⊎ D
either f g (inl a) = inl (f a)
either f g (inr b) = inr (g b)

-- what stops a file behind others stops the call that asks for them all
pub barred-behind : {A B : Type 0} (none later rose : Type 0) (told : Option NamedFiles) (IsRead : NamedFiles → Result A Stop → Type 0)
    (IsFor : NamedFiles → Result B Stop → Type 0) → (later → rose)
    → ((files : NamedFiles) → told ≡ Some files → (stopped : Stop) → IsRead files (Err stopped) → IsFor files (Err stopped))
    → (why : Stop) → IsBarred ⊥ later told IsRead why → IsBarred none rose told IsFor why
barred-behind none later rose told IsRead IsFor more asks Words barred = absurd barred
barred-behind none later rose told IsRead IsFor more asks (Input refusal) barred = λ files tells. asks files tells (Input refusal) (barred files tells)
barred-behind none later rose told IsRead IsFor more asks Read (some, barred) =
    (either more (λ is. is) some, λ files tells. either more (asks files tells Read) (barred files tells))
barred-behind none later rose told IsRead IsFor more asks Write barred = barred
barred-behind none later rose told IsRead IsFor more asks Memory barred = tt

stops-behind : (told : Option NamedFiles) (later rose : Type 0) (file : NamedSource) (why : Stop) → (later → rose)
    → StopsAtFile told later file why → StopsAtFile told rose file why
stops-behind told later rose file Read more at = either more (λ is. is) at
stops-behind told later rose file _ more at = at

-- the last of the files that were fetched stopped the call
behind : (told : Option NamedFiles) (rose : Type 0) (front : List NamedSource) (last : NamedSource) → WereRead told front
    → (why : Stop) → StopsAtFile told rose last why → StoppedBehind told rose why (front ++ last ∷ [])
behind told rose front last before (Input refusal) at = record { front = front; last = last; parts = refl; before = before; here = at }
behind told rose front last before Read at = record { front = front; last = last; parts = refl; before = before; here = at }
behind told rose front last before Memory at = tt
behind told rose front last before _ at = absurd at

-- What was read, and how many fetches were made

same-Ok : (a b : Inputs) → ◌≡◌ {A = Result Inputs Stop} (Ok a) (Ok b) → a ≡ b
same-Ok a b same = cc

-- behind some first files one more is read, or none
reads-on : (files : NamedFiles) (front rest : List NamedSource) (before inputs : Inputs) (read : Result Inputs Stop)
    → AreFilesRead files front before (Ok inputs) → AreFilesRead files rest inputs read → AreFilesRead files (front ++ rest) before read
reads-on files [] rest before inputs read same more =
    subst (λ held. AreFilesRead files rest held read) (same-Ok inputs before same) more
reads-on files (file ∷ front) rest before inputs read (Ok held, is, more) next =
    (Ok held, is, reads-on files front rest (with_content before held) inputs read more next)
reads-on files (file ∷ front) rest before inputs read (Err why, is, more) next = absurd (cc)

may-on : (front : List NamedSource) (file : NamedSource) (before inputs : Inputs) (content : Content)
    → MayBeRead front before inputs → MayHold file.source inputs content
    → MayBeRead (front ++ file ∷ []) before (with_content inputs content)
may-on [] file before inputs content same may =
    (content, subst (λ held. MayHold file.source held content) same may, ap (λ held. with_content held content) same)
may-on (first ∷ front) file before inputs content (held, is, more) may =
    (held, is, may-on front file (with_content before held) inputs content more may)

count-on : (count : ℕ) (front : List NamedSource) (file : NamedSource)
    → count_behind count (front ++ file ∷ []) ≡ next_count (count_behind count front)
count-on count [] file = refl
count-on count (first ∷ front) file = count-on (next_count count) front file

pub next-most : (count : ℕ) → next_count count ≤ count + 1
next-most count = grind (arith, common_steps)

count-most : (count : ℕ) (fetched : List NamedSource) → count_behind count fetched ≤ count + length fetched
count-most count [] = omega arith
count-most count (file ∷ rest) = omega (arith, count-most (next_count count) rest, next-most count)

-- some first files were fetched and read, and these are left, where the files were told so and the count of fetches was
-- `old` and is `now`
pub record IsGoing (told : Option NamedFiles) (sources : List NamedSource) (old now : ℕ) (left : List NamedSource)
    (inputs : Inputs) : Type 0 where
  pub front : List NamedSource
  pub parts : sources ≡ front ++ left
  pub so_far : AreAllRead told front old now inputs

pub going-start : (told : Option NamedFiles) (sources : List NamedSource) (count : ℕ) (inputs : Inputs)
    → inputs ≡ nothing_read → IsGoing told sources count count sources inputs
going-start told sources count inputs none = record {
  front = [];
  parts = refl;
  so_far = record { counted = refl; may = none; read = λ files tells. ap Ok none };
}

-- no more fetches are made than there are files
pub most-so-far : (told : Option NamedFiles) (sources : List NamedSource) (old now : ℕ) (left : List NamedSource) (inputs : Inputs)
    → IsGoing told sources old now left inputs → now + length left ≤ old + length sources
most-so-far told sources old now left inputs going =
    let most = count-most old going.front in
    rw (going.parts, going.so_far.counted) (grind (arith, common_steps))

-- a file that is left is the next one
pub next-file : {told : Option NamedFiles} {sources : List NamedSource} {old now : ℕ} {inputs : Inputs} (files : List NamedFile)
    (i : ℕ) (other : NamedFile) → i < length files → IsGoing told sources old now (map named (drop i files)) inputs
    → IsGoing told sources old now (named (get_or files i other) ∷ map named (drop (i + 1) files)) inputs
next-file files i other within going = rw (drop_more files i other within) at going

-- it is fetched
module _ (told : Option NamedFiles) (sources : List NamedSource) (old now next : ℕ) (file : NamedSource) (rest : List NamedSource)
    (inputs : Inputs) (going : IsGoing told sources old now (file ∷ rest) inputs) (once : next ≡ next_count now) where
  one-more : sources ≡ (going.front ++ file ∷ []) ++ rest
  one-more = going.parts ∙ sym (append_assoc going.front (file ∷ []) rest)

  one-counted : next ≡ count_behind old (going.front ++ file ∷ [])
  one-counted = once ∙ ap next_count going.so_far.counted ∙ sym (count-on old going.front file)

  -- and read
  pub goes-on : (content : Content) (after : Inputs) → MayHold file.source inputs content
      → ForSome told (λ all. IsFileHeld all file inputs (Ok content)) → after ≡ with_content inputs content
      → IsGoing told sources old next rest after
  goes-on content after may held same = record {
    front = going.front ++ file ∷ [];
    parts = one-more;
    so_far = record {
      counted = one-counted;
      may = subst (MayBeRead (going.front ++ file ∷ []) nothing_read) (sym same)
          (may-on going.front file nothing_read inputs content going.so_far.may may);
      read = λ all tells. reads-on all going.front (file ∷ []) nothing_read inputs (Ok after)
          (going.so_far.read all tells) (Ok content, held all tells, ap Ok same);
    };
  }

  -- or stops the call
  pub held-up : (later rose : Type 0) (why : Stop) → (later → rose) → StopsAtFile told later file why
      → IsBarred ⊥ later told (λ all. IsFileHeld all file inputs) why
      → IsHeldUp ⊥ rose told (λ all. AreFilesRead all sources nothing_read) sources old next why
  held-up later rose why more at barred = record {
    barred = barred-behind ⊥ later rose told (λ all. IsFileHeld all file inputs) (λ all. AreFilesRead all sources nothing_read) more
        (λ all tells stopped held. subst (λ some. AreFilesRead all some nothing_read (Err stopped)) (sym going.parts)
        (reads-on all going.front (file ∷ rest) nothing_read inputs (Err stopped) (going.so_far.read all tells) (Err stopped, held, refl)))
        why barred;
    fetched = record {
      fetched = going.front ++ file ∷ [];
      rest = rest;
      parts = one-more;
      counted = one-counted;
      behind = behind told rose going.front file (λ all tells. (inputs, going.so_far.read all tells)) why
          (stops-behind told later rose file why more at);
    };
  }

-- no file is left
pub going-ends : (told : Option NamedFiles) (files : List NamedFile) (old now i : ℕ) (inputs : Inputs)
    → length files ≤ i → IsGoing told (map named files) old now (map named (drop i files)) inputs
    → AreAllRead told (map named files) old now inputs
going-ends told files old now i inputs past going =
    let none : map named (drop i files) ≡ [] = ap (map named) (drop_all i files past) in
    let all : going.front ≡ map named files =
    sym (going.parts ∙ ap (λ left. going.front ++ left) none ∙ append-nil going.front) in
    subst (λ front. AreAllRead told front old now inputs) all going.so_far
