-- Mail by its first mailbox: what an identifier has left, and what a step that touches one identifier leaves.
use Rattle.std.proofs.Common.{◌≡◌, ◌≢◌, ℕ, suc, ◌+◌, ◌^◌, ◌<◌, ◌≤◌, true, false, cond, eqb, Some, List, [], ◌∷◌, ◌++◌, length, get_or, drop, map, All, AllPairs, Contains, inl, inr, refl, sym, ap, ◌∙◌, arith}
use Rattle.std.proofs.lemmas.Grind.{common_steps}
use Rattle.std.specs.List.{slice_get}
use Rattle.std.proofs.lemmas.Bool.{eqb-true, eq-eqb, ne_eqb}
use Rattle.std.proofs.lemmas.Bool.Decides.{eqb_tells}
use Rattle.std.proofs.lemmas.List.{drop-drop, get_or-map, length-map}
use Rattle.std.proofs.lemmas.List.Elements.{All-map, All-filter, All-drop, filter_passes}
use Rattle.std.proofs.lemmas.List.Sums.{sum_by-append}
use Rattle.can_frame.specs.declared.data_frame.TimedFrame.{TimedFrame}
use Rattle.async_window.specs.declared.request.Request.{Request}
use Rattle.async_window.specs.Waiting.{requests_of, frames_with, unsent_after}
use Rattle.async_window.specs.Mailbox.{Mail, IsMail, mail_after, unsent_of, taken_from, without_first}

pub unsent_of-cons : (box : Mail) (mail : List Mail) (id : ℕ)
    → unsent_of (box ∷ mail) id ≡ cond (eqb box.identifier id) box.unsent (unsent_of mail id)
unsent_of-cons box mail id = grind (arith, eqb)

pub unsent_of-here : (box : Mail) (mail : List Mail) (id : ℕ) → box.identifier ≡ id → unsent_of (box ∷ mail) id ≡ box.unsent
unsent_of-here box mail id same = unsent_of-cons box mail id ∙ ap (λ b. cond b box.unsent (unsent_of mail id)) (eq-eqb box.identifier id same)

pub unsent_of-later : (box : Mail) (mail : List Mail) (id : ℕ) → box.identifier ≢ id → unsent_of (box ∷ mail) id ≡ unsent_of mail id
unsent_of-later box mail id other = unsent_of-cons box mail id ∙ ap (λ b. cond b box.unsent (unsent_of mail id)) (ne_eqb box.identifier id other)

-- what has an unsent request is the identifier of a mailbox
pub first-among : (mail : List Mail) (id : ℕ) (request : Request) → slice_get (unsent_of mail id) 0 ≡ Some request
    → Contains (map (λ box. box.identifier) mail) id
first-among [] id request first = let none : ⊥ = cc (first) in absurd none
first-among (box ∷ mail) id request first =
    elim (eqb_tells box.identifier id) [
      | inl here ↦ (0, omega arith, here.1)
      | inr later ↦
          let behind : slice_get (unsent_of mail id) 0 ≡ Some request
          = ap (λ xs. slice_get xs 0) (sym (unsent_of-later box mail id later.1)) ∙ first in
          let among = first-among mail id request behind in
          (suc among.0, omega arith, among.2)
    ]

-- a first request that is taken away: the identifier stays
abbrev pub without_head : Mail → Mail
without_head box = record box { unsent = drop 1 box.unsent }

pub taken_from-keeps : (P : Mail → Type 0) (id : ℕ) (box : Mail) → P (without_head box) → P box → P (taken_from id box)
taken_from-keeps P id box taken kept = elim (eqb box.identifier id) as (λ b. P (cond b (without_head box) box)) [ true ↦ taken | false ↦ kept ]

pub taken_from-identifier : (id : ℕ) (box : Mail) → (taken_from id box).identifier ≡ box.identifier
taken_from-identifier id box = taken_from-keeps (λ kept. kept.identifier ≡ box.identifier) id box refl refl

pub without_first-identifiers : (id : ℕ) (mail : List Mail)
    → map (λ box. box.identifier) (without_first id mail) ≡ map (λ box. box.identifier) mail
without_first-identifiers id [] = refl
without_first-identifiers id (box ∷ mail) =
    ap (λ first. first ∷ map (λ x. x.identifier) (without_first id mail)) (taken_from-identifier id box)
    ∙ ap (λ later. box.identifier ∷ later) (without_first-identifiers id mail)

pub unsent_of-taken : (id : ℕ) (mail : List Mail) → unsent_of (without_first id mail) id ≡ drop 1 (unsent_of mail id)
unsent_of-taken id [] = refl
unsent_of-taken id (box ∷ mail) =
    elim (eqb_tells box.identifier id) [
      | inl here ↦ unsent_of-here (taken_from id box) (without_first id mail) id (taken_from-identifier id box ∙ here.1)
          ∙ ap (λ b. (cond b (without_head box) box).unsent) here.0
          ∙ ap (λ unsent. drop 1 unsent) (sym (unsent_of-here box mail id here.1))
      | inr later ↦ unsent_of-later (taken_from id box) (without_first id mail) id (λ e. later.1 (sym (taken_from-identifier id box) ∙ e))
          ∙ unsent_of-taken id mail
          ∙ ap (λ unsent. drop 1 unsent) (sym (unsent_of-later box mail id later.1))
    ]

pub unsent_of-kept : (id other : ℕ) (mail : List Mail) → other ≢ id → unsent_of (without_first id mail) other ≡ unsent_of mail other
unsent_of-kept id other [] apart = refl
unsent_of-kept id other (box ∷ mail) apart =
    elim (eqb_tells box.identifier other) [
      | inl here ↦ unsent_of-here (taken_from id box) (without_first id mail) other (taken_from-identifier id box ∙ here.1)
          ∙ ap (λ b. (cond b (without_head box) box).unsent) (ne_eqb box.identifier id (λ e. apart (sym here.1 ∙ e)))
          ∙ sym (unsent_of-here box mail other here.1)
      | inr later ↦ unsent_of-later (taken_from id box) (without_first id mail) other (λ e. later.1 (sym (taken_from-identifier id box) ∙ e))
          ∙ unsent_of-kept id other mail apart
          ∙ sym (unsent_of-later box mail other later.1)
    ]

pub unsent_of-without : (id : ℕ) (mail : List Mail) (other : ℕ)
    → unsent_of (without_first id mail) other ≡ cond (eqb other id) (drop 1 (unsent_of mail id)) (unsent_of mail other)
unsent_of-without id mail other = grind (arith, eqb_tells, unsent_of-taken, unsent_of-kept)

pub AllPairs-map : {X Y : Type 0} (R : X → X → Type 0) (f : Y → X) (ys : List Y) → (X → Y)
    → AllPairs (λ one other. R (f one) (f other)) ys → AllPairs R (map f ys)
AllPairs-map R f ys back pairs i j d before within =
    let inside : j < length ys = omega (arith, length-map ys f) in
    rw (get_or-map f ys i (back d) d (omega arith), get_or-map f ys j (back d) d inside) (pairs i j (back d) before inside)

pub IsMail-without : (id : ℕ) (mail : List Mail) → IsMail mail → IsMail (without_first id mail)
IsMail-without id mail known = record {
  distinct = AllPairs-map (λ one other. one.identifier ≢ other.identifier) (taken_from id) mail (λ box. box)
      (λ i j d before within same. grind (arith, taken_from-identifier));
  least = All-map (λ box. 0x200 ≤ box.identifier) (taken_from id) mail
      (λ k d within. taken_from-keeps (λ box. 0x200 ≤ box.identifier) id (get_or mail k d) (known.least k d within) (known.least k d within));
  greatest = All-map (λ box. box.identifier ≤ 0x7EF) (taken_from id) mail
      (λ k d within. taken_from-keeps (λ box. box.identifier ≤ 0x7EF) id (get_or mail k d) (known.greatest k d within) (known.greatest k d within));
  own = All-map (λ box. All (λ request. request.frame.identifier ≡ box.identifier) box.unsent) (taken_from id) mail
      (λ k d within. taken_from-keeps (λ box. All (λ request. request.frame.identifier ≡ box.identifier) box.unsent) id (get_or mail k d)
      (All-drop (λ request. request.frame.identifier ≡ (get_or mail k d).identifier) 1 (get_or mail k d).unsent (known.own k d within)) (known.own k d within));
  early = All-map (λ box. All (λ request. request.at < 2 ^ 40) box.unsent) (taken_from id) mail
      (λ k d within. taken_from-keeps (λ box. All (λ request. request.at < 2 ^ 40) box.unsent) id (get_or mail k d)
      (All-drop (λ request. request.at < 2 ^ 40) 1 (get_or mail k d).unsent (known.early k d within)) (known.early k d within));
}

-- the mailbox of an identifier once these frames have started
abbrev mail_at : List Request → List TimedFrame → ℕ → Mail
mail_at requests past id = record { identifier = id; unsent = unsent_after requests past id }

pub IsMail-after : (ids : List ℕ) (requests : List Request) (past : List TimedFrame) → AllPairs (λ one other. one ≢ other) ids
    → All (λ id. 0x200 ≤ id) ids → All (λ id. id ≤ 0x7EF) ids → All (λ request. request.at < 2 ^ 40) requests
    → IsMail (mail_after ids requests past)
IsMail-after ids requests past distinct least greatest early = record {
  distinct = AllPairs-map (λ one other. one.identifier ≢ other.identifier) (mail_at requests past) ids (λ box. box.identifier) distinct;
  least = All-map (λ box. 0x200 ≤ box.identifier) (mail_at requests past) ids least;
  greatest = All-map (λ box. box.identifier ≤ 0x7EF) (mail_at requests past) ids greatest;
  own = All-map (λ box. All (λ request. request.frame.identifier ≡ box.identifier) box.unsent) (mail_at requests past) ids
      (λ k d within. grind (arith, common_steps, eqb, eqb-true, filter_passes));
  early = All-map (λ box. All (λ request. request.at < 2 ^ 40) box.unsent) (mail_at requests past) ids
      (λ k d within.
      let id : ℕ = get_or ids k d in
      All-drop (λ request. request.at < 2 ^ 40) (frames_with past id) (requests_of requests id)
      (All-filter (λ request. eqb request.frame.identifier id) (λ request. request.at < 2 ^ 40) requests early));
}

pub Contains-later : (first : ℕ) (ids : List ℕ) (id : ℕ) → first ≢ id → Contains (first ∷ ids) id → Contains ids id
Contains-later first ids id apart h1 = grind arith

pub unsent_of-among : (ids : List ℕ) (requests : List Request) (past : List TimedFrame) (id : ℕ) → Contains ids id
    → unsent_of (mail_after ids requests past) id ≡ unsent_after requests past id
unsent_of-among [] requests past id (k, within, same) = absurd (omega arith)
unsent_of-among (first ∷ ids) requests past id among =
    elim (eqb_tells first id) [
      | inl here ↦ unsent_of-here (mail_at requests past first) (mail_after ids requests past) id here.1
          ∙ ap (λ n. unsent_after requests past n) here.1
      | inr later ↦ unsent_of-later (mail_at requests past first) (mail_after ids requests past) id later.1
          ∙ unsent_of-among ids requests past id (Contains-later first ids id later.1 among)
    ]

pub unsent_of-elsewhere : (ids : List ℕ) (requests : List Request) (past : List TimedFrame) (id : ℕ) → (Contains ids id → ⊥)
    → unsent_of (mail_after ids requests past) id ≡ []
unsent_of-elsewhere [] requests past id none = refl
unsent_of-elsewhere (first ∷ ids) requests past id none =
    unsent_of-later (mail_at requests past first) (mail_after ids requests past) id (λ same. none (0, omega arith, same))
    ∙ unsent_of-elsewhere ids requests past id (λ (among : Contains ids id). none (suc among.0, omega arith, among.2))

pub frames_with-next : (past : List TimedFrame) (sent : TimedFrame) (id : ℕ)
    → frames_with (past ++ sent ∷ []) id ≡ frames_with past id + cond (eqb sent.frame.identifier id) 1 0
frames_with-next past sent id = sum_by-append (λ x. cond (eqb x.frame.identifier id) 1 0) past (sent ∷ []) ∙ omega arith

mail_at-next : (requests : List Request) (past : List TimedFrame) (sent : TimedFrame) (id : ℕ)
    → mail_at requests (past ++ sent ∷ []) id ≡ taken_from sent.frame.identifier (mail_at requests past id)
mail_at-next requests past sent id =
    elim (eqb_tells id sent.frame.identifier) [
      | inl same ↦
          let count : frames_with (past ++ sent ∷ []) id ≡ frames_with past id + 1
          = frames_with-next past sent id ∙ ap (λ b. frames_with past id + cond b 1 0) (eq-eqb sent.frame.identifier id (sym same.1)) in
          ap (λ unsent. record { identifier = id; unsent = unsent })
          (ap (λ n. drop n (requests_of requests id)) count ∙ sym (drop-drop 1 (frames_with past id) (requests_of requests id)))
          ∙ ap (λ b. cond b (without_head (mail_at requests past id)) (mail_at requests past id)) (sym same.0)
      | inr apart ↦
          let count : frames_with (past ++ sent ∷ []) id ≡ frames_with past id
          = grind (arith, common_steps, frames_with-next, ne_eqb) in
          ap (λ unsent. record { identifier = id; unsent = unsent }) (ap (λ n. drop n (requests_of requests id)) count)
          ∙ ap (λ b. cond b (without_head (mail_at requests past id)) (mail_at requests past id)) (sym apart.0)
    ]

pub mail_after-next : (ids : List ℕ) (requests : List Request) (past : List TimedFrame) (sent : TimedFrame)
    → mail_after ids requests (past ++ sent ∷ []) ≡ without_first sent.frame.identifier (mail_after ids requests past)
mail_after-next [] requests past sent = refl
mail_after-next (id ∷ ids) requests past sent =
    ap (λ first. first ∷ mail_after ids requests (past ++ sent ∷ [])) (mail_at-next requests past sent id)
    ∙ ap (λ later. taken_from sent.frame.identifier (mail_at requests past id) ∷ later) (mail_after-next ids requests past sent)
