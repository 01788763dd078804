-- What a sink took of rows that were put one after the other.
use Rattle.std.proofs.Common.{◌≡◌, ℕ, ◌+◌, ◌<◌, suc, List, ◌++◌, ◌∷◌, [], All, codes, Option, Result, Ok, Err, length, get_or, map, drop, sym, ap, ◌∙◌, subst, append_assoc, arith}
use Rattle.std.specs.Prelude.{OnOk, OnErr}
use Rattle.std.specs.Fmt.{decimal}
use Rattle.std.specs.List.{flat_map}
use Rattle.std.proofs.lemmas.Grind.{flat_map-append}
use Rattle.std.proofs.lemmas.List.{drop_all, map-append}
use Rattle.std.proofs.lemmas.List.Elements.{All-append, All-cons}
use Rattle.std.proofs.Math.Seq.{drop-cons}
use Rattle.ftt_io.specs.Puts.{Puts, PutsPrefix}
use Rattle.ftt_io.proofs.Shared.{Puts-append, PutsPrefix-append, PutsPrefix-longer}
use Rattle.can_frame.specs.declared.data_frame.TimedFrame.{TimedFrame}
use Rattle.bus_trace.specs.Log.{hex_digits}
use Rattle.log_reader.specs.Row.{IsLogRow, row_text, text_of_rows}
use Rattle.log_reader.specs.declared.row.LogRow.{LogRow}
use Rattle.log_reader.specs.declared.row.LogRow.TheVariants.{Frame}
use Rattle.log_reader.proofs.Shared.{frame-text}

-- the rows from a place on begin with the row at the place
pub frame_rows-at : (frames : List TimedFrame) (place : ℕ) (d sent : TimedFrame) → place < length frames → get_or frames place d ≡ sent
    → text_of_rows (map Frame (drop place frames)) ≡ row_text (Frame sent) ++ text_of_rows (map Frame (drop (place + 1) frames))
frame_rows-at frames place d sent within is =
    let next : place + 1 ≡ suc place = omega arith in
    ap (λ l. text_of_rows (map Frame l)) (drop-cons frames place d within)
    ∙ ap (λ s. row_text (Frame s) ++ text_of_rows (map Frame (drop (suc place) frames))) is
    ∙ ap (λ n. row_text (Frame sent) ++ text_of_rows (map Frame (drop n frames))) (sym next)

-- with the frame at a place the rows from it on are in range
pub frames_told-at : (frames : List TimedFrame) (place : ℕ) (d sent : TimedFrame) → place < length frames → get_or frames place d ≡ sent
    → All IsLogRow (map Frame (drop (place + 1) frames)) → IsLogRow (Frame sent) → All IsLogRow (map Frame (drop place frames))
frames_told-at frames place d sent within is later here =
    let next : place + 1 ≡ suc place = omega arith in
    let whole : drop place frames ≡ sent ∷ drop (place + 1) frames = drop-cons frames place d within ∙ ap (λ s. s ∷ drop (suc place) frames) is ∙ ap (λ n. sent ∷ drop n frames) (sym next) in
    subst (λ l. All IsLogRow (map Frame l)) (sym whole) (All-cons IsLogRow (Frame sent) (map Frame (drop (place + 1) frames)) here later)

-- the rows of some frames, and behind them those of the others
pub told-split : (left some later : List TimedFrame) → left ≡ some ++ later → map Frame left ≡ map Frame some ++ map Frame later
told-split left some later is = ap (map Frame) is ∙ map-append Frame some later

pub rows-split : (left some later : List TimedFrame) → left ≡ some ++ later
    → text_of_rows (map Frame left) ≡ text_of_rows (map Frame some) ++ text_of_rows (map Frame later)
rows-split left some later is = ap text_of_rows (told-split left some later is) ∙ flat_map-append row_text (map Frame some) (map Frame later)

pub told-joined : (left some later : List TimedFrame) → left ≡ some ++ later → All IsLogRow (map Frame some) → All IsLogRow (map Frame later) → All IsLogRow (map Frame left)
told-joined left some later is first rest =
    subst (All IsLogRow) (sym (told-split left some later is)) (All-append IsLogRow (map Frame some) (map Frame later) first rest)

-- with the row of a cycle before them
pub cycle-told : (row : LogRow) (left some later : List TimedFrame) → left ≡ some ++ later
    → All IsLogRow (row ∷ map Frame some) → All IsLogRow (map Frame later) → All IsLogRow (row ∷ map Frame left)
cycle-told row left some later is first rest =
    subst (λ l. All IsLogRow (row ∷ l)) (sym (told-split left some later is)) (All-append IsLogRow (row ∷ map Frame some) (map Frame later) first rest)

-- a lone frame
pub lone-is : (frames : List TimedFrame) (d sent : TimedFrame) → length frames ≡ 1 → get_or frames 0 d ≡ sent → frames ≡ sent ∷ []
lone-is frames d sent one is =
    drop-cons frames 0 d (omega arith) ∙ ap (λ s. s ∷ drop 1 frames) is ∙ ap (λ l. sent ∷ l) (drop_all 1 frames (omega arith))

pub lone-rows : (row : LogRow) (frames : List TimedFrame) (d sent : TimedFrame) → length frames ≡ 1 → get_or frames 0 d ≡ sent
    → text_of_rows (row ∷ Frame sent ∷ []) ≡ text_of_rows (row ∷ map Frame frames)
lone-rows row frames d sent one is = ap (λ l. text_of_rows (row ∷ map Frame l)) (sym (lone-is frames d sent one is))

pub lone-told : (row : LogRow) (frames : List TimedFrame) (d sent : TimedFrame) → length frames ≡ 1 → get_or frames 0 d ≡ sent
    → All IsLogRow (row ∷ Frame sent ∷ []) → All IsLogRow (row ∷ map Frame frames)
lone-told row frames d sent one is told = subst (λ l. All IsLogRow (row ∷ map Frame l)) (sym (lone-is frames d sent one is)) told

pub ok-always : {T E P : Type 0} (result : Result T E) → P → OnOk result P
ok-always (Ok x) p = p
ok-always (Err e) p = tt

-- the parts of the row of a frame, each put before what stands
pub frame-put : (sent : TimedFrame) (row later after xs : List ℕ) → row ≡ codes "frame," ++ later → later ≡ decimal sent.start ++ after
    → after ≡ codes "," ++ (decimal sent.len ++ (codes "," ++ (hex_digits 3 sent.frame.identifier ++ (codes ","
    ++ (flat_map (hex_digits 2) sent.frame.bytes ++ (codes "\n" ++ xs))))))
    → row ≡ row_text (Frame sent) ++ xs
frame-put sent row later after xs word start rest =
    word ∙ ap (λ l. codes "frame," ++ l) (start ∙ ap (λ l. decimal sent.start ++ l) rest)
    ∙ sym (frame-text (decimal sent.start) (decimal sent.len) (hex_digits 3 sent.frame.identifier) (flat_map (hex_digits 2) sent.frame.bytes) xs)

-- rows behind others
pub all-behind : {T E : Type 0} (result : Result T E) (old between new : Option (List ℕ)) (first second : List ℕ) → Puts old between first
    → OnOk result (Puts between new second) → OnOk result (Puts old new (first ++ second))
all-behind (Ok x) old between new first second p q = Puts-append old between new first second p q
all-behind (Err e) old between new first second p q = tt

pub prefix-behind : {T E : Type 0} (result : Result T E) (old between new : Option (List ℕ)) (first second : List ℕ) → Puts old between first
    → OnErr result (PutsPrefix between new second) → OnErr result (PutsPrefix old new (first ++ second))
prefix-behind (Ok x) old between new first second p q = tt
prefix-behind (Err e) old between new first second p q = PutsPrefix-append old between new first p q

-- The rows of a cycle: one call puts its own row and those of some frames, and the next one those of the others.
module _ (row : LogRow) (first : List ℕ) (left some later : List TimedFrame) (is : left ≡ some ++ later)
    (first-is : first ≡ text_of_rows (row ∷ map Frame some)) where
  cycle-split : first ++ text_of_rows (map Frame later) ≡ text_of_rows (row ∷ map Frame left)
  cycle-split =
      ap (λ l. l ++ text_of_rows (map Frame later)) first-is ∙ append_assoc (row_text row) (text_of_rows (map Frame some)) (text_of_rows (map Frame later))
      ∙ ap (λ l. row_text row ++ l) (sym (rows-split left some later is))

  pub cycle-stopped : {old new : Option (List ℕ)} → PutsPrefix old new first → PutsPrefix old new (text_of_rows (row ∷ map Frame left))
  cycle-stopped {old = old} {new = new} p = subst (PutsPrefix old new) cycle-split (PutsPrefix-longer (text_of_rows (map Frame later)) p)

  pub cycle-all : {T E : Type 0} (result : Result T E) (old between new : Option (List ℕ)) → Puts old between first
      → OnOk result (Puts between new (text_of_rows (map Frame later))) → OnOk result (Puts old new (text_of_rows (row ∷ map Frame left)))
  cycle-all result old between new p q =
      subst (λ bytes. OnOk result (Puts old new bytes)) cycle-split (all-behind result old between new first (text_of_rows (map Frame later)) p q)

  pub cycle-prefix : {T E : Type 0} (result : Result T E) (old between new : Option (List ℕ)) → Puts old between first
      → OnErr result (PutsPrefix between new (text_of_rows (map Frame later))) → OnErr result (PutsPrefix old new (text_of_rows (row ∷ map Frame left)))
  cycle-prefix result old between new p q =
      subst (λ bytes. OnErr result (PutsPrefix old new bytes)) cycle-split (prefix-behind result old between new first (text_of_rows (map Frame later)) p q)
