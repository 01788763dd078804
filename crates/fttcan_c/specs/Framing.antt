-- What the exports on frames refuse.
use Rattle.std.specs.Prelude.{ℕ, ◌≤◌, List, All}
use Rattle.can_frame.specs.DataFrame.{DataFrame, IsFrame}
use Rattle.cycle_layout.specs.Layout.{IsLayout}
use Rattle.c_values.specs.declared.plain.FttLayout.{FttLayout}
use Rattle.c_values.specs.declared.refusal.ExportRefusal.{ExportRefusal}
use Rattle.c_values.specs.declared.refusal.ExportRefusal.TheVariants.{Memory, Argument, Table, State, Room, Miss, Closed, Open, Text, No}
use Rattle.c_values.specs.Plain.{layout_of}

-- the frame of an identifier and data bytes
abbrev pub data_frame : ℕ → List ℕ → DataFrame
data_frame id bytes = record { identifier = id; bytes = bytes }

-- the bits of a frame are not told: there is no such frame; or there is, and there is no memory
abbrev pub RefusesWire : ℕ → List ℕ → ExportRefusal → Type 0
RefusesWire id bytes Memory = IsFrame (data_frame id bytes)
RefusesWire id bytes Argument = IsFrame (data_frame id bytes) → ⊥
RefusesWire id bytes Table = ⊥
RefusesWire id bytes State = ⊥
RefusesWire id bytes Room = ⊥
RefusesWire id bytes Miss = ⊥
RefusesWire id bytes Closed = ⊥
RefusesWire id bytes Open = ⊥
RefusesWire id bytes Text = ⊥
RefusesWire id bytes No = ⊥

-- bytes are not read as bits: one of them is none; or all are bits, and there is no memory
abbrev pub RefusesBits : List ℕ → ExportRefusal → Type 0
RefusesBits bytes Memory = All (λ byte. byte ≤ 1) bytes
RefusesBits bytes Argument = All (λ byte. byte ≤ 1) bytes → ⊥
RefusesBits bytes Table = ⊥
RefusesBits bytes State = ⊥
RefusesBits bytes Room = ⊥
RefusesBits bytes Miss = ⊥
RefusesBits bytes Closed = ⊥
RefusesBits bytes Open = ⊥
RefusesBits bytes Text = ⊥
RefusesBits bytes No = ⊥

-- a frame of so many data bytes, and a window, for which a layout is asked
pub record IsFitAsked (layout : FttLayout) (dlc window : ℕ) : Type 0 where
  pub known : IsLayout (layout_of layout)
  pub few : dlc ≤ 8
  pub window_fits : window ≤ layout.window

abbrev pub RefusesFits : FttLayout → ℕ → ℕ → Type 0
RefusesFits layout dlc window = IsFitAsked layout dlc window → ⊥
