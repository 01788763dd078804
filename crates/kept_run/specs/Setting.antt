-- The setting of a run.
use Rattle.std.specs.Prelude.{◌≡◌, ℕ, List}
use Rattle.cycle_layout.specs.Layout.{CycleLayout, IsLayout}
use Rattle.requirement_table.specs.Instance.{Instance}
use Rattle.admission_rules.specs.declared.Rules.{Rules}
use Rattle.async_window.specs.declared.request.Owner.{Owner}
use Rattle.async_window.specs.declared.request.Request.{Request}
use Rattle.cycle_engine.specs.Offered.{AreAsynchronous}

-- what a run stands on: the rules by which changes are judged and cycles are planned, the layout of the bus, the owners
-- of its asynchronous identifiers, the requests, and the bytes that an instance sends
pub record Setting : Type 0 where
  pub rules : Rules
  pub layout : CycleLayout
  pub owners : List Owner
  pub requests : List Request
  pub sends : Instance → List ℕ

-- what holds of it: the layout's numbers are in range, the largest synchronous window is the one within which cycles
-- are planned, the slots are those of the table, and the requests have asynchronous identifiers
pub record IsSetting (setting : Setting) : Type 0 where
  pub known : IsLayout setting.layout
  pub same_window : setting.rules.window ≡ setting.layout.window
  pub same_slots : setting.rules.slots ≡ setting.layout.slots
  pub asynchronous : AreAsynchronous setting.requests
