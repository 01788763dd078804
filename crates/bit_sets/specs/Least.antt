-- The least slot with a property.
use Rattle.std.specs.Prelude.{ℕ, zero, suc, Bool, if◌then◌else◌, Option, Some, None, is_some}

-- the least slot below `n` of which `p` holds
unfoldable pub least_where : ℕ → (ℕ → Bool) → Option ℕ
least_where zero p = None
least_where (suc n) p = if is_some (least_where n p) then least_where n p else (if p n then Some n else None)
