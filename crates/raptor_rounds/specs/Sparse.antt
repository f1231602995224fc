-- Sets and rows that are cleared at once.
--     IsArranged items places            the items are the numbers below a bound, each at its place
--     IsElsewhereNever values written    the row has the greatest second where nothing was written
use Rattle.std.specs.Prelude.{◌≡◌, ℕ, ◌<◌, ◌-◌, ◌^◌, Bool, false, List, length, slice_index, slice_index_or}

pub record IsArranged (items places : List ℕ) : Type 0 where
  pub one_each : length items ≡ length places
  pub item_low : (i : ℕ) → i < length places → slice_index items i < length places
  pub place_low : (x : ℕ) → x < length places → slice_index places x < length places
  pub place_of : (i : ℕ) → i < length places → slice_index places (slice_index items i) ≡ i
  pub item_at : (x : ℕ) → x < length places → slice_index items (slice_index places x) ≡ x

-- a row has the greatest second where nothing was written
pub record IsElsewhereNever (values : List ℕ) (written : List Bool) : Type 0 where
  pub one_each : length written ≡ length values
  pub never : (x : ℕ) → x < length values → slice_index_or written x false ≡ false → slice_index values x ≡ 2 ^ 32 - 1
