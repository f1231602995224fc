-- The draws that a city is made from: the linear congruential stream of 64 bits with Knuth's factor, of which the upper
-- 31 bits are given.
--     next s                     the state after the state s
--     state_after number k       the state after k draws, where `number` is the first
--     draw number k              what draw k gives, counted from 0
use Rattle.std.specs.Prelude.{ℕ, zero, suc, ◌+◌, ◌*◌, ◌/◌, ◌%◌, ◌^◌}

unfoldable pub next : ℕ → ℕ
next s = (s * 6364136223846793005 + 1442695040888963407) % 2 ^ 64

unfoldable pub state_after : ℕ → ℕ → ℕ
state_after number zero = number
state_after number (suc k) = next (state_after number k)

unfoldable pub draw : ℕ → ℕ → ℕ
draw number k = state_after number (k + 1) / 2 ^ 33
