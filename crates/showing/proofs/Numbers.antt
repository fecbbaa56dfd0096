-- The digits of a number of four bytes: one, or those of a tenth of it and its last.
-- Assumes nothing.
use Prim.Native.Nat.{ℕ, ◌+◌, ◌/◌, ◌%◌, ◌^◌, ◌≤◌, ◌<◌}
use mathlib.Core.Path.{◌≡◌, ◌∙◌}
use mathlib.Core.List.{[], ◌∷◌, ◌++◌}
use native.Mathlib.Omega.{arith}
use borrow.Author.Tests.{lt-ltb, le-ltb}
use Rattle.decimals.specs.Decimals.{spelled}
use Rattle.decimals.proofs.Spelling.{spelled_step}

pub one-digit : (n : ℕ) → n < 10 → spelled n ≡ (48 + n) ∷ []
one-digit n h = spelled_step n (omega arith) ∙ rw (lt-ltb n 10 h)

pub more-digits : (n : ℕ) → n < 2 ^ 32 → 10 ≤ n → spelled n ≡ spelled (n / 10) ++ ((48 + n % 10) ∷ [])
more-digits n f h = spelled_step n (omega arith) ∙ rw (le-ltb n 10 h)
