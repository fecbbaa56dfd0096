-- What a byte other than the line feed does to a scan, column by column.
-- Assumes nothing.
use Prim.Native.Nat.{ℕ, ◌+◌, ◌*◌, ◌%◌, ◌^◌, ◌<◌, ◌≤◌}
use mathlib.Core.Path.{◌≡◌}
use mathlib.Core.Bool.{true, false}
use native.Mathlib.Omega.{arith}
use borrow.Author.Tests.{eq-eqb, ne_eqb, le-leb, lt-leb}
use Rattle.tracing.specs.Din.{is_label, is_space, is_hex, digit_of}
use Rattle.tracing.specs.Scans.{stopped, right_at, with_digit, byte_added}
use Rattle.tracing.specs.declared.Scan.{Scan}

pub label-right : (column b : ℕ) → column ≡ 0 → right_at column b ≡ is_label b
unfolding right_at
label-right column b e = rw (eq-eqb column 0 e)

pub space-right : (column b : ℕ) → column ≡ 1 → right_at column b ≡ is_space b
unfolding right_at
space-right column b e = rw (ne_eqb column 0 (λ z. omega arith), eq-eqb column 1 e)

pub digit-right : (column b : ℕ) → 1 < column → column ≤ 9 → right_at column b ≡ is_hex b
unfolding right_at
digit-right column b l h = rw (ne_eqb column 0 (λ z. omega arith), ne_eqb column 1 (λ z. omega arith), le-leb column 9 h)

pub none_right : (column b : ℕ) → 9 < column → right_at column b ≡ false
unfolding right_at
none_right column b h = rw (ne_eqb column 0 (λ z. omega arith), ne_eqb column 1 (λ z. omega arith), lt-leb column 9 h)

pub no_digit : (column address b : ℕ) → column ≤ 1 → with_digit column address b ≡ address
unfolding with_digit
no_digit column address b h = rw (le-leb column 1 h)

pub one-digit : (column address b : ℕ) → 1 < column → with_digit column address b ≡ address % 2 ^ 28 * 16 + digit_of b
unfolding with_digit
one-digit column address b h = rw (lt-leb column 1 h)

pub added : (s : Scan) (b address : ℕ) → right_at s.column b ≡ true → address ≡ with_digit s.column s.address b
    → record { column = s.column + 1; address = address; records = s.records } ≡ byte_added s b
unfolding byte_added
added s b address e a = rw (e, a)

pub not-added : (s : Scan) (b : ℕ) → right_at s.column b ≡ false → stopped s ≡ byte_added s b
unfolding byte_added
not-added s b e = rw e
